-- Descriptors with the same numbers are the same.
use Rattle.std.proofs.Common.{◌≡◌, ℕ, ◌<◌, ◌^◌, subst, refl}
use native.Mathlib.Bridge.{le_prop}
use Rattle.m386_base.specs.declared.desc.Desc.{Desc}

bounds-same : (n m : ℕ) (p q : n < m) → p ≡ q
bounds-same n m p q = le_prop p q

abbrev of_parts : (b r a f : ℕ) → r < 2 ^ 20 → f < 16 → Desc
of_parts b r a f p s = record { base = b; raw_limit = r; access = a; flags = f; limit_fits = p; flags_fit = s }

proofs-same : (b r a f : ℕ) (p q : r < 2 ^ 20) (s t : f < 16) → of_parts b r a f p s ≡ of_parts b r a f q t
proofs-same b r a f p q s t = rw (bounds-same r (2 ^ 20) p q, bounds-same f 16 s t) refl

flags-same : (b r a f g : ℕ) (p q : r < 2 ^ 20) (s : f < 16) → f ≡ g → (t : g < 16) → of_parts b r a f p s ≡ of_parts b r a g q t
flags-same b r a f g p q s e =
    let P : ℕ → Type 0 = λ h. (t : h < 16) → of_parts b r a f p s ≡ of_parts b r a h q t in
    subst P e (proofs-same b r a f p q s)

limits-same : (b r l a f g : ℕ) (p : r < 2 ^ 20) (s : f < 16) → f ≡ g → r ≡ l → (q : l < 2 ^ 20) (t : g < 16) → of_parts b r a f p s ≡ of_parts b l a g q t
limits-same b r l a f g p s e h =
    let P : ℕ → Type 0 = λ k. (q : k < 2 ^ 20) (t : g < 16) → of_parts b r a f p s ≡ of_parts b k a g q t in
    subst P h (λ q. flags-same b r a f g p q s e)

parts-same : (b c r l a z f g : ℕ) (p : r < 2 ^ 20) (s : f < 16) (q : l < 2 ^ 20) (t : g < 16) → b ≡ c → r ≡ l → a ≡ z → f ≡ g → of_parts b r a f p s ≡ of_parts c l z g q t
parts-same b c r l a z f g p s q t eb er ea ef = rw (eb, ea) (limits-same c r l z f g p s ef er q t)

pub same_desc : (d e : Desc) → d.base ≡ e.base → d.raw_limit ≡ e.raw_limit → d.access ≡ e.access → d.flags ≡ e.flags → d ≡ e
same_desc d e b r a f = parts-same d.base e.base d.raw_limit e.raw_limit d.access e.access d.flags e.flags d.limit_fits d.flags_fit e.limit_fits e.flags_fit b r a f
