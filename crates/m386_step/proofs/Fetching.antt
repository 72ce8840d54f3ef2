-- Bytes that were fetched, one after another.
use Rattle.std.proofs.Common.{◌≡◌, ℕ, ◌/◌, ◌%◌, ◌^◌, ◌*◌, ◌<◌, List, [], ◌∷◌, refl, cond, Bool, true, false, ◌&&◌, ◌==◌, ◌-◌, nat_lt, arith, subst}
use Rattle.std.proofs.lemmas.List.Elements.{All-nil, All-cons}
use Rattle.m386_base.specs.declared.ask.Ask.{Ask}
use Rattle.m386_base.specs.Bus.{BusView}
use Rattle.m386_base.specs.Phrase.{Phrase, Done, Faults, Asks, Begins, ◌>>=◌, follow, Whole, Wrong, Completes, matches, answer_of, one}
use Rattle.m386_opmap.proofs.Sound.{AllAreBytes}
use Rattle.m386_step.specs.declared.fetch.Reader.{Reader}
use Rattle.m386_step.specs.Fetch.{byte_phrase, group_phrase, byte_of_value, linear, taken, fetch_ask}
use Rattle.m386_step.specs.Fetched.{Fetched, Gives}

-- one byte
pub gives_one : (r s : Reader) (u v : BusView) (b : ℕ) → Completes (byte_phrase r) u v (b, s) → Gives r u (b ∷ []) s v
unfolding Fetched
gives_one r s u v b h = record { added = h.added; cycles = h.cycles; fetched = λ rest. (s, rest, h.whole rest, (refl, refl)); same = h.same }

-- whatever is answered, what a phrase finds is so
abbrev Finds : {A : Type 0} → (A → Type 0) → Phrase A → Type 0
Finds P (Done a) = P a
Finds P (Faults f) = Unit {0}
Finds P (Begins m t) = Finds P t
Finds P (Asks q k) = (v : ℕ) → Finds P (k v)

found_is : {A : Type 0} (P : A → Type 0) (t : Phrase A) (a : A) (ts rest : List Ask) → Finds P t → follow t ts ≡ Whole a rest → P a
unfolding follow
found_is P (Done b) a ts rest h e = let i : b ≡ a = cc in subst P i h
found_is P (Faults f) a ts rest h e = cc
found_is P (Begins m t) a ts rest h e = found_is P t a ts rest h e
found_is P (Asks q k) a [] rest h e = cc
found_is {A = A} P (Asks q k) a (t ∷ ts) rest h e = go (matches q t) refl (found_is P (k (answer_of t)) a ts rest (h (answer_of t)))
  where
    go : (b : Bool) → matches q t ≡ b → (follow (k (answer_of t)) ts ≡ Whole a rest → P a) → P a
    go true f ih = ih (rw f at e)
    go false f ih = let d : Wrong ≡ Whole a rest = rw f at e in cc

finds_if : {A : Type 0} (P : A → Type 0) (b : Bool) (t u : Phrase A) → Finds P t → Finds P u → Finds P (cond b t u)
finds_if P true t u h k = h
finds_if P false t u h k = k

abbrev FindsByte : ℕ × Reader → Type 0
FindsByte x = x.0 < 256

byte_below : (value at : ℕ) → byte_of_value value at < 256
byte_below value at = below (value / 2 ^ (8 * (at % 4)))
  where
    below : (n : ℕ) → n % 256 < 256
    below n = omega arith

finds_byte : (r : Reader) → Finds FindsByte (byte_phrase r)
unfolding byte_phrase group_phrase ◌>>=◌
finds_byte r =
    let group = linear r - linear r % 4 in
    let fetched = λ (v : ℕ). taken (record r { fetched = true; group = group; value = v }) in
    finds_if FindsByte (nat_lt r.limit r.at) _ _ tt
    (finds_if FindsByte (r.fetched && (r.group == group)) (Done (taken r)) (one (fetch_ask group) >>= (λ v. Done (fetched v))) (byte_below r.value (linear r)) (λ v. byte_below v (linear r)))

-- they are bytes
pub fetched_bytes : (bytes : List ℕ) (r s : Reader) (ts rest : List Ask) → Fetched r bytes s ts rest → AllAreBytes bytes
unfolding Fetched
fetched_bytes [] r s ts rest h = All-nil (λ b. b < 256)
fetched_bytes (b ∷ bytes) r s ts rest h =
    All-cons (λ x. x < 256) b bytes (found_is FindsByte (byte_phrase r) (b, h.0) ts h.1 (finds_byte r) h.2) (fetched_bytes bytes h.0 s h.1 rest h.3)

-- where no byte was fetched, no cycle was made
pub fetched_none : (bytes : List ℕ) (r s : Reader) (ts rest : List Ask) → bytes ≡ [] → Fetched r bytes s ts rest → rest ≡ ts
unfolding Fetched
fetched_none [] r s ts rest e h = h.1
fetched_none (b ∷ bytes) r s ts rest e h = cc
