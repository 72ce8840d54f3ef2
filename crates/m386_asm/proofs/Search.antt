-- The first of all strings of bytes that have a property which can be decided.
use Rattle.std.proofs.Common.{◌≡◌, ℕ, zero, suc, ◌<◌, ◌≤◌, ◌⊎◌, inl, inr, nat_lt, false, List, [], ◌∷◌, length, refl, sym, ◌∙◌, arith, subst}
use Rattle.std.proofs.lemmas.Bool.{cases_Bool, ltb-true, ltb-false}
use Rattle.std.proofs.lemmas.Bool.Decides.{nat_tests}
use Rattle.std.proofs.lemmas.List.Elements.{All-nil, All-cons, All-head, All-tail}
use Rattle.m386_encode.specs.Order.{is_less, is_before}
use Rattle.m386_encode.proofs.Ordered.{not_before, not_before_longer, not_before_trans}
use Rattle.m386_opmap.proofs.Sound.{AllAreBytes}

-- it holds, or it doesn't
abbrev pub Decided : Type 0 → Type 0
Decided A = A ⊎ (A → ⊥)

-- ---- the least byte

shorter_or : (m n : ℕ) → m < suc n → (m < n) ⊎ (m ≡ n)
shorter_or m n h = elim (cases_Bool (nat_lt m n)) [ inl e ↦ inl (ltb-true m n e) | inr e ↦ (let k = ltb-false m n e in inr (omega (arith, h, k))) ]

record LeastByte (n : ℕ) (P : ℕ → Type 0) : Type 0 where
  pub byte : ℕ
  pub small : byte < n
  pub holds : P byte
  pub least : (other : ℕ) → other < byte → P other → ⊥

abbrev NoByte : ℕ → (ℕ → Type 0) → Type 0
NoByte n P = (b : ℕ) → b < n → P b → ⊥

last_byte : (n : ℕ) (P : ℕ → Type 0) → Decided (P n) → NoByte n P → LeastByte (suc n) P ⊎ NoByte (suc n) P
last_byte n P (inl p) none = inl (record { byte = n; small = omega arith; holds = p; least = none })
last_byte n P (inr f) none = inr (λ b h p. elim (shorter_or b n h) [ inl k ↦ none b k p | inr e ↦ f (subst P e p) ])

least_byte : (n : ℕ) (P : ℕ → Type 0) → ((b : ℕ) → Decided (P b)) → LeastByte n P ⊎ NoByte n P
least_byte zero P d = inr (λ b h p. absurd (omega (arith, h)))
least_byte (suc n) P d =
    elim (least_byte n P d) [
      | inl l ↦ inl (record { byte = l.byte; small = omega (arith, l.small); holds = l.holds; least = l.least })
      | inr none ↦ last_byte n P (d n) none
    ]

-- ---- the least string of so many bytes

record LeastString (n : ℕ) (P : List ℕ → Type 0) : Type 0 where
  pub bytes : List ℕ
  pub size : length bytes ≡ n
  pub are : AllAreBytes bytes
  pub holds : P bytes
  pub least : (other : List ℕ) → length other ≡ n → AllAreBytes other → P other → is_less other bytes ≡ false

abbrev NoString : ℕ → (List ℕ → Type 0) → Type 0
NoString n P = (bytes : List ℕ) → length bytes ≡ n → AllAreBytes bytes → P bytes → ⊥

is_empty : (bytes : List ℕ) → length bytes ≡ 0 → [] ≡ bytes
is_empty [] h = refl
is_empty (b ∷ bs) h = absurd (omega (arith, h))

begins : (n : ℕ) (bytes : List ℕ) → length bytes ≡ suc n → (b : ℕ) × ((bs : List ℕ) × (b ∷ bs ≡ bytes))
begins n [] h = absurd (omega (arith, h))
begins n (b ∷ bs) h = (b, (bs, refl))

not_below : (b c : ℕ) → (c < b → ⊥) → b ≤ c
not_below b c f = elim (cases_Bool (nat_lt c b)) [ inl e ↦ absurd (f (ltb-true c b e)) | inr e ↦ ltb-false c b e ]

less_by : (b c : ℕ) (bs cs : List ℕ) → (c ≡ b → is_less cs bs ≡ false) → b ≤ c → is_less (c ∷ cs) (b ∷ bs) ≡ false
unfolding is_less
less_by b c bs cs f h = grind (arith, nat_tests, f)

module _ (n : ℕ) (P : List ℕ → Type 0) (each : (b : ℕ) → LeastString n (λ bs. P (b ∷ bs)) ⊎ NoString n (λ bs. P (b ∷ bs))) where
  abbrev Begun : ℕ → Type 0
  Begun b = LeastString n (λ bs. P (b ∷ bs))

  begun : (b : ℕ) → Decided (Begun b)
  begun b = elim (each b) [ inl l ↦ inl l | inr none ↦ inr (λ l. none l.bytes l.size l.are l.holds) ]

  has_begun : (b : ℕ) (bs : List ℕ) → length bs ≡ n → AllAreBytes bs → P (b ∷ bs) → (Begun b → ⊥) → ⊥
  has_begun b bs h are p f = elim (each b) [ inl l ↦ f l | inr none ↦ none bs h are p ]

  byte_least : (l : LeastByte 256 Begun) (c : ℕ) (cs : List ℕ) → length cs ≡ n → AllAreBytes cs → P (c ∷ cs) → l.byte ≤ c
  byte_least l c cs h are p = not_below l.byte c (λ k. has_begun c cs h are p (l.least c k))

  rest_least : (l : LeastByte 256 Begun) (c : ℕ) (cs : List ℕ) → length cs ≡ n → AllAreBytes cs → P (c ∷ cs) → c ≡ l.byte → is_less cs l.holds.bytes ≡ false
  rest_least l c cs h are p e = (let Q : ℕ → Type 0 = λ b. P (b ∷ cs) in l.holds.least cs h are (subst Q e p))

  least_of : (l : LeastByte 256 Begun) (other : List ℕ) → length other ≡ suc n → AllAreBytes other → P other → is_less other (l.byte ∷ l.holds.bytes) ≡ false
  least_of l [] h are p = absurd (omega (arith, h))
  least_of l (c ∷ cs) h are p =
      let size : length cs ≡ n = omega (arith, h) in
      let rest : AllAreBytes cs = All-tail (λ b. b < 256) c cs are in
      less_by l.byte c l.holds.bytes cs (rest_least l c cs size rest p) (byte_least l c cs size rest p)

  longer : LeastString (suc n) P ⊎ NoString (suc n) P
  longer =
      elim (least_byte 256 Begun begun) [
        | inl l ↦ inl (record { bytes = l.byte ∷ l.holds.bytes; size = omega (arith, l.holds.size); are = All-cons (λ b. b < 256) l.byte l.holds.bytes l.small l.holds.are; holds = l.holds.holds; least = least_of l })
        | inr none ↦ inr (none_longer none)
      ]
    where
      none_longer : NoByte 256 Begun → NoString (suc n) P
      none_longer none [] h are p = absurd (omega (arith, h))
      none_longer none (b ∷ bs) h are p = has_begun b bs (omega (arith, h)) (All-tail (λ b. b < 256) b bs are) p (none b (All-head (λ b. b < 256) b bs are))

least_string : (n : ℕ) (P : List ℕ → Type 0) → ((bytes : List ℕ) → Decided (P bytes)) → LeastString n P ⊎ NoString n P
unfolding is_less
least_string zero P d =
    elim (d []) [
      | inl p ↦ inl (record { bytes = []; size = refl; are = All-nil (λ b. b < 256); holds = p; least = λ other h are q. none_less other h })
      | inr f ↦ inr (λ bytes h are p. (let Q : List ℕ → Type 0 = P in f (subst Q (sym (is_empty bytes h)) p)))
    ]
  where
    none_less : (other : List ℕ) → length other ≡ 0 → is_less other [] ≡ false
    none_less [] h = refl
    none_less (b ∷ bs) h = refl
least_string (suc n) P d = longer n P (λ b. least_string n (λ bs. P (b ∷ bs)) (λ bs. d (b ∷ bs)))

-- ---- the first of all that are shorter than a number

record FirstBelow (n : ℕ) (P : List ℕ → Type 0) : Type 0 where
  pub bytes : List ℕ
  pub holds : P bytes
  pub short : length bytes < n
  pub first : (other : List ℕ) → length other < n → AllAreBytes other → P other → is_before other bytes ≡ false

abbrev NoneBelow : ℕ → (List ℕ → Type 0) → Type 0
NoneBelow n P = (bytes : List ℕ) → length bytes < n → AllAreBytes bytes → P bytes → ⊥

with_longer : (n : ℕ) (P : List ℕ → Type 0) → FirstBelow n P → FirstBelow (suc n) P
with_longer n P f =
    record {
      bytes = f.bytes;
      holds = f.holds;
      short = omega (arith, f.short);
      first = λ other h are p.
          elim (shorter_or (length other) n h) [ inl k ↦ f.first other k are p | inr e ↦ not_before_longer other f.bytes (omega (arith, e, f.short)) ];
    }

of_length : (n : ℕ) (P : List ℕ → Type 0) → NoneBelow n P → LeastString n P → FirstBelow (suc n) P
of_length n P none l =
    record {
      bytes = l.bytes;
      holds = l.holds;
      short = omega (arith, l.size);
      first = λ other h are p.
          elim (shorter_or (length other) n h) [ inl k ↦ absurd (none other k are p) | inr e ↦ not_before other l.bytes (e ∙ sym l.size) (l.least other e are p) ];
    }

none_of_length : (n : ℕ) (P : List ℕ → Type 0) → NoneBelow n P → NoString n P → NoneBelow (suc n) P
none_of_length n P none absent bytes h are p = elim (shorter_or (length bytes) n h) [ inl k ↦ none bytes k are p | inr e ↦ absent bytes e are p ]

first_below : (n : ℕ) (P : List ℕ → Type 0) → ((bytes : List ℕ) → Decided (P bytes)) → FirstBelow n P ⊎ NoneBelow n P
first_below zero P d = inr (λ bytes h are p. absurd (omega (arith, h)))
first_below (suc n) P d =
    elim (first_below n P d) [
      | inl f ↦ inl (with_longer n P f)
      | inr none ↦ elim (least_string n P d) [ inl l ↦ inl (of_length n P none l) | inr absent ↦ inr (none_of_length n P none absent) ]
    ]

-- ---- the first of all

-- it has the property, and nothing with the property comes before it
pub record First (P : List ℕ → Type 0) : Type 0 where
  pub bytes : List ℕ
  pub holds : P bytes
  pub first : (other : List ℕ) → P other → is_before other bytes ≡ false

-- something short with the property comes not after it
pub record Shortened (P : List ℕ → Type 0) (bytes : List ℕ) : Type 0 where
  pub short : List ℕ
  pub holds : P short
  pub few : length short ≤ 15
  pub are : AllAreBytes short
  pub not_after : is_before bytes short ≡ false

-- Where each is shortened there is a first, or none.
pub first_of : (P : List ℕ → Type 0) → ((bytes : List ℕ) → Decided (P bytes)) → ((bytes : List ℕ) → P bytes → Shortened P bytes) → First P ⊎ ((bytes : List ℕ) → P bytes → ⊥)
first_of P d shortened =
    elim (first_below 16 P d) [
      | inl f ↦ inl (record { bytes = f.bytes; holds = f.holds; first = λ other p. (let s = shortened other p in not_before_trans other s.short f.bytes s.not_after (f.first s.short (omega (arith, s.few)) s.are s.holds)) })
      | inr none ↦ inr (λ bytes p. (let s = shortened bytes p in none s.short (omega (arith, s.few)) s.are s.holds))
    ]
