-- The bytes of an instruction rise, so that none of their groups comes twice.
use Rattle.std.proofs.Common.{◌≡◌, ◌≢◌, inl, inr, ℕ, zero, suc, ◌+◌, ◌++◌, ◌-◌, ◌%◌, ◌<◌, ◌≤◌, ◌^◌, List, [], ◌∷◌, refl, sym, ◌∙◌, ap, arith, cond, Bool, true, false, eq-eqb, nat_lt, ◌&&◌, ◌==◌}
use Rattle.std.specs.List.{Contains}
use Rattle.std.proofs.lemmas.Bool.{and_parts, eqb-true}
use Rattle.m386_base.specs.Phrase.{Phrase, Done, Faults, ◌>>=◌, one}
use Rattle.m386_base.proofs.Bounds.{obeys_then}
use Rattle.m386_decode.specs.declared.decoded.Decoded.{Decoded}
use Rattle.m386_opmap.specs.declared.outcome.Reading.{Reading}
use Rattle.m386_opmap.specs.declared.outcome.Reading.TheVariants.{Spelled, More, Refused}
use Rattle.m386_opmap.specs.Readings.{reading_of}
use Rattle.m386_base.proofs.Members.{contains_cases}
use Rattle.m386_step.specs.declared.fetch.Reader.{Reader}
use Rattle.m386_step.specs.Code.{read_on, further_phrase, decode_phrase}
use Rattle.m386_base.specs.Exceptions.{general_protection_of}
use Rattle.m386_step.specs.Fetch.{byte_phrase, group_phrase, linear, taken, fetch_ask}
use Rattle.m386_step.specs.Once.{is_fetch, IsAnew, with_fetched}
use Rattle.m386_step.proofs.Anew.{Once, AnyGroups, matches-fetch, matches-addr}

-- the group of a byte, by its number
abbrev group_at : ℕ → ℕ → ℕ
group_at start k = (start + k) % 2 ^ 32 - (start + k) % 2 ^ 32 % 4

-- Of 15 bytes in a row, none before the first of a group is in that group.
groups_differ : (start j k : ℕ) → j ≤ k → suc k < 15 → group_at start k ≢ group_at start (suc k) → group_at start j ≢ group_at start (suc k)
groups_differ start j k l m n = λ e. omega arith

-- the linear address of the next byte
linear_next : (base at : ℕ) → (base + (at + 1) % 2 ^ 32) % 2 ^ 32 ≡ ((base + at) % 2 ^ 32 + 1) % 2 ^ 32
linear_next base at = omega arith

linear_moved : (start k : ℕ) → ((start + k) % 2 ^ 32 + 1) % 2 ^ 32 ≡ (start + suc k) % 2 ^ 32
linear_moved start k = omega arith

-- each of these groups is the group of a byte before byte k
abbrev AreOfBytes : ℕ → ℕ → List ℕ → Type 0
AreOfBytes start k groups = (g : ℕ) → Contains groups g → (j : ℕ) × (j < k) × (g ≡ group_at start j)

-- with the group of byte k they are those of bytes before the one behind it
with_group : (start k : ℕ) (groups : List ℕ) → AreOfBytes start k groups → AreOfBytes start (suc k) (group_at start k ∷ groups)
with_group start k groups c g d = elim (contains_cases (group_at start k) groups g d) [
  | inl e ↦ (k, omega arith, sym e)
  | inr i ↦ (let w = c g i in let b : w.0 < k = w.1 in (w.0, omega arith, w.2))
]

-- and so they are without it
without_group : (start k : ℕ) (groups : List ℕ) → AreOfBytes start k groups → AreOfBytes start (suc k) groups
without_group start k groups c g d = let w = c g d in let b : w.0 < k = w.1 in (w.0, omega arith, w.2)

-- A reader that has taken k bytes from a linear address on: the groups that it has fetched are those of some of these bytes,
-- and the last one is that of the last byte.
record HasRead (start k : ℕ) (groups : List ℕ) (r : Reader) : Type 0 where
  pub next : linear r ≡ (start + k) % 2 ^ 32
  pub last : (j : ℕ) → k ≡ suc j → (r.fetched ≡ true) × (r.group ≡ group_at start j)
  pub each : AreOfBytes start k groups

-- one more byte, of the group that was fetched last
read_more : (start k : ℕ) (groups : List ℕ) (r : Reader) → linear r ≡ (start + k) % 2 ^ 32 → r.fetched ≡ true → r.group ≡ group_at start k → AreOfBytes start (suc k) groups → HasRead start (suc k) groups (taken r).1
read_more start k groups r n f g c = record {
  next = linear_next r.base r.at ∙ ap (λ a. (a + 1) % 2 ^ 32) n ∙ linear_moved start k;
  last = λ j e. let i : k ≡ j = omega arith in (f, g ∙ ap (group_at start) i);
  each = c;
}

-- A group that isn't the one fetched last is none of those before: byte k is the first of it.
anew_group : (start k : ℕ) (groups : List ℕ) (r : Reader) → k < 15 → HasRead start k groups r → r.fetched && (r.group == group_at start k) ≡ false → ¬ (Contains groups (group_at start k))
anew_group start zero groups r l h e c = let w = h.each _ c in absurd (let b : w.0 < zero = w.1 in omega arith)
anew_group start (suc k) groups r l h e c =
    let w = h.each _ c in
    let last = h.last k refl in
    let other : group_at start k ≢ group_at start (suc k) = λ i. (let t : r.fetched && (r.group == group_at start (suc k)) ≡ true = rw (last.0, last.1, i) (eq-eqb _ _ refl) in cc) in
    let b : w.0 < suc k = w.1 in
    groups_differ start w.0 k (omega arith) l other (sym w.2)

-- what a reader finds
abbrev Reads : ℕ → ℕ → List ℕ → ℕ × Reader → Type 0
Reads start k later b = HasRead start k later b.1

-- the next byte, inside the limit
once_group : (start k : ℕ) (groups : List ℕ) (r : Reader) → k < 15 → HasRead start k groups r → Once (Reads start (suc k)) groups (group_phrase r)
unfolding group_phrase ◌>>=◌
once_group start k groups r l h = go (r.fetched && (r.group == linear r - linear r % 4)) refl
  where
    same : linear r - linear r % 4 ≡ group_at start k
    same = ap (λ a. a - a % 4) h.next

    go : (b : Bool) → r.fetched && (r.group == linear r - linear r % 4) ≡ b → Once (Reads start (suc k)) groups (cond b (Done (taken r)) (one (fetch_ask (linear r - linear r % 4)) >>= (λ v. Done (taken (record r { fetched = true; group = linear r - linear r % 4; value = v })))))
    go true e =
        let p = and_parts _ _ e in
        read_more start k groups r h.next p.0 (eqb-true _ _ p.1 ∙ same) (without_group start k groups h.each)
    go false e = λ t m.
        let f : is_fetch t ≡ true = matches-fetch _ t m in
        let a : group_at start k ≡ t.addr = sym same ∙ matches-addr _ t m in
        let w : with_fetched groups t ≡ group_at start k ∷ groups = rw (f, a) refl in
        (λ _. rw (← a) (anew_group start k groups r l h (rw (← same) e)), rw w (read_more start k (group_at start k ∷ groups) _ h.next refl same (with_group start k groups h.each)))

-- the next byte
once_byte : (start k : ℕ) (groups : List ℕ) (r : Reader) → k < 15 → HasRead start k groups r → Once (Reads start (suc k)) groups (byte_phrase r)
unfolding byte_phrase
once_byte start k groups r l h = go (nat_lt r.limit r.at)
  where
    go : (b : Bool) → Once (Reads start (suc k)) groups (cond b (Faults general_protection_of) (group_phrase r))
    go true = tt
    go false = once_group start k groups r l h

once_read_on : (groups : List ℕ) (x : Reading) (more : Phrase Decoded) → Once AnyGroups groups more → Once AnyGroups groups (read_on x more)
once_read_on groups (Spelled op len) more h = tt
once_read_on groups (Refused at) more h = tt
once_read_on groups More more h = h

-- what is spelled from byte k on
once_further : (start k left : ℕ) (bytes groups : List ℕ) (r : Reader) → k + left ≡ 15 → HasRead start k groups r → Once AnyGroups groups (further_phrase left bytes r)
unfolding further_phrase
once_further start k zero bytes groups r e h = tt
once_further start k (suc left) bytes groups r e h =
    obeys_then IsAnew with_fetched (Reads start (suc k)) AnyGroups AnyGroups groups (byte_phrase r) _ (once_byte start k groups r (omega arith) h) (λ later b i. once_read_on later (reading_of (bytes ++ b.0 ∷ [])) _ (once_further start (suc k) left (bytes ++ b.0 ∷ []) later b.1 (omega arith) i))

-- nothing was read
reads_none : (r : Reader) → HasRead (r.base + r.at) 0 [] r
reads_none r = record {
  next = let e : r.base + r.at ≡ r.base + r.at + 0 = omega arith in ap (λ n. n % 2 ^ 32) e;
  last = λ j e. absurd (omega arith);
  each = λ g c. let b : c.0 < 0 = c.1 in absurd (omega arith);
}

-- decoding
pub once_decode : (r : Reader) → Once AnyGroups [] (decode_phrase r)
unfolding decode_phrase
once_decode r = once_further (r.base + r.at) 0 15 [] [] r refl (reads_none r)
