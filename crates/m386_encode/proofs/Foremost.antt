-- The prefixes of an operation come not after others that say as much.
use Rattle.std.proofs.Common.{◌≡◌, ℕ, zero, suc, ◌+◌, ◌<◌, ◌≤◌, ◌⊎◌, inl, inr, Bool, true, false, cond, List, [], ◌∷◌, ◌++◌, refl, arith, subst}
use Rattle.std.specs.Prelude.{Option, Some, None, ◌==◌, unwrap_or}
use Rattle.std.specs.List.{list_any}
use Rattle.std.proofs.lemmas.Bool.{or_left, or_right}
use Rattle.m386_opmap.specs.declared.op.Rep.{Rep}
use Rattle.m386_opmap.specs.declared.op.Rep.TheVariants.{Once, Equal, NotEqual}
use Rattle.m386_opmap.specs.Prefix.{prefixes_of, last_of, later, segment_named, rep_named}
use Rattle.m386_encode.specs.Candidates.{segment_prefix, rep_prefix, byte_if}
use Rattle.m386_encode.specs.Order.{is_before}
use Rattle.m386_encode.proofs.Least.{Within, AllWithin, AscendsFrom, rising_first}
use Rattle.m386_encode.proofs.Marks.{marks, IsSegment}

-- rising, from a number on and below another
abbrev Between : ℕ → ℕ → List ℕ → Type 0
Between from to [] = from ≤ to
Between from to (x ∷ xs) = (from ≤ x) × Between (x + 1) to xs

rises : (from to : ℕ) (xs : List ℕ) → Between from to xs → AscendsFrom from xs
rises from to [] b = tt
rises from to (x ∷ xs) b = (b.0, rises (x + 1) to xs b.1)

from_less : (from mid to : ℕ) (xs : List ℕ) → from ≤ mid → Between mid to xs → Between from to xs
from_less from mid to [] h b = omega arith
from_less from mid to (x ∷ xs) h b = (omega (arith, b.0), b.1)

between_append : (from mid to : ℕ) (xs ys : List ℕ) → Between from mid xs → Between mid to ys → Between from to (xs ++ ys)
between_append from mid to [] ys a b = from_less from mid to ys a b
between_append from mid to (x ∷ xs) ys a b = (a.0, between_append (x + 1) mid to xs ys a.1 b)

segment_between : (seg : Option ℕ) → IsSegment seg → Between 0 0x66 (segment_prefix seg)
segment_between None h = omega arith
segment_between (Some zero) h = (omega arith, omega arith)
segment_between (Some (suc zero)) h = (omega arith, omega arith)
segment_between (Some (suc (suc zero))) h = (omega arith, omega arith)
segment_between (Some (suc (suc (suc zero)))) h = (omega arith, omega arith)
segment_between (Some (suc (suc (suc (suc zero))))) h = (omega arith, omega arith)
segment_between (Some (suc (suc (suc (suc (suc zero)))))) h = (omega arith, omega arith)
segment_between (Some (suc (suc (suc (suc (suc (suc n))))))) h = absurd (omega arith)

byte_between : (wanted : Bool) (from b to : ℕ) → from ≤ b → b < to → Between from to (byte_if wanted b)
byte_between true from b to h k = (h, omega arith)
byte_between false from b to h k = omega arith

rep_between : (rep : Rep) → Between 0xf1 0xf4 (rep_prefix rep)
rep_between Once = omega arith
rep_between Equal = (omega arith, omega arith)
rep_between NotEqual = (omega arith, omega arith)

marks_rise : (seg : Option ℕ) (narrow lock : Bool) (rep : Rep) → IsSegment seg → AscendsFrom 0 (marks seg narrow lock rep)
marks_rise seg narrow lock rep h =
    rises 0 0xf4 (marks seg narrow lock rep)
    (between_append 0 0xf1 0xf4 _ (rep_prefix rep)
    (between_append 0 0x67 0xf1 _ (byte_if lock 0xf0)
    (between_append 0 0x66 0x67 (segment_prefix seg) (byte_if narrow 0x66) (segment_between seg h) (byte_between narrow 0x66 0x66 0x67 (omega arith) (omega arith)))
    (byte_between lock 0x67 0xf0 0xf1 (omega arith) (omega arith)))
    (rep_between rep))

within_append : (xs ys bs : List ℕ) → AllWithin xs bs → AllWithin ys bs → AllWithin (xs ++ ys) bs
within_append [] ys bs a b = b
within_append (x ∷ xs) ys bs a b = (a.0, within_append xs ys bs a.1 b)

within_more : (xs : List ℕ) (b : ℕ) (bs : List ℕ) → AllWithin xs bs → AllWithin xs (b ∷ bs)
within_more [] b bs a = tt
within_more (x ∷ xs) b bs a = (or_right (b == x) (list_any (λ c. c == x) bs) a.0, within_more xs b bs a.1)

within_if : (wanted : Bool) (b : ℕ) (bs : List ℕ) → (wanted ≡ true → Within b bs) → AllWithin (byte_if wanted b) bs
within_if true b bs f = (f refl, tt)
within_if false b bs f = tt

only : (x b : ℕ) (bs : List ℕ) → (b == x) ≡ true → AllWithin (x ∷ []) (b ∷ bs)
only x b bs e = (or_left (b == x) (list_any (λ c. c == x) bs) e, tt)

last_by : {X : Type 0} (first last : Option X) (x : X) → later first last ≡ Some x → (last ≡ Some x) ⊎ (first ≡ Some x)
last_by first None x e = inr e
last_by first (Some y) x e = inl e

-- where a byte that names it brings what a name wants, so do bytes of which the last that names anything names it
last_within : {X : Type 0} (named : ℕ → Option X) (wants : X → List ℕ) → ((b : ℕ) (bs : List ℕ) (x : X) → named b ≡ Some x → AllWithin (wants x) (b ∷ bs)) → (bs : List ℕ) (x : X) → last_of named bs ≡ Some x →
    AllWithin (wants x) bs
last_within named wants brings [] x e = cc
last_within named wants brings (b ∷ bs) x e =
    elim (last_by (named b) (last_of named bs) x e) [ inl l ↦ within_more (wants x) b bs (last_within named wants brings bs x l) | inr f ↦ brings b bs x f ]

segment_by : (p q r s t u : Bool) (b : ℕ) (bs : List ℕ) (n : ℕ) → (b == 0x26) ≡ p → (b == 0x2e) ≡ q → (b == 0x36) ≡ r → (b == 0x3e) ≡ s → (b == 0x64) ≡ t → (b == 0x65) ≡ u →
    cond p (Some 0) (cond q (Some 1) (cond r (Some 2) (cond s (Some 3) (cond t (Some 4) (cond u (Some 5) None))))) ≡ Some n → AllWithin (segment_prefix (Some n)) (b ∷ bs)
segment_by true q r s t u b bs n hp hq hr hs ht hu e = let P : ℕ → Type 0 = λ m. AllWithin (segment_prefix (Some m)) (b ∷ bs) in let i : 0 ≡ n = cc in subst P i (only 0x26 b bs hp)
segment_by false true r s t u b bs n hp hq hr hs ht hu e = let P : ℕ → Type 0 = λ m. AllWithin (segment_prefix (Some m)) (b ∷ bs) in let i : 1 ≡ n = cc in subst P i (only 0x2e b bs hq)
segment_by false false true s t u b bs n hp hq hr hs ht hu e = let P : ℕ → Type 0 = λ m. AllWithin (segment_prefix (Some m)) (b ∷ bs) in let i : 2 ≡ n = cc in subst P i (only 0x36 b bs hr)
segment_by false false false true t u b bs n hp hq hr hs ht hu e = let P : ℕ → Type 0 = λ m. AllWithin (segment_prefix (Some m)) (b ∷ bs) in let i : 3 ≡ n = cc in subst P i (only 0x3e b bs hs)
segment_by false false false false true u b bs n hp hq hr hs ht hu e = let P : ℕ → Type 0 = λ m. AllWithin (segment_prefix (Some m)) (b ∷ bs) in let i : 4 ≡ n = cc in subst P i (only 0x64 b bs ht)
segment_by false false false false false true b bs n hp hq hr hs ht hu e = let P : ℕ → Type 0 = λ m. AllWithin (segment_prefix (Some m)) (b ∷ bs) in let i : 5 ≡ n = cc in subst P i (only 0x65 b bs hu)
segment_by false false false false false false b bs n hp hq hr hs ht hu e = cc

segment_brings : (b : ℕ) (bs : List ℕ) (n : ℕ) → segment_named b ≡ Some n → AllWithin (segment_prefix (Some n)) (b ∷ bs)
segment_brings b bs n e = segment_by (b == 0x26) (b == 0x2e) (b == 0x36) (b == 0x3e) (b == 0x64) (b == 0x65) b bs n refl refl refl refl refl refl e

rep_by : (p q : Bool) (b : ℕ) (bs : List ℕ) (x : Rep) → (b == 0xf3) ≡ p → (b == 0xf2) ≡ q → cond p (Some Equal) (cond q (Some NotEqual) None) ≡ Some x → AllWithin (rep_prefix x) (b ∷ bs)
rep_by true q b bs x hp hq e = let P : Rep → Type 0 = λ y. AllWithin (rep_prefix y) (b ∷ bs) in let i : Equal ≡ x = cc in subst P i (only 0xf3 b bs hp)
rep_by false true b bs x hp hq e = let P : Rep → Type 0 = λ y. AllWithin (rep_prefix y) (b ∷ bs) in let i : NotEqual ≡ x = cc in subst P i (only 0xf2 b bs hq)
rep_by false false b bs x hp hq e = cc

rep_brings : (b : ℕ) (bs : List ℕ) (x : Rep) → rep_named b ≡ Some x → AllWithin (rep_prefix x) (b ∷ bs)
rep_brings b bs x e = rep_by (b == 0xf3) (b == 0xf2) b bs x refl refl e

segment_found : (bs : List ℕ) (o : Option ℕ) → last_of segment_named bs ≡ o → AllWithin (segment_prefix o) bs
segment_found bs None e = tt
segment_found bs (Some n) e = last_within segment_named (λ m. segment_prefix (Some m)) segment_brings bs n e

rep_found : (string : Bool) (bs : List ℕ) (o : Option Rep) → last_of rep_named bs ≡ o → AllWithin (rep_prefix (cond string (unwrap_or o Once) Once)) bs
rep_found false bs o e = tt
rep_found true bs None e = tt
rep_found true bs (Some x) e = last_within rep_named rep_prefix rep_brings bs x e

-- the prefix of the segment register that prefixes name is one of them
pub segment_stands : (ps : List ℕ) → AllWithin (segment_prefix (prefixes_of ps).seg) ps
unfolding prefixes_of
segment_stands ps = segment_found ps (last_of segment_named ps) refl

-- prefixes that say as much come not before those of the operation
pub marks_first : (ps : List ℕ) (seg : Option ℕ) (string : Bool) → IsSegment seg → AllWithin (segment_prefix seg) ps →
    is_before ps (marks seg (prefixes_of ps).narrow (prefixes_of ps).lock (cond string (prefixes_of ps).rep Once)) ≡ false
unfolding prefixes_of
marks_first ps seg string h w =
    let narrow : Bool = list_any (λ b. b == 0x66) ps in
    let lock : Bool = list_any (λ b. b == 0xf0) ps in
    let rep : Rep = cond string (unwrap_or (last_of rep_named ps) Once) Once in
    rising_first 0 (marks seg narrow lock rep) ps (marks_rise seg narrow lock rep h)
    (within_append _ (rep_prefix rep) ps
    (within_append _ (byte_if lock 0xf0) ps
    (within_append (segment_prefix seg) (byte_if narrow 0x66) ps w (within_if narrow 0x66 ps (λ e. e)))
    (within_if lock 0xf0 ps (λ e. e)))
    (rep_found string ps (last_of rep_named ps) refl))
