-- Operands that are put behind others, and what stands at each operand of a row.
use Rattle.std.proofs.Common.{◌≡◌, ℕ, ◌-◌, ◌<◌, ◌≤◌, List, [], ◌∷◌, ◌++◌, length, take, drop, get_or, map, refl, sym, ◌∙◌, ap, arith, append-nil}
use Rattle.std.proofs.Math.Seq.{take-length}
use Rattle.std.specs.Prelude.{Option, None, Some}
use Rattle.m386_base.specs.declared.number.Width.{Width}
use Rattle.m386_opmap.specs.declared.row.Operand.{Operand}
use Rattle.m386_opmap.specs.declared.row.Row.{Row}
use Rattle.m386_opmap.specs.Operands.{plain_memory}
use Rattle.m386_words.specs.declared.name.SizeWord.{SizeWord}
use Rattle.m386_words.specs.declared.operand.Written.{Written as SeenWritten}
use Rattle.m386_words.specs.Operands.{Written}
use Rattle.m386_words.specs.Seen.{written_seen}
use Rattle.m386_lines.specs.declared.instruction.Argument.{Argument as SeenArgument}
use Rattle.m386_lines.specs.declared.matching.Slot.{Slot}
use Rattle.m386_lines.specs.declared.matching.Slot.TheVariants as slots
use Rattle.m386_lines.specs.Instructions.{Argument, Fixed, argument, matched, slot_of, with_argument}
use Rattle.m386_lines.specs.Seen.{argument_seen, behind}

-- ---- operands behind others

onto : (before : List SeenArgument) (x : SeenArgument) (more : List Argument) → map argument_seen (before ++ x ∷ []) ++ more ≡ map argument_seen before ++ argument_seen x ∷ more
onto [] x more = refl
onto (b ∷ bs) x more = ap (λ ys. argument_seen b ∷ ys) (onto bs x more)

-- one more operand stands before the others
one_more : (before : List SeenArgument) (x : SeenArgument) (rest : Option (List Argument)) → behind (before ++ x ∷ []) rest ≡ behind before (with_argument (Some (argument_seen x)) rest)
unfolding behind
one_more before x None = refl
one_more before x (Some more) = ap Some (onto before x more)

-- the same, of an operand that may be none
one_there : (before : List SeenArgument) (x : SeenArgument) (o : Option Argument) (rest : Option (List Argument)) → Some (argument_seen x) ≡ o → behind (before ++ x ∷ []) rest ≡ behind before (with_argument o rest)
one_there before x o rest h = one_more before x rest ∙ ap (λ z. behind before (with_argument z rest)) h

-- an operand that doesn't fit
none_there : (before : List SeenArgument) (o : Option Argument) (rest : Option (List Argument)) → None ≡ o → None ≡ behind before (with_argument o rest)
unfolding behind
none_there before None rest h = refl
none_there before (Some x) rest h = cc

-- ---- what stands at an operand of a row

-- the operands from one of the row's on, by what stands there
abbrev by_slot : Slot → Row → Width → (Operand → Option SizeWord) → Operand → List Operand → List Written → Option (List Argument)
by_slot slots.Left r w size p ps os = matched r w size ps os
by_slot (slots.Read b) r w size p ps os = with_argument (Some (Fixed (plain_memory None (Some b) 0))) (matched r w size ps os)
by_slot slots.Taken r w size p ps [] = None
by_slot slots.Taken r w size p ps (o ∷ more) = with_argument (argument r w (size p) p o) (matched r w size ps more)

by_cases : (s : Slot) (r : Row) (w : Width) (size : Operand → Option SizeWord) (p : Operand) (ps : List Operand) (os : List Written) →
    by_slot s r w size p ps os ≡ elim s [
      | slots.Left ↦ matched r w size ps os
      | slots.Read b ↦ with_argument (Some (Fixed (plain_memory None (Some b) 0))) (matched r w size ps os)
      | slots.Taken ↦ elim os [ [] ↦ None | o ∷ more ↦ with_argument (argument r w (size p) p o) (matched r w size ps more) ]
    ]
by_cases slots.Left r w size p ps os = refl
by_cases (slots.Read b) r w size p ps os = refl
by_cases slots.Taken r w size p ps [] = refl
by_cases slots.Taken r w size p ps (o ∷ more) = refl

by_first : (s : Slot) (r : Row) (w : Width) (size : Operand → Option SizeWord) (p : Operand) (ps : List Operand) (os : List Written) → s ≡ slot_of p → by_slot s r w size p ps os ≡ matched r w size (p ∷ ps) os
unfolding matched
by_first s r w size p ps os h = ap (λ t. by_slot t r w size p ps os) h ∙ by_cases (slot_of p) r w size p ps os

-- what stands behind the first of a list
behind_first : {A : Type 0} (x : A) (xs : List A) → take (length (x ∷ xs) - 1) (drop 1 (x ∷ xs)) ≡ xs
behind_first x xs = let q : length (x ∷ xs) - 1 ≡ length xs = omega arith in rw q (take-length xs)

-- memory that isn't written
pub read_there : (before : List SeenArgument) (x : SeenArgument) (b : ℕ) (r : Row) (w : Width) (size : Operand → Option SizeWord) (ps : List Operand) (d : Operand) (os : List Written) → 1 ≤ length ps → slots.Read b ≡ slot_of (get_or ps 0 d) →
    argument_seen x ≡ Fixed (plain_memory None (Some b) 0) → behind (before ++ x ∷ []) (matched r w size (take (length ps - 1) (drop 1 ps)) os) ≡ behind before (matched r w size ps os)
read_there before x b r w size [] d os n h e = absurd (omega (arith, n))
read_there before x b r w size (p ∷ ps) d os n h e =
    ap (λ qs. behind (before ++ x ∷ []) (matched r w size qs os)) (behind_first p ps)
    ∙ one_there before x (Some (Fixed (plain_memory None (Some b) 0))) (matched r w size ps os) (ap Some e)
    ∙ ap (λ z. behind before z) (by_first (slots.Read b) r w size p ps os h)

-- an operand that is written
pub taken_there : (before : List SeenArgument) (x : SeenArgument) (r : Row) (w : Width) (size : Operand → Option SizeWord) (ps : List Operand) (d : Operand) (os : List SeenWritten) (e : SeenWritten) → 1 ≤ length ps → 1 ≤ length os →
    slots.Taken ≡ slot_of (get_or ps 0 d) → Some (argument_seen x) ≡ argument r w (size (get_or ps 0 d)) (get_or ps 0 d) (written_seen (get_or os 0 e)) →
    behind (before ++ x ∷ []) (matched r w size (take (length ps - 1) (drop 1 ps)) (map written_seen (take (length os - 1) (drop 1 os)))) ≡ behind before (matched r w size ps (map written_seen os))
taken_there before x r w size [] d os e n m h g = absurd (omega (arith, n))
taken_there before x r w size (p ∷ ps) d [] e n m h g = absurd (omega (arith, m))
taken_there before x r w size (p ∷ ps) d (o ∷ os) e n m h g =
    ap (λ qs. behind (before ++ x ∷ []) (matched r w size qs (map written_seen (take (length (o ∷ os) - 1) (drop 1 (o ∷ os)))))) (behind_first p ps)
    ∙ ap (λ us. behind (before ++ x ∷ []) (matched r w size ps (map written_seen us))) (behind_first o os)
    ∙ one_there before x (argument r w (size p) p (written_seen o)) (matched r w size ps (map written_seen os)) g
    ∙ ap (λ z. behind before z) (by_first slots.Taken r w size p ps (map written_seen (o ∷ os)) h)

-- one that doesn't fit
pub unfit_there : (before : List SeenArgument) (r : Row) (w : Width) (size : Operand → Option SizeWord) (ps : List Operand) (d : Operand) (os : List SeenWritten) (e : SeenWritten) → 1 ≤ length ps → 1 ≤ length os →
    slots.Taken ≡ slot_of (get_or ps 0 d) → None ≡ argument r w (size (get_or ps 0 d)) (get_or ps 0 d) (written_seen (get_or os 0 e)) → None ≡ behind before (matched r w size ps (map written_seen os))
unfit_there before r w size [] d os e n m h g = absurd (omega (arith, n))
unfit_there before r w size (p ∷ ps) d [] e n m h g = absurd (omega (arith, m))
unfit_there before r w size (p ∷ ps) d (o ∷ os) e n m h g =
    none_there before (argument r w (size p) p (written_seen o)) (matched r w size ps (map written_seen os)) g
    ∙ ap (λ z. behind before z) (by_first slots.Taken r w size p ps (map written_seen (o ∷ os)) h)

-- none that is written, where one has to be
pub none_written : (before : List SeenArgument) (r : Row) (w : Width) (size : Operand → Option SizeWord) (ps : List Operand) (d : Operand) (os : List SeenWritten) → 1 ≤ length ps → slots.Taken ≡ slot_of (get_or ps 0 d) → length os < 1 →
    None ≡ behind before (matched r w size ps (map written_seen os))
unfolding behind
none_written before r w size [] d os n h m = absurd (omega (arith, n))
none_written before r w size (p ∷ ps) d (o ∷ os) n h m = absurd (omega (arith, m))
none_written before r w size (p ∷ ps) d [] n h m = ap (λ z. behind before z) (by_first slots.Taken r w size p ps [] h)

-- the end of a row's operands, and of those that are written
pub all_there : (before : List SeenArgument) (r : Row) (w : Width) (size : Operand → Option SizeWord) (ps : List Operand) (os : List SeenWritten) → length ps < 1 → length os < 1 →
    Some (map argument_seen before) ≡ behind before (matched r w size ps (map written_seen os))
unfolding behind matched
all_there before r w size [] [] n m = ap Some (sym (append-nil (map argument_seen before)))
all_there before r w size (p ∷ ps) os n m = absurd (omega (arith, n))
all_there before r w size [] (o ∷ os) n m = absurd (omega (arith, m))

-- one that is written behind the row's
pub too_many : (before : List SeenArgument) (r : Row) (w : Width) (size : Operand → Option SizeWord) (ps : List Operand) (os : List SeenWritten) → length ps < 1 → 1 ≤ length os →
    None ≡ behind before (matched r w size ps (map written_seen os))
unfolding behind matched
too_many before r w size [] (o ∷ os) n m = refl
too_many before r w size (p ∷ ps) os n m = absurd (omega (arith, n))
too_many before r w size [] [] n m = absurd (omega (arith, m))

-- none stand before
pub none_before : (rest : Option (List Argument)) → behind [] rest ≡ rest
unfolding behind
none_before None = refl
none_before (Some more) = refl

pub ruleset matched_rules = (read_there, taken_there, unfit_there, none_written, all_there, too_many)
