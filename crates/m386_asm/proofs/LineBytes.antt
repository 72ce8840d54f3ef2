-- Each line has bytes.
use Rattle.std.proofs.Common.{◌≡◌, ℕ, ◌+◌, inl, inr, Bool, true, false, List, [], ◌∷◌, map, length, refl, subst, ◌||◌}
use Rattle.std.specs.Prelude.{slice_index}
use Rattle.std.specs.List.{list_any}
use Rattle.std.proofs.lemmas.Bool.{cases_Bool, both_ways}
use Rattle.m386_opmap.specs.declared.op.Op.{Op}
use Rattle.m386_opmap.specs.Prefix.{is_prefix, prefixes_of}
use Rattle.m386_opmap.specs.Spelling.{Spells}
use Rattle.m386_encode.specs.Candidates.{candidate}
use Rattle.m386_encode.proofs.Ordered.{before_self}
use Rattle.m386_encode.proofs.Reduced.{reduced_alike, reduced_wide}
use Rattle.m386_encode.proofs.WideCandidate.{wide_candidate}
use Rattle.m386_encode.proofs.WideChosen.{four_bytes}
use Rattle.m386_lines.specs.Instructions.{Argument, Fixed, Immediate, Target, Far, At, Instruction}
use Rattle.m386_lines.specs.Lines.{Nothing, Assign, Direct, Operate}
use Rattle.m386_asm.specs.Layout.{Names, Makes, IsSpelling, IsSpelledBy, directive_bytes, arg_at, op_at, is_target, has_target, is_named}
use Rattle.m386_asm.specs.Laws.{LinesHaveBytes}
use Rattle.m386_asm.proofs.Decisions.{spells_decided, by_either, both_decided}
use Rattle.m386_asm.proofs.Search.{Decided, Shortened, first_of}
use Rattle.m386_asm.proofs.Spellings.{wide_decided, bare_size}

-- ---- the operation

pub either_false : (a b : Bool) → a || b ≡ false → (a ≡ false) × (b ≡ false)
either_false true b h = cc
either_false false true h = cc
either_false false false h = (refl, refl)

argument_stays : (ns : Names) (end other : ℕ) (a : Argument) → is_target a ≡ false → arg_at ns end a ≡ arg_at ns other a
argument_stays ns end other (Fixed x) h = refl
argument_stays ns end other (Immediate w e) h = refl
argument_stays ns end other (Target e) h = cc
argument_stays ns end other (Far s o) h = refl
argument_stays ns end other (At p) h = refl

arguments_stay : (ns : Names) (end other : ℕ) (xs : List Argument) → list_any is_target xs ≡ false → map (arg_at ns end) xs ≡ map (arg_at ns other) xs
arguments_stay ns end other [] h = refl
arguments_stay ns end other (x ∷ xs) h =
    let p = either_false (is_target x) (list_any is_target xs) h in
    rw (argument_stays ns end other x p.0, arguments_stay ns end other xs p.1) refl

-- without a target the operation is the same from each place on
pub operation_stays : (ns : Names) (end other : ℕ) (i : Instruction) → has_target i ≡ false → op_at ns end i ≡ op_at ns other i
operation_stays ns end other i h = rw (arguments_stay ns end other i.args h) refl

-- ---- its spellings

spelled_decided : (full : Bool) (op : Op) (bytes : List ℕ) → Decided (IsSpelledBy full op bytes)
spelled_decided true op bytes = wide_decided op bytes
spelled_decided false op bytes = spells_decided op bytes

pub spelled_spells : (full : Bool) (op : Op) (bytes : List ℕ) → IsSpelledBy full op bytes → Spells op bytes
spelled_spells true op bytes w = w.spells
spelled_spells false op bytes s = s

bare_decided : (target prefix : Bool) → Decided (target ≡ true → prefix ≡ false)
bare_decided true true = inr (λ f. (let e : true ≡ false = f refl in cc))
bare_decided true false = inl (λ e. refl)
bare_decided false prefix = inl (λ e. cc)

spelling_decided : (ns : Names) (place : ℕ) (i : Instruction) (bytes : List ℕ) → Decided (IsSpelling ns place i bytes)
spelling_decided ns place i bytes =
    by_either (λ p. record { spelled = p.0; bare = p.1 }) (λ s. (s.spelled, s.bare))
    (both_decided (spelled_decided (is_named i) (op_at ns (place + length bytes) i) bytes) (bare_decided (has_target i) (is_prefix (slice_index bytes 0))))

spelled_shortened : (full : Bool) (op : Op) (bytes : List ℕ) → IsSpelledBy full op bytes → Shortened (λ x. IsSpelledBy full op x) bytes
spelled_shortened true op bytes w =
    let s = w.spells in
    let less = reduced_wide op bytes s (four_bytes s.form w.displaced) in
    let again : Spells op (candidate op s.row (prefixes_of s.prefixes).narrow 2) = less.spells.spells in
    record { short = candidate op s.row (prefixes_of s.prefixes).narrow 2; holds = wide_candidate op s.row (prefixes_of s.prefixes).narrow s.listed w.full again; few = less.short; are = again.are_bytes; not_after = less.first }
spelled_shortened false op bytes s =
    let less = reduced_alike op bytes s in
    record { short = _; holds = less.spells.spells; few = less.short; are = less.spells.spells.are_bytes; not_after = less.first }

module _ (ns : Names) (place : ℕ) (i : Instruction) (bytes : List ℕ) (s : IsSpelling ns place i bytes) where
  abbrev op : Op
  op = op_at ns (place + length bytes) i

  with_target : has_target i ≡ true → Shortened (IsSpelling ns place i) bytes
  with_target t =
      let spells = spelled_spells (is_named i) op bytes s.spelled in
      record { short = bytes; holds = s; few = bare_size op bytes spells (s.bare t); are = spells.are_bytes; not_after = before_self bytes }

  without_target : has_target i ≡ false → Shortened (IsSpelling ns place i) bytes
  without_target f =
      let less = spelled_shortened (is_named i) op bytes s.spelled in
      let P : Op → Type 0 = λ o. IsSpelledBy (is_named i) o less.short in
      record {
        short = less.short;
        holds = record { spelled = subst P (operation_stays ns (place + length bytes) (place + length less.short) i f) less.holds; bare = λ t. absurd (both_ways (has_target i) f t) };
        few = less.few;
        are = less.are;
        not_after = less.not_after;
      }

  shortened : Shortened (IsSpelling ns place i) bytes
  shortened = elim (cases_Bool (has_target i)) [ inl t ↦ with_target t | inr f ↦ without_target f ]

-- ---- the law

operation_has_bytes : (ns : Names) (place : ℕ) (i : Instruction) → (bytes : List ℕ) × Makes ns place (Operate i) bytes
operation_has_bytes ns place i =
    elim (first_of (IsSpelling ns place i) (spelling_decided ns place i) (shortened ns place i)) [
      | inl f ↦ (f.bytes, inl (record { spelling = f.holds; first = f.first }))
      | inr none ↦ (0 ∷ 0 ∷ [], inr (none, refl))
    ]

pub lines_have_bytes : LinesHaveBytes
lines_have_bytes ns place Nothing = ([], refl)
lines_have_bytes ns place (Assign w n) = ([], refl)
lines_have_bytes ns place (Direct d) = (directive_bytes ns d, refl)
lines_have_bytes ns place (Operate i) = operation_has_bytes ns place i
