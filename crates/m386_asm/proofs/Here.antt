-- The shortest spelling of an instruction without a target is the first from each place on.
use Rattle.std.proofs.Common.{◌≡◌, ℕ, ◌+◌, true, false, List, [], ◌∷◌, map, length, refl, ap, subst}
use Rattle.std.specs.Prelude.{slice_index}
use Rattle.std.specs.List.{list_any}
use Rattle.std.proofs.lemmas.Bool.{or_parts, both_ways}
use Rattle.m386_opmap.specs.declared.op.Arg.{Arg}
use Rattle.m386_opmap.specs.declared.op.Op.{Op}
use Rattle.m386_opmap.specs.Prefix.{is_prefix}
use Rattle.m386_opmap.specs.Spelling.{Spells}
use Rattle.m386_encode.specs.Shortest.{IsShortest}
use Rattle.m386_encode.specs.Wide.{IsShortestWide}
use Rattle.m386_lines.specs.Instructions.{Argument, Fixed, Immediate, Target, Far, At, Instruction}
use Rattle.m386_asm.specs.Layout.{Names, arg_at, is_target, has_target, is_named, op_at, IsSpelledBy, IsSpelling, IsFirstSpelling, IsOutOfReach}
use Rattle.m386_asm.proofs.FirstJumps.{spells_by, wide_by, spelled_by, unnamed_by}

same_arg : (ns : Names) (m n : ℕ) (a : Argument) → is_target a ≡ false → arg_at ns m a ≡ arg_at ns n a
same_arg ns m n (Fixed a) h = refl
same_arg ns m n (Immediate w e) h = refl
same_arg ns m n (Target e) h = cc
same_arg ns m n (Far s o) h = refl
same_arg ns m n (At p) h = refl

same_args : (ns : Names) (m n : ℕ) (as_ : List Argument) → list_any is_target as_ ≡ false → map (arg_at ns m) as_ ≡ map (arg_at ns n) as_
same_args ns m n [] h = refl
same_args ns m n (a ∷ as_) h =
    let p = or_parts (is_target a) (list_any is_target as_) h in
    rw (same_arg ns m n a p.0, same_args ns m n as_ p.1) refl

module _ (ns : Names) (place : ℕ) (i : Instruction) (here : has_target i ≡ false) where
  -- wherever it ends, it is the same operation
  pub same_op : (m n : ℕ) → op_at ns m i ≡ op_at ns n i
  same_op m n =
      let P : List Arg → Op = λ items. record { name = i.name; width = i.width; args = record { items = items }; lock = i.lock; rep = i.rep } in
      ap P (same_args ns m n i.args here)

  no_target : (bytes : List ℕ) → has_target i ≡ true → is_prefix (slice_index bytes 0) ≡ false
  no_target bytes t = absurd (both_ways (has_target i) here t)

  spelled_here : (bytes : List ℕ) → IsSpelling ns place i bytes → IsSpelledBy (is_named i) (op_at ns place i) bytes
  spelled_here bytes s = let P : Op → Type 0 = λ x. IsSpelledBy (is_named i) x bytes in subst P (same_op (place + length bytes) place) s.spelled

  spelling_here : (bytes : List ℕ) → IsSpelledBy (is_named i) (op_at ns place i) bytes → IsSpelling ns place i bytes
  spelling_here bytes s =
      let P : Op → Type 0 = λ x. IsSpelledBy (is_named i) x bytes in
      record { spelled = subst P (same_op place (place + length bytes)) s; bare = no_target bytes }

  pub first_wide : (bytes : List ℕ) → is_named i ≡ true → IsShortestWide (op_at ns place i) bytes → IsFirstSpelling ns place i bytes
  first_wide bytes e s =
      record {
        spelling = spelling_here bytes (spelled_by (is_named i) (op_at ns place i) bytes s.wide);
        first = λ other o. s.first other (wide_by (is_named i) (op_at ns place i) other e (spelled_here other o));
      }

  pub first_short : (bytes : List ℕ) → is_named i ≡ false → IsShortest (op_at ns place i) bytes → IsFirstSpelling ns place i bytes
  first_short bytes e s =
      record {
        spelling = spelling_here bytes (unnamed_by (is_named i) (op_at ns place i) bytes e s.spells);
        first = λ other o. s.first other (spells_by (is_named i) (op_at ns place i) other (spelled_here other o));
      }

  pub none_here : ((bytes : List ℕ) → Spells (op_at ns place i) bytes → ⊥) → IsOutOfReach ns place i
  none_here none other o = none other (spells_by (is_named i) (op_at ns place i) other (spelled_here other o))
