-- What no candidate comes before is the shortest spelling of all.
use Rattle.std.proofs.Common.{◌≡◌, ℕ, ◌<◌, ◌≤◌, Bool, true, false, cond, List, get_or, length, refl, sym, ◌∙◌, ap, arith, subst}
use Rattle.std.specs.Prelude.{Option, Some, None, ◌==◌, ◌↔◌}
use Rattle.std.proofs.lemmas.List.Elements.{at_from_Contains}
use Rattle.arrayvec.specs.ArrayVec.{ArrayVec}
use Rattle.m386_opmap.specs.declared.fields.Fields.{Fields}
use Rattle.m386_opmap.specs.declared.op.Op.{Op}
use Rattle.m386_opmap.specs.declared.row.Row.{Row}
use Rattle.m386_opmap.specs.Opcodes.{opcode_rows}
use Rattle.m386_opmap.specs.Operands.{operation}
use Rattle.m386_opmap.specs.Spelling.{Spells}
use Rattle.m386_encode.specs.Order.{is_before}
use Rattle.m386_encode.specs.Shortest.{IsShortest, IsSound, IsReached, IsMet, no_row}
use Rattle.m386_encode.proofs.Ordered.{not_before_trans, not_longer}
use Rattle.m386_encode.proofs.Places.{mode_for, displacement_size}
use Rattle.m386_encode.proofs.Reduced.{reduced_alike}

mode_by : (a b : Bool) → cond a 0 (cond b 1 2) < 3
mode_by true b = omega arith
mode_by false true = omega arith
mode_by false false = omega arith

name_is : (r : Row) (f : Fields) (tail : List ℕ) → (operation r f tail).name ≡ r.name
unfolding operation
name_is r f tail = refl

-- the row of a spelling has the operation's name
pub row_named : (op : Op) (bytes : List ℕ) (s : Spells op bytes) → s.row.name ≡ op.name
row_named op bytes s = sym (ap (λ (x : Op). x.name) s.spelled ∙ name_is s.row _ s.tail)

-- what comes not before bytes that are reached is reached
pub reached_too : (best : Option (ArrayVec ℕ)) (bytes other : List ℕ) → is_before bytes other ≡ false → IsReached best other → IsReached best bytes
reached_too None bytes other h r = r
reached_too (Some b) bytes other h r = not_before_trans bytes other b.items h r

module _ (op : Op) (best : Option (ArrayVec ℕ)) (met : (i : ℕ) → i < length opcode_rows → (get_or opcode_rows i no_row).name ≡ op.name → IsMet op best (get_or opcode_rows i no_row)) where
  -- each spelling is reached
  pub all_reached : (bytes : List ℕ) → Spells op bytes → IsReached best bytes
  all_reached bytes s =
      let less = reduced_alike op bytes s in
      let at = at_from_Contains opcode_rows s.row s.listed in
      let is : get_or opcode_rows at.0 no_row ≡ s.row = at.2 no_row in
      let M : Row → Type 0 = λ x. IsMet op best x in
      let row : IsMet op best s.row = subst M is (met at.0 at.1 (ap (λ (x : Row). x.name) is ∙ row_named op bytes s)) in
      reached_too best bytes _ less.first (row.met _ (mode_for (displacement_size s.modrm)) (mode_by (displacement_size s.modrm == 0) (displacement_size s.modrm == 1)) less.short less.spells)

pub shortest_by : (op : Op) (best : Option (ArrayVec ℕ)) → IsSound op best → ((bytes : List ℕ) → Spells op bytes → IsReached best bytes) → (bytes : ArrayVec ℕ) → best ≡ Some bytes → IsShortest op bytes.items
shortest_by op None sound all bytes e = cc
shortest_by op (Some b) sound all bytes e =
    let is : b ≡ bytes = cc in
    let P : ArrayVec ℕ → Type 0 = λ x. IsShortest op x.items in
    subst P is (record { spells = sound.spells; first = all })

pub none_by : (op : Op) (best : Option (ArrayVec ℕ)) → IsSound op best → ((bytes : List ℕ) → Spells op bytes → IsReached best bytes) → (best ≡ None) ↔ ((bytes : List ℕ) → Spells op bytes → ⊥)
none_by op None sound all = (λ e. all, λ f. refl)
none_by op (Some b) sound all = (λ e. cc, λ f. absurd (f b.items sound.spells))

-- The shortest spelling has at most 15 bytes, since a candidate that has is no shorter.
pub shortest_is_short : (op : Op) (bytes : List ℕ) → IsShortest op bytes → length bytes ≤ 15
shortest_is_short op bytes s =
    let less = reduced_alike op bytes s.spells in
    let h = not_longer _ bytes (s.first _ less.spells.spells) in
    omega (arith, h, less.short)
