-- What no wide candidate comes before is the shortest wide spelling of all.
use Rattle.std.proofs.Common.{◌≡◌, ℕ, ◌<◌, ◌≤◌, ◌⊎◌, inl, inr, Bool, true, List, get_or, length, refl, arith, sym, ◌∙◌, subst}
use Rattle.std.specs.Prelude.{Option, Some, None, ◌↔◌}
use Rattle.std.specs.List.{Contains}
use Rattle.std.proofs.lemmas.List.Elements.{at_from_Contains}
use Rattle.arrayvec.specs.ArrayVec.{ArrayVec}
use Rattle.m386_opmap.specs.declared.op.Arg.{Arg}
use Rattle.m386_opmap.specs.declared.op.Op.{Op}
use Rattle.m386_opmap.specs.declared.row.Row.{Row}
use Rattle.m386_opmap.specs.Forms.{Form, absent, register, based, indexed}
use Rattle.m386_opmap.specs.Opcodes.{opcode_rows}
use Rattle.m386_opmap.specs.Operands.{is_memory}
use Rattle.m386_opmap.specs.Spelling.{Spells}
use Rattle.m386_encode.specs.Shortest.{IsSound, IsReached, IsCandidate, no_row}
use Rattle.m386_encode.specs.Wide.{is_full, HasWholeDisplacement, IsWide, IsShortestWide, IsWideSound, IsMetWide, IsOffered}
use Rattle.m386_encode.proofs.Chosen.{row_named, reached_too}
use Rattle.m386_encode.proofs.Ordered.{not_longer}
use Rattle.m386_encode.proofs.Places.{displacement_size, size_based, size_indexed}
use Rattle.m386_encode.proofs.Reduced.{reduced_wide}
use Rattle.m386_encode.proofs.WideCandidate.{wide_candidate}
use Rattle.m386_encode.proofs.Widened.{widened}

candidate_sound : (op : Op) (row : Row) (narrow : Bool) (result : Option (ArrayVec ℕ)) → Contains opcode_rows row → is_full row ≡ true → IsSound op result → IsCandidate op row narrow 2 result → IsWideSound op result
candidate_sound op row narrow None listed full sound is = tt
candidate_sound op row narrow (Some best) listed full sound is =
    let S : List ℕ → Type 0 = λ x. Spells op x in
    let W : List ℕ → Type 0 = λ x. IsWide op x in
    subst W (sym is) (wide_candidate op row narrow listed full (subst S is sound.spells))

-- what is chosen of a wide spelling and a candidate of a full row is wide
pub sound_wide : (op : Op) (row : Row) (narrow : Bool) (best result : Option (ArrayVec ℕ)) → Contains opcode_rows row → is_full row ≡ true → IsWideSound op best → IsSound op result →
    (result ≡ best) ⊎ IsCandidate op row narrow 2 result → IsWideSound op result
sound_wide op row narrow best result listed full wide sound (inl e) = let W : Option (ArrayVec ℕ) → Type 0 = λ x. IsWideSound op x in subst W (sym e) wide
sound_wide op row narrow best result listed full wide sound (inr is) = candidate_sound op row narrow result listed full sound is

-- a whole displacement has four bytes
pub four_bytes : {seg : Option ℕ} {modrm : List ℕ} {mid : ℕ} {place : Option Arg} → (form : Form seg modrm mid place) → HasWholeDisplacement form → is_memory place ≡ true → displacement_size modrm ≡ 4
four_bytes absent h m = cc
four_bytes (register n t) h m = cc
four_bytes (based n ds t k l) h m = size_based n ds t k ∙ h
four_bytes (indexed n s ds t k l) h m = size_indexed n s ds t k ∙ h

module _ (op : Op) (best : Option (ArrayVec ℕ)) (met : (i : ℕ) → i < length opcode_rows → IsOffered op (get_or opcode_rows i no_row) → IsMetWide op best (get_or opcode_rows i no_row)) where
  -- each wide spelling is reached
  pub wide_reached : (bytes : List ℕ) → IsWide op bytes → IsReached best bytes
  wide_reached bytes w =
      let s = w.spells in
      let less = reduced_wide op bytes s (four_bytes s.form w.displaced) in
      let at = at_from_Contains opcode_rows s.row s.listed in
      let is : get_or opcode_rows at.0 no_row ≡ s.row = at.2 no_row in
      let M : Row → Type 0 = λ x. IsMetWide op best x in
      let O : Row → Type 0 = λ x. IsOffered op x in
      let offered : IsOffered op s.row = record { named = row_named op bytes s; full = w.full } in
      let row : IsMetWide op best s.row = subst M is (met at.0 at.1 (subst O (sym is) offered)) in
      reached_too best bytes _ less.first (row.met _ less.short less.spells)

pub shortest_wide_by : (op : Op) (best : Option (ArrayVec ℕ)) → IsWideSound op best → ((bytes : List ℕ) → IsWide op bytes → IsReached best bytes) → (bytes : ArrayVec ℕ) → best ≡ Some bytes → IsShortestWide op bytes.items
shortest_wide_by op None sound all bytes e = cc
shortest_wide_by op (Some b) sound all bytes e =
    let is : b ≡ bytes = cc in
    let P : ArrayVec ℕ → Type 0 = λ x. IsShortestWide op x.items in
    subst P is (record { wide = sound; first = all })

-- where nothing is reached there is no spelling, since each brings a wide one
pub none_wide_by : (op : Op) (best : Option (ArrayVec ℕ)) → IsWideSound op best → ((bytes : List ℕ) → IsWide op bytes → IsReached best bytes) → (best ≡ None) ↔ ((bytes : List ℕ) → Spells op bytes → ⊥)
none_wide_by op None sound all = (λ e bytes s. let w = widened op bytes s in all w.bytes w.wide, λ f. refl)
none_wide_by op (Some b) sound all = (λ e. cc, λ f. absurd (f b.items sound.spells))

-- The shortest wide spelling has at most 15 bytes, since a wide candidate that has is no shorter.
pub wide_is_short : (op : Op) (bytes : List ℕ) → IsShortestWide op bytes → length bytes ≤ 15
wide_is_short op bytes s =
    let w = s.wide in
    let less = reduced_wide op bytes w.spells (four_bytes w.spells.form w.displaced) in
    let h = not_longer _ bytes (s.first _ (wide_candidate op w.spells.row _ w.spells.listed w.full less.spells.spells)) in
    omega (arith, h, less.short)
