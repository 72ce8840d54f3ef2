-- The fields of the table, each two apart and each inside, by computing each.
use Rattle.std.proofs.Common.{◌≡◌, ℕ, ◌+◌, ◌<◌, ◌≤◌, ◌⊎◌, inl, inr, Bool, true, false, ◌||◌, nat_le, eqb, arith, refl, slice_index_or}
use Rattle.std.proofs.lemmas.Bool.{eqb-true}
use Rattle.m386_base.proofs.Finite.{all_below, each_below}
use Rattle.m386_tss.specs.declared.fields.Field.{Field}
use Rattle.m386_tss.specs.Fields.{field, field_table, field_at, EndsBefore, IsInside}

-- the field at this place of the table
at : ℕ → Field → Field
at i d = slice_index_or field_table i d

le-true : (n m : ℕ) → nat_le n m ≡ true → n ≤ m
le-true n m h = grind (arith, h)

pub apart : (i j : ℕ) (d : Field) → i < j → j < 27 → EndsBefore (slice_index_or field_table i d) (slice_index_or field_table j d)
unfolding all_below at
apart i j d h k =
    let test : ℕ → ℕ → Bool = λ j i. nat_le ((at i d).offset + (at i d).len) (at j d).offset in
    le-true _ _ (each_below j (test j) (each_below 27 (λ j. all_below j (test j)) refl j k) i h)

pub inside : (i : ℕ) (d : Field) → i < 27 → IsInside (slice_index_or field_table i d)
unfolding all_below at
inside i d h = le-true _ _ (each_below 27 (λ i. nat_le ((at i d).offset + (at i d).len) 104) refl i h)

pub field_at-number : (i : ℕ) → i < 27 → (field_at i).number ≡ i
unfolding all_below field_at
field_at-number i h = eqb-true _ _ (each_below 27 (λ i. eqb (field_at i).number i) refl i h)

pub field_at-inside : (i : ℕ) → i < 27 → (field_at i).offset + (field_at i).len ≤ 104
unfolding field_at
field_at-inside i h = inside i (field 0 0 0) h

either-true : (n : ℕ) → eqb n 2 || eqb n 4 ≡ true → (n ≡ 2) ⊎ (n ≡ 4)
either-true n h = go (eqb n 2) refl h
  where
    go : (b : Bool) → eqb n 2 ≡ b → b || eqb n 4 ≡ true → (n ≡ 2) ⊎ (n ≡ 4)
    go true e f = inl (eqb-true _ _ e)
    go false e f = inr (eqb-true _ _ f)

pub field_at-len : (i : ℕ) → i < 27 → ((field_at i).len ≡ 2) ⊎ ((field_at i).len ≡ 4)
unfolding all_below field_at
field_at-len i h = either-true _ (each_below 27 (λ i. eqb (field_at i).len 2 || eqb (field_at i).len 4) refl i h)
