-- The groups of an access hold each of its bytes once, at its own place.
use Rattle.std.proofs.Common.{arith, ◌≡◌, ℕ, zero, suc, ◌+◌, ◌-◌, ◌%◌, ◌<◌, inl, inr, refl, sym, subst, List, [], ◌∷◌, nat_le, if◌then◌else◌, eqb, map, Bool, true, false}
use Rattle.std.specs.List.{IsDistinct, flat_map}
use Rattle.std.proofs.lemmas.Bool.{ne_eqb}
use Rattle.m386_base.specs.declared.split.Piece.{Piece}
use Rattle.m386_base.specs.declared.ask.Space.{Space}
use Rattle.m386_base.specs.declared.ask.Space.TheVariants.{Memory, Port}
use Rattle.m386_base.specs.Split.{wrapped, ones_at, pieces, IsLength, access_bytes, lanes, piece_bytes, IsAccess}
use Rattle.m386_base.proofs.Groups.{groups_of}

-- what holds of each length of an access
pub each_length : (P : ℕ → Type 0) → P 1 → P 2 → P 4 → (len : ℕ) → IsLength len → P len
each_length P p q r len (inl e) = subst P (sym e) p
each_length P p q r len (inr (inl e)) = subst P (sym e) q
each_length P p q r len (inr (inr e)) = subst P (sym e) r

-- the groups of an access whose first byte stands there, by its place in its group
abbrev pub pieces_at : Space → ℕ → ℕ → ℕ → List Piece
pieces_at space first at len =
    if nat_le (at + len) 4 then record { addr = first - at; enables = ones_at at len; place = 0 } ∷ []
    else record { addr = first - at; enables = ones_at at (4 - at); place = 0 }
    ∷ record { addr = wrapped space (first - at + 4); enables = ones_at 0 (at + len - 4); place = 4 - at } ∷ []

-- a byte of the first group
near : (space : Space) (addr first at k l : ℕ) → first ≡ wrapped space addr → first % 4 ≡ at → at + k ≡ l → l < 4 → first - at + l ≡ wrapped space (addr + k)
near Memory addr first at k l e h s b = omega arith
near Port addr first at k l e h s b = omega arith

-- a byte of the second group
far : (space : Space) (addr first at k l : ℕ) → first ≡ wrapped space addr → first % 4 ≡ at → at + k ≡ 4 + l → l < 4 → wrapped space (first - at + 4) + l ≡ wrapped space (addr + k)
far Memory addr first at k l e h s b = omega arith
far Port addr first at k l e h s b = omega arith

-- the bytes of an access that stand at these places
abbrev one_byte : ℕ → List (ℕ × ℕ)
one_byte a = (0, a) ∷ []

abbrev two_bytes : ℕ → ℕ → List (ℕ × ℕ)
two_bytes a b = (0, a) ∷ (1, b) ∷ []

abbrev four_bytes : ℕ → ℕ → ℕ → ℕ → List (ℕ × ℕ)
four_bytes a b c d = (0, a) ∷ (1, b) ∷ (2, c) ∷ (3, d) ∷ []

same_1 : (a w : ℕ) → a ≡ w → one_byte a ≡ one_byte w
same_1 a w p = rw p refl

same_2 : (a b w x : ℕ) → a ≡ w → b ≡ x → two_bytes a b ≡ two_bytes w x
same_2 a b w x p q = rw (p, q) refl

same_4 : (a b c d w x y z : ℕ) → a ≡ w → b ≡ x → c ≡ y → d ≡ z → four_bytes a b c d ≡ four_bytes w x y z
same_4 a b c d w x y z p q r s = rw (p, q, r, s) refl

bytes_1 : (space : Space) (addr first at : ℕ) → first ≡ wrapped space addr → first % 4 ≡ at → flat_map piece_bytes (pieces_at space first at 1) ≡ access_bytes space addr 1
unfolding lanes access_bytes
bytes_1 space addr first zero e h = same_1 _ _ (near space addr first 0 0 0 e h refl (omega arith))
bytes_1 space addr first (suc zero) e h = same_1 _ _ (near space addr first 1 0 1 e h refl (omega arith))
bytes_1 space addr first (suc (suc zero)) e h = same_1 _ _ (near space addr first 2 0 2 e h refl (omega arith))
bytes_1 space addr first (suc (suc (suc zero))) e h = same_1 _ _ (near space addr first 3 0 3 e h refl (omega arith))
bytes_1 space addr first (suc (suc (suc (suc at)))) e h = absurd (omega arith)

bytes_2 : (space : Space) (addr first at : ℕ) → first ≡ wrapped space addr → first % 4 ≡ at → flat_map piece_bytes (pieces_at space first at 2) ≡ access_bytes space addr 2
unfolding lanes access_bytes
bytes_2 space addr first zero e h = same_2 _ _ _ _ (near space addr first 0 0 0 e h refl (omega arith)) (near space addr first 0 1 1 e h refl (omega arith))
bytes_2 space addr first (suc zero) e h = same_2 _ _ _ _ (near space addr first 1 0 1 e h refl (omega arith)) (near space addr first 1 1 2 e h refl (omega arith))
bytes_2 space addr first (suc (suc zero)) e h = same_2 _ _ _ _ (near space addr first 2 0 2 e h refl (omega arith)) (near space addr first 2 1 3 e h refl (omega arith))
bytes_2 space addr first (suc (suc (suc zero))) e h = same_2 _ _ _ _ (near space addr first 3 0 3 e h refl (omega arith)) (far space addr first 3 1 0 e h refl (omega arith))
bytes_2 space addr first (suc (suc (suc (suc at)))) e h = absurd (omega arith)

bytes_4 : (space : Space) (addr first at : ℕ) → first ≡ wrapped space addr → first % 4 ≡ at → flat_map piece_bytes (pieces_at space first at 4) ≡ access_bytes space addr 4
unfolding lanes access_bytes
bytes_4 space addr first zero e h = same_4 _ _ _ _ _ _ _ _ (near space addr first 0 0 0 e h refl (omega arith)) (near space addr first 0 1 1 e h refl (omega arith)) (near space addr first 0 2 2 e h refl (omega arith)) (near space addr first 0 3 3 e h refl (omega arith))
bytes_4 space addr first (suc zero) e h = same_4 _ _ _ _ _ _ _ _ (near space addr first 1 0 1 e h refl (omega arith)) (near space addr first 1 1 2 e h refl (omega arith)) (near space addr first 1 2 3 e h refl (omega arith)) (far space addr first 1 3 0 e h refl (omega arith))
bytes_4 space addr first (suc (suc zero)) e h = same_4 _ _ _ _ _ _ _ _ (near space addr first 2 0 2 e h refl (omega arith)) (near space addr first 2 1 3 e h refl (omega arith)) (far space addr first 2 2 0 e h refl (omega arith)) (far space addr first 2 3 1 e h refl (omega arith))
bytes_4 space addr first (suc (suc (suc zero))) e h = same_4 _ _ _ _ _ _ _ _ (near space addr first 3 0 3 e h refl (omega arith)) (far space addr first 3 1 0 e h refl (omega arith)) (far space addr first 3 2 1 e h refl (omega arith)) (far space addr first 3 3 2 e h refl (omega arith))
bytes_4 space addr first (suc (suc (suc (suc at)))) e h = absurd (omega arith)

-- the second group is another one
other : (space : Space) (first : ℕ) → eqb (first - first % 4) (wrapped space (first - first % 4 + 4)) ≡ false
other Memory first = ne_eqb _ _ (λ e. omega arith)
other Port first = ne_eqb _ _ (λ e. omega arith)

apart_from : (space : Space) (first len : ℕ) → IsDistinct eqb (map (λ (p : Piece). p.addr) (pieces_at space first (first % 4) len))
unfolding IsDistinct
apart_from space first len = go (nat_le (first % 4 + len) 4) refl
  where
    go : (b : Bool) → nat_le (first % 4 + len) 4 ≡ b → IsDistinct eqb (map (λ (p : Piece). p.addr) (pieces_at space first (first % 4) len))
    go true e = rw e (tt, tt)
    go false e = rw e ((other space first, tt), (tt, tt))

pub access_of : (space : Space) (addr len : ℕ) → IsLength len → IsAccess space addr len (pieces space addr len)
unfolding pieces
access_of space addr len l = record {
  groups = groups_of space addr len l;
  apart = apart_from space (wrapped space addr) len;
  bytes = each_length (λ n. flat_map piece_bytes (pieces space addr n) ≡ access_bytes space addr n) (bytes_1 space addr (wrapped space addr) _ refl refl) (bytes_2 space addr (wrapped space addr) _ refl refl) (bytes_4 space addr (wrapped space addr) _ refl refl) len l;
}
