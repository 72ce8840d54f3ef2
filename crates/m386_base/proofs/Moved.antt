-- The bytes of an access go into its groups and come back.
use Rattle.std.proofs.Common.{arith, ◌≡◌, ℕ, zero, suc, ◌*◌, ◌/◌, ◌%◌, ◌^◌, ◌<◌, subst, List, [], ◌∷◌, length, slice_index_or}
use Rattle.std.specs.List.{AllByRecursion}
use Rattle.std.proofs.lemmas.Nat.Bits.{and_high}
use Rattle.m386_base.specs.declared.split.Piece.{Piece}
use Rattle.m386_base.specs.declared.ask.Space.{Space}
use Rattle.m386_base.specs.Split.{wrapped, pieces, IsLength, IsPiece, spread_of, gather_of, lanes, moved, swapped}
use Rattle.m386_base.proofs.Access.{each_length, pieces_at}

-- What holds of each place with the enables that a group of an access may have there: those of a first group are 1, 2, 4
-- or 8, 3, 6 or 12, 14, and 15.
pub record Shapes (P : ℕ → ℕ → Type 0) : Type 0 where
  pub at_0_1 : P 0 1
  pub at_0_2 : P 0 2
  pub at_0_4 : P 0 4
  pub at_0_8 : P 0 8
  pub at_0_3 : P 0 3
  pub at_0_6 : P 0 6
  pub at_0_12 : P 0 12
  pub at_0_14 : P 0 14
  pub at_0_15 : P 0 15
  pub at_1_1 : P 1 1
  pub at_3_1 : P 3 1
  pub at_2_3 : P 2 3
  pub at_1_7 : P 1 7

-- what holds of each shape holds of each group of an access
abbrev pub OfEach : (ℕ → ℕ → Type 0) → List Piece → Type 0
OfEach P ps = AllByRecursion (λ (p : Piece). P p.place p.enables) ps

of_1 : (P : ℕ → ℕ → Type 0) → Shapes P → (space : Space) (first at : ℕ) → at < 4 → OfEach P (pieces_at space first at 1)
of_1 P s space first zero h = (s.at_0_1, tt)
of_1 P s space first (suc zero) h = (s.at_0_2, tt)
of_1 P s space first (suc (suc zero)) h = (s.at_0_4, tt)
of_1 P s space first (suc (suc (suc zero))) h = (s.at_0_8, tt)
of_1 P s space first (suc (suc (suc (suc at)))) h = absurd (omega arith)

of_2 : (P : ℕ → ℕ → Type 0) → Shapes P → (space : Space) (first at : ℕ) → at < 4 → OfEach P (pieces_at space first at 2)
of_2 P s space first zero h = (s.at_0_3, tt)
of_2 P s space first (suc zero) h = (s.at_0_6, tt)
of_2 P s space first (suc (suc zero)) h = (s.at_0_12, tt)
of_2 P s space first (suc (suc (suc zero))) h = (s.at_0_8, (s.at_1_1, tt))
of_2 P s space first (suc (suc (suc (suc at)))) h = absurd (omega arith)

of_4 : (P : ℕ → ℕ → Type 0) → Shapes P → (space : Space) (first at : ℕ) → at < 4 → OfEach P (pieces_at space first at 4)
of_4 P s space first zero h = (s.at_0_15, tt)
of_4 P s space first (suc zero) h = (s.at_0_14, (s.at_3_1, tt))
of_4 P s space first (suc (suc zero)) h = (s.at_0_12, (s.at_2_3, tt))
of_4 P s space first (suc (suc (suc zero))) h = (s.at_0_8, (s.at_1_7, tt))
of_4 P s space first (suc (suc (suc (suc at)))) h = absurd (omega arith)

pub of_each : (P : ℕ → ℕ → Type 0) → Shapes P → (space : Space) (addr len : ℕ) → IsLength len → OfEach P (pieces space addr len)
unfolding pieces
of_each P s space addr len l =
    let first : ℕ = wrapped space addr in
    each_length (λ n. OfEach P (pieces_at space first (first % 4) n)) (of_1 P s space first (first % 4) (omega arith)) (of_2 P s space first (first % 4) (omega arith)) (of_4 P s space first (first % 4) (omega arith)) len l

item_at : (P : ℕ → ℕ → Type 0) (ps : List Piece) (k : ℕ) (d : Piece) → OfEach P ps → k < length ps → P (slice_index_or ps k d).place (slice_index_or ps k d).enables
item_at P [] k d h l = absurd (omega arith)
item_at P (p ∷ ps) zero d h l = h.0
item_at P (p ∷ ps) (suc k) d h l = item_at P ps k d h.1 (omega arith)

pub of_piece : (P : ℕ → ℕ → Type 0) → Shapes P → (p : Piece) → IsPiece p → P p.place p.enables
of_piece P s p h =
    let Q : Piece → Type 0 = λ q. P q.place q.enables in
    subst Q h.stands.2 (item_at P (pieces h.space h.addr h.len) h.stands.0 p (of_each P s h.space h.addr h.len h.length) h.stands.1)

-- a group by its place and its enables
abbrev pub shaped : ℕ → ℕ → ℕ → Piece
shaped addr place enables = record { addr = addr; enables = enables; place = place }

abbrev pub Spreads : ℕ → ℕ → Type 0
Spreads place enables = (addr value : ℕ) → spread_of (shaped addr place enables) value ≡ moved (lanes (shaped addr place enables)) value

abbrev pub Gathers : ℕ → ℕ → Type 0
Gathers place enables = (addr value : ℕ) → gather_of (shaped addr place enables) value ≡ moved (swapped (lanes (shaped addr place enables))) value

pub spread_0_1 : Spreads 0 1
unfolding spread_of lanes
spread_0_1 addr value = rw (and_high (value * 2 ^ 0 % 2 ^ 32) 8 0) (omega arith)

pub gather_0_1 : Gathers 0 1
unfolding gather_of lanes
gather_0_1 addr value = rw (and_high value 8 0) (omega arith)

pub spread_0_2 : Spreads 0 2
unfolding spread_of lanes
spread_0_2 addr value = rw (and_high (value * 2 ^ 8 % 2 ^ 32) 8 8) (omega arith)

pub gather_0_2 : Gathers 0 2
unfolding gather_of lanes
gather_0_2 addr value = rw (and_high value 8 8) (omega arith)

pub spread_0_4 : Spreads 0 4
unfolding spread_of lanes
spread_0_4 addr value = rw (and_high (value * 2 ^ 16 % 2 ^ 32) 8 16) (omega arith)

pub gather_0_4 : Gathers 0 4
unfolding gather_of lanes
gather_0_4 addr value = rw (and_high value 8 16) (omega arith)

pub spread_0_8 : Spreads 0 8
unfolding spread_of lanes
spread_0_8 addr value = rw (and_high (value * 2 ^ 24 % 2 ^ 32) 8 24) (omega arith)

pub gather_0_8 : Gathers 0 8
unfolding gather_of lanes
gather_0_8 addr value = rw (and_high value 8 24) (omega arith)

pub spread_0_3 : Spreads 0 3
unfolding spread_of lanes
spread_0_3 addr value = rw (and_high (value * 2 ^ 0 % 2 ^ 32) 16 0) (omega arith)

pub gather_0_3 : Gathers 0 3
unfolding gather_of lanes
gather_0_3 addr value = rw (and_high value 16 0) (omega arith)

pub spread_0_6 : Spreads 0 6
unfolding spread_of lanes
spread_0_6 addr value = rw (and_high (value * 2 ^ 8 % 2 ^ 32) 16 8) (omega arith)

pub gather_0_6 : Gathers 0 6
unfolding gather_of lanes
gather_0_6 addr value = rw (and_high value 16 8) (omega arith)

pub spread_0_12 : Spreads 0 12
unfolding spread_of lanes
spread_0_12 addr value = rw (and_high (value * 2 ^ 16 % 2 ^ 32) 16 16) (omega arith)

pub gather_0_12 : Gathers 0 12
unfolding gather_of lanes
gather_0_12 addr value = rw (and_high value 16 16) (omega arith)

pub spread_0_14 : Spreads 0 14
unfolding spread_of lanes
spread_0_14 addr value = rw (and_high (value * 2 ^ 8 % 2 ^ 32) 24 8) (omega arith)

pub gather_0_14 : Gathers 0 14
unfolding gather_of lanes
gather_0_14 addr value = rw (and_high value 24 8) (omega arith)

pub spread_0_15 : Spreads 0 15
unfolding spread_of lanes
spread_0_15 addr value = rw (and_high (value * 2 ^ 0 % 2 ^ 32) 32 0) (omega arith)

pub gather_0_15 : Gathers 0 15
unfolding gather_of lanes
gather_0_15 addr value = rw (and_high value 32 0) (omega arith)

pub spread_1_1 : Spreads 1 1
unfolding spread_of lanes
spread_1_1 addr value = rw (and_high (value / 2 ^ 8) 8 0) (omega arith)

pub gather_1_1 : Gathers 1 1
unfolding gather_of lanes
gather_1_1 addr value = rw (and_high value 8 0) (omega arith)

pub spread_3_1 : Spreads 3 1
unfolding spread_of lanes
spread_3_1 addr value = rw (and_high (value / 2 ^ 24) 8 0) (omega arith)

pub gather_3_1 : Gathers 3 1
unfolding gather_of lanes
gather_3_1 addr value = rw (and_high value 8 0) (omega arith)

pub spread_2_3 : Spreads 2 3
unfolding spread_of lanes
spread_2_3 addr value = rw (and_high (value / 2 ^ 16) 16 0) (omega arith)

pub gather_2_3 : Gathers 2 3
unfolding gather_of lanes
gather_2_3 addr value = rw (and_high value 16 0) (omega arith)

pub spread_1_7 : Spreads 1 7
unfolding spread_of lanes
spread_1_7 addr value = rw (and_high (value / 2 ^ 8) 24 0) (omega arith)

pub gather_1_7 : Gathers 1 7
unfolding gather_of lanes
gather_1_7 addr value = rw (and_high value 24 0) (omega arith)

pub spread_moves : (p : Piece) → IsPiece p → (value : ℕ) → spread_of p value ≡ moved (lanes p) value
spread_moves p h value = of_piece Spreads (record { at_0_1 = spread_0_1; at_0_2 = spread_0_2; at_0_4 = spread_0_4; at_0_8 = spread_0_8; at_0_3 = spread_0_3; at_0_6 = spread_0_6; at_0_12 = spread_0_12; at_0_14 = spread_0_14; at_0_15 = spread_0_15; at_1_1 = spread_1_1; at_3_1 = spread_3_1; at_2_3 = spread_2_3; at_1_7 = spread_1_7 }) p h p.addr value

pub gather_moves : (p : Piece) → IsPiece p → (value : ℕ) → gather_of p value ≡ moved (swapped (lanes p)) value
gather_moves p h value = of_piece Gathers (record { at_0_1 = gather_0_1; at_0_2 = gather_0_2; at_0_4 = gather_0_4; at_0_8 = gather_0_8; at_0_3 = gather_0_3; at_0_6 = gather_0_6; at_0_12 = gather_0_12; at_0_14 = gather_0_14; at_0_15 = gather_0_15; at_1_1 = gather_1_1; at_3_1 = gather_3_1; at_2_3 = gather_2_3; at_1_7 = gather_1_7 }) p h p.addr value
