-- The groups of an access are groups of its space, and each of its bytes stands in one of them.
use Rattle.std.proofs.Common.{arith, ◌≡◌, ℕ, ◌+◌, ◌-◌, ◌%◌, ◌^◌, ◌<◌, ◌≤◌, refl, Bool, true, false, cond, nat_le, nat_lt, ◌&&◌, zero, suc, length, get_or, List, [], ◌∷◌, ◌⊎◌}
use Rattle.m386_base.specs.declared.split.Piece.{Piece}
use Rattle.m386_base.specs.declared.ask.Space.{Space}
use Rattle.m386_base.specs.declared.ask.Space.TheVariants.{Memory, Port}
use Rattle.m386_base.proofs.Finite.{all_below, each_below}
use Rattle.m386_base.specs.Split.{wrapped, ones_at, pieces_from, pieces, IsGroup, AreGroups}

-- an address of a space
abbrev IsIn : Space → ℕ → Type 0
IsIn Memory first = first < 2 ^ 32
IsIn Port first = first < 2 ^ 16

wrapped_in : (space : Space) (addr : ℕ) → IsIn space (wrapped space addr)
wrapped_in Memory addr = omega arith
wrapped_in Port addr = omega arith

first_group : (space : Space) (first enables : ℕ) → IsIn space first → 0 < enables → enables < 16 → IsGroup space (record { addr = first - first % 4; enables = enables; place = 0 })
first_group Memory first enables h s t = record { aligned = omega arith; inside = tt; some = s; group = t; place = omega arith }
first_group Port first enables h s t = record { aligned = omega arith; inside = omega arith; some = s; group = t; place = omega arith }

next_group : (space : Space) (first enables place : ℕ) → 0 < enables → enables < 16 → place < 4 → IsGroup space (record { addr = wrapped space (first - first % 4 + 4); enables = enables; place = place })
next_group Memory first enables place s t p = record { aligned = omega arith; inside = tt; some = s; group = t; place = p }
next_group Port first enables place s t p = record { aligned = omega arith; inside = omega arith; some = s; group = t; place = p }

-- some bytes of a group are enabled by a number from 1 to 15
some_enabled_at : ℕ → ℕ → Bool
some_enabled_at at n = cond (nat_le (at + n) 4 && nat_lt 0 n) (nat_lt 0 (ones_at at n) && nat_lt (ones_at at n) 16) true

all_enabled : (at n : ℕ) → at < 5 → n < 5 → some_enabled_at at n ≡ true
unfolding all_below some_enabled_at
all_enabled at n h k = each_below 5 (some_enabled_at at) (each_below 5 (λ a. all_below 5 (some_enabled_at a)) refl at h) n k

enabled : (at n : ℕ) → at + n ≤ 4 → 0 < n → (0 < ones_at at n) × (ones_at at n < 16)
unfolding some_enabled_at
enabled at n h k =
    let e : some_enabled_at at n ≡ true = all_enabled at n (omega arith) (omega arith) in
    let a : nat_le (at + n) 4 ≡ true = search (arith) in
    let b : nat_lt 0 n ≡ true = search (arith) in
    (grind (arith, e, a, b), grind (arith, e, a, b))

-- the groups of an access whose first byte stands there
groups_from : (space : Space) (first len : ℕ) → IsIn space first → 0 < len → len ≤ 4 → AreGroups space (pieces_from space first len)
groups_from space first len i l m = go (nat_le (first % 4 + len) 4) refl
  where
    go : (b : Bool) → nat_le (first % 4 + len) 4 ≡ b → AreGroups space (pieces_from space first len)
    go true e =
        let s = enabled (first % 4) len (grind (arith, e)) l in
        rw e (first_group space first _ i s.0 s.1, tt)
    go false e =
        let s = enabled (first % 4) (4 - first % 4) (omega arith) (omega arith) in
        let t = enabled 0 (first % 4 + len - 4) (omega arith) (grind (arith, e)) in
        rw e (first_group space first _ i s.0 s.1, (next_group space first _ _ t.0 t.1 (grind (arith, e)), tt))

pub groups_of : (space : Space) (addr len : ℕ) → (len ≡ 1) ⊎ (len ≡ 2) ⊎ (len ≡ 4) → AreGroups space (pieces space addr len)
unfolding pieces
groups_of space addr len l = groups_from space (wrapped space addr) len (wrapped_in space addr) (grind arith) (grind arith)

-- what is read past the end of a list of groups
abbrev pub no_piece : Piece
no_piece = record { addr = 0; enables = 0; place = 0 }

-- each group of an access, by its place
pub group_at : (space : Space) (ps : List Piece) (i : ℕ) → AreGroups space ps → i < length ps → IsGroup space (get_or ps i no_piece)
group_at space [] i h l = absurd (omega arith)
group_at space (p ∷ ps) zero h l = h.0
group_at space (p ∷ ps) (suc i) h l = group_at space ps i h.1 (omega arith)
