-- The bits of ports fit into a byte.
use Rattle.std.proofs.Common.{◌≡◌, ℕ, ◌+◌, ◌-◌, ◌*◌, ◌%◌, ◌^◌, ◌<◌, ◌≤◌, refl, arith, Bool, true, false, cond, eqb, eqb-true, nat_le}
use Rattle.m386_base.proofs.Finite.{all_below, each_below}
use Rattle.m386_iomap.specs.Map.{port_bits}

unfoldable fit : ℕ → ℕ → Bool
fit bit count = cond (nat_le (bit + count) 8) (eqb ((1 * 2 ^ count % 256 - 1) * 2 ^ bit % 256) (port_bits bit count)) true

all_fit : (bit count : ℕ) → bit < 9 → count < 5 → fit bit count ≡ true
unfolding all_below fit
all_fit bit count h k = each_below 5 (fit bit) (each_below 9 (λ b. all_below 5 (fit b)) refl bit h) count k

pub port_bits_fit : (bit count : ℕ) → bit + count ≤ 8 → count ≤ 4 → (1 * 2 ^ count % 256 - 1) * 2 ^ bit % 256 ≡ port_bits bit count
unfolding fit
port_bits_fit bit count l k = go (nat_le (bit + count) 8) refl
  where
    go : (b : Bool) → nat_le (bit + count) 8 ≡ b → (1 * 2 ^ count % 256 - 1) * 2 ^ bit % 256 ≡ port_bits bit count
    go true e =
        let whole : cond (nat_le (bit + count) 8) (eqb ((1 * 2 ^ count % 256 - 1) * 2 ^ bit % 256) (port_bits bit count)) true ≡ true = all_fit bit count (omega arith) (omega arith) in
        eqb-true _ _ (rw e at whole)
    go false e = absurd (grind (arith, e, l))
