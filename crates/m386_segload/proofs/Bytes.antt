-- The group of one byte.
use Rattle.std.proofs.Common.{◌≡◌, ℕ, ◌*◌, ◌%◌, ◌^◌, ◌<◌, Bool, true, false, refl, arith, ◌&&◌, ◌==◌, nat_lt}
use Rattle.m386_base.proofs.Finite.{all_below, each_below}

fine : ℕ → Bool
fine k = (1 * 2 ^ k % 256 == 2 ^ k) && (nat_lt (2 ^ k) 16 && nat_lt 0 (2 ^ k))

all_fine : (a : ℕ) → fine (a % 4) ≡ true
unfolding all_below fine
all_fine a = each_below 4 fine refl (a % 4) (omega arith)

and-l : (a b : Bool) → a && b ≡ true → a ≡ true
and-l true b h = refl
and-l false b h = h

and-r : (a b : Bool) → a && b ≡ true → b ≡ true
and-r true b h = h
and-r false b h = absurd cc

pub byte_enables : (a : ℕ) → 1 * 2 ^ (a % 4) % 256 ≡ 2 ^ (a % 4)
unfolding fine
byte_enables a = let h : (1 * 2 ^ (a % 4) % 256 == 2 ^ (a % 4)) ≡ true = and-l _ _ (all_fine a) in grind (arith, h)

pub byte_below : (a : ℕ) → 2 ^ (a % 4) < 16
unfolding fine
byte_below a = let h : nat_lt (2 ^ (a % 4)) 16 ≡ true = and-l _ _ (and-r _ _ (all_fine a)) in grind (arith, h)

pub byte_some : (a : ℕ) → 0 < 2 ^ (a % 4)
unfolding fine
byte_some a = let h : nat_lt 0 (2 ^ (a % 4)) ≡ true = and-r _ _ (and-r _ _ (all_fine a)) in grind (arith, h)

pub ruleset one_byte = (byte_enables, byte_below, byte_some)
