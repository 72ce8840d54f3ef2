-- One bit of an operand, tested and put to a value.
use Rattle.std.proofs.Common.{arith, ◌≡◌, ℕ, ◌+◌, ◌-◌, ◌*◌, ◌/◌, ◌%◌, ◌^◌, ◌<◌, true, false, not, ⊎_elim, bit_xor, Bool, subst}
use Rattle.std.proofs.lemmas.Nat.{pow_below, or_lt}
use Rattle.std.proofs.lemmas.Nat.Bits.{and_pow, bit_at-lt}
use Rattle.std.proofs.lemmas.Bool.{cases_lt}
use Rattle.std.specs.Int.Bits.{xor_add_and}
use Rattle.m386_base.specs.declared.number.Width.{Width}
use Rattle.m386_base.specs.Flags.{put_bit, has_bit}
use Rattle.m386_base.proofs.BitPlaces.{three_parts, set_bit}
use Rattle.m386_alu.specs.declared.bit_tests.BitOp.{BitOp}
use Rattle.m386_alu.specs.declared.bit_tests.BitOp.TheVariants.{Test, Set, Reset, Complement}
use Rattle.m386_alu.specs.BitTests.{tested}
use Rattle.m386_alu.specs.Width.{bits}

pub flip_bit : (n k : ℕ) → bit_xor n (2 ^ k) ≡ put_bit n k (not (has_bit n k))
unfolding put_bit
flip_bit n k =
    let p = three_parts n k in
    let o = xor_add_and n (2 ^ k) in
    let a = and_pow n k in
    let l = bit_at-lt n k in
    ⊎_elim
    (λ low.
    let z : n / 2 ^ k % 2 ≡ 0 = omega arith in
    rw z (grind (arith, p, o, a)))
    (λ high.
    let z : n / 2 ^ k % 2 ≡ 1 = omega arith in
    rw z (grind (arith, p, o, a)))
    (cases_lt (n / 2 ^ k % 2) 1)

cleared_fits : (n a k : ℕ) → a < 2 ^ n → put_bit a k false < 2 ^ n
unfolding put_bit
cleared_fits n a k h = let p = three_parts a k in grind (arith, p)

-- a number stays of its width
put_fits : (n a k : ℕ) (b : Bool) → a < 2 ^ n → k < n → put_bit a k b < 2 ^ n
put_fits n a k true h l =
    let P : ℕ → Type 0 = λ m. m < 2 ^ n in
    subst P (set_bit a k) (or_lt n a (2 ^ k) h (pow_below k n l))
put_fits n a k false h l = cleared_fits n a k h

pub tested_fits : (op : BitOp) (w : Width) (a k : ℕ) → a < 2 ^ bits w → k < bits w → tested op a k < 2 ^ bits w
tested_fits Test w a k h l = h
tested_fits Set w a k h l = put_fits (bits w) a k true h l
tested_fits Reset w a k h l = put_fits (bits w) a k false h l
tested_fits Complement w a k h l = put_fits (bits w) a k (not (has_bit a k)) h l
