-- Sums and differences with their flags.
use Rattle.std.specs.Prelude.{ℕ, ◌+◌, ◌-◌, ◌%◌, ◌^◌, pos, ◌+ℤ◌, ◌-ℤ◌, not, nat_le, nat_lt}
use Rattle.m386_base.specs.declared.number.Flags.{Flags}
use Rattle.m386_base.specs.declared.number.Width.{Width}
use Rattle.m386_base.specs.declared.flags.Flag.TheVariants.{Carry, Adjust, Overflow}
use Rattle.m386_base.specs.Flags.{with_flag}
use Rattle.m386_alu.specs.Flags.{with_result}
use Rattle.m386_alu.specs.Width.{bits, signed, is_signed_number}

-- A sum with a carry of 0 or 1, and the flags after it: CF says that the sum reaches 2^w, AF that the sum of the low four
-- bits reaches 16, OF that the sum of the signed readings is no signed number of the width. SF, ZF and PF speak of the
-- result, the sum modulo 2^w.
-- Source: Intel 80386 PRM 2.3.4.1, 3.2.1
unfoldable pub sum_of : Width → ℕ → ℕ → ℕ → Flags → ℕ × Flags
sum_of w a b carry f =
    let n = bits w in
    let value = (a + b + carry) % 2 ^ n in (
      value,
      with_result w value
          (with_flag Carry (nat_le (2 ^ n) (a + b + carry))
          (with_flag Adjust (nat_le 16 (a % 16 + b % 16 + carry))
          (with_flag Overflow (not (is_signed_number n (signed n a +ℤ signed n b +ℤ pos carry))) f))),
    )

-- A difference with a borrow of 0 or 1, and the flags after it: CF says that the difference is below 0, AF that the
-- difference of the low four bits is below 0, OF that the difference of the signed readings is no signed number of the
-- width. SF, ZF and PF speak of the result, the difference modulo 2^w.
-- Source: Intel 80386 PRM 2.3.4.1, 3.2.1
unfoldable pub difference_of : Width → ℕ → ℕ → ℕ → Flags → ℕ × Flags
difference_of w a b borrow f =
    let n = bits w in
    let value = (a + 2 ^ n - (b + borrow)) % 2 ^ n in (
      value,
      with_result w value
          (with_flag Carry (nat_lt a (b + borrow))
          (with_flag Adjust (nat_lt (a % 16) (b % 16 + borrow))
          (with_flag Overflow (not (is_signed_number n (signed n a -ℤ signed n b -ℤ pos borrow))) f))),
    )
