-- Double shifts: SHLD and SHRD.
use Rattle.std.specs.Prelude.{ℕ, ◌+◌, ◌*◌, ◌/◌, ◌%◌, ◌^◌, Bool, ◌||◌, nat_lt, ◌==◌, if◌then◌else◌}
use Rattle.m386_base.specs.declared.number.Flags.{Flags}
use Rattle.m386_base.specs.declared.number.Width.{Width}
use Rattle.m386_alu.specs.declared.shifts.ShiftOp.TheVariants.{Shl, Shr}
use Rattle.m386_base.specs.declared.flags.Flag.TheVariants.{Carry}
use Rattle.m386_base.specs.Flags.{with_flag}
use Rattle.m386_alu.specs.Flags.{with_result}
use Rattle.m386_alu.specs.Shifts.{shifted, with_sign_change}
use Rattle.m386_alu.specs.Width.{bits}

-- A number of n bits and CF after SHLD by a count: the upper half of so many single shifts to the left of the number with
-- the source's bits below it.
-- Source: Intel 80386 PRM 3.4.4.2
abbrev pub shifted_left_into : ℕ → ℕ → ℕ → ℕ → ℕ × ℕ
shifted_left_into n count a b =
    let p = shifted Shl (n + n) count (a * 2 ^ n + b, 0) in (p.0 / 2 ^ n, p.1)

-- A number of n bits and CF after SHRD by a count: the lower half of so many single shifts to the right of the number with
-- the source's bits above it.
-- Source: Intel 80386 PRM 3.4.4.2
abbrev pub shifted_right_into : ℕ → ℕ → ℕ → ℕ → ℕ × ℕ
shifted_right_into n count a b =
    let p = shifted Shr (n + n) count (b * 2 ^ n + a, 0) in (p.0 % 2 ^ n, p.1)

-- the number and the flags after a double shift, of which it is known what it made of number and CF
abbrev pub after_double_shift : Width → ℕ → ℕ → ℕ × ℕ → Flags → ℕ × Flags
after_double_shift w a count p f =
    (p.0, with_result w p.0 (with_flag Carry (p.1 == 1) (with_sign_change (bits w) count a p.0 f)))

-- A double shift to the left or to the right, and the flags after it. Of the count the low 5 bits count. Where these are 0,
-- or more than the width, nothing changes.
-- Source: Intel 80386 PRM 3.4.4.2
-- Own choice: docs/DECISIONS.md, "Double shifts"
unfoldable pub double_shift_of : Bool → Width → ℕ → ℕ → ℕ → Flags → ℕ × Flags
double_shift_of left w a b count f =
    let n = count % 32 in
    if n == 0 || nat_lt (bits w) n then (a, f)
    else after_double_shift w a n
    (if left then shifted_left_into (bits w) n a b else shifted_right_into (bits w) n a b) f
