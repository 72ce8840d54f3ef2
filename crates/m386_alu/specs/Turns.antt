-- Numbers of n bits turned by one place and by many.
use Rattle.std.specs.Prelude.{ℕ, ◌+◌, ◌-◌, ◌*◌, ◌/◌, ◌%◌, ◌^◌}
use Rattle.m386_alu.specs.Shifts.{times}

-- a number of n bits whose top bit moves to the bottom
unfoldable pub turn_left_once : ℕ → ℕ → ℕ
turn_left_once n a = a * 2 % 2 ^ n + a / 2 ^ (n - 1)

-- a number of n bits whose lowest bit moves to the top
unfoldable pub turn_right_once : ℕ → ℕ → ℕ
turn_right_once n a = a / 2 + a % 2 * 2 ^ (n - 1)

-- a number of n bits turned so many times
abbrev pub turned_left : ℕ → ℕ → ℕ → ℕ
turned_left n count a = times count (turn_left_once n) a

abbrev pub turned_right : ℕ → ℕ → ℕ → ℕ
turned_right n count a = times count (turn_right_once n) a
