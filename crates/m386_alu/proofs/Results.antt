-- Results fit their width.
use Rattle.std.proofs.Common.{arith, ◌≡◌, ℕ, ◌+◌, ◌-◌, ◌%◌, ◌^◌, ◌<◌, ◌*◌, bit_and, bit_or, bit_xor, Bool, true, false, cond, ◌==◌, ◌||◌, nat_lt, ⊎_elim}
use Rattle.std.proofs.lemmas.Bool.{cases_lt}
use Rattle.std.proofs.lemmas.Nat.{shr_le, shr_below, or_lt, xor_lt, mod_below, pow_pos}
use Rattle.std.specs.Int.Bits.{and_lt}
use Rattle.m386_base.specs.declared.number.Flags.{Flags}
use Rattle.m386_base.specs.declared.number.Width.{Width}
use Rattle.m386_alu.specs.declared.arithmetic.AluOp.{AluOp}
use Rattle.m386_alu.specs.declared.arithmetic.AluOp.TheVariants.{Add, Or, Adc, Sbb, And, Sub, Xor, Cmp}
use Rattle.m386_alu.specs.declared.shifts.ShiftOp.{ShiftOp}
use Rattle.m386_alu.specs.declared.shifts.ShiftOp.TheVariants.{Rol, Ror, Rcl, Rcr, Shl, Shr, Sar}
use Rattle.m386_alu.specs.Arithmetic.{alu_of}
use Rattle.m386_alu.specs.Logic.{logic_of}
use Rattle.m386_alu.specs.DoubleShifts.{shifted_left_into, shifted_right_into, after_double_shift, double_shift_of}
use Rattle.m386_alu.specs.Flags.{carry_of}
use Rattle.m386_alu.specs.Shifts.{shifted, shift_of, after_shift}
use Rattle.m386_alu.specs.Sums.{sum_of, difference_of}
use Rattle.m386_alu.specs.Width.{bits}
use Rattle.m386_alu.proofs.Carries.{some_bits}
use Rattle.m386_alu.proofs.Doubling.{both_fit}
use Rattle.m386_alu.proofs.Moves.{shl_value, shr_value, sar_low, sar_high_value}
use Rattle.m386_alu.proofs.Rotating.{rol_value, ror_value, rcl_joined, rcr_joined}
use Rattle.m386_alu.proofs.Turning.{left_all_fits, right_fits}

sum_fits : (w : Width) (a b c : ℕ) (f : Flags) → (sum_of w a b c f).0 < 2 ^ bits w
unfolding sum_of
sum_fits w a b c f = mod_below (a + b + c) (2 ^ bits w) (pow_pos (bits w))

difference_fits : (w : Width) (a b c : ℕ) (f : Flags) → (difference_of w a b c f).0 < 2 ^ bits w
unfolding difference_of
difference_fits w a b c f = mod_below (a + 2 ^ bits w - (b + c)) (2 ^ bits w) (pow_pos (bits w))

logic_fits : (w : Width) (value : ℕ) (f : Flags) → value < 2 ^ bits w → (logic_of w value f).0 < 2 ^ bits w
unfolding logic_of
logic_fits w value f h = h

pub alu_fits : (op : AluOp) (w : Width) (a b : ℕ) (f : Flags) → a < 2 ^ bits w → b < 2 ^ bits w → (alu_of op w a b f).0 < 2 ^ bits w
alu_fits Add w a b f h k = sum_fits w a b 0 f
alu_fits Or w a b f h k = logic_fits w (bit_or a b) f (or_lt (bits w) a b h k)
alu_fits Adc w a b f h k = sum_fits w a b (carry_of f) f
alu_fits Sbb w a b f h k = difference_fits w a b (carry_of f) f
alu_fits And w a b f h k = logic_fits w (bit_and a b) f (and_lt (bits w) a b h k)
alu_fits Sub w a b f h k = difference_fits w a b 0 f
alu_fits Xor w a b f h k = logic_fits w (bit_xor a b) f (xor_lt (bits w) a b h k)
alu_fits Cmp w a b f h k = difference_fits w a b 0 f

along : (m x y : ℕ) → x ≡ y → y < m → x < m
along m x y e h = omega arith

sar_fits : (n k a c : ℕ) → 0 < n → a < 2 ^ n → (shifted Sar n k (a, c)).0 < 2 ^ n
sar_fits n k a c p h =
    ⊎_elim
    (λ low. rw (sar_low n k a c low, shr_value n k a c) (omega (arith, shr_le a k)))
    (λ high. let v = sar_high_value n k a c p high h in omega arith)
    (cases_lt a (2 ^ (n - 1)))

pub shifted_fits : (op : ShiftOp) (n k a c : ℕ) → 0 < n → a < 2 ^ n → c < 2 → (shifted op n k (a, c)).0 < 2 ^ n
shifted_fits Rol n k a c p h l = along (2 ^ n) _ _ (rol_value n k a c) (left_all_fits n k a p h)
shifted_fits Ror n k a c p h l = along (2 ^ n) _ _ (ror_value n k a c) (right_fits n k a p h)
shifted_fits Rcl n k a c p h l = (rcl_joined n k a c p h l).number
shifted_fits Rcr n k a c p h l = (rcr_joined n k a c p h l).number
shifted_fits Shl n k a c p h l =
    along (2 ^ n) _ _ (shl_value n k a c h) (mod_below (a * 2 ^ k) (2 ^ n) (pow_pos n))
shifted_fits Shr n k a c p h l = along (2 ^ n) _ _ (shr_value n k a c) (omega (arith, shr_le a k))
shifted_fits Sar n k a c p h l = sar_fits n k a c p h

-- either of two results
choice_fits : (b : Bool) (p q : ℕ × Flags) (m : ℕ) → p.0 < m → q.0 < m → (cond b p q).0 < m
choice_fits true p q m h k = h
choice_fits false p q m h k = k

pub shift_fits : (op : ShiftOp) (w : Width) (a count : ℕ) (f : Flags) → a < 2 ^ bits w → (shift_of op w a count f).0 < 2 ^ bits w
unfolding shift_of
shift_fits op w a count f h =
    let n = count % 32 in
    choice_fits (n == 0) (a, f) (after_shift op w a n (shifted op (bits w) n (a, carry_of f)) f) (2 ^ bits w) h
    (shifted_fits op (bits w) n a (carry_of f) (some_bits w) h (omega arith))

into_fits : (left : Bool) (n k a b : ℕ) → a < 2 ^ n → b < 2 ^ n
    → (cond left (shifted_left_into n k a b) (shifted_right_into n k a b)).0 < 2 ^ n
into_fits true n k a b h l =
    let d = a * 2 ^ n + b in
    let v = shl_value (n + n) k d 0 (both_fit n a b h l) in
    rw v (shr_below (d * 2 ^ k % 2 ^ (n + n)) n n (mod_below (d * 2 ^ k) (2 ^ (n + n)) (pow_pos (n + n))))
into_fits false n k a b h l = mod_below _ (2 ^ n) (pow_pos n)

pub double_shift_fits : (left : Bool) (w : Width) (a b count : ℕ) (f : Flags) → a < 2 ^ bits w → b < 2 ^ bits w
    → (double_shift_of left w a b count f).0 < 2 ^ bits w
unfolding double_shift_of
double_shift_fits left w a b count f h l =
    let n = count % 32 in
    let p = cond left (shifted_left_into (bits w) n a b) (shifted_right_into (bits w) n a b) in
    choice_fits (n == 0 || nat_lt (bits w) n) (a, f) (after_double_shift w a n p f) (2 ^ bits w) h (into_fits left (bits w) n a b h l)
