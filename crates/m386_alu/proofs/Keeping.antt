-- Only the arithmetic flags change.
use Rattle.std.proofs.Common.{arith, ℕ, ◌∙◌, refl, Bool, true, false, cond, ◌==◌, ◌||◌, nat_lt, ◌%◌}
use Rattle.m386_base.specs.declared.number.Flags.{Flags}
use Rattle.m386_base.specs.declared.number.Width.{Width}
use Rattle.m386_alu.specs.declared.arithmetic.AluOp.{AluOp}
use Rattle.m386_alu.specs.declared.arithmetic.AluOp.TheVariants.{Add, Or, Adc, Sbb, And, Sub, Xor, Cmp}
use Rattle.m386_base.specs.declared.flags.Flag.{Flag}
use Rattle.m386_base.specs.declared.flags.Flag.TheVariants.{Carry, Parity, Adjust, Zero, Sign, Trap, Interrupt, Direction, Overflow, NestedTask}
use Rattle.m386_alu.specs.declared.shifts.ShiftOp.{ShiftOp}
use Rattle.m386_alu.specs.declared.shifts.ShiftOp.TheVariants.{Rol, Ror, Rcl, Rcr, Shl, Shr, Sar}
use Rattle.m386_alu.specs.Arithmetic.{alu_of}
use Rattle.m386_alu.specs.DoubleShifts.{double_shift_of, shifted_left_into, shifted_right_into, after_double_shift}
use Rattle.m386_base.specs.Flags.{put_bit, with_flag}
use Rattle.m386_alu.specs.Flags.{with_result, carry_of, KeepsOthers}
use Rattle.m386_alu.specs.Logic.{logic_of}
use Rattle.m386_alu.specs.Products.{halves_of}
use Rattle.m386_alu.specs.Shifts.{shift_of, shifted, after_shift, with_shifted, with_sign_change, signs_differ}
use Rattle.m386_alu.specs.Sums.{sum_of, difference_of}
use Rattle.m386_alu.specs.Width.{bits}

pub keeps_all : (f : Flags) → KeepsOthers f f
keeps_all f = record { bit_1 = refl; bit_3 = refl; bit_5 = refl; control = refl; upper = refl }

pub keeps_both : (f g h : Flags) → KeepsOthers f g → KeepsOthers g h → KeepsOthers f h
keeps_both f g h a b =
    record {
      bit_1 = b.bit_1 ∙ a.bit_1;
      bit_3 = b.bit_3 ∙ a.bit_3;
      bit_5 = b.bit_5 ∙ a.bit_5;
      control = b.control ∙ a.control;
      upper = b.upper ∙ a.upper;
    }

-- a flag that says something of a result
abbrev pub SaysOfResult : Flag → Type 0
SaysOfResult Carry = Unit {0}
SaysOfResult Parity = Unit {0}
SaysOfResult Adjust = Unit {0}
SaysOfResult Zero = Unit {0}
SaysOfResult Sign = Unit {0}
SaysOfResult Overflow = Unit {0}
SaysOfResult _ = ⊥

pub keeps_flag : (flag : Flag) (b : Bool) (f : Flags) → SaysOfResult flag → KeepsOthers f (with_flag flag b f)
unfolding with_flag put_bit
keeps_flag Carry true f h = record { bit_1 = omega arith; bit_3 = omega arith; bit_5 = omega arith; control = omega arith; upper = omega arith }
keeps_flag Carry false f h = record { bit_1 = omega arith; bit_3 = omega arith; bit_5 = omega arith; control = omega arith; upper = omega arith }
keeps_flag Parity true f h = record { bit_1 = omega arith; bit_3 = omega arith; bit_5 = omega arith; control = omega arith; upper = omega arith }
keeps_flag Parity false f h = record { bit_1 = omega arith; bit_3 = omega arith; bit_5 = omega arith; control = omega arith; upper = omega arith }
keeps_flag Adjust true f h = record { bit_1 = omega arith; bit_3 = omega arith; bit_5 = omega arith; control = omega arith; upper = omega arith }
keeps_flag Adjust false f h = record { bit_1 = omega arith; bit_3 = omega arith; bit_5 = omega arith; control = omega arith; upper = omega arith }
keeps_flag Zero true f h = record { bit_1 = omega arith; bit_3 = omega arith; bit_5 = omega arith; control = omega arith; upper = omega arith }
keeps_flag Zero false f h = record { bit_1 = omega arith; bit_3 = omega arith; bit_5 = omega arith; control = omega arith; upper = omega arith }
keeps_flag Sign true f h = record { bit_1 = omega arith; bit_3 = omega arith; bit_5 = omega arith; control = omega arith; upper = omega arith }
keeps_flag Sign false f h = record { bit_1 = omega arith; bit_3 = omega arith; bit_5 = omega arith; control = omega arith; upper = omega arith }
keeps_flag Overflow true f h = record { bit_1 = omega arith; bit_3 = omega arith; bit_5 = omega arith; control = omega arith; upper = omega arith }
keeps_flag Overflow false f h = record { bit_1 = omega arith; bit_3 = omega arith; bit_5 = omega arith; control = omega arith; upper = omega arith }
keeps_flag Trap b f h = absurd h
keeps_flag Interrupt b f h = absurd h
keeps_flag Direction b f h = absurd h
keeps_flag NestedTask b f h = absurd h

-- one flag more
more : (flag : Flag) (b : Bool) (f g : Flags) → SaysOfResult flag → KeepsOthers f g → KeepsOthers f (with_flag flag b g)
more flag b f g s h = keeps_both f g (with_flag flag b g) h (keeps_flag flag b g s)

pub keeps_result : (w : Width) (value : ℕ) (f g : Flags) → KeepsOthers f g → KeepsOthers f (with_result w value g)
keeps_result w value f g h = more Parity _ f _ tt (more Zero _ f _ tt (more Sign _ f g tt h))

-- the three flags that sums and logic set beside those of every result
keeps_six : (w : Width) (value : ℕ) (c a o : Bool) (f : Flags)
    → KeepsOthers f (with_result w value (with_flag Carry c (with_flag Adjust a (with_flag Overflow o f))))
keeps_six w value c a o f = keeps_result w value f _ (more Carry c f _ tt (more Adjust a f _ tt (keeps_flag Overflow o f tt)))

keeps_sum : (w : Width) (a b c : ℕ) (f : Flags) → KeepsOthers f (sum_of w a b c f).1
unfolding sum_of
keeps_sum w a b c f = keeps_six w _ _ _ _ f

keeps_difference : (w : Width) (a b c : ℕ) (f : Flags) → KeepsOthers f (difference_of w a b c f).1
unfolding difference_of
keeps_difference w a b c f = keeps_six w _ _ _ _ f

keeps_logic : (w : Width) (value : ℕ) (f : Flags) → KeepsOthers f (logic_of w value f).1
unfolding logic_of
keeps_logic w value f = keeps_six w value false false false f

pub alu_keeps : (op : AluOp) (w : Width) (a b : ℕ) (f : Flags) → KeepsOthers f (alu_of op w a b f).1
alu_keeps Add w a b f = keeps_sum w a b 0 f
alu_keeps Or w a b f = keeps_logic w _ f
alu_keeps Adc w a b f = keeps_sum w a b (carry_of f) f
alu_keeps Sbb w a b f = keeps_difference w a b (carry_of f) f
alu_keeps And w a b f = keeps_logic w _ f
alu_keeps Sub w a b f = keeps_difference w a b 0 f
alu_keeps Xor w a b f = keeps_logic w _ f
alu_keeps Cmp w a b f = keeps_difference w a b 0 f

-- either of two answers
keeps_choice : (b : Bool) (f : Flags) (p q : ℕ × Flags) → KeepsOthers f p.1 → KeepsOthers f q.1 → KeepsOthers f (cond b p q).1
keeps_choice true f p q h k = h
keeps_choice false f p q h k = k

keeps_maybe : (t : Bool) (flag : Flag) (b : Bool) (f : Flags) → SaysOfResult flag → KeepsOthers f (cond t (with_flag flag b f) f)
keeps_maybe true flag b f s = keeps_flag flag b f s
keeps_maybe false flag b f s = keeps_all f

keeps_sign_change : (n count a b : ℕ) (f : Flags) → KeepsOthers f (with_sign_change n count a b f)
keeps_sign_change n count a b f = keeps_maybe (count == 1) Overflow (signs_differ n a b) f tt

keeps_shifted : (op : ShiftOp) (w : Width) (value : ℕ) (f g : Flags) → KeepsOthers f g → KeepsOthers f (with_shifted op w value g)
keeps_shifted Rol w value f g h = h
keeps_shifted Ror w value f g h = h
keeps_shifted Rcl w value f g h = h
keeps_shifted Rcr w value f g h = h
keeps_shifted Shl w value f g h = keeps_result w value f g h
keeps_shifted Shr w value f g h = keeps_result w value f g h
keeps_shifted Sar w value f g h = keeps_result w value f g h

pub shift_keeps : (op : ShiftOp) (w : Width) (a count : ℕ) (f : Flags) → KeepsOthers f (shift_of op w a count f).1
unfolding shift_of
shift_keeps op w a count f =
    let n = count % 32 in
    let p = shifted op (bits w) n (a, carry_of f) in
    keeps_choice (n == 0) f (a, f) (after_shift op w a n p f) (keeps_all f)
    (keeps_shifted op w p.0 f _ (more Carry (p.1 == 1) f _ tt (keeps_sign_change (bits w) n a p.0 f)))

pub double_shift_keeps : (left : Bool) (w : Width) (a b count : ℕ) (f : Flags) → KeepsOthers f (double_shift_of left w a b count f).1
unfolding double_shift_of
double_shift_keeps left w a b count f =
    let n = count % 32 in
    let p = cond left (shifted_left_into (bits w) n a b) (shifted_right_into (bits w) n a b) in
    keeps_choice (n == 0 || nat_lt (bits w) n) f (a, f) (after_double_shift w a n p f) (keeps_all f)
    (keeps_result w p.0 f _ (more Carry (p.1 == 1) f _ tt (keeps_sign_change (bits w) n a p.0 f)))

pub halves_keep : (is_signed : Bool) (n p : ℕ) (f : Flags) → KeepsOthers f (halves_of is_signed n p f).2
halves_keep is_signed n p f = more Carry _ f _ tt (keeps_flag Overflow _ f tt)
