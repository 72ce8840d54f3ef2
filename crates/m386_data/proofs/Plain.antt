-- The law of each kind of action.
use Rattle.std.proofs.Common.{◌≡◌, ℕ, ◌+◌, ◌-◌, ◌/◌, ◌%◌, ◌^◌, ◌==◌, refl, ◌∙◌, ap, arith, nat_le, Option, Some, None, List, [], Bool, true, false}
use Rattle.m386_base.specs.declared.ask.Ask.{Ask}
use Rattle.m386_base.specs.declared.ask.Role.TheVariants as roles
use Rattle.m386_base.specs.declared.flags.Flag.TheVariants.{Carry, Parity, Adjust, Zero, Sign, Direction}
use Rattle.m386_base.specs.declared.number.Flags.{Flags}
use Rattle.m386_base.specs.declared.number.Width.{Width}
use Rattle.m386_base.specs.declared.number.Width.TheVariants.{W8}
use Rattle.m386_base.specs.Flags.{with_flag, put_bit, has_bit}
use Rattle.m386_base.specs.Plain.{Plain}
use Rattle.m386_base.proofs.Plain.{plain_done, plain_faults, plain_if, plain_bind}
use Rattle.m386_alu.specs.Arithmetic.{alu_of}
use Rattle.m386_alu.specs.Flags.{KeepsOthers}
use Rattle.m386_alu.specs.Products.{mul_of, product_of, extension}
use Rattle.m386_alu.specs.Width.{bits}
use Rattle.m386_alu.specs.declared.arithmetic.AluOp.{AluOp}
use Rattle.m386_alu.specs.declared.arithmetic.AluOp.TheVariants as ops
use Rattle.m386_alu.specs.declared.bit_tests.BitOp.{BitOp}
use Rattle.m386_alu.specs.declared.bit_tests.BitOp.TheVariants.{Test, Set, Reset, Complement}
use Rattle.m386_alu.specs.declared.shifts.ShiftOp.{ShiftOp}
use Rattle.m386_alu.proofs.Keeping.{alu_keeps, shift_keeps, double_shift_keeps, halves_keep, keeps_all, keeps_both, keeps_flag}
use Rattle.m386_opmap.specs.declared.op.Addr.{Addr}
use Rattle.m386_opmap.specs.declared.op.Op.{Op}
use Rattle.m386_state.specs.declared.proc.Proc.{Proc}
use Rattle.m386_access.specs.Address.{segment_number, offset_of}
use Rattle.m386_access.specs.After.{len_of, with_flags, register_at}
use Rattle.m386_access.specs.Operands.{manner_of, operands_of}
use Rattle.m386_access.specs.Registers.{eax, edx, ah}
use Rattle.m386_access.specs.Ordinary.{Ordinary, Keeps, PlainFrom}
use Rattle.m386_access.specs.declared.conditions.Condition.{Condition}
use Rattle.m386_access.specs.declared.operands.Manner.{Manner}
use Rattle.m386_access.specs.declared.operands.Place.{Place}
use Rattle.m386_access.specs.declared.operands.Place.TheVariants.{Register, Number, Memory, Other}
use Rattle.m386_access.specs.declared.operands.Operands.{Operands}
use Rattle.m386_access.specs.declared.operands.Operands.TheVariants.{Absent, One, Two, Three, Others}
use Rattle.m386_access.proofs.Phrases.{plain, Stays, keeps_stays, stays_same, stays_register, stays_if, Anything, read_then, value_then, modify_then, inspect_then}
use Rattle.m386_data.specs.Alone.{done_alone, half, with_low_flags}
use Rattle.m386_data.specs.BitStrings.{bit_test_phrase, bit_of_phrase, bit_string_phrase, register_bit_phrase, memory_bit_phrase, inspect_bit_phrase, unit_offset}
use Rattle.m386_data.specs.Bound.{bound_phrase, bounds_phrase, check_bounds_phrase}
use Rattle.m386_data.specs.Change.{changed, low_of}
use Rattle.m386_data.specs.Compare.{comparison_phrase, compare_phrase, scan_phrase, scanned}
use Rattle.m386_data.specs.Exec.{action_phrase, named_phrase, exec_phrase}
use Rattle.m386_data.specs.Moves.{moves_phrase, extended_of, move_phrase, extend_phrase, address_phrase, swap_phrase, exchange_with_phrase, exchange_phrase, table_byte_phrase, translate_phrase, set_phrase}
use Rattle.m386_data.specs.Products.{products_phrase, multiply_accumulator_phrase, multiply_two_phrase, multiply_phrase, divide_phrase, divided_phrase, with_halves, multiplied, with_product, upper_register}
use Rattle.m386_data.specs.Update.{update_phrase, change_memory_phrase, change_phrase, arithmetic_phrase, single_phrase, shift_phrase, double_shift_phrase}
use Rattle.m386_data.specs.Action.{action_of}
use Rattle.m386_data.specs.declared.compare.Comparison.{Comparison}
use Rattle.m386_data.specs.declared.compare.Comparison.TheVariants as comparisons
use Rattle.m386_data.specs.declared.moves.Moves.{Moves}
use Rattle.m386_data.specs.declared.moves.Moves.TheVariants as moves_group
use Rattle.m386_data.specs.declared.products.Products.{Products}
use Rattle.m386_data.specs.declared.products.Products.TheVariants as products_group
use Rattle.m386_data.specs.declared.update.Update.{Update}
use Rattle.m386_data.specs.declared.update.Update.TheVariants as updates
use Rattle.m386_data.specs.declared.alone.Alone.{Alone}
use Rattle.m386_data.specs.declared.alone.Alone.TheVariants as alones
use Rattle.m386_data.specs.declared.change.Change.{Change}
use Rattle.m386_data.specs.declared.change.Change.TheVariants.{Arithmetic, Increment, Decrement, Invert, Negate, Shift, DoubleShift, Bit}
use Rattle.m386_data.specs.declared.compare.Scan.{Scan}
use Rattle.m386_data.specs.declared.action.Action.{Action}
use Rattle.m386_data.specs.declared.action.Action.TheVariants as actions

-- A change leaves all flags but the arithmetic ones.
changed_keeps : (change : Change) (w : Width) (a : ℕ) (f : Flags) → KeepsOthers f (changed change w a f).1
unfolding changed
changed_keeps (Arithmetic op b) w a f = alu_keeps op w (low_of w a) (low_of w b) f
changed_keeps Increment w a f = keeps_both f (alu_of ops.Add w (low_of w a) 1 f).1 _ (alu_keeps ops.Add w (low_of w a) 1 f) (keeps_flag Carry _ _ tt)
changed_keeps Decrement w a f = keeps_both f (alu_of ops.Sub w (low_of w a) 1 f).1 _ (alu_keeps ops.Sub w (low_of w a) 1 f) (keeps_flag Carry _ _ tt)
changed_keeps Invert w a f = keeps_all f
changed_keeps Negate w a f = alu_keeps ops.Sub w 0 (low_of w a) f
changed_keeps (Shift op count) w a f = shift_keeps op w (low_of w a) (low_of W8 count) f
changed_keeps (DoubleShift left b count) w a f = double_shift_keeps left w (low_of w a) (low_of w b) (low_of W8 count) f
changed_keeps (Bit op k) w a f = keeps_flag Carry _ f tt

-- the arithmetic flags changed besides
stays_flags : (p q : Proc) (f : Flags) → Stays p q → KeepsOthers q.eflags f → Stays p (with_flags q f)
stays_flags p q f s k =
    let u : f.0 / 2 ^ 12 ≡ q.eflags.0 / 2 ^ 12 = k.upper in
    let e : f.0 / 2 ^ 14 % 2 ≡ q.eflags.0 / 2 ^ 14 % 2 = omega arith in
    record { tr = s.tr; gdtr = s.gdtr; nested = ap (λ n. n == 1) e ∙ s.nested }

-- the flags after a change
stays_changed : (change : Change) (w : Width) (p : Proc) (a : ℕ) → Stays p (with_flags p (changed change w a p.eflags).1)
stays_changed change w p a = stays_flags p p _ (stays_same p) (changed_keeps change w a p.eflags)

change_memory_plain : (n : ℕ) (change : Change) (m : Manner) (p : Proc) (seg offset : ℕ) (ts : List Ask) → nat_le 4 n ≡ true → Plain n (Ordinary p.gdtr) (Keeps p) ts (change_memory_phrase change m p seg offset)
unfolding change_memory_phrase
change_memory_plain n change m p seg offset ts l =
    modify_then p.gdtr n (Keeps p) ts p seg offset (len_of m.width) m.lock _ _ l
    (λ us v. plain_done (n - 4) (Ordinary p.gdtr) (Keeps p) us _ (keeps_stays p us _ (stays_changed change m.width p v)))

change_plain : (n : ℕ) (change : Change) (m : Manner) (p : Proc) (operand : Place) (ts : List Ask) → nat_le 4 n ≡ true → Plain n (Ordinary p.gdtr) (Keeps p) ts (change_phrase change m p operand)
unfolding change_phrase
change_plain n change m p (Register register) ts l =
    plain_done n (Ordinary p.gdtr) (Keeps p) ts _ (keeps_stays p ts _ (stays_register m.width p _ register _ (stays_changed change m.width p (register_at m.width p register))))
change_plain n change m p (Memory a) ts l = change_memory_plain n change m p (segment_number a.seg a.base) (offset_of p a) ts l
change_plain n change m p (Number number) ts l = plain_faults n (Ordinary p.gdtr) (Keeps p) ts _
change_plain n change m p Other ts l = plain_faults n (Ordinary p.gdtr) (Keeps p) ts _

inspect_bit_plain : (n : ℕ) (m : Manner) (p : Proc) (seg offset k : ℕ) (ts : List Ask) → nat_le 2 n ≡ true → Plain n (Ordinary p.gdtr) (Keeps p) ts (inspect_bit_phrase m p seg offset k)
unfolding inspect_bit_phrase
inspect_bit_plain n m p seg offset k ts l =
    inspect_then p.gdtr n (Keeps p) ts p seg offset (len_of m.width) m.lock _ l
    (λ us v. plain_done (n - 2) (Ordinary p.gdtr) (Keeps p) us _ (keeps_stays p us _ (stays_changed (Bit Test k) m.width p v)))

memory_bit_plain : (op : BitOp) (m : Manner) (p : Proc) (seg offset k : ℕ) (ts : List Ask) → Plain 8 (Ordinary p.gdtr) (Keeps p) ts (memory_bit_phrase op m p seg offset k)
memory_bit_plain Test m p seg offset k ts = inspect_bit_plain 8 m p seg offset k ts refl
memory_bit_plain Set m p seg offset k ts = change_memory_plain 8 (Bit Set k) m p seg offset ts refl
memory_bit_plain Reset m p seg offset k ts = change_memory_plain 8 (Bit Reset k) m p seg offset ts refl
memory_bit_plain Complement m p seg offset k ts = change_memory_plain 8 (Bit Complement k) m p seg offset ts refl

stays_halves : (w : Width) (p q : Proc) (upper lower : ℕ) → Stays p q → Stays p (with_halves w q upper lower)
stays_halves w p q upper lower s = stays_register w p _ (upper_register w) upper (stays_register w p q 0 lower s)

stays_product : (signed : Bool) (w : Width) (p : Proc) (a b : ℕ) → Stays p (with_flags p (mul_of signed w a b p.eflags).2)
stays_product signed w p a b = stays_flags p p _ (stays_same p) (halves_keep signed (bits w) (product_of signed (bits w) a b) p.eflags)

stays_multiplied : (signed : Bool) (w : Width) (p : Proc) (b : ℕ) → Stays p (multiplied signed w p b)
stays_multiplied signed w p b = stays_halves w p _ _ _ (stays_product signed w p (low_of w (register_at w p 0)) (low_of w b))

stays_with_product : (signed : Bool) (w : Width) (p : Proc) (register a b : ℕ) → Stays p (with_product signed w p register a b)
stays_with_product signed w p register a b = stays_register w p _ register _ (stays_product signed w p (low_of w a) (low_of w b))

stays_scanned : (scan : Scan) (w : Width) (p : Proc) (register n : ℕ) → Stays p (scanned scan w p register n)
stays_scanned scan w p register n =
    stays_if p (n == 0) _ _ (stays_flags p p _ (stays_same p) (keeps_flag Zero true p.eflags tt))
    (stays_register w p _ register _ (stays_flags p p _ (stays_same p) (keeps_flag Zero false p.eflags tt)))

-- DF changed
stays_direction : (p : Proc) (b : Bool) → Stays p (with_flags p (with_flag Direction b p.eflags))
unfolding with_flag put_bit
stays_direction p b = record { tr = refl; gdtr = refl; nested = ap (λ n. n == 1) (go b) }
  where
    go : (c : Bool) → (with_flag Direction c p.eflags).0 / 2 ^ 14 % 2 ≡ p.eflags.0 / 2 ^ 14 % 2
    go true = omega arith
    go false = omega arith

keeps_low_flags : (byte : ℕ) (f : Flags) → KeepsOthers f (with_low_flags byte f)
keeps_low_flags byte f =
    let a = keeps_flag Sign (has_bit byte 7) f tt in
    let b = keeps_both f _ _ a (keeps_flag Zero (has_bit byte 6) _ tt) in
    let c = keeps_both f _ _ b (keeps_flag Adjust (has_bit byte 4) _ tt) in
    let d = keeps_both f _ _ c (keeps_flag Parity (has_bit byte 2) _ tt) in
    keeps_both f _ _ d (keeps_flag Carry (has_bit byte 0) _ tt)

stays_alone : (alone : Alone) (w : Width) (p : Proc) → Stays p (done_alone alone w p)
stays_alone alones.Nothing w p = stays_same p
stays_alone alones.ClearCarry w p = stays_flags p p _ (stays_same p) (keeps_flag Carry false p.eflags tt)
stays_alone alones.SetCarry w p = stays_flags p p _ (stays_same p) (keeps_flag Carry true p.eflags tt)
stays_alone alones.TurnCarry w p = stays_flags p p _ (stays_same p) (keeps_flag Carry _ p.eflags tt)
stays_alone alones.ClearDirection w p = stays_direction p false
stays_alone alones.SetDirection w p = stays_direction p true
stays_alone alones.StoreFlags w p = stays_flags p p _ (stays_same p) (keeps_low_flags _ p.eflags)
stays_alone alones.LoadFlags w p = stays_register W8 p p ah (p.eflags.0 % 2 ^ 8) (stays_same p)
stays_alone alones.Widen w p = stays_register w p p eax (extended_of true (half w) (low_of (half w) (register_at (half w) p eax))) (stays_same p)
stays_alone alones.SpreadSign w p = stays_register w p p edx (extension true (bits w) (register_at w p eax)) (stays_same p)

ruleset results = (plain, change_plain, stays_changed, stays_halves, stays_multiplied, stays_with_product, stays_scanned, stays_alone, memory_bit_plain)

divided_plain : (n : ℕ) (w : Width) (p : Proc) (found : Option (ℕ × ℕ)) (ts : List Ask) → Plain n (Ordinary p.gdtr) (Keeps p) ts (divided_phrase w p found)
divided_plain n w p (Some found) ts = plain_done n (Ordinary p.gdtr) (Keeps p) ts _ (keeps_stays p ts _ (stays_halves w p p found.1 found.0 (stays_same p)))
divided_plain n w p None ts = plain_faults n (Ordinary p.gdtr) (Keeps p) ts _

bit_string_plain : (op : BitOp) (m : Manner) (p : Proc) (a : Addr) (second : Place) (ts : List Ask) → Plain 8 (Ordinary p.gdtr) (Keeps p) ts (bit_string_phrase op m p a second)
bit_string_plain op m p a (Register register) ts = memory_bit_plain op m p (segment_number a.seg a.base) (unit_offset m.width (offset_of p a) (register_at m.width p register)) (register_at m.width p register) ts
bit_string_plain op m p a (Number number) ts = memory_bit_plain op m p (segment_number a.seg a.base) (offset_of p a) number ts
bit_string_plain op m p a (Memory b) ts = plain_faults 8 (Ordinary p.gdtr) (Keeps p) ts _
bit_string_plain op m p a Other ts = plain_faults 8 (Ordinary p.gdtr) (Keeps p) ts _

bit_of_plain : (op : BitOp) (m : Manner) (p : Proc) (first second : Place) (ts : List Ask) → Plain 8 (Ordinary p.gdtr) (Keeps p) ts (bit_of_phrase op m p first second)
unfolding register_bit_phrase
bit_of_plain op m p (Register register) second ts =
    value_then p.gdtr 8 (Keeps p) ts m.width p second _ refl (λ us k. change_plain 6 (Bit op k) m p (Register register) us refl)
bit_of_plain op m p (Memory a) second ts = bit_string_plain op m p a second ts
bit_of_plain op m p (Number number) second ts = plain_faults 8 (Ordinary p.gdtr) (Keeps p) ts _
bit_of_plain op m p Other second ts = plain_faults 8 (Ordinary p.gdtr) (Keeps p) ts _

exchange_with_plain : (w : Width) (p : Proc) (operand : Place) (register : ℕ) (ts : List Ask) → Plain 8 (Ordinary p.gdtr) (Keeps p) ts (exchange_with_phrase w p operand register)
unfolding swap_phrase
exchange_with_plain w p (Memory a) register ts =
    modify_then p.gdtr 8 (Keeps p) ts p (segment_number a.seg a.base) (offset_of p a) (len_of w) true _ _ refl
    (λ us old. plain_done 4 (Ordinary p.gdtr) (Keeps p) us _ (keeps_stays p us _ (stays_register w p p register old (stays_same p))))
exchange_with_plain w p (Register other) register ts =
    plain_done 8 (Ordinary p.gdtr) (Keeps p) ts _ (keeps_stays p ts _ (stays_register w p _ register _ (stays_register w p p other _ (stays_same p))))
exchange_with_plain w p (Number number) register ts = plain_faults 8 (Ordinary p.gdtr) (Keeps p) ts _
exchange_with_plain w p Other register ts = plain_faults 8 (Ordinary p.gdtr) (Keeps p) ts _

check_bounds_plain : (w : Width) (p : Proc) (register seg offset : ℕ) (ts : List Ask) → Plain 8 (Ordinary p.gdtr) (Keeps p) ts (check_bounds_phrase w p register seg offset)
unfolding check_bounds_phrase bounds_phrase
check_bounds_plain w p register seg offset ts =
    plain_bind 4 8 (Ordinary p.gdtr) Anything (Keeps p) ts (bounds_phrase w p seg offset) _ (omega arith)
    (read_then p.gdtr 4 Anything ts p roles.Operand seg offset (len_of w) _ refl refl
    (λ us lower. read_then p.gdtr 2 Anything us p roles.Operand seg ((offset + len_of w) % 2 ^ 32) (len_of w) _ refl refl
    (λ vs upper. plain_done 0 (Ordinary p.gdtr) Anything vs (lower, upper) tt)))
    (λ us bounds o. plain_if 4 (Ordinary p.gdtr) (Keeps p) us _ _ _ (plain_faults 4 (Ordinary p.gdtr) (Keeps p) us _) (plain_done 4 (Ordinary p.gdtr) (Keeps p) us p (keeps_stays p us p (stays_same p))))

arithmetic_plain : (op : AluOp) (m : Manner) (operands : Operands) (p : Proc) → PlainFrom 8 p (arithmetic_phrase op m operands p)
unfolding arithmetic_phrase
arithmetic_plain op m operands p = search results

compare_plain : (op : AluOp) (m : Manner) (operands : Operands) (p : Proc) → PlainFrom 8 p (compare_phrase op m operands p)
unfolding compare_phrase
compare_plain op m operands p = search results depth 9

single_plain : (change : Change) (m : Manner) (operands : Operands) (p : Proc) → PlainFrom 8 p (single_phrase change m operands p)
unfolding single_phrase
single_plain change m operands p = search results

multiply_plain : (signed : Bool) (m : Manner) (operands : Operands) (p : Proc) → PlainFrom 8 p (multiply_phrase signed m operands p)
unfolding multiply_phrase multiply_accumulator_phrase multiply_two_phrase
multiply_plain signed m Absent p = search results
multiply_plain signed m (One first) p = search results
multiply_plain signed m (Two first second) p = search results depth 9
multiply_plain signed m (Three first second third) p = search results depth 9
multiply_plain signed m Others p = search results

divide_plain : (signed : Bool) (m : Manner) (operands : Operands) (p : Proc) → PlainFrom 8 p (divide_phrase signed m operands p)
unfolding divide_phrase
divide_plain signed m operands p = search (results, divided_plain)

shift_plain : (op : ShiftOp) (m : Manner) (operands : Operands) (p : Proc) → PlainFrom 8 p (shift_phrase op m operands p)
unfolding shift_phrase
shift_plain op m operands p = search results

double_shift_plain : (left : Bool) (m : Manner) (operands : Operands) (p : Proc) → PlainFrom 8 p (double_shift_phrase left m operands p)
unfolding double_shift_phrase
double_shift_plain left m operands p = search results

bit_test_plain : (op : BitOp) (m : Manner) (operands : Operands) (p : Proc) → PlainFrom 8 p (bit_test_phrase op m operands p)
unfolding bit_test_phrase
bit_test_plain op m operands p = search (results, bit_of_plain)

scan_plain : (scan : Scan) (m : Manner) (operands : Operands) (p : Proc) → PlainFrom 8 p (scan_phrase scan m operands p)
unfolding scan_phrase
scan_plain scan m operands p = search results depth 9

move_plain : (m : Manner) (operands : Operands) (p : Proc) → PlainFrom 8 p (move_phrase m operands p)
unfolding move_phrase
move_plain m operands p = search results

extend_plain : (signed : Bool) (from : Width) (m : Manner) (operands : Operands) (p : Proc) → PlainFrom 8 p (extend_phrase signed from m operands p)
unfolding extend_phrase
extend_plain signed from m operands p = search results

exchange_plain : (m : Manner) (operands : Operands) (p : Proc) → PlainFrom 8 p (exchange_phrase m operands p)
unfolding exchange_phrase
exchange_plain m operands p = search (results, exchange_with_plain)

address_plain : (m : Manner) (operands : Operands) (p : Proc) → PlainFrom 8 p (address_phrase m operands p)
unfolding address_phrase
address_plain m operands p = search results

translate_plain : (operands : Operands) (p : Proc) → PlainFrom 8 p (translate_phrase operands p)
unfolding translate_phrase table_byte_phrase
translate_plain operands p = search results

bound_plain : (m : Manner) (operands : Operands) (p : Proc) → PlainFrom 8 p (bound_phrase m operands p)
unfolding bound_phrase
bound_plain m operands p = search (results, check_bounds_plain)

set_plain : (condition : Condition) (operands : Operands) (p : Proc) → PlainFrom 8 p (set_phrase condition operands p)
unfolding set_phrase
set_plain condition operands p = search results

update_plain : (update : Update) (m : Manner) (operands : Operands) (p : Proc) → PlainFrom 8 p (update_phrase update m operands p)
update_plain (updates.Arithmetic op) m operands p = arithmetic_plain op m operands p
update_plain (updates.Single change) m operands p = single_plain change m operands p
update_plain (updates.Shift op) m operands p = shift_plain op m operands p
update_plain (updates.DoubleShift left) m operands p = double_shift_plain left m operands p

comparison_plain : (comparison : Comparison) (m : Manner) (operands : Operands) (p : Proc) → PlainFrom 8 p (comparison_phrase comparison m operands p)
comparison_plain (comparisons.Flags op) m operands p = compare_plain op m operands p
comparison_plain (comparisons.Search scan) m operands p = scan_plain scan m operands p
comparison_plain comparisons.Bound m operands p = bound_plain m operands p

products_plain : (products : Products) (m : Manner) (operands : Operands) (p : Proc) → PlainFrom 8 p (products_phrase products m operands p)
products_plain (products_group.Multiply signed) m operands p = multiply_plain signed m operands p
products_plain (products_group.Divide signed) m operands p = divide_plain signed m operands p

moves_plain : (moves : Moves) (m : Manner) (operands : Operands) (p : Proc) → PlainFrom 8 p (moves_phrase moves m operands p)
moves_plain moves_group.Move m operands p = move_plain m operands p
moves_plain (moves_group.Extend signed from) m operands p = extend_plain signed from m operands p
moves_plain moves_group.Exchange m operands p = exchange_plain m operands p
moves_plain moves_group.Address m operands p = address_plain m operands p
moves_plain moves_group.Translate m operands p = translate_plain operands p
moves_plain (moves_group.Set condition) m operands p = set_plain condition operands p

-- each group, one line
action_plain : (action : Action) (m : Manner) (operands : Operands) (p : Proc) → PlainFrom 8 p (action_phrase action m operands p)
action_plain (actions.Update update) m operands p = update_plain update m operands p
action_plain (actions.Comparison comparison) m operands p = comparison_plain comparison m operands p
action_plain (actions.Products products) m operands p = products_plain products m operands p
action_plain (actions.BitTest op) m operands p = bit_test_plain op m operands p
action_plain (actions.Moves moves) m operands p = moves_plain moves m operands p
action_plain (actions.Alone alone) m operands p = plain_done 8 (Ordinary p.gdtr) (Keeps p) [] _ (keeps_stays p [] _ (stays_alone alone m.width p))

named_plain : (action : Option Action) (m : Manner) (operands : Operands) (p : Proc) → PlainFrom 8 p (named_phrase action m operands p)
named_plain (Some action) m operands p = action_plain action m operands p
named_plain None m operands p = plain_faults 8 (Ordinary p.gdtr) (Keeps p) [] _

pub exec_plain : (op : Op) (p : Proc) → PlainFrom 8 p (exec_phrase op p)
unfolding exec_phrase
exec_plain op p = named_plain (action_of op.name) (manner_of op) (operands_of op) p
