-- The law of each kind of operation.
use Rattle.std.proofs.Common.{arith, ◌≡◌, ℕ, ◌-◌, ◌*◌, ◌==◌, ◌∙◌, sym, List, [], ◌∷◌, length, refl, true, nat_le, Option, Some, None}
use Rattle.m386_base.specs.declared.ask.Ask.{Ask}
use Rattle.m386_base.specs.declared.ask.Role.TheVariants as roles
use Rattle.m386_base.specs.declared.number.Width.{Width}
use Rattle.m386_base.specs.Plain.{Plain}
use Rattle.m386_base.specs.Segments.{cs}
use Rattle.m386_base.proofs.Plain.{plain_done, plain_faults, plain_if, plain_bind}
use Rattle.m386_opmap.specs.declared.op.Op.{Op}
use Rattle.m386_state.specs.declared.proc.Proc.{Proc}
use Rattle.m386_state.specs.declared.segment.Seg.{Seg}
use Rattle.m386_state.specs.declared.segment.TableReg.{TableReg}
use Rattle.m386_state.specs.Start.{seg_at}
use Rattle.m386_access.specs.Ordinary.{Ordinary, Keeps, PlainFrom}
use Rattle.m386_access.specs.Registers.{ebp}
use Rattle.m386_access.specs.declared.operands.Place.{Place}
use Rattle.m386_access.specs.declared.operands.Place.TheVariants.{Register, Number, Memory, Other}
use Rattle.m386_access.proofs.Phrases.{Stays, stays_same, stays_register, keeps_stays, value_then, put_plain}
use Rattle.m386_access.proofs.Popped.{keeps_popped}
use Rattle.m386_segload.specs.Segments.{with_segment}
use Rattle.m386_segload.proofs.Loads.{segment_then}
use Rattle.m386_stack.specs.declared.names.StackOp.{StackOp}
use Rattle.m386_stack.specs.declared.names.StackOp.TheVariants.{Push, Pop, PushAll, PopAll, PushFlags, PopFlags, Leave}
use Rattle.m386_stack.specs.declared.single.Item.{Item}
use Rattle.m386_stack.specs.declared.single.Item.TheVariants.{Segment, General}
use Rattle.m386_stack.specs.declared.stack.Stack.{Stack}
use Rattle.m386_stack.specs.All.{pushed_registers, push_registers_phrase, pop_register_phrase, pops, depth_of, popped_registers, pop_registers_phrase}
use Rattle.m386_stack.specs.Exec.{stack_op_phrase, exec_phrase}
use Rattle.m386_stack.specs.Flags.{pop_flags_phrase}
use Rattle.m386_stack.specs.Frame.{frame_stack, leave_phrase}
use Rattle.m386_stack.specs.Names.{size_of, stack_op_of}
use Rattle.m386_stack.specs.Single.{item_of, push_value_phrase, push_general_phrase, push_item_phrase, behind_pop, pop_general_phrase, pop_place_phrase, behind_load, pop_segment_phrase, pop_item_phrase}
use Rattle.m386_stack.specs.Stack.{own_stack, moved, with_pointer}
use Rattle.m386_stack.proofs.Images.{pop_flags_then, is_length, popped_nested}
use Rattle.m386_stack.proofs.Pushed.{push_then, pop_then, pushes_then}

-- ESP changed besides
pub stays_pointer : (p q : Proc) (st : Stack) → Stays p q → Stays p (with_pointer q st)
stays_pointer p q st s = record { tr = s.tr; gdtr = s.gdtr; nested = s.nested }

-- a segment register changed besides
pub stays_segment : (p q : Proc) (seg : ℕ) (value : Seg) → Stays p q → Stays p (with_segment q seg value)
unfolding with_segment
stays_segment p q seg value s = record { tr = s.tr; gdtr = s.gdtr; nested = s.nested }

push_value_plain : (n : ℕ) (p : Proc) (w : Width) (value : ℕ) (ts : List Ask) → nat_le 2 n ≡ true → Plain n (Ordinary p.gdtr) (Keeps p) ts (push_value_phrase p w value)
unfolding push_value_phrase
push_value_plain n p w value ts l = push_then p.gdtr n (Keeps p) ts (own_stack p) (size_of w) value _ l (λ us next. plain_done (n - 2) (Ordinary p.gdtr) (Keeps p) us _ (keeps_stays p us _ (stays_pointer p p next (stays_same p))))

push_item_plain : (p : Proc) (w : Width) (item : Item) → PlainFrom 16 p (push_item_phrase p w item)
unfolding push_general_phrase
push_item_plain p w (Segment seg) = push_value_plain 16 p w (seg_at p seg).selector [] refl
push_item_plain p w (General operand) = value_then p.gdtr 16 (Keeps p) [] w p operand _ refl (λ us value. push_value_plain 14 p w value us refl)

pop_general_plain : (p : Proc) (w : Width) (operand : Place) → PlainFrom 16 p (pop_general_phrase p w operand)
unfolding pop_general_phrase
pop_general_plain p w operand = pop_then p.gdtr 16 (Keeps p) [] roles.Pop (own_stack p) (size_of w) _ refl refl (λ us value. put_plain 14 w p (behind_pop p w) operand value us refl (stays_pointer p p (moved (own_stack p) (size_of w)) (stays_same p)))

pop_place_plain : (p : Proc) (w : Width) (operand : Place) → PlainFrom 16 p (pop_place_phrase p w operand)
pop_place_plain p w (Register register) = pop_general_plain p w (Register register)
pop_place_plain p w (Memory a) = pop_general_plain p w (Memory a)
pop_place_plain p w (Number number) = plain_faults 16 (Ordinary p.gdtr) (Keeps p) [] _
pop_place_plain p w Other = plain_faults 16 (Ordinary p.gdtr) (Keeps p) [] _

stays_load : (p : Proc) (w : Width) (seg : ℕ) (value : Seg) → Stays p (behind_load p w seg value)
stays_load p w seg value =
    let s : Stays p (with_pointer (with_segment p seg value) (moved (own_stack p) (size_of w))) = stays_pointer p (with_segment p seg value) (moved (own_stack p) (size_of w)) (stays_segment p p seg value (stays_same p)) in
    record { tr = s.tr; gdtr = s.gdtr; nested = s.nested }

pop_segment_plain : (p : Proc) (w : Width) (seg : ℕ) → PlainFrom 16 p (pop_segment_phrase p w seg)
unfolding pop_segment_phrase
pop_segment_plain p w seg =
    pop_then p.gdtr 16 (Keeps p) [] roles.Pop (own_stack p) (size_of w) _ refl refl (λ us value.
    segment_then p 14 (Keeps p) us seg _ _ refl (λ vs found.
    plain_done 9 (Ordinary p.gdtr) (Keeps p) vs _ (keeps_stays p vs _ (stays_load p w seg found))))

pop_item_plain : (p : Proc) (w : Width) (item : Item) → PlainFrom 16 p (pop_item_phrase p w item)
pop_item_plain p w (Segment seg) = plain_if 16 (Ordinary p.gdtr) (Keeps p) [] (seg == cs) _ _ (plain_faults 16 (Ordinary p.gdtr) (Keeps p) [] _) (pop_segment_plain p w seg)
pop_item_plain p w (General operand) = pop_place_plain p w operand

push_registers_plain : (p : Proc) (w : Width) → PlainFrom 16 p (push_registers_phrase p w)
unfolding push_registers_phrase
push_registers_plain p w = pushes_then p.gdtr 16 (Keeps p) [] (own_stack p) (size_of w) (pushed_registers p w) _ refl (λ us next. plain_done 0 (Ordinary p.gdtr) (Keeps p) us _ (keeps_stays p us _ (stays_pointer p p next (stays_same p))))

-- what is behind each pop of POPA
StaysFrom : Proc → List Ask → Proc → Type 0
StaysFrom p us after = Stays p after

pop_register_plain : (gdt : TableReg) (p q : Proc) (st : Stack) (w : Width) (register : ℕ) (ts : List Ask) → Stays p q → Plain 2 (Ordinary gdt) (StaysFrom p) ts (pop_register_phrase q st w register)
unfolding pop_register_phrase StaysFrom
pop_register_plain gdt p q st w register ts s =
    pop_then gdt 2 (StaysFrom p) ts roles.Pop (moved st (depth_of register * size_of w)) (size_of w) _ refl refl (λ us value. plain_done 0 (Ordinary gdt) (StaysFrom p) us _ (stays_register w p q register value s))

all_pops : (gdt : TableReg) (p q : Proc) (st : Stack) (w : Width) (rs : List ℕ) (ts : List Ask) → Stays p q → Plain (length rs * 2) (Ordinary gdt) (StaysFrom p) ts (pops q st w rs)
unfolding pops StaysFrom
all_pops gdt p q st w [] ts s = plain_done 0 (Ordinary gdt) (StaysFrom p) ts q s
all_pops gdt p q st w (r ∷ rs) ts s =
    let e : length (r ∷ rs) * 2 - 2 ≡ length rs * 2 = omega arith in
    plain_bind 2 (length (r ∷ rs) * 2) (Ordinary gdt) (StaysFrom p) (StaysFrom p) ts (pop_register_phrase q st w r) (λ next. pops next st w rs) (omega arith) (pop_register_plain gdt p q st w r ts s) (λ us next o. rw e (all_pops gdt p next st w rs us o))

pop_registers_plain : (p : Proc) (w : Width) → PlainFrom 16 p (pop_registers_phrase p w)
unfolding pop_registers_phrase StaysFrom
pop_registers_plain p w =
    plain_bind 14 16 (Ordinary p.gdtr) (StaysFrom p) (Keeps p) [] (pops p (own_stack p) w popped_registers) _ (omega arith) (all_pops p.gdtr p p (own_stack p) w popped_registers [] (stays_same p))
    (λ us popped s. plain_done 2 (Ordinary p.gdtr) (Keeps p) us _ (keeps_stays p us _ (stays_pointer p popped (moved (own_stack p) (8 * size_of w)) s)))

pop_flags_plain : (p : Proc) (w : Width) → PlainFrom 16 p (pop_flags_phrase p w)
unfolding pop_flags_phrase
pop_flags_plain p w = pop_flags_then p.gdtr 16 (Keeps p) [] (own_stack p) (size_of w) _ refl (is_length w) (λ us image h. plain_done 14 (Ordinary p.gdtr) (Keeps p) us _ (keeps_popped p us _ refl refl (λ k. h (sym (popped_nested p image) ∙ k))))

leave_plain : (p : Proc) (w : Width) → PlainFrom 16 p (leave_phrase p w)
unfolding leave_phrase
leave_plain p w =
    pop_then p.gdtr 16 (Keeps p) [] roles.Pop (frame_stack p) (size_of w) _ refl refl
    (λ us value. plain_done 14 (Ordinary p.gdtr) (Keeps p) us _ (keeps_stays p us _ (stays_register w p (with_pointer p (moved (frame_stack p) (size_of w))) ebp value (stays_pointer p p (moved (frame_stack p) (size_of w)) (stays_same p)))))

-- each kind of operation, one line
stack_op_plain : (what : Option StackOp) (op : Op) (p : Proc) → PlainFrom 16 p (stack_op_phrase what op p)
stack_op_plain (Some Push) op p = push_item_plain p op.width (item_of op.args.items)
stack_op_plain (Some Pop) op p = pop_item_plain p op.width (item_of op.args.items)
stack_op_plain (Some PushAll) op p = push_registers_plain p op.width
stack_op_plain (Some PopAll) op p = pop_registers_plain p op.width
stack_op_plain (Some PushFlags) op p = push_value_plain 16 p op.width p.eflags.0 [] refl
stack_op_plain (Some PopFlags) op p = pop_flags_plain p op.width
stack_op_plain (Some Leave) op p = leave_plain p op.width
stack_op_plain None op p = plain_faults 16 (Ordinary p.gdtr) (Keeps p) [] _

pub exec_plain : (op : Op) (p : Proc) → PlainFrom 16 p (exec_phrase op p)
unfolding exec_phrase
exec_plain op p = stack_op_plain (stack_op_of op.name op.width) op p
