-- PUSH and POP.
use Rattle.std.specs.Prelude.{ℕ, ◌%◌, ◌^◌, ◌==◌, ◌||◌, List, [], ◌∷◌, if◌then◌else◌}
use Rattle.m386_base.specs.declared.ask.Role.TheVariants as roles
use Rattle.m386_base.specs.declared.number.Width.{Width}
use Rattle.m386_base.specs.Exceptions.{undefined_opcode_of}
use Rattle.m386_base.specs.Phrase.{Phrase, Done, Faults, ◌>>=◌}
use Rattle.m386_base.specs.Segments.{cs, ss}
use Rattle.m386_opmap.specs.declared.op.Arg.{Arg}
use Rattle.m386_opmap.specs.declared.op.Arg.TheVariants as args
use Rattle.m386_state.specs.declared.proc.Proc.{Proc}
use Rattle.m386_state.specs.declared.segment.Seg.{Seg}
use Rattle.m386_state.specs.Start.{seg_at}
use Rattle.m386_access.specs.declared.operands.Place.{Place}
use Rattle.m386_access.specs.declared.operands.Place.TheVariants.{Register, Number, Memory, Other}
use Rattle.m386_access.specs.Operands.{value_phrase, put_phrase}
use Rattle.m386_segload.specs.Segments.{segment_phrase, with_segment}
use Rattle.m386_stack.specs.declared.single.Item.{Item}
use Rattle.m386_stack.specs.declared.single.Item.TheVariants.{Segment, General}
use Rattle.m386_stack.specs.Names.{size_of}
use Rattle.m386_stack.specs.Stack.{own_stack, moved, push_phrase, pop_phrase, with_pointer}

-- what is pushed or popped, by the operands
abbrev pub item_of : List Arg → Item
item_of (args.Seg seg ∷ []) = Segment seg
item_of (args.Reg register ∷ []) = General (Register register)
item_of (args.Imm number ∷ []) = General (Number number)
item_of (args.Mem a ∷ []) = General (Memory a)
item_of _ = General Other

-- a value pushed on the processor's stack
unfoldable pub push_value_phrase : Proc → Width → ℕ → Phrase Proc
push_value_phrase p w value = do
  st ← push_phrase (own_stack p) (size_of w) value
  Done (with_pointer p st)

-- PUSH of a general register, a number or memory: the operand is read first, in the state before.
-- Source: Intel 80386 PRM 17.2.2.11, PUSH
unfoldable pub push_general_phrase : Proc → Width → Place → Phrase Proc
push_general_phrase p w operand = do
  value ← value_phrase w p operand
  push_value_phrase p w value

-- PUSH. A segment register is pushed with zeros above it.
-- Source: Intel 80386 PRM 17.2.2.11, PUSH; the zeros: docs/DECISIONS.md, "Pushes and pops"
abbrev pub push_item_phrase : Proc → Width → Item → Phrase Proc
push_item_phrase p w (Segment seg) = push_value_phrase p w (seg_at p seg).selector
push_item_phrase p w (General operand) = push_general_phrase p w operand

-- the state behind a pop, with the pointer moved
abbrev pub behind_pop : Proc → Width → Proc
behind_pop p w = with_pointer p (moved (own_stack p) (size_of w))

-- POP to a general register or memory: the pointer is moved, and then the value is put. So an address by ESP is that of the
-- moved one, and POP ESP leaves the value.
-- Source: Intel 80386 PRM 17.2.2.11, POP
unfoldable pub pop_general_phrase : Proc → Width → Place → Phrase Proc
pop_general_phrase p w operand = do
  value ← pop_phrase roles.Pop (own_stack p) (size_of w)
  put_phrase w (behind_pop p w) operand value

-- what can't be put isn't popped
abbrev pub pop_place_phrase : Proc → Width → Place → Phrase Proc
pop_place_phrase p w (Register register) = pop_general_phrase p w (Register register)
pop_place_phrase p w (Memory a) = pop_general_phrase p w (Memory a)
pop_place_phrase p w (Number number) = Faults undefined_opcode_of
pop_place_phrase p w Other = Faults undefined_opcode_of

-- Behind a segment register that was popped, by the stack that it was popped from. A load of SS holds interrupts back.
-- Source: Intel 80386 PRM 9.2.4
abbrev pub behind_load : Proc → Width → ℕ → Seg → Proc
behind_load p w seg value = record (with_pointer (with_segment p seg value) (moved (own_stack p) (size_of w))) { shadow = (seg == ss) || p.shadow }

-- POP to a segment register: 4 bytes, of which the low 16 bits count, or 2 bytes; then the load.
-- Source: Intel 80386 PRM 17.2.2.11, POP; the bytes: docs/DECISIONS.md, "Pushes and pops"
unfoldable pub pop_segment_phrase : Proc → Width → ℕ → Phrase Proc
pop_segment_phrase p w seg = do
  value ← pop_phrase roles.Pop (own_stack p) (size_of w)
  found ← segment_phrase p seg (value % 2 ^ 16)
  Done (behind_load p w seg found)

-- POP. CS can't be popped.
-- Source: Intel 80386 PRM 17.2.2.11, POP
abbrev pub pop_item_phrase : Proc → Width → Item → Phrase Proc
pop_item_phrase p w (Segment seg) = if seg == cs then Faults undefined_opcode_of else pop_segment_phrase p w seg
pop_item_phrase p w (General operand) = pop_place_phrase p w operand
