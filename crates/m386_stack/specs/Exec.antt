-- The operations of this crate.
use Rattle.std.specs.Prelude.{Bool, is_some, Option, Some, None}
use Rattle.m386_base.specs.Exceptions.{undefined_opcode_of}
use Rattle.m386_base.specs.Phrase.{Phrase, Faults}
use Rattle.m386_opmap.specs.declared.op.Op.{Op}
use Rattle.m386_state.specs.declared.proc.Proc.{Proc}
use Rattle.m386_stack.specs.declared.names.StackOp.{StackOp}
use Rattle.m386_stack.specs.declared.names.StackOp.TheVariants.{Push, Pop, PushAll, PopAll, PushFlags, PopFlags, Leave}
use Rattle.m386_stack.specs.All.{push_registers_phrase, pop_registers_phrase}
use Rattle.m386_stack.specs.Flags.{pop_flags_phrase}
use Rattle.m386_stack.specs.Frame.{leave_phrase}
use Rattle.m386_stack.specs.Names.{stack_op_of}
use Rattle.m386_stack.specs.Single.{item_of, push_item_phrase, pop_item_phrase, push_value_phrase}

-- One case for each kind of operation. PUSHF pushes the flags register.
-- Source: Intel 80386 PRM 17.2.2.11, PUSHF; #UD: docs/DECISIONS.md, "Operations that aren't built"
abbrev pub stack_op_phrase : Option StackOp → Op → Proc → Phrase Proc
stack_op_phrase (Some Push) op p = push_item_phrase p op.width (item_of op.args.items)
stack_op_phrase (Some Pop) op p = pop_item_phrase p op.width (item_of op.args.items)
stack_op_phrase (Some PushAll) op p = push_registers_phrase p op.width
stack_op_phrase (Some PopAll) op p = pop_registers_phrase p op.width
stack_op_phrase (Some PushFlags) op p = push_value_phrase p op.width p.eflags.0
stack_op_phrase (Some PopFlags) op p = pop_flags_phrase p op.width
stack_op_phrase (Some Leave) op p = leave_phrase p op.width
stack_op_phrase None op p = Faults undefined_opcode_of

-- whether an operation is one of this crate's
unfoldable pub takes : Op → Bool
takes op = is_some (stack_op_of op.name op.width)

-- An operation of this crate, with EIP behind it.
-- Source: Intel 80386 PRM 17.2.2.11
unfoldable pub exec_phrase : Op → Proc → Phrase Proc
exec_phrase op p = stack_op_phrase (stack_op_of op.name op.width) op p
