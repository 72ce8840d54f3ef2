-- The operations of this crate, of which a far JMP or CALL may end in a task switch.
use Rattle.std.specs.Prelude.{Bool, is_some, Option, Some, None}
use Rattle.m386_base.specs.Exceptions.{undefined_opcode_of}
use Rattle.m386_base.specs.Phrase.{Phrase, Faults}
use Rattle.m386_opmap.specs.declared.op.Op.{Op}
use Rattle.m386_state.specs.declared.proc.Proc.{Proc}
use Rattle.m386_transfer.specs.declared.executed.Executed.{Executed}
use Rattle.m386_gates.specs.Transfer.{transfer_of, transfer_phrase}
use Rattle.m386_gates.specs.declared.transfer.Transfer.{Transfer}

abbrev pub action_phrase : Option Transfer → Op → Proc → Phrase Executed
action_phrase (Some transfer) op p = transfer_phrase transfer op p
action_phrase None op p = Faults undefined_opcode_of

-- whether an operation is one of this crate's
unfoldable pub takes : Op → Bool
takes op = is_some (transfer_of op.name)

-- An operation of this crate, with EIP behind it. A fault is seen in the state before the instruction, and what a switch came to is
-- found.
-- Source: Intel 80386 PRM 17.2.2.11; #UD: docs/DECISIONS.md, "Operations that aren't built"
unfoldable pub exec_phrase : Op → Proc → Phrase Executed
exec_phrase op p = action_phrase (transfer_of op.name) op p
