-- One instruction: the crate that has its operation.
use Rattle.std.specs.Prelude.{ℕ, ◌+◌, ◌%◌, ◌^◌, if◌then◌else◌}
use Rattle.m386_base.specs.Phrase.{Phrase, Done, Faults, ◌>>=◌}
use Rattle.m386_opmap.specs.declared.op.Op.{Op}
use Rattle.m386_state.specs.declared.proc.Proc.{Proc}
use Rattle.m386_access.specs.After.{at_eip}
use Rattle.m386_base.specs.Exceptions.{undefined_opcode_of}
use Rattle.m386_data.specs.Exec as data_ops
use Rattle.m386_deliver.specs.Exec as deliver_ops
use Rattle.m386_deliver.specs.Exec.{delivers}
use Rattle.m386_gates.specs.Exec as gates_ops
use Rattle.m386_iomap.specs.Exec as ports_ops
use Rattle.m386_segments.specs.Exec as segments_ops
use Rattle.m386_stack.specs.Exec as stack_ops
use Rattle.m386_string.specs.Exec as string_ops
use Rattle.m386_string.specs.Repetition.{behind_turn}
use Rattle.m386_system.specs.Exec as system_ops
use Rattle.m386_transfer.specs.declared.executed.Executed.{Executed}
use Rattle.m386_transfer.specs.declared.executed.Executed.TheVariants.{Ran, Came}
use Rattle.m386_transfer.specs.Executed.{simply}
use Rattle.m386_step.specs.Code.{decode_phrase}
use Rattle.m386_step.specs.Fetch.{first_reader}
use Rattle.m386_step.specs.Settled.{settled, behind_switch}

-- What an operation does, with EIP behind it: the first crate that takes it. One that isn't built is #UD.
-- Source: Intel 80386 PRM 17.2; #UD: docs/DECISIONS.md, "Operations that aren't built"
unfoldable pub operation_phrase : Op → Proc → Phrase Executed
operation_phrase op p =
    if data_ops.takes op then simply (data_ops.exec_phrase op p)
    else if deliver_ops.takes op then deliver_ops.exec_phrase op p
    else if gates_ops.takes op then gates_ops.exec_phrase op p
    else if ports_ops.takes op then simply (ports_ops.exec_phrase op p)
    else if segments_ops.takes op then simply (segments_ops.exec_phrase op p)
    else if stack_ops.takes op then simply (stack_ops.exec_phrase op p)
    else if string_ops.takes op then simply (string_ops.exec_phrase op p)
    else if system_ops.takes op then simply (system_ops.exec_phrase op p)
    else Faults undefined_opcode_of

-- What an operation of an instruction that began in a state comes to: EIP is the instruction's again where a further turn follows; and
-- the trap or the fault behind it is pending. Or what a switch makes of it.
abbrev pub behind_operation : Op → Proc → Executed → Proc
behind_operation op before (Ran r) = settled (delivers op before) before (behind_turn op before r.after) r.fault
behind_operation op before (Came r) = behind_switch before r

-- An instruction of so many bytes, or a turn of one that is repeated.
-- Source: Intel 80386 PRM 17.2.1, 3.6.1
unfoldable pub decoded_phrase : Op → ℕ → Proc → Phrase Proc
decoded_phrase op len p = do
  e ← operation_phrase op (at_eip p ((p.eip + len) % 2 ^ 32))
  Done (behind_operation op p e)

-- The instruction at EIP.
-- Source: Intel 80386 PRM 17.2.1
unfoldable pub instruction_phrase : Proc → Phrase Proc
instruction_phrase p = do
  d ← decode_phrase (first_reader p)
  decoded_phrase d.op d.len p
