-- The operations of this crate.
use Rattle.std.specs.Prelude.{Bool, is_some, Option, Some, None, ◌==◌, if◌then◌else◌}
use Rattle.m386_base.specs.Phrase.{Phrase, Done, Faults}
use Rattle.m386_base.specs.Exceptions.{general_protection_of, undefined_opcode_of}
use Rattle.m386_opmap.specs.declared.op.Op.{Op}
use Rattle.m386_state.specs.declared.proc.Proc.{Proc}
use Rattle.m386_state.specs.Start.{cpl_of}
use Rattle.m386_access.specs.After.{with_register}
use Rattle.m386_access.specs.Operands.{operands_of}
use Rattle.m386_system.specs.Control.{load_control_phrase, load_status_phrase, store_word_phrase, task_switched_cleared}
use Rattle.m386_system.specs.Coprocessor.{escape_phrase, wait_phrase}
use Rattle.m386_system.specs.Halt.{halted}
use Rattle.m386_system.specs.Interrupts.{put_interrupts_phrase}
use Rattle.m386_system.specs.Tables.{load_phrase, load_local_phrase, store_phrase}
use Rattle.m386_system.specs.Task.{load_task_phrase}
use Rattle.m386_system.specs.Work.{work_of}
use Rattle.m386_system.specs.declared.work.Privileged.{Privileged}
use Rattle.m386_system.specs.declared.work.Privileged.TheVariants as privileged
use Rattle.m386_system.specs.declared.work.Unprivileged.{Unprivileged}
use Rattle.m386_system.specs.declared.work.Unprivileged.TheVariants as unprivileged
use Rattle.m386_system.specs.declared.work.Work.{Work}
use Rattle.m386_system.specs.declared.work.Work.TheVariants as kinds

-- one case for each privileged operation, at CPL 0
abbrev pub privileged_phrase : Privileged → Op → Proc → Phrase Proc
privileged_phrase privileged.Halt op p = Done (halted p)
privileged_phrase (privileged.LoadTable table) op p = load_phrase p table op.width (operands_of op)
privileged_phrase privileged.LoadLocalTable op p = load_local_phrase p (operands_of op)
privileged_phrase privileged.LoadTask op p = load_task_phrase p (operands_of op)
privileged_phrase privileged.LoadStatus op p = load_status_phrase p (operands_of op)
privileged_phrase (privileged.LoadControl register) op p = load_control_phrase p register
privileged_phrase (privileged.StoreControl register) op p = Done (with_register p register p.cr0)
privileged_phrase privileged.ClearTaskSwitched op p = Done (task_switched_cleared p)

-- The level comes before the operand.
-- Source: Intel 80386 PRM 6.3.5.1; the order: docs/DECISIONS.md, "Privilege before the operand"
unfoldable pub at_level_0_phrase : Privileged → Op → Proc → Phrase Proc
at_level_0_phrase what op p = if cpl_of p == 0 then privileged_phrase what op p else Faults general_protection_of

-- one case for each operation that isn't privileged
abbrev pub unprivileged_phrase : Unprivileged → Op → Proc → Phrase Proc
unprivileged_phrase (unprivileged.StoreTable table) op p = store_phrase p table (operands_of op)
unprivileged_phrase (unprivileged.StoreWord word) op p = store_word_phrase p word (operands_of op)
unprivileged_phrase (unprivileged.PutInterrupts value) op p = put_interrupts_phrase p value
unprivileged_phrase unprivileged.Wait op p = wait_phrase p
unprivileged_phrase unprivileged.Escape op p = escape_phrase

-- one case for each kind of work
abbrev pub work_phrase : Option Work → Op → Proc → Phrase Proc
work_phrase (Some (kinds.Privileged what)) op p = at_level_0_phrase what op p
work_phrase (Some (kinds.Unprivileged what)) op p = unprivileged_phrase what op p
work_phrase None op p = Faults undefined_opcode_of

-- whether an operation is one of this crate's
unfoldable pub takes : Op → Bool
takes op = is_some (work_of op.name op.args.items)

-- An operation of this crate, with EIP behind it.
-- Source: Intel 80386 PRM 17.2.2.11
unfoldable pub exec_phrase : Op → Proc → Phrase Proc
exec_phrase op p = work_phrase (work_of op.name op.args.items) op p
