-- The operations of this crate: INT n, INT3, INTO and IRET, which may end in a task switch.
use Rattle.std.specs.Prelude.{ℕ, Bool, true, false, is_some, List, [], ◌∷◌, ◌%◌, if◌then◌else◌, Option, Some, None}
use Rattle.m386_base.specs.declared.exception.Exception.TheVariants as exceptions
use Rattle.m386_base.specs.declared.flags.Flag.TheVariants as flags
use Rattle.m386_base.specs.declared.number.Width.{Width}
use Rattle.m386_base.specs.Exceptions.{undefined_opcode_of, vector_of}
use Rattle.m386_base.specs.Flags.{has_flag}
use Rattle.m386_base.specs.Phrase.{Phrase, Faults}
use Rattle.m386_opmap.specs.declared.name.Name.{Name}
use Rattle.m386_opmap.specs.declared.name.Name.TheVariants as names
use Rattle.m386_opmap.specs.declared.op.Arg.{Arg}
use Rattle.m386_opmap.specs.declared.op.Arg.TheVariants.{Imm}
use Rattle.m386_opmap.specs.declared.op.Op.{Op}
use Rattle.m386_state.specs.declared.event.Cause.TheVariants.{Soft}
use Rattle.m386_state.specs.declared.event.Event.{Event}
use Rattle.m386_state.specs.declared.proc.Proc.{Proc}
use Rattle.m386_transfer.specs.declared.executed.Executed.{Executed}
use Rattle.m386_transfer.specs.Executed.{ran_whole}
use Rattle.m386_deliver.specs.Deliver.{entered_phrase}
use Rattle.m386_deliver.specs.Iret.{returned_phrase}
use Rattle.m386_deliver.specs.declared.exec.HandlerWork.{HandlerWork}
use Rattle.m386_deliver.specs.declared.exec.HandlerWork.TheVariants.{Enter, EnterOnOverflow, Leave}

-- the vector of INT n
abbrev pub vector_in : List Arg → Option HandlerWork
vector_in (Imm number ∷ []) = Some (Enter (number % 256))
vector_in _ = None

-- What the operation of a name with its operands does, where it is one of this crate's.
-- Source: Intel 80386 PRM 17.2.2.11, INT/INTO, IRET; 9.8.3, 9.8.4
abbrev pub handler_work_of : Name → List Arg → Option HandlerWork
handler_work_of names.Int args = vector_in args
handler_work_of names.Int3 args = Some (Enter (vector_of exceptions.Breakpoint))
handler_work_of names.Into args = Some EnterOnOverflow
handler_work_of names.Iret args = Some Leave
handler_work_of _ args = None

-- An event that the program itself asks for. It has no error code, so nothing is pushed behind a switch.
-- Source: Intel 80386 PRM 9.1, 9.7
abbrev pub asked_for : ℕ → Event
asked_for vector = record { vector = vector; code = None; cause = Soft }

-- it makes a delivery in a state
abbrev pub work_delivers : Option HandlerWork → Proc → Bool
work_delivers (Some (Enter vector)) p = true
work_delivers (Some EnterOnOverflow) p = has_flag flags.Overflow p.eflags
work_delivers (Some Leave) p = false
work_delivers None p = false

-- An operation makes a delivery in the state before it, where it ends in no fault.
-- Source: Intel 80386 PRM 17.2.2.11, INT/INTO
unfoldable pub delivers : Op → Proc → Bool
delivers op p = work_delivers (handler_work_of op.name op.args.items) p

-- whether an operation is one of this crate's
unfoldable pub takes : Op → Bool
takes op = is_some (handler_work_of op.name op.args.items)

-- INTO.
-- Source: Intel 80386 PRM 9.8.4
unfoldable pub on_overflow_phrase : Proc → Phrase Executed
on_overflow_phrase p = if has_flag flags.Overflow p.eflags then entered_phrase p (asked_for (vector_of exceptions.Overflow)) else ran_whole p

-- one case for each kind of work
abbrev pub work_phrase : Option HandlerWork → Width → Proc → Phrase Executed
work_phrase (Some (Enter vector)) w p = entered_phrase p (asked_for vector)
work_phrase (Some EnterOnOverflow) w p = on_overflow_phrase p
work_phrase (Some Leave) w p = returned_phrase p w
work_phrase None w p = Faults undefined_opcode_of

-- An operation of this crate, with EIP behind it. A fault is seen in the state before the instruction, and what a switch came to is
-- found.
-- Source: Intel 80386 PRM 17.2.2.11, INT/INTO, IRET
unfoldable pub exec_phrase : Op → Proc → Phrase Executed
exec_phrase op p = work_phrase (handler_work_of op.name op.args.items) op.width p
