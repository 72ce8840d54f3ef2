-- WAIT and the operations for a coprocessor, of which there is none.
use Rattle.std.specs.Prelude.{ℕ, Bool, ◌&&◌, if◌then◌else◌}
use Rattle.m386_base.specs.declared.exception.Exception.TheVariants.{CoprocessorNotAvailable}
use Rattle.m386_base.specs.Exceptions.{fault_of}
use Rattle.m386_base.specs.Flags.{has_bit}
use Rattle.m386_base.specs.Phrase.{Phrase, Done, Faults}
use Rattle.m386_state.specs.declared.proc.Proc.{Proc}
use Rattle.m386_system.specs.Control.{monitor_coprocessor, task_switched}

-- MP and TS are both set
abbrev pub is_switched_away : ℕ → Bool
is_switched_away cr0 = has_bit cr0 monitor_coprocessor && has_bit cr0 task_switched

-- WAIT.
-- Source: Intel 80386 PRM 17.2.2.11, WAIT; 9.8.7
unfoldable pub wait_phrase : Proc → Phrase Proc
wait_phrase p = if is_switched_away p.cr0 then Faults (fault_of CoprocessorNotAvailable) else Done p

-- An operation for a coprocessor.
-- Source: Intel 80386 PRM 9.8.7; docs/DECISIONS.md, "The coprocessor"
unfoldable pub escape_phrase : Phrase Proc
escape_phrase = Faults (fault_of CoprocessorNotAvailable)
