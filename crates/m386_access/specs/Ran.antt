-- A state that an instruction leaves, and the fault that is pending in it.
use Rattle.std.specs.Prelude.{Option, Some, None}
use Rattle.m386_base.specs.declared.fault.Fault.{Fault}
use Rattle.m386_base.specs.Phrase.{Phrase, Done, ◌>>=◌, either}
use Rattle.m386_access.specs.declared.ran.Ran.{Ran}
use Rattle.m386_state.specs.declared.proc.Proc.{Proc}

-- a state, and what is pending in it
abbrev pub ran : Proc → Option Fault → Ran
ran after fault = record { after = after; fault = fault }

-- the end of an operation that leaves no fault
abbrev pub whole : Proc → Phrase Ran
whole after = Done (ran after None)

-- an operation that leaves no fault in a new state
unfoldable pub plainly : Phrase Proc → Phrase Ran
plainly t = t >>= whole

-- an operation whose fault is seen in the state that it left, and in the old one where it left none
unfoldable pub told : Proc → Phrase Ran → Phrase Ran
told p t = either t Done (λ f. Done (ran p (Some f)))
