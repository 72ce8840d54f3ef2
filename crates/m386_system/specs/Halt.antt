-- HLT.
use Rattle.m386_state.specs.declared.proc.Proc.{Proc}
use Rattle.m386_state.specs.declared.proc.Mode.TheVariants.{Halted}

-- HLT.
-- Source: Intel 80386 PRM 17.2.2.11, HLT
abbrev pub halted : Proc → Proc
halted p = record p { mode = Halted }
