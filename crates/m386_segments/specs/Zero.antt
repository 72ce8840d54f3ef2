-- ZF, which tells whether a selector was found fit.
use Rattle.std.specs.Prelude.{Bool}
use Rattle.m386_base.specs.declared.flags.Flag.TheVariants.{Zero}
use Rattle.m386_base.specs.Flags.{with_flag}
use Rattle.m386_state.specs.declared.proc.Proc.{Proc}
use Rattle.m386_access.specs.After.{with_flags}

-- with ZF put to a value; the other flags stay
abbrev pub with_zero : Proc → Bool → Proc
with_zero p zero = with_flags p (with_flag Zero zero p.eflags)
