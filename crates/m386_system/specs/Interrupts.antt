-- CLI and STI.
use Rattle.std.specs.Prelude.{Bool, not, ◌&&◌, ◌||◌, ◌/◌, ◌%◌, ◌^◌, nat_le, if◌then◌else◌}
use Rattle.m386_base.specs.declared.flags.Flag.TheVariants.{Interrupt}
use Rattle.m386_base.specs.Exceptions.{general_protection_of}
use Rattle.m386_base.specs.Flags.{has_flag, with_flag}
use Rattle.m386_base.specs.Phrase.{Phrase, Done, Faults}
use Rattle.m386_state.specs.declared.proc.Proc.{Proc}
use Rattle.m386_state.specs.Start.{cpl_of}

-- CPL is at most IOPL, bits 12 and 13.
-- Source: Intel 80386 PRM 6.3.5.2, 8.3.1
abbrev pub may_put_interrupts : Proc → Bool
may_put_interrupts p = nat_le (cpl_of p) (p.eflags.0 / 2 ^ 12 % 4)

-- With IF put to a value. Where that sets it, requests are held back for one step.
-- Source: Intel 80386 PRM 17.2.2.11, STI; where IF was set: docs/DECISIONS.md, "The shadow of STI"
unfoldable pub interrupts_put : Proc → Bool → Proc
interrupts_put p value = record p {
  eflags = with_flag Interrupt value p.eflags;
  shadow = p.shadow || (value && not (has_flag Interrupt p.eflags));
}

-- STI, CLI.
-- Source: Intel 80386 PRM 17.2.2.11, CLI, STI
unfoldable pub put_interrupts_phrase : Proc → Bool → Phrase Proc
put_interrupts_phrase p value = if may_put_interrupts p then Done (interrupts_put p value) else Faults general_protection_of
