-- What is told of a step over listed values.
use Rattle.std.specs.Prelude.{◌≡◌}
use Rattle.m386_base.specs.declared.ask.Ask.{Ask}
use Rattle.m386_base.specs.Replay.{Replay, Found, FoundFault, Lacks}
use Rattle.m386_state.specs.declared.proc.Proc.{Proc}
use Rattle.m386_step.specs.declared.answer.Probe.{Probe}
use Rattle.m386_step.specs.declared.answer.Probe.TheVariants.{Wants, Whole}

-- Whole exactly where the values are a whole step, with the state after it and how many it used; Wants exactly where the
-- step asks for more.
abbrev pub Probes : Replay Proc → Probe → Type 0
Probes (Found s n) r = r ≡ Whole s n
Probes (FoundFault f n) r = ⊥
Probes (Lacks q) r = r ≡ Wants q

-- what holds of the ask that is wanted
abbrev pub IfWants : Probe → (Ask → Type 0) → Type 0
IfWants (Wants q) P = P q
IfWants (Whole s n) P = Unit {0}
