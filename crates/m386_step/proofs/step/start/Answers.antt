-- What the switch of a start came to is found behind its phrase.
use Rattle.std.proofs.Common.{false}
use Rattle.m386_base.specs.declared.kind.SwitchKind.TheVariants.{Start}
use Rattle.m386_base.specs.Phrase.{Done}
use Rattle.m386_base.proofs.Phrases.{completes_then, completes_done}
use Rattle.m386_switch.specs.Switch.{switch_phrase}
use Rattle.m386_step.specs.Settled.{behind_start}
use Rattle.m386_step.specs.Step.{start_phrase, without_start}
use Rattle.m386_step.proofs.step.start.Goals as goal

pub returns-clause-cycles : goal.returns-clause-cycles
unfolding start_phrase
returns-clause-cycles g c =
    let begun = without_start c.args.p.now in
    let h = rw c.without_start-begun.ensures at c.in_ok-outcome.ensures.cycles in
    rw (c.behind_start.ensures, c.came.ensures, c.without_start-begun.ensures) (completes_then (switch_phrase begun Start c.args.selector false false) (λ r. Done (behind_start begun r)) h (completes_done _ _))
