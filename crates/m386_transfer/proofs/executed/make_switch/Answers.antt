-- What a switch came to is found behind its phrase.
use Rattle.m386_base.proofs.Phrases.{completes_then, completes_done}
use Rattle.m386_switch.specs.Switch.{switch_phrase}
use Rattle.m386_transfer.specs.Executed.{switching_phrase, came_whole}
use Rattle.m386_transfer.proofs.executed.make_switch.Goals as goal

pub returns-clause-cycles : goal.returns-clause-cycles
unfolding switching_phrase
returns-clause-cycles g c =
    rw c.came.ensures (completes_then (switch_phrase c.args.p.now c.args.brief.kind c.args.brief.selector c.args.brief.direct c.args.brief.ext) came_whole c.in_ok-outcome.ensures.cycles (completes_done _ _))
