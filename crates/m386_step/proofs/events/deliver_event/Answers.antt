-- What a delivery comes to is found behind its phrase.
use Rattle.m386_base.specs.Phrase.{Done}
use Rattle.m386_base.proofs.Phrases.{completes_then, completes_done}
use Rattle.m386_deliver.specs.Deliver.{deliver_phrase}
use Rattle.m386_step.specs.Events.{behind_delivery, delivery_phrase}
use Rattle.m386_step.proofs.events.deliver_event.Goals as goal

pub returns-clause-cycles : goal.returns-clause-cycles
unfolding delivery_phrase
returns-clause-cycles g c =
    rw c.behind_delivery.ensures (completes_then (deliver_phrase c.args.p.now c.args.event.now) (λ r. Done (behind_delivery c.args.event.now r)) c.in_ok-ran.ensures.cycles (completes_done _ _))
