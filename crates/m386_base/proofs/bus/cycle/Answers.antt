use Rattle.m386_base.proofs.Phrases.{performs_answer}
use Rattle.m386_base.proofs.bus.cycle.Goals as goal

pub returns-clause-cycles : goal.returns-clause-cycles
returns-clause-cycles g c = performs_answer c.args.ask c.args.keep _ _ c.cycle.result c.cycle.ensures
