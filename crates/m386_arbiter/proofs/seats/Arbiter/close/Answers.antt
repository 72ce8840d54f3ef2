use Rattle.m386_arbiter.proofs.Closing.{ends}
use Rattle.m386_arbiter.proofs.seats.Arbiter.close.Goals as goal

pub returns-clause-contents : goal.returns-clause-contents
returns-clause-contents c =
    (ends c.args.self.table.shared.key c.args.self.cpus c.gather-all.result.id c.args.seats.items c.gather-all.result.me _ _ c.take-record.result
    c.args.self.opened c.requires.seats.0 c.gather-all.ensures.all c.close_with-closed.ensures.values.2 c.take-record.ensures.value).start

pub returns-clause-below : goal.returns-clause-below
returns-clause-below c =
    (ends c.args.self.table.shared.key c.args.self.cpus c.gather-all.result.id c.args.seats.items c.gather-all.result.me _ _ c.take-record.result
    c.args.self.opened c.requires.seats.0 c.gather-all.ensures.all c.close_with-closed.ensures.values.2 c.take-record.ensures.value).below

pub returns-clause-own : goal.returns-clause-own
returns-clause-own c =
    (ends c.args.self.table.shared.key c.args.self.cpus c.gather-all.result.id c.args.seats.items c.gather-all.result.me _ _ c.take-record.result
    c.args.self.opened c.requires.seats.0 c.gather-all.ensures.all c.close_with-closed.ensures.values.2 c.take-record.ensures.value).own
