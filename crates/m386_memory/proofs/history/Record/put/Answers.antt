use Rattle.std.proofs.Common.{◌∙◌}
use Rattle.m386_memory.specs.Contents.{byte_in}
use Rattle.m386_memory.proofs.Histories.{IsRecord-push, group_of-same}
use Rattle.m386_memory.proofs.history.Record.put.Goals as goal

pub invariant_of-self-2 : goal.invariant_of-self-2
invariant_of-self-2 c =
    rw (c.in_ok-push.ensures.items, c.answered.ensures) (IsRecord-push c.self.inside.first.value c.self.inside.store c.apply.new.store c.self.inside.cycles.items c.args.cpu c.args.ask c.answer-value.result c.self.invariant c.requires.lawful (rw (← c.self.view_is) at c.requires.joined) c.answer-value.ensures.enabled c.answer-value.ensures.read c.apply.ensures)

pub returns-clause-history : goal.returns-clause-history
returns-clause-history c = (invariant_of-self-2 c).history

pub returns-clause-read : goal.returns-clause-read
returns-clause-read c =
    λ w. c.answer-value.ensures.value w ∙ rw (← c.self.view_is) (group_of-same (byte_in c.self.inside.store c.args.ask.space) _ c.args.ask.addr c.args.ask.enables (c.self.invariant.bytes c.args.ask.space))
