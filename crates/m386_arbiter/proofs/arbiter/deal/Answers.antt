use Rattle.std.proofs.Common.{ap, ◌∙◌}
use Rattle.m386_arbiter.specs.Seats.{own_cycles}
use Rattle.m386_arbiter.proofs.Steps.{splits}
use Rattle.m386_arbiter.proofs.Gathering.{dealt_rest, dealt_length, dealt_first}
use Rattle.m386_arbiter.proofs.arbiter.deal.Goals as goal

pub split_seat-first-requires : goal.split_seat-first-requires
split_seat-first-requires c = (c.requires.board.0, c.requires.board.1, splits _ _ _ c.requires.dealer.idle c.requires.dealer.some)

pub returns-clause-dealer : goal.returns-clause-dealer
returns-clause-dealer c = let s = c.split_seat-first.ensures in (dealt_rest _ _ _ c.requires.dealer s.2, dealt_length _ _ _ c.requires.dealer s.2)

pub returns-clause-seat : goal.returns-clause-seat
returns-clause-seat c = let s = c.split_seat-first.ensures in (c.new.ensures.0, ap (λ z. own_cycles z.me) c.new.ensures.1 ∙ dealt_first _ _ _ c.requires.dealer s.4)
