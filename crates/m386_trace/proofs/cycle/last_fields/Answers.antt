use Rattle.std.proofs.Common.{ℕ, List, sym, subst}
use Rattle.std.specs.Str.{IsAscii}
use Rattle.m386_trace.proofs.Digits.{last_fields_text, last_fields_ascii}
use Rattle.m386_trace.proofs.cycle.last_fields.Goals as goal

pub returns-clause-text : goal.returns-clause-text
returns-clause-text c =
    last_fields_text c.args.ask.now.part c.args.ask.now.addr c.args.ask.now.enables c.args.ask.now.value c.digit_of-e.result c.digits_of-a.result c.digits_of-v.result c.digits_of-a.ensures c.digit_of-e.ensures c.digits_of-v.ensures

pub returns-clause-ascii : goal.returns-clause-ascii
returns-clause-ascii c =
    subst (λ (t : List ℕ). IsAscii t) (sym (returns-clause-text c)) (last_fields_ascii c.args.ask.now.part c.args.ask.now.addr c.args.ask.now.enables c.args.ask.now.value c.requires.part)
