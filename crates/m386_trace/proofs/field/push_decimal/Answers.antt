use Rattle.std.proofs.Common.{length, ap, ◌∙◌, arith}
use Rattle.std.proofs.lemmas.Fmt.{decimal_digit}
use Rattle.m386_trace.proofs.field.push_decimal.Goals as goal

pub returns-clause-digit : goal.returns-clause-digit
returns-clause-digit g c small = omega (arith, ap length (c.format.ensures.text ∙ decimal_digit c.args.number small))
