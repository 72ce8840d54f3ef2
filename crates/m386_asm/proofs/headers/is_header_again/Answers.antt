use Rattle.std.proofs.Common.{sym, ◌∙◌}
use Rattle.m386_lines.specs.Seen.{statement_seen}
use Rattle.m386_asm.proofs.Given.{is_added}
use Rattle.m386_asm.proofs.headers.is_header_again.Goals as goal

pub returns-in_ok-new-in-Some-clause-added : goal.returns-in_ok-new-in-Some-clause-added
returns-in_ok-new-in-Some-clause-added c = λ ns other knows. is_added ns c.args.headers.now c.insert.new.self (statement_seen c.args.statement.now) other c.in-Some.header (sym c.in-Some.is ∙ c.header_of.ensures ns knows) c.in_ok-new-in-Some.ensures.updates
