-- A kind that the line's tokens have is the line's.
use Rattle.std.proofs.Common.{rules}
use Rattle.m386_lines.proofs.Judged.{told}
use Rattle.m386_lines.proofs.line.judge_line.Goals as goal

pub returns : goal.returns
returns c =
    told c.args.line.now c.in-Err.kind c.in_ok-tokens.tokens c.in_ok-statement.field-0 (search (rules, c.if-has_strange_byte, c.has_strange_byte.ensures)) c.in_ok-tokens.ensures
    (search (rules, c.in_ok-statement.ensures, c.as_slice-2.ensures)) c.in-Err.is
