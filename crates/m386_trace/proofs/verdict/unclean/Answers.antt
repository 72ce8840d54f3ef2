use Rattle.std.proofs.Common.{codes}
use Rattle.m386_trace.proofs.Lines.{line_begins, pushed}
use Rattle.m386_trace.proofs.verdict.unclean.Goals as goal

pub returns-clause-bytes : goal.returns-clause-bytes
returns-clause-bytes c =
    let first = line_begins (codes "unclean") _ (rw c.new-line.ensures at c.push_str.ensures.bytes) in
    let name = pushed _ _ first c.push_word.ensures.bytes in
    let rule = pushed _ _ name (rw c.from.ensures at c.push_decimal.ensures.bytes) in
    rule.text
