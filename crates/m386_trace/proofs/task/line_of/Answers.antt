use Rattle.std.proofs.Common.{codes}
use Rattle.m386_trace.proofs.Lines.{line_begins, pushed, ended}
use Rattle.m386_trace.proofs.task.line_of.Goals as goal

pub returns : goal.returns
returns c =
    let first = line_begins (codes "t") _ (rw c.new-line.ensures at c.push_str.ensures.bytes) in
    let head = pushed _ _ first c.push_head.ensures.bytes in
    let fields = pushed _ _ head c.push_fields.ensures.bytes in
    ended _ fields c.push_str-2.ensures.bytes
