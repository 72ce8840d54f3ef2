use Rattle.std.proofs.Common.{codes}
use Rattle.m386_trace.proofs.Lines.{line_begins, pushed, ended}
use Rattle.m386_trace.specs.Soak.{soak_text}
use Rattle.m386_trace.proofs.soak.soak_line.Goals as goal

pub returns : goal.returns
unfolding soak_text
returns c =
    let first = line_begins (codes "soak") _ (rw c.new-line.ensures at c.push_str.ensures.bytes) in
    let image = pushed _ _ first c.push_image.ensures.bytes in
    let cycles = pushed _ _ image c.push_cycles.ensures.bytes in
    let verdict = pushed _ _ cycles c.push_verdict.ensures.bytes in
    ended _ verdict c.push_str-2.ensures.bytes
