use Rattle.std.proofs.Common.{codes}
use Rattle.m386_trace.proofs.Lines.{line_begins, pushed, ended}
use Rattle.m386_trace.specs.Report.{machine_text}
use Rattle.m386_trace.proofs.machine.machine_line.Goals as goal

pub returns : goal.returns
unfolding machine_text
returns c =
    let first = line_begins (codes "memory") _ (rw c.new-line.ensures at c.push_str.ensures.bytes) in
    let memory = pushed _ _ first c.push_hex8.ensures.bytes in
    let name = pushed _ _ memory c.push_word.ensures.bytes in
    let cpus = pushed _ _ name c.push_decimal.ensures.bytes in
    ended _ cpus c.push_str-2.ensures.bytes
