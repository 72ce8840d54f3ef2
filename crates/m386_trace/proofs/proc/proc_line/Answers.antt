use Rattle.std.proofs.Common.{codes}
use Rattle.m386_trace.proofs.Lines.{line_begins, pushed, ended}
use Rattle.m386_trace.specs.Report.{proc_text}
use Rattle.m386_trace.proofs.proc.proc_line.Goals as goal

pub returns-clause-text : goal.returns-clause-text
unfolding proc_text
returns-clause-text c =
    let first = line_begins (codes "p") _ (rw c.new-line.ensures at c.push_str.ensures.bytes) in
    let cpu = pushed _ _ first (rw c.from.ensures at c.push_decimal.ensures.bytes) in
    let mode = pushed _ _ cpu (rw c.mode_word.ensures.word at c.push_word.ensures.bytes) in
    let name = pushed _ _ mode c.push_word-2.ensures.bytes in
    let steps = pushed _ _ name (rw c.from-2.ensures at c.push_decimal-2.ensures.bytes) in
    let registers = pushed _ _ steps c.push_registers.ensures.bytes in
    let selectors = pushed _ _ registers c.push_selectors.ensures.bytes in
    let cr0 = pushed _ _ selectors c.push_register.ensures.bytes in
    let pending = pushed _ _ cr0 c.push_word-3.ensures.bytes in
    let event = pushed _ _ pending c.push_pending.ensures.bytes in
    ended _ event c.push_str-2.ensures.bytes
