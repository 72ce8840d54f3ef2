use Rattle.std.proofs.Common.{codes}
use Rattle.m386_trace.proofs.Lines.{HasFields, pushed, ended_by}
use Rattle.m386_trace.specs.Report.{cycle_text}
use Rattle.m386_trace.proofs.cycle.cycle_line.Goals as goal

pub returns-clause-text : goal.returns-clause-text
unfolding cycle_text
returns-clause-text c =
    let cpu : HasFields (codes "c") _ _ = record { text = rw (c.new-line.ensures, c.cpu_words.ensures.words) at c.push_str.ensures.bytes } in
    let access = pushed _ _ cpu (rw c.access_words.ensures.words at c.push_str-2.ensures.bytes) in
    let role = pushed _ _ access (rw c.role_word.ensures.word at c.push_word.ensures.bytes) in
    ended_by _ _ role (rw c.last_fields.ensures.text at c.push_ascii.ensures.bytes)
