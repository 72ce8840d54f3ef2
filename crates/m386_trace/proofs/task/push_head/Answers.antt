use Rattle.m386_trace.proofs.Lines.{pushed, unchanged}
use Rattle.m386_trace.proofs.task.push_head.Goals as goal

pub returns-clause-bytes : goal.returns-clause-bytes
returns-clause-bytes c =
    let line = unchanged c.args.line.now.bytes in
    let number = pushed _ _ line c.push_hex4.ensures.bytes in
    let busy = pushed _ _ number (rw c.word_of.ensures.word at c.push_word.ensures.bytes) in
    let base_name = pushed _ _ busy c.push_word-2.ensures.bytes in
    let base = pushed _ _ base_name c.push_hex8.ensures.bytes in
    let limit_name = pushed _ _ base c.push_word-3.ensures.bytes in
    let limit = pushed _ _ limit_name (rw c.limit.ensures at c.push_hex8-2.ensures.bytes) in
    limit.text
