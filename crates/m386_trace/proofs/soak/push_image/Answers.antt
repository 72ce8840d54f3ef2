use Rattle.m386_trace.proofs.Lines.{pushed, unchanged}
use Rattle.m386_trace.proofs.soak.push_image.Goals as goal

pub returns-clause-bytes : goal.returns-clause-bytes
returns-clause-bytes c =
    let number = pushed _ _ (unchanged c.args.line.now.bytes) c.push_decimal.ensures.bytes in
    let cpus = pushed _ _ number c.push_word.ensures.bytes in
    let count = pushed _ _ cpus (rw c.from.ensures at c.push_decimal-2.ensures.bytes) in
    let tasks = pushed _ _ count c.push_word-2.ensures.bytes in
    let task_count = pushed _ _ tasks (rw c.from-2.ensures at c.push_decimal-3.ensures.bytes) in
    task_count.text
