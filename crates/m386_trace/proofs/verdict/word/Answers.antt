use Rattle.m386_trace.proofs.Lines.{line_begins}
use Rattle.m386_trace.proofs.verdict.word.Goals as goal

pub returns-clause-bytes : goal.returns-clause-bytes
returns-clause-bytes c =
    let line = line_begins c.args.text.now _ (rw c.new-line.ensures at c.push_str.ensures.bytes) in line.text
