use Rattle.m386_trace.proofs.Lines.{pushed, unchanged}
use Rattle.m386_trace.proofs.soak.push_rule.Goals as goal

pub returns-clause-bytes : goal.returns-clause-bytes
returns-clause-bytes c =
    let unclean = pushed _ _ (unchanged c.args.line.now.bytes) c.push_word.ensures.bytes in
    let word = pushed _ _ unclean c.push_word-2.ensures.bytes in
    let rule = pushed _ _ word (rw c.from.ensures at c.push_decimal.ensures.bytes) in
    rule.text
