use Rattle.m386_trace.proofs.Lines.{pushed, unchanged}
use Rattle.m386_trace.proofs.soak.push_rule_at.Goals as goal

pub returns-clause-bytes : goal.returns-clause-bytes
returns-clause-bytes c =
    let rule = pushed _ _ (unchanged c.args.line.now.bytes) c.push_rule.ensures.bytes in
    let word = pushed _ _ rule c.push_word.ensures.bytes in
    let index = pushed _ _ word c.push_decimal.ensures.bytes in
    index.text
