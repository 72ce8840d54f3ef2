use Rattle.m386_trace.proofs.Lines.{pushed, unchanged}
use Rattle.m386_trace.proofs.soak.push_cycles.Goals as goal

pub returns-clause-bytes : goal.returns-clause-bytes
returns-clause-bytes c =
    let cycles = pushed _ _ (unchanged c.args.line.now.bytes) c.push_word.ensures.bytes in
    let count = pushed _ _ cycles c.push_decimal.ensures.bytes in
    let claims = pushed _ _ count c.push_word-2.ensures.bytes in
    let claim_count = pushed _ _ claims (rw c.claims_in.ensures at c.push_decimal-2.ensures.bytes) in
    claim_count.text
