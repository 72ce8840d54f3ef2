use Rattle.m386_trace.proofs.Lines.{pushed_two}
use Rattle.m386_trace.proofs.proc.push_selector.Goals as goal

pub returns-clause-bytes : goal.returns-clause-bytes
returns-clause-bytes c = pushed_two _ _ _ _ _ c.push_word.ensures.bytes c.push_hex4.ensures.bytes
