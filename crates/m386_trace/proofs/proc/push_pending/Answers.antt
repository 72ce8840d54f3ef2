use Rattle.m386_trace.proofs.Lines.{pushed_two}
use Rattle.m386_trace.proofs.proc.push_pending.Goals as goal

pub returns-in-Some-clause-bytes : goal.returns-in-Some-clause-bytes
returns-in-Some-clause-bytes c = rw c.in-Some.is (pushed_two _ _ _ _ _ c.push_hex2.ensures.bytes c.push_code.ensures.bytes)
