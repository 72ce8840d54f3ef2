use Rattle.std.proofs.Common.{arith, rules}
use Rattle.m386_trace.proofs.Digits.{IsAscii-encode_lower}
use Rattle.m386_trace.proofs.Lines.{spaced_one}
use Rattle.m386_trace.proofs.field.push_bytes.Goals as goal

pub push_ascii-requires : goal.push_ascii-requires
push_ascii-requires g c = (search rules, (IsAscii-encode_lower _ c.args.bytes.now c.in-Ok.ensures.written, omega arith))

pub returns-clause-bytes : goal.returns-clause-bytes
returns-clause-bytes g c = spaced_one _ _ _ _ c.push_str.ensures.bytes (rw c.in-Ok.ensures.written at c.push_ascii.ensures.bytes)
