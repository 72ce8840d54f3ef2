-- The first of all spellings is found, or none is there.
use Rattle.m386_asm.proofs.LineBytes.{lines_have_bytes}
use Rattle.m386_asm.proofs.laws.lines_have_bytes.Goals as goal

pub returns : goal.returns
returns c ns place s = lines_have_bytes ns place s
