-- Bytes fix the opcode and the middle bits, and these the row.
use Rattle.m386_opmap.proofs.Laws.{one_opcode_row}
use Rattle.m386_opmap.proofs.reading.one_row_for_bytes.Goals as goal

pub returns : goal.returns
returns c op other bytes spelling another = one_opcode_row op other bytes spelling another
