-- A table whose rows rise has one row for a key.
use Rattle.m386_opmap.proofs.Table.{one_covers_opcode}
use Rattle.m386_opmap.proofs.rows.one_row_for_a_key.Goals as goal

pub returns : goal.returns
returns c r s key = one_covers_opcode r s key
