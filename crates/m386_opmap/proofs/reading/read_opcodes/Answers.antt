-- The table of the code is that of the opcodes, and the counts are its own.
use Rattle.std.proofs.Common.{refl}
use Rattle.m386_opmap.specs.Readings.{reading_of}
use Rattle.m386_opmap.specs.Rows.{counts_from, rows_below}
use Rattle.m386_opmap.proofs.reading.read_opcodes.Goals as goal

pub invariant_of-table : goal.invariant_of-table
unfolding counts_from rows_below
invariant_of-table c = record { counted = refl; escaped_counted = refl }

pub returns : goal.returns
unfolding reading_of
returns c = record { exact = c.read.ensures.exact; sure = c.read.ensures.sure }
