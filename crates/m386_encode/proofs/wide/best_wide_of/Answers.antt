-- The rows of the machine are those of the opcodes.
use Rattle.std.proofs.lemmas.List.Elements.{All-contains_itself}
use Rattle.m386_opmap.specs.Opcodes.{opcode_rows}
use Rattle.m386_encode.proofs.wide.best_wide_of.Goals as goal

pub best_wide_by-requires : goal.best_wide_by-requires
best_wide_by-requires c = All-contains_itself opcode_rows
