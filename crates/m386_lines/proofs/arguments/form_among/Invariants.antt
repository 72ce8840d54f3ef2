-- What the word means by the rows left is what it means by all.
use Rattle.std.proofs.Common.{◌≡◌, map}
use Rattle.m386_lines.specs.Directives.{form_among}
use Rattle.m386_lines.specs.Seen.{row_means}
use Rattle.m386_lines.proofs.Tables.{left_forms}
use Rattle.m386_lines.proofs.arguments.form_among.Given as goal

abbrev pub invariant-loop-row : goal.invariant-loop-row
invariant-loop-row l = left_forms l.row-index l.rows l.word ≡ form_among (map row_means l.rows) l.word
