-- The rows looked at aren't chosen.
use Rattle.std.proofs.Common.{◌≡◌, drop, map}
use Rattle.m386_words.specs.Seen.{written_seen}
use Rattle.m386_lines.specs.Instructions.{first_choice}
use Rattle.m386_lines.proofs.matching.first_choice.Given as goal

abbrev pub invariant-loop-index : goal.invariant-loop-index
invariant-loop-index l = first_choice l.prefixing l.word (map written_seen l.written) (drop l.index l.rows) ≡ first_choice l.prefixing l.word (map written_seen l.written) l.rows
