-- What stands behind the dotted word is that of the tokens left.
use Rattle.std.proofs.Common.{◌≡◌, map}
use Rattle.m386_words.specs.Tokens.{seen}
use Rattle.m386_lines.specs.Lines.{behind_dot}
use Rattle.m386_lines.proofs.Judged.{left_behind}
use Rattle.m386_lines.proofs.line.behind_dot.Given as goal

abbrev pub invariant-loop-index : goal.invariant-loop-index
invariant-loop-index l = left_behind l.index l.tokens ≡ behind_dot (map seen l.tokens)
