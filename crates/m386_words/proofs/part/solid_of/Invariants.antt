-- The tokens kept stand before those not yet looked at.
use Rattle.std.proofs.Common.{◌≡◌, ◌++◌, map, drop}
use Rattle.m386_words.specs.Text.{solid}
use Rattle.m386_words.specs.Tokens.{seen}
use Rattle.m386_words.proofs.part.solid_of.Given as goal

abbrev pub invariant-loop-token : goal.invariant-loop-token
invariant-loop-token l = map seen l.solids ++ solid (map seen (drop l.token-index l.tokens)) ≡ solid (map seen l.tokens)
