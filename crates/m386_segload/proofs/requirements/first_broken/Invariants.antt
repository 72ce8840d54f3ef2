use Rattle.std.proofs.Common.{◌≡◌, drop}
use Rattle.m386_segload.specs.Rules.{first_broken}
use Rattle.m386_segload.proofs.requirements.first_broken.Given as goal

abbrev pub invariant-loop-rule : goal.invariant-loop-rule
invariant-loop-rule l = first_broken l.rules l.c ≡ first_broken (drop l.rule-index l.rules) l.c
