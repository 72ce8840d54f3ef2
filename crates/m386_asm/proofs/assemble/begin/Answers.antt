use Rattle.std.proofs.Common.{refl, ◌∙◌, ap}
use Rattle.m386_asm.specs.Layout.{names_of}
use Rattle.m386_asm.specs.Turns.{has_memory_size}
use Rattle.m386_asm.proofs.Walked.{none_given}
use Rattle.m386_asm.proofs.assemble.begin.Goals as goal

pub returns-clause-walk : goal.returns-clause-walk
returns-clause-walk c = λ ls s. record {
  lines = refl;
  place = refl;
  noted = record { headers = none_given (names_of ls) c.new.result c.new.ensures.empty; planned = λ e. refl };
  makes = c.has_memory_size.ensures ∙ ap has_memory_size s.memory;
  draft = λ h. c.new-2.ensures (names_of ls);
}
