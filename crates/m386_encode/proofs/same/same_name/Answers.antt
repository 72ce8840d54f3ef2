-- Names that compare as the same are the same.
use Rattle.std.proofs.Common.{rules, ◌∙◌, sym}
use denote.Enum.Bare.{same_true}
use Rattle.m386_opmap.specs.contracts.name.Name.{the_type}
use Rattle.m386_encode.proofs.same.same_name.Goals as goal

pub returns-clause-yes : goal.returns-clause-yes
returns-clause-yes c is = same_true the_type (search rules) _ _ (sym c.eq.ensures ∙ is)
