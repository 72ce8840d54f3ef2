use Rattle.m386_step.specs.Step.{step_phrase}
use Rattle.m386_step.proofs.Told.{found_is_whole, lacks_is_wants}
use Rattle.m386_step.proofs.laws.values_are_judged_as_cycles.Goals as goal

pub returns-clause-whole : goal.returns-clause-whole
returns-clause-whole c = λ p after values used. found_is_whole (step_phrase p) after used values

pub returns-clause-wants : goal.returns-clause-wants
returns-clause-wants c = λ p wanted values. lacks_is_wants (step_phrase p) wanted values
