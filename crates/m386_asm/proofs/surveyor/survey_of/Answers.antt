use Rattle.m386_asm.proofs.Surveyed.{survey_is}
use Rattle.m386_asm.proofs.surveyor.survey_of.Goals as goal

pub returns-clause-survey : goal.returns-clause-survey
returns-clause-survey c = λ ls p. survey_is ls c.in_ok-walk.walk c.known-memory.result c.known-cpus.result (c.in_ok-walk.ensures.walk ls p) c.known-memory.ensures c.known-cpus.ensures
