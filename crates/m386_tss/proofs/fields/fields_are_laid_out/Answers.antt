use Rattle.m386_tss.proofs.Laid.{apart, inside}
use Rattle.m386_tss.proofs.fields.fields_are_laid_out.Goals as goal

pub returns-clause-apart : goal.returns-clause-apart
returns-clause-apart c = apart

pub returns-clause-inside : goal.returns-clause-inside
returns-clause-inside c = inside
