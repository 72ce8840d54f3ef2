use Rattle.m386_trace.proofs.Lines.{pushed_two}
use Rattle.m386_trace.proofs.task.push_field.Goals as goal

pub returns-clause-bytes : goal.returns-clause-bytes
returns-clause-bytes c = pushed_two _ _ _ _ _ (rw c.name_of.ensures.name at c.push_word.ensures.bytes) (rw c.tss_field.ensures.exact at c.push_value.ensures.bytes)
