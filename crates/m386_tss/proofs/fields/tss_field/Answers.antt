use Rattle.m386_tss.proofs.Laid.{field_at-number, field_at-inside, field_at-len}
use Rattle.m386_tss.proofs.fields.tss_field.Goals as goal

pub returns-clause-number : goal.returns-clause-number
returns-clause-number c = rw c.entry.ensures (field_at-number c.args.number c.requires)

pub returns-clause-inside : goal.returns-clause-inside
returns-clause-inside c = rw c.entry.ensures (field_at-inside c.args.number c.requires)

pub returns-clause-len : goal.returns-clause-len
returns-clause-len c = rw c.entry.ensures (field_at-len c.args.number c.requires)
