use Rattle.std.proofs.Common.{sym, ◌∙◌}
use Rattle.m386_lines.specs.Seen.{statement_seen}
use Rattle.m386_asm.proofs.Growth.{none_begins}
use Rattle.m386_asm.proofs.sections.Sections.take.Goals as goal

pub returns-in-None : goal.returns-in-None
returns-in-None c =
    none_begins c.args.names.now c.args.place c.args.self.now c.grow.new.self c.grow.result (statement_seen c.args.statement.now)
    (sym c.begins_at.ensures ∙ c.in-None.is) c.grow.ensures
