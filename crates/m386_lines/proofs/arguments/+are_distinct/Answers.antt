-- The first field stands among the others, or it doesn't.
use Rattle.std.proofs.Common.{sym, ◌∙◌, ap, not}
use Rattle.m386_lines.proofs.Tables.{stands_once, stands_twice}
use Rattle.m386_lines.proofs.arguments.+are_distinct.Goals as goal

pub returns-then-not-has_field : goal.returns-then-not-has_field
returns-then-not-has_field t c =
    c.are_distinct.ensures ∙ sym (stands_once c.args.fields.now c.first-item.result c.in-len1-up.len_at_least c.first-item.is (sym c.has_field.ensures ∙ c.if-not-has_field.true))

pub returns-else-not-has_field : goal.returns-else-not-has_field
returns-else-not-has_field t c =
    ap not c.if-not-has_field.false ∙ sym (stands_twice c.args.fields.now c.first-item.result c.in-len1-up.len_at_least c.first-item.is (sym c.has_field.ensures ∙ c.if-not-has_field.false))
