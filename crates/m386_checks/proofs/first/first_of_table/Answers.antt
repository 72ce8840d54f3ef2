use Rattle.std.proofs.Common.{sym, ◌∙◌}
use Rattle.m386_checks.proofs.Order.{first_now, first_later}
use Rattle.m386_checks.proofs.first.first_of_table.Goals as goal

pub returns-in-Some-first_of_data : goal.returns-in-Some-first_of_data
returns-in-Some-first_of_data c =
    sym
    (first_later _ _ _ (sym c.first_of_rows.ensures ∙ c.in_default.is)
    ∙ first_now _ _ _ _ (sym c.first_of_data.ensures ∙ c.in-Some-first_of_data.is))

pub returns : goal.returns
returns c =
    c.first_of_rows-2.ensures
    ∙ sym
    (first_later _ _ _ (sym c.first_of_rows.ensures ∙ c.in_default.is)
    ∙ first_later _ _ _ (sym c.first_of_data.ensures ∙ c.in_default-first_of_data.is))
