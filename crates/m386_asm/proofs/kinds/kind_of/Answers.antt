use Rattle.std.proofs.Common.{sym, ◌∙◌, subst, refl, ap, map}
use Rattle.m386_asm.specs.Layout.{names_of}
use Rattle.m386_asm.specs.Limits.{limit_seen}
use Rattle.m386_asm.specs.Walks.{IsLeast}
use Rattle.m386_lines.specs.Seen.{meaning_seen}
use Rattle.m386_asm.proofs.Least.{least}
use Rattle.m386_asm.proofs.Tested.{tests, noted_behind}
use Rattle.m386_asm.proofs.kinds.kind_of.Goals as goal

pub returns-clause-kind : goal.returns-clause-kind
returns-clause-kind c = λ ls before l at own kept.
    subst (IsLeast ls before l) (sym c.first_of.ensures)
    (least ls before l c.has_unknown_name-unknown.result c.defines_again-twice.result c.in_ok-header.header c.is_out_of_range-range.result c.is_below_end-overlap.result c.is_out_of_order-plan.result
    (tests ls before l c.args.survey.now c.args.noted.now c.args.spot (meaning_seen c.args.meaning.now) c.entry_of.result
    c.has_unknown_name-unknown.result c.defines_again-twice.result c.in_ok-header.header c.is_out_of_range-range.result c.is_below_end-overlap.result c.is_out_of_order-plan.result
    at own kept
    (c.has_unknown_name-unknown.ensures (names_of ls) at.survey_is.knows (ap (map limit_seen) c.as_slice.ensures ∙ c.in_ok-fields.ensures))
    c.defines_again-twice.ensures
    (c.in_ok-header.ensures.again (names_of ls) at.survey_is.knows)
    (c.is_out_of_range-range.ensures.out ls before l (meaning_seen c.args.meaning.now) at refl (ap (map limit_seen) c.as_slice-2.ensures ∙ c.in_ok-fields.ensures))
    (c.is_out_of_range-range.ensures.within ls before l (meaning_seen c.args.meaning.now) at refl (ap (map limit_seen) c.as_slice-2.ensures ∙ c.in_ok-fields.ensures))
    c.is_below_end-overlap.ensures
    (c.entry_of.ensures (names_of ls) at.survey_is.knows)
    c.is_out_of_order-plan.ensures.order))

pub returns-clause-noted : goal.returns-clause-noted
returns-clause-noted c = λ ls before l at kept.
    noted_behind ls before l c.args.survey.now c.args.noted.now c.args.spot (meaning_seen c.args.meaning.now) c.entry_of.result c.is_out_of_order-plan.new.last c.is_header_again.new.headers at kept
    (λ other. c.in_ok-header.ensures.added (names_of ls) other at.survey_is.knows)
    (c.entry_of.ensures (names_of ls) at.survey_is.knows)
    c.is_out_of_order-plan.ensures.last
