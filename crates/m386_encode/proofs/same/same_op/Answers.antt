-- Operations with the same fields are the same.
use Rattle.std.proofs.Common.{◌∙◌, sym}
use Rattle.m386_encode.proofs.Read.{same_fields}
use Rattle.m386_encode.proofs.same.same_op.Goals as goal

pub returns-clause-yes : goal.returns-clause-yes
returns-clause-yes c r =
    same_fields c.args.op.now c.args.other.now (c.same_name.ensures.yes c.if-not-same_name.false) (c.same_width.ensures.yes c.if-not-same_width.false) (c.same_mark.ensures.yes c.if-not-same_mark.false) (c.same_rep.ensures.yes c.if-not-same_rep.false) (sym c.as_slice.ensures.value ∙ c.same_args.ensures.yes r ∙ c.as_slice-2.ensures.value)
