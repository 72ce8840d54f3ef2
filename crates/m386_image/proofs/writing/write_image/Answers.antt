use Rattle.std.proofs.Common.{List, ℕ, subst, sym}
use Rattle.std.proofs.lemmas.Result.{IfOk-weaker}
use Rattle.m386_image.specs.Format.{ImageOf}
use Rattle.m386_image.proofs.Valid.{text_is_image, valid_has_text}
use Rattle.m386_image.proofs.writing.write_image.Goals as goal

pub returns-clause-ok : goal.returns-clause-ok
returns-clause-ok c =
    IfOk-weaker c.text_of.result _ _ (λ v e. subst (λ (text : List ℕ). ImageOf text c.args.image.now) (sym e) (text_is_image c.args.image.now c.requires)) c.text_of.ensures

pub text_of-requires : goal.text_of-requires
text_of-requires c = valid_has_text c.args.image.now c.requires
