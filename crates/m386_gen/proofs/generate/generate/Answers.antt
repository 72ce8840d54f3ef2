use Rattle.std.proofs.Common.{subst, sym, rules}
use Rattle.std.proofs.lemmas.Result.{IfOk-weaker}
use Rattle.m386_image.specs.Format.{IsValid}
use Rattle.m386_gen.specs.Generated.{generated}
use Rattle.m386_gen.proofs.Validity.{valid_generated}
use Rattle.m386_gen.proofs.generate.generate.Goals as goal

pub returns-clause-valid : goal.returns-clause-valid
returns-clause-valid c = IfOk-weaker c.image_with.result _ _ (λ image e. subst IsValid (sym e) (valid_generated c.args.number)) (rw (c.schedulers.ensures.value, c.workers.ensures.value) at c.image_with.ensures)
