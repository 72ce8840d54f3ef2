use Rattle.std.specs.Prelude.{Result, Ok, Err, MatchResult}
use Rattle.std.proofs.Common.{List, ℕ}
use Rattle.m386_image.specs.declared.fault.ImageFault.{ImageFault}
use Rattle.m386_image.specs.declared.image.Image.{Image}
use Rattle.m386_image.specs.Fault.{FirstFault}
use Rattle.m386_image.specs.Format.{ImageOf}
use Rattle.m386_image.specs.Laws.{IsOneImage}
use Rattle.m386_image.proofs.Judging.{image_same, image_no_fault}
use Rattle.m386_image.proofs.laws.one_image.Goals as goal

one_from : {U : Type 0} (bytes : List ℕ) (r : Result U ImageFault) → MatchResult r (λ _. (image : Image) × ImageOf bytes image) (FirstFault bytes) → IsOneImage bytes
one_from bytes (Ok u) h none = (h.0, h.1, λ other p. image_same bytes other h.0 p h.1)
one_from bytes (Err f) h none = absurd (none f h.stands)

pub returns-clause-one : goal.returns-clause-one
returns-clause-one c = one_from c.args.bytes.now c.check_image-checked.result c.check_image-checked.ensures

pub returns-clause-none : goal.returns-clause-none
returns-clause-none c f stands image p = image_no_fault c.args.bytes.now image p f stands
