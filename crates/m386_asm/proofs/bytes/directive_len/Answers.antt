use Rattle.std.proofs.Common.{ap, ◌∙◌, ◌/◌}
use Rattle.m386_words.specs.Seen.{expression_seen}
use Rattle.m386_asm.proofs.Lengths.{length_seen, length_descriptor}
use Rattle.m386_asm.proofs.bytes.directive_len.Goals as goal

pub returns-in-Values-clause-length : goal.returns-in-Values-clause-length
returns-in-Values-clause-length c = λ ns.
    rw c.in-Values.is (length_seen ns c.in-Values.width c.in-Values.values c.as_slice.result.now c.from.result (c.from.ensures ∙ ap (λ n. n / 8) c.bits_of.ensures.exact) c.as_slice.ensures)

pub returns-in-Describes-clause-length : goal.returns-in-Describes-clause-length
returns-in-Describes-clause-length c = λ ns. rw c.in-Describes.is (length_descriptor ns (expression_seen c.in-Describes.field-0) (expression_seen c.in-Describes.field-1) (expression_seen c.in-Describes.field-2) (expression_seen c.in-Describes.field-3))
