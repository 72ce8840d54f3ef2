use Rattle.std.proofs.Common.{◌≡◌, ◌∙◌, refl, false, true, sym}
use Rattle.std.proofs.lemmas.Bool.{iff_false}
use Rattle.m386_book.proofs.Guarded.{none_more, touched, untouched}
use Rattle.m386_book.proofs.rules.touches.Goals as goal

pub loop-byte-preserved : goal.loop-byte-preserved
loop-byte-preserved c = none_more c.args.image.now _ c.loop-byte.byte-index c.loop-byte.invariant (iff_false c.is_guarded.ensures c.if-is_guarded.false)

pub returns-then-is_guarded : goal.returns-then-is_guarded
returns-then-is_guarded c = (
  λ p. touched c.args.image.now c.args.ask.now c.as_slice-byte-items.result.now c.loop-byte.byte-index (c.as_slice-byte-items.ensures.value ∙ c.bytes_of-bytes.ensures) c.loop-byte-test.true (c.is_guarded.ensures.0 c.if-is_guarded.true),
  λ t. refl,
)

pub returns : goal.returns
returns c = (
  λ (h : false ≡ true). absurd cc,
  λ t. absurd (untouched c.args.image.now c.args.ask.now c.as_slice-byte-items.result.now c.loop-byte.byte-index (c.as_slice-byte-items.ensures.value ∙ c.bytes_of-bytes.ensures) c.loop-byte-test.false c.loop-byte.invariant t),
)
