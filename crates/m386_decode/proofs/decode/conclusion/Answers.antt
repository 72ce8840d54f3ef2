-- Of bytes of which all but the last want more, the last one ends what is read.
use Rattle.std.proofs.Common.{ap, inl, subst, arith, ◌<◌}
use Rattle.std.proofs.lemmas.List.Elements.{All-from_get_or}
use Rattle.m386_base.specs.declared.fault.Break.TheVariants as breaks
use Rattle.m386_opmap.specs.declared.outcome.Reading.{Reading}
use Rattle.m386_opmap.specs.Readings.{reading_of}
use Rattle.m386_opmap.specs.Spelling.{IsReadingOf}
use Rattle.m386_opmap.proofs.Sound.{AllAreBytes}
use Rattle.m386_decode.proofs.Concluding.{spelled_whole, refused_at_last}
use Rattle.m386_decode.proofs.Wanting.{sure_less, sure_wants}
use Rattle.m386_decode.proofs.decode.conclusion.Goals as goal

pub returns-in-Spelled-clause-some : goal.returns-in-Spelled-clause-some
returns-in-Spelled-clause-some c =
    let before = c.requires.before in
    let P : Reading → Type 0 = IsReadingOf c.args.bytes.now in
    (c.requires.few, spelled_whole before.0 before.1 c.args.bytes.now _ c.in-Spelled.len before.2 before.3 (subst P c.in-Spelled.is c.reading_sure.ensures.says))

pub returns-in-Refused-clause-some : goal.returns-in-Refused-clause-some
returns-in-Refused-clause-some c =
    let before = c.requires.before in
    let P : Reading → Type 0 = IsReadingOf c.args.bytes.now in
    inl (c.requires.few, refused_at_last before.0 before.1 c.args.bytes.now c.in-Refused.at before.2 before.3 (subst P c.in-Refused.is c.reading_sure.ensures.says), ap breaks.Fault c.undefined_opcode.ensures)

pub returns-then-lack-gt1-clause-none : goal.returns-then-lack-gt1-clause-none
returns-then-lack-gt1-clause-none c =
    let before = c.requires.before in
    let are : AllAreBytes c.args.bytes.now = All-from_get_or (λ b. b < 256) c.args.bytes.now 0 (λ i l. omega (arith, c.type_inv.bytes i)) in
    λ _. rw before.2 (sure_wants before.0 before.1 c.args.lack.now before.4 c.if-lack-gt1.true (rw before.2 at are))

pub returns-then-lack-gt1-clause-sure : goal.returns-then-lack-gt1-clause-sure
returns-then-lack-gt1-clause-sure c =
    let before = c.requires.before in
    λ _. rw before.2 (sure_less reading_of before.0 before.1 c.args.lack.now before.4 c.if-lack-gt1.true)
