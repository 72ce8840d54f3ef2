-- What the function on bytes answers has its cause in them, and what is spelled is read.
use Rattle.std.proofs.Common.{arith, ◌<◌, sym, ◌∙◌, ap, subst}
use Rattle.std.proofs.lemmas.List.Elements.{All-from_get_or}
use Rattle.m386_opmap.specs.declared.outcome.Reading.{Reading}
use Rattle.m386_opmap.specs.Readings.{reading_of}
use Rattle.m386_opmap.specs.Spelling.{IsReadingOf}
use Rattle.m386_opmap.proofs.Laws.{reading_is, spelled_reads}
use Rattle.m386_opmap.proofs.Sound.{AllAreBytes}
use Rattle.m386_opmap.proofs.reading.reading.Goals as goal

pub returns-clause-says : goal.returns-clause-says
returns-clause-says c =
    let P : Reading → Type 0 = λ x. IsReadingOf c.args.bytes.now x in
    let are : AllAreBytes c.args.bytes.now = All-from_get_or (λ b. b < 256) c.args.bytes.now 0 (λ i l. omega (arith, c.type_inv.bytes i)) in
    subst P (sym c.read_opcodes.ensures.exact) (reading_is c.args.bytes.now are)

pub returns-clause-spelled : goal.returns-clause-spelled
returns-clause-spelled c op front rest parts s = c.read_opcodes.ensures.exact ∙ ap reading_of parts ∙ spelled_reads op front rest s
