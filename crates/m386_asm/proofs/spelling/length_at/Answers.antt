-- The bytes by the names so far are as many as those by any others.
use Rattle.std.proofs.Common.{[], ◌∷◌, refl, sym, ◌∙◌, inl, inr}
use Rattle.m386_lines.specs.Seen.{instruction_seen}
use Rattle.m386_asm.specs.Knows.{own_names}
use Rattle.m386_asm.proofs.KeptLengths.{operations_keep}
use Rattle.m386_asm.proofs.Known.{knows_own}
use Rattle.m386_asm.proofs.spelling.length_at.Goals as goal

pub returns-in-Some-clause-length : goal.returns-in-Some-clause-length
returns-in-Some-clause-length c = λ ns line bytes means made.
    let names = c.args.names.now in
    operations_keep ns (own_names names) c.args.place (instruction_seen c.args.instruction.now) line bytes c.in-Some.bytes.items means made
    (inl (c.in-Some.ensures.some (own_names names) c.in-Some.bytes (knows_own names) refl))
    ∙ sym c.len.ensures.value

pub returns-in-None-clause-length : goal.returns-in-None-clause-length
returns-in-None-clause-length c = λ ns line bytes means made.
    let names = c.args.names.now in
    operations_keep ns (own_names names) c.args.place (instruction_seen c.args.instruction.now) line bytes (0 ∷ 0 ∷ []) means made
    (inr (c.in-None.ensures.none (own_names names) (knows_own names) refl, refl))
