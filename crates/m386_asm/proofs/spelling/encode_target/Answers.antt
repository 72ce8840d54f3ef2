-- Two bytes come first, and then the full spelling.
use Rattle.std.proofs.Common.{refl}
use Rattle.m386_lines.specs.Seen.{instruction_seen}
use Rattle.m386_asm.proofs.FirstJumps.{short_first, full_first, none_out}
use Rattle.m386_asm.proofs.spelling.encode_target.Goals as goal

pub returns-in-Some-clause-some : goal.returns-in-Some-clause-some
returns-in-Some-clause-some c = λ ns bytes knows e.
    short_first ns c.args.place (instruction_seen c.args.instruction.now) c.requires.target c.requires.wide bytes.items (c.in-Some.ensures.some ns bytes knows e)

pub returns-in-None-clause-some : goal.returns-in-None-clause-some
returns-in-None-clause-some c = λ ns bytes knows e.
    full_first ns c.args.place (instruction_seen c.args.instruction.now) c.requires.target c.requires.wide bytes.items (c.in-None.ensures.none ns knows refl) (c.encode_full.ensures.some ns bytes knows e)

pub returns-in-None-clause-none : goal.returns-in-None-clause-none
returns-in-None-clause-none c = λ ns knows e.
    none_out ns c.args.place (instruction_seen c.args.instruction.now) c.requires.target c.requires.wide (c.in-None.ensures.none ns knows refl) (c.encode_full.ensures.none ns knows e)
