-- A jump or a call of 16 bits has a prefix, so it has no spelling.
use Rattle.std.proofs.Common.{◌≡◌, true}
use Rattle.m386_lines.specs.Seen.{instruction_seen}
use Rattle.m386_asm.specs.Layout.{has_target}
use Rattle.m386_asm.proofs.FirstJumps.{not_wide, narrow_out}
use Rattle.m386_asm.proofs.spelling.encode_at.Goals as goal

pub returns-in-W8 : goal.returns-in-W8
returns-in-W8 c =
    let target : has_target (instruction_seen c.args.instruction.now) ≡ true = cc in
    record {
      some = λ ns bytes knows e. cc;
      none = λ ns knows e. narrow_out ns c.args.place (instruction_seen c.args.instruction.now) target (not_wide c.args.instruction.now.width c.in-W8.is);
    }
