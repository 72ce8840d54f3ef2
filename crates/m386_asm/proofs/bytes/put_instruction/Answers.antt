use Rattle.std.proofs.Common.{refl}
use Rattle.m386_lines.specs.Seen.{instruction_seen}
use Rattle.m386_asm.proofs.Made.{spelled_made, unreached_made}
use Rattle.m386_asm.proofs.bytes.put_instruction.Goals as goal

pub returns-in-Some : goal.returns-in-Some
returns-in-Some c =
    spelled_made c.args.names.now c.args.place c.args.out.now c.put_all.new.out c.put_all.result (instruction_seen c.args.instruction.now) c.in-Some.bytes.items c.as_slice.result.now
    c.put_all.ensures c.as_slice.ensures.value (λ ns k. c.in-Some.ensures.some ns c.in-Some.bytes k refl)

pub returns-in-None : goal.returns-in-None
returns-in-None c =
    unreached_made c.args.names.now c.args.place c.args.out.now c.put_all-in-None.new.out c.put_all-in-None.result (instruction_seen c.args.instruction.now)
    c.put_all-in-None.ensures (λ ns k. c.in-None.ensures.none ns k refl)
