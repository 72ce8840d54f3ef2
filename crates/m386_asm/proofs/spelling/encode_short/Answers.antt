-- The shortest spelling has two bytes, or it has others, or there is none.
use Rattle.std.proofs.Common.{◌≡◌, false, length, refl, sym, arith}
use Rattle.m386_lines.specs.Seen.{instruction_seen}
use Rattle.m386_asm.specs.Layout.{is_named}
use Rattle.m386_asm.proofs.FirstJumps.{short_found, other_short, none_short}
use Rattle.m386_asm.proofs.spelling.encode_short.Goals as goal

pub returns-in_err-bytes-clause-none : goal.returns-in_err-bytes-clause-none
returns-in_err-bytes-clause-none c = λ ns knows e. none_short ns c.args.place (instruction_seen c.args.instruction.now) c.op_at.result (c.op_at.ensures ns knows) (c.in_err-bytes.ensures.none.0 refl)

pub returns-then-len-eq2-clause-some : goal.returns-then-len-eq2-clause-some
returns-then-len-eq2-clause-some c = λ ns bytes knows e.
    let same : c.in_ok-bytes.bytes ≡ bytes = cc in
    let unnamed : is_named (instruction_seen c.args.instruction.now) ≡ false = cc in
    let two : length c.in_ok-bytes.bytes.items ≡ 2 = grind (arith, c.if-len-eq2.true, c.len.ensures.value) in
    rw (sym same) (short_found ns c.args.place (instruction_seen c.args.instruction.now) c.op_at.result (c.op_at.ensures ns knows) unnamed c.in_ok-bytes.bytes.items (c.in_ok-bytes.ensures.shortest c.in_ok-bytes.bytes refl) two)

pub returns-else-len-eq2-clause-none : goal.returns-else-len-eq2-clause-none
returns-else-len-eq2-clause-none c = λ ns knows e.
    other_short ns c.args.place (instruction_seen c.args.instruction.now) c.op_at.result (c.op_at.ensures ns knows) c.in_ok-bytes.bytes.items (c.in_ok-bytes.ensures.shortest c.in_ok-bytes.bytes refl)
    (λ two. grind (arith, two, c.if-len-eq2.false, c.len.ensures.value))
