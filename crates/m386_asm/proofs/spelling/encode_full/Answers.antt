-- The shortest wide spelling has the full length, or it has another, or there is none.
use Rattle.std.proofs.Common.{◌≡◌, ◌+◌, length, refl, sym, ◌∙◌, ap, arith}
use Rattle.m386_lines.specs.Seen.{instruction_seen}
use Rattle.m386_asm.specs.Jumps.{full_length}
use Rattle.m386_asm.specs.Layout.{op_at}
use Rattle.m386_asm.proofs.FirstJumps.{full_found, other_full, none_full}
use Rattle.m386_asm.proofs.spelling.encode_full.Goals as goal

pub returns-in_err-bytes-clause-none : goal.returns-in_err-bytes-clause-none
returns-in_err-bytes-clause-none c = λ ns knows e. none_full ns c.args.place (instruction_seen c.args.instruction.now) c.op_at.result (c.op_at.ensures ns knows ∙ ap (λ n. op_at ns (c.args.place + n) (instruction_seen c.args.instruction.now)) (c.from.ensures ∙ c.full_len-len.ensures)) (c.in_err-bytes.ensures.none.0 refl)

pub returns-then-len-from-clause-some : goal.returns-then-len-from-clause-some
returns-then-len-from-clause-some c = λ ns bytes knows e.
    let same : c.in_ok-bytes.bytes ≡ bytes = cc in
    let size : length c.in_ok-bytes.bytes.items ≡ full_length c.args.instruction.now.name = sym c.len.ensures.value ∙ c.if-len-from.true ∙ c.from-2.ensures ∙ c.full_len-len.ensures in
    rw (sym same) (full_found ns c.args.place (instruction_seen c.args.instruction.now) c.op_at.result (c.op_at.ensures ns knows ∙ ap (λ n. op_at ns (c.args.place + n) (instruction_seen c.args.instruction.now)) (c.from.ensures ∙ c.full_len-len.ensures)) c.in_ok-bytes.bytes.items (c.in_ok-bytes.ensures.shortest c.in_ok-bytes.bytes refl) size)

pub returns-else-len-from-clause-none : goal.returns-else-len-from-clause-none
returns-else-len-from-clause-none c = λ ns knows e.
    other_full ns c.args.place (instruction_seen c.args.instruction.now) c.op_at.result (c.op_at.ensures ns knows ∙ ap (λ n. op_at ns (c.args.place + n) (instruction_seen c.args.instruction.now)) (c.from.ensures ∙ c.full_len-len.ensures)) c.in_ok-bytes.bytes.items (c.in_ok-bytes.ensures.shortest c.in_ok-bytes.bytes refl)
    (λ size. grind (arith, size, c.if-len-from.false, c.len.ensures.value, c.from-2.ensures, c.full_len-len.ensures))
