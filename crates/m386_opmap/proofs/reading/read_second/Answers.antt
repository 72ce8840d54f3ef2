-- The rows from an opcode on have its answer.
use Rattle.std.proofs.Common.{◌∙◌, ◌+◌, ◌-◌, length, get_or, take, drop, ap}
use Rattle.m386_opmap.specs.Readings.{opcode_reading}
use Rattle.m386_opmap.proofs.Below.{opcode_by, second_first}
use Rattle.m386_opmap.proofs.Sure.{second_sure}
use Rattle.m386_opmap.proofs.reading.read_second.Goals as goal

pub returns-clause-exact : goal.returns-clause-exact
returns-clause-exact c =
    c.read_opcode.ensures.exact
    ∙ ap (λ n. opcode_reading c.from_second_byte-rows.result.now c.args.prefixes.now (0xf00 + n) c.args.at (take (length c.args.rest.now - 1) (drop 1 c.args.rest.now))) c.from.ensures
    ∙ opcode_by c.args.table.now.rows.now c.from_second_byte-rows.result.now c.args.prefixes.now (0xf00 + get_or c.args.rest.now 0 0) c.args.at _ c.from_second_byte-rows.ensures
    ∙ second_first c.args.table.now.rows.now c.args.prefixes.now c.args.at c.args.rest.now c.in-len1-up.len_at_least

pub returns-clause-sure : goal.returns-clause-sure
returns-clause-sure c = λ e more few. second_sure c.args.table.now.rows.now c.from_second_byte-rows.result.now c.args.prefixes.now c.args.at c.args.rest.now c.from.result more c.in-len1-up.len_at_least c.from.ensures c.from_second_byte-rows.ensures (c.read_opcode.ensures.sure e more few)
