-- The rows from an opcode on have its answer.
use Rattle.std.proofs.Common.{◌∙◌, ◌++◌, ap, sym}
use Rattle.std.proofs.lemmas.Bool.{ne_eqb}
use Rattle.m386_opmap.specs.Readings.{opcode_reading}
use Rattle.m386_opmap.proofs.Below.{opcode_by}
use Rattle.m386_opmap.proofs.Complete.{first_byte}
use Rattle.m386_opmap.proofs.reading.read_first.Goals as goal

pub returns-else-byte-eq15-clause-exact : goal.returns-else-byte-eq15-clause-exact
returns-else-byte-eq15-clause-exact c =
    c.read_opcode.ensures.exact
    ∙ ap (λ n. opcode_reading c.from_byte.result.now c.args.prefixes.now n c.args.at c.args.rest.now) c.from.ensures
    ∙ opcode_by c.args.table.now.rows.now c.from_byte.result.now c.args.prefixes.now c.args.byte c.args.at c.args.rest.now c.from_byte.ensures
    ∙ sym (first_byte c.args.table.now.rows.now c.args.prefixes.now c.args.at c.args.byte c.args.rest.now (ne_eqb c.args.byte 0x0f c.if-byte-eq15.false))

pub returns-else-byte-eq15-clause-sure : goal.returns-else-byte-eq15-clause-sure
returns-else-byte-eq15-clause-sure c = λ e more few.
    first_byte c.args.table.now.rows.now c.args.prefixes.now c.args.at c.args.byte (c.args.rest.now ++ more) (ne_eqb c.args.byte 0x0f c.if-byte-eq15.false)
    ∙ sym (opcode_by c.args.table.now.rows.now c.from_byte.result.now c.args.prefixes.now c.args.byte c.args.at (c.args.rest.now ++ more) c.from_byte.ensures)
    ∙ ap (λ n. opcode_reading c.from_byte.result.now c.args.prefixes.now n c.args.at (c.args.rest.now ++ more)) (sym c.from.ensures)
    ∙ c.read_opcode.ensures.sure e more few
