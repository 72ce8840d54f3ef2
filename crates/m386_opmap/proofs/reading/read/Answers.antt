-- A byte that is no prefix begins the opcode.
use Rattle.std.proofs.Common.{◌∙◌, ◌≤◌, sym, arith, length}
use Rattle.m386_opmap.specs.Readings.{reading_by}
use Rattle.m386_opmap.proofs.Find.{prefixed_stop, prefixed_end}
use Rattle.m386_opmap.proofs.Sure.{sure_one, prefixed_stops}
use Rattle.m386_opmap.proofs.reading.read.Goals as goal

pub returns-in-None-clause-exact : goal.returns-in-None-clause-exact
returns-in-None-clause-exact c =
    c.read_first.ensures.exact
    ∙ prefixed_stop c.args.table.now.rows.now c.loop-at.prefixes c.loop-at.at c.args.bytes.now c.with.result c.loop-at-test.true c.with.ensures c.in-None.is
    ∙ c.loop-at.invariant.exact

pub returns-in-None-clause-sure : goal.returns-in-None-clause-sure
returns-in-None-clause-sure c = λ e more few.
    sym (c.loop-at.invariant.all more)
    ∙ prefixed_stops c.args.table.now.rows.now c.loop-at.prefixes c.loop-at.at c.args.bytes.now more c.with.result c.loop-at-test.true c.with.ensures c.in-None.is
    ∙ c.read_first.ensures.sure e more few

pub returns-clause-sure : goal.returns-clause-sure
returns-clause-sure c =
    let end : length c.args.bytes.now ≤ c.loop-at.at = omega arith in
    λ _. sure_one (reading_by c.args.table.now.rows.now) c.args.bytes.now (sym c.loop-at.invariant.exact ∙ prefixed_end c.args.table.now.rows.now c.loop-at.prefixes c.loop-at.at c.args.bytes.now end)
