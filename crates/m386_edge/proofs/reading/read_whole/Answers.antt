use Rattle.std.proofs.Common.{◌+◌, ◌≤◌, length, take, ◌++◌, sym, arith, rules, length-append, length-take}
use Rattle.std.proofs.lemmas.List.{take-append-le}
use Rattle.std.proofs.lemmas.Result.{err_from_is_err_and}
use Rattle.m386_edge.proofs.Edge.{given_back-nil}
use Rattle.m386_edge.proofs.Whole.{gave_more, gave_end, emptied_end, gave_length, gave_all}
use Rattle.m386_edge.proofs.reading.read_whole.Goals as goal

pub loop-buf-init : goal.loop-buf-init
loop-buf-init g c = record {
  within = search rules;
  gave = rw c.new-bytes.ensures.items (sym (given_back-nil _));
  never_falls = search rules;
}

pub returns-then-count-eq0-clause-ok : goal.returns-then-count-eq0-clause-ok
returns-then-count-eq0-clause-ok g c =
    let read = c.in_ok-count.ensures.read in
    let none = c.if-count-eq0.true in
    (omega arith, gave_end _ _ _ _ _ _ _ none c.loop-buf.invariant.gave read, emptied_end _ _ _ _ _ none read)

pub returns-then-count-eq0-clause-past : goal.returns-then-count-eq0-clause-past
returns-then-count-eq0-clause-past g c bytes same long =
    let read = c.in_ok-count.ensures.read in
    let none = c.if-count-eq0.true in
    let gave = gave_end _ _ _ _ _ _ _ none c.loop-buf.invariant.gave read in
    absurd (omega (arith, gave_all _ _ bytes (rw same at gave) (emptied_end _ _ _ _ _ none read)))

pub loop-buf-preserved : goal.loop-buf-preserved
loop-buf-preserved g c =
    let buf = c.read.new.buf in
    let n = c.in_ok-count.count in
    let fits : n ≤ length buf = omega (arith, c.in_ok-count.ensures.read.within, c.read.auto.buf) in
    record {
      within = search rules;
      gave = rw (c.in_ok-extend_from_slice.ensures.items, take-append-le n buf) (gave_more _ _ _ _ _ _ _ c.loop-buf.invariant.gave c.in_ok-count.ensures.read);
      never_falls = search rules;
    }

pub returns-in_err-extend_from_slice-clause-err : goal.returns-in_err-extend_from_slice-clause-err
returns-in_err-extend_from_slice-clause-err g c =
    let p = err_from_is_err_and c.from_residual-in_err-extend_from_slice.result c.from_residual-in_err-extend_from_slice.ensures.1 in
    let buf = c.read.new.buf in
    let n = c.in_ok-count.count in
    let most = c.min-room.result + 1 in
    let few : n ≤ most = omega (arith, c.in_ok-count.ensures.read.within, length-take most c.loop-buf.buf) in
    let within : length (c.loop-buf.bytes.items ++ take n buf) ≤ c.args.limit + 1 = omega (arith, length-append c.loop-buf.bytes.items (take n buf), length-take n buf, few) in
    rw p.1 (c.loop-buf.bytes.items ++ take n buf, within, gave_more _ _ _ _ _ _ _ c.loop-buf.invariant.gave c.in_ok-count.ensures.read)

pub returns-clause-within : goal.returns-clause-within
returns-clause-within g c bytes same few long =
    absurd (omega (arith, gave_length _ _ bytes (rw same at c.loop-buf.invariant.gave)))
