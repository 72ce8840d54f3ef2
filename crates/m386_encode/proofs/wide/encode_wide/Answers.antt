-- The earliest of the wide candidates is the shortest of all wide spellings.
use Rattle.m386_encode.proofs.RoundTrip.{spelling_reads_back}
use Rattle.m386_encode.proofs.WideChosen.{wide_reached, shortest_wide_by, none_wide_by, wide_is_short}
use Rattle.m386_encode.proofs.wide.encode_wide.Goals as goal

pub returns : goal.returns
returns c =
    let all = wide_reached c.args.op.now c.best_wide_of.result c.best_wide_of.ensures.met in
    let shortest = shortest_wide_by c.args.op.now c.best_wide_of.result c.best_wide_of.ensures.wide all in
    record {
      shortest = shortest;
      none = none_wide_by c.args.op.now c.best_wide_of.result c.best_wide_of.ensures.wide all;
      decoded = λ bytes e. (let s = shortest bytes e in spelling_reads_back c.args.op.now bytes.items s.wide.spells (wide_is_short c.args.op.now bytes.items s));
    }
