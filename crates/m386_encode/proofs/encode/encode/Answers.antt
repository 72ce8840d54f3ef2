-- The earliest of the candidates is the shortest of all spellings.
use Rattle.m386_encode.proofs.Chosen.{all_reached, shortest_by, none_by, shortest_is_short}
use Rattle.m386_encode.proofs.RoundTrip.{spelling_reads_back}
use Rattle.m386_encode.proofs.encode.encode.Goals as goal

pub returns : goal.returns
returns c =
    let all = all_reached c.args.op.now c.best_of.result c.best_of.ensures.met in
    let shortest = shortest_by c.args.op.now c.best_of.result c.best_of.ensures.sound all in
    record {
      shortest = shortest;
      none = none_by c.args.op.now c.best_of.result c.best_of.ensures.sound all;
      decoded = λ bytes e. (let s = shortest bytes e in spelling_reads_back c.args.op.now bytes.items s.spells (shortest_is_short c.args.op.now bytes.items s));
    }
