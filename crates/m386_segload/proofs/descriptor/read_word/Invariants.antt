use Rattle.std.proofs.Common.{◌≡◌, ◌<◌, true, drop}
use Rattle.m386_base.specs.Phrase.{Continues}
use Rattle.m386_segload.specs.Descriptors.{word_reads}
use Rattle.m386_segload.proofs.descriptor.read_word.Given as goal

abbrev pub invariant-loop-piece : goal.invariant-loop-piece
invariant-loop-piece g l =
    let view = g.B.Bus.view in
    record {
      cycles : Continues (word_reads l.role l.begun 0 l.groups) (view l.fn.bus) (word_reads l.role l.joined l.value (drop l.piece-index l.groups)) (view l.bus);
      kept : (view l.bus).kept ≡ l.joined;
      some : 0 < l.piece-index → l.joined ≡ true;
    }
