use Rattle.std.proofs.Common.{sym, arith}
use Rattle.std.proofs.lemmas.List.{take_rest, drop-drop}
use Rattle.m386_edge.proofs.Edge.{reads_told}
use Rattle.m386_edge.proofs.mem_source.MemSourceSource.read.Goals as goal

pub returns-clause-read : goal.returns-clause-read
returns-clause-read c =
    let all = c.self.inside.bytes.items in
    let at = c.self.inside.at in
    let copied = c.copy_front-count in
    let count = rw (c.deref.ensures.value, take_rest all at) at copied.ensures.count in
    let same = rw (c.deref.ensures.value, take_rest all at) at copied.ensures.copied in
    rw (← c.self.view_is) (reads_told _ _ _ c.self.inside.piece _ _ c.requires (omega arith) count same (sym (drop-drop copied.result at all)))
