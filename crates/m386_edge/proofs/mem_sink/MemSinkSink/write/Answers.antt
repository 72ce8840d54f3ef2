use Rattle.std.proofs.Common.{◌++◌, take, ap, ◌∙◌, arith}
use Rattle.m386_edge.specs.Memory.{MemOutput}
use Rattle.m386_edge.proofs.Edge.{writes_told}
use Rattle.m386_edge.proofs.mem_sink.MemSinkSink.write.Goals as goal

pub returns-clause-wrote : goal.returns-clause-wrote
returns-clause-wrote c =
    let bytes = take c.min-count.result c.args.piece.now in
    writes_told _ _ _ _ (omega arith) (omega arith) (c.in-Ok.ensures.items ∙ ap (λ (s : MemOutput). s.held ++ bytes) c.self.view_is)
