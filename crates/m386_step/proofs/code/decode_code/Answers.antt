-- The source fetches each byte that it gives.
use Rattle.m386_step.proofs.Sources.{decoder_performs}
use Rattle.m386_step.proofs.code.decode_code.Goals as goal

pub returns-clause-cycles : goal.returns-clause-cycles
returns-clause-cycles g c =
    decoder_performs _ _ (λ s. s.reader) (λ s. g.B.Bus.view s.bus.now) (λ s t bytes h. h.0) (λ s t b h. h.0) c.args.code.now c.decode.new.source c.decode.result c.decode.ensures.ok c.decode.ensures.err
