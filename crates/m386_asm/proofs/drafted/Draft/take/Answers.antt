use Rattle.m386_lines.specs.Seen.{statement_seen}
use Rattle.m386_asm.proofs.DraftSteps.{line_taken}
use Rattle.m386_asm.proofs.drafted.Draft.take.Goals as goal

pub returns : goal.returns
returns c =
    line_taken c.args.names.now c.args.place (statement_seen c.args.statement.now) c.args.self.now c.take_header.new.self c.take.new.self c.take.result
    c.in_ok-take_header.ensures c.take.ensures
