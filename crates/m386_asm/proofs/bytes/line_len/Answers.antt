use Rattle.std.proofs.Common.{subst, ◌∙◌, ap}
use Rattle.m386_lines.specs.Seen.{statement_seen}
use Rattle.m386_asm.specs.Layout.{Makes}
use Rattle.m386_asm.proofs.bytes.line_len.Goals as goal

pub returns-in-Operate-clause-length : goal.returns-in-Operate-clause-length
returns-in-Operate-clause-length c = λ ns line bytes means made.
    c.length_at.ensures.length ns line bytes (means ∙ ap statement_seen c.in-Operate.is) (subst (λ s. Makes ns c.args.place (statement_seen s) bytes) c.in-Operate.is made)
