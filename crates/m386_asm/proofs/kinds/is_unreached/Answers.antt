use Rattle.std.proofs.Common.{subst, sym}
use Rattle.m386_lines.specs.Seen.{statement_seen}
use Rattle.m386_asm.specs.Layout.{IsUnreached}
use Rattle.m386_asm.proofs.kinds.is_unreached.Goals as goal

pub returns-in-Some-clause-reached : goal.returns-in-Some-clause-reached
returns-in-Some-clause-reached c =
    λ ns knows e out. subst (λ s. IsUnreached ns c.args.place (statement_seen s)) c.in-Operate.is out c.in-Some.field-0.items (c.encode_at.ensures.some ns c.in-Some.field-0 knows c.in-Some.is).spelling

pub returns-in-None-clause-unreached : goal.returns-in-None-clause-unreached
returns-in-None-clause-unreached c = λ ns knows e. subst (λ s. IsUnreached ns c.args.place (statement_seen s)) (sym c.in-Operate.is) (c.encode_at.ensures.none ns knows c.in-None.is)
