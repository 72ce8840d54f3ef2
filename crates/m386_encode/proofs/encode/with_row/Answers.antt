-- Each of the six strings of bytes was met, and what was met stays so.
use Rattle.std.proofs.Common.{◌<◌, ◌≤◌, ℕ, zero, suc, Bool, true, false, length, arith}
use Rattle.m386_encode.specs.Candidates.{candidate}
use Rattle.m386_encode.specs.Shortest.{IsSpelling, IsReached}
use Rattle.m386_encode.proofs.encode.with_row.Goals as goal
use Rattle.m386_encode.proofs.encode.with_row.Goals.{After-with_choice}

met : (c : After-with_choice) (narrow : Bool) (mode : ℕ) → mode < 3 → length (candidate c.args.op.now c.args.row.now narrow mode) ≤ 15 →
    IsSpelling c.args.op.now (candidate c.args.op.now c.args.row.now narrow mode) → IsReached c.with_choice.result (candidate c.args.op.now c.args.row.now narrow mode)
met c false zero h l s = c.with_choice.ensures.kept _ (c.with_choice-best-5.ensures.kept _ (c.with_choice-best-4.ensures.kept _ (c.with_choice-best-3.ensures.kept _ (c.with_choice-best-2.ensures.kept _ (c.with_choice-best.ensures.met l s)))))
met c false (suc zero) h l s = c.with_choice.ensures.kept _ (c.with_choice-best-5.ensures.kept _ (c.with_choice-best-4.ensures.kept _ (c.with_choice-best-3.ensures.kept _ (c.with_choice-best-2.ensures.met l s))))
met c false (suc (suc zero)) h l s = c.with_choice.ensures.kept _ (c.with_choice-best-5.ensures.kept _ (c.with_choice-best-4.ensures.kept _ (c.with_choice-best-3.ensures.met l s)))
met c true zero h l s = c.with_choice.ensures.kept _ (c.with_choice-best-5.ensures.kept _ (c.with_choice-best-4.ensures.met l s))
met c true (suc zero) h l s = c.with_choice.ensures.kept _ (c.with_choice-best-5.ensures.met l s)
met c true (suc (suc zero)) h l s = c.with_choice.ensures.met l s
met c narrow (suc (suc (suc mode))) h l s = absurd (omega arith)

pub returns-clause-met : goal.returns-clause-met
returns-clause-met c = record { met = met c }
