use Rattle.std.proofs.Common.{refl}
use Rattle.m386.proofs.Runs.{means_plainly, none_answers, run_answers, run_in_order}
use Rattle.m386.proofs.perform.perform_run.Goals as goal

pub returns : goal.returns
returns g c =
    let asked = c.args.asked.now in
    let a = c.in-Ok.ensures in
    let run = c.in-Ok-run_image.ensures in
    let meant = means_plainly asked c.in-Named.order c.in-Named.is in
    run_answers _ asked _ _ _ _ _ _ _ _ _ _ meant a.ok (c.report_on.ensures asked a.ok.allowed (run_in_order _ asked c.in-Named.order _ _ _ c.in-Named.is a.count.0 run.run run.in_order))

pub returns-in-Err : goal.returns-in-Err
returns-in-Err g c =
    none_answers _ c.args.asked.now _ _ _ _ _ _ _ _ c.in-Err.status (means_plainly c.args.asked.now c.in-Named.order c.in-Named.is) c.in-Err.ensures.err refl
