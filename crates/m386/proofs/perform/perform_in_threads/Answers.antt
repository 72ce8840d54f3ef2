use Rattle.std.proofs.Common.{refl, Ok}
use Rattle.m386.proofs.Runs.{run_answers, run_of_threads}
use Rattle.m386.proofs.perform.perform_in_threads.Goals as goal

pub returns : goal.returns
returns g c =
    let asked = c.args.asked.now in
    let a = c.in-Ok.ensures in
    run_answers (Ok asked) asked _ _ _ _ _ _ _ _ _ _ refl a.ok (c.report_on.ensures asked a.ok.allowed (run_of_threads _ asked _ _ _ c.requires.threads a.count.0 c.in-Ok-run_in_threads.ensures.run))
