use Rattle.m386_exclusion_cases.proofs.CleanRuns.{clean_run}
use Rattle.m386_exclusion_cases.proofs.shown.is_clean_with_a_switch.Goals as goal

pub returns-in-Clean : goal.returns-in-Clean
returns-in-Clean c found = clean_run c.args.image.now c.args.steps c.in_ok-ended.ended.log.cycles c.cycles-cycles.result.now c.in_ok-ended.ended.procs c.in_ok-clean.field-0
    c.requires.valid c.in_ok-ended.ensures.run c.cycles-cycles.ensures.cycles c.in_ok-clean.ensures c.in-Clean.is (c.has_switch.ensures found)
