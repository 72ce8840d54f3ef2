use Rattle.std.proofs.Common.{◌≡◌, rules}
use Rattle.m386_trace.specs.Soak.{soak_text}
use Rattle.m386.proofs.Soaks.{text_of_soak}
use Rattle.m386.proofs.soak.soak.Goals as goal

pub returns-in-Ok-write_whole : goal.returns-in-Ok-write_whole
returns-in-Ok-write_whole g c =
    let l : c.as_bytes.result.now ≡ soak_text c.args.number c.in-Ok.image.cpus c.tasks_in.result c.cycles.result.now c.in-Ok-verdict_on.verdict = search rules in
    let text =
    text_of_soak c.args.number c.in-Ok.image c.tasks_in.result c.in-Ok-run_image.ended.log.cycles c.cycles.result.now c.in-Ok-run_image.ended.procs c.in-Ok-verdict_on.verdict c.as_bytes.result.now
    c.in-Ok.ensures.image c.in-Ok-run_image.ensures.run c.in-Ok-run_image.ensures.in_order c.in-Ok-verdict_on.ensures c.tasks_in.ensures c.cycles.ensures.cycles l in
    (_, text, c.in-Ok-write_whole.ensures.ok)

pub returns : goal.returns
returns g c =
    let l : c.as_bytes.result.now ≡ soak_text c.args.number c.in-Ok.image.cpus c.tasks_in.result c.cycles.result.now c.in-Ok-verdict_on.verdict = search rules in
    let text =
    text_of_soak c.args.number c.in-Ok.image c.tasks_in.result c.in-Ok-run_image.ended.log.cycles c.cycles.result.now c.in-Ok-run_image.ended.procs c.in-Ok-verdict_on.verdict c.as_bytes.result.now
    c.in-Ok.ensures.image c.in-Ok-run_image.ensures.run c.in-Ok-run_image.ensures.in_order c.in-Ok-verdict_on.ensures c.tasks_in.ensures c.cycles.ensures.cycles l in
    (_, text, c.in-Err.ensures.err, c.in-Err.ensures.failed)
