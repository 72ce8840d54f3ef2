use Rattle.std.proofs.Common.{◌∙◌, ap, sym, Err}
use Rattle.m386.proofs.Runs.{allowed_count}
use Rattle.m386.proofs.perform.read_allowed.Goals as goal

pub returns-in-Err-Bad-clause-err : goal.returns-in-Err-Bad-clause-err
returns-in-Err-Bad-clause-err g c = (
  c.in_ok-bytes.bytes.items,
  c.in_ok-bytes.ensures.ok,
  rw c.deref.ensures.value at ((c.read_image.ensures.bad _).0 (c.in-Err-Bad.is ∙ ap Err c.in-Err-Bad.field-0-is)),
)

pub returns-clause-count : goal.returns-clause-count
returns-clause-count g c = allowed_count c.in-Ok.image c.args.asked.now c.count_for-cpus.result (_, c.in-Ok.ensures.ok) c.requires.some c.count_for-cpus.ensures (sym c.excess_of.ensures ∙ c.in-None.is)
