use Rattle.m386_trace.proofs.Printable.{all_printable}
use Rattle.m386_trace.proofs.report.write_begin.Goals as goal

pub write_cycles-requires : goal.write_cycles-requires
write_cycles-requires g c = rw c.cycles.ensures.cycles (all_printable _ _ c.cycles.ensures.lawful c.requires.cpus)
