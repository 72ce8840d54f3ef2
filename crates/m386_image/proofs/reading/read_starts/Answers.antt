use Rattle.m386_image.proofs.Judging.{all_started}
use Rattle.m386_image.proofs.reading.read_starts.Goals as goal

pub returns : goal.returns
returns c = all_started c.args.bytes.now c.loop-cpu.start-items c.loop-cpu.cpu c.loop-cpu-test.array_long c.loop-cpu-test.false c.loop-cpu.invariant
