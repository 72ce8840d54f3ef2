use denote.Param.Send.{sendable}
use Rattle.m386.proofs.Sent.{counted_send}
use Rattle.m386.proofs.Runs.{machine_begins, machine_run}
use Rattle.m386.proofs.run.run_in_threads.Goals as goal

pub run_locked-requires-send-T : goal.run_locked-requires-send-T
run_locked-requires-send-T g c κs within = search (sendable, counted_send) depth 20

pub returns-then-is_machine_of-clause-run : goal.returns-then-is_machine_of-clause-run
returns-then-is_machine_of-clause-run g c =
    let end = c.ended.ensures in
    machine_run c.in_ok-run_locked.field-0 c.into_machine-machine.result c.args.image.now c.args.cpus c.args.steps c.ended.result.log c.ended.result.procs
    c.in_ok-run_locked.ensures c.into_machine-machine.ensures end.kept (c.is_machine_of.ensures.0 c.if-is_machine_of.true) end.log end.procs

pub returns-then-is_machine_of-clause-begins : goal.returns-then-is_machine_of-clause-begins
returns-then-is_machine_of-clause-begins g c =
    machine_begins c.into_machine-machine.result c.args.image.now c.ended.result.log c.ended.ensures.kept (c.is_machine_of.ensures.0 c.if-is_machine_of.true).0 c.ended.ensures.log
