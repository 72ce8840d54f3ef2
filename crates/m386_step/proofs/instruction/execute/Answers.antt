-- What an operation came to is found behind its phrase.
use Rattle.std.proofs.Common.{◌+◌, ◌%◌, ◌^◌}
use Rattle.m386_access.specs.After.{at_eip}
use Rattle.m386_base.specs.Phrase.{Done}
use Rattle.m386_base.proofs.Phrases.{completes_then, completes_done}
use Rattle.m386_step.specs.Instruction.{operation_phrase, behind_operation, decoded_phrase}
use Rattle.m386_step.proofs.instruction.execute.Goals as goal

pub returns-clause-cycles : goal.returns-clause-cycles
unfolding decoded_phrase
returns-clause-cycles g c =
    let begun = at_eip c.args.p.now ((c.args.p.now.eip + c.args.len) % 2 ^ 32) in
    let h = rw (c.at_eip-begun.ensures, c.from.ensures) at c.in_ok-executed.ensures.cycles in
    rw c.behind_operation.ensures (completes_then (operation_phrase c.args.op.now begun) (λ e. Done (behind_operation c.args.op.now c.args.p.now e)) h (completes_done _ _))
