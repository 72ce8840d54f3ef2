-- The phrase is the decoder's, byte by byte.
use Rattle.m386_step.proofs.Decoding.{done_exactly, faulted_exactly, wants_exactly}
use Rattle.m386_step.proofs.laws.decoding_is_the_decoders.Goals as goal

pub returns-clause-done : goal.returns-clause-done
returns-clause-done c = done_exactly

pub returns-clause-faults : goal.returns-clause-faults
returns-clause-faults c = faulted_exactly

pub returns-clause-wants : goal.returns-clause-wants
returns-clause-wants c = wants_exactly
