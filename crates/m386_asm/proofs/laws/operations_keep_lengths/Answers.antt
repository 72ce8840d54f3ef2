-- What is spelled by some names is spelled by others in as many bytes.
use Rattle.m386_asm.proofs.KeptLengths.{operations_keep}
use Rattle.m386_asm.proofs.laws.operations_keep_lengths.Goals as goal

pub returns : goal.returns
returns c ns ms place i line bytes more e f g = operations_keep ns ms place i line bytes more e f g
