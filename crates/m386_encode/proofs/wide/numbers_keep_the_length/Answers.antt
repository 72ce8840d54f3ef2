-- The length of a wide spelling doesn't hang on its numbers.
use Rattle.m386_encode.proofs.WideLength.{keeps_length}
use Rattle.m386_encode.proofs.wide.numbers_keep_the_length.Goals as goal

pub returns : goal.returns
returns c op other bytes more h s t = keeps_length op other bytes more h s t
