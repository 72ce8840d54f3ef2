use Rattle.m386_data.proofs.Searches.{forward_finds, reverse_finds}
use Rattle.m386_data.proofs.laws.searches_find_their_bit.Goals as goal

pub returns-clause-forward : goal.returns-clause-forward
returns-clause-forward c = forward_finds

pub returns-clause-reverse : goal.returns-clause-reverse
returns-clause-reverse c = reverse_finds
