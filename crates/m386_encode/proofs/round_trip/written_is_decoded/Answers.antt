-- Such bytes are decoded to their operation.
use Rattle.m386_encode.proofs.RoundTrip.{spelling_reads_back}
use Rattle.m386_encode.proofs.round_trip.written_is_decoded.Goals as goal

pub returns : goal.returns
returns c op bytes s few = spelling_reads_back op bytes s few
