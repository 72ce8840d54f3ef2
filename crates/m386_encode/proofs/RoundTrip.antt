-- Bytes that spell an operation are decoded to it, whatever follows.
use Rattle.std.proofs.Common.{ℕ, ◌≤◌, inl, List, ◌++◌, length, Ok, refl}
use Rattle.m386_opmap.specs.declared.op.Op.{Op}
use Rattle.m386_opmap.specs.Spelling.{Spells}
use Rattle.m386_decode.specs.Decoding.{IsAnswered}
use Rattle.m386_decode.proofs.Slices.{exact}
use Rattle.m386_encode.specs.RoundTrip.{IsReadBack}

-- the operation is answered behind its spelling
answered : (op : Op) (bytes rest : List ℕ) → Spells op bytes → length bytes ≤ 15 → IsAnswered (bytes ++ rest) (Ok (record { op = op; len = length bytes }))
answered op bytes rest s few = record { front = bytes; rest = rest; parts = refl; concludes = (few, (refl, s)) }

-- a spelling of at most 15 bytes is decoded to its operation, whatever follows
pub spelling_reads_back : (op : Op) (bytes : List ℕ) → Spells op bytes → length bytes ≤ 15 → IsReadBack op bytes
spelling_reads_back op bytes s few = record {
  answered = λ rest. answered op bytes rest s few;
  alone = λ rest answer a. exact (bytes ++ rest) answer (Ok (record { op = op; len = length bytes })) (inl a) (answered op bytes rest s few);
}
