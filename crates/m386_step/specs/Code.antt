-- The operation that the bytes from a reader on spell.
use Rattle.std.specs.Prelude.{ℕ, zero, suc, List, [], ◌∷◌, ◌++◌}
use Rattle.m386_base.specs.Phrase.{Phrase, Done, Faults, ◌>>=◌}
use Rattle.m386_opmap.specs.declared.outcome.Reading.{Reading}
use Rattle.m386_opmap.specs.declared.outcome.Reading.TheVariants.{Spelled, More, Refused}
use Rattle.m386_opmap.specs.Readings.{reading_of}
use Rattle.m386_decode.specs.declared.decoded.Decoded.{Decoded}
use Rattle.m386_step.specs.declared.fetch.Reader.{Reader}
use Rattle.m386_base.specs.Exceptions.{undefined_opcode_of, general_protection_of}
use Rattle.m386_step.specs.Fetch.{byte_phrase}

-- what comes behind bytes that read so: their operation, #UD, or what is given where they want more
abbrev pub read_on : Reading → Phrase Decoded → Phrase Decoded
read_on (Spelled op len) more = Done (record { op = op; len = len })
read_on (Refused at) more = Faults undefined_opcode_of
read_on More more = more

-- The operation that is spelled where these bytes have come and so many more may come: #GP(0) where a further one is wanted.
-- Own choice: docs/DECISIONS.md, "What the decoder answers"
unfoldable pub further_phrase : ℕ → List ℕ → Reader → Phrase Decoded
further_phrase zero bytes r = Faults general_protection_of
further_phrase (suc left) bytes r = do
  b ← byte_phrase r
  read_on (reading_of (bytes ++ b.0 ∷ [])) (further_phrase left (bytes ++ b.0 ∷ []) b.1)

-- The operation that the next bytes spell, 15 at most, and their number.
-- Source: Intel 80386 PRM 17.2; the limit of 15 bytes: 9.8.13
unfoldable pub decode_phrase : Reader → Phrase Decoded
decode_phrase r = further_phrase 15 [] r
