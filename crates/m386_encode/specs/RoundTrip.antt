-- What is decoded of the bytes that were written for an operation.
use Rattle.std.specs.Prelude.{ℕ, ◌≡◌, List, ◌++◌, length, Result, Ok}
use Rattle.m386_base.specs.declared.fault.Break.{Break}
use Rattle.m386_opmap.specs.declared.op.Op.{Op}
use Rattle.m386_decode.specs.declared.decoded.Decoded.{Decoded}
use Rattle.m386_decode.specs.Decoding.{IsAnswered}

-- Whatever bytes follow these, a decoder's answer is the operation and the number of these bytes, and no other.
-- Source: Intel 80386 PRM 17.2
pub record IsReadBack (op : Op) (bytes : List ℕ) : Type 0 where
  pub answered : (rest : List ℕ) → IsAnswered (bytes ++ rest) (Ok (record { op = op; len = length bytes }))
  pub alone : (rest : List ℕ) (answer : Result Decoded Break) → IsAnswered (bytes ++ rest) answer → answer ≡ Ok (record { op = op; len = length bytes })
