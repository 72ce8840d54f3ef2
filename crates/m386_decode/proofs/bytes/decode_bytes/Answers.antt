-- The source gives a front of the bytes.
use Rattle.std.proofs.Common.{List, ℕ, subst}
use Rattle.m386_decode.proofs.Slices.{SliceOutcome, slice_outcome, exact, pauses, spelled}
use Rattle.m386_decode.proofs.bytes.decode_bytes.Goals as goal
use Rattle.m386_decode.proofs.bytes.decode_bytes.Goals.{After-decode}

outcome : (c : After-decode) → SliceOutcome c.args.bytes.now c.decode.result
outcome c =
    let O : List ℕ → Type 0 = λ x. SliceOutcome x c.decode.result in
    subst O c.new.ensures (slice_outcome _ _ c.decode.result c.decode.ensures.ok c.decode.ensures.err)

pub returns-clause-exact : goal.returns-clause-exact
returns-clause-exact c answer a = exact c.args.bytes.now c.decode.result answer (outcome c) a

pub returns-clause-paused : goal.returns-clause-paused
returns-clause-paused c = pauses c.args.bytes.now c.decode.result (outcome c)

pub returns-clause-spelled : goal.returns-clause-spelled
returns-clause-spelled c op front rest parts few s = spelled c.args.bytes.now c.decode.result op front rest (outcome c) parts few s
