-- The number of at most four bytes fits 32 bits.
use Rattle.std.proofs.Common.{ℕ, ◌-◌, ◌<◌, ◌≤◌, List, length, take, drop, arith, length-take, length-drop}
use Rattle.m386_opmap.proofs.Numbers.{three_bytes}
use Rattle.m386_opmap.proofs.operand.+number_of.Goals as goal
use Rattle.m386_opmap.proofs.operand.+number_of.Goals.{After-number_of}

-- the number of the bytes behind the first
small : (t : ℕ) (c : After-number_of t) → c.number_of.result < 16777216
small t c =
    let rest : List ℕ = take (length c.args.bytes.now - 1) (drop 1 c.args.bytes.now) in
    let short : length rest ≤ 3 = simp (length-take, length-drop) (omega arith) in
    three_bytes (length rest) c.number_of.result short c.number_of.ensures.bound

pub overflow_mul-result : goal.overflow_mul-result
overflow_mul-result t c = omega (arith, small t c)

pub overflow_add-result : goal.overflow_add-result
overflow_add-result t c = omega (arith, small t c, c.type_inv.bytes 0)
