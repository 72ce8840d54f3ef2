use Rattle.std.proofs.Common.{◌≡◌, ◌+◌, ◌%◌, ◌^◌, refl, bit_and, ap, ◌∙◌, nat_lt, nat_le}
use Rattle.std.proofs.lemmas.Nat.{and_mask}
use Rattle.m386_alu.specs.Sums.{sum_of}
use Rattle.m386_alu.specs.Width.{bits}
use Rattle.m386_alu.proofs.Carries.{reaches, nibble_sum}
use Rattle.m386_alu.proofs.sums.sum.Goals as goal

pub returns : goal.returns
unfolding sum_of
returns c =
    let n = bits c.args.width in
    let total = c.args.a + c.args.b + c.args.carry in
    let v : bit_and total c.max_of-max.result ≡ total % 2 ^ n = ap (bit_and total) c.max_of-max.ensures ∙ and_mask total n in
    let r : nat_lt c.max_of-max.result total ≡ nat_le (2 ^ n) total = rw c.max_of-max.ensures (reaches n total) in
    let t = nibble_sum c.args.width c.args.a c.args.b c.args.carry c.requires.carry in
    rw (c.put_result.ensures, c.put_flag-flags-3.ensures, c.put_flag-flags-2.ensures, c.put_flag-flags.ensures, c.crosses_nibble.ensures, c.sum_overflows.ensures, r, v, t) refl
