use Rattle.std.proofs.Common.{◌≡◌, ◌+◌, ◌-◌, ◌%◌, ◌^◌, refl, bit_and, ap, ◌∙◌}
use Rattle.m386_alu.specs.Sums.{difference_of}
use Rattle.m386_alu.specs.Width.{bits}
use Rattle.m386_alu.proofs.Carries.{nibble_difference, wrapped_difference}
use Rattle.m386_alu.proofs.sums.difference.Goals as goal

pub returns : goal.returns
unfolding difference_of
returns c =
    let a = c.args.a in
    let b = c.args.b in
    let n = bits c.args.width in
    let v : bit_and (((a + (2 ^ 32 - b)) % 2 ^ 32 + (2 ^ 32 - c.args.borrow)) % 2 ^ 32) c.max_of.result ≡ (a + 2 ^ n - (b + c.args.borrow)) % 2 ^ n =
    ap (bit_and _) c.max_of.ensures ∙ wrapped_difference c.args.width a b c.args.borrow c.requires.a_fits c.requires.b_fits c.requires.borrow in
    let t = nibble_difference c.args.width a b c.args.borrow c.requires.borrow c.requires.b_fits in
    rw (c.put_result.ensures, c.put_flag-flags-3.ensures, c.put_flag-flags-2.ensures, c.put_flag-flags.ensures, c.crosses_nibble.ensures, c.difference_overflows.ensures, v, t) refl
