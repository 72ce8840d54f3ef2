-- Quotients and remainders fit their width.
use Rattle.std.proofs.Common.{arith, ◌≡◌, ℕ, ◌+◌, ◌*◌, ◌/◌, ◌%◌, ◌^◌, ◌<◌, Bool, true, false, cond, refl, nat_lt, ◌==◌, Option, Some, None, IfSome, int_div, int_rem}
use Rattle.std.proofs.lemmas.Bool.Decides.{nat_tests}
use Rattle.std.proofs.lemmas.Nat.{mod_below}
use Rattle.m386_base.specs.declared.number.Width.{Width}
use Rattle.m386_alu.specs.Division.{quotient_of, div_of}
use Rattle.m386_alu.specs.Signs.{modulo}
use Rattle.m386_alu.specs.Width.{bits, signed, is_signed_number}
use Rattle.m386_alu.proofs.Magnitudes.{modulo_fits}

abbrev BothFit : ℕ → Option (ℕ × ℕ) → Type 0
BothFit n o = IfSome o (λ p. (p.0 < 2 ^ n) × (p.1 < 2 ^ n))

choice_fits : (b : Bool) (n q r : ℕ) → (b ≡ true → (q < 2 ^ n) × (r < 2 ^ n)) → BothFit n (cond b (Some (q, r)) None)
choice_fits true n q r h = h refl
choice_fits false n q r h = tt

quotient_fits : (is_signed : Bool) (n d by : ℕ) → 0 < by → by < 2 ^ n → BothFit n (quotient_of is_signed n d by)
unfolding quotient_of
quotient_fits false n d by p h =
    choice_fits (nat_lt (d / by) (2 ^ n)) n (d / by) (d % by)
    (λ e.
    let l : d / by < 2 ^ n = grind (arith, nat_tests, e) in
    let m = mod_below d by p in (l, omega arith))
quotient_fits true n d by p h =
    let q = int_div (signed (n + n) d) (signed n by) in
    let r = int_rem (signed (n + n) d) (signed n by) in
    choice_fits (is_signed_number n q) n (modulo n q) (modulo n r) (λ e. (modulo_fits n q, modulo_fits n r))

guard_fits : (b : Bool) (n : ℕ) (o : Option (ℕ × ℕ)) → (b ≡ false → BothFit n o) → BothFit n (cond b None o)
guard_fits true n o h = tt
guard_fits false n o h = h refl

pub div_fits : (is_signed : Bool) (w : Width) (high low by : ℕ) → by < 2 ^ bits w → BothFit (bits w) (div_of is_signed w high low by)
unfolding div_of
div_fits is_signed w high low by h =
    guard_fits (by == 0) (bits w) (quotient_of is_signed (bits w) (high * 2 ^ bits w + low) by)
    (λ e.
    let p : 0 < by = grind (arith, nat_tests, e) in
    quotient_fits is_signed (bits w) (high * 2 ^ bits w + low) by p h)
