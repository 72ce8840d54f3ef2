-- NT of the flags that a switch saves and loads.
use Rattle.std.proofs.Common.{arith, ◌≡◌, ℕ, ◌+◌, ◌*◌, ◌/◌, ◌%◌, ◌^◌, ◌==◌, ◌∙◌, sym, ap, refl, Bool, true, false, eq-eqb, bit_and, bit_or}
use Rattle.std.proofs.lemmas.Nat.{and_or_apart, and_assoc}
use Rattle.std.proofs.lemmas.Nat.Bits.{and_high}
use Rattle.m386_base.specs.declared.flags.Flag.TheVariants.{NestedTask}
use Rattle.m386_base.specs.declared.kind.SwitchKind.{SwitchKind}
use Rattle.m386_base.specs.declared.kind.SwitchKind.TheVariants as switches
use Rattle.m386_base.specs.declared.number.Flags.{Flags}
use Rattle.m386_base.specs.Flags.{has_flag, with_flag, put_bit, has_bit}
use Rattle.m386_switch.specs.Ends.{nt_of, old_nt_of}
use Rattle.m386_switch.specs.Parts.{saved_flags}
use Rattle.m386_switch.specs.Switch.{entered_flags, loaded_flags}

set_there : (n : ℕ) → (n / 2 ^ 15 * 2 ^ 15 + 2 ^ 14 + n % 2 ^ 14) / 2 ^ 14 % 2 ≡ 1
set_there n = omega arith

clear_there : (n : ℕ) → (n / 2 ^ 15 * 2 ^ 15 + 0 + n % 2 ^ 14) / 2 ^ 14 % 2 ≡ 0
clear_there n = omega arith

put_there : (n : ℕ) (b : Bool) → has_bit (put_bit n 14 b) 14 ≡ b
unfolding put_bit
put_there n true = eq-eqb _ 1 (set_there n)
put_there n false = ap (λ x. x == 1) (clear_there n)

with_nested : (b : Bool) (f : Flags) → has_flag NestedTask (with_flag NestedTask b f) ≡ b
unfolding with_flag
with_nested b f = put_there f.0 b

same_bit : (n m : ℕ) → bit_and n 0x4000 ≡ bit_and m 0x4000 → has_bit n 14 ≡ has_bit m 14
same_bit n m h =
    let k : n / 2 ^ 14 % 2 * 2 ^ 14 ≡ m / 2 ^ 14 % 2 * 2 ^ 14 = sym (and_high n 1 14) ∙ h ∙ and_high m 1 14 in
    let z : n / 2 ^ 14 % 2 ≡ m / 2 ^ 14 % 2 = omega (arith, k) in ap (λ x. x == 1) z

loaded_nested : (v : ℕ) → has_flag NestedTask (loaded_flags v) ≡ has_bit v 14
loaded_nested v = same_bit (bit_or (bit_and v 0x7fd5) 2) v (and_or_apart 0x4000 (bit_and v 0x7fd5) 2 refl ∙ and_assoc 0x4000 v 0x7fd5)

pub entered_nested : (kind : SwitchKind) (v : ℕ) → has_flag NestedTask (entered_flags kind v) ≡ nt_of kind v
entered_nested switches.Jmp v = with_nested false (loaded_flags v)
entered_nested switches.Call v = with_nested true (loaded_flags v)
entered_nested switches.Event v = with_nested true (loaded_flags v)
entered_nested switches.Iret v = loaded_nested v
entered_nested switches.Start v = with_nested false (loaded_flags v)

pub saved_nested : (kind : SwitchKind) (f : Flags) → has_flag NestedTask (saved_flags kind f) ≡ old_nt_of kind (has_flag NestedTask f)
saved_nested switches.Jmp f = refl
saved_nested switches.Call f = refl
saved_nested switches.Event f = refl
saved_nested switches.Iret f = with_nested false f
saved_nested switches.Start f = refl
