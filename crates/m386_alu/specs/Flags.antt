-- CF as a number, and what three flags say of every result.
use Rattle.std.specs.Prelude.{◌≡◌, ℕ, ◌/◌, ◌%◌, ◌^◌, ◌==◌, count_ones}
use Rattle.m386_base.specs.declared.number.Flags.{Flags}
use Rattle.m386_base.specs.declared.number.Width.{Width}
use Rattle.m386_base.specs.declared.flags.Flag.TheVariants.{Parity, Zero, Sign}
use Rattle.m386_base.specs.Flags.{with_flag}
use Rattle.m386_alu.specs.Width.{bits, is_negative}

-- the carry flag as a number, 0 or 1
abbrev pub carry_of : Flags → ℕ
carry_of f = f.0 % 2

-- What SF, ZF and PF say of a result: its top bit, that it is 0, an even number of ones in its low eight bits.
-- Source: Intel 80386 PRM 2.3.4.1, appendix C
abbrev pub with_result : Width → ℕ → Flags → Flags
with_result w value f =
    with_flag Parity (count_ones (value % 256) % 2 == 0)
    (with_flag Zero (value == 0)
    (with_flag Sign (is_negative (bits w) value) f))

-- No bit of the flags register but CF, PF, AF, ZF, SF and OF has changed: not bit 1, 3 or 5, not TF, IF or DF, and none from
-- IOPL on.
-- Source: Intel 80386 PRM 2.3.4.1
pub record KeepsOthers (before after : Flags) : Type 0 where
  pub bit_1 : after.0 / 2 % 2 ≡ before.0 / 2 % 2
  pub bit_3 : after.0 / 2 ^ 3 % 2 ≡ before.0 / 2 ^ 3 % 2
  pub bit_5 : after.0 / 2 ^ 5 % 2 ≡ before.0 / 2 ^ 5 % 2
  pub control : after.0 / 2 ^ 8 % 2 ^ 3 ≡ before.0 / 2 ^ 8 % 2 ^ 3
  pub upper : after.0 / 2 ^ 12 ≡ before.0 / 2 ^ 12
