-- Results of logic with their flags.
use Rattle.std.specs.Prelude.{ℕ, false}
use Rattle.m386_base.specs.declared.number.Flags.{Flags}
use Rattle.m386_base.specs.declared.number.Width.{Width}
use Rattle.m386_base.specs.declared.flags.Flag.TheVariants.{Carry, Adjust, Overflow}
use Rattle.m386_base.specs.Flags.{with_flag}
use Rattle.m386_alu.specs.Flags.{with_result}

-- A result of AND, OR or XOR and the flags after it: CF and OF are 0, and so is AF, and SF, ZF and PF speak of the result.
-- Source: Intel 80386 PRM 3.4.1
-- Own choice: docs/DECISIONS.md, "Flags that the manual leaves undefined"
unfoldable pub logic_of : Width → ℕ → Flags → ℕ × Flags
logic_of w value f =
    (value, with_result w value (with_flag Carry false (with_flag Adjust false (with_flag Overflow false f))))
