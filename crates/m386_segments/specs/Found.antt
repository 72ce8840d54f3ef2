-- What is found at a selector.
use Rattle.std.specs.Prelude.{ℕ, ◌%◌, ◌^◌, true, false, is_some, Option, Some, None}
use Rattle.m386_base.specs.declared.number.Width.{Width}
use Rattle.m386_base.specs.declared.number.Width.TheVariants.{W16}
use Rattle.m386_base.specs.Phrase.{Phrase, Done, ◌>>=◌}
use Rattle.m386_state.specs.declared.proc.Proc.{Proc}
use Rattle.m386_access.specs.After.{with_register_at}
use Rattle.m386_access.specs.Operands.{value_phrase, on_register, on_one, on_two}
use Rattle.m386_access.specs.declared.operands.Place.{Place}
use Rattle.m386_access.specs.declared.operands.Operands.{Operands}
use Rattle.m386_segload.specs.declared.wanted.Look.{Look}
use Rattle.m386_segload.specs.Look.{look_phrase}
use Rattle.m386_segments.specs.Zero.{with_zero}

-- What is found at the selector of an operand, which is read as 16 bits.
-- Source: Intel 80386 PRM 6.3.6.1, 17.2.2.11, LAR, LSL, VERR
unfoldable pub found_phrase : Proc → Look → Place → Phrase (Option ℕ)
found_phrase p what operand = do
  selector ← value_phrase W16 p operand
  found ← look_phrase p what (selector % 2 ^ 16)
  Done found

-- A register put to what was found and ZF set; else ZF is cleared, and the register stays.
-- Source: Intel 80386 PRM 17.2.2.11, LAR, LSL
abbrev pub with_shown : Width → Proc → ℕ → Option ℕ → Proc
with_shown w p register (Some shown) = with_register_at w (with_zero p true) register shown
with_shown w p register None = with_zero p false

unfoldable pub show_into_phrase : Proc → Look → Width → ℕ → Place → Phrase Proc
show_into_phrase p what w register operand = found_phrase p what operand >>= (λ found. Done (with_shown w p register found))

-- LAR or LSL.
-- Source: Intel 80386 PRM 17.2.2.11, LAR, LSL
abbrev pub show_phrase : Look → Width → Operands → Proc → Phrase Proc
show_phrase what w operands p = on_two operands (λ first second. on_register first (λ register. show_into_phrase p what w register second))

-- ZF says whether it was found fit.
-- Source: Intel 80386 PRM 17.2.2.11, VERR
unfoldable pub verify_place_phrase : Proc → Look → Place → Phrase Proc
verify_place_phrase p what operand = found_phrase p what operand >>= (λ found. Done (with_zero p (is_some found)))

-- VERR or VERW.
-- Source: Intel 80386 PRM 17.2.2.11, VERR
abbrev pub verify_phrase : Look → Operands → Proc → Phrase Proc
verify_phrase what operands p = on_one operands (λ operand. verify_place_phrase p what operand)
