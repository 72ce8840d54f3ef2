-- BOUND.
use Rattle.std.specs.Prelude.{ℕ, ◌+◌, ◌%◌, ◌^◌, Bool, ◌||◌, int_lt, if◌then◌else◌}
use Rattle.m386_base.specs.declared.ask.Role.TheVariants as roles
use Rattle.m386_base.specs.declared.exception.Exception.TheVariants.{BoundsCheck}
use Rattle.m386_base.specs.declared.number.Width.{Width}
use Rattle.m386_base.specs.Exceptions.{fault_of}
use Rattle.m386_base.specs.Phrase.{Phrase, Done, Faults, ◌>>=◌}
use Rattle.m386_state.specs.declared.proc.Proc.{Proc}
use Rattle.m386_alu.specs.Width.{bits, signed}
use Rattle.m386_access.specs.Access.{read_phrase}
use Rattle.m386_access.specs.Address.{segment_number, offset_of}
use Rattle.m386_access.specs.After.{len_of, register_at}
use Rattle.m386_access.specs.declared.operands.Manner.{Manner}
use Rattle.m386_access.specs.Operands.{on_register, on_memory, on_two}
use Rattle.m386_access.specs.declared.operands.Operands.{Operands}
use Rattle.m386_data.specs.Change.{low_of}

-- less, of two numbers of a width that are read with a sign
abbrev pub is_less_signed : Width → ℕ → ℕ → Bool
is_less_signed w a b = int_lt (signed (bits w) a) (signed (bits w) b)

-- whether an index is below the lower bound or above the upper one
unfoldable pub is_outside : Width → ℕ → ℕ → ℕ → Bool
is_outside w index lower upper = is_less_signed w index lower || is_less_signed w upper index

-- Both bounds read, the lower one first, each by an access of its own.
-- Source: Intel 80386 PRM 17.2.2.11, BOUND
unfoldable pub bounds_phrase : Width → Proc → ℕ → ℕ → Phrase (ℕ × ℕ)
bounds_phrase w p seg offset = do
  lower ← read_phrase p roles.Operand seg offset (len_of w)
  upper ← read_phrase p roles.Operand seg ((offset + len_of w) % 2 ^ 32) (len_of w)
  Done (lower, upper)

-- Interrupt 5 where the index is outside.
-- Source: Intel 80386 PRM 9.8.5
unfoldable pub check_bounds_phrase : Width → Proc → ℕ → ℕ → ℕ → Phrase Proc
check_bounds_phrase w p register seg offset =
    bounds_phrase w p seg offset
    >>= (λ bounds. if is_outside w (low_of w (register_at w p register)) (low_of w bounds.0) (low_of w bounds.1) then Faults (fault_of BoundsCheck) else Done p)

-- BOUND.
-- Source: Intel 80386 PRM 17.2.2.11, BOUND
unfoldable pub bound_phrase : Manner → Operands → Proc → Phrase Proc
bound_phrase m operands p =
    on_two operands (λ first second. on_register first (λ register. on_memory second (λ a. check_bounds_phrase m.width p register (segment_number a.seg a.base) (offset_of p a))))
