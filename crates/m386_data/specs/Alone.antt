-- Operations without operands, on flags and the accumulator.
use Rattle.std.specs.Prelude.{ℕ, ◌%◌, ◌^◌, not, true, false, Option, Some, None}
use Rattle.m386_base.specs.declared.flags.Flag.{Flag}
use Rattle.m386_base.specs.declared.flags.Flag.TheVariants.{Carry, Parity, Adjust, Zero, Sign, Direction}
use Rattle.m386_base.specs.declared.number.Flags.{Flags}
use Rattle.m386_base.specs.declared.number.Width.{Width}
use Rattle.m386_base.specs.declared.number.Width.TheVariants.{W8, W16, W32}
use Rattle.m386_base.specs.Flags.{place, has_bit, has_flag, with_flag}
use Rattle.m386_state.specs.declared.proc.Proc.{Proc}
use Rattle.m386_alu.specs.Products.{extension}
use Rattle.m386_alu.specs.Width.{bits}
use Rattle.m386_access.specs.After.{register_at, with_flags, with_register_at}
use Rattle.m386_access.specs.Registers.{eax, edx, ah}
use Rattle.m386_opmap.specs.declared.name.Name.{Name}
use Rattle.m386_opmap.specs.declared.name.Name.TheVariants as names
use Rattle.m386_data.specs.Change.{low_of}
use Rattle.m386_data.specs.Moves.{extended_of}
use Rattle.m386_data.specs.declared.alone.Alone.{Alone}
use Rattle.m386_data.specs.declared.alone.Alone.TheVariants.{Nothing, ClearCarry, SetCarry, TurnCarry, ClearDirection, SetDirection, StoreFlags, LoadFlags, Widen, SpreadSign}

-- What the operation of a name does, where it is one of this group.
-- Source: Intel 80386 PRM 17.2.2.11, CBW/CWDE, CLC, CLD, CMC, CWD/CDQ, LAHF, NOP, SAHF, STC, STD
abbrev pub alone_of : Name → Option Alone
alone_of names.Nop = Some Nothing
alone_of names.Clc = Some ClearCarry
alone_of names.Stc = Some SetCarry
alone_of names.Cmc = Some TurnCarry
alone_of names.Cld = Some ClearDirection
alone_of names.Std = Some SetDirection
alone_of names.Sahf = Some StoreFlags
alone_of names.Lahf = Some LoadFlags
alone_of names.Cwde = Some Widen
alone_of names.Cdq = Some SpreadSign
alone_of _ = None

-- a flag as a byte has it at the flag's place
abbrev pub with_bit_of : Flag → ℕ → Flags → Flags
with_bit_of flag byte f = with_flag flag (has_bit byte (place flag)) f

-- CF, PF, AF, ZF and SF as a byte has them.
-- Source: Intel 80386 PRM 17.2.2.11, SAHF
abbrev pub with_low_flags : ℕ → Flags → Flags
with_low_flags byte f = with_bit_of Carry byte (with_bit_of Parity byte (with_bit_of Adjust byte (with_bit_of Zero byte (with_bit_of Sign byte f))))

-- half as wide
abbrev pub half : Width → Width
half W8 = W8
half W16 = W8
half W32 = W16

-- The state after an operation without operands: NOP, CLC, STC, CMC, CLD, STD, SAHF, LAHF, CWDE (CBW with 16 bits) and CDQ
-- (CWD with 16 bits).
-- Source: Intel 80386 PRM 17.2.2.11, CBW/CWDE, CLC, CLD, CMC, CWD/CDQ, LAHF, NOP, SAHF, STC, STD
abbrev pub done_alone : Alone → Width → Proc → Proc
done_alone Nothing w p = p
done_alone ClearCarry w p = with_flags p (with_flag Carry false p.eflags)
done_alone SetCarry w p = with_flags p (with_flag Carry true p.eflags)
done_alone TurnCarry w p = with_flags p (with_flag Carry (not (has_flag Carry p.eflags)) p.eflags)
done_alone ClearDirection w p = with_flags p (with_flag Direction false p.eflags)
done_alone SetDirection w p = with_flags p (with_flag Direction true p.eflags)
done_alone StoreFlags w p = with_flags p (with_low_flags (register_at W8 p ah) p.eflags)
done_alone LoadFlags w p = with_register_at W8 p ah (p.eflags.0 % 2 ^ 8)
done_alone Widen w p = with_register_at w p eax (extended_of true (half w) (low_of (half w) (register_at (half w) p eax)))
done_alone SpreadSign w p = with_register_at w p edx (extension true (bits w) (register_at w p eax))
