-- The state behind an instruction.
use Rattle.std.specs.Prelude.{ℕ, ◌+◌, ◌*◌, ◌/◌, ◌%◌, ◌==◌, if◌then◌else◌, slice_set, slice_index}
use Rattle.m386_base.specs.declared.number.Flags.{Flags}
use Rattle.m386_base.specs.declared.number.Width.{Width}
use Rattle.m386_base.specs.declared.number.Width.TheVariants.{W8, W16, W32}
use Rattle.m386_state.specs.declared.proc.Proc.{Proc}

-- at another EIP
abbrev pub at_eip : Proc → ℕ → Proc
at_eip p eip = record p { eip = eip }

-- A general register by its number, of which three bits count: EAX, ECX, EDX, EBX, ESP, EBP, ESI, EDI.
-- Source: Intel 80386 PRM 2.3.1, 17.2.1
abbrev pub register_of : Proc → ℕ → ℕ
register_of p register = slice_index p.regs (register % 8)

-- with a general register changed
abbrev pub with_register : Proc → ℕ → ℕ → Proc
with_register p register value = record p { regs = slice_set p.regs (register % 8) value }

-- with other flags
abbrev pub with_flags : Proc → Flags → Proc
with_flags p f = record p { eflags = f }

-- how many bytes an operand has
abbrev pub len_of : Width → ℕ
len_of W8 = 1
len_of W16 = 2
len_of W32 = 4

-- A register of 8 bits: AL, CL, DL, BL, AH, CH, DH, BH.
-- Source: Intel 80386 PRM 2.3.1, 17.2.1
abbrev pub byte_register_of : Proc → ℕ → ℕ
byte_register_of p register = if register / 4 % 2 == 0 then register_of p (register % 4) % 256 else register_of p (register % 4) / 256 % 256

-- a register by its width
abbrev pub register_at : Width → Proc → ℕ → ℕ
register_at W32 p register = register_of p register
register_at W16 p register = register_of p register % 65536
register_at W8 p register = byte_register_of p register

-- with a register of 8 bits changed
abbrev pub with_byte_register : Proc → ℕ → ℕ → Proc
with_byte_register p register value =
    let whole = register_of p (register % 4) in
    if register / 4 % 2 == 0 then with_register p (register % 4) (whole / 256 * 256 + value % 256)
    else with_register p (register % 4) (whole / 65536 * 65536 + value % 256 * 256 + whole % 256)

-- With a register changed, by its width. The other bits of the whole register stay.
-- Source: Intel 80386 PRM 2.3.1
abbrev pub with_register_at : Width → Proc → ℕ → ℕ → Proc
with_register_at W32 p register value = with_register p register value
with_register_at W16 p register value = with_register p register (register_of p register / 65536 * 65536 + value % 65536)
with_register_at W8 p register value = with_byte_register p register value
