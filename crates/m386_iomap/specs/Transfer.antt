-- What IN and OUT move, and where.
use Rattle.std.specs.Prelude.{ℕ, ◌%◌, ◌^◌, Option, Some, None}
use Rattle.m386_opmap.specs.declared.name.Name.{Name}
use Rattle.m386_opmap.specs.declared.name.Name.TheVariants as names
use Rattle.m386_state.specs.declared.proc.Proc.{Proc}
use Rattle.m386_access.specs.After.{register_of}
use Rattle.m386_access.specs.declared.operands.Operands.{Operands}
use Rattle.m386_access.specs.declared.operands.Operands.TheVariants as forms
use Rattle.m386_access.specs.declared.operands.Place.{Place}
use Rattle.m386_access.specs.declared.operands.Place.TheVariants.{Register, Number}
use Rattle.m386_iomap.specs.declared.transfer.Direction.{Direction}
use Rattle.m386_iomap.specs.declared.transfer.Direction.TheVariants.{In, Out}
use Rattle.m386_iomap.specs.declared.transfer.Transfer.{Transfer}

-- which way the operation of a name moves bytes, where it is IN or OUT
abbrev pub direction_of : Name → Option Direction
direction_of names.In = Some In
direction_of names.Out = Some Out
direction_of _ = None

-- The port that an operand gives: DX, or the number of the instruction.
-- Source: Intel 80386 PRM 8.2.1
abbrev pub port_of : Proc → Place → Option ℕ
port_of p (Register register) = Some (register_of p register % 2 ^ 16)
port_of p (Number number) = Some (number % 2 ^ 16)
port_of p _ = None

-- a transfer, where there is a port
abbrev pub transfer_at : Direction → ℕ → Option ℕ → Option Transfer
transfer_at direction register (Some port) = Some (record { direction = direction; register = register; port = port })
transfer_at direction register None = None

-- The transfer of an operation by its operands, the destination first.
-- Source: Intel 80386 PRM 17.2.2.11, IN, OUT
abbrev pub transfer_of : Proc → Option Direction → Operands → Option Transfer
transfer_of p (Some In) (forms.Two (Register register) port) = transfer_at In register (port_of p port)
transfer_of p (Some Out) (forms.Two port (Register register)) = transfer_at Out register (port_of p port)
transfer_of p _ _ = None
