-- The operations of this crate.
use Rattle.std.specs.Prelude.{ℕ, Bool, is_some, ◌/◌, ◌%◌, ◌^◌, nat_le, Option, Some, None, if◌then◌else◌}
use Rattle.m386_base.specs.declared.number.Width.{Width}
use Rattle.m386_base.specs.Exceptions.{general_protection_of, undefined_opcode_of}
use Rattle.m386_base.specs.Phrase.{Phrase, Done, Faults, ◌>>=◌}
use Rattle.m386_opmap.specs.declared.op.Op.{Op}
use Rattle.m386_state.specs.declared.proc.Proc.{Proc}
use Rattle.m386_state.specs.Start.{cpl_of}
use Rattle.m386_access.specs.After.{len_of, register_at, with_register_at}
use Rattle.m386_access.specs.Operands.{operands_of}
use Rattle.m386_iomap.specs.Map.{may_use_phrase}
use Rattle.m386_iomap.specs.Ports.{ports_read_phrase, ports_write_phrase}
use Rattle.m386_iomap.specs.Transfer.{direction_of, transfer_of}
use Rattle.m386_iomap.specs.declared.transfer.Direction.{Direction}
use Rattle.m386_iomap.specs.declared.transfer.Direction.TheVariants.{In, Out}
use Rattle.m386_iomap.specs.declared.transfer.Transfer.{Transfer}

-- whether an operation is one of this crate's
unfoldable pub takes : Op → Bool
takes op = is_some (direction_of op.name)

-- CPL is at most IOPL, bits 12 and 13.
-- Source: Intel 80386 PRM 8.3.1
abbrev pub has_io_privilege : Proc → Bool
has_io_privilege p = nat_le (cpl_of p) (p.eflags.0 / 2 ^ 12 % 4)

-- the test of an access by the map
unfoldable pub map_test_phrase : Proc → ℕ → ℕ → Phrase (Unit {0})
map_test_phrase p port len = may_use_phrase p port len >>= (λ allowed. if allowed then Done tt else Faults general_protection_of)

-- The test of an access: none where CPL is at most IOPL, else that of the map.
-- Source: Intel 80386 PRM 8.3, 17.2.2.11, IN, OUT
unfoldable pub test_phrase : Proc → ℕ → ℕ → Phrase (Unit {0})
test_phrase p port len = if has_io_privilege p then Done tt else map_test_phrase p port len

-- IN: a register of this width takes the bytes of the ports.
-- Source: Intel 80386 PRM 17.2.2.11, IN
unfoldable pub in_phrase : Width → Proc → ℕ → ℕ → Phrase Proc
in_phrase w p register port = ports_read_phrase port (len_of w) >>= (λ value. Done (with_register_at w p register value))

-- OUT: the ports take the bytes of a register of this width.
-- Source: Intel 80386 PRM 17.2.2.11, OUT
unfoldable pub out_phrase : Width → Proc → ℕ → ℕ → Phrase Proc
out_phrase w p register port = do
  _ ← ports_write_phrase port (len_of w) (register_at w p register)
  Done p

-- the cycles on the ports, by the direction
abbrev pub directed_phrase : Direction → Width → Proc → ℕ → ℕ → Phrase Proc
directed_phrase In w p register port = in_phrase w p register port
directed_phrase Out w p register port = out_phrase w p register port

abbrev pub moved_phrase : Width → Proc → Transfer → Phrase Proc
moved_phrase w p t = directed_phrase t.direction w p t.register t.port

-- A transfer: the test of its access, and then its cycles on the ports.
-- Source: Intel 80386 PRM 17.2.2.11, IN, OUT
unfoldable pub transfer_phrase : Width → Proc → Transfer → Phrase Proc
transfer_phrase w p t = do
  _ ← test_phrase p t.port (len_of w)
  moved_phrase w p t

-- Other operands are #UD.
-- Own choice: docs/DECISIONS.md, "Operations that aren't built"
abbrev pub named_phrase : Width → Proc → Option Transfer → Phrase Proc
named_phrase w p (Some t) = transfer_phrase w p t
named_phrase w p None = Faults undefined_opcode_of

-- An operation of this crate, with EIP behind it.
-- Source: Intel 80386 PRM 17.2.2.11, IN, OUT
unfoldable pub exec_phrase : Op → Proc → Phrase Proc
exec_phrase op p = named_phrase op.width p (transfer_of p (direction_of op.name) (operands_of op))
