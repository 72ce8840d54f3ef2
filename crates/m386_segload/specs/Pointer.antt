-- Far pointers in memory.
use Rattle.std.specs.Prelude.{ℕ, ◌+◌, ◌%◌, ◌^◌}
use Rattle.m386_base.specs.declared.ask.Role.TheVariants.{Operand}
use Rattle.m386_base.specs.declared.number.Width.{Width}
use Rattle.m386_base.specs.Phrase.{Phrase, Done, ◌>>=◌}
use Rattle.m386_opmap.specs.declared.op.Addr.{Addr}
use Rattle.m386_state.specs.declared.proc.Proc.{Proc}
use Rattle.m386_access.specs.Access.{read_phrase}
use Rattle.m386_access.specs.Address.{segment_number, offset_of}
use Rattle.m386_access.specs.After.{len_of}
use Rattle.m386_segload.specs.declared.pointer.FarPointer.{FarPointer}

abbrev pub far_pointer : ℕ → ℕ → FarPointer
far_pointer selector offset = record { selector = selector; offset = offset }

-- A far pointer in memory: its offset, of 2 or 4 bytes, and its selector, of 2, right behind it. Each is tested when it is read.
-- Source: Intel 80386 PRM 17.2.2.11, JMP, LGS/LSS/LDS/LES/LFS; the order: docs/DECISIONS.md, "Operands of several parts"
unfoldable pub read_pointer_phrase : Proc → Width → Addr → Phrase FarPointer
read_pointer_phrase p w a = do
  offset ← read_phrase p Operand (segment_number a.seg a.base) (offset_of p a) (len_of w)
  selector ← read_phrase p Operand (segment_number a.seg a.base) ((offset_of p a + len_of w) % 2 ^ 32) 2
  Done (far_pointer (selector % 2 ^ 16) offset)
