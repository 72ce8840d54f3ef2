-- Far pointers that are loaded.
use Rattle.std.specs.Prelude.{ℕ}
use Rattle.m386_base.specs.declared.number.Width.{Width}
use Rattle.m386_base.specs.Phrase.{Phrase, Done, ◌>>=◌}
use Rattle.m386_opmap.specs.declared.op.Addr.{Addr}
use Rattle.m386_state.specs.declared.proc.Proc.{Proc}
use Rattle.m386_access.specs.After.{with_register_at}
use Rattle.m386_access.specs.Operands.{on_register, on_memory, on_two}
use Rattle.m386_access.specs.declared.operands.Operands.{Operands}
use Rattle.m386_segload.specs.declared.pointer.FarPointer.{FarPointer}
use Rattle.m386_segload.specs.Pointer.{read_pointer_phrase}
use Rattle.m386_segload.specs.Segments.{segment_phrase, with_segment}

-- an offset and a selector, loaded together
unfoldable pub load_both_phrase : Proc → Width → ℕ → ℕ → FarPointer → Phrase Proc
load_both_phrase p w seg register pointer = segment_phrase p seg pointer.selector >>= (λ value. Done (with_segment (with_register_at w p register pointer.offset) seg value))

-- A far pointer read and loaded: both registers change together.
-- Source: Intel 80386 PRM 17.2.2.11, LGS/LSS/LDS/LES/LFS
unfoldable pub load_pointer_phrase : Proc → Width → ℕ → ℕ → Addr → Phrase Proc
load_pointer_phrase p w seg register a = read_pointer_phrase p w a >>= (λ pointer. load_both_phrase p w seg register pointer)

-- LDS, LES, LFS, LGS or LSS.
-- Source: Intel 80386 PRM 17.2.2.11, LGS/LSS/LDS/LES/LFS
abbrev pub pointer_phrase : ℕ → Width → Operands → Proc → Phrase Proc
pointer_phrase seg w operands p = on_two operands (λ first second. on_register first (λ register. on_memory second (λ a. load_pointer_phrase p w seg register a)))
