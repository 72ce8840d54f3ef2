-- Memory that is read and written by one operation.
use Rattle.std.specs.Prelude.{ℕ, Bool, false, List, [], ◌∷◌, bit_or, if◌then◌else◌}
use Rattle.m386_base.specs.declared.ask.Role.TheVariants.{Operand}
use Rattle.m386_base.specs.declared.split.Piece.{Piece}
use Rattle.m386_base.specs.Split.{gather_of}
use Rattle.m386_base.specs.Phrase.{Phrase, Done, Faults, ◌>>=◌, one}
use Rattle.m386_state.specs.declared.proc.Proc.{Proc}
use Rattle.m386_state.specs.Start.{seg_at}
use Rattle.m386_access.specs.Access.{memory_pieces, read_ask, write_ask}
use Rattle.m386_access.specs.Address.{may_read, may_write, linear_of, access_fault_of}

-- Groups read one after another, the first joined to the cycle before it exactly where `joined` says so, and each further one
-- exactly where there is a LOCK.
-- Source: Intel 80386 PRM 11.2.1
unfoldable pub linked_reads : Bool → Bool → ℕ → List Piece → Phrase ℕ
linked_reads lock joined value [] = Done value
linked_reads lock joined value (p ∷ ps) = do
  found ← one (read_ask Operand joined p)
  linked_reads lock lock (bit_or value (gather_of p found)) ps

-- groups written behind them, each joined exactly where there is a LOCK
unfoldable pub linked_writes : Bool → ℕ → List Piece → Phrase (Unit {0})
linked_writes lock value [] = Done tt
linked_writes lock value (p ∷ ps) = do
  _ ← one (write_ask Operand lock p value)
  linked_writes lock value ps

-- Groups read, and written with a function of what was found, which is answered. With LOCK that is one locked group.
-- Source: Intel 80386 PRM 11.2.1
unfoldable pub modify_groups_phrase : Bool → (ℕ → ℕ) → List Piece → Phrase ℕ
modify_groups_phrase lock change ps = do
  old ← linked_reads lock false 0 ps
  _ ← linked_writes lock (change old) ps
  Done old

-- Bytes changed through a segment register: the fault of the first false test of a write and no cycle, else their groups read
-- and written.
-- Source: Intel 80386 PRM 6.3.1, 11.2.1
unfoldable pub modify_phrase : Proc → ℕ → ℕ → ℕ → Bool → (ℕ → ℕ) → Phrase ℕ
modify_phrase p seg offset len lock change =
    let s = seg_at p seg in
    if may_write s offset len then modify_groups_phrase lock change (memory_pieces (linear_of s offset) len) else Faults (access_fault_of seg)

-- Bytes read through a segment register, with LOCK in one locked group.
-- Source: Intel 80386 PRM 6.3.1, 11.2.1
unfoldable pub inspect_phrase : Proc → ℕ → ℕ → ℕ → Bool → Phrase ℕ
inspect_phrase p seg offset len lock =
    let s = seg_at p seg in
    if may_read s offset len then linked_reads lock false 0 (memory_pieces (linear_of s offset) len) else Faults (access_fault_of seg)
