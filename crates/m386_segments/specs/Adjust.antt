-- ARPL.
use Rattle.std.specs.Prelude.{ℕ, ◌%◌, ◌^◌, Bool, true, false, if◌then◌else◌}
use Rattle.m386_base.specs.declared.ask.Role.TheVariants as roles
use Rattle.m386_base.specs.declared.number.Width.TheVariants.{W16}
use Rattle.m386_base.specs.Exceptions.{undefined_opcode_of}
use Rattle.m386_base.specs.Phrase.{Phrase, Done, Faults, ◌>>=◌}
use Rattle.m386_opmap.specs.declared.op.Addr.{Addr}
use Rattle.m386_state.specs.declared.proc.Proc.{Proc}
use Rattle.m386_state.specs.Start.{seg_at}
use Rattle.m386_access.specs.Access.{memory_pieces, reads, writes}
use Rattle.m386_access.specs.Address.{segment_number, offset_of, may_write, linear_of, access_fault_of}
use Rattle.m386_access.specs.After.{register_at, with_register_at}
use Rattle.m386_access.specs.Operands.{on_register, on_two}
use Rattle.m386_access.specs.declared.operands.Place.{Place}
use Rattle.m386_access.specs.declared.operands.Place.TheVariants.{Register, Number, Memory, Other}
use Rattle.m386_access.specs.declared.operands.Operands.{Operands}
use Rattle.m386_segload.specs.Arpl.{arpl_of}
use Rattle.m386_segments.specs.Zero.{with_zero}

-- a register adjusted to a selector; ZF says whether it was raised
abbrev pub with_adjusted : Proc → ℕ → ℕ → Proc
with_adjusted p register source =
    let adjusted = arpl_of (register_at W16 p register % 2 ^ 16) source in
    if adjusted.1 then with_register_at W16 (with_zero p true) register adjusted.0 else with_zero p false

-- memory written where its selector was raised
unfoldable pub store_raised_phrase : Proc → ℕ → ℕ → Bool → Phrase Proc
store_raised_phrase p at selector raised =
    if raised then (writes roles.Operand selector (memory_pieces at 2) >>= (λ _. Done (with_zero p true)))
    else Done (with_zero p false)

-- the selector at a linear address, adjusted to another
unfoldable pub adjust_memory_phrase : Proc → ℕ → ℕ → Phrase Proc
adjust_memory_phrase p at source = do
  found ← reads roles.Operand 0 (memory_pieces at 2)
  store_raised_phrase p at (arpl_of (found % 2 ^ 16) source).0 (arpl_of (found % 2 ^ 16) source).1

-- ARPL on memory: tested as a write before its first cycle, and written only where the selector is raised.
-- Source: Intel 80386 PRM 6.3.1, 17.2.2.11, ARPL; the write: docs/DECISIONS.md, "ARPL on memory"
unfoldable pub adjust_in_phrase : Proc → Addr → ℕ → Phrase Proc
adjust_in_phrase p a source =
    let seg = segment_number a.seg a.base in
    let s = seg_at p seg in
    if may_write s (offset_of p a) 2 then adjust_memory_phrase p (linear_of s (offset_of p a)) source else Faults (access_fault_of seg)

abbrev pub adjust_place_phrase : Proc → Place → ℕ → Phrase Proc
adjust_place_phrase p (Register register) source = Done (with_adjusted p register source)
adjust_place_phrase p (Memory a) source = adjust_in_phrase p a source
adjust_place_phrase p (Number number) source = Faults undefined_opcode_of
adjust_place_phrase p Other source = Faults undefined_opcode_of

-- ARPL.
-- Source: Intel 80386 PRM 6.3.6.2, 17.2.2.11, ARPL
abbrev pub adjust_phrase : Operands → Proc → Phrase Proc
adjust_phrase operands p = on_two operands (λ first second. on_register second (λ register. adjust_place_phrase p first (register_at W16 p register % 2 ^ 16)))
