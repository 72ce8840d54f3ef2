-- The parts of a task switch up to the load of the new task's fields, in the order of the work.
use Rattle.std.specs.Prelude.{ℕ, Bool, true, false, List, [], ◌∷◌, ◌+◌, ◌-◌, ◌%◌, ◌^◌, if◌then◌else◌, bit_or, bit_and, Option, Some, None, slice_set, slice_index, not, ◌&&◌, nat_lt, ◌==◌}
use Rattle.m386_base.specs.declared.ask.Role.{Role}
use Rattle.m386_base.specs.declared.ask.Role.TheVariants as roles
use Rattle.m386_base.specs.declared.desc.Desc.{Desc}
use Rattle.m386_base.specs.declared.flags.Flag.TheVariants.{NestedTask}
use Rattle.m386_base.specs.declared.kind.SwitchKind.{SwitchKind}
use Rattle.m386_base.specs.declared.kind.SwitchKind.TheVariants as switches
use Rattle.m386_base.specs.declared.number.Flags.{Flags}
use Rattle.m386_base.specs.declared.split.Piece.{Piece}
use Rattle.m386_base.specs.Flags.{with_flag}
use Rattle.m386_base.specs.Split.{gather_of}
use Rattle.m386_base.specs.Phrase.{Phrase, Done, ◌>>=◌, one}
use Rattle.m386_access.specs.Access.{read_ask}
use Rattle.m386_checks.specs.declared.facts.Facts.{Facts}
use Rattle.m386_checks.specs.declared.facts.Fail.{Fail}
use Rattle.m386_checks.specs.First.{old_fail_of}
use Rattle.m386_segload.specs.Descriptors.{descriptor_phrase, byte_piece, access_byte_phrase}
use Rattle.m386_state.specs.declared.proc.Proc.{Proc}
use Rattle.m386_state.specs.Start.{seg_at}
use Rattle.m386_tss.specs.Orders.{saved_fields, loaded_fields}
use Rattle.m386_switch.specs.Fields.{field_phrase, field_write_phrase}

-- The role of the claim. IRET makes none.
-- Own choice: docs/DECISIONS.md, "The order of bus cycles"
abbrev pub claim_role : SwitchKind → Role
claim_role switches.Jmp = roles.ClaimJmp
claim_role switches.Call = roles.ClaimCall
claim_role switches.Event = roles.ClaimCall
claim_role switches.Iret = roles.ClaimCall
claim_role switches.Start = roles.ClaimStart

abbrev pub is_iret : SwitchKind → Bool
is_iret switches.Iret = true
is_iret _ = false

-- no row fails
abbrev pub is_passed : Option Fail → Bool
is_passed None = true
is_passed (Some x) = false

-- rows 1 to 7 hold
unfoldable pub is_admitted : Facts → Bool
is_admitted f = is_passed (old_fail_of f)

-- The selector of the new TSS: for IRET the back link of the old one, which is read.
-- Source: Intel 80386 PRM 7.6
unfoldable pub link_phrase : SwitchKind → ℕ → ℕ → Phrase ℕ
link_phrase switches.Iret base selector = field_phrase roles.Back base 0 >>= (λ v. Done (v % 2 ^ 16))
link_phrase _ base selector = Done selector

-- the facts with the descriptor of the new TSS
abbrev pub with_tss : Facts → Desc → Facts
with_tss f d = record f { tss = Some d }

-- The claim, where rows 1 to 7 hold with this descriptor: its busy bit is set, which ends the locked group.
-- Source: Intel 80386 PRM 7.5
unfoldable pub claim_rest : Facts → ℕ → Desc → Phrase Desc
claim_rest f address d =
    if is_admitted (with_tss f d) && not (is_iret f.kind) then (access_byte_phrase (claim_role f.kind) address (bit_or d.access 2) >>= (λ _. Done d))
    else Done d

-- The new TSS's descriptor, and the claim, as one locked group.
-- Source: Intel 80386 PRM 7.5; the locked group: docs/DECISIONS.md, "The order of bus cycles"
unfoldable pub claim_phrase : ℕ → Facts → Phrase Desc
claim_phrase address f = descriptor_phrase roles.Tss address >>= claim_rest f address

-- The flags as they are saved: IRET clears NT.
-- Source: Intel 80386 PRM 7.6
abbrev pub saved_flags : SwitchKind → Flags → Flags
saved_flags switches.Iret f = with_flag NestedTask false f
saved_flags _ f = f

-- What is saved as a field: EIP, EFLAGS, the general registers, the selectors.
-- Source: Intel 80386 PRM 7.1, 7.5
abbrev pub saved_value : SwitchKind → Proc → ℕ → ℕ
saved_value kind p number =
    if number == 8 then p.eip else if number == 9 then (saved_flags kind p.eflags).0
    else if nat_lt number 18 then slice_index p.regs (number - 10) else (seg_at p (number - 18)).selector

-- fields saved one after another
unfoldable pub saves : SwitchKind → Proc → List ℕ → Phrase (Unit {0})
saves kind p [] = Done tt
saves kind p (number ∷ numbers) = do
  _ ← field_write_phrase roles.Save p.tr.desc.base number (saved_value kind p number)
  saves kind p numbers

-- The old task's state, saved in its TSS. A start saves nothing.
-- Source: Intel 80386 PRM 7.5
unfoldable pub save_phrase : SwitchKind → Proc → Phrase (Unit {0})
save_phrase switches.Start p = Done tt
save_phrase kind p = saves kind p saved_fields

-- The back link of the new TSS, written by CALL and by an event.
-- Source: Intel 80386 PRM 7.6
unfoldable pub relink_phrase : SwitchKind → ℕ → ℕ → Phrase (Unit {0})
relink_phrase switches.Call base selector = field_write_phrase roles.Link base 0 selector
relink_phrase switches.Event base selector = field_write_phrase roles.Link base 0 selector
relink_phrase _ base selector = Done tt

-- the group of the access byte of the descriptor at this address, byte 5
abbrev pub access_piece : ℕ → Piece
access_piece address = byte_piece ((address + 5) % 2 ^ 32)

-- The busy bit of the descriptor at this address, cleared: byte 5 read and written in one locked group.
-- Source: Intel 80386 PRM 7.5; the locked group: docs/DECISIONS.md, "The order of bus cycles"
unfoldable pub clear_phrase : Role → ℕ → Phrase (Unit {0})
clear_phrase role address = do
  found ← one (read_ask role false (access_piece address))
  _ ← access_byte_phrase role address (bit_and (gather_of (access_piece address) found) 0xfd)
  Done tt

-- The old task's busy bit, cleared by JMP and IRET.
-- Source: Intel 80386 PRM 7.5
unfoldable pub release_phrase : SwitchKind → ℕ → Phrase (Unit {0})
release_phrase switches.Jmp address = clear_phrase roles.RelJmp address
release_phrase switches.Iret address = clear_phrase roles.RelRet address
release_phrase _ address = Done tt

-- what is loaded, before any field was
abbrev pub no_fields : List ℕ
no_fields = 0 ∷ 0 ∷ 0 ∷ 0 ∷ 0 ∷ 0 ∷ 0 ∷ 0 ∷ 0 ∷ 0 ∷ 0 ∷ 0 ∷ 0 ∷ 0 ∷ 0 ∷ 0 ∷ 0 ∷ 0 ∷ []

-- fields loaded one after another, each to the place of its number, counted from 8
unfoldable pub loads : ℕ → List ℕ → List ℕ → Phrase (List ℕ)
loads base loaded [] = Done loaded
loads base loaded (number ∷ numbers) = do
  value ← field_phrase roles.Load base number
  loads base (slice_set loaded (number - 8) value) numbers

-- The new task's fields 8 to 25.
-- Source: Intel 80386 PRM 7.5
unfoldable pub load_phrase : ℕ → Phrase (List ℕ)
load_phrase base = loads base no_fields loaded_fields
