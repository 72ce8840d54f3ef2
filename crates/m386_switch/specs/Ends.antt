-- How an attempt at a task switch ends: whole, or at the first row of the check table that fails.
use Rattle.std.specs.Prelude.{◌≡◌, ◌≤◌, ◌<◌, ℕ, Bool, true, false, List, [], ◌∷◌, ◌++◌, bit_or, bit_and, Option, Some, None, IsSome, map, if◌then◌else◌}
use Rattle.std.specs.List.{AllByRecursion}
use Rattle.m386_base.specs.declared.ask.Ask.{Ask}
use Rattle.m386_base.specs.declared.ask.Role.{Role}
use Rattle.m386_base.specs.declared.ask.Role.TheVariants as roles
use Rattle.m386_base.specs.declared.desc.Desc.{Desc}
use Rattle.m386_base.specs.declared.flags.Flag.TheVariants.{NestedTask}
use Rattle.m386_base.specs.declared.kind.SwitchKind.{SwitchKind}
use Rattle.m386_base.specs.declared.kind.SwitchKind.TheVariants as switches
use Rattle.m386_base.specs.Bus.{BusView, cycle_of}
use Rattle.m386_base.specs.Flags.{has_flag}
use Rattle.m386_base.specs.Split.{gather_of}
use Rattle.m386_base.specs.Phrase.{Attempt}
use Rattle.m386_access.specs.Access.{read_ask, write_ask}
use Rattle.m386_checks.specs.declared.facts.Context.TheVariants.{Old, New}
use Rattle.m386_checks.specs.declared.facts.Facts.{Facts}
use Rattle.m386_checks.specs.declared.facts.Fail.{Fail}
use Rattle.m386_checks.specs.First.{first_fail_of, old_fail_of}
use Rattle.m386_checks.specs.Holds.{selector_at, descriptor_at}
use Rattle.m386_desc.specs.Bytes.{descriptor_in, two_doublewords}
use Rattle.m386_desc.specs.Selector.{place_in}
use Rattle.m386_segload.specs.Segments.{usable_seg}
use Rattle.m386_segload.specs.Tables.{accessed_role}
use Rattle.m386_state.specs.declared.proc.Proc.{Proc}
use Rattle.m386_state.specs.Start.{seg_at}
use Rattle.m386_tss.specs.Fields.{field_at}
use Rattle.m386_tss.specs.Orders.{saved_fields, loaded_fields}
use Rattle.m386_switch.specs.declared.outcome.Switched.{Switched}
use Rattle.m386_switch.specs.Fields.{field_write_ask, field_pieces}
use Rattle.m386_switch.specs.Parts.{access_piece, claim_role, is_iret, saved_value, saved_flags}
use Rattle.m386_switch.specs.Later.{names_place, names_local_table, new_place, is_to_mark, with_desc, segment_order, stops_at, stops_at_ldt}
use Rattle.m386_switch.specs.Seen.{Seen, seen, facts_of, words_after_ldt}
use Rattle.m386_switch.specs.Switch.{pending_by, entered_flags, entered_seg, seg_by, no_descs}

-- the cycles that write this value to a field of the TSS at this base
abbrev pub field_written : Role → ℕ → ℕ → ℕ → List Ask
field_written role base number value = map (λ p. field_write_ask role number p value) (field_pieces base number)

-- The claim: byte 5 of the new TSS's descriptor with bit 1 set, joined to the read before it. IRET makes none.
-- Source: Intel 80386 PRM 7.5, 7.6
abbrev pub claims_of : Attempt → SwitchKind → ℕ → Desc → List Ask
claims_of m switches.Iret selector d = []
claims_of m kind selector d = write_ask (claim_role kind) true (access_piece (place_in m.gdt_base selector)) (bit_or d.access 2) ∷ []

-- Each of the old task's fields 8 to 23 is written once, with its value. A start saves nothing.
-- Source: Intel 80386 PRM 7.5
abbrev pub AreSaved : SwitchKind → Proc → (ℕ → List Ask) → Type 0
AreSaved switches.Start p saves = (n : ℕ) → saves n ≡ []
AreSaved kind p saves = AllByRecursion (λ n. saves n ≡ field_written roles.Save p.tr.desc.base n (saved_value kind p n)) saved_fields

-- CALL and an event write the old TR selector as the new task's link, and nothing else writes one.
-- Source: Intel 80386 PRM 7.6
abbrev pub links_of : SwitchKind → ℕ → ℕ → List Ask
links_of switches.Call base selector = field_written roles.Link base 0 selector
links_of switches.Event base selector = field_written roles.Link base 0 selector
links_of _ base selector = []

-- byte 5 of the descriptor at this address read, and written with bit 1 cleared, as a locked group
abbrev pub IsCleared : Role → ℕ → List Ask → Type 0
IsCleared role address ts =
    (v : ℕ) × (ts ≡ cycle_of (read_ask role false (access_piece address)) v ∷ write_ask role true (access_piece address) (bit_and (gather_of (access_piece address) v) 0xfd) ∷ [])

-- JMP and IRET clear the old task's busy bit, and nothing else does.
-- Source: Intel 80386 PRM 7.5, 7.6
abbrev pub AreReleased : SwitchKind → ℕ → List Ask → Type 0
AreReleased switches.Jmp address ts = IsCleared roles.RelJmp address ts
AreReleased switches.Iret address ts = IsCleared roles.RelRet address ts
AreReleased _ address ts = ts ≡ []

-- NT of the new task: set by CALL and an event, cleared by JMP and a start, as loaded for IRET.
-- Source: Intel 80386 PRM 7.6
abbrev pub nt_of : SwitchKind → ℕ → Bool
nt_of switches.Call number = true
nt_of switches.Event number = true
nt_of switches.Iret number = has_flag NestedTask (record { 0 = number })
nt_of switches.Jmp number = false
nt_of switches.Start number = false

-- NT of the old task as it is saved: IRET clears it, and nothing else changes it.
-- Source: Intel 80386 PRM 7.6
abbrev pub old_nt_of : SwitchKind → Bool → Bool
old_nt_of switches.Iret nt = false
old_nt_of _ nt = nt

-- the accessed byte that is written for a segment register with this descriptor, byte 5 of it, where its rows hold
abbrev pub mark_of : Attempt → Facts → ℕ → Desc → List Ask
mark_of m f seg d =
    if is_to_mark f seg d then write_ask (accessed_role (selector_at f seg)) true (access_piece (new_place m.gdt_base f.ldt_desc (selector_at f seg))) (bit_or d.access 1) ∷ []
    else []

-- The accessed bytes that are written for these segment registers in turn, up to the first of which a row fails: each register
-- whose selector names a descriptor takes it from the next two doublewords.
-- Source: Intel 80386 PRM 5.1.1; docs/DECISIONS.md, "Accesses to descriptors"
unfoldable pub marks_of : Attempt → Facts → List ℕ → List ℕ → List Ask
marks_of m f [] ws = []
marks_of m f (seg ∷ segs) [] = []
marks_of m f (seg ∷ segs) (lo ∷ []) = []
marks_of m f (seg ∷ segs) (lo ∷ hi ∷ ws) =
    if names_place m.gdt_limit f.ldt_desc (selector_at f seg) then mark_of m f seg (descriptor_in (two_doublewords lo hi)) ++ (if stops_at seg (first_fail_of (with_desc f seg (descriptor_in (two_doublewords lo hi)))) then [] else marks_of m (with_desc f seg (descriptor_in (two_doublewords lo hi))) segs ws)
    else (if stops_at seg (first_fail_of f) then [] else marks_of m f segs (lo ∷ hi ∷ ws))

-- the facts before the descriptor of a segment register was read
abbrev pub before_segments : Facts → Facts
before_segments f = record f { seg_descs = no_descs }

-- The accessed bytes of an attempt: none where row 8 or 9 fails.
abbrev pub all_marks_of : Attempt → Facts → List ℕ → List Ask
all_marks_of m f ws = if stops_at_ldt (first_fail_of f) then [] else marks_of m f segment_order ws

-- The new task is entered: the table of effects, line by line.
-- found: the descriptor of the new TSS was read. claimed: the incoming busy bit. saved: the old task's fields. old_nt: NT in them.
-- linked: the incoming link. released: the outgoing busy bit. marked: the accessed bytes of
-- segment registers. loaded: each of fields 8 to 25 was read whole. tr, regs, eip, eflags,
-- segs, ldtr, cr0, gdtr: the state in the new task, where a segment register and LDTR can be used only where their descriptors were
-- read and none of their rows fails. trap: vector 1 by the T bit, where all rows hold. nt: the incoming NT. told: a row that fails is reported in the new task.
-- Source: Intel 80386 PRM 7.5, 7.6
pub record IsEntered (m : Attempt) (g : Seen) (f : Facts) (p after : Proc) : Type 0 where
  pub desc : Desc
  pub found : f.tss ≡ Some desc
  pub claimed : g.claims ≡ claims_of m f.kind f.selector desc
  pub saved : AreSaved f.kind p g.saves
  pub old_nt : has_flag NestedTask (saved_flags f.kind p.eflags) ≡ old_nt_of f.kind (has_flag NestedTask p.eflags)
  pub linked : g.links ≡ links_of f.kind desc.base m.tr_selector
  pub released : AreReleased f.kind (place_in m.gdt_base m.tr_selector) g.releases
  pub marked : g.marks ≡ all_marks_of m (before_segments f) (words_after_ldt m g)
  pub loaded : AllByRecursion (λ n. (g.loads n).count ≡ (field_at n).len) loaded_fields
  pub tr : after.tr ≡ usable_seg f.selector desc
  pub regs : after.regs ≡ map (λ n. (g.loads n).number) (10 ∷ 11 ∷ 12 ∷ 13 ∷ 14 ∷ 15 ∷ 16 ∷ 17 ∷ [])
  pub eip : after.eip ≡ f.eip
  pub eflags : after.eflags ≡ entered_flags f.kind (g.loads 9).number
  pub segs : (s : ℕ) → s < 6 → seg_at after s ≡ entered_seg f s
  pub usable : (s : ℕ) → s < 6 → (seg_at after s).usable ≡ true → IsSome (descriptor_at f s) × (stops_at s (first_fail_of f) ≡ false)
  pub ldtr : after.ldtr ≡ seg_by f.ldt f.ldt_desc (stops_at_ldt (first_fail_of f))
  pub cr0 : after.cr0 ≡ bit_or p.cr0 8
  pub gdtr : after.gdtr ≡ p.gdtr
  pub trap : after.pending ≡ pending_by (first_fail_of f) (g.loads 25).number p.pending
  pub nt : has_flag NestedTask after.eflags ≡ nt_of f.kind (g.loads 9).number
  pub told : (x : Fail) → first_fail_of f ≡ Some x → x.context ≡ New

-- The old task goes on, and is told: no cycle was a write, and the state is as it was.
pub record IsKept (g : Seen) (p after : Proc) (x : Fail) : Type 0 where
  pub read : g.wrote ≡ false
  pub same : after ≡ p
  pub told : x.context ≡ Old

-- the descriptor that the failing row speaks of was read, where its selector names one
abbrev pub IsReadFor : ℕ → Facts → Option Fail → Type 0
IsReadFor limit f None = Unit {0}
IsReadFor limit f (Some x) =
    (x.row ≡ 8 → names_local_table limit f.ldt ≡ true → IsSome f.ldt_desc)
    × (10 ≤ x.row → x.row ≤ 18 → x.seg < 6 → names_place limit f.ldt_desc (selector_at f x.seg) ≡ true → IsSome (descriptor_at f x.seg))

-- by what the rows 1 to 7 say
abbrev pub EndsBy : Attempt → Seen → Facts → Proc → Proc → Option Fail → Type 0
EndsBy m g f p after (Some x) = IsKept g p after x
EndsBy m g f p after None = IsEntered m g f p after

-- Each value that the rows up to the first failing one need was read by the attempt's own cycles.
pub record IsTold (m : Attempt) (g : Seen) (f : Facts) : Type 0 where
  pub link : is_iret m.kind ≡ true → m.tr_usable ≡ true → g.link.count ≡ 2
  pub tss : (x : Fail) → first_fail_of f ≡ Some x → 3 ≤ x.row → IsSome f.tss
  pub later : IsReadFor m.gdt_limit f (first_fail_of f)

-- How an attempt ends, by what its cycles have read and written and by the states before and after.
pub record EndsAs (m : Attempt) (g : Seen) (p : Proc) (r : Switched) : Type 0 where
  pub first : r.fail ≡ first_fail_of (facts_of m g)
  pub told : IsTold m g (facts_of m g)
  pub ends : EndsBy m g (facts_of m g) p r.after (old_fail_of (facts_of m g))

-- An attempt ends, by its own cycles ts, at the first row that fails of the facts that these cycles read, or whole.
-- Source: Intel 80386 PRM 7.5; docs/DECISIONS.md, "The check table of a task switch"
abbrev pub SwitchEnds : Attempt → List Ask → Proc → Switched → Type 0
SwitchEnds m ts p r = EndsAs m (seen ts) p r

-- The cycles that a call added to its bus are an attempt that ends so.
abbrev pub EndsOn : Attempt → BusView → BusView → Proc → Switched → Type 0
EndsOn m old new p r = (ts : List Ask) × (new.cycles ≡ old.cycles ++ ts) × SwitchEnds m ts p r
