-- The task switch: its parts laid end to end, and the state behind it.
use Rattle.std.specs.Prelude.{ℕ, Bool, true, false, List, [], ◌∷◌, ◌%◌, ◌^◌, ◌==◌, if◌then◌else◌, bit_or, bit_and, Option, Some, None, slice_index, slice_range, not, ◌&&◌, ◌||◌}
use Rattle.m386_base.specs.declared.desc.Desc.{Desc}
use Rattle.m386_base.specs.declared.exception.Exception.TheVariants.{Debug}
use Rattle.m386_base.specs.declared.flags.Flag.TheVariants.{NestedTask}
use Rattle.m386_base.specs.declared.kind.SwitchKind.{SwitchKind}
use Rattle.m386_base.specs.declared.kind.SwitchKind.TheVariants as switches
use Rattle.m386_base.specs.declared.number.Flags.{Flags}
use Rattle.m386_base.specs.Exceptions.{vector_of}
use Rattle.m386_base.specs.Flags.{with_flag}
use Rattle.m386_base.specs.Phrase.{Phrase, Done, Begins, Attempt, ◌>>=◌}
use Rattle.m386_base.specs.Segments.{es, cs, ss, ds, fs, gs}
use Rattle.m386_checks.specs.declared.facts.Context.{Context}
use Rattle.m386_checks.specs.declared.facts.Context.TheVariants as contexts
use Rattle.m386_checks.specs.declared.facts.Facts.{Facts}
use Rattle.m386_checks.specs.declared.facts.Fail.{Fail}
use Rattle.m386_checks.specs.First.{first_fail_of}
use Rattle.m386_checks.specs.Holds.{is_start, selector_at, descriptor_at}
use Rattle.m386_desc.specs.Selector.{rpl_of, names_ldt, is_null_selector, is_in_table, place_in}
use Rattle.m386_segload.specs.Segments.{usable_seg}
use Rattle.m386_state.specs.declared.event.Cause.TheVariants as causes
use Rattle.m386_state.specs.declared.event.Event.{Event}
use Rattle.m386_state.specs.declared.proc.Proc.{Proc}
use Rattle.m386_state.specs.declared.segment.Seg.{Seg}
use Rattle.m386_state.specs.Start.{cpl_of, unusable_seg}
use Rattle.m386_switch.specs.declared.outcome.Outcome.{Outcome}
use Rattle.m386_switch.specs.declared.outcome.Outcome.TheVariants as outcomes
use Rattle.m386_switch.specs.declared.outcome.Switched.{Switched}
use Rattle.m386_switch.specs.Parts.{is_admitted, link_phrase, with_tss, claim_phrase, save_phrase, relink_phrase, release_phrase, load_phrase}
use Rattle.m386_switch.specs.Later.{later_phrase, stops_at, stops_at_ldt}

-- What is known where a switch begins.
-- Source: Intel 80386 PRM 7.5
abbrev pub attempt_of : Proc → SwitchKind → ℕ → Bool → Bool → Attempt
attempt_of p kind selector direct ext = record {
  kind = kind;
  direct = direct;
  selector = selector;
  ext = ext;
  cpl = cpl_of p;
  tr_usable = p.tr.usable;
  tr_selector = p.tr.selector;
  tr_base = p.tr.desc.base;
  gdt_base = p.gdtr.base;
  gdt_limit = p.gdtr.limit;
}

abbrev pub no_descs : List (Option Desc)
no_descs = None ∷ None ∷ None ∷ None ∷ None ∷ None ∷ []

-- the facts before anything of the new task was read
abbrev pub facts_at_first : Proc → SwitchKind → ℕ → Bool → Bool → Facts
facts_at_first p kind selector direct ext = record {
  kind = kind;
  direct = direct;
  cpl = cpl_of p;
  rpl = rpl_of selector;
  ext = ext;
  tr_usable = p.tr.usable;
  selector = selector;
  in_gdt = is_in_table selector p.gdtr.limit;
  tss = None;
  ldt = 0;
  ldt_desc = None;
  segs = 0 ∷ 0 ∷ 0 ∷ 0 ∷ 0 ∷ 0 ∷ [];
  seg_descs = no_descs;
  eip = 0;
}

-- the low 16 bits of field 8 + n
abbrev pub low_at : List ℕ → ℕ → ℕ
low_at loaded n = slice_index loaded n % 2 ^ 16

-- the facts once the new task's fields were loaded
abbrev pub with_fields : Facts → List ℕ → Facts
with_fields f loaded = record f {
  eip = slice_index loaded 0;
  segs = low_at loaded 10 ∷ low_at loaded 11 ∷ low_at loaded 12 ∷ low_at loaded 13 ∷ low_at loaded 14 ∷ low_at loaded 15 ∷ [];
  ldt = low_at loaded 16;
}

-- the bits of a loaded number that EFLAGS has, and bit 1
abbrev pub loaded_flags : ℕ → Flags
loaded_flags number = record { 0 = bit_or (bit_and number 0x7fd5) 2 }

-- The flags of the new task: NT is set by CALL and an event, cleared by JMP and a start, and as loaded for IRET.
-- Source: Intel 80386 PRM 7.5, 7.6
abbrev pub entered_flags : SwitchKind → ℕ → Flags
entered_flags switches.Jmp number = with_flag NestedTask false (loaded_flags number)
entered_flags switches.Start number = with_flag NestedTask false (loaded_flags number)
entered_flags switches.Iret number = loaded_flags number
entered_flags switches.Call number = with_flag NestedTask true (loaded_flags number)
entered_flags switches.Event number = with_flag NestedTask true (loaded_flags number)

-- a register may be used where its descriptor was read and none of its rows fails
abbrev pub seg_by : ℕ → Option Desc → Bool → Seg
seg_by selector None failed = unusable_seg selector
seg_by selector (Some d) failed = if failed then unusable_seg selector else usable_seg selector d

abbrev pub entered_seg : Facts → ℕ → Seg
entered_seg f seg = seg_by (selector_at f seg) (descriptor_at f seg) (stops_at seg (first_fail_of f))

-- the event of a task whose T bit is set
abbrev pub task_trap : Event
task_trap = record { vector = vector_of Debug; code = None; cause = causes.Exception }

-- What is pending in the new task: vector 1 where all rows hold and the T bit of its TSS, bit 0 of field 25, is set.
-- Source: Intel 80386 PRM 7.5, 12.3.1.5
abbrev pub pending_by : Option Fail → ℕ → Option Event → Option Event
pending_by None number pending = if number % 2 == 1 then Some task_trap else pending
pending_by (Some x) number pending = pending

-- The state in the new task, by the finished facts: bit 3 of CR0 is TS.
-- Source: Intel 80386 PRM 7.5
abbrev pub entered : Proc → Desc → List ℕ → Facts → Proc
entered p d loaded f = record p {
  pending = pending_by (first_fail_of f) (slice_index loaded 17) p.pending;
  regs = slice_range loaded 2 10;
  eip = slice_index loaded 0;
  eflags = entered_flags f.kind (slice_index loaded 1);
  segs = entered_seg f es ∷ entered_seg f cs ∷ entered_seg f ss ∷ entered_seg f ds ∷ entered_seg f fs ∷ entered_seg f gs ∷ [];
  ldtr = seg_by f.ldt f.ldt_desc (stops_at_ldt (first_fail_of f));
  tr = usable_seg f.selector d;
  cr0 = bit_or p.cr0 8;
}

-- the new task was entered
abbrev pub arrived : Proc → Desc → List ℕ → Facts → Switched
arrived p d loaded f = record { after = entered p d loaded f; fail = first_fail_of f }

-- the old task goes on
abbrev pub stayed : Proc → Facts → Switched
stayed p f = record { after = p; fail = first_fail_of f }

-- row 1 holds
abbrev pub may_begin : Proc → SwitchKind → Bool
may_begin p kind = is_start kind || p.tr.usable

-- row 2 holds
abbrev pub is_named : Facts → Bool
is_named f = not (is_null_selector f.selector) && not (names_ldt f.selector) && f.in_gdt

-- The old task is left: it is saved, named as the back link, and released.
-- Source: Intel 80386 PRM 7.5; the order: docs/DECISIONS.md, "The order of bus cycles"
unfoldable pub leave_phrase : Proc → SwitchKind → ℕ → Phrase (Unit {0})
leave_phrase p kind base = do
  _ ← save_phrase kind p
  _ ← relink_phrase kind base p.tr.selector
  release_phrase kind (place_in p.gdtr.base p.tr.selector)

-- the new task's descriptors are read, and the switch is judged
unfoldable pub arrive_phrase : Proc → Desc → List ℕ → Facts → Phrase Switched
arrive_phrase p d loaded f = do
  finished ← later_phrase p.gdtr f
  Done (arrived p d loaded finished)

-- the new task is entered
unfoldable pub enter_phrase : Proc → Desc → Facts → Phrase Switched
enter_phrase p d f = do
  loaded ← load_phrase d.base
  arrive_phrase p d loaded (with_fields f loaded)

-- behind the claim
unfoldable pub claimed_phrase : Proc → Facts → Desc → Phrase Switched
claimed_phrase p f d =
    if is_admitted (with_tss f d) then (leave_phrase p f.kind d.base >>= (λ _. enter_phrase p d (with_tss f d)))
    else Done (stayed p (with_tss f d))

-- from the selector of the new TSS on
unfoldable pub named_phrase : Proc → Facts → Phrase Switched
named_phrase p f =
    if is_named f then (claim_phrase (place_in p.gdtr.base f.selector) f >>= (λ d. claimed_phrase p f d))
    else Done (stayed p f)

-- the work of a switch
unfoldable pub work_phrase : Proc → SwitchKind → ℕ → Bool → Bool → Phrase Switched
work_phrase p kind selector direct ext =
    if may_begin p kind then (link_phrase kind p.tr.desc.base selector >>= (λ named. named_phrase p (facts_at_first p kind named direct ext)))
    else Done (stayed p (facts_at_first p kind selector direct ext))

-- A task switch. It finds the state behind it, and the first row of the check table that fails.
-- Source: Intel 80386 PRM 7.5; the order: docs/DECISIONS.md, "The order of bus cycles"
unfoldable pub switch_phrase : Proc → SwitchKind → ℕ → Bool → Bool → Phrase Switched
switch_phrase p kind selector direct ext = Begins (attempt_of p kind selector direct ext) (work_phrase p kind selector direct ext)

-- what a switch comes to, by the first row that fails and the task that is told
abbrev pub told_in : Context → Fail → Outcome
told_in contexts.Old x = outcomes.Old x
told_in contexts.New x = outcomes.New x

abbrev pub outcome_of : Option Fail → Outcome
outcome_of None = outcomes.Done
outcome_of (Some x) = told_in x.context x

-- the row that an outcome tells
abbrev pub fail_in : Outcome → Option Fail
fail_in outcomes.Done = None
fail_in (outcomes.Old x) = Some x
fail_in (outcomes.New x) = Some x

-- what is found by a call that leaves this state and answers this outcome
abbrev pub switched : Proc → Outcome → Switched
switched after outcome = record { after = after; fail = fail_in outcome }
