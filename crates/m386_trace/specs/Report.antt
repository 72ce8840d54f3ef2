-- The report on a run, line by line.
use Rattle.std.specs.Prelude.{ℕ, ◌+◌, ◌<◌, List, [], ◌∷◌, ◌++◌, Option, Some, None, length, slice_index, codes, decimal}
use Rattle.std.specs.List.{flat_map}
use Rattle.m386_base.specs.Segments.{es, cs, ss, ds, fs, gs}
use Rattle.m386_base.specs.declared.ask.Ask.{Ask}
use Rattle.m386_base.specs.declared.ask.Cycle.{Cycle}
use Rattle.m386_base.specs.declared.ask.Space.TheVariants.{Memory}
use Rattle.m386_image.specs.declared.image.Image.{Image}
use Rattle.m386_state.specs.declared.event.Event.{Event}
use Rattle.m386_state.specs.declared.proc.Proc.{Proc}
use Rattle.m386_state.specs.Start.{seg_at}
use Rattle.m386_memory.specs.Contents.{Contents}
use Rattle.m386_memory.specs.History.{byte_after, past}
use Rattle.m386_memory.specs.declared.ended.ProcEnd.{ProcEnd}
use Rattle.m386_book.specs.declared.verdict.Verdict.{Verdict}
use Rattle.m386_book.specs.declared.verdict.Verdict.TheVariants.{Clean, Static, At}
use Rattle.m386_trace.specs.Line.{line_text, hex1, hex2, hex4, hex8, two_digits}
use Rattle.m386_trace.specs.Tasks.{tasks_text}
use Rattle.m386_trace.specs.Words.{role_word, space_word, write_word, joined_word, mode_word}

-- ---- a cycle

-- A cycle whose numbers have the digits that its line gives them.
pub record IsPrintable (c : Cycle) : Type 0 where
  pub cpu : c.cpu < 10
  pub part : c.ask.part < 100
  pub enables : c.ask.enables < 16

-- the fields of a cycle behind its processor
abbrev pub ask_fields : Ask → List (List ℕ)
ask_fields a =
    space_word a.space ∷ write_word a.write ∷ joined_word a.joined ∷ role_word a.role ∷ two_digits a.part ∷ hex8 a.addr
    ∷ hex1 a.enables ∷ hex8 a.value ∷ []

-- The line of a cycle.
-- Own choice: docs/DECISIONS.md, "The report"
unfoldable pub cycle_text : Cycle → List ℕ
cycle_text c = line_text (codes "c") (decimal c.cpu ∷ ask_fields c.ask)

-- ---- a processor

-- each register of 32 bits, behind its name
abbrev pub register_fields : Proc → List (List ℕ)
register_fields p =
    codes "eip" ∷ hex8 p.eip ∷ codes "efl" ∷ hex8 p.eflags.0
    ∷ codes "eax" ∷ hex8 (slice_index p.regs 0) ∷ codes "ecx" ∷ hex8 (slice_index p.regs 1)
    ∷ codes "edx" ∷ hex8 (slice_index p.regs 2) ∷ codes "ebx" ∷ hex8 (slice_index p.regs 3)
    ∷ codes "esp" ∷ hex8 (slice_index p.regs 4) ∷ codes "ebp" ∷ hex8 (slice_index p.regs 5)
    ∷ codes "esi" ∷ hex8 (slice_index p.regs 6) ∷ codes "edi" ∷ hex8 (slice_index p.regs 7) ∷ []

-- each selector, behind the name of its register
abbrev pub selector_fields : Proc → List (List ℕ)
selector_fields p =
    codes "es" ∷ hex4 (seg_at p es).selector ∷ codes "cs" ∷ hex4 (seg_at p cs).selector
    ∷ codes "ss" ∷ hex4 (seg_at p ss).selector ∷ codes "ds" ∷ hex4 (seg_at p ds).selector
    ∷ codes "fs" ∷ hex4 (seg_at p fs).selector ∷ codes "gs" ∷ hex4 (seg_at p gs).selector
    ∷ codes "ldt" ∷ hex4 p.ldtr.selector ∷ codes "tr" ∷ hex4 p.tr.selector ∷ []

-- an error code
abbrev pub code_field : Option ℕ → List ℕ
code_field None = codes "-"
code_field (Some code) = hex4 code

-- the event that waits: its vector and its code
abbrev pub pending_fields : Option Event → List (List ℕ)
pending_fields None = codes "none" ∷ []
pending_fields (Some event) = hex2 event.vector ∷ code_field event.code ∷ []

-- the fields of a processor behind its name
abbrev pub proc_fields : ℕ → ProcEnd Proc → List (List ℕ)
proc_fields cpu e =
    (decimal cpu ∷ mode_word e.after.mode ∷ codes "steps" ∷ decimal e.steps ∷ []) ++ register_fields e.after
    ++ selector_fields e.after ++ (codes "cr0" ∷ hex8 e.after.cr0 ∷ codes "pending" ∷ pending_fields e.after.pending)

-- The line of a processor.
-- Own choice: docs/DECISIONS.md, "The report"
unfoldable pub proc_text : ℕ → ProcEnd Proc → List ℕ
proc_text cpu e = line_text (codes "p") (proc_fields cpu e)

-- the lines of the processors from this number on
unfoldable pub procs_text : ℕ → List (ProcEnd Proc) → List ℕ
procs_text cpu [] = []
procs_text cpu (e ∷ es) = proc_text cpu e ++ procs_text (cpu + 1) es

-- ---- the whole

-- The first line, which names the form of the report.
-- Own choice: docs/DECISIONS.md, "The report"
unfoldable pub title_text : List ℕ
title_text = codes "m386 report 1\n"

-- The second line: the size of memory, and how many processors ran.
-- Own choice: docs/DECISIONS.md, "The report"
unfoldable pub machine_text : Image → ℕ → List ℕ
machine_text image cpus = line_text (codes "memory") (hex8 image.memory ∷ codes "cpus" ∷ decimal cpus ∷ [])

-- The last line: the verdict.
-- Own choice: docs/DECISIONS.md, "The report"
unfoldable pub verdict_text : Verdict → List ℕ
verdict_text Clean = line_text (codes "clean") []
verdict_text (Static rule) = line_text (codes "unclean") (codes "rule" ∷ decimal rule ∷ [])
verdict_text (At rule index) = line_text (codes "unclean") (codes "rule" ∷ decimal rule ∷ codes "at" ∷ decimal index ∷ [])

-- the byte at each place of memory, where a history began with these contents
abbrev pub left_at : Contents → List Cycle → ℕ → ℕ
left_at first history place = byte_after first (past history) Memory place

-- The report on a run, whose cycles began with these contents: the cycles in their order, then its processors, then the tasks of the
-- image's GDT as the cycles left memory, then the verdict.
-- Own choice: docs/DECISIONS.md, "The report"
unfoldable pub report_text : Image → Contents → List Cycle → List (ProcEnd Proc) → Verdict → List ℕ
report_text image first history procs verdict =
    title_text ++ machine_text image (length procs) ++ flat_map cycle_text history ++ procs_text 0 procs ++ tasks_text (left_at first history) image.gdt ++ verdict_text verdict
