-- What a report tells of its run.
use Rattle.std.specs.Prelude.{◌≡◌, ◌^◌, ◌<◌, List, length}
use Rattle.std.specs.List.{AllByRecursion}
use Rattle.m386_base.specs.declared.ask.Cycle.{Cycle}
use Rattle.m386_image.specs.declared.image.Image.{Image}
use Rattle.m386_state.specs.declared.proc.Proc.{Proc}
use Rattle.m386_memory.specs.Contents.{Contents}
use Rattle.m386_memory.specs.declared.ended.ProcEnd.{ProcEnd}
use Rattle.m386_book.specs.declared.verdict.Verdict.{Verdict}
use Rattle.m386_trace.specs.Report.{report_text}

-- a cycle whose numbers have the widths that its line has room for
pub record HasWidths (c : Cycle) : Type 0 where
  pub cpu : c.cpu < 10
  pub part : c.ask.part < 100
  pub addr : c.ask.addr < 2 ^ 32
  pub enables : c.ask.enables < 16
  pub value : c.ask.value < 2 ^ 32

-- a run of one to nine processors, with cycles that have their widths
pub record HasReport (history : List Cycle) (procs : List (ProcEnd Proc)) : Type 0 where
  pub cycles : AllByRecursion HasWidths history
  pub some : 0 < length procs
  pub few : length procs < 10

-- Two runs with one report have the same cycles.
abbrev pub TellsCycles : List Cycle → List Cycle → Type 0
TellsCycles history other =
    (image other_image : Image) (first other_first : Contents) (procs other_procs : List (ProcEnd Proc)) (verdict other_verdict : Verdict)
    → HasReport history procs → HasReport other other_procs
    → report_text image first history procs verdict ≡ report_text other_image other_first other other_procs other_verdict → history ≡ other
