-- What a call of the program answers, and what it leaves of its source and its sinks.
use Rattle.std.specs.Prelude.{◌≡◌, ℕ, ◌+◌, ◌*◌, ◌≤◌, ◌⊎◌, nat_lt, if◌then◌else◌, Result, Ok, Err, Option, Some, None, List, length}
use Rattle.m386_asm.specs.Layout.{Layout}
use Rattle.m386_base.specs.Bus.{Rose}
use Rattle.m386_base.specs.declared.ask.Cycle.{Cycle}
use Rattle.m386_book.specs.Verdict.{IsFirstFailure}
use Rattle.m386_book.specs.declared.verdict.Verdict.{Verdict}
use Rattle.m386_core.specs.Order.{InOrder}
use Rattle.m386_core.specs.declared.order.Order.TheVariants.{Seed}
use Rattle.m386_core.specs.Switches.{SwitchesEnd}
use Rattle.m386_edge.specs.Edge.{Gave, IsEmptied, Grows, GrowsByFront}
use Rattle.m386_exclusion_runs.specs.Runs.{ExcludesWhileClean}
use Rattle.m386_gen.specs.Generated.{generated}
use Rattle.m386_image.specs.Fault.{FirstFault}
use Rattle.m386_image.specs.Format.{ImageOf}
use Rattle.m386_image.specs.declared.image.Image.{Image as ImageRecord}
use Rattle.m386_lines.specs.declared.kind.AsmKind.{AsmKind}
use Rattle.m386_memory.specs.declared.ended.ProcEnd.{ProcEnd}
use Rattle.m386_state.specs.declared.proc.Proc.{Proc}
use Rattle.m386_step.specs.Run.{Run}
use Rattle.m386_trace.specs.Report.{report_text}
use Rattle.m386_trace.specs.Soak.{soak_text, tasks_of}
use Rattle.m386.specs.Status.{status_line}
use Rattle.m386_calls.specs.declared.call.Asked.{Asked}
use Rattle.m386_calls.specs.declared.call.Call.{Call}
use Rattle.m386_calls.specs.declared.call.Call.TheVariants as calls
use Rattle.m386_calls.specs.declared.call.Schedule.{Schedule}
use Rattle.m386_calls.specs.declared.call.Schedule.TheVariants.{Threads, Named}
use Rattle.m386_calls.specs.declared.usage.UsageKind.{UsageKind}
use Rattle.m386_calls.specs.declared.usage.UsageKind.TheVariants.{Cpus, Budget}
use Rattle.m386.specs.declared.status.Status.{Status}
use Rattle.m386.specs.declared.status.Status.TheVariants.{Done, Memory, Usage, ReadFault, WriteFault, Image, Asm, TooLong}

-- The most bytes of an input.
-- Own choice: docs/DECISIONS.md, "Limits"
abbrev pub most_bytes : ℕ
most_bytes = 20971520

-- How many processors run: as many as are asked for, and else all that the image has.
-- Own choice: docs/DECISIONS.md, "The words of a call"
abbrev pub count_of : ImageRecord → Option ℕ → ℕ
count_of image None = image.cpus
count_of image (Some count) = count

-- The most steps of all processors together.
-- Own choice: docs/DECISIONS.md, "Limits"
abbrev pub most_steps : ℕ
most_steps = 262144

-- Why so many processors with so many steps each are refused, if they are: the image has fewer, or the steps are too many.
-- Own choice: docs/DECISIONS.md, "Limits"
abbrev pub excess : ℕ → ℕ → ℕ → Option UsageKind
excess has count steps = if nat_lt has count then Some Cpus else if nat_lt most_steps (count * steps) then Some Budget else None

-- why an image refuses what is asked for, if it does
abbrev pub refusal : ImageRecord → Asked → Option UsageKind
refusal image asked = excess image.cpus (count_of image asked.cpus) asked.steps

-- The source and the output of a call at one moment: the bytes left and the bytes held, where they are told, and how often
-- each failed.
pub record Edges : Type 0 where
  pub left : Option (List ℕ)
  pub reads_failed : ℕ
  pub held : Option (List ℕ)
  pub writes_failed : ℕ

abbrev pub at_edges : Option (List ℕ) → ℕ → Option (List ℕ) → ℕ → Edges
at_edges left reads_failed held writes_failed = record { left = left; reads_failed = reads_failed; held = held; writes_failed = writes_failed }

-- the source alone
abbrev pub at_source : Option (List ℕ) → ℕ → Edges
at_source left reads_failed = at_edges left reads_failed None 0

-- the output alone
abbrev pub at_out : Option (List ℕ) → ℕ → Edges
at_out held writes_failed = at_edges None 0 held writes_failed

-- The cycles are in the order that is asked for. Threads have none: whichever of them comes first goes on.
-- Own choice: docs/DECISIONS.md, "Threads"
abbrev pub IsScheduled : ImageRecord → ℕ → ℕ → Schedule → List Cycle → Type 0
IsScheduled image count steps Threads history = Unit {0}
IsScheduled image count steps (Named order) history = InOrder image count steps order history

-- The history and the ends are of a run of the image with as many processors and steps as are asked for, and the cycles
-- are in the order that is asked for.
pub record IsRunOf (image : ImageRecord) (asked : Asked) (history : List Cycle) (ends : List (ProcEnd Proc)) : Type 0 where
  pub run : Run image (count_of image asked.cpus) asked.steps history ends
  pub in_order : IsScheduled image (count_of image asked.cpus) asked.steps asked.schedule history

-- The text is the report of the run of an image: the history, the ends and the tasks that it prints are those of the run, in which each attempt at
-- a task switch ends whole or at the first row of the check table that fails, and no two processors hold one task as long as it is
-- clean, and the verdict is its first failure.
pub record IsRunText (image : ImageRecord) (asked : Asked) (text : List ℕ) : Type 0 where
  pub allowed : refusal image asked ≡ None
  pub history : List Cycle
  pub ends : List (ProcEnd Proc)
  pub run : IsRunOf image asked history ends
  pub switches : SwitchesEnd image (count_of image asked.cpus) history
  pub exclusion : ExcludesWhileClean image run.run.first (count_of image asked.cpus) history
  pub verdict : Verdict
  pub first_failure : IsFirstFailure image history verdict
  pub text_is : text ≡ report_text image run.run.first history ends verdict

-- the source was read to its end, and gave these bytes
pub record SourceGave (old new : Edges) (bytes : List ℕ) : Type 0 where
  pub within : length bytes ≤ most_bytes
  pub gave : Gave old.left new.left bytes
  pub emptied : IsEmptied new.left

-- The text is the report of the run that the words, which mean this, and the bytes of the source ask for.
pub record IsReport (meant : Result Asked UsageKind) (old new : Edges) (text : List ℕ) : Type 0 where
  pub asked : Asked
  pub words_mean_it : meant ≡ Ok asked
  pub bytes : List ℕ
  pub was_read : SourceGave old new bytes
  pub image : ImageRecord
  pub is_image : ImageOf bytes image
  pub run_text : IsRunText image asked text

-- the words ask for a run
abbrev pub AskToRun : Result Asked UsageKind → Type 0
AskToRun meant = (asked : Asked) × (meant ≡ Ok asked)

-- The words ask for a run that the image in the source refuses.
pub record ImageRefuses (meant : Result Asked UsageKind) (old new : Edges) (kind : UsageKind) : Type 0 where
  pub asked : Asked
  pub words_mean_it : meant ≡ Ok asked
  pub bytes : List ℕ
  pub was_read : SourceGave old new bytes
  pub image : ImageRecord
  pub is_image : ImageOf bytes image
  pub refused : refusal image asked ≡ Some kind

-- out is as before
abbrev pub IsUntouched : Edges → Edges → Type 0
IsUntouched old new = new.held ≡ old.held

-- When a status comes where the words mean this run, and what it leaves.
-- Own choice: docs/DECISIONS.md, "Statuses"
abbrev pub IsRunAnswer : Result Asked UsageKind → Edges → Edges → Status → Type 0
IsRunAnswer meant old new Done = (text : List ℕ) × IsReport meant old new text × Grows old.held new.held text
IsRunAnswer meant old new Memory = IsUntouched old new
IsRunAnswer meant old new (Usage kind) = (((meant ≡ Err kind) × (new.left ≡ old.left)) ⊎ ImageRefuses meant old new kind) × IsUntouched old new
IsRunAnswer meant old new ReadFault = AskToRun meant × Rose old.reads_failed new.reads_failed × IsUntouched old new
IsRunAnswer meant old new WriteFault = (text : List ℕ) × IsReport meant old new text × GrowsByFront old.held new.held text × Rose old.writes_failed new.writes_failed
IsRunAnswer meant old new (Image fault) = AskToRun meant × ((bytes : List ℕ) × SourceGave old new bytes × FirstFault bytes fault) × IsUntouched old new
IsRunAnswer meant old new (Asm line kind) = ⊥
IsRunAnswer meant old new TooLong = AskToRun meant × ((bytes : List ℕ) × (length bytes ≡ most_bytes + 1) × Gave old.left new.left bytes) × IsUntouched old new

-- ---- the line of a soak

-- The most steps of each processor in a soak.
-- Own choice: docs/DECISIONS.md, "Soak"
abbrev pub soak_steps : ℕ
soak_steps = 1000

-- The text is the line of the run of the image of a number: all its processors run, in the order that the number gives, and the verdict is
-- the first failure of that run.
-- Own choice: docs/DECISIONS.md, "Soak"
pub record IsSoakText (number : ℕ) (text : List ℕ) : Type 0 where
  pub history : List Cycle
  pub ends : List (ProcEnd Proc)
  pub run : Run (generated number) (generated number).cpus soak_steps history ends
  pub in_order : InOrder (generated number) (generated number).cpus soak_steps (Seed number) history
  pub verdict : Verdict
  pub first_failure : IsFirstFailure (generated number) history verdict
  pub text_is : text ≡ soak_text number (generated number).cpus (tasks_of (generated number)) history verdict

-- When a status comes where a soak is asked for, and what it leaves of the output.
-- Own choice: docs/DECISIONS.md, "Soak"
abbrev pub IsSoaked : ℕ → Edges → Edges → Status → Type 0
IsSoaked number old new Done = (text : List ℕ) × IsSoakText number text × Grows old.held new.held text
IsSoaked number old new WriteFault = (text : List ℕ) × IsSoakText number text × GrowsByFront old.held new.held text × Rose old.writes_failed new.writes_failed
IsSoaked number old new Memory = IsUntouched old new
IsSoaked number old new (Usage kind) = ⊥
IsSoaked number old new ReadFault = ⊥
IsSoaked number old new (Image fault) = ⊥
IsSoaked number old new (Asm line kind) = ⊥
IsSoaked number old new TooLong = ⊥

-- ---- the image of a source text

-- the source was read to its end, and gave a text that lays this out
abbrev pub GaveText : Edges → Edges → Result (List ℕ) (ℕ × AsmKind) → Type 0
GaveText old new layout = (text : List ℕ) × SourceGave old new text × Layout text layout

-- When a status comes where the image of a source text is asked for, and what it leaves.
-- Own choice: docs/DECISIONS.md, "Statuses"
abbrev pub IsAssembled : Edges → Edges → Status → Type 0
IsAssembled old new Done = (bytes : List ℕ) × GaveText old new (Ok bytes) × Grows old.held new.held bytes
IsAssembled old new WriteFault = (bytes : List ℕ) × GaveText old new (Ok bytes) × GrowsByFront old.held new.held bytes × Rose old.writes_failed new.writes_failed
IsAssembled old new (Asm line kind) = GaveText old new (Err (line, kind)) × IsUntouched old new
IsAssembled old new ReadFault = Rose old.reads_failed new.reads_failed × IsUntouched old new
IsAssembled old new TooLong = ((bytes : List ℕ) × (length bytes ≡ most_bytes + 1) × Gave old.left new.left bytes) × IsUntouched old new
IsAssembled old new Memory = IsUntouched old new
IsAssembled old new (Usage kind) = ⊥
IsAssembled old new (Image fault) = ⊥

-- ---- the whole

-- When a status comes where the words mean this call, and what it leaves. A soak leaves the source untouched.
-- Own choice: docs/DECISIONS.md, "Statuses"
abbrev pub IsAnswer : Result Call UsageKind → Edges → Edges → Status → Type 0
IsAnswer (Ok (calls.Run asked)) old new status = IsRunAnswer (Ok asked) old new status
IsAnswer (Ok calls.Assemble) old new status = IsAssembled old new status
IsAnswer (Ok (calls.Soak number)) old new status = (new.left ≡ old.left) × IsSoaked number old new status
IsAnswer (Err kind) old new status = IsRunAnswer (Err kind) old new status

-- ---- what the parts of a call come to

-- out took a text, or a front of it where a write failed
abbrev pub OutTakes : Edges → Edges → List ℕ → Status → Type 0
OutTakes old new text Done = Grows old.held new.held text
OutTakes old new text WriteFault = GrowsByFront old.held new.held text × Rose old.writes_failed new.writes_failed
OutTakes old new text Memory = ⊥
OutTakes old new text (Usage kind) = ⊥
OutTakes old new text ReadFault = ⊥
OutTakes old new text (Image fault) = ⊥
OutTakes old new text (Asm line kind) = ⊥
OutTakes old new text TooLong = ⊥

-- the source had the bytes of this image, which allows what is asked for
pub record HasAllowed (asked : Asked) (old new : Edges) (image : ImageRecord) : Type 0 where
  pub bytes : List ℕ
  pub was_read : SourceGave old new bytes
  pub is_image : ImageOf bytes image
  pub allowed : refusal image asked ≡ None

-- the source had no bytes that may be an input, and this status says why
abbrev pub HasNoInput : Edges → Edges → Status → Type 0
HasNoInput old new Memory = Unit {0}
HasNoInput old new ReadFault = Rose old.reads_failed new.reads_failed
HasNoInput old new TooLong = (bytes : List ℕ) × (length bytes ≡ most_bytes + 1) × Gave old.left new.left bytes
HasNoInput old new (Usage kind) = ⊥
HasNoInput old new (Image fault) = ⊥
HasNoInput old new (Asm line kind) = ⊥
HasNoInput old new Done = ⊥
HasNoInput old new WriteFault = ⊥

-- the source had no such image, and this status says why
abbrev pub HasNone : Asked → Edges → Edges → Status → Type 0
HasNone asked old new Memory = Unit {0}
HasNone asked old new (Usage kind) = ImageRefuses (Ok asked) old new kind
HasNone asked old new ReadFault = Rose old.reads_failed new.reads_failed
HasNone asked old new (Image fault) = (bytes : List ℕ) × SourceGave old new bytes × FirstFault bytes fault
HasNone asked old new (Asm line kind) = ⊥
HasNone asked old new TooLong = (bytes : List ℕ) × (length bytes ≡ most_bytes + 1) × Gave old.left new.left bytes
HasNone asked old new Done = ⊥
HasNone asked old new WriteFault = ⊥

-- what a run of this image that was asked for so leads to
abbrev pub IsAnswerOf : ImageRecord → Asked → Edges → Edges → Status → Type 0
IsAnswerOf image asked old new Done = (text : List ℕ) × IsRunText image asked text × OutTakes old new text Done
IsAnswerOf image asked old new WriteFault = (text : List ℕ) × IsRunText image asked text × OutTakes old new text WriteFault
IsAnswerOf image asked old new Memory = IsUntouched old new
IsAnswerOf image asked old new (Usage kind) = ⊥
IsAnswerOf image asked old new (Image fault) = ⊥
IsAnswerOf image asked old new ReadFault = ⊥
IsAnswerOf image asked old new (Asm line kind) = ⊥
IsAnswerOf image asked old new TooLong = ⊥

-- err got the line of the status, or a front of it where err failed
abbrev pub Tells : Option (List ℕ) → Option (List ℕ) → ℕ → ℕ → Status → Type 0
Tells held_old held_new failed_old failed_new status =
    Grows held_old held_new (status_line status) ⊎ (GrowsByFront held_old held_new (status_line status) × Rose failed_old failed_new)

-- the status, or that memory ran out
abbrev pub OrMemory : Status → Status → Type 0
OrMemory status expected = (status ≡ expected) ⊎ (status ≡ Memory)
