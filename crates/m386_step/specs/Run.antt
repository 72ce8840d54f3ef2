-- A run of the written machine: one history of all processors, and how each ended.
use Rattle.std.specs.Prelude.{◌≡◌, ℕ, ◌<◌, ◌==◌, ◌/◌, ◌%◌, ◌^◌, if◌then◌else◌, List, length, map, filter, slice_index, slice_get, Some}
use Rattle.std.specs.List.{AllByRecursion}
use Rattle.m386_base.specs.declared.ask.Cycle.{Cycle}
use Rattle.m386_image.specs.declared.image.Image.{Image}
use Rattle.m386_image.specs.declared.image.TableAt.{TableAt}
use Rattle.m386_image.specs.declared.image.Planned.{Planned}
use Rattle.m386_image.specs.Memory.{byte_of_image}
use Rattle.m386_memory.specs.Contents.{Contents, zeros}
use Rattle.m386_memory.specs.History.{IsHistory, cycles_of}
use Rattle.m386_memory.specs.declared.ended.ProcEnd.{ProcEnd}
use Rattle.m386_state.specs.Start.{bare, task}
use Rattle.m386_state.specs.declared.proc.Proc.{Proc}
use Rattle.m386_state.specs.declared.segment.TableReg.{TableReg}
use Rattle.m386_step.specs.Steps.{Plan, Runs}

-- the register of a descriptor table
abbrev pub table_reg : TableAt → TableReg
table_reg t = record { base = t.base; limit = t.limit }

-- The state in which processor p begins: in a task where its bit of the flags is set, else bare.
-- Own choice: docs/DECISIONS.md, "Start"
abbrev pub start_of : Image → ℕ → Proc
start_of I p = if I.flags / 2 ^ p % 2 == 0 then bare (slice_index I.starts p) (table_reg I.gdt) (table_reg I.idt)
    else task (slice_index I.starts p % 2 ^ 16) (table_reg I.gdt) (table_reg I.idt)

-- the plan of processor p: the steps and vectors of its entries, in their order
abbrev pub plan_of : Image → ℕ → Plan
plan_of I p = map (λ (e : Planned). (e.step, e.vector)) (filter (λ (e : Planned). e.cpu == p) I.plan)

-- The first contents of an image: in memory the bytes of its sections and else zeros, and every port 0.
-- Own choice: docs/DECISIONS.md, "The image file"
pub record BeginsWith (I : Image) (first : Contents) : Type 0 where
  pub size : length first.memory ≡ I.memory
  pub bytes : (a : ℕ) → a < I.memory → slice_index first.memory a ≡ byte_of_image I a
  pub ports : first.ports ≡ zeros 65536

-- H and E are a run of c processors with a budget of n steps each: H is one lawful history over the image's first contents,
-- its cycles are of the processors below c, and the cycles of each are whole steps from its start, which lead to how it
-- ended.
-- Own choice: docs/DECISIONS.md, "A run"
pub record Run (I : Image) (c n : ℕ) (H : List Cycle) (E : List (ProcEnd Proc)) : Type 0 where
  pub below : AllByRecursion (λ (x : Cycle). x.cpu < c) H
  pub first : Contents
  pub begins : BeginsWith I first
  pub history : IsHistory first H
  pub count : length E ≡ c
  pub walks : (p : ℕ) (e : ProcEnd Proc) → slice_get E p ≡ Some e → Runs (plan_of I p) n (start_of I p) (cycles_of p H) e.after e.steps
