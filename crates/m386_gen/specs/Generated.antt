-- The image that is made from a number: processors whose tasks call the tasks of workers.
use Rattle.std.specs.Prelude.{ℕ, ◌+◌, ◌-◌, ◌*◌, ◌/◌, ◌%◌, ◌^◌, nat_lt, if◌then◌else◌, List, [], ◌∷◌, ◌++◌, map}
use Rattle.std.specs.List.{flat_map, range_with_len}
use Rattle.m386_base.specs.Descriptor.{descriptor}
use Rattle.m386_desc.specs.Bytes.{descriptor_bytes}
use Rattle.m386_image.specs.Format.{u32_bytes}
use Rattle.m386_image.specs.declared.image.Image.{Image}
use Rattle.m386_image.specs.declared.image.Planned.{Planned}
use Rattle.m386_image.specs.declared.image.Section.{Section}
use Rattle.m386_gen.specs.Code.{scheduler_code, worker_code, fault_code, iret}

-- ---- how many tasks, and where each lies

-- The schedulers, one for each processor: 2 to 4.
-- Own choice: docs/DECISIONS.md, "Images from a number"
abbrev pub schedulers_of : ℕ → ℕ
schedulers_of number = 2 + number % 3

-- The workers: 1 to 4.
-- Own choice: docs/DECISIONS.md, "Images from a number"
abbrev pub workers_of : ℕ → ℕ
workers_of number = 1 + number / 3 % 4

-- The selector of a task, the place of its TSS, and its ESP. The schedulers have the first numbers and the workers those behind them.
-- Own choice: docs/DECISIONS.md, "Images from a number"
abbrev pub selector_of : ℕ → ℕ
selector_of task = 0x18 + 8 * task

abbrev pub tss_of : ℕ → ℕ
tss_of task = 0x3000 + 0x80 * task

abbrev pub stack_of : ℕ → ℕ
stack_of task = 0x9000 + 0x400 * task

-- Where the code of a scheduler begins, and that of a worker, each by its number among its kind.
-- Own choice: docs/DECISIONS.md, "Images from a number"
abbrev pub scheduler_at : ℕ → ℕ
scheduler_at n = 0x4000 + 0x100 * n

abbrev pub worker_at : ℕ → ℕ
worker_at n = 0x4800 + 0x100 * n

-- where the code of a task begins, of which the first s are schedulers
abbrev pub code_of : ℕ → ℕ → ℕ
code_of s task = if nat_lt task s then scheduler_at task else worker_at (task - s)

-- ---- tables

-- the descriptor of the TSS of a task that isn't busy, with its 104 bytes
-- Source: Intel 80386 PRM 7.2
abbrev pub task_descriptor : ℕ → List ℕ
task_descriptor task = descriptor_bytes (descriptor (tss_of task) 0x67 0x89 0)

-- The GDT: the null descriptor; code and data of level 0, each of the whole space; and a TSS for each task.
-- Own choice: docs/DECISIONS.md, "Images from a number"
abbrev pub gdt_bytes : ℕ → List ℕ
gdt_bytes tasks =
    (descriptor_bytes (descriptor 0 0 0 0) ++ (descriptor_bytes (descriptor 0 0xfffff 0x9a 0xc) ++ descriptor_bytes (descriptor 0 0xfffff 0x92 0xc)))
    ++ flat_map task_descriptor (range_with_len 0 tasks)

-- a gate of the IDT that leads to an offset in the code segment with selector 8
-- Source: Intel 80386 PRM 9.5
unfoldable pub gate_bytes : ℕ → ℕ → List ℕ
gate_bytes offset access = offset % 2 ^ 8 ∷ offset / 2 ^ 8 % 2 ^ 8 ∷ 8 ∷ 0 ∷ 0 ∷ access ∷ offset / 2 ^ 16 % 2 ^ 8 ∷ offset / 2 ^ 24 % 2 ^ 8 ∷ []

-- The doublewords of a TSS: EIP, EFLAGS with IF set, ESP, and the selectors of CS, SS and DS; all others are 0.
-- Source: Intel 80386 PRM 7.1
abbrev pub tss_doublewords : ℕ → ℕ → List ℕ
tss_doublewords eip esp =
    0 ∷ 0 ∷ 0 ∷ 0 ∷ 0 ∷ 0 ∷ 0 ∷ 0 ∷ eip ∷ 0x202 ∷ 0 ∷ 0 ∷ 0 ∷ 0 ∷ esp ∷ 0 ∷ 0 ∷ 0 ∷ 0 ∷ 8 ∷ 0x10 ∷ 0x10 ∷ 0 ∷ 0 ∷ 0 ∷ 0 ∷ []

-- ---- sections

abbrev pub section_at : ℕ → List ℕ → Section
section_at addr bytes = record { addr = addr; bytes = bytes }

-- The gates of the vectors 13 and 32, which are all that the IDT has: a trap gate and an interrupt gate.
-- Own choice: docs/DECISIONS.md, "Images from a number"
abbrev pub gates : List Section
gates = section_at 0x2068 (gate_bytes 0x5000 0x8f) ∷ section_at 0x2100 (gate_bytes 0x5100 0x8e) ∷ []

abbrev pub tables : ℕ → List Section
tables tasks = section_at 0x1000 (gdt_bytes tasks) ∷ gates

abbrev pub tss_section : ℕ → ℕ → Section
tss_section s task = section_at (tss_of task) (flat_map u32_bytes (tss_doublewords (code_of s task) (stack_of task)))

abbrev pub scheduler_section : ℕ → ℕ → ℕ → Section
scheduler_section s w n = section_at (scheduler_at n) (scheduler_code 0x8000 (λ i. selector_of (s + i)) w)

abbrev pub worker_section : ℕ → Section
worker_section n = section_at (worker_at n) (worker_code (0x8004 + 4 * n))

-- what the two gates lead to
abbrev pub handlers : List Section
handlers = section_at 0x5000 fault_code ∷ section_at 0x5100 iret ∷ []

-- The sections of an image with so many schedulers and workers.
-- Own choice: docs/DECISIONS.md, "Images from a number"
abbrev pub sections_for : ℕ → ℕ → List Section
sections_for s w =
    tables (s + w) ++ (map (tss_section s) (range_with_len 0 (s + w)) ++ (map (scheduler_section s w) (range_with_len 0 s) ++ (map worker_section (range_with_len 0 w) ++ handlers)))

-- ---- the image

-- The timer of a processor: ten interrupts of the vector 32, one after each 50 steps.
-- Own choice: docs/DECISIONS.md, "Images from a number"
abbrev pub tick_of : ℕ → ℕ → Planned
tick_of cpu k = record { step = 50 * k; cpu = cpu; vector = 32 }

abbrev pub ticks_of : ℕ → List Planned
ticks_of cpu = map (tick_of cpu) (range_with_len 1 10)

-- a processor starts in the task of its scheduler
abbrev pub start_for : ℕ → ℕ → ℕ
start_for s cpu = if nat_lt cpu s then selector_of cpu else 0

-- The image with so many schedulers and workers.
-- Own choice: docs/DECISIONS.md, "Images from a number"
unfoldable pub image_with : ℕ → ℕ → Image
image_with s w = record {
  memory = 65536;
  cpus = s;
  flags = 2 ^ s - 1;
  gdt = record { base = 0x1000; limit = 8 * (3 + (s + w)) - 1 };
  idt = record { base = 0x2000; limit = 0x107 };
  starts = map (start_for s) (range_with_len 0 8);
  plan = flat_map ticks_of (range_with_len 0 s);
  sections = sections_for s w;
}

-- The image that is made from a number.
-- Own choice: docs/DECISIONS.md, "Images from a number"
abbrev pub generated : ℕ → Image
generated number = image_with (schedulers_of number) (workers_of number)
