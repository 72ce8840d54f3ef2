-- What an image is as far as lines lay it out.
use Rattle.std.specs.Prelude.{ℕ, ◌≡◌, ◌+◌, ◌^◌, Bool, List, [], ◌∷◌, ◌++◌, map, slice_index_or, slice_set, Option, Some, None, if◌then◌else◌, true, false, ℤ, pos, negsuc}
use Rattle.std.specs.List.{flat_map, fold}
use Rattle.m386_image.specs.declared.image.Section.{Section}
use Rattle.m386_lines.specs.Directives.{StartsBare, StartsTask}
use Rattle.m386_lines.specs.Lines.{Statement, Direct}
use Rattle.m386_asm.specs.declared.sections.Sections.{Sections}
use Rattle.m386_asm.specs.declared.drafted.Draft.{Draft}
use Rattle.m386_asm.specs.Layout.{Laid, Names, field_value, gdt_in, idt_in, plan_of, planned, processors, sections_of, set_by, start_of, table_from, value}

-- ---- sections

-- the section that still grows, if there is one
abbrev pub growing : Option Section → List Section
growing None = []
growing (Some s) = s ∷ []

-- The code's sections are these. Where none grows, none is ended.
pub record HasSections (sections : Sections) (ss : List Section) : Type 0 where
  pub all : sections.ended ++ growing sections.last ≡ ss
  pub begun : sections.last ≡ None → sections.ended ≡ []

-- ---- starts

-- the list with an item at a place, if it has the place
abbrev pub with_item : {A : Type 0} → List A → ℤ → A → List A
with_item xs (pos n) x = slice_set xs n x
with_item xs (negsuc n) x = xs

-- where the processors start, behind a statement
abbrev pub words_after : Names → Statement → List ℕ → List ℕ
words_after ns (Direct (StartsBare p e)) words = with_item words (value ns p) (field_value ns 32 e)
words_after ns (Direct (StartsTask p s)) words = with_item words (value ns p) (field_value ns 16 s)
words_after ns _ words = words

-- and whether in a task
abbrev pub tasks_after : Names → Statement → List Bool → List Bool
tasks_after ns (Direct (StartsBare p e)) tasks = with_item tasks (value ns p) false
tasks_after ns (Direct (StartsTask p s)) tasks = with_item tasks (value ns p) true
tasks_after ns _ tasks = tasks

-- the bits of the processors that start in a task
abbrev pub task_bits : List Bool → ℕ
task_bits tasks = fold (λ n cpu. n + (if slice_index_or tasks cpu false then 2 ^ cpu else 0)) 0 processors

-- ---- the whole

-- What a statement sets of a draft, beside its sections.
pub record IsHeaded (ns : Names) (s : Statement) (old new : Draft) : Type 0 where
  pub gdt : new.gdt ≡ set_by (gdt_in ns) s old.gdt
  pub idt : new.idt ≡ set_by (idt_in ns) s old.idt
  pub words : new.words ≡ words_after ns s old.words
  pub tasks : new.tasks ≡ tasks_after ns s old.tasks
  pub plan : new.plan ≡ old.plan ++ planned ns s
  pub sections : new.sections ≡ old.sections

-- The draft is what these lines lay out, with these values of names.
pub record IsDraft (ns : Names) (ls : List Laid) (d : Draft) : Type 0 where
  pub gdt : d.gdt ≡ table_from ns (gdt_in ns) ls
  pub idt : d.idt ≡ table_from ns (idt_in ns) ls
  pub words : d.words ≡ map (λ cpu. (start_of ns ls cpu).0) processors
  pub tasks : d.tasks ≡ map (λ cpu. (start_of ns ls cpu).1) processors
  pub plan : d.plan ≡ flat_map (plan_of ns) ls
  pub sections : HasSections d.sections (sections_of ls)
