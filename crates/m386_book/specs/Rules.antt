-- The nine rules that a clean run keeps, each as what breaks it.
use Rattle.std.specs.Prelude.{◌≡◌, ℕ, ◌+◌, ◌≤◌, ◌<◌, true, false, ◌⊎◌}
use Rattle.m386_base.specs.declared.ask.Ask.{Ask}
use Rattle.m386_base.specs.declared.ask.Cycle.{Cycle}
use Rattle.m386_base.specs.declared.ask.Space.TheVariants.{Memory}
use Rattle.m386_base.specs.declared.ask.Role.{Role}
use Rattle.m386_base.specs.declared.ask.Role.TheVariants.{Operand, Push, LdtAcc, Flags, Lgdt, ClaimLtr}
use Rattle.m386_image.specs.declared.image.Image.{Image}
use Rattle.m386_base.specs.Bytes.{bytes_of, has_nt, Has}
use Rattle.m386_book.specs.Book.{Book, IsLive}
use Rattle.m386_book.specs.Tss.{IsTss, IsBusyTss, IsOfTss, IsOfTable, tss_base}

-- Rule 1: the GDT doesn't lie inside memory.
-- Own choice: docs/DECISIONS.md, "The verdict"
abbrev pub GdtIsOutside : Image → Type 0
GdtIsOutside image = image.memory ≤ image.gdt.base + image.gdt.limit

-- Rule 2: a TSS doesn't lie inside memory.
-- Own choice: docs/DECISIONS.md, "The verdict"
abbrev pub TssIsOutside : Image → Type 0
TssIsOutside image = (number : ℕ) × IsTss image number × (image.memory < tss_base image number + 104)

-- Rule 3: a TSS and the GDT share a byte.
-- Own choice: docs/DECISIONS.md, "The verdict"
abbrev pub TssMeetsGdt : Image → Type 0
TssMeetsGdt image = (number place : ℕ) × IsOfTss image number place × IsOfTable image.gdt place

-- Rule 4: two TSSs share a byte.
-- Own choice: docs/DECISIONS.md, "The verdict"
abbrev pub TwoTssMeet : Image → Type 0
TwoTssMeet image = (one other place : ℕ) × (one < other) × IsOfTss image one place × IsOfTss image other place

-- Rule 5: a TSS is busy in the image.
-- Own choice: docs/DECISIONS.md, "The verdict"
abbrev pub TssIsBusy : Image → Type 0
TssIsBusy image = (number : ℕ) × IsBusyTss image number

-- A rule of the image fails.
-- Own choice: docs/DECISIONS.md, "The verdict"
abbrev pub FailsStatic : Image → ℕ → Type 0
FailsStatic image rule =
    ((rule ≡ 1) × GdtIsOutside image) ⊎ ((rule ≡ 2) × TssIsOutside image) ⊎ ((rule ≡ 3) × TssMeetsGdt image)
    ⊎ ((rule ≡ 4) × TwoTssMeet image) ⊎ ((rule ≡ 5) × TssIsBusy image)

-- Rule 6: GDTR is loaded.
-- Own choice: docs/DECISIONS.md, "The verdict"
abbrev pub LoadsGdtr : Cycle → Type 0
LoadsGdtr c = c.ask.role ≡ Lgdt

-- The roles in which a program writes where it likes.
-- Own choice: docs/DECISIONS.md, "The verdict"
abbrev pub IsFreeWrite : Role → Type 0
IsFreeWrite role = (role ≡ Operand) ⊎ (role ≡ Push) ⊎ (role ≡ LdtAcc)

-- a place of the GDT or of a TSS
abbrev pub IsGuarded : Image → ℕ → Type 0
IsGuarded image place = IsOfTable image.gdt place ⊎ ((number : ℕ) × IsOfTss image number place)

-- a byte of a cycle is of the GDT or of a TSS
abbrev pub Touches : Image → Ask → Type 0
Touches image a = (place byte : ℕ) × Has (bytes_of a) place byte × IsGuarded image place

-- Rule 7: a program writes a byte of the GDT or of a TSS.
-- Own choice: docs/DECISIONS.md, "The verdict"
pub record WritesGuarded (image : Image) (c : Cycle) : Type 0 where
  pub write : c.ask.write ≡ true
  pub space : c.ask.space ≡ Memory
  pub role : IsFreeWrite c.ask.role
  pub touches : Touches image c.ask

-- a flags cycle reads NT set
pub record ReadsNt (c : Cycle) : Type 0 where
  pub role : c.ask.role ≡ Flags
  pub read : c.ask.write ≡ false
  pub set : has_nt c.ask ≡ true

-- Rule 8: a flags cycle reads NT set while its processor holds no task, or one whose link isn't live.
-- Own choice: docs/DECISIONS.md, "The verdict"
abbrev pub ReadsNtAlone : Book → Cycle → Type 0
ReadsNtAlone book c = ReadsNt c × ¬ IsLive book (book.held c.cpu)

-- LTR claims a task
pub record ClaimsByLtr (c : Cycle) : Type 0 where
  pub role : c.ask.role ≡ ClaimLtr
  pub write : c.ask.write ≡ true

-- Rule 9: LTR claims a task while the link of the held task is live.
-- Own choice: docs/DECISIONS.md, "The verdict"
abbrev pub LeavesLive : Book → Cycle → Type 0
LeavesLive book c = ClaimsByLtr c × IsLive book (book.held c.cpu)

-- A rule of the cycles fails at a cycle, before which this was the book.
-- Own choice: docs/DECISIONS.md, "The verdict"
abbrev pub FailsAt : Image → Book → Cycle → ℕ → Type 0
FailsAt image book c rule =
    ((rule ≡ 6) × LoadsGdtr c) ⊎ ((rule ≡ 7) × WritesGuarded image c) ⊎ ((rule ≡ 8) × ReadsNtAlone book c) ⊎ ((rule ≡ 9) × LeavesLive book c)
