-- The bytes of the GDT, and what an unfinished step has read of them.
use Rattle.std.specs.Prelude.{◌≡◌, ℕ, ◌+◌, ◌/◌, ◌%◌, ◌^◌, ◌*◌, ◌<◌, ◌≤◌, ◌⊎◌, true, List, Some, None, bit_or, bit_and, if◌then◌else◌, ◌==◌}
use Rattle.m386_base.specs.declared.ask.Ask.{Ask}
use Rattle.m386_base.specs.declared.ask.Cycle.{Cycle}
use Rattle.m386_base.specs.declared.ask.Space.TheVariants.{Memory}
use Rattle.m386_base.specs.Bytes.{Has, heard}
use Rattle.m386_memory.specs.Contents.{Contents, byte_in}
use Rattle.m386_memory.specs.History.{byte_after, last_cpu}
use Rattle.m386_access.specs.Ordinary.{desc_byte, NamesGdt, IsSegmentByte}
use Rattle.m386_stages.specs.Stages.{Task, Phase, Free, Turned, Linking, Called, Jumped, Loaded, Backing, Returned, Ready, Stage, segment_byte, is_store}
use Rattle.m386_state.specs.declared.segment.TableReg.{TableReg}

-- a place in the GDT
abbrev pub InGdt : TableReg → ℕ → Type 0
InGdt gdt a = (gdt.base ≤ a) × (a ≤ gdt.base + gdt.limit)

-- an access byte of a TSS that is present, available or busy
abbrev pub IsTssByte : ℕ → Type 0
IsTssByte b = (b / 2 ^ 7 % 2 ≡ 1) × (b / 2 ^ 4 % 2 ≡ 0) × (b / 2 ^ 2 % 4 ≡ 2) × (b % 2 ≡ 1)

-- A byte is the image's, but for the busy bit of a present TSS and the accessed bit of a segment.
pub data Kin (first : Contents) (gdt : TableReg) (a b : ℕ) : Type 0 where
  Same : b ≡ byte_in first Memory a → Kin first gdt a b
  Marked : (s : ℕ) → NamesGdt gdt s → a ≡ desc_byte gdt s 5 → IsTssByte (byte_in first Memory a) → (b ≡ bit_or (byte_in first Memory a) 2) ⊎ (b ≡ bit_and (byte_in first Memory a) 0xfd) → Kin first gdt a b
  Used : (s : ℕ) → NamesGdt gdt s → a ≡ desc_byte gdt s 5 → IsSegmentByte (byte_in first Memory a) → b ≡ bit_or (byte_in first Memory a) 1 → Kin first gdt a b

-- the first contents are bytes
abbrev pub AreBytes : Contents → Type 0
AreBytes first = (a : ℕ) → byte_in first Memory a < 256

-- the table after these cycles, the newest first
abbrev pub IsTable : Contents → TableReg → List Cycle → Type 0
IsTable first gdt older = (a : ℕ) → InGdt gdt a → Kin first gdt a (byte_after first older Memory a)

-- What a processor's step has read: of the GDT it is the table's, and in a locked group that is still open it is what stands there.
pub record HasRead (first : Contents) (gdt : TableReg) (cpu : ℕ) (g : Stage) (older : List Cycle) : Type 0 where
  pub seen : (a b : ℕ) → InGdt gdt a → Has g.seen a b → Kin first gdt a b
  pub group : last_cpu older ≡ Some cpu → (a b : ℕ) → Has g.group a b → byte_after first older Memory a ≡ b

-- rule 7: what a program writes where it likes isn't in the GDT
abbrev pub KeepsOff : TableReg → Ask → Type 0
KeepsOff gdt c = c.write ≡ true → is_store c.role ≡ true → (a : ℕ) → InGdt gdt a → (b : ℕ) → Has (heard c) a b → ⊥

-- the released task is a present TSS of the image
abbrev pub IsTask : Contents → TableReg → ℕ → Type 0
IsTask first gdt selector = NamesGdt gdt selector × IsTssByte (byte_in first Memory (desc_byte gdt selector 5))

-- the base that stands in the image's descriptor
abbrev pub image_base : Contents → TableReg → ℕ → ℕ
image_base first gdt s =
    byte_in first Memory (desc_byte gdt s 2) + byte_in first Memory (desc_byte gdt s 3) * 2 ^ 8 + byte_in first Memory (desc_byte gdt s 4) * 2 ^ 16 + byte_in first Memory (desc_byte gdt s 7) * 2 ^ 24

-- static rules of the image: its bytes are bytes, the GDT doesn't wrap, and no task's segment reaches into it
pub record IsTidyTable (first : Contents) (gdt : TableReg) : Type 0 where
  pub small : AreBytes first
  pub fits : gdt.base + gdt.limit < 2 ^ 32
  pub apart : (s j : ℕ) → IsTask first gdt s → j < 104 → InGdt gdt (segment_byte (image_base first gdt s) j) → ⊥

-- a task is a present TSS of the image, with the base that stands there
abbrev pub IsRight : Contents → TableReg → Task → Type 0
IsRight first gdt t = IsTask first gdt t.selector × (t.base ≡ image_base first gdt t.selector)

-- each task of a phase is right
abbrev pub AreRight : Contents → TableReg → Phase → Type 0
AreRight first gdt (Free None nt) = Unit {0}
AreRight first gdt (Free (Some o) nt) = IsRight first gdt o
AreRight first gdt (Turned k o t nt z) = IsRight first gdt o × IsRight first gdt t
AreRight first gdt (Linking o t) = IsRight first gdt o × IsRight first gdt t
AreRight first gdt (Called t) = IsRight first gdt t
AreRight first gdt (Jumped t) = IsRight first gdt t
AreRight first gdt (Loaded t nt) = IsRight first gdt t
AreRight first gdt (Backing o bs) = IsRight first gdt o
AreRight first gdt (Returned x) = IsRight first gdt x
AreRight first gdt (Ready x nt) = IsRight first gdt x

-- The table, what was read of it, and the tasks of a stage.
pub record IsSound (first : Contents) (gdt : TableReg) (cpu : ℕ) (g : Stage) (older : List Cycle) : Type 0 where
  pub table : IsTable first gdt older
  pub read : HasRead first gdt cpu g older
  pub right : AreRight first gdt g.phase

-- The same of every processor, each at its stage.
pub record AreSound (first : Contents) (gdt : TableReg) (at : ℕ → Stage) (older : List Cycle) : Type 0 where
  pub table : IsTable first gdt older
  pub read : (q : ℕ) → HasRead first gdt q (at q) older
  pub right : (q : ℕ) → AreRight first gdt (at q).phase

-- one processor's stage is another
abbrev pub at_cpu : (ℕ → Stage) → ℕ → Stage → ℕ → Stage
at_cpu at p g q = if q == p then g else at q
