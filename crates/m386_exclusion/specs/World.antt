-- The world that exclusion speaks of: memory and the book after the cycles made so far, and the stage of each processor.
use Rattle.std.specs.Prelude.{◌≡◌, ℕ, zero, suc, ◌+◌, ◌*◌, ◌/◌, ◌%◌, ◌^◌, ◌<◌, ◌==◌, true, false, List, [], ◌∷◌, Option, Some, None, if◌then◌else◌}
use Rattle.m386_base.specs.declared.ask.Ask.{Ask}
use Rattle.m386_base.specs.declared.ask.Cycle.{Cycle}
use Rattle.m386_base.specs.declared.ask.Role.TheVariants as roles
use Rattle.m386_base.specs.declared.ask.Space.TheVariants.{Memory}
use Rattle.m386_base.specs.Bytes.{Has, heard, has_nt}
use Rattle.m386_memory.specs.Contents.{Contents, holds_byte}
use Rattle.m386_memory.specs.History.{byte_after}
use Rattle.m386_stages.specs.Stages.{Stage, segment_byte, is_store, is_lgdt}
use Rattle.m386_book.specs.Book.{Book, IsLive, book_after}
use Rattle.m386_exclusion.specs.Table.{InGdt, IsTask as IsTaskBy, image_base, IsTidyTable, KeepsOff}
use Rattle.m386_image.specs.declared.image.Image.{Image}
use Rattle.m386_state.specs.declared.segment.TableReg.{TableReg}

-- what a history is judged by: an image, and the contents that its machine began with
pub record Setting : Type 0 where
  pub image : Image
  pub first : Contents

-- the GDT register that each processor starts with
abbrev pub gdt_reg : Setting → TableReg
gdt_reg I = record { base = I.image.gdt.base; limit = I.image.gdt.limit }

-- the cycles so far, the newest first, and where each processor stands
pub record World : Type 0 where
  pub cycles : List Cycle
  pub at : ℕ → Stage

-- the byte in memory
abbrev pub mem : Setting → World → ℕ → ℕ
mem I G a = byte_after I.first G.cycles Memory a

-- the book of the cycles
abbrev pub book : Setting → World → Book
book I G = book_after I.image G.cycles

-- a task by the number of its descriptor: a present TSS of the image's GDT
abbrev pub IsTask : Setting → ℕ → Type 0
IsTask I x = IsTaskBy I.first (gdt_reg I) (x * 8)

-- The place of a task's access byte.
-- Source: Intel 80386 PRM 7.2
unfoldable pub flag : Setting → ℕ → ℕ
flag I x = I.image.gdt.base + x * 8 + 5

-- the place of byte j of a task's segment
unfoldable pub seg : Setting → ℕ → ℕ → ℕ
seg I x j = segment_byte (image_base I.first (gdt_reg I) (x * 8)) j

-- An access byte of a TSS with its busy bit set, and clear: bit 1.
-- Source: Intel 80386 PRM 7.2
abbrev pub IsBusy : ℕ → Type 0
IsBusy b = b / 2 % 2 ≡ 1

abbrev pub IsIdle : ℕ → Type 0
IsIdle b = b / 2 % 2 ≡ 0

abbrev pub is : Option ℕ → ℕ → ℕ
is None x = 0
is (Some y) x = if y == x then 1 else 0

-- how many of the processors below n hold a task, and how often it waits
unfoldable pub holders : ℕ → (ℕ → Option ℕ) → ℕ → ℕ
holders zero f x = 0
holders (suc n) f x = holders n f x + is (f n) x

unfoldable pub waits : List (ℕ × ℕ) → ℕ → ℕ
waits [] x = 0
waits (e ∷ es) x = (if e.0 == x then 1 else 0) + waits es x

-- how often a task stands among the held and the waiting
abbrev pub stands : ℕ → Book → ℕ → ℕ
stands n b x = holders n b.held x + waits b.waiting x

-- What the rules 6 to 9 give of one cycle, over the book before it.
pub record IsClean (I : Setting) (p : ℕ) (b : Book) (c : Ask) : Type 0 where
  pub lgdt : is_lgdt c.role ≡ false
  pub table : KeepsOff (gdt_reg I) c
  pub segments : c.write ≡ true → is_store c.role ≡ true → (x j : ℕ) → IsTask I x → j < 104 → (b : ℕ) → Has (heard c) (seg I x j) b → ⊥
  pub flags : c.write ≡ false → c.role ≡ roles.Flags → has_nt c ≡ true → IsLive b (b.held p)
  pub ltr : c.write ≡ true → c.role ≡ roles.ClaimLtr → IsLive b (b.held p) → ⊥

-- What the rules 1 to 4 give of the image: the table and the segments lie in memory, and no two segments share a byte.
pub record IsTidy (I : Setting) : Type 0 where
  pub table : IsTidyTable I.first (gdt_reg I)
  pub limit : I.image.gdt.limit < 2 ^ 16
  pub inside : (a : ℕ) → InGdt (gdt_reg I) a → holds_byte I.first Memory a ≡ true
  pub segments : (x j : ℕ) → IsTask I x → j < 104 → holds_byte I.first Memory (seg I x j) ≡ true
  pub separate : (x y j k : ℕ) → IsTask I x → IsTask I y → j < 104 → k < 104 → seg I x j ≡ seg I y k → x ≡ y
