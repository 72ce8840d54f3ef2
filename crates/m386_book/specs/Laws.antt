-- What is proved of the book and the verdict beside the calls' own clauses.
use Rattle.std.specs.Prelude.{◌≡◌, ℕ, ◌+◌, ◌*◌, ◌%◌, ◌^◌, ◌<◌, ◌↔◌, ◌⊎◌, false, List, [], ◌∷◌, take, Some, None}
use Rattle.m386_base.specs.declared.ask.Cycle.{Cycle}
use Rattle.m386_base.specs.Bytes.{bytes_of}
use Rattle.m386_image.specs.declared.image.Image.{Image}
use Rattle.m386_image.specs.declared.image.TableAt.{TableAt}
use Rattle.m386_book.specs.declared.moves.Move.TheVariants.{Link, Stay}
use Rattle.m386_book.specs.declared.verdict.Verdict.{Verdict}
use Rattle.m386_book.specs.declared.verdict.Verdict.TheVariants.{Clean}
use Rattle.m386_book.specs.Book.{book_after, move_of, task_at}
use Rattle.m386_book.specs.Tss.{IsNumber}
use Rattle.m386_book.specs.Verdict.{IsFirstFailure}

-- A run has one first failure and no other.
abbrev pub HasOneVerdict : Type 0
HasOneVerdict = (image : Image) (history : List Cycle) (one other : Verdict) → IsFirstFailure image history one → IsFirstFailure image history other → one ≡ other

-- Each front of a clean history is clean.
abbrev pub FrontsAreClean : Type 0
FrontsAreClean = (image : Image) (history : List Cycle) (count : ℕ) → IsFirstFailure image history Clean → IsFirstFailure image (take count history) Clean

-- A cycle that isn't the write of a claim, a link or a release changes nothing.
abbrev pub OthersKeepTheBook : Type 0
OthersKeepTheBook = (image : Image) (c : Cycle) (older : List Cycle) → (c.ask.write ≡ false) ⊎ (move_of c.ask.role ≡ Stay) → book_after image (c ∷ older) ≡ book_after image older

-- Nor does one that speaks of no task, but for a link, which speaks of the held one.
abbrev pub TasklessKeepTheBook : Type 0
TasklessKeepTheBook = (image : Image) (c : Cycle) (older : List Cycle) → (move_of c.ask.role ≡ Link → ⊥) → task_at image.gdt (bytes_of c.ask) ≡ None → book_after image (c ∷ older) ≡ book_after image older

-- The byte at a place speaks of the task whose access byte stands there, modulo 2 ^ 32, and of no other.
abbrev pub SpeaksOfItsTask : Type 0
SpeaksOfItsTask = (table : TableAt) (place byte number : ℕ) → table.limit < 2 ^ 16 → place < 2 ^ 32
    → ((task_at table ((place, byte) ∷ []) ≡ Some number) ↔ (IsNumber table number × ((table.base + (number * 8 + 5)) % 2 ^ 32 ≡ place)))
