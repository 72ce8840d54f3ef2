-- Exclusion: no task is held by two processors, none is both held and waiting, and none waits twice.
use Rattle.std.specs.Prelude.{◌≡◌, ℕ, ◌<◌, ◌≤◌, List, Some}
use Rattle.m386_base.specs.declared.ask.Cycle.{Cycle}
use Rattle.m386_base.specs.declared.ask.Space.TheVariants.{Memory}
use Rattle.m386_memory.specs.History.{byte_after}
use Rattle.m386_book.specs.Book.{Book, book_after}
use Rattle.m386_exclusion.specs.World.{Setting, IsBusy, flag, waits}

-- a processor below n holds a task
pub record IsHeld (n : ℕ) (b : Book) (x : ℕ) : Type 0 where
  pub by : ℕ
  pub below : by < n
  pub holds : b.held by ≡ Some x

-- a task waits: some entry of the book is its
abbrev pub IsWaiting : Book → ℕ → Type 0
IsWaiting b x = 1 ≤ waits b.waiting x

-- After these cycles, the newest first, of the processors below n: no two processors hold one task; a held task doesn't wait; a
-- task waits at most once; and each task that is held or waits has its busy bit set in memory.
-- Own choice: docs/DECISIONS.md, "Exclusion"
pub record Exclusive (I : Setting) (n : ℕ) (older : List Cycle) : Type 0 where
  pub one : (p q x : ℕ) → p < n → q < n → (book_after I.image older).held p ≡ Some x → (book_after I.image older).held q ≡ Some x → p ≡ q
  pub apart : (x : ℕ) → IsHeld n (book_after I.image older) x → IsWaiting (book_after I.image older) x → ⊥
  pub once : (x : ℕ) → waits (book_after I.image older).waiting x ≤ 1
  pub held_busy : (x : ℕ) → IsHeld n (book_after I.image older) x → IsBusy (byte_after I.first older Memory (flag I x))
  pub waiting_busy : (x : ℕ) → IsWaiting (book_after I.image older) x → IsBusy (byte_after I.first older Memory (flag I x))
