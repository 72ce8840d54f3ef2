-- How the code's lists stand for a book: they name a task by the selector of its TSS, eight times its number.
use Rattle.std.specs.Prelude.{◌≡◌, ℕ, ◌+◌, ◌*◌, ◌/◌, ◌%◌, ◌^◌, ◌<◌, ◌==◌, ◌&&◌, Bool, true, false, not, List, [], ◌∷◌, map, filter, length, Option, Some, None, if◌then◌else◌, slice_index_or}
use Rattle.std.specs.List.Sorted.{IsPermutation, IsNonDecreasing, IsNonDecreasingBy}
use Rattle.m386_book.specs.declared.waiting.Waiting.{Waiting}
use Rattle.m386_book.specs.declared.holding.Holding.{Holding}
use Rattle.m386_book.specs.Book.{Book}

-- the selector of a task
abbrev pub selector_of : Option ℕ → Option ℕ
selector_of None = None
selector_of (Some number) = Some (number * 8)

-- an entry by selectors
abbrev pub waiting_of : (ℕ × ℕ) → Waiting
waiting_of e = record { task = e.0 * 8; by = e.1 * 8 }

-- the same changes as the book's, of entries by selectors
abbrev pub others_by : ℕ → List Waiting → List Waiting
others_by task entries = filter (λ w. not (w.by == task)) entries

abbrev pub others_of : ℕ → List Waiting → List Waiting
others_of task entries = filter (λ w. not (w.task == task)) entries

abbrev pub with_added : Bool → Option ℕ → ℕ → List Waiting → List Waiting
with_added true (Some older) task entries = record { task = older; by = task } ∷ entries
with_added true None task entries = entries
with_added false older task entries = entries

abbrev pub waiter_by : ℕ → List Waiting → Option ℕ
waiter_by task [] = None
waiter_by task (w ∷ ws) = if w.by == task then Some w.task else waiter_by task ws

-- the selectors but this one
abbrev pub others : ℕ → List ℕ → List ℕ
others task live = filter (λ s. not (s == task)) live

-- how often a selector stands in a list
abbrev pub times : ℕ → List ℕ → ℕ
times selector [] = 0
times selector (s ∷ ss) = (if s == selector then 1 else 0) + times selector ss

-- how often the selector of a live link stands in a list: once, and any other never
abbrev pub live_times : Book → ℕ → ℕ
live_times book selector = if (selector % 8 == 0) && book.live (selector / 8) then 1 else 0

-- These lists are the book's: what each processor holds, the entries in the book's order, and each live link once.
pub record Keeps (book : Book) (held : List (Option ℕ)) (entries : List Waiting) (live : List ℕ) : Type 0 where
  pub eight : length held ≡ 8
  pub holds : (p : ℕ) → p < 8 → slice_index_or held p None ≡ selector_of (book.held p)
  pub waits : entries ≡ map waiting_of book.waiting
  pub lives : (selector : ℕ) → times selector live ≡ live_times book selector

-- the place of an entry in the order: by its task, and then by the one by which it waits
abbrev pub rank : Waiting → ℕ
rank w = w.task * 2 ^ 16 + w.by

-- What is told of a book: what each processor holds, each entry as often as the book has it, and each live link once; the
-- lists rise.
-- Own choice: docs/DECISIONS.md, "The book"
pub record IsHolding (book : Book) (holding : Holding) : Type 0 where
  pub held : (p : ℕ) → p < 8 → slice_index_or holding.held p None ≡ selector_of (book.held p)
  pub waiting : IsPermutation (map waiting_of book.waiting) holding.waiting
  pub waiting_rises : IsNonDecreasingBy rank holding.waiting
  pub live : (selector : ℕ) → times selector holding.live ≡ live_times book selector
  pub live_rises : IsNonDecreasing holding.live
