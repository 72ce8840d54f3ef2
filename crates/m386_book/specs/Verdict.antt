-- The verdict on a run: its first failure.
use Rattle.std.specs.Prelude.{◌≡◌, ℕ, ◌<◌, List, [], ◌∷◌, Some, take}
use Rattle.std.specs.List.{slice_get}
use Rattle.m386_base.specs.declared.ask.Cycle.{Cycle}
use Rattle.m386_image.specs.declared.image.Image.{Image}
use Rattle.m386_memory.specs.History.{past}
use Rattle.m386_book.specs.declared.verdict.Verdict.{Verdict}
use Rattle.m386_book.specs.declared.verdict.Verdict.TheVariants.{Clean, Static, At}
use Rattle.m386_book.specs.Book.{book_after}
use Rattle.m386_book.specs.Rules.{FailsStatic, FailsAt}

-- no rule of the image fails
abbrev pub NoneStatic : Image → Type 0
NoneStatic image = (rule : ℕ) → ¬ FailsStatic image rule

-- None of these cycles, the newest first, fails a rule over the book before it.
-- Own choice: docs/DECISIONS.md, "The verdict"
unfoldable pub AreClean : Image → List Cycle → Type 0
AreClean image [] = Unit {0}
AreClean image (x ∷ older) = ((rule : ℕ) → ¬ FailsAt image (book_after image older) x rule) × AreClean image older

-- the cycle at a place of a history fails a rule over the book of the cycles before it
abbrev pub FailsInHistory : Image → List Cycle → ℕ → ℕ → Type 0
FailsInHistory image history place rule =
    (c : Cycle) × (slice_get history place ≡ Some c) × FailsAt image (book_after image (past (take place history))) c rule

-- The first failure of a run: the least rule that the image fails, else the first cycle that fails a rule, else none.
-- Of the cycles' rules a cycle fails at most one, since its role decides which it may be.
-- Own choice: docs/DECISIONS.md, "The verdict"
abbrev pub IsFirstFailure : Image → List Cycle → Verdict → Type 0
IsFirstFailure image history Clean = NoneStatic image × AreClean image (past history)
IsFirstFailure image history (Static rule) = FailsStatic image rule × ((lesser : ℕ) → lesser < rule → ¬ FailsStatic image lesser)
IsFirstFailure image history (At rule index) =
    NoneStatic image × FailsInHistory image history index rule × AreClean image (past (take index history))
