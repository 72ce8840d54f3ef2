-- A walk over a history, cycle by cycle.
use Rattle.std.proofs.Common.{◌≡◌, ℕ, ◌+◌, ◌<◌, ◌≤◌, List, [], ◌∷◌, length, get_or, take, Option, refl, ap, sym, subst, ◌∙◌, arith}
use Rattle.std.proofs.lemmas.List.{take_all, take_more}
use Rattle.std.proofs.lemmas.Option.{slice_get-get_or}
use Rattle.m386_base.specs.declared.ask.Cycle.{Cycle}
use Rattle.m386_image.specs.declared.image.Image.{Image}
use Rattle.m386_memory.specs.History.{past}
use Rattle.m386_memory.proofs.Histories.{past-push}
use Rattle.m386_book.specs.declared.waiting.Waiting.{Waiting}
use Rattle.m386_book.specs.Book.{Book, book_next, book_after, empty_book}
use Rattle.m386_book.specs.Holding.{Keeps}
use Rattle.m386_book.specs.Rules.{FailsAt}
use Rattle.m386_book.specs.Verdict.{AreClean, IsFirstFailure, NoneStatic}
use Rattle.m386_book.specs.declared.verdict.Verdict.TheVariants.{At}

-- the front with one more cycle, the newest first
pub past_more : (H : List Cycle) (i : ℕ) (c : Cycle) → i < length H → past (take (i + 1) H) ≡ get_or H i c ∷ past (take i H)
past_more H i c h = ap past (take_more H i c h) ∙ past-push (take i H) (get_or H i c)

pub past_whole : (H : List Cycle) (i : ℕ) → length H ≤ i → past (take i H) ≡ past H
past_whole H i h = ap past (take_all i H h)

pub book_first : (image : Image) (H : List Cycle) → book_after image (past (take 0 H)) ≡ empty_book
unfolding book_after
book_first image [] = refl
book_first image (x ∷ xs) = refl

pub book_more : (image : Image) (H : List Cycle) (i : ℕ) (c : Cycle) → i < length H → book_after image (past (take (i + 1) H)) ≡ book_next image (get_or H i c) (book_after image (past (take i H)))
unfolding book_after
book_more image H i c h = ap (book_after image) (past_more H i c h)

pub clean_first : (image : Image) (H : List Cycle) → AreClean image (past (take 0 H))
unfolding AreClean
clean_first image [] = tt
clean_first image (x ∷ xs) = tt

pub clean_more : (image : Image) (H : List Cycle) (i : ℕ) (c : Cycle) → i < length H → ((rule : ℕ) → ¬ FailsAt image (book_after image (past (take i H))) (get_or H i c) rule) → AreClean image (past (take i H))
    → AreClean image (past (take (i + 1) H))
unfolding AreClean
clean_more image H i c h none clean = subst (AreClean image) (sym (past_more H i c h)) (none, clean)

-- the lists of a walk, and that no cycle so far fails a rule
pub keeps_first : (image : Image) (H : List Cycle) (held : List (Option ℕ)) (entries : List Waiting) (live : List ℕ) → Keeps empty_book held entries live → Keeps (book_after image (past (take 0 H))) held entries live
keeps_first image H held entries live k = subst (λ (b : Book). Keeps b held entries live) (sym (book_first image H)) k

pub keeps_more : (image : Image) (H : List Cycle) (i : ℕ) (c : Cycle) (held : List (Option ℕ)) (entries : List Waiting) (live : List ℕ) → i < length H
    → Keeps (book_next image (get_or H i c) (book_after image (past (take i H)))) held entries live → Keeps (book_after image (past (take (i + 1) H))) held entries live
keeps_more image H i c held entries live h k = subst (λ (b : Book). Keeps b held entries live) (sym (book_more image H i c h)) k

pub keeps_whole : (image : Image) (H : List Cycle) (i : ℕ) (held : List (Option ℕ)) (entries : List Waiting) (live : List ℕ) → length H ≤ i → Keeps (book_after image (past (take i H))) held entries live → Keeps (book_after image (past H)) held entries live
keeps_whole image H i held entries live h k = subst (λ (older : List Cycle). Keeps (book_after image older) held entries live) (past_whole H i h) k

pub clean_whole : (image : Image) (H : List Cycle) (i : ℕ) → length H ≤ i → AreClean image (past (take i H)) → AreClean image (past H)
clean_whole image H i h k = subst (AreClean image) (past_whole H i h) k

-- the first cycle that fails a rule
pub first_at : (image : Image) (H : List Cycle) (i : ℕ) (c : Cycle) (rule : ℕ) → i < length H → NoneStatic image → FailsAt image (book_after image (past (take i H))) (get_or H i c) rule → AreClean image (past (take i H))
    → IsFirstFailure image H (At rule i)
first_at image H i c rule lt none fails clean = (none, (get_or H i c, slice_get-get_or H i c lt, fails), clean)

pub ruleset walked = (keeps_first, keeps_more, keeps_whole, clean_first, clean_more, clean_whole)
