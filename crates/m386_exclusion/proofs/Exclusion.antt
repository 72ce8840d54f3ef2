-- Exclusion over whole histories.
use Rattle.std.proofs.Common.{arith, ℕ, ◌≤◌, ◌∙◌, inl, inr, ap, subst}
use Rattle.m386_book.specs.Book.{Book, book_after}
use Rattle.m386_stages.specs.Stages.{Stage}
use Rattle.m386_exclusion.specs.Exclusion.{Exclusive, IsHeld}
use Rattle.m386_exclusion.specs.Held.{holds}
use Rattle.m386_exclusion.specs.Histories.{Settles, Exclusion, ExclusionOfFronts}
use Rattle.m386_exclusion.specs.Invariant.{Gdt}
use Rattle.m386_exclusion.specs.World.{Setting, World, holders}
use Rattle.m386_exclusion.proofs.Counts.{test, holders-one, holders-two}
use Rattle.m386_exclusion.proofs.Histories.{settled}
use Rattle.m386_exclusion.proofs.Order.{place_of, walked_below, walked_placed}
use Rattle.m386_exclusion.proofs.Judged.{judged_of, tidy_of}

-- the counts say that no two processors hold one task, and so on
exclusive_of : (I : Setting) (n : ℕ) (G : World) → Gdt I n G → Exclusive I n G.cycles
exclusive_of I n G gdt =
    let b : Book = book_after I.image G.cycles in
    let held : (x : ℕ) → IsHeld n b x → 1 ≤ holders n b.held x = λ x h. holders-one n b.held h.by x h.below h.holds in
    record {
      one = λ p q x hp hq ep eq. elim (test p q) [
        | inl s ↦ s.0
        | inr s ↦ absurd (let two = holders-two n b.held p q x hp hq s.0 ep eq in let once = gdt.once x in omega (arith, two, once))
      ];
      apart = λ x h w. (let one = held x h in let once = gdt.once x in omega (arith, one, once, w));
      once = λ x. (let once = gdt.once x in omega (arith, once));
      held_busy = λ x h. (let one = held x h in gdt.busy x (omega (arith, one)));
      waiting_busy = λ x w. gdt.busy x (omega (arith, w));
    }

pub excludes : Exclusion
excludes step law I n start valid begins st older place walked none clean =
    let v = settled I n step start older place (tidy_of I valid begins none) law st walked (judged_of I older valid begins none clean) in
    record {
      exclusive = exclusive_of I n (record { cycles = older; at = v.at }) v.keeps.gdt;
      named = λ p s hp e. (v.keeps.good p hp).holds ∙ ap (λ (g : Stage). holds g.phase) (subst (Settles I (v.at p)) e (v.settles p hp)).0;
    }

pub excludes_fronts : ExclusionOfFronts
excludes_fronts step law I n start valid begins st newer older place walked none clean =
    let w = walked_below step I.first n start newer older place walked in
    (excludes step law I n start valid begins st older (place_of step I.first n start older w) (walked_placed step I.first n start older w) none clean).exclusive
