use Rattle.std.proofs.Common.{◌≡◌, ◌∙◌, ap, subst, List, rules}
use Rattle.std.specs.List.Sorted.{IsPermutation}
use Rattle.std.proofs.lemmas.List.Sorted.{IsNonDecreasingBy-from_sort, IsNonDecreasingBy-from_sort_by_key}
use Rattle.m386_book.specs.declared.waiting.Waiting.{Waiting}
use Rattle.m386_book.specs.Holding.{rank, times}
use Rattle.m386_book.proofs.Lives.{times_moved}
use Rattle.m386_book.proofs.holding.told.Goals as goal

pub returns : goal.returns
returns c = λ book k. record {
  held = k.holds;
  waiting = rw c.of.ensures (subst (λ (xs : List Waiting). IsPermutation xs c.sort_unstable_by_key.new.self.items) k.waits c.sort_unstable_by_key.ensures.permutation);
  waiting_rises = rw c.of.ensures (IsNonDecreasingBy-from_sort_by_key rank _ c.sort_unstable_by_key.ensures.sorted (λ a r q k. search rules));
  live = λ s. ap (times s) c.of-2.ensures ∙ times_moved s _ _ c.sort_unstable.ensures.permutation ∙ k.lives s;
  live_rises = rw c.of-2.ensures (IsNonDecreasingBy-from_sort (λ x. x) _ c.sort_unstable.ensures.sorted);
}
