use Rattle.std.proofs.Common.{◌≡◌, ◌∙◌, ap, sym, List, ℕ, eqb}
use Rattle.std.specs.List.{list_any}
use Rattle.m386_book.proofs.Keeping.{live_held, dead_held}
use Rattle.m386_book.proofs.tasks.Tasks.holds_live.Goals as goal

pub returns-in-Some : goal.returns-in-Some
returns-in-Some c = λ book k.
    let same : c.contains.result ≡ list_any (λ y. eqb y c.in-Some.task) c.args.self.now.live.items = c.contains.ensures.value ∙ ap (λ (xs : List ℕ). list_any (λ y. eqb y c.in-Some.task) xs) c.deref.ensures.value in
    let told = live_held book c.args.cpu _ _ _ c.requires k c.in-Some.task c.in-Some.is in
    (λ p. told.0 (sym same ∙ p), λ l. same ∙ told.1 l)
