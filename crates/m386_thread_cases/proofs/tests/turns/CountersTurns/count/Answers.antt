use Rattle.std.proofs.Common.{◌≡◌, ◌<◌, ◌≤◌, ◌∙◌, ℕ, Some, arith, get_or, sym}
use Rattle.m386_turns.specs.Turns.{IsLawful}
use Rattle.m386_thread_cases.proofs.tests.turns.CountersTurns.count.Goals as goal

pub returns-clause-lawful : goal.returns-clause-lawful
returns-clause-lawful c =
    let s = c.args.self.now in
    let lawful : IsLawful s.count (λ k. s.goal ≤ get_or s.made k 0) (λ k. s.amid ≡ Some k) = record {
      below = λ k a. (s.inside k a).0;
      unfinished = λ k a d. let less : get_or s.made k 0 < s.goal = (s.inside k a).1 in omega (arith, less, d);
      alone = λ j k a b. let e : Some j ≡ Some k = sym a ∙ b in cc;
    } in lawful
