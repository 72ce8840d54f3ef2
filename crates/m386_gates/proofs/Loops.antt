-- The doublewords that a loop has yet to copy.
use Rattle.std.proofs.Common.{◌≡◌, ℕ, zero, suc, ◌-◌, ◌<◌, ◌≤◌, refl, arith}
use Rattle.m386_base.specs.Phrase.{Done, ◌>>=◌}
use Rattle.m386_state.specs.declared.proc.Proc.{Proc}
use Rattle.m386_stack.specs.declared.stack.Stack.{Stack}
use Rattle.m386_gates.specs.Copies.{copy_phrase, copies_phrase}

pub copies_next : (p : Proc) (left : ℕ) (st : Stack) → 0 < left → copies_phrase p left st ≡ (copy_phrase p (left - 1) st >>= (λ next. copies_phrase p (left - 1) next))
unfolding copies_phrase
copies_next p zero st h = absurd (omega arith)
copies_next p (suc n) st h = let e : suc n - 1 ≡ n = omega arith in rw e refl

pub copies_end : (p : Proc) (left : ℕ) (st : Stack) → left ≤ 0 → copies_phrase p left st ≡ Done st
unfolding copies_phrase
copies_end p zero st h = refl
copies_end p (suc n) st h = absurd (omega arith)

pub ruleset copy_steps = (copies_next, copies_end)
