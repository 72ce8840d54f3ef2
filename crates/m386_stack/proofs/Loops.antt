-- The values that a loop has yet to push or pop.
use Rattle.std.proofs.Common.{◌≡◌, ℕ, ◌+◌, ◌<◌, ◌≤◌, List, length, drop, get_or, refl, add-one, drop-cons}
use Rattle.std.proofs.lemmas.List.{drop_all}
use Rattle.m386_base.specs.declared.number.Width.{Width}
use Rattle.m386_base.specs.Phrase.{Done, ◌>>=◌}
use Rattle.m386_state.specs.declared.proc.Proc.{Proc}
use Rattle.m386_stack.specs.declared.stack.Stack.{Stack}
use Rattle.m386_stack.specs.All.{pop_register_phrase, pops}
use Rattle.m386_stack.specs.Stack.{pushes, push_phrase}

pub pushes_next : (st : Stack) (len : ℕ) (vs : List ℕ) (i : ℕ) → i < length vs → pushes st len (drop i vs) ≡ (push_phrase st len (get_or vs i 0) >>= (λ next. pushes next len (drop (i + 1) vs)))
unfolding pushes
pushes_next st len vs i h = rw (drop-cons vs i 0 h) (rw (add-one i) refl)

pub pushes_end : (st : Stack) (len : ℕ) (vs : List ℕ) (i : ℕ) → length vs ≤ i → pushes st len (drop i vs) ≡ Done st
unfolding pushes
pushes_end st len vs i h = rw (drop_all i vs h) refl

pub pops_next : (p : Proc) (st : Stack) (w : Width) (rs : List ℕ) (i : ℕ) → i < length rs → pops p st w (drop i rs) ≡ (pop_register_phrase p st w (get_or rs i 0) >>= (λ next. pops next st w (drop (i + 1) rs)))
unfolding pops
pops_next p st w rs i h = rw (drop-cons rs i 0 h) (rw (add-one i) refl)

pub pops_end : (p : Proc) (st : Stack) (w : Width) (rs : List ℕ) (i : ℕ) → length rs ≤ i → pops p st w (drop i rs) ≡ Done p
unfolding pops
pops_end p st w rs i h = rw (drop_all i rs h) refl

pub ruleset push_steps = (pushes_next, pushes_end)

pub ruleset pop_steps = (pops_next, pops_end)
