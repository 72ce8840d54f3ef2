-- What whole steps are, and what isn't one.
use Rattle.std.proofs.Common.{◌≡◌, ℕ, zero, suc, ◌+◌, List, [], refl, sym, ◌∙◌}
use Rattle.m386_base.specs.declared.ask.Ask.{Ask}
use Rattle.m386_base.specs.Phrase.{Whole, Wants}
use Rattle.m386_state.specs.declared.proc.Mode.TheVariants.{Shutdown}
use Rattle.m386_state.specs.declared.proc.Proc.{Proc}
use Rattle.m386_step.specs.Step.{Follow}
use Rattle.m386_step.specs.Steps.{Plan, Steps, requested, planned}

-- a whole step is the steps of one
pub whole_step : (s s2 : Proc) (ts : List Ask) → (s.mode ≡ Shutdown → ⊥) → Follow s ts ≡ Whole s2 [] → Steps 1 [] 0 s ts s2
unfolding Steps
whole_step s s2 ts lives h = (lives, s2, [], h, (refl, refl))

-- a proper front of a step isn't
pub no_front : (q : Plan) (j : ℕ) (s s2 : Proc) (wanted : Ask) (ts : List Ask) → Follow (requested q j s) ts ≡ Wants wanted → Steps 1 q j s ts s2 → ⊥
unfolding Steps
no_front q j s s2 wanted ts f h =
    let d : Wants wanted ≡ Whole h.1 h.2 = sym f ∙ h.3 in
    cc

-- no step is made in shutdown
pub none_in_shutdown : (k : ℕ) (q : Plan) (j : ℕ) (s s2 : Proc) (ts : List Ask) → s.mode ≡ Shutdown → Steps (suc k) q j s ts s2 → ⊥
unfolding Steps
none_in_shutdown k q j s s2 ts down h = h.0 down

-- as many steps of the same cycles lead to one state
pub one_end : (k : ℕ) (q : Plan) (j : ℕ) (s a b : Proc) (ts : List Ask) → Steps k q j s ts a → Steps k q j s ts b → a ≡ b
unfolding Steps
one_end zero q j s a b ts g h = g.1 ∙ sym h.1
one_end (suc k) q j s a b ts g h =
    let one : Whole g.1 g.2 ≡ Whole h.1 h.2 = sym g.3 ∙ h.3 in
    let same_after : h.1 ≡ g.1 = cc in
    let same_rest : h.2 ≡ g.2 = cc in
    let other : Steps k (planned q j s) (j + 1) g.1 g.2 b = rw (same_after, same_rest) at h.4 in
    one_end k (planned q j s) (j + 1) g.1 a b g.2 g.4 other
