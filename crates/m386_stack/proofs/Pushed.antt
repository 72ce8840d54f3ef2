-- The law of pushes and pops.
use Rattle.std.proofs.Common.{◌≡◌, ℕ, ◌-◌, ◌*◌, List, [], ◌∷◌, length, refl, arith, true, nat_le}
use Rattle.m386_base.specs.declared.ask.Ask.{Ask}
use Rattle.m386_base.specs.declared.ask.Role.{Role}
use Rattle.m386_base.specs.declared.ask.Role.TheVariants as roles
use Rattle.m386_base.specs.Phrase.{Phrase, ◌>>=◌}
use Rattle.m386_base.specs.Plain.{Plain}
use Rattle.m386_base.proofs.Plain.{plain_done, plain_faults, plain_if, plain_bind}
use Rattle.m386_state.specs.declared.segment.TableReg.{TableReg}
use Rattle.m386_access.specs.Address.{linear_of}
use Rattle.m386_access.specs.Ordinary.{Ordinary, is_read_role}
use Rattle.m386_access.proofs.Phrases.{Anything, two_reads, writes_then}
use Rattle.m386_stack.specs.declared.stack.Stack.{Stack}
use Rattle.m386_stack.specs.Stack.{top_of, lowered, may_push, may_pop, put_top_phrase, push_phrase, pushes, pop_phrase}

two_put_top : (gdt : TableReg) (st : Stack) (len value : ℕ) (ts : List Ask) → Plain 2 (Ordinary gdt) Anything ts (put_top_phrase st len value)
unfolding put_top_phrase
two_put_top gdt st len value ts =
    plain_if 2 (Ordinary gdt) Anything ts (may_push st len) _ _
    (writes_then gdt 2 Anything ts roles.Push (linear_of st.ss (top_of st)) len value _ refl refl (λ us u. plain_done 0 (Ordinary gdt) Anything us st tt))
    (plain_faults 2 (Ordinary gdt) Anything ts _)

two_push : (gdt : TableReg) (st : Stack) (len value : ℕ) (ts : List Ask) → Plain 2 (Ordinary gdt) Anything ts (push_phrase st len value)
unfolding push_phrase
two_push gdt st len value ts = two_put_top gdt (lowered st len) len value ts

two_pop : (gdt : TableReg) (role : Role) (st : Stack) (len : ℕ) (ts : List Ask) → is_read_role role ≡ true → Plain 2 (Ordinary gdt) Anything ts (pop_phrase role st len)
unfolding pop_phrase
two_pop gdt role st len ts h =
    plain_if 2 (Ordinary gdt) Anything ts (may_pop st len) _ _ (two_reads gdt role (linear_of st.ss (top_of st)) len 0 ts h) (plain_faults 2 (Ordinary gdt) Anything ts _)

-- A value pushed, and what follows.
pub push_then : (gdt : TableReg) → {B : Type 0} (n : ℕ) (ends : List Ask → B → Type 0) (ts : List Ask) (st : Stack) (len value : ℕ) (f : Stack → Phrase B) → nat_le 2 n ≡ true → ((us : List Ask) (next : Stack) → Plain (n - 2) (Ordinary gdt) ends us (f next)) → Plain n (Ordinary gdt) ends ts (push_phrase st len value >>= f)
push_then gdt n ends ts st len value f l k = plain_bind 2 n (Ordinary gdt) Anything ends ts _ f (grind (arith, l)) (two_push gdt st len value ts) (λ us next o. k us next)

-- A value popped, and what follows.
pub pop_then : (gdt : TableReg) → {B : Type 0} (n : ℕ) (ends : List Ask → B → Type 0) (ts : List Ask) (role : Role) (st : Stack) (len : ℕ) (f : ℕ → Phrase B) → nat_le 2 n ≡ true → is_read_role role ≡ true → ((us : List Ask) (v : ℕ) → Plain (n - 2) (Ordinary gdt) ends us (f v)) → Plain n (Ordinary gdt) ends ts (pop_phrase role st len >>= f)
pop_then gdt n ends ts role st len f l h k = plain_bind 2 n (Ordinary gdt) Anything ends ts _ f (grind (arith, l)) (two_pop gdt role st len ts h) (λ us v o. k us v)

all_pushes : (gdt : TableReg) (vs : List ℕ) (st : Stack) (len : ℕ) (ts : List Ask) → Plain (length vs * 2) (Ordinary gdt) Anything ts (pushes st len vs)
unfolding pushes
all_pushes gdt [] st len ts = plain_done 0 (Ordinary gdt) Anything ts st tt
all_pushes gdt (v ∷ vs) st len ts =
    let e : length (v ∷ vs) * 2 - 2 ≡ length vs * 2 = omega arith in
    plain_bind 2 (length (v ∷ vs) * 2) (Ordinary gdt) Anything Anything ts (push_phrase st len v) (λ next. pushes next len vs) (omega arith) (two_push gdt st len v ts) (λ us next o. rw e (all_pushes gdt vs next len us))

-- Values pushed, and what follows.
pub pushes_then : (gdt : TableReg) → {B : Type 0} (n : ℕ) (ends : List Ask → B → Type 0) (ts : List Ask) (st : Stack) (len : ℕ) (vs : List ℕ) (f : Stack → Phrase B) → nat_le (length vs * 2) n ≡ true → ((us : List Ask) (next : Stack) → Plain (n - length vs * 2) (Ordinary gdt) ends us (f next)) → Plain n (Ordinary gdt) ends ts (pushes st len vs >>= f)
pushes_then gdt n ends ts st len vs f l k = plain_bind (length vs * 2) n (Ordinary gdt) Anything ends ts _ f (grind (arith, l)) (all_pushes gdt vs st len ts) (λ us next o. k us next)

pub ruleset stack_plain = (push_then, pop_then, pushes_then)
