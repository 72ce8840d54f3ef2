-- What the parts of transfers owe: at most so many cycles, each an ordinary one.
use Rattle.std.proofs.Common.{◌≡◌, ℕ, ◌-◌, ◌%◌, ◌^◌, List, Bool, true, false, refl, arith, nat_le, nat_lt}
use Rattle.m386_base.specs.declared.ask.Ask.{Ask}
use Rattle.m386_base.specs.declared.ask.Role.TheVariants as roles
use Rattle.m386_base.specs.Phrase.{Phrase, ◌>>=◌}
use Rattle.m386_base.specs.Plain.{Plain}
use Rattle.m386_base.proofs.Plain.{plain_bind, plain_done, plain_ends, plain_if}
use Rattle.m386_desc.specs.Selector.{rpl_of}
use Rattle.m386_state.specs.declared.proc.Proc.{Proc}
use Rattle.m386_state.specs.Start.{cpl_of}
use Rattle.m386_access.specs.Ordinary.{Ordinary, Keeps}
use Rattle.m386_access.proofs.Phrases.{Anything, Stays, stays_same, keeps_stays}
use Rattle.m386_segload.specs.Rules.{return_rules}
use Rattle.m386_segload.specs.Segments.{with_segment}
use Rattle.m386_segload.proofs.Loads.{plain_need, take_then, stack_segment_then}
use Rattle.m386_stack.specs.declared.stack.Stack.{Stack}
use Rattle.m386_stack.specs.Stack.{moved}
use Rattle.m386_stack.proofs.Pushed.{pop_then}
use Rattle.m386_switch.proofs.Plain.{inner_then}
use Rattle.m386_transfer.specs.declared.place.Target.{Target}
use Rattle.m386_transfer.specs.Place.{target_fault, stack_of_level_phrase, stack_for_phrase, placed}
use Rattle.m386_transfer.specs.Return.{outer_segments, back_phrase, outer_stack_phrase, outer_phrase, return_target, return_phrase}

plain_stack_of_level : (p : Proc) (ts : List Ask) (level : ℕ) (ext : Bool) → Plain 9 (Ordinary p.gdtr) Anything ts (stack_of_level_phrase p level ext)
unfolding stack_of_level_phrase
plain_stack_of_level p ts level ext = inner_then p 9 Anything ts level ext _ refl (λ us found. plain_done 0 (Ordinary p.gdtr) Anything us _ tt)

plain_stack_for : (p : Proc) (ts : List Ask) (level : ℕ) (ext : Bool) → Plain 9 (Ordinary p.gdtr) Anything ts (stack_for_phrase p level ext)
unfolding stack_for_phrase
plain_stack_for p ts level ext = plain_if 9 (Ordinary p.gdtr) Anything ts (nat_lt level (cpl_of p)) _ _ (plain_stack_of_level p ts level ext) (plain_done 9 (Ordinary p.gdtr) Anything ts _ tt)

-- The stack of code that runs at a level, at most nine cycles, and what follows.
pub stack_for_then : (p : Proc) → {B : Type 0} (n : ℕ) (ends : List Ask → B → Type 0) (ts : List Ask) (level : ℕ) (ext : Bool) (f : Stack → Phrase B) → nat_le 9 n ≡ true → ((us : List Ask) (st : Stack) → Plain (n - 9) (Ordinary p.gdtr) ends us (f st)) → Plain n (Ordinary p.gdtr) ends ts (stack_for_phrase p level ext >>= f)
stack_for_then p n ends ts level ext f l k = plain_bind 9 n (Ordinary p.gdtr) Anything ends ts _ f (grind (arith, l)) (plain_stack_for p ts level ext) (λ us st o. k us st)

-- A transfer keeps TR, the GDT register and NT.
pub stays_placed : (p q : Proc) (t : Target) (st : Stack) → Stays p q → Stays p (placed q t st)
unfolding placed with_segment
stays_placed p q t st s = record { tr = s.tr; gdtr = s.gdtr; nested = s.nested }

stays_outer : (p : Proc) (level : ℕ) → Stays p (outer_segments p level)
unfolding outer_segments
stays_outer p level = record { tr = refl; gdtr = refl; nested = refl }

-- what a return ends in
pub Returned : Proc → List Ask → Proc → Type 0
Returned p us after = Stays p after

plain_back : (p q : Proc) (ts : List Ask) (n : ℕ) (t : Target) (st : Stack) → Stays p q → Plain n (Ordinary p.gdtr) (Returned p) ts (back_phrase q t st)
unfolding Returned
plain_back p q ts n t st s = plain_need p.gdtr n (Returned p) ts (target_fault t) _ (plain_done n (Ordinary p.gdtr) (Returned p) ts _ (stays_placed p q t st s))

plain_outer_stack : (p : Proc) (ts : List Ask) (level : ℕ) (st : Stack) (len : ℕ) → Plain 9 (Ordinary p.gdtr) Anything ts (outer_stack_phrase p level st len)
unfolding outer_stack_phrase
plain_outer_stack p ts level st len =
    pop_then p.gdtr 9 Anything ts roles.Pop st len _ refl refl (λ us esp.
    pop_then p.gdtr 7 Anything us roles.Pop (moved st len) len _ refl refl (λ vs selector.
    stack_segment_then p 5 Anything vs level (selector % 2 ^ 16) _ refl (λ ws seg.
    plain_done 0 (Ordinary p.gdtr) Anything ws _ tt)))

plain_outer : (p : Proc) (ts : List Ask) (t : Target) (st : Stack) (len released : ℕ) → Plain 9 (Ordinary p.gdtr) (Returned p) ts (outer_phrase p t st len released)
unfolding outer_phrase
plain_outer p ts t st len released =
    plain_bind 9 9 (Ordinary p.gdtr) Anything (Returned p) ts _ _ (omega arith) (plain_outer_stack p ts t.level (moved st released) len)
    (λ us outer o. plain_back p (outer_segments p t.level) us 0 t (moved outer released) (stays_outer p t.level))

pub plain_return : (p : Proc) (ts : List Ask) (selector eip : ℕ) (st : Stack) (len released : ℕ) → Plain 14 (Ordinary p.gdtr) (Returned p) ts (return_phrase p selector eip st len released)
unfolding return_phrase
plain_return p ts selector eip st len released =
    take_then p 14 (Returned p) ts return_rules (cpl_of p) false selector _ refl refl (λ us d.
    plain_if 9 (Ordinary p.gdtr) (Returned p) us (nat_lt (cpl_of p) (rpl_of selector)) _ _
    (plain_outer p us (return_target selector d eip) st len released)
    (plain_back p p us 9 (return_target selector d eip) (moved st released) (stays_same p)))

pub return_plain : (p : Proc) (ts : List Ask) (selector eip : ℕ) (st : Stack) (len released : ℕ) → Plain 14 (Ordinary p.gdtr) (Keeps p) ts (return_phrase p selector eip st len released)
unfolding Returned
return_plain p ts selector eip st len released = plain_ends 14 (Ordinary p.gdtr) (Returned p) (Keeps p) ts _ (λ us after s. keeps_stays p us after s) (plain_return p ts selector eip st len released)

-- A return, at most fourteen cycles, and what follows from the state that it leads to.
pub return_then : (p : Proc) → {B : Type 0} (n : ℕ) (ends : List Ask → B → Type 0) (ts : List Ask) (selector eip : ℕ) (st : Stack) (len released : ℕ) (f : Proc → Phrase B) → nat_le 14 n ≡ true → ((us : List Ask) (after : Proc) → Stays p after → Plain (n - 14) (Ordinary p.gdtr) ends us (f after)) → Plain n (Ordinary p.gdtr) ends ts (return_phrase p selector eip st len released >>= f)
unfolding Returned
return_then p n ends ts selector eip st len released f l k = plain_bind 14 n (Ordinary p.gdtr) (Returned p) ends ts _ f (grind (arith, l)) (plain_return p ts selector eip st len released) k
