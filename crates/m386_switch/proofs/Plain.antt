-- What a change of the stack owes: at most nine cycles, each an ordinary one.
use Rattle.std.proofs.Common.{◌≡◌, ℕ, ◌+◌, ◌*◌, ◌-◌, ◌%◌, ◌^◌, List, [], ◌∷◌, Bool, true, length, refl, arith, nat_le}
use Rattle.m386_base.specs.declared.ask.Ask.{Ask}
use Rattle.m386_base.specs.declared.ask.Role.{Role}
use Rattle.m386_base.specs.declared.ask.Role.TheVariants as roles
use Rattle.m386_base.specs.declared.split.Piece.{Piece}
use Rattle.m386_base.specs.Phrase.{Phrase, ◌>>=◌}
use Rattle.m386_base.specs.Plain.{Plain}
use Rattle.m386_base.proofs.Plain.{plain_bind, plain_done, plain_within}
use Rattle.m386_state.specs.declared.proc.Proc.{Proc}
use Rattle.m386_state.specs.declared.segment.TableReg.{TableReg}
use Rattle.m386_tss.specs.Fields.{field_at}
use Rattle.m386_access.specs.Access.{memory_pieces}
use Rattle.m386_access.specs.Ordinary.{Ordinary, Reads, is_read_role}
use Rattle.m386_access.proofs.Phrases.{Anything, few_pieces}
use Rattle.m386_segload.specs.Rules.{first_broken, task_stack_rules, inner_stack_rules}
use Rattle.m386_segload.proofs.Loads.{plain_need, take_then}
use Rattle.m386_switch.specs.Fields.{field_reads, field_phrase}
use Rattle.m386_switch.specs.Inner.{task_candidate, named_inner_phrase, inner_fields_phrase, inner_phrase}
use Rattle.m386_switch.specs.declared.inner.InnerStack.{InnerStack}

all_reads : (gdt : TableReg) (role : Role) (number : ℕ) (ps : List Piece) (value : ℕ) (ts : List Ask) → is_read_role role ≡ true → Plain (length ps) (Ordinary gdt) Anything ts (field_reads role number value ps)
unfolding field_reads ◌>>=◌ Plain
all_reads gdt role number [] value ts h = tt
all_reads gdt role number (p ∷ ps) value ts h = (Reads refl h refl, λ v. all_reads gdt role number ps _ _ h)

two_field : (gdt : TableReg) (role : Role) (base number : ℕ) (ts : List Ask) → is_read_role role ≡ true → Plain 2 (Ordinary gdt) Anything ts (field_phrase role base number)
unfolding field_phrase
two_field gdt role base number ts h =
    let at = (base + (field_at number).offset) % 2 ^ 32 in
    let ps = memory_pieces at (field_at number).len in
    plain_within _ 2 (Ordinary gdt) Anything ts (field_reads role number 0 ps) (few_pieces at (field_at number).len) (all_reads gdt role number ps 0 ts h)

-- A field that an ordinary operation may read, at most two cycles, and what follows.
pub field_then : (gdt : TableReg) → {B : Type 0} (n : ℕ) (ends : List Ask → B → Type 0) (ts : List Ask) (role : Role) (base number : ℕ) (f : ℕ → Phrase B) → nat_le 2 n ≡ true → is_read_role role ≡ true → ((us : List Ask) (v : ℕ) → Plain (n - 2) (Ordinary gdt) ends us (f v)) → Plain n (Ordinary gdt) ends ts (field_phrase role base number >>= f)
field_then gdt n ends ts role base number f l h k = plain_bind 2 n (Ordinary gdt) Anything ends ts _ f (grind (arith, l)) (two_field gdt role base number ts h) (λ us v o. k us v)

five_named : (p : Proc) (ts : List Ask) (level : ℕ) (ext : Bool) (esp ss : ℕ) → Plain 5 (Ordinary p.gdtr) Anything ts (named_inner_phrase p level ext esp ss)
unfolding named_inner_phrase
five_named p ts level ext esp ss = take_then p 5 Anything ts inner_stack_rules level ext ss _ refl refl (λ us d. plain_done 0 (Ordinary p.gdtr) Anything us _ tt)

nine_fields : (p : Proc) (ts : List Ask) (level : ℕ) (ext : Bool) → Plain 9 (Ordinary p.gdtr) Anything ts (inner_fields_phrase p level ext)
unfolding inner_fields_phrase
nine_fields p ts level ext =
    field_then p.gdtr 9 Anything ts roles.Inner p.tr.desc.base (1 + 2 * level) _ refl refl (λ us esp.
    field_then p.gdtr 7 Anything us roles.Inner p.tr.desc.base (2 + 2 * level) _ refl refl (λ vs ss.
    five_named p vs level ext esp (ss % 2 ^ 16)))

pub plain_inner : (p : Proc) (ts : List Ask) (level : ℕ) (ext : Bool) → Plain 9 (Ordinary p.gdtr) Anything ts (inner_phrase p level ext)
unfolding inner_phrase
plain_inner p ts level ext = plain_need p.gdtr 9 Anything ts (first_broken task_stack_rules (task_candidate p level ext)) _ (nine_fields p ts level ext)

-- A change to an inner stack, at most nine cycles, and what follows.
pub inner_then : (p : Proc) → {B : Type 0} (n : ℕ) (ends : List Ask → B → Type 0) (ts : List Ask) (level : ℕ) (ext : Bool) (f : InnerStack → Phrase B) → nat_le 9 n ≡ true → ((us : List Ask) (stack : InnerStack) → Plain (n - 9) (Ordinary p.gdtr) ends us (f stack)) → Plain n (Ordinary p.gdtr) ends ts (inner_phrase p level ext >>= f)
inner_then p n ends ts level ext f l k = plain_bind 9 n (Ordinary p.gdtr) Anything ends ts _ f (grind (arith, l)) (plain_inner p ts level ext) (λ us stack o. k us stack)
