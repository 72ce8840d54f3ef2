-- The claim of LTR, and what follows for all operations of this crate.
use Rattle.std.specs.Prelude.{is_some}
use Rattle.std.proofs.Common.{ap, sym, ◌∙◌, ◌≡◌, ℕ, zero, suc, ◌+◌, ◌-◌, ◌%◌, ◌^◌, ◌≤◌, ◌||◌, ◌==◌, ◌⊎◌, refl, arith, inl, inr, List, [], ◌∷◌, Bool, true, false, Option, Some, None, bit_or}
use Rattle.m386_base.specs.declared.ask.Ask.{Ask}
use Rattle.m386_base.specs.declared.ask.Role.TheVariants as roles
use Rattle.m386_base.specs.declared.desc.Desc.{Desc}
use Rattle.m386_base.specs.declared.fault.Fault.{Fault}
use Rattle.m386_base.specs.declared.number.Width.TheVariants.{W16}
use Rattle.m386_base.specs.Bus.{cycle_of}
use Rattle.m386_base.specs.Phrase.{Phrase, Done, Faults, Asks, Begins, ◌>>=◌}
use Rattle.m386_base.specs.Plain.{Plain}
use Rattle.m386_base.proofs.Plain.{plain_bind, plain_done, plain_ends, plain_faults, plain_if, plain_within}
use Rattle.m386_desc.specs.Selector.{is_null_selector}
use Rattle.m386_opmap.specs.declared.op.Op.{Op}
use Rattle.m386_state.specs.declared.proc.Proc.{Proc}
use Rattle.m386_state.specs.declared.segment.TableReg.{TableReg}
use Rattle.m386_state.specs.Start.{cpl_of}
use Rattle.m386_access.specs.Operands.{operands_of, value_phrase, on_one}
use Rattle.m386_access.specs.Ordinary.{Ordinary, Keeps, PlainFrom, has_role}
use Rattle.m386_access.specs.declared.operands.Operands.{Operands}
use Rattle.m386_access.specs.declared.operands.Operands.TheVariants.{Absent, One, Two, Three, Others}
use Rattle.m386_access.specs.declared.operands.Place.{Place}
use Rattle.m386_access.proofs.Phrases.{value_then, Anything}
use Rattle.m386_segload.specs.Descriptors.{descriptor_phrase, access_byte_phrase}
use Rattle.m386_segload.specs.Load.{load_global_phrase}
use Rattle.m386_segload.specs.Requirements.{is_met}
use Rattle.m386_segload.specs.Rules.{first_broken}
use Rattle.m386_segload.specs.Tables.{is_in_gdt, place_for}
use Rattle.m386_segload.proofs.Loads.{GotDesc, plain_descriptor}
use Rattle.m386_switch.specs.Ltr.{claim_found, claim_or_fault, task_fault_of, claim_task_phrase, with_task, ltr_phrase}
use Rattle.m386_system.specs.Claims.{loads_task, is_task_load, MayClaim, KeepsButClaimed}
use Rattle.m386_system.specs.Exec.{privileged_phrase, at_level_0_phrase, work_phrase, exec_phrase}
use Rattle.m386_system.specs.Task.{task_operand_phrase, load_task_phrase}
use Rattle.m386_system.specs.Work.{work_of}
use Rattle.m386_system.specs.declared.work.Privileged.{Privileged}
use Rattle.m386_system.specs.declared.work.Privileged.TheVariants as privileged
use Rattle.m386_system.specs.declared.work.Work.{Work}
use Rattle.m386_system.specs.declared.work.Work.TheVariants as kinds
use Rattle.m386_system.proofs.Plain.{work_plain}

-- what an ordinary operation may ask
plain_ordinary : {A : Type 0} (n : ℕ) (gdt : TableReg) (ends : List Ask → A → Type 0) (ts : List Ask) (t : Phrase A) → Plain n (Ordinary gdt) ends ts t → Plain n (MayClaim gdt) ends ts t
unfolding Plain
plain_ordinary n gdt ends ts (Done a) h = h
plain_ordinary n gdt ends ts (Faults f) h = tt
plain_ordinary n gdt ends ts (Begins m t) h = absurd h
plain_ordinary zero gdt ends ts (Asks q k) h = absurd h
plain_ordinary (suc n) gdt ends ts (Asks q k) h = (inl h.0, λ v. plain_ordinary n gdt ends (cycle_of q v ∷ ts) (k v) (h.1 v))

-- a selector that names no place in the GDT breaks a rule
missing_fails : (selector : ℕ) → is_some (task_fault_of selector None) ≡ true
unfolding is_met first_broken
missing_fails selector = go (is_null_selector selector) refl
  where
    go : (b : Bool) → is_null_selector selector ≡ b → is_some (task_fault_of selector None) ≡ true
    go true e = rw e refl
    go false e = rw e refl

-- the claim was made
Claimed : List Ask → Desc → Type 0
Claimed us d = has_role roles.ClaimLtr us ≡ true

one_claim : (p : Proc) (selector : ℕ) (at : ℕ) (ts : List Ask) (found : Option Desc) (first : Option Fault) → task_fault_of selector found ≡ first → Plain 1 (MayClaim p.gdtr) Claimed ts (claim_or_fault first at found)
unfolding access_byte_phrase Plain ◌>>=◌ Claimed cycle_of
one_claim p selector at ts found (Some f) e = tt
one_claim p selector at ts (Some d) None e = (inr (refl, refl), λ v. refl)
one_claim p selector at ts None None e =
    let c : false ≡ true = ap is_some (sym e) ∙ missing_fails selector in absurd cc

four_global : (p : Proc) (ts : List Ask) (selector : ℕ) → Plain 4 (Ordinary p.gdtr) Anything ts (load_global_phrase p selector roles.Gdt)
unfolding load_global_phrase
four_global p ts selector =
    plain_if 4 (Ordinary p.gdtr) Anything ts (is_in_gdt p selector) _ _
    (plain_bind 4 4 (Ordinary p.gdtr) (GotDesc (place_for p selector)) Anything ts (descriptor_phrase roles.Gdt (place_for p selector)) _ (omega arith) (plain_descriptor p.gdtr ts roles.Gdt (place_for p selector) refl) (λ us d h. plain_done 0 (Ordinary p.gdtr) Anything us _ tt))
    (plain_done 4 (Ordinary p.gdtr) Anything ts None tt)

five_claim_task : (p : Proc) (ts : List Ask) (selector : ℕ) → Plain 5 (MayClaim p.gdtr) Claimed ts (claim_task_phrase p selector)
unfolding claim_task_phrase
five_claim_task p ts selector =
    plain_bind 4 5 (MayClaim p.gdtr) Anything Claimed ts (load_global_phrase p selector roles.Gdt) _ (omega arith) (plain_ordinary 4 p.gdtr Anything ts _ (four_global p ts selector))
    (λ us found o. one_claim p selector (place_for p selector) us found (task_fault_of selector found) refl)

five_ltr : (p : Proc) (ts : List Ask) (selector : ℕ) → Plain 5 (MayClaim p.gdtr) (KeepsButClaimed p) ts (ltr_phrase p selector)
unfolding ltr_phrase Claimed
five_ltr p ts selector =
    plain_bind 5 5 (MayClaim p.gdtr) Claimed (KeepsButClaimed p) ts (claim_task_phrase p selector) _ (omega arith) (five_claim_task p ts selector)
    (λ us d c. plain_done 0 (MayClaim p.gdtr) (KeepsButClaimed p) us _ (record { tr = inr c; gdtr = inl refl; nested = λ h. inl h }))

-- a phrase with nothing behind it
plain_alone : {A : Type 0} (n : ℕ) (may : List Ask → Ask → Type 0) (ends : List Ask → A → Type 0) (ts : List Ask) (t : Phrase A) → Plain n may ends ts (t >>= Done) → Plain n may ends ts t
unfolding Plain ◌>>=◌
plain_alone n may ends ts (Done a) h = h
plain_alone n may ends ts (Faults f) h = tt
plain_alone n may ends ts (Begins m t) h = absurd h
plain_alone zero may ends ts (Asks q k) h = absurd h
plain_alone (suc n) may ends ts (Asks q k) h = (h.0, λ v. plain_alone n may ends (cycle_of q v ∷ ts) (k v) (h.1 v))

two_value : (p : Proc) (ts : List Ask) (operand : Place) → Plain 2 (Ordinary p.gdtr) Anything ts (value_phrase W16 p operand)
two_value p ts operand =
    plain_alone 2 (Ordinary p.gdtr) Anything ts (value_phrase W16 p operand) (value_then p.gdtr 2 Anything ts W16 p operand Done refl (λ us v. plain_done 0 (Ordinary p.gdtr) Anything us v tt))

seven_operand : (p : Proc) (operand : Place) → Plain 7 (MayClaim p.gdtr) (KeepsButClaimed p) [] (task_operand_phrase p operand)
unfolding task_operand_phrase
seven_operand p operand =
    plain_bind 2 7 (MayClaim p.gdtr) Anything (KeepsButClaimed p) [] (value_phrase W16 p operand) _ (omega arith) (plain_ordinary 2 p.gdtr Anything [] _ (two_value p [] operand))
    (λ us selector o. five_ltr p us (selector % 2 ^ 16))

seven_load : (p : Proc) (operands : Operands) → Plain 7 (MayClaim p.gdtr) (KeepsButClaimed p) [] (load_task_phrase p operands)
unfolding load_task_phrase
seven_load p (One operand) = seven_operand p operand
seven_load p _ = plain_faults 7 (MayClaim p.gdtr) (KeepsButClaimed p) [] _

-- what an ordinary operation keeps
keeps_more : (p : Proc) (us : List Ask) (after : Proc) → Keeps p us after → KeepsButClaimed p us after
keeps_more p us after k = record { tr = inl k.tr; gdtr = k.gdtr; nested = k.nested }

plain_claims : (p : Proc) (t : Phrase Proc) → PlainFrom 6 p t → Plain 7 (MayClaim p.gdtr) (KeepsButClaimed p) [] t
plain_claims p t h =
    plain_within 6 7 (MayClaim p.gdtr) (KeepsButClaimed p) [] t (omega arith)
    (plain_ordinary 6 p.gdtr (KeepsButClaimed p) [] t (plain_ends 6 (Ordinary p.gdtr) (Keeps p) (KeepsButClaimed p) [] t (keeps_more p) h))

at_level_0_claims : (op : Op) (p : Proc) → Plain 7 (MayClaim p.gdtr) (KeepsButClaimed p) [] (at_level_0_phrase privileged.LoadTask op p)
unfolding at_level_0_phrase
at_level_0_claims op p = plain_if 7 (MayClaim p.gdtr) (KeepsButClaimed p) [] (cpl_of p == 0) _ _ (seven_load p (operands_of op)) (plain_faults 7 (MayClaim p.gdtr) (KeepsButClaimed p) [] _)

work_claims : (work : Option Work) (op : Op) (p : Proc) → Plain 7 (MayClaim p.gdtr) (KeepsButClaimed p) [] (work_phrase work op p)
work_claims (Some (kinds.Privileged privileged.LoadTask)) op p = at_level_0_claims op p
work_claims work op p = plain_claims p _ (work_plain work op p refl)

pub exec_claims : (op : Op) (p : Proc) → Plain 7 (MayClaim p.gdtr) (KeepsButClaimed p) [] (exec_phrase op p)
unfolding exec_phrase
exec_claims op p = work_claims (work_of op.name op.args.items) op p
