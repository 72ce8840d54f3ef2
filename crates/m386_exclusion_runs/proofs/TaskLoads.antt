-- LTR: what it reads and claims, in its stages.
use Rattle.std.proofs.Common.{◌≡◌, ℕ, ◌%◌, ◌^◌, ◌∙◌, inl, if◌then◌else◌, refl, sym, ap, subst, List, [], ◌∷◌, Bool, true, false, not, Option, Some, None, bit_or, ◌==◌}
use Rattle.std.proofs.lemmas.Bool.{and_parts, not-true}
use Rattle.m386_base.specs.declared.ask.Ask.{Ask}
use Rattle.m386_base.specs.declared.ask.Role.TheVariants as roles
use Rattle.m386_base.specs.declared.desc.Desc.{Desc}
use Rattle.m386_base.specs.declared.fault.Fault.{Fault}
use Rattle.m386_base.specs.declared.number.Width.TheVariants.{W16}
use Rattle.m386_base.specs.Bus.{cycle_of}
use Rattle.m386_base.specs.Laws.{Turns}
use Rattle.m386_base.specs.Phrase.{Done, ◌>>=◌}
use Rattle.m386_base.proofs.Plain.{plain_done}
use Rattle.m386_checks.specs.Descriptor.{is_marked}
use Rattle.m386_desc.specs.Access.{is_present}
use Rattle.m386_desc.specs.Selector.{is_null_selector, names_ldt, is_in_table, place_in, code_of}
use Rattle.m386_opmap.specs.declared.op.Op.{Op}
use Rattle.m386_state.specs.declared.proc.Proc.{Proc}
use Rattle.m386_state.specs.Start.{cpl_of}
use Rattle.m386_access.specs.Access.{write_ask}
use Rattle.m386_access.specs.Operands.{operands_of, value_phrase}
use Rattle.m386_access.specs.Ordinary.{Ordinary, NamesGdt, IsByteWritten, desc_byte}
use Rattle.m386_access.specs.declared.operands.Operands.{Operands}
use Rattle.m386_access.specs.declared.operands.Operands.TheVariants.{One}
use Rattle.m386_access.specs.declared.operands.Place.{Place}
use Rattle.m386_access.proofs.Phrases.{Anything, value_then}
use Rattle.m386_segload.specs.declared.rules.Candidate.{Candidate}
use Rattle.m386_segload.specs.declared.rules.Rule.{Rule}
use Rattle.m386_segload.specs.Descriptors.{descriptor_phrase, access_byte_phrase}
use Rattle.m386_segload.specs.Load.{load_global_phrase, candidate_for}
use Rattle.m386_segload.specs.Requirements.{is_met}
use Rattle.m386_segload.specs.Rules.{broken, first_broken}
use Rattle.m386_segload.specs.Tables.{held, base_of_ldt, is_in_gdt, place_for}
use Rattle.m386_stages.specs.Stages.{Stage, Free, Loaded, Task, Claims_ltr, Keeps, MayNest, EndsIn, on, shut, task_of}
use Rattle.m386_stages.proofs.Chains.{turns_then, keeps_then, keeps_done, keeps_if}
use Rattle.m386_stages.proofs.Claimed.{Looked, looked, free_byte, task_in}
use Rattle.m386_stages.proofs.OneByte.{byte_written, set_busy}
use Rattle.m386_stages.proofs.Words.{GotDesc, keeps_descriptor}
use Rattle.m386_switch.specs.Ltr.{claim_or_fault, task_fault_of, claim_task_phrase, with_task, ltr_phrase}
use Rattle.m386_switch.specs.Parts.{access_piece}
use Rattle.m386_system.specs.Exec.{at_level_0_phrase}
use Rattle.m386_system.specs.Task.{task_operand_phrase, load_task_phrase}
use Rattle.m386_system.specs.declared.work.Privileged.TheVariants.{LoadTask}
use Rattle.m386_exclusion.specs.Histories.{Stands}
use Rattle.m386_exclusion_runs.proofs.Ordinary.{Behind, StandsBefore, before_stands, front_turns, turns_done, turns_faults, turns_if, turns_soundly}

-- ---- what is read

-- a selector that has its place in the GDT
names_gdt : (p : Proc) (selector : ℕ) → is_in_gdt p selector ≡ true → NamesGdt p.gdtr selector
names_gdt p selector e =
    let some = and_parts (not (is_null_selector selector)) _ e in
    let rest = and_parts (not (names_ldt selector)) (is_in_table selector p.gdtr.limit) some.1 in
    record { some = not-true _ some.0; table = not-true _ rest.0; inside = rest.1 }

place_is : (p : Proc) (selector : ℕ) → NamesGdt p.gdtr selector → place_for p selector ≡ place_in p.gdtr.base selector
place_is p selector n = ap (λ b. place_in (if b then base_of_ldt (held p.ldtr) else p.gdtr.base) selector) n.table

-- a descriptor was looked at in the GDT, or none is there
Found : Proc → ℕ → Stage → Stage → Option Desc → Type 0
Found p selector g g2 None = g2.phase ≡ g.phase
Found p selector g g2 (Some d) = NamesGdt p.gdtr selector × Looked p.gdtr selector g g2 d

keeps_load : (p : Proc) (selector : ℕ) (g : Stage) → Keeps p.gdtr (Found p selector g) g (load_global_phrase p selector roles.Gdt)
unfolding load_global_phrase Found
keeps_load p selector g =
    keeps_if p.gdtr (Found p selector g) g (is_in_gdt p selector) (descriptor_phrase roles.Gdt (place_for p selector) >>= (λ d. Done (Some d))) (Done None)
    (λ e.
    let n : NamesGdt p.gdtr selector = names_gdt p selector e in
    subst (λ at. Keeps p.gdtr (Found p selector g) g (descriptor_phrase roles.Gdt at >>= (λ d. Done (Some d)))) (sym (place_is p selector n))
    (keeps_then p.gdtr (GotDesc g (place_in p.gdtr.base selector)) (Found p selector g) g (descriptor_phrase roles.Gdt (place_in p.gdtr.base selector)) _ (keeps_descriptor p.gdtr g roles.Gdt (place_in p.gdtr.base selector))
    (λ d g1 h. keeps_done p.gdtr (Found p selector g) g1 (Some d) (n, looked p.gdtr selector g g1 d h))))
    (λ e. keeps_done p.gdtr (Found p selector g) g None refl)

-- ---- the rules

-- where no rule of a table is broken, its first one is met
unbroken : (r : Rule) (rules : List Rule) (c : Candidate) → first_broken (r ∷ rules) c ≡ None → (is_met r.requirement c ≡ true) × (first_broken rules c ≡ None)
unfolding first_broken
unbroken r rules c h = go (is_met r.requirement c) refl
  where
    go : (b : Bool) → is_met r.requirement c ≡ b → (is_met r.requirement c ≡ true) × (first_broken rules c ≡ None)
    go true e = (e, rw e at h)
    go false e = let d : Some (broken r c) ≡ None = rw e at h in absurd cc

-- the third and the fourth rule of LTR
marked_task : (selector : ℕ) (d : Desc) → task_fault_of selector (Some d) ≡ None → (is_marked false d ≡ true) × (is_present d ≡ true)
unfolding is_met
marked_task selector d h =
    let r1 = unbroken _ _ (candidate_for 0 (code_of selector false) selector (Some d)) h in
    let r2 = unbroken _ _ (candidate_for 0 (code_of selector false) selector (Some d)) r1.1 in
    let r3 = unbroken _ _ (candidate_for 0 (code_of selector false) selector (Some d)) r2.1 in
    let r4 = unbroken _ _ (candidate_for 0 (code_of selector false) selector (Some d)) r3.1 in
    (r3.0, r4.0)

-- the second one
some_task : (selector : ℕ) → task_fault_of selector None ≡ None → ⊥
unfolding is_met
some_task selector h =
    let r1 = unbroken _ _ (candidate_for 0 (code_of selector false) selector None) h in
    let r2 = unbroken _ _ (candidate_for 0 (code_of selector false) selector None) r1.1 in
    let c : false ≡ true = r2.0 in absurd cc

-- ---- the claim

-- what is claimed is a task with the descriptor that was read
Held : Proc → Bool → ℕ → Stage → Desc → Type 0
Held p nt selector g d = g.phase ≡ Loaded (task_in selector d) nt

claim_turns : (p : Proc) (nt : Bool) (selector : ℕ) (g0 g : Stage) (d : Desc) → g0.phase ≡ Free (task_of p.tr) nt → NamesGdt p.gdtr selector → Looked p.gdtr selector g0 g d → (is_marked false d ≡ true) × (is_present d ≡ true) → Turns (on p.gdtr) (Held p nt selector) (StandsBefore p) g (access_byte_phrase roles.ClaimLtr (place_in p.gdtr.base selector) (bit_or d.access 2) >>= (λ _. Done d))
unfolding Turns ◌>>=◌ cycle_of access_byte_phrase Held
claim_turns p nt selector g0 g d e names h m = λ v.
    let t : Task = task_in selector d in
    let c : Ask = write_ask roles.ClaimLtr true (access_piece (place_in p.gdtr.base selector)) (bit_or d.access 2) in
    let w : IsByteWritten c roles.ClaimLtr (desc_byte p.gdtr selector 5) (bit_or d.access 2) = byte_written p.gdtr roles.ClaimLtr selector (bit_or d.access 2) (bit_or d.access 2) (set_busy d.access h.small) in (
      shut g (Loaded t nt),
      Claims_ltr (task_of p.tr) nt t (h.phase ∙ e) (record { b = d.access; names = names; read = h.byte; free = free_byte d h.small m.0 m.1; base = h.base; written = w }) refl,
      refl,
    )

judged_turns : (p : Proc) (nt : Bool) (selector : ℕ) (g0 g : Stage) (found : Option Desc) (first : Option Fault) → g0.phase ≡ Free (task_of p.tr) nt → MayNest p nt → Found p selector g0 g found → task_fault_of selector found ≡ first → Turns (on p.gdtr) (Held p nt selector) (StandsBefore p) g (claim_or_fault first (place_for p selector) found)
unfolding Found
judged_turns p nt selector g0 g None (Some x) e m f i = turns_faults _ (on p.gdtr) (Held p nt selector) (StandsBefore p) g x (subst (EndsIn p) (sym (f ∙ e)) (refl, m))
judged_turns p nt selector g0 g (Some d) (Some x) e m f i = turns_faults _ (on p.gdtr) (Held p nt selector) (StandsBefore p) g x (subst (EndsIn p) (sym (f.1.phase ∙ e)) (refl, m))
judged_turns p nt selector g0 g None None e m f i = absurd (some_task selector i)
judged_turns p nt selector g0 g (Some d) None e m f i =
    subst (λ at. Turns (on p.gdtr) (Held p nt selector) (StandsBefore p) g (access_byte_phrase roles.ClaimLtr at (bit_or d.access 2) >>= (λ _. Done d))) (sym (place_is p selector f.0)) (claim_turns p nt selector g0 g d e f.0 f.1 (marked_task selector d i))

-- TR names the task that was claimed
loaded_stands : (p : Proc) (nt : Bool) (selector : ℕ) (g : Stage) (d : Desc) → MayNest p nt → Held p nt selector g d → Stands p g (with_task p selector d)
unfolding Held
loaded_stands p nt selector g d m e = record { phase = subst (EndsIn (with_task p selector d)) (sym e) (refl, m); gdtr = inl refl }

ltr_turns : (p : Proc) (nt : Bool) (selector : ℕ) (g : Stage) → g.phase ≡ Free (task_of p.tr) nt → MayNest p nt → Turns (on p.gdtr) (Stands p) (StandsBefore p) g (ltr_phrase p selector)
unfolding ltr_phrase claim_task_phrase Keeps
ltr_turns p nt selector g e m =
    turns_then (on p.gdtr) (Held p nt selector) (Stands p) (StandsBefore p) g (claim_task_phrase p selector) _
    (turns_then (on p.gdtr) (Found p selector g) (Held p nt selector) (StandsBefore p) g (load_global_phrase p selector roles.Gdt) _ (turns_soundly (on p.gdtr) (Found p selector g) (StandsBefore p) g _ (keeps_load p selector g))
    (λ found g2 f. judged_turns p nt selector g g2 found (task_fault_of selector found) e m f refl))
    (λ d g2 h. turns_done (on p.gdtr) (Stands p) (StandsBefore p) g2 _ (loaded_stands p nt selector g2 d m h))

-- ---- the operand in front

operand_turns : (p : Proc) (g : Stage) (operand : Place) → Behind p [] g → Turns (on p.gdtr) (Stands p) (StandsBefore p) g (task_operand_phrase p operand)
unfolding task_operand_phrase
operand_turns p g operand h =
    turns_then (on p.gdtr) (λ g2 v. (us : List Ask) × Behind p us g2) (Stands p) (StandsBefore p) g (value_phrase W16 p operand) _
    (front_turns 2 p Anything [] g (value_phrase W16 p operand) Done h (value_then p.gdtr 2 Anything [] W16 p operand Done refl (λ us v. plain_done 0 (Ordinary p.gdtr) Anything us v tt)))
    (λ v g2 b. ltr_turns p b.1.nt (v % 2 ^ 16) g2 b.1.phase b.1.nested)

load_turns : (p : Proc) (g : Stage) (operands : Operands) → Behind p [] g → Turns (on p.gdtr) (Stands p) (StandsBefore p) g (load_task_phrase p operands)
unfolding load_task_phrase
load_turns p g (One operand) h = operand_turns p g operand h
load_turns p g _ h = turns_faults _ (on p.gdtr) (Stands p) (StandsBefore p) g _ (before_stands p [] g h)

-- LTR.
pub task_load_turns : (op : Op) (p : Proc) (g : Stage) → Behind p [] g → Turns (on p.gdtr) (Stands p) (StandsBefore p) g (at_level_0_phrase LoadTask op p)
unfolding at_level_0_phrase
task_load_turns op p g h =
    turns_if (on p.gdtr) (Stands p) (StandsBefore p) g (cpl_of p == 0) _ _ (λ e. load_turns p g (operands_of op) h)
    (λ e. turns_faults _ (on p.gdtr) (Stands p) (StandsBefore p) g _ (before_stands p [] g h))
