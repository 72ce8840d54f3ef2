-- What the turns of a machine do to the numbers of its processors' cycles.
use Rattle.std.proofs.Common.{◌≡◌, ◌≢◌, ℕ, suc, ◌+◌, ◌-◌, ◌*◌, ◌^◌, ◌<◌, ◌≤◌, ◌⊎◌, inl, inr, Bool, true, false, not, cond, eqb, List, [], ◌∷◌, ◌++◌, length, map, filter, get_or, set, refl, sym, ap, subst, ◌∙◌, arith, append-nil, ◌↔◌, Result, Ok, Err, Option, None, Some, eq-eqb}
use Rattle.std.specs.List.{AllByRecursion}
use Rattle.std.specs.Option.{is_some}
use Rattle.std.specs.Result.{OnErr}
use Rattle.std.proofs.Math.Nat.{mul-le-mul_left}
use Rattle.std.proofs.lemmas.Bool.{cases_eq}
use Rattle.std.proofs.lemmas.List.{length-append, get_or-set_same, get_or-set_other}
use Rattle.m386_base.specs.declared.ask.Ask.{Ask}
use Rattle.m386_base.specs.declared.ask.Cycle.{Cycle}
use Rattle.m386_base.specs.declared.fault.NoMemory.{NoMemory}
use Rattle.m386_image.specs.declared.image.Image.{Image}
use Rattle.m386_image.proofs.Valid.{valid_cpus}
use Rattle.m386_memory.specs.Contents.{Contents}
use Rattle.m386_memory.specs.History.{cycles_of}
use Rattle.m386_memory.specs.declared.ended.ProcEnd.{ProcEnd}
use Rattle.m386_state.specs.declared.proc.Proc.{Proc}
use Rattle.m386_memory.proofs.Histories.{cycles_of-append}
use Rattle.m386_turns.specs.Turns.{IsLawful, Stays, TakesTurn}
use Rattle.m386_turns.specs.declared.turns.Turn.{Turn}
use Rattle.m386_turns.specs.declared.turns.Turn.TheVariants as turns
use Rattle.m386_core.specs.Counting.{made_by, IsCounted}
use Rattle.m386_core.specs.declared.unfinished.Unfinished.{Unfinished}
use Rattle.m386_core.specs.Kept.{IsKept}
use Rattle.m386_core.specs.Plans.{entries_left}
use Rattle.m386_core.specs.Machine.{MachineView, IsMachine, SameMachine, PassesOver, HasAmidGroup, MakesGroup}
use Rattle.m386_core.specs.Place.{HasFinished}
use Rattle.m386_core.proofs.Groups.{awaits_not_finished}
use Rattle.m386_core.proofs.Keeping.{finished_at, parts_of, waits_at, waits_as}
use Rattle.m386_core.proofs.Lengths.{front_length}

-- ---- the cycles of one processor

-- cycles of another
none_of_other : (p q : ℕ) (H : List Cycle) → p ≢ q → AllByRecursion (λ (x : Cycle). x.cpu ≡ q) H → cycles_of p H ≡ []
none_of_other p q [] other h = refl
none_of_other p q (x ∷ H) other h = go (eqb x.cpu p) refl (none_of_other p q H other h.1)
  where
    go : (b : Bool) → eqb x.cpu p ≡ b → cycles_of p H ≡ [] → map (λ (c : Cycle). c.ask) (cond b (x ∷ filter (λ (c : Cycle). eqb c.cpu p) H) (filter (λ (c : Cycle). eqb c.cpu p) H)) ≡ []
    go true e ih = let i : x.cpu ≡ p = grind (arith, e) in absurd (other (sym i ∙ h.0))
    go false e ih = ih

-- its own cycles
all_of_own : (p : ℕ) (H : List Cycle) → AllByRecursion (λ (x : Cycle). x.cpu ≡ p) H → length (cycles_of p H) ≡ length H
all_of_own p [] h = refl
all_of_own p (x ∷ H) h = go (eqb x.cpu p) (eq-eqb x.cpu p h.0) (all_of_own p H h.1)
  where
    go : (b : Bool) → b ≡ true → length (cycles_of p H) ≡ length H → length (map (λ (c : Cycle). c.ask) (cond b (x ∷ filter (λ (c : Cycle). eqb c.cpu p) H) (filter (λ (c : Cycle). eqb c.cpu p) H))) ≡ suc (length H)
    go true e ih = ap suc ih
    go false e ih = cc

pub no_more_than_all : (p : ℕ) (H : List Cycle) → length (cycles_of p H) ≤ length H
no_more_than_all p [] = omega arith
no_more_than_all p (x ∷ H) = go (eqb x.cpu p) (no_more_than_all p H)
  where
    go : (b : Bool) → length (cycles_of p H) ≤ length H → length (map (λ (c : Cycle). c.ask) (cond b (x ∷ filter (λ (c : Cycle). eqb c.cpu p) H) (filter (λ (c : Cycle). eqb c.cpu p) H))) ≤ suc (length H)
    go true ih = omega arith
    go false ih = omega arith

-- ---- what a group adds

all_own : (cpu : ℕ) (others : List Cycle) → AllByRecursion (λ (x : Cycle). (x.cpu ≡ cpu) × (x.ask.joined ≡ true)) others → AllByRecursion (λ (x : Cycle). x.cpu ≡ cpu) others
all_own cpu [] h = tt
all_own cpu (x ∷ others) h = (h.0.0, all_own cpu others h.1)

-- the cycles that a turn of one processor added, if any, are its own
pub record Adds (cpu : ℕ) (old new : MachineView) : Type 0 where
  pub same : SameMachine old new
  pub more : List Cycle
  pub cycles : new.log.cycles ≡ old.log.cycles ++ more
  pub own : AllByRecursion (λ (x : Cycle). x.cpu ≡ cpu) more

same_itself : (m : MachineView) → SameMachine m m
same_itself m = record { image = refl; cpus = refl; budget = refl; first = refl }

pub adds_none : (cpu : ℕ) (old new : MachineView) → new ≡ old → Adds cpu old new
adds_none cpu old new e = rw e (record { same = same_itself old; more = []; cycles = sym (append-nil old.log.cycles); own = tt })

pub adds_group : (cpu : ℕ) (old new : MachineView) → MakesGroup cpu old new → Adds cpu old new
adds_group cpu old new m = record { same = m.same; more = m.first ∷ m.others; cycles = m.cycles; own = (m.by, all_own cpu m.others m.joined) }

-- whatever a turn came to, it added cycles of its processor
pub adds_any : (cpu : ℕ) (old new : MachineView) (came : Result Turn NoMemory) → (came ≡ Ok turns.PassedOver → new ≡ old) → (came ≡ Ok turns.Made → MakesGroup cpu old new) → OnErr came ((new ≡ old) ⊎ MakesGroup cpu old new) → Adds cpu old new
adds_any cpu old new (Ok turns.Made) passed made err = adds_group cpu old new (made refl)
adds_any cpu old new (Ok turns.PassedOver) passed made err = adds_none cpu old new (passed refl)
adds_any cpu old new (Err e) passed made (inl same) = adds_none cpu old new same
adds_any cpu old new (Err e) passed made (inr group) = adds_group cpu old new group

made_more : (cpu : ℕ) (old new : MachineView) → (a : Adds cpu old new) → made_by new cpu ≡ made_by old cpu + length a.more
made_more cpu old new a =
    ap (λ (H : List Cycle). length (cycles_of cpu H)) a.cycles ∙ ap length (cycles_of-append cpu old.log.cycles a.more) ∙ length-append (cycles_of cpu old.log.cycles) (cycles_of cpu a.more) ∙ ap (λ n. made_by old cpu + n) (all_of_own cpu a.more a.own)

cycles_same : (cpu p : ℕ) (old new : MachineView) → Adds cpu old new → p ≢ cpu → cycles_of p new.log.cycles ≡ cycles_of p old.log.cycles
cycles_same cpu p old new a other =
    ap (cycles_of p) a.cycles ∙ cycles_of-append p old.log.cycles a.more ∙ ap (λ (l : List Ask). cycles_of p old.log.cycles ++ l) (none_of_other p cpu a.more other a.own) ∙ append-nil (cycles_of p old.log.cycles)

-- how many cycles were added in all
pub added : (cpu : ℕ) (old new : MachineView) → (a : Adds cpu old new) → length new.log.cycles ≡ length old.log.cycles + length a.more
added cpu old new a = ap length a.cycles ∙ length-append old.log.cycles a.more

-- the numbers behind a turn
pub counted_more : (cpu n before after : ℕ) (old new : MachineView) (made : List ℕ) → IsCounted old made → Adds cpu old new → cpu < 8 → length made ≡ 8 → before ≡ length old.log.cycles → after ≡ length new.log.cycles → n ≡ get_or made cpu 0 + (after - before) → IsCounted new (set made cpu n)
counted_more cpu n before after old new made h a lt count b e is = record {
  few = rw a.same.cpus h.few;
  counts = λ p below. elim (cases_eq p cpu) [
    | inl same ↦
        let own : get_or (set made cpu n) p 0 ≡ n = rw same (get_or-set_same made cpu n 0 (omega (arith, count))) in
        let c : made_by new p ≡ made_by old cpu + length a.more = ap (made_by new) same ∙ made_more cpu old new a in
        omega (arith, own, c, is, h.counts cpu lt, added cpu old new a, b, e)
    | inr other ↦ get_or-set_other made cpu p n 0 other ∙ h.counts p below ∙ sym (ap length (cycles_same cpu p old new a other))
  ];
}

-- ---- what turns say of them

pub lawful_groups : (m : MachineView) → ((j k : ℕ) → HasAmidGroup m j → HasAmidGroup m k → j ≡ k) → IsLawful m.cpus (λ p. HasFinished m.image m.budget m.log.cycles p) (HasAmidGroup m)
lawful_groups m one = record {
  below = λ k a. a.0;
  unfinished = λ k a d. awaits_not_finished m.image m.budget m.log.cycles k a.1.0 a.1.1 d;
  alone = one;
}

some_same : (j k : ℕ) → ◌≡◌ {A = Option ℕ} (Some j) (Some k) → j ≡ k
some_same j k e = cc

pub one_amid : (m : MachineView) (named : Option ℕ) → ((q : ℕ) → (named ≡ Some q) ↔ HasAmidGroup m q) → (j k : ℕ) → HasAmidGroup m j → HasAmidGroup m k → j ≡ k
one_amid m named h j k a b = some_same j k (sym ((h j).1 a) ∙ (h k).1 b)

-- who has finished has, behind a turn of one that hadn't
still_done : (cpu : ℕ) (old new : MachineView) → Adds cpu old new → (HasFinished old.image old.budget old.log.cycles cpu → ⊥) → (p : ℕ) → HasFinished old.image old.budget old.log.cycles p → HasFinished new.image new.budget new.log.cycles p
still_done cpu old new a lives p d = elim (cases_eq p cpu) [
  | inl same ↦ absurd (lives (subst (λ (q : ℕ). HasFinished old.image old.budget old.log.cycles q) same d))
  | inr other ↦ (d.0, rw (a.same.image, a.same.budget, cycles_same cpu p old new a other) d.1)
]

no_fewer : (cpu : ℕ) (old new : MachineView) → Adds cpu old new → (p : ℕ) → made_by old p ≤ made_by new p
no_fewer cpu old new a p = elim (cases_eq p cpu) [
  | inl same ↦ rw same (omega (arith, made_more cpu old new a))
  | inr other ↦ omega (arith, ap length (cycles_same cpu p old new a other))
]

abbrev count_of : MachineView → ℕ
count_of m = m.cpus

abbrev done_of : MachineView → ℕ → Type 0
done_of m p = HasFinished m.image m.budget m.log.cycles p

stays_same : (old new : MachineView) → new ≡ old → Stays count_of done_of made_by old new
stays_same old new e = rw e (record { same_count = refl; still_done = λ k d. d; no_fewer = λ k. omega arith })

stays_more : (cpu : ℕ) (old new : MachineView) → Adds cpu old new → (PassesOver old cpu → ⊥) → Stays count_of done_of made_by old new
stays_more cpu old new a lives = record {
  same_count = a.same.cpus;
  still_done = still_done cpu old new a (λ d. lives (inl d));
  no_fewer = no_fewer cpu old new a;
}

made_is_not_passed : ◌≡◌ {A = Result Turn NoMemory} (Ok turns.Made) (Ok turns.PassedOver) → ⊥
made_is_not_passed e = cc

err_is_not_passed : (e : NoMemory) → ◌≡◌ {A = Result Turn NoMemory} (Err e) (Ok turns.PassedOver) → ⊥
err_is_not_passed e h = cc

pub turn_stays : (cpu : ℕ) (old new : MachineView) (came : Result Turn NoMemory) → ((came ≡ Ok turns.PassedOver) ↔ PassesOver old cpu) → (came ≡ Ok turns.PassedOver → new ≡ old) → Adds cpu old new → Stays count_of done_of made_by old new
turn_stays cpu old new (Ok turns.Made) p same a = stays_more cpu old new a (λ h. made_is_not_passed (p.1 h))
turn_stays cpu old new (Ok turns.PassedOver) p same a = stays_same old new (same refl)
turn_stays cpu old new (Err e) p same a = stays_more cpu old new a (λ h. err_is_not_passed e (p.1 h))

-- one that is passed over isn't amid a group itself
passed_other : (cpu : ℕ) (m : MachineView) → PassesOver m cpu → ((j k : ℕ) → HasAmidGroup m j → HasAmidGroup m k → j ≡ k) → HasAmidGroup m cpu → ⊥
passed_other cpu m (inl d) one a = awaits_not_finished m.image m.budget m.log.cycles cpu a.1.0 a.1.1 d
passed_other cpu m (inr h) one a = h.1 (one h.0 cpu h.2 a)

made_some : (cpu : ℕ) (old new : MachineView) → MakesGroup cpu old new → made_by old cpu < made_by new cpu
unfolding adds_group
made_some cpu old new m =
    let l : made_by new cpu ≡ made_by old cpu + suc (length m.others) = made_more cpu old new (adds_group cpu old new m) in
    omega (arith, l)

pub turn_taken : (cpu : ℕ) (old new : MachineView) (came : Result Turn NoMemory) → ((j k : ℕ) → HasAmidGroup old j → HasAmidGroup old k → j ≡ k) → ((came ≡ Ok turns.PassedOver) ↔ PassesOver old cpu) → (came ≡ Ok turns.PassedOver → new ≡ old) → (came ≡ Ok turns.Made → MakesGroup cpu old new) → (came ≡ Ok turns.Made → (q : ℕ) → HasAmidGroup new q → ⊥) → TakesTurn done_of HasAmidGroup made_by cpu old new came
turn_taken cpu old new (Ok turns.Made) one p same made closed = record {
  unfinished = λ d. made_is_not_passed (p.1 (inl d));
  free = λ h. made_is_not_passed (p.1 (inr h));
  more = made_some cpu old new (made refl);
  whole = closed refl;
}
turn_taken cpu old new (Ok turns.PassedOver) one p same made closed = record { same = same refl; why = p.0 refl; other = passed_other cpu old (p.0 refl) one }
turn_taken cpu old new (Err e) one p same made closed = tt

-- ---- how many cycles there may be

pub few_cycles : (m : MachineView) → IsMachine m → length m.log.cycles < 2 ^ 32
few_cycles m k =
    let l : length m.log.cycles ≤ 192 * m.budget * m.cpus = front_length m.image m.cpus m.budget m.log.first m.log.cycles m.ends k.front in
    let c : m.cpus ≤ 8 = omega (arith, k.most, (valid_cpus m.image k.valid).1) in
    let t : 192 * m.budget * m.cpus ≤ 192 * m.budget * 8 = mul-le-mul_left (192 * m.budget) c in
    omega (arith, l, t, k.budget)

-- the number of a processor's cycles behind a turn is one of 32 bits
pub count_fits : (cpu before after : ℕ) (old new : MachineView) (made : List ℕ) → IsCounted old made → Adds cpu old new → cpu < 8 → before ≡ length old.log.cycles → after ≡ length new.log.cycles → IsMachine new → get_or made cpu 0 + (after - before) < 2 ^ 32
count_fits cpu before after old new made h a lt b e k =
    omega (arith, h.counts cpu lt, made_more cpu old new a, added cpu old new a, b, e, no_more_than_all cpu new.log.cycles, few_cycles new k)

-- ---- who has finished

not_false : (b : Bool) → not b ≡ false → b ≡ true
not_false true e = refl
not_false false e = cc

not_true : (b : Bool) → not b ≡ true → b ≡ false
not_true true e = cc
not_true false e = refl

-- a processor has finished exactly where it asks for nothing next
pub finished_by_none : (I : Image) (c n : ℕ) (first : Contents) (H : List Cycle) (E : List (ProcEnd Proc)) (unfinished : List Unfinished) (midgroup : Option ℕ) → IsKept I c n first H E unfinished midgroup → (p : ℕ) (t : Unfinished) → p < c → get_or unfinished p t ≡ t → (b : Bool) → is_some t.next ≡ not b → (b ≡ true) ↔ HasFinished I n H p
finished_by_none I c n first H E unfinished midgroup k p t lt is b e = go t.next refl
  where
    go : (next : Option Ask) → t.next ≡ next → (b ≡ true) ↔ HasFinished I n H p
    go None none = (λ _. finished_at I c n first H E unfinished midgroup k p t lt is none, λ _. not_false b (sym e ∙ ap is_some none))
    go (Some a) some =
        let no : b ≡ false = not_true b (sym e ∙ ap is_some some) in
        let s = parts_of I c n first H E unfinished midgroup k p lt in
        let w = waits_at I c n first H E unfinished midgroup k p s.state t a lt s.state_is is some in
        let v = waits_as I n H p s.state t (entries_left p t.plan) a w in
        (λ yes. absurd (let d : true ≡ false = sym yes ∙ no in cc), λ f. absurd (awaits_not_finished I n H p w.wanted (s.state, v) f))
