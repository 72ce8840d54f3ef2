-- What a seat knows through its turn.
use Rattle.std.proofs.Common.{◌≡◌, ◌≢◌, ℕ, ◌+◌, ◌%◌, ◌^◌, ◌<◌, ◌≤◌, List, [], ◌∷◌, ◌++◌, length, get_or, refl, sym, ap, ◌∙◌, subst, arith, add-zero, ◌⊎◌, inl, inr, ⊎_elim, Result, Ok, Err, MatchResult, OnOk, IfOk, OnErr, Some}
use mathlib.Core.Option.{none}
use Rattle.atomic_table.specs.Table.{Me, Step, step, Allows, rest}
use Rattle.m386_base.specs.declared.ask.Ask.{Ask}
use Rattle.m386_base.specs.declared.ask.Cycle.{Cycle}
use Rattle.m386_base.specs.Bus.{cycle_of}
use Rattle.m386_memory.specs.History.{RecordView, past, last_cpu, cycles_of}
use Rattle.m386_memory.proofs.Histories.{cycles_of-own, cycles_of-other, last_cpu-push}
use Rattle.m386_arbiter.specs.declared.rule.Opening.{Opening}
use Rattle.m386_arbiter.specs.declared.rule.View.{View}
use Rattle.m386_arbiter.specs.declared.rule.Stage.TheVariants.{Queued, Holding}
use Rattle.m386_arbiter.specs.Below.{AllBelow}
use Rattle.m386_arbiter.specs.Rule.{as_word, Ruled, at, Served, Looked, Passed, after_turn}
use Rattle.m386_arbiter.specs.Seats.{IsIdle, IsBusy, own_of, own_cycles}
use Rattle.m386_arbiter.proofs.Steps.{looks_waiting, passes}

-- a seat that waits with this ticket
abbrev pub waiting : Me RecordView View → ℕ → Me RecordView View
waiting m t = (at m.0 (Queued t), [])

pub looks_as : (k : Opening) (slots id : ℕ) (m m0 : Me RecordView View) (t : ℕ) → m ≡ waiting m0 t → Allows (Ruled k) slots id m 1 (λ n. n) (Looked (step slots 1 0 0 none) m)
looks_as k slots id m m0 t is = subst (λ (x : Me RecordView View). Allows (Ruled k) slots id x 1 (λ n. n) (Looked (step slots 1 0 0 none) x)) (sym is) (looks_waiting k slots id m0.0 t)

pub looked_on : (m m0 m' : Me RecordView View) (st : Step RecordView) (t r : ℕ) → m ≡ waiting m0 t → Looked st m r m' → ¬ (r ≡ as_word t) → m' ≡ waiting m0 t
looked_on m m0 m' st t r is h n = (subst (λ (x : Me RecordView View). Looked st x r m') is h).1 n

pub looked_now : (m m0 m' : Me RecordView View) (st : Step RecordView) (t r : ℕ) → m ≡ waiting m0 t → Looked st m r m' → r ≡ as_word t → Served t (waiting m0 t) m'
looked_now m m0 m' st t r is h e = (subst (λ (x : Me RecordView View). Looked st x r m') is h).0 e

pub served_busy : (n : ℕ) (m0 m' : Me RecordView View) (t : ℕ) → IsIdle n m0 → Served t (waiting m0 t) m' → IsBusy n m'
served_busy n m0 m' t i s =
    let x : RecordView = s.0 in
    let low : m0.0.low ≡ n = i.low in
    let one : length m0.0.turns ≡ 1 = i.one in
    let inside : m0.0.low + length m0.0.turns ≤ m0.0.count = s.4 in
    subst (λ (z : Me RecordView View). IsBusy n z) (sym s.1) record {
      ticket = t;
      found = x.cycles;
      held = x;
      low = low;
      one = one;
      stage = refl;
      slot = refl;
      start = s.2;
      inside = omega arith;
      below = s.3;
      others = λ p ne. refl;
    }

pub served_own : (n : ℕ) (m0 m' : Me RecordView View) (t : ℕ) → IsIdle n m0 → Served t (waiting m0 t) m' → own_cycles m' ≡ own_cycles m0
served_own n m0 m' t i s =
    let x : RecordView = s.0 in
    let one : length m0.0.turns ≡ 1 = i.one in
    ap own_cycles s.1 ∙ ap (λ p. cycles_of p x.cycles) (sym (add-zero m0.0.low)) ∙ sym (s.5 0 (omega arith)) ∙ ap (own_of m0.0) (sym i.empty)

as_held : (n : ℕ) (m : Me RecordView View) (b : IsBusy n m) → m ≡ (at m.0 (Holding b.ticket b.found), (0, b.held) ∷ [])
as_held n m b = λ i. (record { low = m.0.low; turns = m.0.turns; stage = b.stage i; count = m.0.count; first = m.0.first }, b.slot i)

pub passes_as : (k : Opening) (slots id n : ℕ) (m : Me RecordView View) → IsBusy n m → Allows (Ruled k) slots id m 1 (λ n. (n + 1) % 2 ^ 64) (Passed (step slots 1 1 0 none) m)
passes_as k slots id n m b =
    subst (λ (x : Me RecordView View). Allows (Ruled k) slots id x 1 (λ n. (n + 1) % 2 ^ 64) (Passed (step slots 1 1 0 none) x)) (sym (as_held n m b))
    (passes k slots id m.0 b.ticket b.found b.held record { one = b.one; start = b.start; below = b.below; others = λ p ne. b.others p (λ e. ne (e ∙ sym b.low)) })

pub passed_idle : (n : ℕ) (m m' : Me RecordView View) (st : Step RecordView) (r : ℕ) → IsBusy n m → Passed st m r m' → IsIdle n m'
passed_idle n m m' st r b h = subst (λ (z : Me RecordView View). IsIdle n z) (sym (h ∙ ap (λ l. (after_turn m.0 l, [])) b.slot)) record { low = b.low; one = refl; idle = refl; empty = refl }

pub passed_own : (n : ℕ) (m m' : Me RecordView View) (st : Step RecordView) (r : ℕ) → IsBusy n m → Passed st m r m' → own_cycles m' ≡ own_cycles m
passed_own n m m' st r b h = ap own_cycles (h ∙ ap (λ l. (after_turn m.0 l, [])) b.slot) ∙ sym (ap (own_of m.0) b.slot)

pub below_snoc : (n : ℕ) (xs : List Cycle) (c : Cycle) → AllBelow n xs → c.cpu < n → AllBelow n (xs ++ c ∷ [])
below_snoc n [] c h l = (l, tt)
below_snoc n (x ∷ xs) c h l = (h.0, below_snoc n xs c h.1 l)

-- what the record became, of what it was
abbrev pub Grew : ℕ → RecordView → RecordView → Cycle → Type 0
Grew n y z c = (z.first ≡ y.first) × (c.cpu ≡ n) × ((z.cycles ≡ y.cycles) ⊎ (z.cycles ≡ y.cycles ++ c ∷ []))

pub same_held : (n : ℕ) (m : Me RecordView View) (b : IsBusy n m) (y : RecordView) → m.1 ≡ (0, y) ∷ rest m.1 → b.held ≡ y
same_held n m b y e = ap (λ (l : List (ℕ × RecordView)). (get_or l 0 (0, b.held)).1) (sym b.slot ∙ e)

pub grew_busy : (n : ℕ) (m : Me RecordView View) (y z : RecordView) (c : Cycle) → IsBusy n m → m.1 ≡ (0, y) ∷ rest m.1 → Grew n y z c → IsBusy n (m.0, (0, z) ∷ rest m.1)
grew_busy n m y z c b e g =
    let same : b.held ≡ y = same_held n m b y e in
    let below : AllBelow m.0.count y.cycles = subst (λ (x : RecordView). AllBelow m.0.count x.cycles) same b.below in
    let cpu_is : c.cpu ≡ n = g.1 in
    let inside : n < m.0.count = b.inside in
    record {
      ticket = b.ticket;
      found = b.found;
      held = z;
      low = b.low;
      one = b.one;
      stage = b.stage;
      slot = ap (λ l. (0, z) ∷ rest l) b.slot;
      start = g.0 ∙ sym (ap (λ (x : RecordView). x.first) same) ∙ b.start;
      inside = b.inside;
      below = ⊎_elim
          (λ (h : z.cycles ≡ y.cycles). rw h below)
          (λ (h : z.cycles ≡ y.cycles ++ c ∷ []). rw h (below_snoc m.0.count y.cycles c below (omega arith)))
          g.2;
      others = λ p ne.
          let was : cycles_of p y.cycles ≡ cycles_of p b.found = ap (λ (x : RecordView). cycles_of p x.cycles) (sym same) ∙ b.others p ne in
          ⊎_elim
          (λ (h : z.cycles ≡ y.cycles). ap (cycles_of p) h ∙ was)
          (λ (h : z.cycles ≡ y.cycles ++ c ∷ []). ap (cycles_of p) h ∙ cycles_of-other p y.cycles c (λ e. ne (sym e ∙ cpu_is)) ∙ was)
          g.2;
    }

-- what `put` did: the record is the old one with one cycle of the number, or the old one
abbrev pub Put : {E : Type 0} → ℕ → Ask → Result ℕ E → RecordView → RecordView → Type 0
Put n ask r y z = MatchResult r (λ v. z ≡ record y { cycles = y.cycles ++ record { cpu = n; ask = cycle_of ask v } ∷ [] }) (λ _. z ≡ y)

pub put_of : {E : Type 0} (n : ℕ) (ask : Ask) (r : Result ℕ E) (y z : RecordView) → IfOk r (λ v. z ≡ record y { cycles = y.cycles ++ record { cpu = n; ask = cycle_of ask v } ∷ [] }) → OnErr r (z ≡ y) → Put n ask r y z
put_of n ask (Ok v) y z a b = a
put_of n ask (Err e) y z a b = b

pub put_busy : {E : Type 0} (n : ℕ) (ask : Ask) (r : Result ℕ E) (m : Me RecordView View) (y z : RecordView) → IsBusy n m → m.1 ≡ (0, y) ∷ rest m.1 → Put n ask r y z → IsBusy n (m.0, (0, z) ∷ rest m.1)
put_busy n ask (Ok v) m y z b e h = grew_busy n m y z (record { cpu = n; ask = cycle_of ask v }) b e (ap (λ (x : RecordView). x.first) h, refl, inr (ap (λ (x : RecordView). x.cycles) h))
put_busy n ask (Err _) m y z b e h = grew_busy n m y z (record { cpu = n; ask = ask }) b e (ap (λ (x : RecordView). x.first) h, refl, inl (ap (λ (x : RecordView). x.cycles) h))

pub put_own : {E : Type 0} (n : ℕ) (ask : Ask) (r : Result ℕ E) (m : Me RecordView View) (y z : RecordView) → IsBusy n m → m.1 ≡ (0, y) ∷ rest m.1 → Put n ask r y z
    → MatchResult r (λ v. cycles_of m.0.low z.cycles ≡ own_cycles m ++ cycle_of ask v ∷ []) (λ _. cycles_of m.0.low z.cycles ≡ own_cycles m)
put_own n ask (Ok v) m y z b e h =
    let mine : own_cycles m ≡ cycles_of m.0.low y.cycles = ap (own_of m.0) e in
    ap (λ (x : RecordView). cycles_of m.0.low x.cycles) h ∙ cycles_of-own m.0.low y.cycles (record { cpu = n; ask = cycle_of ask v }) (sym b.low) ∙ ap (λ l. l ++ cycle_of ask v ∷ []) (sym mine)
put_own n ask (Err _) m y z b e h =
    let mine : own_cycles m ≡ cycles_of m.0.low y.cycles = ap (own_of m.0) e in
    ap (λ (x : RecordView). cycles_of m.0.low x.cycles) h ∙ sym mine

pub put_ends : {E : Type 0} (n : ℕ) (ask : Ask) (r : Result ℕ E) (y z : RecordView) → Put n ask r y z → OnOk r (last_cpu (past z.cycles) ≡ Some n)
put_ends n ask (Ok v) y z h = ap (λ (x : RecordView). last_cpu (past x.cycles)) h ∙ last_cpu-push y.cycles (record { cpu = n; ask = cycle_of ask v })
put_ends n ask (Err _) y z h = tt
