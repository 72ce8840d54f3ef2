-- The law of an instruction that may end in a task switch.
use Rattle.std.specs.Prelude.{◌≡◌, ◌≤◌, ℕ, zero, suc, true, false, List, [], ◌∷◌}
use Rattle.std.specs.List.{AllByRecursion}
use Rattle.m386_base.specs.declared.ask.Ask.{Ask}
use Rattle.m386_base.specs.declared.kind.SwitchKind.TheVariants.{Iret}
use Rattle.m386_base.specs.Bus.{cycle_of}
use Rattle.m386_base.specs.Phrase.{Phrase, Done, Faults, Asks, Begins, Attempt, ◌>>=◌}
use Rattle.m386_access.specs.Ordinary.{Ordinary, Keeps, is_nested}
use Rattle.m386_checks.specs.Holds.{is_start}
use Rattle.m386_state.specs.declared.proc.Proc.{Proc}
use Rattle.m386_switch.specs.Switch.{attempt_of, work_phrase}
use Rattle.m386_transfer.specs.declared.executed.Brief.{Brief}
use Rattle.m386_transfer.specs.declared.executed.Executed.{Executed}
use Rattle.m386_transfer.specs.declared.executed.Executed.TheVariants.{Ran, Came}
use Rattle.m386_transfer.specs.Executed.{came_whole}

-- none of these cycles is a write
abbrev pub AreReads : List Ask → Type 0
AreReads ts = AllByRecursion (λ (t : Ask). t.write ≡ false) ts

-- A phrase behind the begin of an attempt m is the work of the switch that is asked for in p, and nothing behind it. IRET asks for one
-- only with NT set.
-- Source: Intel 80386 PRM 7.5; IRET: 17.2.2.11
pub record IsSwitching (p : Proc) (m : Attempt) (t : Phrase Executed) : Type 0 where
  pub brief : Brief
  pub way : is_start brief.kind ≡ false
  pub back : brief.kind ≡ Iret → is_nested p ≡ true
  pub known : m ≡ attempt_of p brief.kind brief.selector brief.direct brief.ext
  pub work : t ≡ (work_phrase p brief.kind brief.selector brief.direct brief.ext >>= came_whole)

-- so many cycles a switch makes at most
abbrev pub switch_bound : ℕ
switch_bound = 113

-- A phrase whose instruction has made the cycles ts, the newest first, makes at most n more, each one that `may` allows behind those
-- before it; and where it ends, `ends` holds of all its cycles and of what it found. Or a switch begins in p behind reads alone,
-- with nothing behind it, and its cycles are counted in n.
-- Own choice: docs/DECISIONS.md, "What an operation owes"
unfoldable pub Tried : ℕ → (List Ask → Ask → Type 0) → (List Ask → Executed → Type 0) → Proc → List Ask → Phrase Executed → Type 0
Tried n may ends p ts (Done e) = ends ts e
Tried n may ends p ts (Faults f) = Unit {0}
Tried n may ends p ts (Begins m t) = (switch_bound ≤ n) × AreReads ts × IsSwitching p m t
Tried zero may ends p ts (Asks q k) = ⊥
Tried (suc n) may ends p ts (Asks q k) = may ts q × ((v : ℕ) → Tried n may ends p (cycle_of q v ∷ ts) (k v))

-- what is kept of the state that an instruction began in, where it came to no switch
abbrev pub KeepsRun : Proc → List Ask → Executed → Type 0
KeepsRun p ts (Ran r) = Keeps p ts r.after
KeepsRun p ts (Came r) = ⊥

-- The law of an instruction of at most n cycles that is an ordinary one, or comes to a switch behind reads alone.
abbrev pub TriedFrom : ℕ → Proc → Phrase Executed → Type 0
TriedFrom n p t = Tried n (Ordinary p.gdtr) (KeepsRun p) p [] t
