-- How the parts of a machine belong together.
use Rattle.std.specs.Prelude.{◌≡◌, ℕ, ◌<◌, ◌≤◌, List, length, Option, Some, None, Bool, true, false, not, ◌==◌, slice_index_or}
use Rattle.std.specs.List.{AllByRecursion}
use Rattle.m386_base.specs.declared.ask.Cycle.{Cycle}
use Rattle.m386_image.specs.declared.image.Image.{Image}
use Rattle.m386_image.specs.Format.{IsValid}
use Rattle.m386_memory.specs.Contents.{Contents}
use Rattle.m386_memory.specs.History.{IsHistory, cycles_of, past, last_cpu}
use Rattle.m386_memory.specs.declared.ended.ProcEnd.{ProcEnd}
use Rattle.m386_state.specs.declared.proc.Proc.{Proc}
use Rattle.m386_step.specs.Run.{BeginsWith, start_of, plan_of}
use Rattle.m386_core.specs.declared.unfinished.Unfinished.{Unfinished}
use Rattle.m386_core.specs.Plans.{entries_left}
use Rattle.m386_core.specs.Unfinished.{EndsOrWaits, is_joined}

-- the processors below k are where their states and unfinished steps say
abbrev pub AllEndOrWait : Image → ℕ → List Cycle → List (ProcEnd Proc) → List Unfinished → ℕ → Type 0
AllEndOrWait I n H E unfinished k = (p : ℕ) (e : ProcEnd Proc) (t : Unfinished) → p < k
    → EndsOrWaits n (plan_of I p) (start_of I p) (cycles_of p H) (slice_index_or E p e) (slice_index_or unfinished p t) (entries_left p (slice_index_or unfinished p t).plan) (slice_index_or unfinished p t).next

-- another processor than this one is named
abbrev pub is_another : Option ℕ → ℕ → Bool
is_another None p = false
is_another (Some q) p = not (q == p)

-- The processor that is named, if one is, is amid a locked group: it made the last cycle, and its next ask is joined.
pub record IsAmid (H : List Cycle) (unfinished : List Unfinished) (c : ℕ) (midgroup : Option ℕ) : Type 0 where
  pub below : (p : ℕ) → midgroup ≡ Some p → p < c
  pub last : (p : ℕ) → midgroup ≡ Some p → last_cpu (past H) ≡ Some p
  pub joined : (p : ℕ) (t : Unfinished) → midgroup ≡ Some p → is_joined (slice_index_or unfinished p t).next ≡ true
  pub alone : (p : ℕ) (t : Unfinished) → p < c → is_joined (slice_index_or unfinished p t).next ≡ true → midgroup ≡ Some p

-- what holds of the parts of a machine
pub record IsKept (I : Image) (c n : ℕ) (first : Contents) (H : List Cycle) (E : List (ProcEnd Proc)) (unfinished : List Unfinished) (midgroup : Option ℕ) : Type 0 where
  pub valid : IsValid I
  pub some : 1 ≤ c
  pub most : c ≤ I.cpus
  pub budget : n ≤ 65536
  pub below : AllByRecursion (λ (x : Cycle). x.cpu < c) H
  pub begins : BeginsWith I first
  pub history : IsHistory first H
  pub count : length E ≡ c
  pub count_unfinished : length unfinished ≡ c
  pub each : AllEndOrWait I n H E unfinished c
  pub amid : IsAmid H unfinished c midgroup
