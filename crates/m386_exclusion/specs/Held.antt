-- The task that a processor holds, by the stage at which it stands.
use Rattle.std.specs.Prelude.{ℕ, ◌/◌, Option, Some, None}
use Rattle.m386_stages.specs.Stages.{Task, Phase, Free, Turned, Linking, Called, Jumped, Loaded, Backing, Returned, Ready}

-- The number of a task's descriptor: its selector without TI and RPL.
-- Source: Intel 80386 PRM 5.1.3
abbrev pub number_of : Option Task → Option ℕ
number_of None = None
number_of (Some t) = Some (t.selector / 8)

-- the task that a processor holds in a phase
abbrev pub holds : Phase → Option ℕ
holds (Free tr nt) = number_of tr
holds (Turned k o t nt z) = Some (t.selector / 8)
holds (Linking o t) = Some (t.selector / 8)
holds (Called t) = Some (t.selector / 8)
holds (Jumped t) = Some (t.selector / 8)
holds (Loaded t nt) = Some (t.selector / 8)
holds (Backing o bs) = Some (o.selector / 8)
holds (Returned x) = Some (x.selector / 8)
holds (Ready x nt) = Some (x.selector / 8)
