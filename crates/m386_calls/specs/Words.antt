-- What the words of a call mean.
use Rattle.std.specs.Prelude.{◌≡◌, ℕ, zero, suc, ◌+◌, ◌-◌, ◌*◌, ◌^◌, ◌≤◌, ◌&&◌, nat_le, if◌then◌else◌, Option, Some, None, Result, Ok, Err, List, [], ◌∷◌, length, map, codes, string_bytes, String}
use Rattle.std.specs.Str.{all_ascii_digits, bytes_eq}
use Rattle.std.specs.declared.alloc.Global.{Global}
use Rattle.clap.specs.Faults.{fault_of}
use Rattle.clap.specs.Kinds.{Kinds}
use Rattle.m386_calls.specs.Lines.{run_line, asm_line, soak_line, value_of}
use Rattle.m386_core.specs.declared.order.Order.TheVariants.{Round, Seed}
use Rattle.m386_calls.specs.declared.call.Asked.{Asked}
use Rattle.m386_calls.specs.declared.call.Call.{Call}
use Rattle.m386_calls.specs.declared.call.Call.TheVariants.{Assemble, Run, Soak}
use Rattle.m386_calls.specs.declared.call.Schedule.{Schedule}
use Rattle.m386_calls.specs.declared.call.Schedule.TheVariants.{Threads, Named}
use Rattle.m386_calls.specs.declared.stop.CallStop.{CallStop}
use Rattle.m386_calls.specs.declared.stop.CallStop.TheVariants.{Memory, Refused}
use Rattle.m386_calls.specs.declared.usage.UsageKind.{UsageKind}
use Rattle.m386_calls.specs.declared.usage.UsageKind.TheVariants.{Command, Line, Value}

-- ---- numbers

-- the number of decimal digits, read from the left after a number so far
abbrev pub digits_on : ℕ → List ℕ → ℕ
digits_on n [] = n
digits_on n (c ∷ cs) = digits_on (n * 10 + (c - 48)) cs

-- A number in its limit: 1 to 20 decimal digits with no sign.
-- Own choice: docs/DECISIONS.md, "The words of a call"
abbrev pub number_in : ℕ → List ℕ → Option ℕ
number_in most text = if nat_le 1 (length text) && nat_le (length text) 20 && all_ascii_digits text && nat_le (digits_on 0 text) most then Some (digits_on 0 text) else None

-- ---- the values of options, where they stand

-- a number that isn't 0
abbrev pub some_cpus : Option ℕ → Option (Option ℕ)
some_cpus None = None
some_cpus (Some zero) = None
some_cpus (Some (suc n)) = Some (Some (suc n))

-- How many processors: 1 to 8, and as many as the image has where no word says.
-- Own choice: docs/DECISIONS.md, "The words of a call"
abbrev pub cpus_in : Option (List ℕ) → Option (Option ℕ)
cpus_in None = Some None
cpus_in (Some v) = some_cpus (number_in 8 v)

-- The steps of a processor: 0 to 65,536, and 1,000 where no word says.
-- Own choice: docs/DECISIONS.md, "Limits"
abbrev pub steps_in : Option (List ℕ) → Option ℕ
steps_in None = Some 1000
steps_in (Some v) = number_in 65536 v

-- The seed: below 2^64, and 1 where no word says.
-- Own choice: docs/DECISIONS.md, "The words of a call"
abbrev pub seed_in : Option (List ℕ) → Option ℕ
seed_in None = Some 1
seed_in (Some v) = number_in (2 ^ 64 - 1) v

-- the schedule of this name
abbrev pub schedule_named : List ℕ → ℕ → Option Schedule
schedule_named v seed =
    if bytes_eq v (codes "threads") then Some Threads else if bytes_eq v (codes "round") then Some (Named Round) else if bytes_eq v (codes "seed") then Some (Named (Seed seed)) else None

-- The schedule: threads where no word says. The seed must be one, whichever the schedule is.
-- Own choice: docs/DECISIONS.md, "The words of a call"
abbrev pub schedule_in : Option (List ℕ) → Option ℕ → Option Schedule
schedule_in v None = None
schedule_in None (Some seed) = Some Threads
schedule_in (Some v) (Some seed) = schedule_named v seed

-- these three, or a value is refused
abbrev pub asked_of : Option (Option ℕ) → Option ℕ → Option Schedule → Result Asked UsageKind
asked_of None steps schedule = Err Value
asked_of (Some cpus) None schedule = Err Value
asked_of (Some cpus) (Some steps) None = Err Value
asked_of (Some cpus) (Some steps) (Some schedule) = Ok (record { cpus = cpus; steps = steps; schedule = schedule })

-- what is asked for is within its limits
pub record IsAsked (asked : Asked) : Type 0 where
  pub some : (count : ℕ) → asked.cpus ≡ Some count → 1 ≤ count
  pub most : asked.steps ≤ 65536

-- ---- the commands

-- what words ask for, where a line has no fault in them
abbrev pub where_fitting : {T : Type 0} → Kinds → Result T UsageKind → Result T UsageKind
where_fitting [] asks = asks
where_fitting (fault ∷ faults) asks = Err Line

-- what the words behind `run` ask for, where they fit its line
abbrev pub run_asks : List (List ℕ) → Result Asked UsageKind
run_asks ws = asked_of (cpus_in (value_of run_line ws (codes "cpus"))) (steps_in (value_of run_line ws (codes "steps")))
    (schedule_in (value_of run_line ws (codes "order")) (seed_in (value_of run_line ws (codes "seed"))))

-- What the words behind `run` ask for.
-- Own choice: docs/DECISIONS.md, "The words of a call"
unfoldable pub run_means : List (List ℕ) → Result Asked UsageKind
run_means ws = where_fitting (fault_of run_line ws) (run_asks ws)

-- a seed, or its value is refused
abbrev pub seed_or_value : Option ℕ → Result ℕ UsageKind
seed_or_value None = Err Value
seed_or_value (Some seed) = Ok seed

-- What the words behind `soak` ask for: at most a seed.
-- Own choice: docs/DECISIONS.md, "The words of a call"
unfoldable pub soak_means : List (List ℕ) → Result ℕ UsageKind
soak_means ws = where_fitting (fault_of soak_line ws) (seed_or_value (seed_in (value_of soak_line ws (codes "seed"))))

-- What the words behind `asm` ask for: there are none.
-- Own choice: docs/DECISIONS.md, "The words of a call"
unfoldable pub asm_means : List (List ℕ) → Result Call UsageKind
asm_means ws = where_fitting (fault_of asm_line ws) (Ok Assemble)

-- ---- the whole call

-- the run that is asked for, as a call
abbrev pub as_run : Result Asked UsageKind → Result Call UsageKind
as_run (Ok asked) = Ok (Run asked)
as_run (Err kind) = Err kind

-- the number of the image that is asked for, as a call
abbrev pub as_soak : Result ℕ UsageKind → Result Call UsageKind
as_soak (Ok number) = Ok (Soak number)
as_soak (Err kind) = Err kind

-- What the words ask for, or why they are refused.
-- Own choice: docs/DECISIONS.md, "The words of a call"
abbrev pub words_mean : List (List ℕ) → Result Call UsageKind
words_mean [] = Err Command
words_mean (w ∷ ws) = if bytes_eq w (codes "run") then as_run (run_means ws) else if bytes_eq w (codes "asm") then asm_means ws else if bytes_eq w (codes "soak") then as_soak (soak_means ws) else Err Command

-- a run that is asked for is within its limits
abbrev pub IsCall : Call → Type 0
IsCall (Run asked) = IsAsked asked
IsCall Assemble = Unit {0}
IsCall (Soak number) = Unit {0}

-- What the words mean to a call that starts no thread: a run in threads is a value that it refuses.
-- Own choice: docs/DECISIONS.md, "The words of a call"
abbrev pub in_no_thread : Asked → Schedule → Result Asked UsageKind
in_no_thread asked Threads = Err Value
in_no_thread asked (Named order) = Ok asked

abbrev pub without_threads : Result Call UsageKind → Result Call UsageKind
without_threads (Ok (Run asked)) = as_run (in_no_thread asked asked.schedule)
without_threads (Ok Assemble) = Ok Assemble
without_threads (Ok (Soak number)) = Ok (Soak number)
without_threads (Err kind) = Err kind

abbrev pub words_mean_plainly : List (List ℕ) → Result Call UsageKind
words_mean_plainly words = without_threads (words_mean words)

-- the texts of words
abbrev pub texts : List (String Global) → List (List ℕ)
texts words = map (λ (w : String Global). string_bytes w) words

-- ---- what reading answers

-- what the words mean, unless memory runs out
abbrev pub IsReading : {T : Type 0} → Result T UsageKind → Result T CallStop → Type 0
IsReading meant (Ok value) = meant ≡ Ok value
IsReading meant (Err (Refused kind)) = meant ≡ Err kind
IsReading meant (Err Memory) = Unit {0}
