-- The lines of commands are simple, and what their words are read as.
use Rattle.std.proofs.Common.{◌≡◌, ◌∙◌, ap, refl, sym, subst, true, false, Bool, ◌&&◌, List, [], ◌∷◌, Option, Some, None, Result, Ok, Err, codes, ℕ}
use Rattle.std.specs.Borrow.{Bor}
use Rattle.std.specs.Option.{ok_or, option_map}
use Rattle.clap.specs.Faults.{fault_of, is_simple_and_free}
use Rattle.clap.specs.Kinds.{Kinds}
use Rattle.clap.specs.Matches.{first_value, found_of}
use Rattle.clap.specs.Simple.{App, app_of, is_simple, matches_of}
use Rattle.clap.specs.Walk.{Text, first_of, rows_of}
use Rattle.clap.specs.declared.builder.command.Command.{Command}
use Rattle.clap.specs.declared.parser.matches.ArgMatches.{ArgMatches}
use Rattle.clap.proofs.WalkLemmas.{first_value-rows}
use Rattle.m386_calls.specs.Lines.{Fits, IsRefusal, asm_line, run_line, soak_line, value_of}
use Rattle.m386_calls.specs.Words.{IsReading, asked_of, asm_means, cpus_in, run_asks, run_means, schedule_in, seed_in, seed_or_value, soak_means, steps_in, where_fitting}
use Rattle.m386_calls.specs.declared.call.Asked.{Asked}
use Rattle.m386_calls.specs.declared.call.Call.TheVariants.{Assemble}
use Rattle.m386_calls.specs.declared.call.Schedule.{Schedule}
use Rattle.m386_calls.specs.declared.stop.CallStop.{CallStop}
use Rattle.m386_calls.specs.declared.stop.CallStop.TheVariants.{Memory, Refused}
use Rattle.m386_calls.specs.declared.usage.UsageKind.{UsageKind}
use Rattle.m386_calls.specs.declared.usage.UsageKind.TheVariants.{Line, Value}

-- ---- the lines are simple commands

pub run_simple : (c : Command) → app_of c ≡ run_line → is_simple_and_free (app_of c) ≡ true
unfolding run_line
run_simple c e = ap is_simple_and_free e ∙ refl

pub asm_simple : (c : Command) → app_of c ≡ asm_line → is_simple_and_free (app_of c) ≡ true
unfolding asm_line
asm_simple c e = ap is_simple_and_free e ∙ refl

pub soak_simple : (c : Command) → app_of c ≡ soak_line → is_simple_and_free (app_of c) ≡ true
unfolding soak_line
soak_simple c e = ap is_simple_and_free e ∙ refl

pub ruleset simple = (run_simple, asm_simple, soak_simple)

-- ---- what is read

-- words that don't fit a line are refused as it
pub refused : {T : Type 0} (faults : Kinds) (meant asks : Result T UsageKind) (stop : CallStop) → meant ≡ where_fitting faults asks → IsRefusal faults stop → IsReading meant (Err stop)
refused faults meant asks Memory is by = tt
refused [] meant asks (Refused kind) is by = absurd (by.1 refl)
refused (k ∷ ks) meant asks (Refused kind) is by = rw by.0 is

-- words that fit it mean what they ask for
pub fitting : {T : Type 0} (faults : Kinds) (meant asks : Result T UsageKind) → meant ≡ where_fitting faults asks → faults ≡ [] → meant ≡ asks
fitting [] meant asks is e = is
fitting (k ∷ ks) meant asks is e = cc

-- the value that a getter gives is that of the option
pub value_is : (line : App) (ws : List Text) (name : Text) (m : ArgMatches) (value : Option (Bor Text)) → rows_of (found_of m) ≡ matches_of line ws → option_map (λ v. v.now) value ≡ first_value (found_of m) name
    → option_map (λ v. v.now) value ≡ value_of line ws name
value_is line ws name m value rows is = is ∙ first_value-rows (found_of m) name ∙ ap (first_of name) rows

run_is : (ws : List Text) → run_means ws ≡ where_fitting (fault_of run_line ws) (run_asks ws)
unfolding run_means
run_is ws = refl

asm_is : (ws : List Text) → asm_means ws ≡ where_fitting (fault_of asm_line ws) (Ok Assemble)
unfolding asm_means
asm_is ws = refl

soak_is : (ws : List Text) → soak_means ws ≡ where_fitting (fault_of soak_line ws) (seed_or_value (seed_in (value_of soak_line ws (codes "seed"))))
unfolding soak_means
soak_is ws = refl

pub run_refused : (app : App) (ws : List Text) (stop : CallStop) → app ≡ run_line → IsRefusal (fault_of app ws) stop → IsReading (run_means ws) (Err stop)
run_refused app ws stop e by = refused (fault_of run_line ws) (run_means ws) (run_asks ws) stop (run_is ws) (subst (λ a. IsRefusal (fault_of a ws) stop) e by)

pub asm_refused : (app : App) (ws : List Text) (stop : CallStop) → app ≡ asm_line → IsRefusal (fault_of app ws) stop → IsReading (asm_means ws) (Err stop)
asm_refused app ws stop e by = refused (fault_of asm_line ws) (asm_means ws) (Ok Assemble) stop (asm_is ws) (subst (λ a. IsRefusal (fault_of a ws) stop) e by)

pub soak_refused : (app : App) (ws : List Text) (stop : CallStop) → app ≡ soak_line → IsRefusal (fault_of app ws) stop → IsReading (soak_means ws) (Err stop)
soak_refused app ws stop e by = refused (fault_of soak_line ws) (soak_means ws) (seed_or_value (seed_in (value_of soak_line ws (codes "seed")))) stop (soak_is ws) (subst (λ a. IsRefusal (fault_of a ws) stop) e by)

pub asm_reads : (app : App) (ws : List Text) → app ≡ asm_line → Fits app ws → asm_means ws ≡ Ok Assemble
asm_reads app ws e fits = fitting (fault_of asm_line ws) (asm_means ws) (Ok Assemble) (asm_is ws) (subst (λ a. Fits a ws) e fits)

pub soak_reads : (app : App) (ws : List Text) (m : ArgMatches) (value : Option (Bor Text)) → app ≡ soak_line → Fits app ws → rows_of (found_of m) ≡ matches_of app ws
    → option_map (λ v. v.now) value ≡ first_value (found_of m) (codes "seed") → soak_means ws ≡ seed_or_value (seed_in (option_map (λ v. v.now) value))
soak_reads app ws m value e fits rows is =
    let found = value_is soak_line ws (codes "seed") m value (subst (λ a. rows_of (found_of m) ≡ matches_of a ws) e rows) is in
    fitting (fault_of soak_line ws) (soak_means ws) (seed_or_value (seed_in (value_of soak_line ws (codes "seed")))) (soak_is ws) (subst (λ a. Fits a ws) e fits) ∙ ap (λ v. seed_or_value (seed_in v)) (sym found)

pub run_reads : (app : App) (ws : List Text) (m : ArgMatches) (cpus steps order seed : Option (Bor Text)) → app ≡ run_line → Fits app ws → rows_of (found_of m) ≡ matches_of app ws
    → option_map (λ v. v.now) cpus ≡ first_value (found_of m) (codes "cpus") → option_map (λ v. v.now) steps ≡ first_value (found_of m) (codes "steps")
    → option_map (λ v. v.now) order ≡ first_value (found_of m) (codes "order") → option_map (λ v. v.now) seed ≡ first_value (found_of m) (codes "seed")
    → run_means ws ≡ asked_of (cpus_in (option_map (λ v. v.now) cpus)) (steps_in (option_map (λ v. v.now) steps)) (schedule_in (option_map (λ v. v.now) order) (seed_in (option_map (λ v. v.now) seed)))
run_reads app ws m cpus steps order seed e fits rows c st o sd =
    let at = subst (λ a. rows_of (found_of m) ≡ matches_of a ws) e rows in
    let c' = value_is run_line ws (codes "cpus") m cpus at c in
    let st' = value_is run_line ws (codes "steps") m steps at st in
    let o' = value_is run_line ws (codes "order") m order at o in
    let sd' = value_is run_line ws (codes "seed") m seed at sd in
    fitting (fault_of run_line ws) (run_means ws) (run_asks ws) (run_is ws) (subst (λ a. Fits a ws) e fits) ∙ rw (c', st', o', sd') refl

pub simple_of : (app : App) → is_simple_and_free app ≡ true → is_simple app ≡ true
simple_of app e = left (is_simple app) _ e
  where
    left : (a b : Bool) → (a && b) ≡ true → a ≡ true
    left true b e = refl
    left false b e = cc

-- a seed that is read, or its refusal
pub seed_reading : (meant : Result ℕ UsageKind) (seed : Option ℕ) → meant ≡ seed_or_value seed → IsReading meant (ok_or seed (Refused Value))
seed_reading meant None is = is
seed_reading meant (Some seed) is = is
