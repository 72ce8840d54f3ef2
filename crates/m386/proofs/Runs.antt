-- What the parts of a call come to together: the source, the run and the report.
use Rattle.std.proofs.Common.{◌≡◌, ℕ, ◌*◌, ◌≤◌, inr, refl, sym, subst, ap, ◌∙◌, arith, List, cond, Bool, true, false, nat_lt, Option, Some, None, Result, Ok}
use Rattle.m386_base.specs.declared.ask.Cycle.{Cycle}
use Rattle.m386_book.specs.Verdict.{IsFirstFailure}
use Rattle.m386_book.specs.declared.verdict.Verdict.{Verdict}
use Rattle.m386_core.proofs.Attempts.{run_switches_end}
use Rattle.m386_core.proofs.OneRun.{one_beginning}
use Rattle.m386_core.proofs.Runs.{over_is_run}
use Rattle.m386_core.specs.Machine.{MachineView, IsMachine}
use Rattle.m386_core.specs.Order.{InOrder}
use Rattle.m386_core.specs.Place.{HasFinished}
use Rattle.m386_core.specs.Running.{IsOver}
use Rattle.m386_core.specs.declared.order.Order.{Order}
use Rattle.m386_exclusion_runs.proofs.Runs.{run_excludes}
use Rattle.m386_image.proofs.Valid.{valid_cpus}
use Rattle.m386_image.specs.Format.{IsValid}
use Rattle.m386_image.specs.declared.image.Image.{Image as ImageData}
use Rattle.m386_memory.specs.Contents.{Contents}
use Rattle.m386_memory.specs.History.{RecordView}
use Rattle.m386_memory.specs.declared.ended.ProcEnd.{ProcEnd}
use Rattle.m386_state.specs.declared.proc.Proc.{Proc}
use Rattle.m386_step.specs.Run.{BeginsWith, Run}
use Rattle.m386_turns.specs.Turns.{AllDone}
use Rattle.m386_trace.specs.Report.{report_text}
use Rattle.m386.specs.Top.{IsRunAnswer, IsAnswerOf, IsRunOf, IsRunText, IsScheduled, HasAllowed, HasNone, SourceGave, at_edges, at_out, at_source, count_of, excess, most_steps, refusal}
use Rattle.m386_calls.specs.Words.{in_no_thread}
use Rattle.m386_calls.specs.declared.call.Asked.{Asked}
use Rattle.m386_calls.specs.declared.call.Schedule.TheVariants.{Threads, Named}
use Rattle.m386_calls.specs.declared.usage.UsageKind.{UsageKind}
use Rattle.m386_calls.specs.declared.usage.UsageKind.TheVariants.{Cpus, Budget}
use Rattle.m386.specs.declared.status.Status.{Status}
use Rattle.m386.specs.declared.status.Status.TheVariants.{Done, Memory, Usage, ReadFault, WriteFault, Image, Asm, TooLong}

-- the report of a run whose verdict is known
pub text_of_run : (image : ImageData) (asked : Asked) (first : Contents) (history : List Cycle) (ends : List (ProcEnd Proc)) (verdict : Verdict) → IsValid image → refusal image asked ≡ None → IsRunOf image asked history ends → BeginsWith image first → IsFirstFailure image history verdict → IsRunText image asked (report_text image first history ends verdict)
text_of_run image asked first history ends verdict valid allowed run begins failure = record {
  allowed = allowed;
  history = history;
  ends = ends;
  run = run;
  switches = run_switches_end image (count_of image asked.cpus) asked.steps history ends run.run;
  exclusion = run_excludes image (count_of image asked.cpus) asked.steps history ends valid run.run;
  verdict = verdict;
  first_failure = failure;
  text_is = ap (λ (f : Contents). report_text image f history ends verdict) (one_beginning image first run.run.first begins run.run.begins);
}

-- what a source gave, whatever the output is
gave_beside : (l l' h h' : Option (List ℕ)) (r r' w w' : ℕ) (bytes : List ℕ) → SourceGave (at_source l r) (at_source l' r') bytes → SourceGave (at_edges l r h w) (at_edges l' r' h' w') bytes
gave_beside l l' h h' r r' w w' bytes g = record { within = g.within; gave = g.gave; emptied = g.emptied }

-- what a source and the run of its image come to
pub run_answers : (meant : Result Asked UsageKind) (asked : Asked) (image : ImageData) (l l' h h' : Option (List ℕ)) (r r' w w' : ℕ) (status : Status) → meant ≡ Ok asked → HasAllowed asked (at_source l r) (at_source l' r') image → IsAnswerOf image asked (at_out h w) (at_out h' w') status → IsRunAnswer meant (at_edges l r h w) (at_edges l' r' h' w') status
run_answers meant asked image l l' h h' r r' w w' Done e a o = (
  o.0,
  record {
    asked = asked;
    words_mean_it = e;
    bytes = a.bytes;
    was_read = gave_beside l l' h h' r r' w w' a.bytes a.was_read;
    image = image;
    is_image = a.is_image;
    run_text = o.1;
  },
  o.2,
)
run_answers meant asked image l l' h h' r r' w w' WriteFault e a o = (
  o.0,
  record {
    asked = asked;
    words_mean_it = e;
    bytes = a.bytes;
    was_read = gave_beside l l' h h' r r' w w' a.bytes a.was_read;
    image = image;
    is_image = a.is_image;
    run_text = o.1;
  },
  o.2.0,
  o.2.1,
)
run_answers meant asked image l l' h h' r r' w w' Memory e a o = o
run_answers meant asked image l l' h h' r r' w w' (Usage kind) e a o = absurd o
run_answers meant asked image l l' h h' r r' w w' ReadFault e a o = absurd o
run_answers meant asked image l l' h h' r r' w w' (Image fault) e a o = absurd o
run_answers meant asked image l l' h h' r r' w w' (Asm line kind) e a o = absurd o
run_answers meant asked image l l' h h' r r' w w' TooLong e a o = absurd o

-- what a source that has no such image comes to, with the output as before
pub none_answers : (meant : Result Asked UsageKind) (asked : Asked) (l l' h h' : Option (List ℕ)) (r r' w w' : ℕ) (status : Status) → meant ≡ Ok asked → HasNone asked (at_source l r) (at_source l' r') status → h' ≡ h → IsRunAnswer meant (at_edges l r h w) (at_edges l' r' h' w') status
none_answers meant asked l l' h h' r r' w w' Memory e n same = same
none_answers meant asked l l' h h' r r' w w' (Usage kind) e n same = (
  inr (record {
    asked = n.asked;
    words_mean_it = e ∙ n.words_mean_it;
    bytes = n.bytes;
    was_read = gave_beside l l' h h' r r' w w' n.bytes n.was_read;
    image = n.image;
    is_image = n.is_image;
    refused = n.refused;
  }),
  same,
)
none_answers meant asked l l' h h' r r' w w' ReadFault e n same = ((asked, e), n, same)
none_answers meant asked l l' h h' r r' w w' (Image fault) e n same = ((asked, e), (n.0, gave_beside l l' h h' r r' w w' n.0 n.1, n.2), same)
none_answers meant asked l l' h h' r r' w w' (Asm line kind) e n same = absurd n
none_answers meant asked l l' h h' r r' w w' TooLong e n same = ((asked, e), n, same)
none_answers meant asked l l' h h' r r' w w' Done e n same = absurd n
none_answers meant asked l l' h h' r r' w w' WriteFault e n same = absurd n

-- ---- how many processors run

counts_some : (image : ImageData) (asked : Option ℕ) → 1 ≤ image.cpus → ((count : ℕ) → asked ≡ Some count → 1 ≤ count) → 1 ≤ count_of image asked
counts_some image None least some = least
counts_some image (Some count) least some = some count refl

excess_none : (has count steps : ℕ) → excess has count steps ≡ None → count ≤ has
excess_none has count steps e = go (nat_lt has count) refl e
  where
    go : (b : Bool) → nat_lt has count ≡ b → cond b (Some Cpus) (cond (nat_lt most_steps (count * steps)) (Some Budget) None) ≡ None → count ≤ has
    go true is h = cc
    go false is h = grind (arith, is)

-- an image that allows what is asked for runs one processor at least, and no more than it has
pub allowed_count : (image : ImageData) (asked : Asked) (count : ℕ) → IsValid image → ((n : ℕ) → asked.cpus ≡ Some n → 1 ≤ n) → count ≡ count_of image asked.cpus → excess image.cpus count asked.steps ≡ None → (count ≡ count_of image asked.cpus) × (1 ≤ count) × (count ≤ image.cpus)
allowed_count image asked count valid some e none = (e, subst (λ n. 1 ≤ n) (sym e) (counts_some image asked.cpus (valid_cpus image valid).0 some), excess_none image.cpus count asked.steps none)

-- ---- the run that is asked for

pub run_in_order : (image : ImageData) (asked : Asked) (order : Order) (count : ℕ) (history : List Cycle) (ends : List (ProcEnd Proc)) → asked.schedule ≡ Named order → count ≡ count_of image asked.cpus → Run image count asked.steps history ends → InOrder image count asked.steps order history → IsRunOf image asked history ends
run_in_order image asked order count history ends s e run ordered = record {
  run = subst (λ n. Run image n asked.steps history ends) e run;
  in_order = subst (λ x. IsScheduled image (count_of image asked.cpus) asked.steps x history) (sym s) (subst (λ n. InOrder image n asked.steps order history) e ordered);
}

pub run_of_threads : (image : ImageData) (asked : Asked) (count : ℕ) (history : List Cycle) (ends : List (ProcEnd Proc)) → asked.schedule ≡ Threads → count ≡ count_of image asked.cpus → Run image count asked.steps history ends → IsRunOf image asked history ends
run_of_threads image asked count history ends s e run = record {
  run = subst (λ n. Run image n asked.steps history ends) e run;
  in_order = subst (λ x. IsScheduled image (count_of image asked.cpus) asked.steps x history) (sym s) tt;
}

-- a call that starts no thread makes a run in an order
pub means_plainly : (asked : Asked) (order : Order) → asked.schedule ≡ Named order → in_no_thread asked asked.schedule ≡ Ok asked
means_plainly asked order s = ap (in_no_thread asked) s

-- ---- the machine that threads leave

-- all have finished in a machine of this image, with so many processors and steps
pub machine_run : (left m : MachineView) (image : ImageData) (count steps : ℕ) (log : RecordView) (ends : List (ProcEnd Proc)) → AllDone (λ (x : MachineView). x.cpus) (λ (x : MachineView) (p : ℕ). HasFinished x.image x.budget x.log.cycles p) left → m ≡ left → IsMachine m → (m.image ≡ image) × (m.cpus ≡ count) × (m.budget ≡ steps) → log ≡ m.log → ends ≡ m.ends → Run image count steps log.cycles ends
machine_run left m image count steps log ends done is kept same l e = rw (← same.0, ← same.1, ← same.2, l, e) (over_is_run m kept (subst IsOver (sym is) done))

-- and its history begins with the contents of the image
pub machine_begins : (m : MachineView) (image : ImageData) (log : RecordView) → IsMachine m → m.image ≡ image → log ≡ m.log → BeginsWith image log.first
machine_begins m image log kept same l = rw (← same, l) kept.front.begins
