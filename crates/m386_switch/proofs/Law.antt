-- Whole cycles of a switch end as SwitchEnds says.
use Rattle.std.proofs.Common.{◌≡◌, ℕ, Bool, List, [], sym, ◌∙◌, ap, append-nil, Result, Ok, Err, IfOk}
use Rattle.m386_base.specs.declared.ask.Ask.{Ask}
use Rattle.m386_base.specs.declared.fault.Stop.{Stop}
use Rattle.m386_base.specs.declared.kind.SwitchKind.{SwitchKind}
use Rattle.m386_base.specs.Bus.{BusView}
use Rattle.m386_base.specs.Phrase.{follow, Whole, Completes, PerformsOrStops}
use Rattle.m386_state.specs.declared.proc.Proc.{Proc}
use Rattle.m386_switch.specs.declared.outcome.Outcome.{Outcome}
use Rattle.m386_switch.specs.declared.outcome.Switched.{Switched}
use Rattle.m386_switch.specs.Ends.{EndsAs, SwitchEnds, EndsOn}
use Rattle.m386_switch.specs.Seen.{nothing_seen, seen}
use Rattle.m386_switch.specs.Switch.{attempt_of, switched, switch_phrase, work_phrase}
use Rattle.m386_switch.proofs.Shows.{shown}
use Rattle.m386_switch.proofs.Whole.{work_shows}

pub work_ends : (p : Proc) (kind : SwitchKind) (selector : ℕ) (direct ext : Bool) (ts : List Ask) (r : Switched) → follow (work_phrase p kind selector direct ext) ts ≡ Whole r [] → SwitchEnds (attempt_of p kind selector direct ext) ts p r
unfolding seen
work_ends p kind selector direct ext ts r e =
    shown (λ g x. EndsAs (attempt_of p kind selector direct ext) g p x) nothing_seen (work_phrase p kind selector direct ext) r ts (work_shows p kind selector direct ext) e

-- The law of one switch.
pub switch_ends : (p : Proc) (kind : SwitchKind) (selector : ℕ) (direct ext : Bool) (ts : List Ask) (r : Switched) → follow (switch_phrase p kind selector direct ext) ts ≡ Whole r [] → SwitchEnds (attempt_of p kind selector direct ext) ts p r
unfolding switch_phrase follow
switch_ends p kind selector direct ext ts r e = work_ends p kind selector direct ext ts r e

-- What a call added to its bus, once it is whole.
completed_ends : (p : Proc) (kind : SwitchKind) (selector : ℕ) (direct ext : Bool) (old new : BusView) (r : Switched) → Completes (switch_phrase p kind selector direct ext) old new r → EndsOn (attempt_of p kind selector direct ext) old new p r
completed_ends p kind selector direct ext old new r c =
    (c.added, c.cycles, switch_ends p kind selector direct ext c.added r (ap (follow (switch_phrase p kind selector direct ext)) (sym (append-nil c.added)) ∙ c.whole []))

pub performed_ends : (p : Proc) (kind : SwitchKind) (selector : ℕ) (direct ext : Bool) (old new : BusView) (after : Proc) (x : Result Outcome Stop) → PerformsOrStops (switch_phrase p kind selector direct ext) old new (switched after) x → IfOk x (λ o. EndsOn (attempt_of p kind selector direct ext) old new p (switched after o))
performed_ends p kind selector direct ext old new after (Ok o) h = completed_ends p kind selector direct ext old new (switched after o) h
performed_ends p kind selector direct ext old new after (Err s) h = tt
