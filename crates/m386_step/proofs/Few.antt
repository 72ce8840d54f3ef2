-- How many cycles a step adds to its bus.
use Rattle.std.proofs.Common.{◌≡◌, ◌+◌, ◌<◌, ◌≤◌, List, ◌++◌, length, ap, ◌∙◌, arith}
use Rattle.std.proofs.lemmas.List.{length-append}
use Rattle.m386_base.specs.declared.ask.Ask.{Ask}
use Rattle.m386_base.specs.declared.fault.Stop.{Stop}
use Rattle.m386_base.specs.declared.fault.Break.TheVariants as breaks
use Rattle.m386_base.specs.Bus.{BusView}
use Rattle.m386_base.specs.Phrase.{Completes, BreaksOff}
use Rattle.m386_base.proofs.Bounds.{at_most_whole}
use Rattle.m386_base.proofs.Growth.{at_most_wants}
use Rattle.m386_base.proofs.Phrases.{completes_judged, breaks_judged}
use Rattle.m386_state.specs.declared.proc.Proc.{Proc}
use Rattle.m386_step.specs.Step.{step_phrase}
use Rattle.m386_step.proofs.Short.{short_step}

added : (old new : BusView) (ts : List Ask) → new.cycles ≡ old.cycles ++ ts → length new.cycles ≡ length old.cycles + length ts
added old new ts e = ap length e ∙ length-append old.cycles ts

-- a whole step adds at most 192 cycles
pub whole_adds_few : (p after : Proc) (old new : BusView) → Completes (step_phrase p) old new after → length new.cycles ≤ length old.cycles + 192
whole_adds_few p after old new c =
    let j = completes_judged (step_phrase p) old new after c in
    let l : length j.0 ≤ 192 = at_most_whole 192 (step_phrase p) after j.0 (short_step p) j.2 in
    let m : length new.cycles ≡ length old.cycles + length j.0 = added old new j.0 j.1 in
    omega arith

-- a step that is stopped has added fewer
pub front_adds_fewer : (p : Proc) (old new : BusView) (s : Stop) → BreaksOff (step_phrase p) old new (breaks.Stop s) → length new.cycles < length old.cycles + 192
front_adds_fewer p old new s c =
    let j = breaks_judged (step_phrase p) old new s c in
    let l : length j.1.0 < 192 = at_most_wants 192 (step_phrase p) j.0 j.1.0 (short_step p) j.1.2 in
    let m : length new.cycles ≡ length old.cycles + length j.1.0 = added old new j.1.0 j.1.1 in
    omega arith
