-- The cycles of a whole switch.
use Rattle.std.proofs.Common.{◌≡◌, ℕ, Bool, List, []}
use Rattle.m386_base.specs.declared.ask.Ask.{Ask}
use Rattle.m386_base.specs.Phrase.{follow, Whole}
use Rattle.m386_base.specs.declared.kind.SwitchKind.{SwitchKind}
use Rattle.m386_state.specs.declared.proc.Proc.{Proc}
use Rattle.m386_switch.specs.Switch.{switch_phrase}
use Rattle.m386_switch.specs.declared.outcome.Switched.{Switched}
use Rattle.m386_stages.specs.Stages.{Stage, Allowed, Left, Path, begins}
use Rattle.m386_stages.proofs.Law.{switch_keeps}
use Rattle.m386_stages.proofs.Ways.{keeps_whole}

pub switch_path : (p : Proc) (kind : SwitchKind) (selector : ℕ) (direct ext : Bool) (ts : List Ask) (r : Switched) → Allowed p kind → follow (switch_phrase p kind selector direct ext) ts ≡ Whole r [] → (g : Stage) × Path p.gdtr (begins p) ts g × Left p g r
switch_path p kind selector direct ext ts r h e = keeps_whole p.gdtr (Left p) (begins p) (switch_phrase p kind selector direct ext) r ts (switch_keeps p kind selector direct ext h) e
