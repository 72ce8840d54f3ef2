-- Each operation, what it comes to in a task switch and LTR among them, in its stages.
use Rattle.std.proofs.Common.{◌≡◌, ℕ, zero, suc, refl, sym, subst, List, [], ◌∷◌, Bool, true, cond, Option, Some}
use Rattle.m386_base.specs.declared.ask.Ask.{Ask}
use Rattle.m386_base.specs.declared.kind.SwitchKind.{SwitchKind}
use Rattle.m386_base.specs.declared.kind.SwitchKind.TheVariants as switches
use Rattle.m386_base.specs.Bus.{cycle_of}
use Rattle.m386_base.specs.Laws.{Turns}
use Rattle.m386_base.specs.Phrase.{Phrase, Done, Faults, Asks, Begins, ◌>>=◌}
use Rattle.m386_opmap.specs.declared.op.Op.{Op}
use Rattle.m386_state.specs.declared.proc.Proc.{Proc}
use Rattle.m386_access.specs.Ordinary.{Ordinary, Keeps, PlainFrom, is_nested}
use Rattle.m386_data.proofs.Plain as data_laws
use Rattle.m386_data.specs.Exec as data_specs
use Rattle.m386_deliver.proofs.Plain as deliver_laws
use Rattle.m386_deliver.specs.Exec as deliver_specs
use Rattle.m386_gates.proofs.Plain as gates_laws
use Rattle.m386_gates.specs.Exec as gates_specs
use Rattle.m386_iomap.proofs.Plain as ports_laws
use Rattle.m386_iomap.specs.Exec as ports_specs
use Rattle.m386_segments.proofs.Plain as segments_laws
use Rattle.m386_segments.specs.Exec as segments_specs
use Rattle.m386_stack.proofs.Plain as stack_laws
use Rattle.m386_stack.specs.Exec as stack_specs
use Rattle.m386_string.proofs.Plain as string_laws
use Rattle.m386_string.specs.Exec as string_specs
use Rattle.m386_stages.specs.Stages.{Stage, Allowed, Keeps as KeepsToStages, Left, on}
use Rattle.m386_stages.proofs.Chains.{turns_then}
use Rattle.m386_stages.proofs.Law.{switch_keeps_from}
use Rattle.m386_switch.specs.Switch.{work_phrase}
use Rattle.m386_system.proofs.Plain.{work_plain}
use Rattle.m386_system.specs.Exec as system_specs
use Rattle.m386_system.specs.Work.{work_of}
use Rattle.m386_system.specs.declared.work.Privileged.TheVariants as privileged
use Rattle.m386_system.specs.declared.work.Work.{Work}
use Rattle.m386_system.specs.declared.work.Work.TheVariants as kinds
use Rattle.m386_transfer.specs.declared.executed.Executed.{Executed}
use Rattle.m386_transfer.specs.declared.executed.Executed.TheVariants.{Ran, Came}
use Rattle.m386_transfer.specs.Executed.{simply, ran_whole, came_whole}
use Rattle.m386_transfer.specs.Tried.{IsSwitching, KeepsRun, Tried}
use Rattle.m386_step.specs.Instruction.{operation_phrase}
use Rattle.m386_exclusion.specs.Histories.{Stands}
use Rattle.m386_exclusion_runs.proofs.Ordinary.{Behind, StandsBefore, before_stands, keeps_stands, ordinary_leads, plain_turns, turns_done, turns_faults, turns_if, turns_soundly}
use Rattle.m386_exclusion_runs.proofs.TaskLoads.{task_load_turns}

-- where an instruction ends, by whether it came to a switch
abbrev pub RanTo : Proc → Stage → Executed → Type 0
RanTo p g (Ran r) = Stands p g r.after
RanTo p g (Came r) = Left p g r

-- the law of an operation in its stages
abbrev pub InStages : Proc → Stage → Phrase Executed → Type 0
InStages p g t = Turns (on p.gdtr) (RanTo p) (StandsBefore p) g t

allowed_of : (p : Proc) (kind : SwitchKind) → (kind ≡ switches.Iret → is_nested p ≡ true) → Allowed p kind
allowed_of p switches.Iret h = h refl
allowed_of p switches.Jmp h = tt
allowed_of p switches.Call h = tt
allowed_of p switches.Event h = tt
allowed_of p switches.Start h = tt

-- a switch behind ordinary cycles
switching_turns : (p : Proc) (ts : List Ask) (g : Stage) (kind : SwitchKind) (selector : ℕ) (direct ext : Bool) → Behind p ts g → (kind ≡ switches.Iret → is_nested p ≡ true) → InStages p g (work_phrase p kind selector direct ext >>= came_whole)
unfolding KeepsToStages
switching_turns p ts g kind selector direct ext h back =
    turns_then (on p.gdtr) (Left p) (RanTo p) (StandsBefore p) g (work_phrase p kind selector direct ext) came_whole
    (turns_soundly (on p.gdtr) (Left p) (StandsBefore p) g _ (switch_keeps_from p h.nt g kind selector direct ext h.nested h.phase (allowed_of p kind back)))
    (λ r g2 l. turns_done (on p.gdtr) (RanTo p) (StandsBefore p) g2 (Came r) l)

run_stands : (p : Proc) (us : List Ask) (g : Stage) (e : Executed) → Behind p us g → KeepsRun p us e → RanTo p g e
run_stands p us g (Ran r) h k = keeps_stands p us g r.after h k
run_stands p us g (Came r) h k = absurd k

-- What owes the law of an instruction that may end in a task switch.
pub tried_turns : (n : ℕ) (p : Proc) (ts : List Ask) (g : Stage) (t : Phrase Executed) → Behind p ts g → Tried n (Ordinary p.gdtr) (KeepsRun p) p ts t → InStages p g t
unfolding Tried Turns
tried_turns n p ts g (Done e) h k = run_stands p ts g e h k
tried_turns n p ts g (Faults f) h k = before_stands p ts g h
tried_turns n p ts g (Begins m t) h k =
    let s : IsSwitching p m t = k.2 in
    subst (InStages p g) (sym s.work) (switching_turns p ts g s.brief.kind s.brief.selector s.brief.direct s.brief.ext h s.back)
tried_turns zero p ts g (Asks q c) h k = absurd k
tried_turns (suc n) p ts g (Asks q c) h k = λ v.
    let l = ordinary_leads p ts g q v h k.0 in
    (l.0, l.1, tried_turns n p (cycle_of q v ∷ ts) l.0 (c v) l.2 (k.1 v))

-- what comes to no switch
whole_turns : (n : ℕ) (p : Proc) (g : Stage) (t : Phrase Proc) → Behind p [] g → PlainFrom n p t → Turns (on p.gdtr) (Stands p) (StandsBefore p) g t
whole_turns n p g t h k = plain_turns n p (Keeps p) (Stands p) [] g t (λ us g2 after b e. keeps_stands p us g2 after b e) h k

ran_turns : (p : Proc) (g : Stage) (t : Phrase Proc) → Turns (on p.gdtr) (Stands p) (StandsBefore p) g t → InStages p g (simply t)
unfolding simply
ran_turns p g t k = turns_then (on p.gdtr) (Stands p) (RanTo p) (StandsBefore p) g t ran_whole k (λ after g2 s. turns_done (on p.gdtr) (RanTo p) (StandsBefore p) g2 _ s)

simply_turns : (n : ℕ) (p : Proc) (g : Stage) (t : Phrase Proc) → Behind p [] g → PlainFrom n p t → InStages p g (simply t)
simply_turns n p g t h k = ran_turns p g t (whole_turns n p g t h k)

-- the processor's own operations
work_turns : (work : Option Work) (op : Op) (p : Proc) (g : Stage) → Behind p [] g → Turns (on p.gdtr) (Stands p) (StandsBefore p) g (system_specs.work_phrase work op p)
work_turns (Some (kinds.Privileged privileged.LoadTask)) op p g h = task_load_turns op p g h
work_turns work op p g h = whole_turns 6 p g _ h (work_plain work op p refl)

system_turns : (op : Op) (p : Proc) (g : Stage) → Behind p [] g → Turns (on p.gdtr) (Stands p) (StandsBefore p) g (system_specs.exec_phrase op p)
unfolding system_specs.exec_phrase
system_turns op p g h = work_turns (work_of op.name op.args.items) op p g h

choice : (p : Proc) (g : Stage) (b : Bool) (t u : Phrase Executed) → InStages p g t → InStages p g u → InStages p g (cond b t u)
choice p g b t u h k = turns_if (on p.gdtr) (RanTo p) (StandsBefore p) g b t u (λ e. h) (λ e. k)

-- Each crate of operations, one line.
pub operation_turns : (op : Op) (p : Proc) (g : Stage) → Behind p [] g → InStages p g (operation_phrase op p)
unfolding operation_phrase
operation_turns op p g h =
    choice p g (data_specs.takes op) _ _ (simply_turns 8 p g _ h (data_laws.exec_plain op p))
    (choice p g (deliver_specs.takes op) _ _ (tried_turns 117 p [] g _ h (deliver_laws.exec_tried op p))
    (choice p g (gates_specs.takes op) _ _ (tried_turns 154 p [] g _ h (gates_laws.exec_tried op p))
    (choice p g (ports_specs.takes op) _ _ (simply_turns 6 p g _ h (ports_laws.exec_plain op p))
    (choice p g (segments_specs.takes op) _ _ (simply_turns 9 p g _ h (segments_laws.exec_plain op p))
    (choice p g (stack_specs.takes op) _ _ (simply_turns 16 p g _ h (stack_laws.exec_plain op p))
    (choice p g (string_specs.takes op) _ _ (simply_turns 4 p g _ h (string_laws.exec_plain op p))
    (choice p g (system_specs.takes op) _ _ (ran_turns p g _ (system_turns op p g h))
    (turns_faults _ (on p.gdtr) (RanTo p) (StandsBefore p) g _ (before_stands p [] g h)))))))))
