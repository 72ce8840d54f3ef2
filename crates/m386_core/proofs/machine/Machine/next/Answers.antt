use Rattle.std.proofs.Common.{◌≡◌, ◌<◌, ◌++◌, ◌∷◌, [], refl, sym, ap, ◌∙◌, arith, true, false, set, inl}
use Rattle.std.proofs.lemmas.List.{get_or-set_same}
use Rattle.m386_base.specs.declared.ask.Ask.{Ask}
use Rattle.m386_base.specs.declared.ask.Cycle.{Cycle}
use Rattle.m386_base.specs.Bus.{cycle_of}
use Rattle.m386_memory.specs.declared.ended.ProcEnd.{ProcEnd}
use Rattle.m386_state.specs.declared.proc.Proc.{Proc}
use Rattle.m386_turns.specs.declared.turns.Turn.TheVariants as turns
use Rattle.m386_core.specs.Kept.{is_another}
use Rattle.m386_core.specs.Plans.{entries_left}
use Rattle.m386_core.specs.Unfinished.{Waits}
use Rattle.m386_step.specs.Run.{start_of, plan_of}
use Rattle.m386_memory.specs.History.{IsHistory, cycles_of}
use Rattle.m386_core.proofs.Growing.{kept_more}
use Rattle.m386_core.proofs.Keeping.{err_is_not_ok, waits_on, waits_as, lawful_at, kept_machine, held_up, finished_at, not_passed, joined_follows}
use Rattle.m386_core.proofs.Orders.{goes_nowhere, goes_cycle}
use Rattle.m386_core.proofs.UnfinishedSteps.{few_answers, answers_ahead}
use Rattle.m386_core.proofs.machine.Machine.next.Goals as goal

pub returns-then-is_held_up-clause-passed : goal.returns-then-is_held_up-clause-passed
returns-then-is_held_up-clause-passed c =
    let i = c.self.inside in
    let another : is_another i.midgroup c.args.cpu ≡ true = sym c.is_held_up.ensures ∙ c.if-is_held_up.true in
    rw (← c.self.view_is) (λ _. held_up i.image.now i.cpus i.budget i.log.first i.log.cycles i.ends.items i.unfinished.items i.midgroup c.self.invariant c.args.cpu another, λ _. refl)

pub returns-then-is_held_up-clause-goes : goal.returns-then-is_held_up-clause-goes
returns-then-is_held_up-clause-goes c =
    let i = c.self.inside in
    goes_nowhere c.args.self.now (rw (← c.self.view_is) (kept_machine i.image.now i.cpus i.budget i.log.first i.log.cycles i.ends.items i.unfinished.items i.midgroup c.self.invariant))

pub returns-in_default-clause-passed : goal.returns-in_default-clause-passed
returns-in_default-clause-passed c =
    let i = c.self.inside in
    let below : c.args.cpu < i.cpus = rw (← c.self.view_is) at c.requires in
    rw (← c.self.view_is) (λ _. inl (finished_at i.image.now i.cpus i.budget i.log.first i.log.cycles i.ends.items i.unfinished.items i.midgroup c.self.invariant c.args.cpu c.index.result.now below (sym c.index.ensures) c.in_default.is), λ _. refl)

pub returns-in_default-clause-goes : goal.returns-in_default-clause-goes
returns-in_default-clause-goes c =
    let i = c.self.inside in
    goes_nowhere c.args.self.now (rw (← c.self.view_is) (kept_machine i.image.now i.cpus i.budget i.log.first i.log.cycles i.ends.items i.unfinished.items i.midgroup c.self.invariant))

pub put-requires-clause-lawful : goal.put-requires-clause-lawful
put-requires-clause-lawful c =
    let i = c.self.inside in
    let below : c.args.cpu < i.cpus = rw (← c.self.view_is) at c.requires in
    lawful_at i.image.now i.cpus i.budget i.log.first i.log.cycles i.ends.items i.unfinished.items i.midgroup c.self.invariant c.args.cpu c.index.result.now c.in-Some.ask below (sym c.index.ensures) c.in-Some.is

pub put-requires-clause-joined : goal.put-requires-clause-joined
put-requires-clause-joined c =
    let i = c.self.inside in
    let below : c.args.cpu < i.cpus = rw (← c.self.view_is) at c.requires in
    joined_follows i.image.now i.cpus i.budget i.log.first i.log.cycles i.ends.items i.unfinished.items i.midgroup c.self.invariant c.args.cpu c.index.result.now c.in-Some.ask below (sym c.index.ensures) c.in-Some.is

pub returns-in_err-value-clause-passed : goal.returns-in_err-value-clause-passed
returns-in_err-value-clause-passed c =
    let i = c.self.inside in
    let below : c.args.cpu < i.cpus = rw (← c.self.view_is) at c.requires in
    let alone : is_another i.midgroup c.args.cpu ≡ false = sym c.is_held_up.ensures ∙ c.if-is_held_up.false in
    rw (← c.self.view_is) (
      λ e. absurd (err_is_not_ok c.from_residual.result turns.PassedOver c.from_residual.ensures.0 e),
      λ h. absurd (not_passed i.image.now i.cpus i.budget i.log.first i.log.cycles i.ends.items i.unfinished.items i.midgroup c.self.invariant c.args.cpu c.index.result.now c.in-Some.ask below alone (sym c.index.ensures) c.in-Some.is h),
    )

pub returns-in_err-value-clause-goes : goal.returns-in_err-value-clause-goes
returns-in_err-value-clause-goes c =
    let i = c.self.inside in
    rw (← c.self.view_is, c.in_err-value.ensures.err) (goes_nowhere (record { image = i.image.now; cpus = i.cpus; budget = i.budget; log = i.log; ends = i.ends.items }) (kept_machine i.image.now i.cpus i.budget i.log.first i.log.cycles i.ends.items i.unfinished.items i.midgroup c.self.invariant))

-- how the processor waited
waited : (c : goal.After-store) → Waits c.self.inside.budget (plan_of c.self.inside.image.now c.args.cpu) (start_of c.self.inside.image.now c.args.cpu) (cycles_of c.args.cpu c.self.inside.log.cycles) c.index_mut-2.result.now c.index_mut.result.now (entries_left c.args.cpu c.index_mut.result.now.plan) c.in-Some.ask
waited c =
    let i = c.self.inside in
    let below : c.args.cpu < i.cpus = rw (← c.self.view_is) at c.requires in
    waits_on i.image.now i.cpus i.budget i.log.first i.log.cycles i.ends.items i.unfinished.items i.midgroup c.self.invariant c.args.cpu c.index.result.now c.index_mut.result.now c.index_mut-2.result.now c.in-Some.ask below c.index.ensures c.index_mut.ensures.value c.index_mut-2.ensures.value c.in-Some.is

pub hear-requires-clause-room : goal.hear-requires-clause-room
hear-requires-clause-room c =
    let i = c.self.inside in
    few_answers i.budget (plan_of i.image.now c.args.cpu) (start_of i.image.now c.args.cpu) (cycles_of c.args.cpu i.log.cycles) c.index_mut-2.result.now c.index_mut.result.now (entries_left c.args.cpu c.index_mut.result.now.plan) c.in-Some.ask (waited c)

pub hear-requires-clause-ahead : goal.hear-requires-clause-ahead
hear-requires-clause-ahead c =
    let i = c.self.inside in
    answers_ahead i.budget (plan_of i.image.now c.args.cpu) (start_of i.image.now c.args.cpu) (cycles_of c.args.cpu i.log.cycles) c.index_mut-2.result.now c.index_mut.result.now (entries_left c.args.cpu c.index_mut.result.now.plan) c.in-Some.ask (waited c)

pub hear-requires-clause-fewer : goal.hear-requires-clause-fewer
hear-requires-clause-fewer c = (waited c).fewer

pub hear-requires-clause-lives : goal.hear-requires-clause-lives
hear-requires-clause-lives c = (waited c).lives

pub invariant_of-self-2 : goal.invariant_of-self-2
invariant_of-self-2 c =
    let i = c.self.inside in
    let below : c.args.cpu < i.cpus = rw (← c.self.view_is) at c.requires in
    let alone : is_another i.midgroup c.args.cpu ≡ false = sym c.is_held_up.ensures ∙ c.if-is_held_up.false in
    let x : Cycle = record { cpu = c.args.cpu; ask = cycle_of c.in-Some.ask c.in_ok-value.value } in
    let waited = waits_on i.image.now i.cpus i.budget i.log.first i.log.cycles i.ends.items i.unfinished.items i.midgroup c.self.invariant c.args.cpu c.index.result.now c.index_mut.result.now c.index_mut-2.result.now c.in-Some.ask below c.index.ensures c.index_mut.ensures.value c.index_mut-2.ensures.value c.in-Some.is in
    let history : IsHistory i.log.first (i.log.cycles ++ x ∷ []) = rw c.in_ok-value.ensures.made at c.in_ok-value.ensures.history in
    let new = c.hear.ensures (plan_of i.image.now c.args.cpu) (start_of i.image.now c.args.cpu) (cycles_of c.args.cpu i.log.cycles) c.in-Some.ask waited c.in_ok-value.ensures.enabled c.in_ok-value.ensures.none in
    let reread : c.index-2.result.now ≡ c.hear.new.self = c.index-2.ensures ∙ get_or-set_same i.unfinished.items c.args.cpu c.hear.new.self c.index-2.result.now (omega (arith, c.self.invariant.count_unfinished)) in
    rw (c.in_ok-value.ensures.made, c.midgroup-self-inside.ensures, reread) (
    kept_more i.image.now i.cpus i.budget i.log.first i.log.cycles i.ends.items i.unfinished.items i.midgroup c.args.cpu x c.hear.new.end c.hear.new.self c.self.invariant below refl alone history new)

pub returns-clause-passed : goal.returns-clause-passed
returns-clause-passed c =
    let i = c.self.inside in
    let below : c.args.cpu < i.cpus = rw (← c.self.view_is) at c.requires in
    let alone : is_another i.midgroup c.args.cpu ≡ false = sym c.is_held_up.ensures ∙ c.if-is_held_up.false in
    rw (← c.self.view_is) (
      λ e. absurd (cc),
      λ h. absurd (not_passed i.image.now i.cpus i.budget i.log.first i.log.cycles i.ends.items i.unfinished.items i.midgroup c.self.invariant c.args.cpu c.index.result.now c.in-Some.ask below alone (sym c.index.ensures) c.in-Some.is h),
    )

pub returns-clause-made : goal.returns-clause-made
returns-clause-made c =
    let i = c.self.inside in
    let below : c.args.cpu < i.cpus = rw (← c.self.view_is) at c.requires in
    let e : ProcEnd Proc = c.index_mut-2.result.now in
    let waited = waits_on i.image.now i.cpus i.budget i.log.first i.log.cycles i.ends.items i.unfinished.items i.midgroup c.self.invariant c.args.cpu c.index.result.now c.index_mut.result.now e c.in-Some.ask below c.index.ensures c.index_mut.ensures.value c.index_mut-2.ensures.value c.in-Some.is in
    λ _. rw (← c.self.view_is, c.in_ok-value.ensures.made) (record {
      same = record { image = refl; cpus = refl; budget = refl; first = refl };
      asked = waited.wanted;
      value = c.in_ok-value.value;
      awaited = (e, waits_as i.image.now i.budget i.log.cycles c.args.cpu e c.index_mut.result.now (entries_left c.args.cpu c.index_mut.result.now.plan) c.in-Some.ask waited);
      cycles = ap (λ (y : Ask). i.log.cycles ++ record { cpu = c.args.cpu; ask = y } ∷ []) (waited.same.cycles c.in_ok-value.value);
    })

pub returns-clause-goes : goal.returns-clause-goes
returns-clause-goes c =
    let i = c.self.inside in
    goes_cycle c.args.cpu c.args.self.now (record { image = i.image.now; cpus = i.cpus; budget = i.budget; log = c.put.new.self; ends = set i.ends.items c.args.cpu c.hear.new.end }) (returns-clause-made c refl)
    (kept_machine i.image.now i.cpus i.budget c.put.new.self.first c.put.new.self.cycles (set i.ends.items c.args.cpu c.hear.new.end) (set i.unfinished.items c.args.cpu c.hear.new.self) c.midgroup-self-inside.result (invariant_of-self-2 c))
