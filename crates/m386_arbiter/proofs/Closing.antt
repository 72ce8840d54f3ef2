-- What the record is at the end.
use Rattle.std.proofs.Common.{◌≡◌, ℕ, ◌+◌, ◌<◌, ◌≤◌, List, [], ◌∷◌, ◌++◌, length, map, get_or, sym, ap, ◌∙◌, subst, arith}
use Rattle.std.proofs.lemmas.List.{length-map}
use mathlib.Core.Option.{some, some-injective}
use lib.ListN.{get_elem?}
use Rattle.atomic_table.specs.Table.{Me, Final, Seen, opening}
use Rattle.m386_memory.specs.History.{RecordView, cycles_of}
use Rattle.m386_arbiter.specs.declared.rule.Opening.{Opening}
use Rattle.m386_arbiter.specs.declared.rule.View.{View}
use Rattle.m386_arbiter.specs.declared.seats.BusSeat.{BusSeat}
use Rattle.m386_arbiter.specs.Below.{AllBelow}
use Rattle.m386_arbiter.specs.Rule.{Ruled, first_view}
use Rattle.m386_arbiter.specs.Ends.{AllOwn, made_by}
use Rattle.m386_arbiter.specs.Dealt.{IsGathered}
use Rattle.m386_arbiter.proofs.Steps.{begins, closes, Closed}
use Rattle.m386_arbiter.proofs.Gathering.{all_own}

-- what the arbiter says of the record that it gives
pub record Ended (k : Opening) (cpus : ℕ) (seats : List BusSeat) (x : RecordView) : Type 0 where
  pub start : x.first ≡ k.first.value.first
  pub below : AllBelow cpus x.cycles
  pub own : AllOwn x.cycles 0 (map made_by seats)

pub ends : (k : Opening) (cpus id : ℕ) (seats : List BusSeat) (me : Me RecordView View) (ws : List ℕ) (xs : List RecordView) (x : RecordView) → k.count ≡ cpus → length seats ≡ cpus → IsGathered 0 (map made_by seats) me
    → Final (Seen (Ruled k) id me.0) ws xs → get_elem? xs 0 ≡ some x → Ended k cpus seats x
ends k cpus id seats me ws xs x count all g h there =
    let len : length me.0.turns ≡ k.count = ap length g.whole ∙ length-map seats made_by ∙ all ∙ sym count in
    let c = closes k id me.0 ws xs g.low len g.idle h in
    let is : c.0 ≡ x = some-injective c.0 x (sym c.1 ∙ there) in
    let d : Closed k me.0 x = subst (λ (y : RecordView). Closed k me.0 y) is c.2 in
    record {
      start = d.start;
      below = subst (λ n. AllBelow n x.cycles) count d.below;
      own = all_own x.cycles 0 (map made_by seats) (λ i l.
          let m : length (map made_by seats) ≡ length seats = length-map seats made_by in
          let b : i < k.count = omega arith in
          let z : i ≡ 0 + i = omega arith in
          ap (λ t. get_or t i []) (sym g.whole) ∙ d.own i b ∙ ap (λ n. cycles_of n x.cycles) z);
    }

-- the rule at the start
pub begins_as : (k : Opening) (x : RecordView) (cpus : ℕ) (nothing items : List RecordView) → nothing ≡ [] → items ≡ nothing ++ x ∷ [] → k.count ≡ cpus → 0 < cpus → cpus ≤ 8 → x.cycles ≡ [] → x.first ≡ k.first.value.first
    → Ruled k (opening (0 ∷ 0 ∷ []) items (first_view k))
begins_as k x cpus nothing items e is count cpu few empty start =
    subst (λ (l : List RecordView). Ruled k (opening (0 ∷ 0 ∷ []) l (first_view k))) (sym (is ∙ ap (λ l. l ++ x ∷ []) e)) (begins k x (subst (λ n. 0 < n) (sym count) cpu) (subst (λ n. n ≤ 8) (sym count) few) empty start)
