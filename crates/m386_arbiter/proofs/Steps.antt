-- Each step keeps the rule.
use Rattle.std.proofs.Common.{◌≡◌, ◌≢◌, ◌⊎◌, inl, inr, ℕ, zero, suc, ◌+◌, ◌-◌, ◌%◌, ◌^◌, ◌<◌, ◌≤◌, eqb, cond, Bool, true, false, true≢false, List, [], ◌∷◌, ◌++◌, length, set, get_or, take, refl, sym, ap, ◌∙◌, subst, ⊎_elim, arith, add-zero, min, length-take, length-drop, length-set, length-append, eq-eqb, ne_eqb, lt_of_not-le}
use Rattle.std.proofs.Math.Nat.{mod-add-mod}
use Rattle.std.proofs.Math.ListN.{get_or-append}
use Rattle.std.proofs.lemmas.Grind.{get_or_after_one}
use Rattle.std.proofs.Math.Seq.{get_or-append_right}
use Rattle.std.proofs.lemmas.List.{length-replicate, get_or-replicate, get_or-take}
use mathlib.Core.Logic.{dite}
use mathlib.Core.Option.{none, some, some-ne-none, some-injective}
use native.Mathlib.Decide.{ℕ_discrete, dec_le}
use lib.ListN.{get_elem?}
use Rattle.atomic_table.specs.Table.{State, Me, Step, step, keeps, takes, gives, stepped, opening, Allows, Splits, Joins, Final, Seen}
use Rattle.atomic_table.proofs.Lists.{set_again, set_here, set_else, one_turn, at_longer}
use Rattle.m386_base.specs.declared.ask.Ask.{Ask}
use Rattle.m386_base.specs.declared.ask.Cycle.{Cycle}
use Rattle.m386_memory.specs.History.{RecordView, cycles_of}
use Rattle.m386_arbiter.specs.declared.rule.Opening.{Opening}
use Rattle.m386_arbiter.specs.declared.rule.View.{View}
use Rattle.m386_arbiter.specs.declared.rule.Stage.{Stage}
use Rattle.m386_arbiter.specs.declared.rule.Stage.TheVariants.{Idle, Queued, Holding}
use Rattle.m386_arbiter.specs.Below.{AllBelow}
use Rattle.m386_arbiter.specs.Rule.{total, tickets, has_slot, as_word, FitsStage, Fits, Ruled, first_view, at, Drew, Served, Looked, after_turn, Passed, rest_of, first_of, joined, spent}
use Rattle.m386_arbiter.proofs.Totals.{total_set, total_snoc, total_le, every_set, at_new, at_inside, put_at, put_here, put_else}

abbrev St : Type 0
St = State RecordView View

-- there are at most eight tickets
pub next_is_near : (k : Opening) (s : St) (r : Ruled k s) → r.next ≤ r.served + 8
next_is_near k s r =
    let q : r.next ≡ r.served + total (λ v. tickets v.stage) s.views = r.queued in
    let l : total (λ v. tickets v.stage) s.views ≤ total (λ v. length v.turns) s.views = total_le (λ v. tickets v.stage) (λ v. length v.turns) s.views (λ j v e. (r.each j v e).has_share) in
    let m : total (λ v. length v.turns) s.views ≡ k.count = r.shares in
    let f : k.count ≤ 8 = r.few in
    omega arith

pub begins : (k : Opening) (x : RecordView) → 0 < k.count → k.count ≤ 8 → x.cycles ≡ [] → x.first ≡ k.first.value.first → Ruled k (opening (0 ∷ 0 ∷ []) (x ∷ []) (first_view k))
begins k x some_cpus few none_yet start = record {
  next = 0;
  served = 0;
  log = [];
  home = x;
  out = false;
  owner = λ n. 0;
  holder = λ t. 0;
  words = refl;
  homes = refl;
  at_home = λ _. (none_yet, start);
  away = λ e. absurd (true≢false (sym e));
  queued = refl;
  shares = add-zero _ ∙ length-replicate k.count [];
  few = few;
  below = tt;
  each = only;
}
  where
    mine : Fits k 0 0 [] false (λ n. 0) (λ t. 0) 0 (first_view k)
    mine = record {
      opened = λ _. (refl, refl);
      inside = let l : length (first_view k).turns ≡ k.count = length-replicate k.count [] in omega arith;
      own = λ i h. let l : length (first_view k).turns ≡ k.count = length-replicate k.count [] in let b : i < k.count = omega arith in (refl, get_or-replicate k.count i [] [] b);
      at_stage = tt;
      has_share = omega arith;
    }

    only : (j : ℕ) (v : View) → get_elem? (first_view k ∷ []) j ≡ some v → Fits k 0 0 [] false (λ n. 0) (λ t. 0) j v
    only zero v e = subst (Fits k 0 0 [] false (λ n. 0) (λ t. 0) 0) (some-injective _ _ e) mine
    only (suc j) v e = absurd (some-ne-none v (sym e))

-- a later ticket changes nothing for a seat that has none of it
drawn_stage : (next served : ℕ) (log : List Cycle) (out : Bool) (holder holder' : ℕ → ℕ) (j : ℕ) → ((t : ℕ) → t < next → holder' t ≡ holder t) → (st : Stage)
    → FitsStage next served log out holder j st → FitsStage (next + 1) served log out holder' j st
drawn_stage next served log out holder holder' j same Idle h = tt
drawn_stage next served log out holder holder' j same (Queued t) h = let l : t < next = h.1 in (h.0, omega arith, same t l ∙ h.2)
drawn_stage next served log out holder holder' j same (Holding t found) h = let l : t < next = h.1 in (h.0, omega arith, same t l ∙ h.2, h.3, h.4)

no_slot : (st : Stage) → st ≡ Idle → has_slot st ≡ false
no_slot st e = ap has_slot e

no_ticket : (st : Stage) → st ≡ Idle → tickets st ≡ 0
no_ticket st e = ap tickets e

pub draws : (k : Opening) (slots id : ℕ) (v : View) (c : List (ℕ × RecordView)) → v.stage ≡ Idle → 0 < length v.turns
    → Allows (Ruled k) slots id (v, c) 0 (λ n. (n + 1) % 2 ^ 64) (Drew (step slots 0 1 0 none) (v, c))
draws k slots id v c idle some_share s r len there small =
    let w : View = at v (Queued r.next) in
    let holder' : ℕ → ℕ = put_at r.holder r.next id in
    let mine = r.each id v there in
    let q : r.next ≡ r.served + total (λ v. tickets v.stage) s.views = r.queued in
    let before : (t : ℕ) → t < r.next → holder' t ≡ r.holder t = λ t l. put_else r.holder r.next id t (λ e. omega arith) in
    let up : total (λ v. tickets v.stage) (set s.views id w) + tickets v.stage ≡ total (λ v. tickets v.stage) s.views + 1 = total_set (λ v. tickets v.stage) s.views id v w there in
    let none_yet : tickets v.stage ≡ 0 = no_ticket v.stage idle in
    let same : total (λ v. length v.turns) (set s.views id w) + length v.turns ≡ total (λ v. length v.turns) s.views + length v.turns = total_set (λ v. length v.turns) s.views id v w there in
    let shares : total (λ v. length v.turns) s.views ≡ k.count = r.shares in
    let first : get_or s.words 0 0 ≡ as_word r.next = ap (λ ws. get_or ws 0 0) r.words in (
      w,
      keeps,
      tt,
      record {
        next = r.next + 1;
        served = r.served;
        log = r.log;
        home = r.home;
        out = r.out;
        owner = r.owner;
        holder = holder';
        words = ap (λ ws. set ws 0 ((get_or ws 0 0 + 1) % 2 ^ 64)) r.words ∙ ap (λ n. n ∷ as_word r.served ∷ []) (mod-add-mod r.next (2 ^ 64) 1);
        homes = r.homes;
        at_home = r.at_home;
        away = λ gone.
            let a = r.away gone in
            let f : FitsStage r.next r.served r.log r.out r.holder (r.holder r.served) a.0.stage = (r.each _ a.0 a.1).at_stage in
            let l : r.served < r.next = slot_served r.next r.served r.log r.out r.holder (r.holder r.served) a.0.stage a.2 f in
            let apart : r.holder r.served ≢ id = λ e. true≢false (sym a.2 ∙ ap has_slot (ap (λ (u : View). u.stage) (some-injective a.0 v (sym a.1 ∙ ap (get_elem? s.views) e ∙ there))) ∙ no_slot v.stage idle) in
            (a.0, ap (get_elem? (set s.views id w)) (before r.served l) ∙ set_else s.views id (r.holder r.served) w apart ∙ a.1, a.2);
        queued = omega arith;
        shares = omega arith;
        few = r.few;
        below = r.below;
        each = every_set (Fits k (r.next + 1) r.served r.log r.out r.owner holder') s.views id w
            record {
              opened = mine.opened;
              inside = mine.inside;
              own = mine.own;
              at_stage = (omega arith, omega arith, put_here r.holder r.next id);
              has_share = omega arith;
            }
            (λ j u other e. let f = r.each j u e in record {
              opened = f.opened;
              inside = f.inside;
              own = f.own;
              at_stage = drawn_stage r.next r.served r.log r.out r.holder holder' j before u.stage f.at_stage;
              has_share = f.has_share;
            });
      },
      (r.next, first, refl),
    )
  where
    slot_served : (next served : ℕ) (log : List Cycle) (out : Bool) (holder : ℕ → ℕ) (j : ℕ) (st : Stage) → has_slot st ≡ true → FitsStage next served log out holder j st → served < next
    slot_served next served log out holder j Idle e h = absurd (true≢false (sym e))
    slot_served next served log out holder j (Queued t) e h = absurd (true≢false (sym e))
    slot_served next served log out holder j (Holding t found) e h = let a : t ≡ served = h.0 in let b : t < next = h.1 in omega arith

-- what a seat of another place knows, where the slot goes out
gone_stage : (next served : ℕ) (log : List Cycle) (holder : ℕ → ℕ) (j : ℕ) (st : Stage) → FitsStage next served log false holder j st → FitsStage next served log true holder j st
gone_stage next served log holder j Idle h = tt
gone_stage next served log holder j (Queued t) h = h
gone_stage next served log holder j (Holding t found) h = absurd (true≢false (sym h.4))

is_out : (b : Bool) → (b ≡ false) ⊎ (b ≡ true)
is_out true = inr refl
is_out false = inl refl

module _ (k : Opening) (slots id : ℕ) (v : View) (t : ℕ) where
  abbrev waits : View
  waits = at v (Queued t)

  -- the seat takes the record
  taken : (s : St) (r : Ruled k s) → get_elem? s.views id ≡ some waits → t ≡ r.served → r.out ≡ false
      → (w : View) × (a : _) × Rattle.atomic_table.specs.Table.Valid s.homes [] a × Ruled k (stepped s 1 (get_or s.words 1 0) id [] w a) × Served t (waits, []) (w, Rattle.atomic_table.specs.Table.carried_after [] a)
  taken s r there turn at_home =
      let x = r.home in
      let found : List Cycle = x.cycles in
      let w : View = at v (Holding t found) in
      let mine = r.each id waits there in
      let home = r.at_home at_home in
      let m : (r.served ≤ t) × (t < r.next) × (r.holder t ≡ id) = mine.at_stage in
      let l : t < r.next = m.1 in
      let homes : s.homes ≡ some x ∷ [] = r.homes ∙ ap (λ b. cond b none (some x) ∷ []) at_home in
      let has : 1 ≤ length v.turns = mine.has_share in
      let open_is = mine.opened (omega arith) in
      let up : total (λ v. tickets v.stage) (set s.views id w) + 1 ≡ total (λ v. tickets v.stage) s.views + 1 = total_set (λ v. tickets v.stage) s.views id waits w there in
      let q : r.next ≡ r.served + total (λ v. tickets v.stage) s.views = r.queued in
      let same : total (λ v. length v.turns) (set s.views id w) + length v.turns ≡ total (λ v. length v.turns) s.views + length v.turns = total_set (λ v. length v.turns) s.views id waits w there in
      let shares : total (λ v. length v.turns) s.views ≡ k.count = r.shares in
      let here : r.holder r.served ≡ id = ap r.holder (sym turn) ∙ m.2 in
      let small : found ≡ r.log = home.0 in (
        w,
        takes 0 x,
        ap (λ hs. get_elem? hs 0) homes,
        record {
          next = r.next;
          served = r.served;
          log = r.log;
          home = x;
          out = true;
          owner = r.owner;
          holder = r.holder;
          words = ap (λ ws. set ws 1 (get_or ws 1 0)) r.words;
          homes = ap (λ hs. set hs 0 none) homes;
          at_home = λ e. absurd (true≢false e);
          away = λ _. (w, ap (get_elem? (set s.views id w)) here ∙ set_here s.views id w (at_inside s.views id waits there), refl);
          queued = omega arith;
          shares = omega arith;
          few = r.few;
          below = r.below;
          each = every_set (Fits k r.next r.served r.log true r.owner r.holder) s.views id w
              record {
                opened = mine.opened;
                inside = mine.inside;
                own = mine.own;
                at_stage = (turn, l, m.2, small, refl);
                has_share = mine.has_share;
              }
              (λ j u other e. let f = r.each j u e in record {
                opened = f.opened;
                inside = f.inside;
                own = f.own;
                at_stage = gone_stage r.next r.served r.log r.holder j u.stage (subst (λ b. FitsStage r.next r.served r.log b r.holder j u.stage) at_home f.at_stage);
                has_share = f.has_share;
              });
        },
        (
          x,
          refl,
          home.1 ∙ sym open_is.1,
          rw (open_is.0, small) r.below,
          rw open_is.0 mine.inside,
          λ i h. (mine.own i h).1 ∙ ap (cycles_of (v.low + i)) (sym small),
        ),
      )

  pub looks_waiting : Allows (Ruled k) slots id (waits, []) 1 (λ n. n) (Looked (step slots 1 0 0 none) (waits, []))
  looks_waiting s r len there small = dite (ℕ_discrete (get_or s.words 1 0) (as_word t)) now not_yet
    where
      mine : (r.served ≤ t) × (t < r.next) × (r.holder t ≡ id)
      mine = (r.each id waits there).at_stage

      now : get_or s.words 1 0 ≡ as_word t → (w : View) × (a : _) × Rattle.atomic_table.specs.Table.Valid s.homes [] a × Ruled k (stepped s 1 (get_or s.words 1 0) id [] w a) × Looked (step slots 1 0 0 none) (waits, []) (get_or s.words 1 0) (w, Rattle.atomic_table.specs.Table.carried_after [] a)
      now e =
          let near : r.next ≤ r.served + 8 = next_is_near k s r in
          let a : r.served ≤ t = mine.0 in
          let b : t < r.next = mine.1 in
          let mods : as_word r.served ≡ as_word t = sym (ap (λ ws. get_or ws 1 0) r.words) ∙ e in
          let turn : t ≡ r.served = sym (one_turn r.served t (2 ^ 64) a (omega arith) mods) in
          let home : r.out ≡ false = ⊎_elim (λ h. h) (λ (gone : r.out ≡ true).
          let w = r.away gone in
          let is_me : w.0 ≡ waits = some-injective w.0 waits (sym w.1 ∙ ap (get_elem? s.views) (ap r.holder (sym turn) ∙ mine.2) ∙ there) in
          absurd (true≢false (sym w.2 ∙ ap (λ (u : View). has_slot u.stage) is_me))) (is_out r.out) in
          let d = taken s r there turn home in
          (d.0, d.1, d.2, d.3, ((λ _. d.4), λ n. absurd (n e)))

      not_yet : ¬ (get_or s.words 1 0 ≡ as_word t) → (w : View) × (a : _) × Rattle.atomic_table.specs.Table.Valid s.homes [] a × Ruled k (stepped s 1 (get_or s.words 1 0) id [] w a) × Looked (step slots 1 0 0 none) (waits, []) (get_or s.words 1 0) (w, Rattle.atomic_table.specs.Table.carried_after [] a)
      not_yet n = (
        waits,
        keeps,
        tt,
        subst (λ (z : St). Ruled k z) (λ i. record { words = sym (ap (λ ws. set ws 1 (get_or ws 1 0)) r.words ∙ sym r.words) i; homes = s.homes; views = sym (set_again s.views id waits there) i }) r,
        ((λ e. absurd (n e)), λ _. refl),
      )

-- what a seat of another place knows, where a turn is passed on
passed_stage : (next served : ℕ) (log log' : List Cycle) (out : Bool) (holder : ℕ → ℕ) (id j : ℕ) → holder served ≡ id → j ≢ id → (st : Stage)
    → FitsStage next served log out holder j st → FitsStage next (served + 1) log' false holder j st
passed_stage next served log log' out holder id j here other Idle h = tt
passed_stage next served log log' out holder id j here other (Queued t) h =
    let a : served ≤ t = h.0 in
    let n : t ≢ served = λ e. other (sym h.2 ∙ ap holder e ∙ here) in
    (omega arith, h.1, h.2)
passed_stage next served log log' out holder id j here other (Holding t found) h = absurd (other (sym h.2 ∙ ap holder h.0 ∙ here))

-- what a turn did to the record: it began with what was found, and the cycles added are of this number
pub record Turned (v : View) (found : List Cycle) (x : RecordView) : Type 0 where
  pub one : length v.turns ≡ 1
  pub start : x.first ≡ v.first
  pub below : AllBelow v.count x.cycles
  pub others : (p : ℕ) → p ≢ v.low → cycles_of p x.cycles ≡ cycles_of p found

first_of_one : (l : List (List Ask)) (i : ℕ) → length l ≡ 1 → i < length l → i ≡ 0
first_of_one l i e h = omega arith

module _ (k : Opening) (slots id : ℕ) (v : View) (t : ℕ) (found : List Cycle) (x : RecordView) where
  abbrev holds_it : View
  holds_it = at v (Holding t found)

  pub passes : Turned v found x → Allows (Ruled k) slots id (holds_it, (0, x) ∷ []) 1 (λ n. (n + 1) % 2 ^ 64) (Passed (step slots 1 1 0 none) (holds_it, (0, x) ∷ []))
  passes turned s r len there small =
      let mine = r.each id holds_it there in
      let m : (t ≡ r.served) × (t < r.next) × (r.holder t ≡ id) × (found ≡ r.log) × (r.out ≡ true) = mine.at_stage in
      let w : View = after_turn holds_it ((0, x) ∷ []) in
      let one : length v.turns ≡ 1 = turned.one in
      let opened = mine.opened (omega arith) in
      let inside : v.low + length v.turns ≤ k.count = mine.inside in
      let here : r.holder r.served ≡ id = ap r.holder (sym m.0) ∙ m.2 in
      let up : total (λ v. tickets v.stage) (set s.views id w) + 1 ≡ total (λ v. tickets v.stage) s.views + 0 = total_set (λ v. tickets v.stage) s.views id holds_it w there in
      let q : r.next ≡ r.served + total (λ v. tickets v.stage) s.views = r.queued in
      let same : total (λ v. length v.turns) (set s.views id w) + length v.turns ≡ total (λ v. length v.turns) s.views + 1 = total_set (λ v. length v.turns) s.views id holds_it w there in
      let shares : total (λ v. length v.turns) s.views ≡ k.count = r.shares in
      let owner_is : r.owner v.low ≡ id = ap r.owner (sym (add-zero v.low)) ∙ (mine.own 0 (omega arith)).0 in (
        w,
        gives,
        tt,
        record {
          next = r.next;
          served = r.served + 1;
          log = x.cycles;
          home = x;
          out = false;
          owner = r.owner;
          holder = r.holder;
          words = ap (λ ws. set ws 1 ((get_or ws 1 0 + 1) % 2 ^ 64)) r.words ∙ ap (λ n. as_word r.next ∷ n ∷ []) (mod-add-mod r.served (2 ^ 64) 1);
          homes = ap (λ hs. set hs 0 (some x)) r.homes;
          at_home = λ _. (refl, turned.start ∙ opened.1);
          away = λ e. absurd (true≢false (sym e));
          queued = omega arith;
          shares = omega arith;
          few = r.few;
          below = rw (← opened.0) turned.below;
          each = every_set (Fits k r.next (r.served + 1) x.cycles false r.owner r.holder) s.views id w
              record {
                opened = λ _. opened;
                inside = omega arith;
                own = λ i h. let z : i ≡ 0 = omega arith in (ap r.owner (ap (λ n. v.low + n) z ∙ add-zero v.low) ∙ owner_is, only_one i z);
                at_stage = tt;
                has_share = omega arith;
              }
              (λ j u other e. let f = r.each j u e in record {
                opened = f.opened;
                inside = f.inside;
                own = λ i h. let o = f.own i h in (o.0, o.1 ∙ ap (cycles_of (u.low + i)) (sym m.3) ∙ sym (turned.others (u.low + i) (λ eq. other (sym o.0 ∙ ap r.owner eq ∙ owner_is))));
                at_stage = passed_stage r.next r.served r.log x.cycles r.out r.holder id j here other u.stage f.at_stage;
                has_share = f.has_share;
              });
        },
        refl,
      )
    where
      only_one : (i : ℕ) → i ≡ 0 → get_or (cycles_of v.low x.cycles ∷ []) i [] ≡ cycles_of (v.low + i) x.cycles
      only_one i z = ap (λ n. get_or (cycles_of v.low x.cycles ∷ []) n []) z ∙ ap (λ n. cycles_of n x.cycles) (sym (add-zero v.low) ∙ ap (λ n. v.low + n) (sym z))

-- what a seat knows stays, where no seat has the slot or a ticket changes
module _ (k : Opening) (id : ℕ) (v : View) where
  -- the first share goes to a new seat
  pub splits : v.stage ≡ Idle → 0 < length v.turns → Splits (Ruled k) id v (rest_of v) (first_of v)
  splits idle some_share s r there =
      let mine = r.each id v there in
      let n : ℕ = length v.turns - 1 in
      let left : View = rest_of v in
      let right : View = first_of v in
      let p : ℕ = v.low in
      let place : ℕ = length s.views in
      let owner' : ℕ → ℕ = put_at r.owner p place in
      let left_len : length left.turns ≡ n = length-drop 1 v.turns in
      let right_len : length right.turns ≡ 1 = length-take 1 v.turns ∙ one_is in
      let inside : v.low + length v.turns ≤ k.count = mine.inside in
      let id_in : id < place = at_inside s.views id v there in
      let none_yet : tickets v.stage ≡ 0 = no_ticket v.stage idle in
      let up : total (λ v. tickets v.stage) (set s.views id left) + tickets v.stage ≡ total (λ v. tickets v.stage) s.views + tickets v.stage = total_set (λ v. tickets v.stage) s.views id v left there in
      let up2 : total (λ v. tickets v.stage) (set s.views id left ++ right ∷ []) ≡ total (λ v. tickets v.stage) (set s.views id left) + 0 = total_snoc (λ v. tickets v.stage) (set s.views id left) right in
      let q : r.next ≡ r.served + total (λ v. tickets v.stage) s.views = r.queued in
      let same : total (λ v. length v.turns) (set s.views id left) + length v.turns ≡ total (λ v. length v.turns) s.views + length left.turns = total_set (λ v. length v.turns) s.views id v left there in
      let same2 : total (λ v. length v.turns) (set s.views id left ++ right ∷ []) ≡ total (λ v. length v.turns) (set s.views id left) + length right.turns = total_snoc (λ v. length v.turns) (set s.views id left) right in
      let shares : total (λ v. length v.turns) s.views ≡ k.count = r.shares in
      let last_owner : r.owner p ≡ id = ap r.owner (sym (add-zero p)) ∙ (mine.own 0 (omega arith)).0 in
      let F : ℕ → View → Type 0 = Fits k r.next r.served r.log r.out owner' r.holder in
      record {
        next = r.next;
        served = r.served;
        log = r.log;
        home = r.home;
        out = r.out;
        owner = owner';
        holder = r.holder;
        words = r.words;
        homes = r.homes;
        at_home = r.at_home;
        away = λ gone.
            let a = r.away gone in
            let apart : r.holder r.served ≢ id = λ e. true≢false (sym a.2 ∙ ap has_slot (ap (λ (u : View). u.stage) (some-injective a.0 v (sym a.1 ∙ ap (get_elem? s.views) e ∙ there))) ∙ no_slot v.stage idle) in
            (a.0, at_longer (set s.views id left) (right ∷ []) (r.holder r.served) a.0 (set_else s.views id (r.holder r.served) left apart ∙ a.1), a.2);
        queued = omega arith;
        shares = omega arith;
        few = r.few;
        below = r.below;
        each = λ j u e. ⊎_elim
            (λ (old : (j < length (set s.views id left)) × (get_elem? (set s.views id left) j ≡ some u)). every_set F s.views id left
            record {
              opened = λ h. mine.opened (omega arith);
              inside = omega arith;
              own = λ i h.
                  let o = mine.own (1 + i) (omega arith) in
                  let same_place : (v.low + 1) + i ≡ v.low + (1 + i) = omega arith in
                  (put_else r.owner p place ((v.low + 1) + i) (λ e. omega arith) ∙ ap r.owner same_place ∙ o.0, get_or_after_one v.turns i [] ∙ o.1 ∙ ap (λ m. cycles_of m r.log) (sym same_place));
              at_stage = mine.at_stage;
              has_share = omega arith;
            }
            (λ j u other e. let f = r.each j u e in record {
              opened = f.opened;
              inside = f.inside;
              own = λ i h. let o = f.own i h in (put_else r.owner p place (u.low + i) (λ eq. other (sym o.0 ∙ ap r.owner eq ∙ last_owner)) ∙ o.0, o.1);
              at_stage = f.at_stage;
              has_share = f.has_share;
            })
            j u old.1)
            (λ (new : (j ≡ length (set s.views id left)) × (right ≡ u)). subst (λ (y : ℕ × View). F y.0 y.1) (λ i. (sym (new.0 ∙ length-set s.views id left) i, new.1 i))
            record {
              opened = λ h. mine.opened (omega arith);
              inside = omega arith;
              own = λ i h.
                  let z : i ≡ 0 = omega arith in
                  let back : p + i ≡ p = omega arith in
                  let o = mine.own 0 (omega arith) in
                  (ap owner' back ∙ put_here r.owner p place, ap (λ m. get_or (take 1 v.turns) m []) z ∙ get_or-take 1 v.turns 0 [] (omega arith) ∙ o.1 ∙ ap (λ m. cycles_of (p + m) r.log) (sym z));
              at_stage = tt;
              has_share = omega arith;
            })
            (at_new (set s.views id left) right u j e);
      }
    where
      one_is : min 1 (length v.turns) ≡ 1
      one_is = omega arith

module _ (k : Opening) (id : ℕ) (v : View) (other : ℕ) (u : View) where
  -- one seat goes on with the shares of both
  pub joins : v.stage ≡ Idle → u.stage ≡ Idle → 0 < length v.turns → u.low ≡ v.low + length v.turns → Joins (Ruled k) id v other u (joined v u) spent
  joins idle idle' some_share next_to s r there apart at_other =
      let both : View = joined v u in
      let vs : List View = set s.views id both in
      let theirs_at : get_elem? s.views other ≡ some u = sym (set_else s.views id other both apart) ∙ at_other in
      let mine = r.each id v there in
      let theirs = r.each other u theirs_at in
      let owner' : ℕ → ℕ = λ n. cond (eqb (r.owner n) other) id (r.owner n) in
      let moved : (n : ℕ) → r.owner n ≡ other → owner' n ≡ id = λ n e. rw (eq-eqb (r.owner n) other e) refl in
      let stayed : (n : ℕ) → r.owner n ≢ other → owner' n ≡ r.owner n = λ n e. rw (ne_eqb (r.owner n) other e) refl in
      let mine_in : v.low + length v.turns ≤ k.count = mine.inside in
      let theirs_in : u.low + length u.turns ≤ k.count = theirs.inside in
      let whole : length both.turns ≡ length v.turns + length u.turns = length-append v.turns u.turns in
      let t0 : tickets v.stage ≡ 0 = no_ticket v.stage idle in
      let t1 : tickets u.stage ≡ 0 = no_ticket u.stage idle' in
      let up : total (λ v. tickets v.stage) vs + tickets v.stage ≡ total (λ v. tickets v.stage) s.views + tickets v.stage = total_set (λ v. tickets v.stage) s.views id v both there in
      let up2 : total (λ v. tickets v.stage) (set vs other spent) + tickets u.stage ≡ total (λ v. tickets v.stage) vs + 0 = total_set (λ v. tickets v.stage) vs other u spent at_other in
      let q : r.next ≡ r.served + total (λ v. tickets v.stage) s.views = r.queued in
      let same : total (λ v. length v.turns) vs + length v.turns ≡ total (λ v. length v.turns) s.views + length both.turns = total_set (λ v. length v.turns) s.views id v both there in
      let same2 : total (λ v. length v.turns) (set vs other spent) + length u.turns ≡ total (λ v. length v.turns) vs + 0 = total_set (λ v. length v.turns) vs other u spent at_other in
      let shares : total (λ v. length v.turns) s.views ≡ k.count = r.shares in
      let F : ℕ → View → Type 0 = Fits k r.next r.served r.log r.out owner' r.holder in
      record {
        next = r.next;
        served = r.served;
        log = r.log;
        home = r.home;
        out = r.out;
        owner = owner';
        holder = r.holder;
        words = r.words;
        homes = r.homes;
        at_home = r.at_home;
        away = λ gone.
            let a = r.away gone in
            let not_mine : r.holder r.served ≢ id = λ e. true≢false (sym a.2 ∙ ap has_slot (ap (λ (u : View). u.stage) (some-injective a.0 v (sym a.1 ∙ ap (get_elem? s.views) e ∙ there))) ∙ no_slot v.stage idle) in
            let not_theirs : r.holder r.served ≢ other = λ e. true≢false (sym a.2 ∙ ap has_slot (ap (λ (u : View). u.stage) (some-injective a.0 u (sym a.1 ∙ ap (get_elem? s.views) e ∙ theirs_at))) ∙ no_slot u.stage idle') in
            (a.0, set_else vs other (r.holder r.served) spent not_theirs ∙ set_else s.views id (r.holder r.served) both not_mine ∙ a.1, a.2);
        queued = omega arith;
        shares = omega arith;
        few = r.few;
        below = r.below;
        each = every_set F vs other spent
            record {
              opened = λ h. absurd (omega arith);
              inside = omega arith;
              own = λ i h. absurd (omega arith);
              at_stage = tt;
              has_share = omega arith;
            }
            (λ j w not_other e. every_set (λ j w. j ≢ other → F j w) s.views id both
            (λ _. record {
              opened = λ h. mine.opened some_share;
              inside = omega arith;
              own = λ i h. dite (dec_le (length v.turns) i)
                  (λ ge.
                  let b : i - length v.turns < length u.turns = omega arith in
                  let o = theirs.own (i - length v.turns) b in
                  let same_place : v.low + i ≡ u.low + (i - length v.turns) = omega arith in
                  (moved (v.low + i) (ap r.owner same_place ∙ o.0), get_or-append_right v.turns u.turns i [] ge ∙ o.1 ∙ ap (λ m. cycles_of m r.log) (sym same_place)))
                  (λ less. let l = lt_of_not-le less in let o = mine.own i l in (stayed (v.low + i) (λ e. apart (sym e ∙ o.0)) ∙ o.0, get_or-append v.turns u.turns [] i l ∙ o.1));
              at_stage = subst (λ st. FitsStage r.next r.served r.log r.out r.holder id st) (sym idle) tt;
              has_share = omega arith;
            })
            (λ j w not_mine e not_other. let f = r.each j w e in record {
              opened = f.opened;
              inside = f.inside;
              own = λ i h. let o = f.own i h in (stayed (w.low + i) (λ eq. not_other (sym o.0 ∙ eq)) ∙ o.0, o.1);
              at_stage = f.at_stage;
              has_share = f.has_share;
            })
            j w e not_other);
      }

-- what is known of the record at the end
pub record Closed (k : Opening) (v : View) (x : RecordView) : Type 0 where
  pub start : x.first ≡ k.first.value.first
  pub below : AllBelow k.count x.cycles
  pub own : (i : ℕ) → i < k.count → get_or v.turns i [] ≡ cycles_of i x.cycles

pub closes : (k : Opening) (id : ℕ) (v : View) (ws : List ℕ) (xs : List RecordView) → v.low ≡ 0 → length v.turns ≡ k.count → v.stage ≡ Idle → Final (Seen (Ruled k) id v) ws xs
    → (x : RecordView) × (get_elem? xs 0 ≡ some x) × Closed k v x
closes k id v ws xs low whole idle h =
    let s : St = h.0 in
    let r : Ruled k s = h.1.0 in
    let there : get_elem? s.views id ≡ some v = h.1.1 in
    let x : RecordView = r.home in
    let mine = r.each id v there in
    let t0 : tickets v.stage ≡ 0 = no_ticket v.stage idle in
    let vs : List View = set s.views id spent in
    let up : total (λ v. tickets v.stage) vs + tickets v.stage ≡ total (λ v. tickets v.stage) s.views + 0 = total_set (λ v. tickets v.stage) s.views id v spent there in
    let same : total (λ v. length v.turns) vs + length v.turns ≡ total (λ v. length v.turns) s.views + 0 = total_set (λ v. length v.turns) s.views id v spent there in
    let shares : total (λ v. length v.turns) s.views ≡ k.count = r.shares in
    let le : total (λ v. tickets v.stage) vs ≤ total (λ v. length v.turns) vs = total_le (λ v. tickets v.stage) (λ v. length v.turns) vs
    (every_set (λ j w. tickets w.stage ≤ length w.turns) s.views id spent (omega arith) (λ j w other e. (r.each j w e).has_share)) in
    let q : r.next ≡ r.served + total (λ v. tickets v.stage) s.views = r.queued in
    let none_out : r.next ≡ r.served = omega arith in
    let in_place : r.out ≡ false = ⊎_elim (λ e. e) (λ (gone : r.out ≡ true).
    let a = r.away gone in
    absurd (no_holder r.next r.served r.log r.out r.holder (r.holder r.served) a.0.stage none_out a.2 (r.each _ a.0 a.1).at_stage)) (is_out r.out) in
    let home : r.out ≡ false → (x.cycles ≡ r.log) × (x.first ≡ k.first.value.first) = r.at_home in
    let homes : s.homes ≡ some x ∷ [] = r.homes ∙ ap (λ b. cond b none (some x) ∷ []) in_place in (
      x,
      h.4 0 x (ap (λ hs. get_elem? hs 0) homes),
      record {
        start = (home in_place).1;
        below = subst (AllBelow k.count) (sym (home in_place).0) r.below;
        own = λ i l. let o = mine.own i (omega arith) in let place : v.low + i ≡ i = omega arith in o.1 ∙ ap (λ n. cycles_of n r.log) place ∙ ap (cycles_of i) (sym (home in_place).0);
      },
    )
  where
    no_holder : (next served : ℕ) (log : List Cycle) (out : Bool) (holder : ℕ → ℕ) (j : ℕ) (st : Stage) → next ≡ served → has_slot st ≡ true → FitsStage next served log out holder j st → ⊥
    no_holder next served log out holder j Idle e h f = true≢false (sym h)
    no_holder next served log out holder j (Queued t) e h f = true≢false (sym h)
    no_holder next served log out holder j (Holding t found) e h f = let a : t ≡ served = f.0 in let b : t < next = f.1 in omega arith
