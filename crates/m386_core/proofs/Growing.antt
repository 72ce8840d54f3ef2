-- What one more cycle makes of the parts of a machine.
use Rattle.std.proofs.Common.{◌≡◌, ◌≢◌, ℕ, ◌<◌, Bool, true, false, cond, List, [], ◌∷◌, ◌++◌, length, get_or, set, refl, sym, ap, subst, ◌∙◌, arith, inl, inr, Option, Some, None}
use Rattle.std.specs.List.{AllByRecursion}
use Rattle.std.proofs.lemmas.Bool.{cases_eq}
use Rattle.std.proofs.lemmas.List.{length-set, get_or-set_same, get_or-set_other}
use Rattle.m386_base.specs.declared.ask.Cycle.{Cycle}
use Rattle.m386_image.specs.declared.image.Image.{Image}
use Rattle.m386_memory.specs.Contents.{Contents}
use Rattle.m386_memory.specs.History.{IsHistory, cycles_of}
use Rattle.m386_memory.proofs.Histories.{cycles_of-own, cycles_of-other, last_cpu-push}
use Rattle.m386_memory.specs.declared.ended.ProcEnd.{ProcEnd}
use Rattle.m386_state.specs.declared.proc.Proc.{Proc}
use Rattle.m386_step.specs.Run.{start_of, plan_of}
use Rattle.m386_core.specs.declared.unfinished.Unfinished.{Unfinished}
use Rattle.m386_core.specs.Kept.{AllEndOrWait, IsAmid, IsKept, is_another}
use Rattle.m386_core.specs.Plans.{entries_left}
use Rattle.m386_core.specs.Unfinished.{EndsOrWaits, is_joined}

pub below_more : (c : ℕ) (H : List Cycle) (x : Cycle) → AllByRecursion (λ (y : Cycle). y.cpu < c) H → x.cpu < c → AllByRecursion (λ (y : Cycle). y.cpu < c) (H ++ x ∷ [])
below_more c [] x h lt = (lt, tt)
below_more c (y ∷ H) x h lt = (h.0, below_more c H x h.1 lt)

each_more : (I : Image) (c n : ℕ) (H : List Cycle) (E : List (ProcEnd Proc)) (unfinished : List Unfinished) (cpu : ℕ) (x : Cycle) (e2 : ProcEnd Proc) (t2 : Unfinished) → length E ≡ c → length unfinished ≡ c → cpu < c → x.cpu ≡ cpu → AllEndOrWait I n H E unfinished c → EndsOrWaits n (plan_of I cpu) (start_of I cpu) (cycles_of cpu H ++ x.ask ∷ []) e2 t2 (entries_left cpu t2.plan) t2.next
    → AllEndOrWait I n (H ++ x ∷ []) (set E cpu e2) (set unfinished cpu t2) c
each_more I c n H E unfinished cpu x e2 t2 count count_unfinished lt by h new p e t below = elim (cases_eq p cpu) [
  | inl is ↦
      let P : ℕ → Type 0 = λ q. EndsOrWaits n (plan_of I q) (start_of I q) (cycles_of q (H ++ x ∷ [])) (get_or (set E cpu e2) q e) (get_or (set unfinished cpu t2) q t) (entries_left q (get_or (set unfinished cpu t2) q t).plan) (get_or (set unfinished cpu t2) q t).next in
      let own : EndsOrWaits n (plan_of I cpu) (start_of I cpu) (cycles_of cpu (H ++ x ∷ [])) e2 t2 (entries_left cpu t2.plan) t2.next = rw (cycles_of-own cpu H x by) new in
      let state : get_or (set E cpu e2) cpu e ≡ e2 = get_or-set_same E cpu e2 e (omega arith) in
      let step : get_or (set unfinished cpu t2) cpu t ≡ t2 = get_or-set_same unfinished cpu t2 t (omega arith) in
      subst P (sym is) (rw (state, step) own)
  | inr other ↦
      let different : x.cpu ≢ p = λ e. other (sym e ∙ by) in
      let state : get_or (set E cpu e2) p e ≡ get_or E p e = get_or-set_other E cpu p e2 e other in
      let step : get_or (set unfinished cpu t2) p t ≡ get_or unfinished p t = get_or-set_other unfinished cpu p t2 t other in
      rw (cycles_of-other p H x different, state, step) (h p e t below)
]

-- who is named is the processor, where its next ask is joined
named_is : (b : Bool) (cpu p : ℕ) → cond b (Some cpu) None ≡ Some p → p ≡ cpu
named_is true cpu p e = cc
named_is false cpu p e = cc

named_joined : (b : Bool) (cpu p : ℕ) → cond b (Some cpu) None ≡ Some p → b ≡ true
named_joined true cpu p e = refl
named_joined false cpu p e = cc

not_another : (midgroup : Option ℕ) (cpu p : ℕ) → is_another midgroup cpu ≡ false → midgroup ≡ Some p → p ≡ cpu
not_another midgroup cpu p h e =
    let b : is_another (Some p) cpu ≡ false = rw e at h in grind (arith, b)

amid_more : (H : List Cycle) (unfinished : List Unfinished) (c : ℕ) (midgroup : Option ℕ) (cpu : ℕ) (x : Cycle) (t2 : Unfinished) → length unfinished ≡ c → cpu < c → x.cpu ≡ cpu → is_another midgroup cpu ≡ false → IsAmid H unfinished c midgroup → IsAmid (H ++ x ∷ []) (set unfinished cpu t2) c (cond (is_joined t2.next) (Some cpu) None)
amid_more H unfinished c midgroup cpu x t2 count lt by alone h = record {
  below = λ p e. rw (named_is (is_joined t2.next) cpu p e) lt;
  last = λ p e. last_cpu-push H x ∙ ap Some (by ∙ sym (named_is (is_joined t2.next) cpu p e));
  joined = λ p t e. rw (named_is (is_joined t2.next) cpu p e, get_or-set_same unfinished cpu t2 t (omega arith)) (named_joined (is_joined t2.next) cpu p e);
  alone = λ p t below j. elim (cases_eq p cpu) [
    | inl is ↦
        let own : is_joined (get_or (set unfinished cpu t2) cpu t).next ≡ true = subst (λ (q : ℕ). is_joined (get_or (set unfinished cpu t2) q t).next ≡ true) is j in
        let k : is_joined t2.next ≡ true = rw (get_or-set_same unfinished cpu t2 t (omega arith)) at own in
        rw (k, is) refl
    | inr other ↦
        let k : is_joined (get_or unfinished p t).next ≡ true = rw (get_or-set_other unfinished cpu p t2 t other) at j in
        absurd (other (not_another midgroup cpu p alone (h.alone p t below k)))
  ];
}

pub kept_more : (I : Image) (c n : ℕ) (first : Contents) (H : List Cycle) (E : List (ProcEnd Proc)) (unfinished : List Unfinished) (midgroup : Option ℕ) (cpu : ℕ) (x : Cycle) (e2 : ProcEnd Proc) (t2 : Unfinished) → IsKept I c n first H E unfinished midgroup → cpu < c → x.cpu ≡ cpu → is_another midgroup cpu ≡ false → IsHistory first (H ++ x ∷ []) → EndsOrWaits n (plan_of I cpu) (start_of I cpu) (cycles_of cpu H ++ x.ask ∷ []) e2 t2 (entries_left cpu t2.plan) t2.next
    → IsKept I c n first (H ++ x ∷ []) (set E cpu e2) (set unfinished cpu t2) (cond (is_joined t2.next) (Some cpu) None)
kept_more I c n first H E unfinished midgroup cpu x e2 t2 k lt by alone history new = record {
  valid = k.valid;
  some = k.some;
  most = k.most;
  budget = k.budget;
  below = below_more c H x k.below (rw by lt);
  begins = k.begins;
  history = history;
  count = length-set E cpu e2 ∙ k.count;
  count_unfinished = length-set unfinished cpu t2 ∙ k.count_unfinished;
  each = each_more I c n H E unfinished cpu x e2 t2 k.count k.count_unfinished lt by k.each new;
  amid = amid_more H unfinished c midgroup cpu x t2 k.count_unfinished lt by alone k.amid;
}
