-- What holds of a machine that has made no cycle yet.
use Rattle.std.proofs.Common.{◌≡◌, ℕ, ◌+◌, ◌<◌, ◌≤◌, true, false, List, [], ◌∷◌, ◌++◌, length, get_or, refl, sym, ap, subst, ◌∙◌, arith, inl, inr, Option, Some, None, ◌⊎◌}
use Rattle.std.specs.Option.{ForSome}
use Rattle.std.proofs.lemmas.List.{length-append, get_or_append_left, get_or-append-add}
use Rattle.m386_base.specs.declared.ask.Ask.{Ask}
use Rattle.m386_image.specs.declared.image.Image.{Image}
use Rattle.m386_image.specs.Format.{IsValid}
use Rattle.m386_memory.specs.Contents.{Contents}
use Rattle.m386_memory.specs.declared.ended.ProcEnd.{ProcEnd}
use Rattle.m386_memory.proofs.Histories.{IsRecord-empty}
use Rattle.m386_state.specs.declared.proc.Proc.{Proc}
use Rattle.m386_step.specs.Run.{start_of, plan_of, BeginsWith}
use Rattle.m386_core.specs.declared.unfinished.Unfinished.{Unfinished}
use Rattle.m386_core.specs.Kept.{AllEndOrWait, IsKept}
use Rattle.m386_core.specs.Plans.{entries_left}
use Rattle.m386_core.specs.Unfinished.{EndsOrWaits, is_joined}

-- the processors below k are each, and ask for no joined cycle
pub record BegunSoFar (I : Image) (n : ℕ) (E : List (ProcEnd Proc)) (unfinished : List Unfinished) (k : ℕ) : Type 0 where
  pub count : length E ≡ k
  pub count_unfinished : length unfinished ≡ k
  pub each : AllEndOrWait I n [] E unfinished k
  pub alone : (p : ℕ) (t : Unfinished) → p < k → is_joined (get_or unfinished p t).next ≡ false

-- the last item of a list, and those before it
get_or-last : {X : Type 0} (xs : List X) (x d : X) (k : ℕ) → length xs ≡ k → get_or (xs ++ x ∷ []) k d ≡ x
get_or-last xs x d k e =
    let i : k ≡ length xs + 0 = omega arith in
    rw i (get_or-append-add xs (x ∷ []) 0 d)

get_or-front : {X : Type 0} (xs : List X) (x d : X) (k p : ℕ) → length xs ≡ k → p < k → get_or (xs ++ x ∷ []) p d ≡ get_or xs p d
get_or-front xs x d k p e lt = get_or_append_left xs (x ∷ []) d p (omega arith)

opens_alone : (next : Option Ask) → ForSome next (λ a. a.joined ≡ false) → is_joined next ≡ false
opens_alone None h = refl
opens_alone (Some a) h = h a refl

last_or_below : (p k : ℕ) → p < k + 1 → (p ≡ k) ⊎ (p < k)
last_or_below p k lt = grind arith

pub begun_more : (I : Image) (n : ℕ) (E : List (ProcEnd Proc)) (unfinished : List Unfinished) (k : ℕ) (e : ProcEnd Proc) (t : Unfinished) → BegunSoFar I n E unfinished k → EndsOrWaits n (plan_of I k) (start_of I k) [] e t (entries_left k t.plan) t.next → ForSome t.next (λ a. a.joined ≡ false) → BegunSoFar I n (E ++ e ∷ []) (unfinished ++ t ∷ []) (k + 1)
begun_more I n E unfinished k e t h new opens = record {
  count = omega (arith, length-append E (e ∷ []), h.count);
  count_unfinished = omega (arith, length-append unfinished (t ∷ []), h.count_unfinished);
  each = λ p d u lt. elim (last_or_below p k lt) [
    | inl is ↦
        let P : ℕ → Type 0 = λ q. EndsOrWaits n (plan_of I q) (start_of I q) [] (get_or (E ++ e ∷ []) q d) (get_or (unfinished ++ t ∷ []) q u) (entries_left q (get_or (unfinished ++ t ∷ []) q u).plan) (get_or (unfinished ++ t ∷ []) q u).next in
        subst P (sym is) (rw (get_or-last E e d k h.count, get_or-last unfinished t u k h.count_unfinished) new)
    | inr below ↦ rw (get_or-front E e d k p h.count below, get_or-front unfinished t u k p h.count_unfinished below) (h.each p d u below)
  ];
  alone = λ p u lt. elim (last_or_below p k lt) [
    | inl is ↦
        let P : ℕ → Type 0 = λ q. is_joined (get_or (unfinished ++ t ∷ []) q u).next ≡ false in
        subst P (sym is) (rw (get_or-last unfinished t u k h.count_unfinished) (opens_alone t.next opens))
    | inr below ↦ rw (get_or-front unfinished t u k p h.count_unfinished below) (h.alone p u below)
  ];
}

pub kept_first : (I : Image) (c n : ℕ) (first : Contents) (E : List (ProcEnd Proc)) (unfinished : List Unfinished) → IsValid I → 1 ≤ c → c ≤ I.cpus → n ≤ 65536 → BeginsWith I first → BegunSoFar I n E unfinished c → IsKept I c n first [] E unfinished None
kept_first I c n first E unfinished v some most budget begins h = record {
  valid = v;
  some = some;
  most = most;
  budget = budget;
  below = tt;
  begins = begins;
  history = (IsRecord-empty first).history;
  count = h.count;
  count_unfinished = h.count_unfinished;
  each = h.each;
  amid = record {
    below = λ p e. cc;
    last = λ p e. cc;
    joined = λ p t e. cc;
    alone = λ p t lt j. absurd (let d : true ≡ false = sym j ∙ h.alone p t lt in cc);
  };
}
