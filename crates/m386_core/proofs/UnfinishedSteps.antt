-- What a step that was run ahead says of a processor, and what follows from an answer.
use Rattle.std.proofs.Common.{◌≡◌, ◌≢◌, ℕ, ◌+◌, ◌<◌, ◌≤◌, true, List, [], ◌∷◌, ◌++◌, length, get_or, refl, sym, ap, subst, ◌∙◌, append_assoc, append-nil, arith, bit_and, cond, false, Bool, ◌⊎◌, inl, inr}
use Rattle.std.proofs.lemmas.List.{length-append}
use Rattle.std.specs.List.{AllByRecursion}
use Rattle.m386_base.specs.declared.ask.Ask.{Ask}
use Rattle.m386_base.specs.Bus.{IsAsk, IsEnabled, cycle_of, mask}
use Rattle.m386_base.specs.Phrase.{Whole, answer_of, matches}
use Rattle.m386_base.specs.Replay.{AreTold, answer_told}
use Rattle.m386_base.proofs.Growth.{IsExact, exact_more, at_most_wants}
use Rattle.m386_base.proofs.Phrases.{matches-cycle_of}
use Rattle.m386_base.proofs.Replays.{answer_told-cycle_of}
use Rattle.m386_memory.specs.declared.ended.ProcEnd.{ProcEnd}
use Rattle.m386_state.specs.declared.proc.Mode.TheVariants.{Shutdown}
use Rattle.m386_state.specs.declared.proc.Proc.{Proc}
use Rattle.m386_step.specs.Step.{step_phrase, Follow}
use Rattle.m386_step.specs.Steps.{Plan, requested, planned}
use Rattle.m386_step.proofs.Short.{short_step}
use Rattle.m386_core.specs.declared.unfinished.Unfinished.{Unfinished}
use Rattle.m386_core.specs.Ahead.{first_joined, asked_of}
use Rattle.m386_core.specs.Unfinished.{Foresees, HearsOn, IsSameAsk, StepsLeaving, Waits}
use Rattle.m386_core.proofs.Fronts.{front_wants, same_front, asked_same, at_seam, no_rest}
use Rattle.m386_core.proofs.Places.{leaving_more}

-- ---- what is asked for

asked_lawful : (t : Ask) → IsAsk t → IsAsk (asked_of t)
asked_lawful t k = elim t.write as (λ b. IsAsk (cond b t (record t { value = 0 }))) [
  | true ↦ k
  | false ↦ record { aligned = k.aligned; inside = k.inside; some = k.some; group = k.group; part = k.part; value = refl }
]

asked_joined : (t : Ask) → (asked_of t).joined ≡ t.joined
asked_joined t = elim t.write as (λ b. (cond b t (record t { value = 0 })).joined ≡ t.joined) [ true ↦ refl | false ↦ refl ]

lawful_at : (front : List Ask) (x : Ask) (rest : List Ask) → AllByRecursion IsAsk (front ++ x ∷ rest) → IsAsk x
lawful_at [] x rest h = h.0
lawful_at (y ∷ front) x rest h = lawful_at front x rest h.1

-- the first ask of a step isn't joined
pub opens_at : (cycles list : List Ask) (d a : Ask) → 0 < length cycles → list ≡ cycles → a ≡ asked_of (get_or list 0 d) → first_joined cycles ≡ false → a.joined ≡ false
unfolding first_joined
opens_at [] list d a lt is e h = absurd (omega arith)
opens_at (y ∷ cycles) list d a lt is e h = ap (λ (u : Ask). u.joined) (e ∙ ap (λ (l : List Ask). asked_of (get_or l 0 d)) is) ∙ asked_joined y ∙ h

-- ---- a processor that waits

-- a front of a step that was run ahead, and the cycle behind it
pub waits_ahead : (n : ℕ) (q : Plan) (s : Proc) (whole front : List Ask) (e : ProcEnd Proc) (t : Unfinished) (left : Plan) (x : Ask) (rest : List Ask) → e.steps < n → e.after.mode ≢ Shutdown → StepsLeaving e.steps q 0 s whole e.after left → t.cycles.items ≡ front ++ x ∷ rest → Follow (requested left e.steps e.after) t.cycles.items ≡ Whole t.after [] → AllByRecursion IsAsk t.cycles.items → AreTold front t.answers.items → length front ≡ length t.answers.items → Waits n q s (whole ++ front) e t left (asked_of x)
waits_ahead n q s whole front e t left x rest fewer lives steps ahead foreseen lawful told count =
    let p : Proc = requested left e.steps e.after in
    let f : Follow p (front ++ x ∷ rest) ≡ Whole t.after [] = rw ahead at foreseen in
    let w = front_wants (step_phrase p) t.after front x rest f in
    let l : AllByRecursion IsAsk (front ++ x ∷ rest) = rw ahead at lawful in
    record {
      whole = whole;
      front = front;
      later = x;
      rest = rest;
      wanted = w.wanted;
      cycles = refl;
      steps = steps;
      fewer = fewer;
      lives = lives;
      wants = w.wants;
      same = asked_same w.wanted x w.made;
      told = told;
      count = count;
      lawful = asked_lawful x (lawful_at front x rest l);
      ahead = ahead;
      asks = refl;
      foreseen = foreseen;
      lawful_all = lawful;
    }

-- ---- steps that make no cycle

none_at : (cycles : List Ask) → length cycles ≡ 0 → cycles ≡ []
none_at [] h = refl
none_at (x ∷ cycles) h = absurd (omega arith)

-- a step that needs no value makes no cycle, and is one more whole step
pub settles_on : (k : ℕ) (q : Plan) (s p begun : Proc) (answers : List ℕ) (cycles : List Ask) (after : Proc) (ts : List Ask) (left behind : Plan) → p.mode ≢ Shutdown → begun ≡ requested left k p → behind ≡ planned left k p → Foresees begun answers cycles after → length cycles ≡ 0 → StepsLeaving k q 0 s ts p left → StepsLeaving (k + 1) q 0 s ts after behind
settles_on k q s p begun answers cycles after ts left behind lives begun_is behind_is h none steps =
    let f : Follow begun [] ≡ Whole after [] = rw (none_at cycles none) at h.whole in
    let g : Follow (requested left k p) [] ≡ Whole after [] = rw begun_is at f in
    rw behind_is (rw append-nil at (leaving_more k q s p after ts [] left steps lives g))

-- a step that asks for its first cycle
pub settles_at : (n : ℕ) (q : Plan) (s begun : Proc) (ts : List Ask) (e : ProcEnd Proc) (t : Unfinished) (left : Plan) (list : List Ask) (d a : Ask) → e.steps < n → e.after.mode ≢ Shutdown → begun ≡ requested left e.steps e.after → Foresees begun t.answers.items t.cycles.items t.after → t.answers.items ≡ [] → 0 < length t.cycles.items → list ≡ t.cycles.items → a ≡ asked_of (get_or list 0 d) → StepsLeaving e.steps q 0 s ts e.after left → Waits n q s ts e t left a
settles_at n q s begun ts e t left list d a fewer lives begun_is h none some list_is a_is steps =
    let at = at_seam [] t.cycles.items 0 d refl some in
    let told : AreTold [] t.answers.items = tt in
    let x : Ask = get_or t.cycles.items 0 d in
    let whole : Follow (requested left e.steps e.after) t.cycles.items ≡ Whole t.after [] = subst (λ (p : Proc). Follow p t.cycles.items ≡ Whole t.after []) begun_is h.whole in
    let w : Waits n q s (ts ++ []) e t left (asked_of x) = waits_ahead n q s ts [] e t left x at.0 fewer lives steps at.1 whole h.lawful told (sym (ap length none)) in
    let v : Waits n q s ts e t left (asked_of x) = rw append-nil at w in
    let is : a ≡ asked_of x = a_is ∙ ap (λ (l : List Ask). asked_of (get_or l 0 d)) list_is in
    subst (λ (y : Ask). Waits n q s ts e t left y) (sym is) v

-- ---- one more cycle

-- a processor amid a step has made fewer than 192 cycles of it
pub few_answers : (n : ℕ) (q : Plan) (s : Proc) (ts : List Ask) (e : ProcEnd Proc) (t : Unfinished) (left : Plan) (a : Ask) → Waits n q s ts e t left a → length t.answers.items < 192
few_answers n q s ts e t left a w =
    let p : Proc = requested left e.steps e.after in
    let l : length w.front < 192 = at_most_wants 192 (step_phrase p) w.wanted w.front (short_step p) w.wants in
    omega (arith, w.count)

-- and fewer than its step has
pub answers_ahead : (n : ℕ) (q : Plan) (s : Proc) (ts : List Ask) (e : ProcEnd Proc) (t : Unfinished) (left : Plan) (a : Ask) → Waits n q s ts e t left a → length t.answers.items < length t.cycles.items
answers_ahead n q s ts e t left a w =
    let l : length t.cycles.items ≡ length (w.front ++ w.later ∷ w.rest) = ap length w.ahead in
    omega (arith, w.count, l, length-append w.front (w.later ∷ w.rest))

told_more : (ts : List Ask) (vs : List ℕ) (t : Ask) (v : ℕ) → AreTold ts vs → length ts ≡ length vs → answer_of t ≡ answer_told t v → AreTold (ts ++ t ∷ []) (vs ++ v ∷ [])
told_more [] [] t v h l e = (e, tt)
told_more [] (w ∷ vs) t v h l e = absurd (omega arith)
told_more (x ∷ ts) [] t v h l e = absurd h
told_more (x ∷ ts) (w ∷ vs) t v h l e = (h.0, told_more ts vs t v h.1 (omega arith) e)

-- of the answer to an ask the enabled bytes are the whole
answer_masked : (a : Ask) (v : ℕ) → IsEnabled a.enables v → (a.write ≡ true → v ≡ 0) → v ≡ cond a.write 0 (bit_and v (mask a.enables))
answer_masked a v enabled none = go a.write refl
  where
    go : (b : Bool) → a.write ≡ b → v ≡ cond a.write 0 (bit_and v (mask a.enables))
    go true w = rw w (none w)
    go false w = rw w (sym enabled)

heard_told : (front : List Ask) (answers : List ℕ) (a : Ask) (v : ℕ) → AreTold front answers → length front ≡ length answers → IsEnabled a.enables v → (a.write ≡ true → v ≡ 0) → AreTold (front ++ cycle_of a v ∷ []) (answers ++ v ∷ [])
heard_told front answers a v told count enabled none = told_more front answers (cycle_of a v) v told count (answer_told-cycle_of a v v (answer_masked a v enabled none))

heard_count : (front : List Ask) (answers : List ℕ) (x : Ask) (v : ℕ) → length front ≡ length answers → length (front ++ x ∷ []) ≡ length (answers ++ v ∷ [])
heard_count front answers x v count = omega (arith, length-append front (x ∷ []), length-append answers (v ∷ []), count)

asked_read : (b : Bool) (x : Ask) (v : ℕ) → x.write ≡ b → x.value ≡ v → cond b x (record x { value = v }) ≡ x
asked_read true x v w is = refl
asked_read false x v w is = ap (λ (u : ℕ). record x { value = u }) (sym is)

asked_again : (b : Bool) (x : Ask) (v : ℕ) → x.write ≡ b → cycle_of (cond b x (record x { value = 0 })) v ≡ cond b x (record x { value = v })
unfolding cycle_of
asked_again true x v w = rw w refl
asked_again false x v w = rw w refl

-- what was read is what was foreseen
as_foreseen : (x : Ask) (v : ℕ) → (x.write ≡ true) ⊎ (x.value ≡ v) → cycle_of (asked_of x) v ≡ x
as_foreseen x v (inl w) = asked_again x.write x v refl ∙ ap (λ (b : Bool). cond b x (record x { value = v })) w
as_foreseen x v (inr is) = asked_again x.write x v refl ∙ asked_read x.write x v refl is

foreseen_later : (front : List Ask) (later : Ask) (rest cycles : List Ask) (d : Ask) (i : ℕ) → cycles ≡ front ++ later ∷ rest → length front ≡ i → get_or cycles i d ≡ later
foreseen_later [] later rest cycles d i ahead count = rw (ahead, ← count) refl
foreseen_later (y ∷ front) later rest cycles d i ahead count = rw (ahead, ← count) (foreseen_later front later rest (front ++ later ∷ rest) d (length front) refl refl)

-- the step goes on as it was foreseen
pub hears_foreseen : (n : ℕ) (q : Plan) (s : Proc) (ts : List Ask) (e : ProcEnd Proc) (t : Unfinished) (left : Plan) (a d : Ask) (v i : ℕ) (cycles : List Ask) (w : Waits n q s ts e t left a) → IsEnabled a.enables v → (a.write ≡ true → v ≡ 0) → cycles ≡ t.cycles.items → i ≡ length t.answers.items → ((get_or cycles i d).write ≡ true) ⊎ ((get_or cycles i d).value ≡ v) → HearsOn (requested left e.steps e.after) (w.front ++ cycle_of a v ∷ []) (t.answers.items ++ v ∷ []) t.cycles.items t.after
hears_foreseen n q s ts e t left a d v i cycles w enabled none cycles_are i_is so =
    let l : get_or cycles i d ≡ w.later = foreseen_later w.front w.later w.rest cycles d i (cycles_are ∙ w.ahead) (w.count ∙ sym i_is) in
    let so_later : (w.later.write ≡ true) ⊎ (w.later.value ≡ v) = subst (λ (x : Ask). (x.write ≡ true) ⊎ (x.value ≡ v)) l so in
    let c : cycle_of a v ≡ w.later = ap (λ (y : Ask). cycle_of y v) w.asks ∙ as_foreseen w.later v so_later in
    record {
      rest = w.rest;
      ahead = w.ahead ∙ sym (append_assoc w.front (w.later ∷ []) w.rest) ∙ ap (λ (y : Ask). (w.front ++ y ∷ []) ++ w.rest) (sym c);
      told = heard_told w.front t.answers.items a v w.told w.count enabled none;
      count = heard_count w.front t.answers.items (cycle_of a v) v w.count;
      whole = w.foreseen;
      lawful = w.lawful_all;
    }

cycle_enables_own : (a : Ask) (v : ℕ) → (cycle_of a v).enables ≡ a.enables
unfolding cycle_of
cycle_enables_own a v = elim a.write as (λ b. (cond b a (record a { value = v })).enables ≡ a.enables) [ true ↦ refl | false ↦ refl ]

same_matches : (a q : Ask) (v : ℕ) → IsSameAsk a q → IsEnabled a.enables v → matches q (cycle_of a v) ≡ true
same_matches a q v s enabled =
    let e : IsEnabled q.enables v = subst (λ (n : ℕ). IsEnabled n v) (cycle_enables a q v (s.cycles v)) enabled in
    subst (λ (y : Ask). matches q y ≡ true) (sym (s.cycles v)) (matches-cycle_of q v e)
  where
    enables_of : (a : Ask) (v : ℕ) → (cycle_of a v).enables ≡ a.enables
    enables_of a v = cycle_enables_own a v

    cycle_enables : (a q : Ask) (v : ℕ) → cycle_of a v ≡ cycle_of q v → a.enables ≡ q.enables
    cycle_enables a q v e = sym (enables_of a v) ∙ ap (λ (y : Ask). y.enables) e ∙ enables_of q v

-- the step was run ahead again
pub hears_anew : (n : ℕ) (q : Plan) (s begun : Proc) (ts : List Ask) (e : ProcEnd Proc) (t : Unfinished) (left : Plan) (a : Ask) (v : ℕ) (cycles : List Ask) (after : Proc) (w : Waits n q s ts e t left a) → begun ≡ requested left e.steps e.after → IsEnabled a.enables v → (a.write ≡ true → v ≡ 0) → Foresees begun (t.answers.items ++ v ∷ []) cycles after → HearsOn (requested left e.steps e.after) (w.front ++ cycle_of a v ∷ []) (t.answers.items ++ v ∷ []) cycles after
hears_anew n q s begun ts e t left a v cycles after w begun_is enabled none h =
    let p : Proc = requested left e.steps e.after in
    let whole : Follow p cycles ≡ Whole after [] = subst (λ (b : Proc). Follow b cycles ≡ Whole after []) begun_is h.whole in
    let x = cycle_of a v in
    let told : AreTold (w.front ++ x ∷ []) (t.answers.items ++ v ∷ []) = heard_told w.front t.answers.items a v w.told w.count enabled none in
    let m = same_matches a w.wanted v w.same enabled in
    let exact : IsExact (Follow p (w.front ++ x ∷ [])) = exact_more (step_phrase p) w.wanted x w.front w.wants m in
    let b = same_front (step_phrase p) after cycles (w.front ++ x ∷ []) (t.answers.items ++ v ∷ []) whole exact h.told told in
    record {
      rest = b.rest;
      ahead = b.is;
      told = told;
      count = heard_count w.front t.answers.items x v w.count;
      whole = whole;
      lawful = h.lawful;
    }

-- the step asks for a further cycle
pub hears_more : (n : ℕ) (q : Plan) (s : Proc) (ts : List Ask) (e : ProcEnd Proc) (t t2 : Unfinished) (left : Plan) (a x : Ask) (list : List Ask) (i : ℕ) (d b : Ask) (w : Waits n q s ts e t left a) → HearsOn (requested left e.steps e.after) (w.front ++ x ∷ []) t2.answers.items t2.cycles.items t2.after → i ≡ length t2.answers.items → i < length t2.cycles.items → list ≡ t2.cycles.items → b ≡ asked_of (get_or list i d) → Waits n q s (ts ++ x ∷ []) e t2 left b
hears_more n q s ts e t t2 left a x list i d b w h i_is lt list_is b_is =
    let front : List Ask = w.front ++ x ∷ [] in
    let l : i < length (front ++ h.rest) = rw h.ahead at lt in
    let m = at_seam front h.rest i d (h.count ∙ sym i_is) l in
    let y : Ask = get_or (front ++ h.rest) i d in
    let ahead : t2.cycles.items ≡ front ++ y ∷ m.0 = h.ahead ∙ ap (λ (r : List Ask). front ++ r) m.1 in
    let v : Waits n q s (w.whole ++ front) e t2 left (asked_of y) = waits_ahead n q s w.whole front e t2 left y m.0 w.fewer w.lives w.steps ahead h.whole h.lawful h.told h.count in
    let cycles : ts ++ x ∷ [] ≡ w.whole ++ front = ap (λ c. c ++ x ∷ []) w.cycles ∙ append_assoc w.whole w.front (x ∷ []) in
    let u : Waits n q s (ts ++ x ∷ []) e t2 left (asked_of y) = rw cycles v in
    let is : b ≡ asked_of y = b_is ∙ ap (λ (l : List Ask). asked_of (get_or l i d)) (list_is ∙ h.ahead) in
    subst (λ (z : Ask). Waits n q s (ts ++ x ∷ []) e t2 left z) (sym is) u

-- the step is whole
pub hears_end : (n : ℕ) (q : Plan) (s : Proc) (ts : List Ask) (e : ProcEnd Proc) (t : Unfinished) (left behind : Plan) (a x : Ask) (answers : List ℕ) (cycles : List Ask) (after : Proc) (w : Waits n q s ts e t left a) → HearsOn (requested left e.steps e.after) (w.front ++ x ∷ []) answers cycles after → behind ≡ planned left e.steps e.after → length cycles ≤ length answers → StepsLeaving (e.steps + 1) q 0 s (ts ++ x ∷ []) after behind
hears_end n q s ts e t left behind a x answers cycles after w h behind_is le =
    let all : length ((w.front ++ x ∷ []) ++ h.rest) ≤ length answers = rw h.ahead at le in
    let none : h.rest ≡ [] = no_rest (w.front ++ x ∷ []) h.rest (omega (arith, h.count, all)) in
    let is : cycles ≡ w.front ++ x ∷ [] = h.ahead ∙ ap (λ (r : List Ask). (w.front ++ x ∷ []) ++ r) none ∙ append-nil (w.front ++ x ∷ []) in
    let f : Follow (requested left e.steps e.after) (w.front ++ x ∷ []) ≡ Whole after [] = rw is at h.whole in
    let cycles_are : ts ++ x ∷ [] ≡ w.whole ++ (w.front ++ x ∷ []) = ap (λ c. c ++ x ∷ []) w.cycles ∙ append_assoc w.whole w.front (x ∷ []) in
    rw (behind_is, cycles_are) (leaving_more e.steps q s e.after after w.whole (w.front ++ x ∷ []) left w.steps w.lives f)
