-- Phrases that fetch no aligned group twice, and the cycles that are made of them.
use Rattle.std.proofs.Common.{◌≡◌, ℕ, ◌++◌, List, [], ◌∷◌, refl, ◌∙◌, subst, Bool, true, false, ne_eqb}
use Rattle.std.specs.List.{Contains, IsDistinct, AllByRecursion}
use Rattle.std.proofs.lemmas.Bool.{and_parts, eqb-true}
use Rattle.m386_base.specs.declared.ask.Ask.{Ask}
use Rattle.m386_base.specs.declared.fault.Fault.{Fault}
use Rattle.m386_base.specs.Bus.{cycle_of}
use Rattle.m386_base.specs.Laws.{Obeys}
use Rattle.m386_base.specs.Phrase.{Phrase, Done, Faults, Asks, Begins, either, matches, answer_of, role_number, follow, Whole, Wants, Wrong}
use Rattle.m386_base.proofs.Phrases.{matches-cycle_of}
use Rattle.m386_base.proofs.Members.{contains_first, contains_later}
use Rattle.m386_step.specs.Once.{is_fetch, IsAnew, with_fetched, FetchesOnce, groups_fetched, FetchesDiffer}

-- a cycle has the role and the address of the ask that it was made of
pub matches-role : (q t : Ask) → matches q t ≡ true → role_number q.role ≡ role_number t.role
unfolding matches
matches-role q t h = eqb-true _ _ (and_parts _ _ (and_parts _ _ (and_parts _ _ (and_parts _ _ (and_parts _ _ h).0).0).0).0).1

pub matches-fetch : (q t : Ask) → matches q t ≡ true → is_fetch t ≡ is_fetch q
matches-fetch q t h = rw (matches-role q t h) refl

pub matches-addr : (q t : Ask) → matches q t ≡ true → q.addr ≡ t.addr
unfolding matches
matches-addr q t h = eqb-true _ _ (and_parts _ _ (and_parts _ _ (and_parts _ _ h).0).0).1

-- no way through a phrase fetches a group that was fetched, and what it finds is so
abbrev pub Once : {A : Type 0} → (List ℕ → A → Type 0) → List ℕ → Phrase A → Type 0
Once P groups t = Obeys IsAnew with_fetched P (λ later f. Unit {0}) groups t

-- what is found is no matter
abbrev pub AnyGroups : {A : Type 0} → List ℕ → A → Type 0
AnyGroups later a = Unit {0}

-- it fetches nothing
abbrev pub FetchesNone : {A : Type 0} → Phrase A → Type 0
FetchesNone (Done a) = Unit {0}
FetchesNone (Faults f) = Unit {0}
FetchesNone (Begins m t) = FetchesNone t
FetchesNone (Asks q k) = (is_fetch q ≡ false) × ((v : ℕ) → FetchesNone (k v))

-- so it fetches no aligned group again
pub none_once : {A : Type 0} (groups : List ℕ) (t : Phrase A) → FetchesNone t → Once AnyGroups groups t
none_once groups (Done a) h = tt
none_once groups (Faults f) h = tt
none_once groups (Begins m t) h = none_once groups t h
none_once groups (Asks q k) h = λ t m.
    let e : is_fetch t ≡ false = matches-fetch q t m ∙ h.0 in
    (λ f. cc, rw e (none_once groups (k (answer_of t)) (h.1 (answer_of t))))

-- a phrase, and what follows from its end and from its fault
pub once_either : {A B : Type 0} (P : List ℕ → A → Type 0) (groups : List ℕ) (t : Phrase A) (f : A → Phrase B) (g : Fault → Phrase B) → Once P groups t → ((a : A) → FetchesNone (f a)) → ((x : Fault) → FetchesNone (g x)) → Once AnyGroups groups (either t f g)
unfolding either
once_either P groups (Done a) f g h k l = none_once groups (f a) (k a)
once_either P groups (Faults x) f g h k l = none_once groups (g x) (l x)
once_either P groups (Begins m t) f g h k l = once_either P groups t f g h k l
once_either P groups (Asks q c) f g h k l = λ t m. ((h t m).0, once_either P (with_fetched groups t) (c (answer_of t)) f g (h t m).1 k l)

-- each of these cycles fetches a group that was not fetched before it
abbrev AreAnew : List ℕ → List Ask → Type 0
AreAnew groups [] = Unit {0}
AreAnew groups (t ∷ ts) = IsAnew groups t × AreAnew (with_fetched groups t) ts

-- an ask fetches no aligned group that a cycle made of it doesn't fetch
anew_of : (groups : List ℕ) (q t : Ask) → matches q t ≡ true → IsAnew groups t → IsAnew groups q
anew_of groups q t m h = λ f c. h (matches-fetch q t m ∙ f) (subst (Contains groups) (matches-addr q t m) c)

-- the cycles of a whole phrase do
whole_anew : {A : Type 0} (groups : List ℕ) (t : Phrase A) (a : A) (ts : List Ask) → Once AnyGroups groups t → follow t ts ≡ Whole a [] → AreAnew groups ts
unfolding follow
whole_anew groups (Done b) a [] h e = tt
whole_anew groups (Done b) a (x ∷ ts) h e = cc
whole_anew groups (Faults f) a ts h e = cc
whole_anew groups (Begins m t) a ts h e = whole_anew groups t a ts h e
whole_anew groups (Asks q k) a [] h e = cc
whole_anew groups (Asks q k) a (t ∷ ts) h e = go (matches q t) refl (λ o. whole_anew (with_fetched groups t) (k (answer_of t)) a ts o)
  where
    go : (b : Bool) → matches q t ≡ b → (Once AnyGroups (with_fetched groups t) (k (answer_of t)) → follow (k (answer_of t)) ts ≡ Whole a [] → AreAnew (with_fetched groups t) ts) → AreAnew groups (t ∷ ts)
    go true f ih = ((h t f).0, ih (h t f).1 (rw f at e))
    go false f ih = let d : Wrong ≡ Whole a [] = rw f at e in cc

-- and so do those of a proper front, with the ask that is wanted next
wants_anew : {A : Type 0} (groups : List ℕ) (t : Phrase A) (wanted : Ask) (ts : List Ask) → Once AnyGroups groups t → follow t ts ≡ Wants wanted → AreAnew groups (ts ++ wanted ∷ [])
unfolding follow
wants_anew groups (Done b) wanted ts h e = cc
wants_anew groups (Faults f) wanted ts h e = cc
wants_anew groups (Begins m t) wanted ts h e = wants_anew groups t wanted ts h e
wants_anew groups (Asks q k) wanted [] h e =
    let i : q ≡ wanted = cc in
    let made = cycle_of q 0 in
    let m : matches q made ≡ true = matches-cycle_of q 0 refl in
    (subst (IsAnew groups) i (anew_of groups q made m (h made m).0), tt)
wants_anew groups (Asks q k) wanted (t ∷ ts) h e = go (matches q t) refl (λ o. wants_anew (with_fetched groups t) (k (answer_of t)) wanted ts o)
  where
    go : (b : Bool) → matches q t ≡ b → (Once AnyGroups (with_fetched groups t) (k (answer_of t)) → follow (k (answer_of t)) ts ≡ Wants wanted → AreAnew (with_fetched groups t) (ts ++ wanted ∷ [])) → AreAnew groups (t ∷ (ts ++ wanted ∷ []))
    go true f ih = ((h t f).0, ih (h t f).1 (rw f at e))
    go false f ih = let d : Wrong ≡ Wants wanted = rw f at e in cc

all_by : (P Q : ℕ → Type 0) → ((g : ℕ) → P g → Q g) → (gs : List ℕ) → AllByRecursion P gs → AllByRecursion Q gs
all_by P Q i [] h = tt
all_by P Q i (g ∷ gs) h = (i g h.0, all_by P Q i gs h.1)

-- they differ from one another, and from those before
record Differ (groups : List ℕ) (ts : List Ask) : Type 0 where
  pub one_another : FetchesDiffer ts
  pub before : AllByRecursion (λ g. ¬ (Contains groups g)) (groups_fetched ts)

differ : (groups : List ℕ) (ts : List Ask) → AreAnew groups ts → Differ groups ts
unfolding IsDistinct
differ groups [] h = record { one_another = tt; before = tt }
differ groups (t ∷ ts) h = go (is_fetch t) refl (λ later. differ later ts)
  where
    go : (b : Bool) → is_fetch t ≡ b → ((later : List ℕ) → AreAnew later ts → Differ later ts) → Differ groups (t ∷ ts)
    go true e ih =
        let a : AreAnew (t.addr ∷ groups) ts = rw e at h.1 in
        let d = ih (t.addr ∷ groups) a in
        record {
          one_another = rw e (all_by _ _ (λ g n. ne_eqb _ _ (λ i. n (subst (Contains (t.addr ∷ groups)) i (contains_first t.addr groups)))) (groups_fetched ts) d.before, d.one_another);
          before = rw e (h.0 e, all_by _ _ (λ g n c. n (contains_later t.addr groups g c)) (groups_fetched ts) d.before);
        }
    go false e ih =
        let a : AreAnew groups ts = rw e at h.1 in
        let d = ih groups a in
        record { one_another = rw e d.one_another; before = rw e d.before }

-- no two of the cycles of a whole step fetch one group
pub differ_whole : {A : Type 0} (t : Phrase A) (a : A) (ts : List Ask) → FetchesOnce [] t → follow t ts ≡ Whole a [] → FetchesDiffer ts
unfolding FetchesOnce
differ_whole t a ts h e = (differ [] ts (whole_anew [] t a ts h e)).one_another

-- nor do two of those of a proper front, with the cycle that is wanted next
pub differ_wants : {A : Type 0} (t : Phrase A) (wanted : Ask) (ts : List Ask) → FetchesOnce [] t → follow t ts ≡ Wants wanted → FetchesDiffer (ts ++ wanted ∷ [])
unfolding FetchesOnce
differ_wants t wanted ts h e = (differ [] (ts ++ wanted ∷ []) (wants_anew [] t wanted ts h e)).one_another
