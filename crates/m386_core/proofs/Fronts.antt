-- Fronts of the cycles of a whole phrase.
use Rattle.std.proofs.Common.{◌≡◌, ℕ, ◌<◌, ◌+◌, zero, suc, Bool, true, false, cond, List, [], ◌∷◌, ◌++◌, length, get_or, refl, sym, ◌∙◌, ap, subst, arith, eqb, bit_and}
use Rattle.std.proofs.lemmas.Bool.{and_parts, eqb-true}
use Rattle.m386_base.specs.declared.ask.Ask.{Ask}
use Rattle.m386_base.specs.declared.ask.Role.{Role}
use Rattle.m386_base.specs.declared.ask.Role.TheVariants as roles
use Rattle.m386_base.specs.declared.ask.Space.{Space}
use Rattle.m386_base.specs.declared.ask.Space.TheVariants as spaces
use Rattle.m386_base.specs.Bus.{mask, cycle_of}
use Rattle.m386_base.specs.Phrase.{Phrase, Done, Faults, Asks, Begins, follow, Whole, Wants, Wrong, matches, answer_of, agree, space_number, role_number}
use Rattle.m386_base.specs.Replay.{AreTold, answer_told}
use Rattle.m386_base.proofs.Growth.{IsExact}
use Rattle.m386_core.specs.Ahead.{agrees, asked_of}
use Rattle.m386_core.specs.Unfinished.{IsSameAsk}

-- ---- a cycle that matches an ask is the cycle of it

role_list : List Role
role_list = roles.Fetch ∷ roles.Operand ∷ roles.Push ∷ roles.Pop ∷ roles.Flags ∷ roles.Gdt ∷ roles.Ldt ∷ roles.Idt ∷ roles.GdtAcc ∷ roles.LdtAcc ∷ roles.Tss ∷ roles.ClaimJmp ∷ roles.ClaimCall ∷ roles.ClaimStart ∷ roles.ClaimLtr ∷ roles.Save ∷ roles.Link ∷ roles.Back ∷ roles.RelJmp ∷ roles.RelRet ∷ roles.Load ∷ roles.Inner ∷ roles.Map ∷ roles.Lgdt ∷ roles.Lidt ∷ []

role_at : ℕ → Role
role_at n = get_or role_list n roles.Fetch

role_back : (r : Role) → role_at (role_number r) ≡ r
unfolding role_at role_list
role_back roles.Fetch = refl
role_back roles.Operand = refl
role_back roles.Push = refl
role_back roles.Pop = refl
role_back roles.Flags = refl
role_back roles.Gdt = refl
role_back roles.Ldt = refl
role_back roles.Idt = refl
role_back roles.GdtAcc = refl
role_back roles.LdtAcc = refl
role_back roles.Tss = refl
role_back roles.ClaimJmp = refl
role_back roles.ClaimCall = refl
role_back roles.ClaimStart = refl
role_back roles.ClaimLtr = refl
role_back roles.Save = refl
role_back roles.Link = refl
role_back roles.Back = refl
role_back roles.RelJmp = refl
role_back roles.RelRet = refl
role_back roles.Load = refl
role_back roles.Inner = refl
role_back roles.Map = refl
role_back roles.Lgdt = refl
role_back roles.Lidt = refl

role_same : (r s : Role) → role_number r ≡ role_number s → r ≡ s
role_same r s e = sym (role_back r) ∙ ap role_at e ∙ role_back s

space_same : (r s : Space) → space_number r ≡ space_number s → r ≡ s
space_same spaces.Memory spaces.Memory e = refl
space_same spaces.Memory spaces.Port e = absurd (omega arith)
space_same spaces.Port spaces.Memory e = absurd (omega arith)
space_same spaces.Port spaces.Port e = refl

agree_is : (a b : Bool) → agree a b ≡ true → a ≡ b
agree_is true b h = sym h
agree_is false true h = cc
agree_is false false h = refl

ask_with : Space → Bool → Bool → Role → ℕ → ℕ → ℕ → ℕ → Ask
ask_with s w j r p a e v = record { space = s; write = w; joined = j; role = r; part = p; addr = a; enables = e; value = v }

ask_same : (q x : Ask) → q.space ≡ x.space → q.write ≡ x.write → q.joined ≡ x.joined → q.role ≡ x.role → q.part ≡ x.part → q.addr ≡ x.addr → q.enables ≡ x.enables → (v : ℕ) → v ≡ x.value → ask_with q.space q.write q.joined q.role q.part q.addr q.enables v ≡ ask_with x.space x.write x.joined x.role x.part x.addr x.enables x.value
ask_same q x s w j r p a e v is = rw (s, w, j, r, p, a, e, is) refl

write_is : (q x : Ask) → matches q x ≡ true → q.write ≡ x.write
unfolding matches
write_is q x h =
    let h6 = (and_parts _ _ h).0 in
    let h5 = (and_parts _ _ h6).0 in
    let h4 = (and_parts _ _ h5).0 in
    let h3 = (and_parts _ _ h4).0 in
    let h2 = (and_parts _ _ h3).0 in
    let h1 = (and_parts _ _ h2).0 in
    agree_is q.write x.write (and_parts _ _ h1).1

all_but_value : (q x : Ask) → matches q x ≡ true → (v : ℕ) → v ≡ x.value → ask_with q.space q.write q.joined q.role q.part q.addr q.enables v ≡ ask_with x.space x.write x.joined x.role x.part x.addr x.enables x.value
unfolding matches
all_but_value q x h =
    let h6 = (and_parts _ _ h).0 in
    let h5 = (and_parts _ _ h6).0 in
    let h4 = (and_parts _ _ h5).0 in
    let h3 = (and_parts _ _ h4).0 in
    let h2 = (and_parts _ _ h3).0 in
    let h1 = (and_parts _ _ h2).0 in
    ask_same q x (space_same q.space x.space (eqb-true _ _ (and_parts _ _ h1).0)) (agree_is q.write x.write (and_parts _ _ h1).1) (agree_is q.joined x.joined (and_parts _ _ h2).1) (role_same q.role x.role (eqb-true _ _ (and_parts _ _ h3).1)) (eqb-true _ _ (and_parts _ _ h4).1) (eqb-true _ _ (and_parts _ _ h5).1) (eqb-true _ _ (and_parts _ _ h6).1)

value_is : (q x : Ask) → matches q x ≡ true → q.write ≡ true → q.value ≡ x.value
unfolding matches
value_is q x h w =
    let v : cond q.write (eqb q.value x.value) (eqb (bit_and x.value (mask x.enables)) x.value) ≡ true = (and_parts _ _ h).1 in
    let k : eqb q.value x.value ≡ true = rw w at v in
    eqb-true _ _ k

pub matches_is : (q x : Ask) → matches q x ≡ true → x ≡ cycle_of q (answer_of x)
unfolding cycle_of answer_of ask_with
matches_is q x h = go q.write refl
  where
    go : (b : Bool) → q.write ≡ b → x ≡ cond q.write q (record q { value = cond x.write 0 x.value })
    go true w = elim q.write as (λ b. q.write ≡ b → x ≡ cond b q (record q { value = cond x.write 0 x.value })) [
      | true ↦ λ _. sym (all_but_value q x h q.value (value_is q x h w))
      | false ↦ λ f. absurd (let d : true ≡ false = sym w ∙ f in cc)
    ] refl
    go false w = elim q.write as (λ b. q.write ≡ b → x ≡ cond b q (record q { value = cond x.write 0 x.value })) [
      | true ↦ λ f. absurd (let d : true ≡ false = sym f ∙ w in cc)
      | false ↦ λ f. elim x.write as (λ d. x.write ≡ d → x ≡ record q { value = cond d 0 x.value }) [
        | true ↦ λ g. absurd (let d : true ≡ false = sym g ∙ sym (write_is q x h) ∙ f in cc)
        | false ↦ λ g. sym (all_but_value q x h x.value refl)
      ] refl
    ] refl

told_cycle : (q : Ask) (w v : ℕ) → answer_told (cycle_of q w) v ≡ answer_told q v
unfolding answer_told cycle_of
told_cycle q w v = go q.write refl
  where
    go : (b : Bool) → q.write ≡ b → answer_told (cycle_of q w) v ≡ answer_told q v
    go true e = simp (e)
    go false e = simp (e)

told_same : (q x : Ask) (v : ℕ) → matches q x ≡ true → answer_told x v ≡ answer_told q v
told_same q x v m = ap (λ (y : Ask). answer_told y v) (matches_is q x m) ∙ told_cycle q (answer_of x) v

-- two cycles of one ask that were answered the same are the same
one_cycle : (q x y : Ask) (v : ℕ) → matches q x ≡ true → matches q y ≡ true → answer_of x ≡ answer_told x v → answer_of y ≡ answer_told y v → x ≡ y
one_cycle q x y v m n e f =
    let a : answer_of x ≡ answer_of y = e ∙ told_same q x v m ∙ sym (f ∙ told_same q y v n) in
    matches_is q x m ∙ ap (cycle_of q) a ∙ sym (matches_is q y n)

asked_cycle : (q : Ask) (w v : ℕ) → cycle_of (asked_of (cycle_of q w)) v ≡ cycle_of q v
unfolding cycle_of
asked_cycle q w v = go q.write refl
  where
    go : (b : Bool) → q.write ≡ b → cycle_of (asked_of (cycle_of q w)) v ≡ cycle_of q v
    go true e = simp (e)
    go false e = simp (e)

asked_joined : (q : Ask) (w : ℕ) → (asked_of (cycle_of q w)).joined ≡ q.joined
unfolding cycle_of
asked_joined q w = go q.write refl
  where
    go : (b : Bool) → q.write ≡ b → (asked_of (cycle_of q w)).joined ≡ q.joined
    go true e = simp (e)
    go false e = simp (e)

-- a cycle as it is asked for is the ask that it matches, but for the value of a read
pub asked_same : (q x : Ask) → matches q x ≡ true → IsSameAsk (asked_of x) q
asked_same q x m =
    let is = matches_is q x m in
    subst (λ (y : Ask). IsSameAsk (asked_of y) q) (sym is) (record { cycles = asked_cycle q (answer_of x); joined = asked_joined q (answer_of x) })

-- ---- fronts

-- what the front of a whole phrase wants next
pub record WantsNext {A : Type 0} (t : Phrase A) (front : List Ask) (x : Ask) : Type 0 where
  pub wanted : Ask
  pub wants : follow t front ≡ Wants wanted
  pub made : matches wanted x ≡ true

-- each front of a whole phrase wants the next cycle
pub front_wants : {A : Type 0} (t : Phrase A) (a : A) (front : List Ask) (x : Ask) (rest : List Ask) → follow t (front ++ x ∷ rest) ≡ Whole a [] → WantsNext t front x
unfolding follow
front_wants (Done b) a [] x rest e = absurd (cc)
front_wants (Done b) a (y ∷ front) x rest e = absurd (cc)
front_wants (Faults f) a front x rest e = absurd (cc)
front_wants (Begins m t) a front x rest e =
    let r = front_wants t a front x rest e in
    record { wanted = r.wanted; wants = r.wants; made = r.made }
front_wants {A = A} (Asks q k) a [] x rest e = record { wanted = q; wants = refl; made = go (matches q x) refl }
  where
    go : (b : Bool) → matches q x ≡ b → matches q x ≡ true
    go true m = m
    go false m = let d : Wrong ≡ Whole a [] = rw m at e in absurd (cc)
front_wants {A = A} (Asks q k) a (y ∷ front) x rest e = go (matches q y) refl (front_wants (k (answer_of y)) a front x rest)
  where
    go : (b : Bool) → matches q y ≡ b → (follow (k (answer_of y)) (front ++ x ∷ rest) ≡ Whole a [] → WantsNext (k (answer_of y)) front x) → WantsNext (Asks q k) (y ∷ front) x
    go true m ih =
        let r = ih (rw m at e) in
        record { wanted = r.wanted; wants = rw m r.wants; made = r.made }
    go false m ih = let d : Wrong ≡ Whole a [] = rw m at e in absurd (cc)

-- these cycles begin with that front
pub record BeginsWith (full front : List Ask) : Type 0 where
  pub rest : List Ask
  pub is : full ≡ front ++ rest

one_longer : (z y : Ask) (full front rest : List Ask) → z ≡ y → full ≡ front ++ rest → z ∷ full ≡ (y ∷ front) ++ rest
one_longer z y full front rest zy is = rw (zy, is) refl

-- a whole phrase whose first cycles were answered as a front was begins with it
pub same_front : {A : Type 0} (t : Phrase A) (a : A) (full front : List Ask) (vs : List ℕ) → follow t full ≡ Whole a [] → IsExact (follow t front) → agrees full vs ≡ true → AreTold front vs → BeginsWith full front
unfolding follow agrees
same_front t a full [] vs e x h told = record { rest = full; is = refl }
same_front (Done b) a full (y ∷ front) vs e x h told = absurd (cc)
same_front (Faults f) a full (y ∷ front) vs e x h told = absurd (cc)
same_front (Begins m t) a full (y ∷ front) vs e x h told = same_front t a full (y ∷ front) vs e x h told
same_front (Asks q k) a [] (y ∷ front) vs e x h told = absurd (cc)
same_front (Asks q k) a (z ∷ full) (y ∷ front) [] e x h told = absurd told
same_front {A = A} (Asks q k) a (z ∷ full) (y ∷ front) (v ∷ vs) e x h told = go (matches q z) refl (matches q y) refl (same_front (k (answer_of y)) a full front vs)
  where
    go : (b : Bool) → matches q z ≡ b → (d : Bool) → matches q y ≡ d → (follow (k (answer_of y)) full ≡ Whole a [] → IsExact (follow (k (answer_of y)) front) → agrees full vs ≡ true → AreTold front vs → BeginsWith full front) → BeginsWith (z ∷ full) (y ∷ front)
    go false m d n ih = let d : Wrong ≡ Whole a [] = rw m at e in absurd (cc)
    go true m false n ih = absurd (rw n at x)
    go true m true n ih =
        let zy : z ≡ y = one_cycle q z y v m n (eqb-true _ _ (and_parts _ _ h).0) told.0 in
        let f : follow (k (answer_of z)) full ≡ Whole a [] = rw m at e in
        let g : follow (k (answer_of y)) full ≡ Whole a [] = rw zy at f in
        let r = ih g (rw n at x) (and_parts _ _ h).1 told.1 in
        record { rest = r.rest; is = one_longer z y full front r.rest zy r.is }

-- ---- places

-- what stands behind a front
pub at_seam : (front rest : List Ask) (i : ℕ) (d : Ask) → length front ≡ i → i < length (front ++ rest) → (more : List Ask) × (rest ≡ get_or (front ++ rest) i d ∷ more)
at_seam [] [] i d c lt = absurd (omega arith)
at_seam [] (y ∷ rest) zero d c lt = (rest, refl)
at_seam [] (y ∷ rest) (suc i) d c lt = absurd (omega arith)
at_seam (y ∷ front) rest zero d c lt = absurd (omega arith)
at_seam (y ∷ front) rest (suc i) d c lt = at_seam front rest i d (omega arith) (omega arith)

-- nothing stands behind a front that is as long as all
pub no_rest : (front rest : List Ask) → length (front ++ rest) < length front + 1 → rest ≡ []
no_rest [] [] h = refl
no_rest [] (y ∷ rest) h = absurd (omega arith)
no_rest (y ∷ front) rest h = no_rest front rest (omega arith)
