-- How often a task is held and waits.
use Rattle.std.proofs.Common.{◌≡◌, ◌≢◌, ℕ, zero, suc, ◌+◌, ◌<◌, ◌≤◌, ◌==◌, Bool, true, false, List, [], ◌∷◌, Option, Some, None, if◌then◌else◌, refl, sym, ap, ◌∙◌, arith, ◌⊎◌, inl, inr}
use Rattle.std.proofs.lemmas.Bool.{eqb-true, eqb-false}
use Rattle.std.proofs.lemmas.Bool.Decides.{nat_tests}
use Rattle.m386_book.specs.Book.{put, without_by, without_of, added, waiter}
use Rattle.m386_exclusion.specs.Invariant.{entries, bys}
use Rattle.m386_exclusion.specs.World.{is, holders, waits}

pub test-false : (a b : ℕ) → a ≢ b → (a == b) ≡ false
test-false a b h = grind (arith, nat_tests)

pub test-true : (a b : ℕ) → a ≡ b → (a == b) ≡ true
test-true a b h = grind (arith, nat_tests)

pub test : (a b : ℕ) → ((a ≡ b) × ((a == b) ≡ true)) ⊎ ((a ≢ b) × ((a == b) ≡ false))
test a b = go (a == b) refl
  where
    go : (r : Bool) → (a == b) ≡ r → ((a ≡ b) × ((a == b) ≡ true)) ⊎ ((a ≢ b) × ((a == b) ≡ false))
    go true h = inl (eqb-true a b h, h)
    go false h = inr (eqb-false a b h, h)

-- the place of p and the other places
pub put-here : (f : ℕ → Option ℕ) (p : ℕ) (v : Option ℕ) → put f p v p ≡ v
unfolding put
put-here f p v = rw (test-true p p refl) refl

pub put-there : (f : ℕ → Option ℕ) (p q : ℕ) (v : Option ℕ) → q ≢ p → put f p v q ≡ f q
unfolding put
put-there f p q v h = rw (test-false q p h) refl

pub holders-same : (n : ℕ) (f : ℕ → Option ℕ) (p : ℕ) (v : Option ℕ) (x : ℕ) → n ≤ p → holders n (put f p v) x ≡ holders n f x
unfolding holders
holders-same zero f p v x h = refl
holders-same (suc n) f p v x h =
    let e = holders-same n f p v x (omega arith) in
    let d : n ≢ p = omega arith in
    rw (put-there f p n v d, e) refl

pub holders-put : (n : ℕ) (f : ℕ → Option ℕ) (p : ℕ) (v : Option ℕ) (x : ℕ) → p < n → holders n (put f p v) x + is (f p) x ≡ holders n f x + is v x
unfolding holders
holders-put zero f p v x h = absurd (omega arith)
holders-put (suc n) f p v x h = elim (test n p) [
  | inl e ↦
      (let s = holders-same n f p v x (omega (arith, e.0)) in
      let a : put f p v n ≡ v = ap (put f p v) e.0 ∙ put-here f p v in
      let b : f n ≡ f p = ap f e.0 in
      rw (s, a, b) (omega arith))
  | inr e ↦
      (let i = holders-put n f p v x (omega (arith, e.0)) in
      rw (put-there f p n v e.0) (omega (arith, i)))
]

-- who holds is counted
pub holders-one : (n : ℕ) (f : ℕ → Option ℕ) (p x : ℕ) → p < n → f p ≡ Some x → 1 ≤ holders n f x
unfolding holders
holders-one zero f p x h e = absurd (omega arith)
holders-one (suc n) f p x h e = elim (test n p) [
  | inl d ↦ rw (ap f d.0 ∙ e, test-true x x refl) (omega arith)
  | inr d ↦ (let i = holders-one n f p x (omega (arith, d.0)) e in omega (arith, i))
]

pub holders-two : (n : ℕ) (f : ℕ → Option ℕ) (p q x : ℕ) → p < n → q < n → p ≢ q → f p ≡ Some x → f q ≡ Some x → 2 ≤ holders n f x
unfolding holders
holders-two zero f p q x hp hq d ep eq = absurd (omega arith)
holders-two (suc n) f p q x hp hq d ep eq = elim (test n p) [
  | inl a ↦ elim (test n q) [
    | inl b ↦ absurd (d (sym a.0 ∙ b.0))
    | inr b ↦
        (let i = holders-one n f q x (omega (arith, b.0)) eq in
        rw (ap f a.0 ∙ ep, test-true x x refl) (omega (arith, i)))
  ]
  | inr a ↦ elim (test n q) [
    | inl b ↦
        (let i = holders-one n f p x (omega (arith, a.0)) ep in
        rw (ap f b.0 ∙ eq, test-true x x refl) (omega (arith, i)))
    | inr b ↦ (let i = holders-two n f p q x (omega (arith, a.0)) (omega (arith, b.0)) d ep eq in omega (arith, i))
  ]
]

pub entries-waits : (es : List (ℕ × ℕ)) (x t : ℕ) → entries es x t ≤ waits es x
unfolding entries waits
entries-waits [] x t = omega arith
entries-waits (e ∷ es) x t = go (e.0 == x) (e.1 == t) (entries-waits es x t)
  where
    go : (a b : Bool) → entries es x t ≤ waits es x → (if a then (if b then 1 else 0) else 0) + entries es x t ≤ (if a then 1 else 0) + waits es x
    go true true i = omega arith
    go true false i = omega arith
    go false b i = omega arith

pub entries-two : (es : List (ℕ × ℕ)) (x t u : ℕ) → t ≢ u → entries es x t + entries es x u ≤ waits es x
unfolding entries waits
entries-two [] x t u d = omega arith
entries-two (e ∷ es) x t u d = go (e.0 == x) (test e.1 t) (test e.1 u) (entries-two es x t u d)
  where
    go : (a : Bool) → ((e.1 ≡ t) × ((e.1 == t) ≡ true)) ⊎ ((e.1 ≢ t) × ((e.1 == t) ≡ false)) → ((e.1 ≡ u) × ((e.1 == u) ≡ true)) ⊎ ((e.1 ≢ u) × ((e.1 == u) ≡ false)) → entries es x t + entries es x u ≤ waits es x
        → ((if a then (if e.1 == t then 1 else 0) else 0) + entries es x t) + ((if a then (if e.1 == u then 1 else 0) else 0) + entries es x u) ≤ (if a then 1 else 0) + waits es x
    go false b c i = omega arith
    go true (inl b) (inl c) i = absurd (d (sym b.0 ∙ c.0))
    go true (inl b) (inr c) i = rw (b.1, c.1) (omega arith)
    go true (inr b) (inl c) i = rw (b.1, c.1) (omega arith)
    go true (inr b) (inr c) i = rw (b.1, c.1) (omega arith)

pub waits-without_by : (t : ℕ) (es : List (ℕ × ℕ)) (x : ℕ) → waits (without_by t es) x ≤ waits es x
unfolding waits without_by
waits-without_by t [] x = omega arith
waits-without_by t (e ∷ es) x = go (e.1 == t) (waits-without_by t es x)
  where
    go : (b : Bool) → waits (without_by t es) x ≤ waits es x → waits (if b then without_by t es else e ∷ without_by t es) x ≤ waits (e ∷ es) x
    go true i = omega arith
    go false i = omega arith

pub waits-without_of : (t : ℕ) (es : List (ℕ × ℕ)) (x : ℕ) → waits (without_of t es) x ≤ waits es x
unfolding waits without_of
waits-without_of t [] x = omega arith
waits-without_of t (e ∷ es) x = go (e.0 == t) (waits-without_of t es x)
  where
    go : (b : Bool) → waits (without_of t es) x ≤ waits es x → waits (if b then without_of t es else e ∷ without_of t es) x ≤ waits (e ∷ es) x
    go true i = omega arith
    go false i = omega arith

pub waits-none : (t : ℕ) (es : List (ℕ × ℕ)) → waits (without_of t es) t ≡ 0
unfolding waits without_of
waits-none t [] = refl
waits-none t (e ∷ es) = go (e.0 == t) refl (waits-none t es)
  where
    go : (b : Bool) → (e.0 == t) ≡ b → waits (without_of t es) t ≡ 0 → waits (if b then without_of t es else e ∷ without_of t es) t ≡ 0
    go true h i = i
    go false h i = rw h (omega (arith, i))

pub entries-without_by : (t : ℕ) (es : List (ℕ × ℕ)) (x u : ℕ) → u ≢ t → entries (without_by t es) x u ≡ entries es x u
unfolding entries without_by
entries-without_by t [] x u d = refl
entries-without_by t (e ∷ es) x u d = go (test e.1 t) (entries-without_by t es x u d)
  where
    drops : (b : Bool) → entries (without_by t es) x u ≡ entries es x u → entries (without_by t es) x u ≡ (if b then 0 else 0) + entries es x u
    drops true i = omega (arith, i)
    drops false i = omega (arith, i)

    go : ((e.1 ≡ t) × ((e.1 == t) ≡ true)) ⊎ ((e.1 ≢ t) × ((e.1 == t) ≡ false)) → entries (without_by t es) x u ≡ entries es x u
        → entries (if e.1 == t then without_by t es else e ∷ without_by t es) x u ≡ (if e.0 == x then (if e.1 == u then 1 else 0) else 0) + entries es x u
    go (inl a) i =
        let f : (e.1 == u) ≡ false = test-false e.1 u (λ h. d (sym h ∙ a.0)) in
        rw (a.1, f) (drops (e.0 == x) i)
    go (inr a) i = rw (a.1, i) refl

pub entries-without_of : (t : ℕ) (es : List (ℕ × ℕ)) (x u : ℕ) → x ≢ t → entries (without_of t es) x u ≡ entries es x u
unfolding entries without_of
entries-without_of t [] x u d = refl
entries-without_of t (e ∷ es) x u d = go (test e.0 t) (entries-without_of t es x u d)
  where
    go : ((e.0 ≡ t) × ((e.0 == t) ≡ true)) ⊎ ((e.0 ≢ t) × ((e.0 == t) ≡ false)) → entries (without_of t es) x u ≡ entries es x u → entries (if e.0 == t then without_of t es else e ∷ without_of t es) x u ≡ entries (e ∷ es) x u
    go (inl a) i =
        let f : (e.0 == x) ≡ false = test-false e.0 x (λ h. d (sym h ∙ a.0)) in
        rw (a.1, f) (omega (arith, i))
    go (inr a) i = rw (a.1, i) refl

pub waits-added : (w : Bool) (h : Option ℕ) (t : ℕ) (es : List (ℕ × ℕ)) (x : ℕ) → waits (added w h t es) x ≤ is h x + waits es x
unfolding waits added
waits-added true (Some o) t es x = omega arith
waits-added true None t es x = omega arith
waits-added false h t es x = omega arith

pub entries-added : (w : Bool) (h : Option ℕ) (t : ℕ) (es : List (ℕ × ℕ)) (x u : ℕ) → entries es x u ≤ entries (added w h t es) x u
unfolding entries added
entries-added true (Some o) t es x u = omega arith
entries-added true None t es x u = omega arith
entries-added false h t es x u = omega arith

pub entries-new : (o t : ℕ) (es : List (ℕ × ℕ)) → 1 ≤ entries (added true (Some o) t es) o t
unfolding entries added
entries-new o t es = rw (test-true o o refl, test-true t t refl) (omega arith)

pub entries-bys : (es : List (ℕ × ℕ)) (x t : ℕ) → entries es x t ≤ bys es t
unfolding entries bys
entries-bys [] x t = omega arith
entries-bys (e ∷ es) x t = go (e.0 == x) (e.1 == t) (entries-bys es x t)
  where
    go : (a b : Bool) → entries es x t ≤ bys es t → (if a then (if b then 1 else 0) else 0) + entries es x t ≤ (if b then 1 else 0) + bys es t
    go true b i = omega arith
    go false true i = omega arith
    go false false i = omega arith

pub entries-bys-two : (es : List (ℕ × ℕ)) (x y t : ℕ) → x ≢ y → entries es x t + entries es y t ≤ bys es t
unfolding entries bys
entries-bys-two [] x y t d = omega arith
entries-bys-two (e ∷ es) x y t d = go (e.1 == t) (test e.0 x) (test e.0 y) (entries-bys-two es x y t d)
  where
    go : (b : Bool) → ((e.0 ≡ x) × ((e.0 == x) ≡ true)) ⊎ ((e.0 ≢ x) × ((e.0 == x) ≡ false)) → ((e.0 ≡ y) × ((e.0 == y) ≡ true)) ⊎ ((e.0 ≢ y) × ((e.0 == y) ≡ false)) → entries es x t + entries es y t ≤ bys es t
        → ((if e.0 == x then (if b then 1 else 0) else 0) + entries es x t) + ((if e.0 == y then (if b then 1 else 0) else 0) + entries es y t) ≤ (if b then 1 else 0) + bys es t
    go b (inl p) (inl q) i = absurd (d (sym p.0 ∙ q.0))
    go b (inl p) (inr q) i = rw (p.1, q.1) (omega arith)
    go b (inr p) (inl q) i = rw (p.1, q.1) (omega arith)
    go b (inr p) (inr q) i = rw (p.1, q.1) (omega arith)

pub bys-without_by : (t : ℕ) (es : List (ℕ × ℕ)) (u : ℕ) → bys (without_by t es) u ≤ bys es u
unfolding bys without_by
bys-without_by t [] u = omega arith
bys-without_by t (e ∷ es) u = go (e.1 == t) (bys-without_by t es u)
  where
    go : (b : Bool) → bys (without_by t es) u ≤ bys es u → bys (if b then without_by t es else e ∷ without_by t es) u ≤ bys (e ∷ es) u
    go true i = omega arith
    go false i = omega arith

pub bys-without_of : (t : ℕ) (es : List (ℕ × ℕ)) (u : ℕ) → bys (without_of t es) u ≤ bys es u
unfolding bys without_of
bys-without_of t [] u = omega arith
bys-without_of t (e ∷ es) u = go (e.0 == t) (bys-without_of t es u)
  where
    go : (b : Bool) → bys (without_of t es) u ≤ bys es u → bys (if b then without_of t es else e ∷ without_of t es) u ≤ bys (e ∷ es) u
    go true i = omega arith
    go false i = omega arith

pub bys-none : (t : ℕ) (es : List (ℕ × ℕ)) → bys (without_by t es) t ≡ 0
unfolding bys without_by
bys-none t [] = refl
bys-none t (e ∷ es) = go (e.1 == t) refl (bys-none t es)
  where
    go : (b : Bool) → (e.1 == t) ≡ b → bys (without_by t es) t ≡ 0 → bys (if b then without_by t es else e ∷ without_by t es) t ≡ 0
    go true h i = i
    go false h i = rw h (omega (arith, i))

pub bys-added : (w : Bool) (h : Option ℕ) (t : ℕ) (es : List (ℕ × ℕ)) (u : ℕ) → bys (added w h t es) u ≤ is (Some t) u + bys es u
unfolding bys added
bys-added true (Some o) t es u = omega arith
bys-added true None t es u = omega arith
bys-added false h t es u = omega arith

pub entries-without_by-le : (t : ℕ) (es : List (ℕ × ℕ)) (x u : ℕ) → entries (without_by t es) x u ≤ entries es x u
unfolding entries without_by
entries-without_by-le t [] x u = omega arith
entries-without_by-le t (e ∷ es) x u = go (e.1 == t) (entries-without_by-le t es x u)
  where
    go : (b : Bool) → entries (without_by t es) x u ≤ entries es x u → entries (if b then without_by t es else e ∷ without_by t es) x u ≤ entries (e ∷ es) x u
    go true i = omega arith
    go false i = omega arith

pub entries-without_of-le : (t : ℕ) (es : List (ℕ × ℕ)) (x u : ℕ) → entries (without_of t es) x u ≤ entries es x u
unfolding entries without_of
entries-without_of-le t [] x u = omega arith
entries-without_of-le t (e ∷ es) x u = go (e.0 == t) (entries-without_of-le t es x u)
  where
    go : (b : Bool) → entries (without_of t es) x u ≤ entries es x u → entries (if b then without_of t es else e ∷ without_of t es) x u ≤ entries (e ∷ es) x u
    go true i = omega arith
    go false i = omega arith

-- an entry after one was added is the new one or an older one
pub entries-added-new : (w : Bool) (h : Option ℕ) (t : ℕ) (es : List (ℕ × ℕ)) (x u : ℕ) → 1 ≤ entries (added w h t es) x u → (1 ≤ entries es x u) ⊎ ((w ≡ true) × (h ≡ Some x) × (u ≡ t))
unfolding entries added
entries-added-new true (Some o) t es x u e = go (test o x) (test t u)
  where
    go : ((o ≡ x) × ((o == x) ≡ true)) ⊎ ((o ≢ x) × ((o == x) ≡ false)) → ((t ≡ u) × ((t == u) ≡ true)) ⊎ ((t ≢ u) × ((t == u) ≡ false)) → (1 ≤ entries es x u) ⊎ ((true ≡ true) × (Some o ≡ Some x) × (u ≡ t))
    go (inl p) (inl q) = inr (refl, ap Some p.0, sym q.0)
    go (inl p) (inr q) = inl (let f = rw (p.1, q.1) at e in omega (arith, f))
    go (inr p) q = inl (let f = rw p.1 at e in omega (arith, f))
entries-added-new true None t es x u e = inl e
entries-added-new false h t es x u e = inl e

-- who waits by a task is the one whose entry there is
pub waiter-is : (es : List (ℕ × ℕ)) (x t : ℕ) → bys es t ≤ 1 → 1 ≤ entries es x t → waiter t es ≡ Some x
unfolding entries bys waiter
waiter-is [] x t h e = absurd (omega (arith, e))
waiter-is (e ∷ es) x t h en = go (test e.1 t) (test e.0 x) (entries-bys es x t) (waiter-is es x t)
  where
    go : ((e.1 ≡ t) × ((e.1 == t) ≡ true)) ⊎ ((e.1 ≢ t) × ((e.1 == t) ≡ false)) → ((e.0 ≡ x) × ((e.0 == x) ≡ true)) ⊎ ((e.0 ≢ x) × ((e.0 == x) ≡ false)) → entries es x t ≤ bys es t
        → (bys es t ≤ 1 → 1 ≤ entries es x t → waiter t es ≡ Some x) → (if e.1 == t then Some e.0 else waiter t es) ≡ Some x
    go (inl p) (inl q) i r = rw p.1 (ap Some q.0)
    go (inl p) (inr q) i r = absurd (let f = rw (q.1) at en in let g = rw p.1 at h in omega (arith, f, g, i))
    go (inr p) (inl q) i r = rw p.1 (let f = rw (q.1, p.1) at en in let g = rw p.1 at h in r (omega (arith, g)) (omega (arith, f)))
    go (inr p) (inr q) i r = rw p.1 (let f = rw q.1 at en in let g = rw p.1 at h in r (omega (arith, g)) (omega (arith, f)))

pub waits-return : (t : ℕ) (es : List (ℕ × ℕ)) (x : ℕ) → waits (without_by t es) x + entries es x t ≤ waits es x
unfolding waits without_by entries
waits-return t [] x = omega arith
waits-return t (e ∷ es) x = go (test e.1 t) (e.0 == x) (waits-return t es x)
  where
    head : (b : Bool) → waits (without_by t es) x + entries es x t ≤ waits es x → waits (without_by t es) x + ((if b then 1 else 0) + entries es x t) ≤ (if b then 1 else 0) + waits es x
    head true i = omega arith
    head false i = omega arith

    tail : (b : Bool) → waits (without_by t es) x + entries es x t ≤ waits es x → ((if b then 1 else 0) + waits (without_by t es) x) + ((if b then 0 else 0) + entries es x t) ≤ (if b then 1 else 0) + waits es x
    tail true i = omega arith
    tail false i = omega arith

    go : ((e.1 ≡ t) × ((e.1 == t) ≡ true)) ⊎ ((e.1 ≢ t) × ((e.1 == t) ≡ false)) → (b : Bool) → waits (without_by t es) x + entries es x t ≤ waits es x
        → waits (if e.1 == t then without_by t es else e ∷ without_by t es) x + ((if e.0 == x then (if e.1 == t then 1 else 0) else 0) + entries es x t) ≤ (if e.0 == x then 1 else 0) + waits es x
    go (inl p) b i = rw p.1 (head (e.0 == x) i)
    go (inr p) b i = rw p.1 (tail (e.0 == x) i)
