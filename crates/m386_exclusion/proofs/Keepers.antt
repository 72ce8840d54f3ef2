-- The links are kept by each kind of change.
use Rattle.std.proofs.Common.{◌≡◌, ◌≢◌, ℕ, ◌/◌, ◌%◌, ◌<◌, ◌≤◌, Bool, true, false, Some, refl, sym, ap, ◌∙◌, subst, arith, ◌⊎◌, inl, inr}
use Rattle.m386_stages.specs.Stages.{Stage}
use Rattle.m386_book.specs.Book.{without_by, without_of, claimed, released, returned, linked}
use Rattle.m386_exclusion.proofs.Counts.{test, put-here, entries-waits, entries-two, waits-none, entries-without_by, entries-without_of, entries-without_by-le, entries-without_of-le, entries-added, entries-added-new, entries-bys-two, bys-without_by, bys-without_of, bys-none, bys-added}
use Rattle.m386_exclusion.proofs.Frames.{waits-apart, waits-stands, stands-apart, set-back, set-there, live-kept, held-kept, flags-kept}
use Rattle.m386_exclusion.proofs.Places.{tss-flag, tss-apart, tss-part, area-out}
use Rattle.m386_exclusion.specs.Change.{But, Area, Same, Calm, Others, Change, Silent, Saved, Spoilt, Claim, Link, LinkOn, Release, Return}
use Rattle.m386_exclusion.specs.Invariant.{entries, bys, FlagsOk, unsaved_of, pending_of, unsaved, pending, Gdt, Exempt, Pending, Linked, Links}
use Rattle.m386_exclusion.specs.World.{Setting, World, IsTask, IsIdle, mem, flag, seg, book, is, waits, IsTidy}

low-flag : (I : Setting) → IsTidy I → (u t : ℕ) → IsTask I u → IsTask I t → seg I u 0 ≢ flag I t
low-flag I tidy u t hu ht e = tss-flag I tidy u 0 t hu (omega arith) ht (omega (arith, e))

low-area : (I : Setting) → IsTidy I → (u o : ℕ) → IsTask I u → IsTask I o → (j : ℕ) → 32 ≤ j → j < 96 → seg I u 0 ≢ seg I o j
low-area I tidy u o hu ho = area-out I tidy u 0 o hu (omega arith) ho (inr (inl (omega arith)))

low-high : (I : Setting) → IsTidy I → (u t : ℕ) → IsTask I u → IsTask I t → seg I u 0 ≢ seg I t 1
low-high I tidy u t hu ht e = tss-part I tidy u 0 t 1 hu (omega arith) ht (omega arith) (omega arith) (omega (arith, e))

low-low : (I : Setting) → IsTidy I → (u t : ℕ) → IsTask I u → IsTask I t → u ≢ t → seg I u 0 ≢ seg I t 0
low-low I tidy u t hu ht d e = tss-apart I tidy u 0 t 0 hu (omega arith) ht (omega arith) d (omega (arith, e))

-- one who has yet to save still has, where it isn't the processor whose cycle this is
exempt-other : (I : Setting) (n p : ℕ) (H G : World) (u : ℕ) → Others p H G → Change I p H G → (ex : Exempt I n G u) → ex.who ≢ p → Exempt I n H u
exempt-other I n p H G u cp ch ex d = record {
  who = ex.who;
  below = ex.below;
  holds = held-kept I p ex.who H G d ch ∙ ex.holds;
  unsaved = ap (λ (g : Stage). unsaved_of g.phase) (cp ex.who d) ∙ ex.unsaved;
}

-- it isn't one that has saved
exempt-apart : (I : Setting) (n p : ℕ) (G : World) (u : ℕ) (ex : Exempt I n G u) → unsaved G p ≡ false → ex.who ≢ p
exempt-apart I n p G u ex un e = absurd (let k = sym (ap (unsaved G) e ∙ un) ∙ ex.unsaved in cc)

-- an entry's older task is in the table
entry-inside : (I : Setting) (n x u : ℕ) (G : World) → Gdt I n G → 1 ≤ entries (book I G).waiting x u → IsTask I x
entry-inside I n x u G gl en = gl.inside x (waits-stands I n x u G en)

-- the saved flags, where the processor whose cycle this is has none to save
saved-other : (I : Setting) (n p : ℕ) (H G : World) (x u : ℕ) → Others p H G → Change I p H G → unsaved G p ≡ false
    → mem I H (seg I x 37) ≡ mem I G (seg I x 37) → ((book I G).live x ≡ true → (book I H).live x ≡ true) → Exempt I n G u ⊎ FlagsOk I G x → Exempt I n H u ⊎ FlagsOk I H x
saved-other I n p H G x u cp ch un em el (inl ex) = inl (exempt-other I n p H G u cp ch ex (exempt-apart I n p G u ex un))
saved-other I n p H G x u cp ch un em el (inr ok) = inr (flags-kept I H G x em el ok)

-- the second half of a link is in memory, or is yet to be written
abbrev pub High : Setting → ℕ → World → ℕ → ℕ → Type 0
High I n G t x = Pending I n G t ⊎ (mem I G (seg I t 1) ≡ x / 32 % 256)

pending-kept : (I : Setting) (n p : ℕ) (H G : World) (u : ℕ) → Others p H G → Change I p H G → (ex : Pending I n G u) → ex.who ≢ p → Pending I n H u
pending-kept I n p H G u cp ch ex d = record {
  who = ex.who;
  below = ex.below;
  holds = held-kept I p ex.who H G d ch ∙ ex.holds;
  pending = ap (λ (g : Stage). pending_of g.phase) (cp ex.who d) ∙ ex.pending;
}

high-other : (I : Setting) (n p : ℕ) (H G : World) (u x : ℕ) → Others p H G → Change I p H G → pending G p ≡ false → mem I H (seg I u 1) ≡ mem I G (seg I u 1) → High I n G u x → High I n H u x
high-other I n p H G u x cp ch pd em (inl ex) = inl (pending-kept I n p H G u cp ch ex (λ e. absurd (let k = sym (ap (pending G) e ∙ pd) ∙ ex.pending in cc)))
high-other I n p H G u x cp ch pd em (inr h) = inr (em ∙ h)

-- a link that stays
linked-on : (I : Setting) (n : ℕ) (H G : World) (t : ℕ) (l : Linked I n G t) → 1 ≤ entries (book I H).waiting l.older t → mem I H (seg I t 0) ≡ mem I G (seg I t 0) → High I n H t l.older → Linked I n H t
linked-on I n H G t l en em hi = record { older = l.older; entry = en; low = ap (λ b. b / 8) em ∙ l.low; high = hi }

-- the book is the same, and so are the links in memory
links-same : (I : Setting) (n : ℕ) (H G : World) → book I H ≡ book I G → ((t : ℕ) → IsTask I t → mem I H (seg I t 0) ≡ mem I G (seg I t 0)) → ((t x : ℕ) → IsTask I t → High I n G t x → High I n H t x) → Links I n G
    → ((x t : ℕ) → 1 ≤ entries (book I G).waiting x t → Exempt I n H t ⊎ FlagsOk I H x) → Links I n H
links-same I n H G eb em eh ls next =
    let back : (t : ℕ) → (book I H).live t ≡ true → (book I G).live t ≡ true = λ t h. sym (ap (λ b. b.live t) eb) ∙ h in
    record {
      single = λ t. subst (λ b. bys b.waiting t ≤ 1) (sym eb) (ls.single t);
      alive = λ t h. ls.alive t (back t h);
      linked = λ t h. let l = ls.linked t (back t h) in linked-on I n H G t l (subst (λ b. 1 ≤ entries b.waiting l.older t) (sym eb) l.entry) (em t (ls.alive t (back t h))) (eh t l.older (ls.alive t (back t h)) l.high);
      saved = λ x t e. next x t (subst (λ b. 1 ≤ entries b.waiting x t) eb e);
    }

high-silent : (I : Setting) (n p : ℕ) (H G : World) → Others p H G → book I H ≡ book I G → Change I p H G → pending H p ≡ pending G p → (t x : ℕ) → mem I H (seg I t 1) ≡ mem I G (seg I t 1) → High I n G t x → High I n H t x
high-silent I n p H G cp eb ch pk t x em (inr h) = inr (em ∙ h)
high-silent I n p H G cp eb ch pk t x em (inl ex) = elim (test ex.who p) [
  | inl s ↦ inl (record { who = ex.who; below = ex.below; holds = ap (λ b. b.held ex.who) eb ∙ ex.holds; pending = ap (pending H) s.0 ∙ pk ∙ ap (pending G) (sym s.0) ∙ ex.pending })
  | inr s ↦ inl (pending-kept I n p H G t cp ch ex s.0)
]

links-silent : (I : Setting) (n p : ℕ) (H G : World) → Others p H G → Gdt I n G → Links I n G → book I H ≡ book I G → Same I H G → (unsaved H p ≡ unsaved G p) × (pending H p ≡ pending G p) → Links I n H
links-silent I n p H G cp gl ls eb em mk =
    links-same I n H G eb em.links (λ t x h. high-silent I n p H G cp eb (Silent eb em mk) mk.1 t x (em.highs t h)) ls (λ x u e. elim (ls.saved x u e) [
      | inl ex ↦ elim (test ex.who p) [
        | inl s ↦ inl (record { who = ex.who; below = ex.below; holds = ap (λ b. b.held ex.who) eb ∙ ex.holds; unsaved = ap (unsaved H) s.0 ∙ mk.0 ∙ ap (unsaved G) (sym s.0) ∙ ex.unsaved })
        | inr s ↦ inl (exempt-other I n p H G u cp (Silent eb em mk) ex s.0)
      ]
      | inr ok ↦ inr (flags-kept I H G x (em.nts x (entry-inside I n x u G gl e)) (λ h. ap (λ b. b.live x) eb ∙ h) ok)
    ])

links-saved : (I : Setting) (n p o t : ℕ) (H G : World) → Others p H G → IsTidy I → Gdt I n G → Links I n G → IsTask I o → (book I G).held p ≡ Some t → 1 ≤ entries (book I G).waiting o t → Area I H G o → book I H ≡ book I G → FlagsOk I H o × (pending G p ≡ false) → Links I n H
links-saved I n p o t H G cp tidy gl ls ho held en rest eb ok =
    links-same I n H G eb (λ u h. rest (seg I u 0) (low-area I tidy u o h ho)) (λ u x h. high-other I n p H G u x cp (Saved o t ho held en rest eb ok) ok.1 (rest (seg I u 1) (area-out I tidy u 1 o h (omega arith) ho (inr (inl (omega arith)))))) ls
    (λ x u e. elim (test x o) [
      | inl s ↦ inr (subst (FlagsOk I H) (sym s.0) ok.0)
      | inr s ↦ elim (ls.saved x u e) [
        | inl ex ↦ inl (exempt-other I n p H G u cp (Saved o t ho held en rest eb ok) ex (λ w.
            let ut : Some u ≡ Some t = sym ex.holds ∙ ap (book I G).held w ∙ held in
            let ut' : u ≡ t = cc in
            let e' : 1 ≤ entries (book I G).waiting x t = subst (λ k. 1 ≤ entries (book I G).waiting x k) ut' e in
            let k = entries-bys-two (book I G).waiting x o t s.0 in
            let l = ls.single t in absurd (omega (arith, e', en, k, l))))
        | inr fl ↦ inr (flags-kept I H G x (rest (seg I x 37) (area-out I tidy x 37 o (entry-inside I n x u G gl e) (omega arith) ho (inl s.0))) (λ h. ap (λ b. b.live x) eb ∙ h) fl)
      ]
    ])

links-spoilt : (I : Setting) (n p o : ℕ) (H G : World) → Others p H G → p < n → IsTidy I → Gdt I n G → Links I n G → IsTask I o → (book I G).held p ≡ Some o → Calm G p → Area I H G o → book I H ≡ book I G → Links I n H
links-spoilt I n p o H G cp hp tidy gl ls ho held un rest eb =
    links-same I n H G eb (λ u h. rest (seg I u 0) (low-area I tidy u o h ho)) (λ u x h. high-other I n p H G u x cp (Spoilt o ho held un rest eb) un.1 (rest (seg I u 1) (area-out I tidy u 1 o h (omega arith) ho (inr (inl (omega arith)))))) ls
    (λ x u e. saved-other I n p H G x u cp (Spoilt o ho held un rest eb) un.0
    (rest (seg I x 37) (area-out I tidy x 37 o (entry-inside I n x u G gl e) (omega arith) ho (inl (waits-apart I n p x u o G gl hp held e))))
    (λ h. ap (λ b. b.live x) eb ∙ h) (ls.saved x u e))

links-claim : (I : Setting) (n p t : ℕ) (w : Bool) (H G : World) → Others p H G → p < n → IsTidy I → Gdt I n G → Links I n G → IsTask I t → Calm G p → (w ≡ true → unsaved H p ≡ true) → IsIdle (mem I G (flag I t))
    → But I H G (flag I t) → book I H ≡ claimed w p t (book I G) → Change I p H G → ((x : ℕ) → x ≢ t → (book I G).live x ≡ true → (book I H).live x ≡ true) → Links I n H
unfolding claimed
links-claim I n p t w H G cp hp tidy gl ls ht un mk was rest eb ch lives =
    let b = book I G in
    let es = without_by t b.waiting in
    let back : (u : ℕ) → (book I H).live u ≡ true → (u ≢ t) × (b.live u ≡ true) = λ u h. set-back b.live t u (sym (ap (λ d. d.live u) eb) ∙ h) in
    record {
      single = λ u. subst (λ d. bys d.waiting u ≤ 1) (sym eb) (
          let k = bys-added w (b.held p) t es u in
          elim (test t u) [
            | inl s ↦ (let z : is (Some t) u ≡ 1 = rw s.1 refl in let y : bys es u ≡ 0 = subst (λ r. bys es r ≡ 0) s.0 (bys-none t b.waiting) in omega (arith, k, z, y))
            | inr s ↦ (let z : is (Some t) u ≡ 0 = rw s.1 refl in let y = bys-without_by t b.waiting u in let l = ls.single u in omega (arith, k, z, y, l))
          ]);
      alive = λ u h. ls.alive u (back u h).1;
      linked = λ u h.
          let l = ls.linked u (back u h).1 in
          let e1 = entries-without_by t b.waiting l.older u (back u h).0 in
          let e2 = entries-added w (b.held p) t es l.older u in
          let e3 = l.entry in
          linked-on I n H G u l (subst (λ d. 1 ≤ entries d.waiting l.older u) (sym eb) (omega (arith, e1, e2, e3))) (rest (seg I u 0) (low-flag I tidy u t (ls.alive u (back u h).1) ht)) (high-other I n p H G u l.older cp ch un.1 (rest (seg I u 1) (tss-flag I tidy u 1 t (ls.alive u (back u h).1) (omega arith) ht)) l.high);
      saved = λ x u e. elim (entries-added-new w (b.held p) t es x u (subst (λ d. 1 ≤ entries d.waiting x u) eb e)) [
        | inl e1 ↦
            (let e2 = entries-without_by-le t b.waiting x u in
            let e3 : 1 ≤ entries b.waiting x u = omega (arith, e1, e2) in
            saved-other I n p H G x u cp ch un.0 (rest (seg I x 37) (tss-flag I tidy x 37 t (entry-inside I n x u G gl e3) (omega arith) ht)) (lives x (stands-apart I n x t G gl (waits-stands I n x u G e3) was)) (ls.saved x u e3))
        | inr r ↦ inl (record { who = p; below = hp; holds = ap (λ d. d.held p) eb ∙ put-here b.held p (Some t) ∙ ap Some (sym r.2); unsaved = mk r.0 })
      ];
    }

links-link : (I : Setting) (n p o t : ℕ) (H G : World) → Others p H G → p < n → IsTidy I → Gdt I n G → Links I n G → IsTask I t → (book I G).held p ≡ Some t → Calm G p → 1 ≤ entries (book I G).waiting o t → (mem I H (seg I t 0) / 8 ≡ o % 32) × (pending H p ≡ true ⊎ (mem I H (seg I t 1) ≡ o / 32 % 256)) → ((a : ℕ) → a ≢ seg I t 0 → a ≢ seg I t 1 → mem I H a ≡ mem I G a)
    → book I H ≡ linked (Some t) (book I G) → Change I p H G → ((x : ℕ) → (book I G).live x ≡ true → (book I H).live x ≡ true) → Links I n H
unfolding linked
links-link I n p o t H G cp hp tidy gl ls ht held un en now rest eb ch lives =
    let b = book I G in
    let back : (u : ℕ) → u ≢ t → (book I H).live u ≡ true → b.live u ≡ true = λ u d h. sym (set-there b.live t u true d) ∙ sym (ap (λ d. d.live u) eb) ∙ h in
    let entry : (x u : ℕ) → 1 ≤ entries b.waiting x u → 1 ≤ entries (book I H).waiting x u = λ x u e. subst (λ d. 1 ≤ entries d.waiting x u) (sym eb) e in
    record {
      single = λ u. subst (λ d. bys d.waiting u ≤ 1) (sym eb) (ls.single u);
      alive = λ u h. elim (test u t) [ inl s ↦ subst (IsTask I) (sym s.0) ht | inr s ↦ ls.alive u (back u s.0 h) ];
      linked = λ u h. elim (test u t) [
        | inl s ↦ subst (Linked I n H) (sym s.0) (record { older = o; entry = entry o t en; low = now.0; high = elim now.1 [ inl pd ↦ inl (record { who = p; below = hp; holds = ap (λ d. d.held p) eb ∙ held; pending = pd }) | inr m ↦ inr m ] })
        | inr s ↦
            (let l = ls.linked u (back u s.0 h) in
            let hu = ls.alive u (back u s.0 h) in
            linked-on I n H G u l (entry l.older u l.entry) (rest (seg I u 0) (low-low I tidy u t hu ht s.0) (low-high I tidy u t hu ht))
            (high-other I n p H G u l.older cp ch un.1 (rest (seg I u 1) (λ e. low-high I tidy t u ht hu (sym e)) (tss-apart I tidy u 1 t 1 hu (omega arith) ht (omega arith) s.0)) l.high))
      ];
      saved = λ x u e.
          let e0 = subst (λ d. 1 ≤ entries d.waiting x u) eb e in
          let hx = entry-inside I n x u G gl e0 in
          saved-other I n p H G x u cp ch un.0 (rest (seg I x 37) (λ f. tss-part I tidy x 37 t 0 hx (omega arith) ht (omega arith) (omega arith) (omega (arith, f))) (tss-part I tidy x 37 t 1 hx (omega arith) ht (omega arith) (omega arith))) (lives x) (ls.saved x u e0);
    }

-- the second half of the link
links-link-on : (I : Setting) (n p o t : ℕ) (H G : World) → Others p H G → p < n → IsTidy I → Gdt I n G → Links I n G → IsTask I t → (book I G).held p ≡ Some t → unsaved G p ≡ false → 1 ≤ entries (book I G).waiting o t → (book I G).live t ≡ true → mem I H (seg I t 1) ≡ o / 32 % 256 → But I H G (seg I t 1)
    → book I H ≡ linked (Some t) (book I G) → Change I p H G → ((x : ℕ) → (book I G).live x ≡ true → (book I H).live x ≡ true) → Links I n H
unfolding linked
links-link-on I n p o t H G cp hp tidy gl ls ht held un en al now rest eb ch lives =
    let b = book I G in
    let back : (u : ℕ) → u ≢ t → (book I H).live u ≡ true → b.live u ≡ true = λ u d h. sym (set-there b.live t u true d) ∙ sym (ap (λ d. d.live u) eb) ∙ h in
    let entry : (x u : ℕ) → 1 ≤ entries b.waiting x u → 1 ≤ entries (book I H).waiting x u = λ x u e. subst (λ d. 1 ≤ entries d.waiting x u) (sym eb) e in
    let low : (u : ℕ) → IsTask I u → mem I H (seg I u 0) ≡ mem I G (seg I u 0) = λ u h. rest (seg I u 0) (low-high I tidy u t h ht) in
    record {
      single = λ u. subst (λ d. bys d.waiting u ≤ 1) (sym eb) (ls.single u);
      alive = λ u h. elim (test u t) [ inl s ↦ subst (IsTask I) (sym s.0) ht | inr s ↦ ls.alive u (back u s.0 h) ];
      linked = λ u h. elim (test u t) [
        | inl s ↦ subst (Linked I n H) (sym s.0)
            (let l = ls.linked t al in
            elim (test l.older o) [
              | inl k ↦ record { older = l.older; entry = entry l.older t l.entry; low = ap (λ b. b / 8) (low t ht) ∙ l.low; high = inr (now ∙ ap (λ y. y / 32 % 256) (sym k.0)) }
              | inr k ↦ absurd (let f = entries-bys-two b.waiting l.older o t k.0 in let g = ls.single t in let e = l.entry in omega (arith, f, g, e, en))
            ])
        | inr s ↦
            (let l = ls.linked u (back u s.0 h) in
            linked-on I n H G u l (entry l.older u l.entry) (low u (ls.alive u (back u s.0 h))) (elim l.high [
              | inl ex ↦ inl (pending-kept I n p H G u cp ch ex (λ e. absurd (let f : Some u ≡ Some t = sym ex.holds ∙ ap b.held e ∙ held in s.0 cc)))
              | inr m ↦ inr (rest (seg I u 1) (tss-apart I tidy u 1 t 1 (ls.alive u (back u s.0 h)) (omega arith) ht (omega arith) s.0) ∙ m)
            ]))
      ];
      saved = λ x u e.
          let e0 = subst (λ d. 1 ≤ entries d.waiting x u) eb e in
          saved-other I n p H G x u cp ch un (rest (seg I x 37) (tss-part I tidy x 37 t 1 (entry-inside I n x u G gl e0) (omega arith) ht (omega arith) (omega arith))) (lives x) (ls.saved x u e0);
    }

links-release : (I : Setting) (n p o t : ℕ) (H G : World) → Others p H G → IsTidy I → Gdt I n G → Links I n G → IsTask I o → Calm G p → 1 ≤ entries (book I G).waiting o t → (book I G).live t ≡ false → But I H G (flag I o)
    → book I H ≡ released o (book I G) → Change I p H G → ((x : ℕ) → x ≢ o → (book I G).live x ≡ true → (book I H).live x ≡ true) → Links I n H
unfolding released
links-release I n p o t H G cp tidy gl ls ho un en dead rest eb ch lives =
    let b = book I G in
    let es = without_of o b.waiting in
    let back : (u : ℕ) → (book I H).live u ≡ true → (u ≢ o) × (b.live u ≡ true) = λ u h. set-back b.live o u (sym (ap (λ d. d.live u) eb) ∙ h) in
    record {
      single = λ u. subst (λ d. bys d.waiting u ≤ 1) (sym eb) (let k = bys-without_by o es u in let m = bys-without_of o b.waiting u in let l = ls.single u in omega (arith, k, m, l));
      alive = λ u h. ls.alive u (back u h).1;
      linked = λ u h.
          let l = ls.linked u (back u h).1 in
          let older : l.older ≢ o = λ s. (
          let e' : 1 ≤ entries b.waiting o u = subst (λ y. 1 ≤ entries b.waiting y u) s l.entry in
          elim (test t u) [
            | inl k ↦ absurd (let f = sym dead ∙ ap b.live k.0 ∙ (back u h).1 in cc)
            | inr k ↦ absurd (let f = entries-two b.waiting o t u k.0 in let g = gl.once o in omega (arith, f, g, e', en))
          ]) in
          let e1 = entries-without_by o es l.older u (back u h).0 in
          let e2 = entries-without_of o b.waiting l.older u older in
          let e3 = l.entry in
          linked-on I n H G u l (subst (λ d. 1 ≤ entries d.waiting l.older u) (sym eb) (omega (arith, e1, e2, e3))) (rest (seg I u 0) (low-flag I tidy u o (ls.alive u (back u h).1) ho)) (high-other I n p H G u l.older cp ch un.1 (rest (seg I u 1) (tss-flag I tidy u 1 o (ls.alive u (back u h).1) (omega arith) ho)) l.high);
      saved = λ x u e.
          let e0 : 1 ≤ entries (without_by o es) x u = subst (λ d. 1 ≤ entries d.waiting x u) eb e in
          let e1 = entries-without_by-le o es x u in
          let e2 = entries-without_of-le o b.waiting x u in
          let e3 : 1 ≤ entries b.waiting x u = omega (arith, e0, e1, e2) in
          let xo : x ≢ o = λ s. (
          let z : waits es x ≡ 0 = subst (λ k. waits es k ≡ 0) (sym s) (waits-none o b.waiting) in
          let k = entries-waits es x u in absurd (omega (arith, z, k, e0, e1))) in
          saved-other I n p H G x u cp ch un.0 (rest (seg I x 37) (tss-flag I tidy x 37 o (entry-inside I n x u G gl e3) (omega arith) ho)) (lives x xo) (ls.saved x u e3);
    }

links-return : (I : Setting) (n p o : ℕ) (H G : World) → Others p H G → p < n → IsTidy I → Gdt I n G → Links I n G → IsTask I o → (book I G).held p ≡ Some o → Calm G p → But I H G (flag I o)
    → book I H ≡ returned p o (book I G) → Change I p H G → ((x : ℕ) → x ≢ o → (book I G).live x ≡ true → (book I H).live x ≡ true) → Links I n H
unfolding returned
links-return I n p o H G cp hp tidy gl ls ho held un rest eb ch lives =
    let b = book I G in
    let back : (u : ℕ) → (book I H).live u ≡ true → (u ≢ o) × (b.live u ≡ true) = λ u h. set-back b.live o u (sym (ap (λ d. d.live u) eb) ∙ h) in
    record {
      single = λ u. subst (λ d. bys d.waiting u ≤ 1) (sym eb) (let k = bys-without_by o b.waiting u in let l = ls.single u in omega (arith, k, l));
      alive = λ u h. ls.alive u (back u h).1;
      linked = λ u h.
          let l = ls.linked u (back u h).1 in
          let e1 = entries-without_by o b.waiting l.older u (back u h).0 in
          let e3 = l.entry in
          linked-on I n H G u l (subst (λ d. 1 ≤ entries d.waiting l.older u) (sym eb) (omega (arith, e1, e3))) (rest (seg I u 0) (low-flag I tidy u o (ls.alive u (back u h).1) ho)) (high-other I n p H G u l.older cp ch un.1 (rest (seg I u 1) (tss-flag I tidy u 1 o (ls.alive u (back u h).1) (omega arith) ho)) l.high);
      saved = λ x u e.
          let e0 : 1 ≤ entries (without_by o b.waiting) x u = subst (λ d. 1 ≤ entries d.waiting x u) eb e in
          let e1 = entries-without_by-le o b.waiting x u in
          let e3 : 1 ≤ entries b.waiting x u = omega (arith, e0, e1) in
          saved-other I n p H G x u cp ch un.0 (rest (seg I x 37) (tss-flag I tidy x 37 o (entry-inside I n x u G gl e3) (omega arith) ho)) (lives x (waits-apart I n p x u o G gl hp held e3)) (ls.saved x u e3);
    }

pub links_next : (I : Setting) (n p : ℕ) (H G : World) → Others p H G → IsTidy I → p < n → Gdt I n G → Links I n G → Change I p H G → Links I n H
links_next I n p H G cp tidy hp gl ls (Silent eb em mk) = links-silent I n p H G cp gl ls eb em mk
links_next I n p H G cp tidy hp gl ls (Saved o t ho held en rest eb ok) = links-saved I n p o t H G cp tidy gl ls ho held en rest eb ok
links_next I n p H G cp tidy hp gl ls (Spoilt o ho held un rest eb) = links-spoilt I n p o H G cp hp tidy gl ls ho held un rest eb
links_next I n p H G cp tidy hp gl ls (Claim w t ht un mk was now rest eb) = let ch = Claim w t ht un mk was now rest eb in links-claim I n p t w H G cp hp tidy gl ls ht un mk was rest eb ch (live-kept I p H G ch)
links_next I n p H G cp tidy hp gl ls (Link o t ht held un en now rest eb) = let ch = Link o t ht held un en now rest eb in links-link I n p o t H G cp hp tidy gl ls ht held un en now rest eb ch (λ x. live-kept I p H G ch x tt)
links_next I n p H G cp tidy hp gl ls (LinkOn o t ht held un en al now rest eb) = let ch = LinkOn o t ht held un en al now rest eb in links-link-on I n p o t H G cp hp tidy gl ls ht held un en al now rest eb ch (λ x. live-kept I p H G ch x tt)
links_next I n p H G cp tidy hp gl ls (Release o t ho held un en dead rest eb) = let ch = Release o t ho held un en dead rest eb in links-release I n p o t H G cp tidy gl ls ho un en dead rest eb ch (live-kept I p H G ch)
links_next I n p H G cp tidy hp gl ls (Return o x ho held un en one rest eb) = let ch = Return o x ho held un en one rest eb in links-return I n p o H G cp hp tidy gl ls ho held un rest eb ch (live-kept I p H G ch)
