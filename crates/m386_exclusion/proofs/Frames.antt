-- What a cycle of one processor leaves to the others.
use Rattle.std.proofs.Common.{◌≡◌, ◌≢◌, ℕ, ◌/◌, ◌%◌, ◌<◌, ◌≤◌, Bool, true, false, Option, Some, None, refl, sym, ap, ◌∙◌, subst, arith, inl, inr}
use Rattle.m386_stages.specs.Stages.{Phase, Free, Turned, Linking, Called, Jumped, Loaded, Backing, Returned, Ready, Stage, nt_set}
use Rattle.m386_book.specs.Book.{set, without_by, without_of, waiter, claimed, released, returned, linked, IsLive}
use Rattle.m386_exclusion.proofs.Counts.{test, test-true, test-false, put-there, holders-one, holders-two, entries-waits, entries-two, entries-without_by, entries-without_of, entries-added}
use Rattle.m386_exclusion.proofs.Places.{tss-flag, tss-part, area-out}
use Rattle.m386_exclusion.specs.Change.{Others, Change, Silent, Saved, Spoilt, Claim, Link, LinkOn, Release, Return}
use Rattle.m386_exclusion.specs.Held.{holds, number_of}
use Rattle.m386_exclusion.specs.Invariant.{entries, num, Owes, FlagsOk, Lives, Good, Gdt}
use Rattle.m386_exclusion.specs.Table.{HasRead, AreRight}
use Rattle.m386_exclusion.specs.World.{Setting, World, IsIdle, mem, flag, seg, book, waits, stands, IsTidy, gdt_reg}

-- a held task stands once, so it doesn't wait, and no other processor holds it
pub held-stands : (I : Setting) (n p x : ℕ) (G : World) → p < n → (book I G).held p ≡ Some x → 1 ≤ stands n (book I G) x
held-stands I n p x G h e = let k = holders-one n (book I G).held p x h e in omega (arith, k)

pub held-waits : (I : Setting) (n p x : ℕ) (G : World) → Gdt I n G → p < n → (book I G).held p ≡ Some x → waits (book I G).waiting x ≡ 0
held-waits I n p x G gl h e = let k = holders-one n (book I G).held p x h e in let o = gl.once x in omega (arith, k, o)

pub held-apart : (I : Setting) (n p q x y : ℕ) (G : World) → Gdt I n G → p < n → q < n → p ≢ q → (book I G).held p ≡ Some x → (book I G).held q ≡ Some y → x ≢ y
held-apart I n p q x y G gl hp hq d ep eq e =
    let k = holders-two n (book I G).held p q x hp hq d ep (eq ∙ ap Some (sym e)) in
    let o = gl.once x in absurd (omega (arith, k, o))

-- who waits isn't held, and stands
pub waits-apart : (I : Setting) (n p x u y : ℕ) (G : World) → Gdt I n G → p < n → (book I G).held p ≡ Some y → 1 ≤ entries (book I G).waiting x u → x ≢ y
waits-apart I n p x u y G gl hp held en e =
    let z : waits (book I G).waiting x ≡ 0 = subst (λ k. waits (book I G).waiting k ≡ 0) (sym e) (held-waits I n p y G gl hp held) in
    let k = entries-waits (book I G).waiting x u in absurd (omega (arith, z, k, en))

pub waits-stands : (I : Setting) (n x u : ℕ) (G : World) → 1 ≤ entries (book I G).waiting x u → 1 ≤ stands n (book I G) x
waits-stands I n x u G en = let k = entries-waits (book I G).waiting x u in omega (arith, k, en)

-- who stands isn't free to be claimed
pub stands-apart : (I : Setting) (n x t : ℕ) (G : World) → Gdt I n G → 1 ≤ stands n (book I G) x → IsIdle (mem I G (flag I t)) → x ≢ t
stands-apart I n x t G gl s was e = absurd (let k = sym (gl.busy x s) ∙ ap (λ k. mem I G (flag I k) / 2 % 2) e ∙ was in omega (arith, k))

pub set-here : (f : ℕ → Bool) (t : ℕ) (v : Bool) → set f t v t ≡ v
unfolding set
set-here f t v = rw (test-true t t refl) refl

pub set-there : (f : ℕ → Bool) (t x : ℕ) (v : Bool) → x ≢ t → set f t v x ≡ f x
unfolding set
set-there f t x v d = rw (test-false x t d) refl

set-true : (f : ℕ → Bool) (t x : ℕ) → f x ≡ true → set f t true x ≡ true
set-true f t x h = elim (test x t) [
  | inl e ↦ ap (set f t true) e.0 ∙ set-here f t true
  | inr e ↦ set-there f t x true e.0 ∙ h
]

set-false : (f : ℕ → Bool) (t x : ℕ) → f x ≡ false → set f t false x ≡ false
set-false f t x h = elim (test x t) [
  | inl e ↦ ap (set f t false) e.0 ∙ set-here f t false
  | inr e ↦ set-there f t x false e.0 ∙ h
]

-- a link that lives after an end lived before, and isn't the one ended
pub set-back : (f : ℕ → Bool) (t x : ℕ) → set f t false x ≡ true → (x ≢ t) × (f x ≡ true)
set-back f t x h = elim (test x t) [
  | inl e ↦ absurd (let k = sym (ap (set f t false) e.0 ∙ set-here f t false) ∙ h in cc)
  | inr e ↦ (e.0, sym (set-there f t x false e.0) ∙ h)
]

-- the change ends no life of this task's link
abbrev pub Spares : {I : Setting} {p : ℕ} {H G : World} → Change I p H G → ℕ → Type 0
Spares (Silent eb em mk) x = Unit {0}
Spares (Saved o t ho held en rest eb ok) x = Unit {0}
Spares (Spoilt o ho held un rest eb) x = Unit {0}
Spares (Claim w t ht un mk was now rest eb) x = x ≢ t
Spares (Link o t ht held un en now rest eb) x = Unit {0}
Spares (LinkOn o t ht held un en al now rest eb) x = Unit {0}
Spares (Release o t ho held un en dead rest eb) x = x ≢ o
Spares (Return o y ho held un en one rest eb) x = x ≢ o

pub live-kept : (I : Setting) (p : ℕ) (H G : World) (ch : Change I p H G) (x : ℕ) → Spares ch x → (book I G).live x ≡ true → (book I H).live x ≡ true
unfolding claimed released returned linked
live-kept I p H G (Silent eb em mk) x s h = ap (λ b. b.live x) eb ∙ h
live-kept I p H G (Saved o t ho held en rest eb ok) x s h = ap (λ b. b.live x) eb ∙ h
live-kept I p H G (Spoilt o ho held un rest eb) x s h = ap (λ b. b.live x) eb ∙ h
live-kept I p H G (Claim w t ht un mk was now rest eb) x s h = ap (λ b. b.live x) eb ∙ set-there (book I G).live t x false s ∙ h
live-kept I p H G (Link o t ht held un en now rest eb) x s h = ap (λ b. b.live x) eb ∙ set-true (book I G).live t x h
live-kept I p H G (LinkOn o t ht held un en al now rest eb) x s h = ap (λ b. b.live x) eb ∙ set-true (book I G).live t x h
live-kept I p H G (Release o t ho held un en dead rest eb) x s h = ap (λ b. b.live x) eb ∙ set-there (book I G).live o x false s ∙ h
live-kept I p H G (Return o y ho held un en one rest eb) x s h = ap (λ b. b.live x) eb ∙ set-there (book I G).live o x false s ∙ h

-- a task that another processor holds is spared, and one that waits by it
pub spares-held : (I : Setting) (n p o : ℕ) (H G : World) (ch : Change I p H G) (x : ℕ) → p < n → o < n → p ≢ o → Gdt I n G → (book I G).held o ≡ Some x → Spares ch x
spares-held I n p o H G (Silent eb em mk) x hp ho d gl h = tt
spares-held I n p o H G (Saved r t hr held en rest eb ok) x hp ho d gl h = tt
spares-held I n p o H G (Spoilt r hr held un rest eb) x hp ho d gl h = tt
spares-held I n p o H G (Claim w t ht un mk was now rest eb) x hp ho d gl h = stands-apart I n x t G gl (held-stands I n o x G ho h) was
spares-held I n p o H G (Link r t ht held un en now rest eb) x hp ho d gl h = tt
spares-held I n p o H G (LinkOn r t ht held un en al now rest eb) x hp ho d gl h = tt
spares-held I n p o H G (Release r t hr held un en dead rest eb) x hp ho d gl h = λ e. waits-apart I n o r t x G gl ho h en (sym e)
spares-held I n p o H G (Return r y hr held un en one rest eb) x hp ho d gl h = λ e. held-apart I n p o r x G gl hp ho d held h (sym e)

pub spares-waits : (I : Setting) (n p o : ℕ) (H G : World) (ch : Change I p H G) (x u : ℕ) → p < n → o < n → p ≢ o → Gdt I n G → (book I G).held o ≡ Some u → 1 ≤ entries (book I G).waiting x u → Spares ch x
spares-waits I n p o H G (Silent eb em mk) x u hp ho d gl h e = tt
spares-waits I n p o H G (Saved r t hr held en rest eb ok) x u hp ho d gl h e = tt
spares-waits I n p o H G (Spoilt r hr held un rest eb) x u hp ho d gl h e = tt
spares-waits I n p o H G (Claim w t ht un mk was now rest eb) x u hp ho d gl h e = stands-apart I n x t G gl (waits-stands I n x u G e) was
spares-waits I n p o H G (Link r t ht held un en now rest eb) x u hp ho d gl h e = tt
spares-waits I n p o H G (LinkOn r t ht held un en al now rest eb) x u hp ho d gl h e = tt
spares-waits I n p o H G (Release r t hr held un en dead rest eb) x u hp ho d gl h e = λ s. (
    let k = entries-two (book I G).waiting r t u (held-apart I n p o t u G gl hp ho d held h) in
    let e' : 1 ≤ entries (book I G).waiting r u = subst (λ y. 1 ≤ entries (book I G).waiting y u) s e in
    let l = gl.once r in absurd (omega (arith, k, e', en, l)))
spares-waits I n p o H G (Return r y hr held un en one rest eb) x u hp ho d gl h e = waits-apart I n p x u r G gl hp held e

-- an entry by a task that another processor holds stays
pub entry-kept : (I : Setting) (n p o : ℕ) (H G : World) (x u : ℕ) → p < n → o < n → p ≢ o → Gdt I n G → (ch : Change I p H G) → (book I G).held o ≡ Some u → 1 ≤ entries (book I G).waiting x u → 1 ≤ entries (book I H).waiting x u
unfolding claimed released returned linked
entry-kept I n p o H G x u hp ho d gl (Silent eb em mk) held en = subst (λ b. 1 ≤ entries b.waiting x u) (sym eb) en
entry-kept I n p o H G x u hp ho d gl (Saved r t hr heldp entry rest eb ok) held en = subst (λ b. 1 ≤ entries b.waiting x u) (sym eb) en
entry-kept I n p o H G x u hp ho d gl (Spoilt r hr heldp un rest eb) held en = subst (λ b. 1 ≤ entries b.waiting x u) (sym eb) en
entry-kept I n p o H G x u hp ho d gl (Link r t ht heldp un entry now rest eb) held en = subst (λ b. 1 ≤ entries b.waiting x u) (sym eb) en
entry-kept I n p o H G x u hp ho d gl (LinkOn r t ht heldp un entry al now rest eb) held en = subst (λ b. 1 ≤ entries b.waiting x u) (sym eb) en
entry-kept I n p o H G x u hp ho d gl (Claim w t ht un mk was now rest eb) held en =
    let b = book I G in
    let ut : u ≢ t = stands-apart I n u t G gl (held-stands I n o u G ho held) was in
    let e1 = entries-without_by t b.waiting x u ut in
    let e2 = entries-added w (b.held p) t (without_by t b.waiting) x u in
    subst (λ d. 1 ≤ entries d.waiting x u) (sym eb) (omega (arith, e1, e2, en))
entry-kept I n p o H G x u hp ho d gl (Release r t hr heldp un entry dead rest eb) held en =
    let b = book I G in
    let xr : x ≢ r = spares-waits I n p o H G (Release r t hr heldp un entry dead rest eb) x u hp ho d gl held en in
    let ur : u ≢ r = spares-held I n p o H G (Release r t hr heldp un entry dead rest eb) u hp ho d gl held in
    let e1 = entries-without_by r (without_of r b.waiting) x u ur in
    let e2 = entries-without_of r b.waiting x u xr in
    subst (λ d. 1 ≤ entries d.waiting x u) (sym eb) (omega (arith, e1, e2, en))
entry-kept I n p o H G x u hp ho d gl (Return r y hr heldp un entry one rest eb) held en =
    let b = book I G in
    let ur : u ≢ r = spares-held I n p o H G (Return r y hr heldp un entry one rest eb) u hp ho d gl held in
    let e1 = entries-without_by r b.waiting x u ur in
    subst (λ d. 1 ≤ entries d.waiting x u) (sym eb) (omega (arith, e1, en))

-- another processor holds what it held
pub held-kept : (I : Setting) (p o : ℕ) (H G : World) → o ≢ p → Change I p H G → (book I H).held o ≡ (book I G).held o
unfolding claimed released returned linked
held-kept I p o H G d (Silent eb em mk) = ap (λ b. b.held o) eb
held-kept I p o H G d (Saved r t hr held en rest eb ok) = ap (λ b. b.held o) eb
held-kept I p o H G d (Spoilt r hr held un rest eb) = ap (λ b. b.held o) eb
held-kept I p o H G d (Claim w t ht un mk was now rest eb) = ap (λ b. b.held o) eb ∙ put-there (book I G).held p o (Some t) d
held-kept I p o H G d (Link r t ht held un en now rest eb) = ap (λ b. b.held o) eb
held-kept I p o H G d (LinkOn r t ht held un en al now rest eb) = ap (λ b. b.held o) eb
held-kept I p o H G d (Release r t hr held un en dead rest eb) = ap (λ b. b.held o) eb
held-kept I p o H G d (Return r y hr held un en one rest eb) = ap (λ b. b.held o) eb ∙ put-there (book I G).held p o (waiter r (book I G).waiting) d

-- the link of a task that another processor holds doesn't come to life
dead-kept : (I : Setting) (n p o : ℕ) (H G : World) (ch : Change I p H G) (x : ℕ) → p < n → o < n → p ≢ o → Gdt I n G → (book I G).held o ≡ Some x → (book I G).live x ≡ false → (book I H).live x ≡ false
unfolding claimed released returned linked
dead-kept I n p o H G (Silent eb em mk) x hp ho d gl h l = ap (λ b. b.live x) eb ∙ l
dead-kept I n p o H G (Saved r t hr held en rest eb ok) x hp ho d gl h l = ap (λ b. b.live x) eb ∙ l
dead-kept I n p o H G (Spoilt r hr held un rest eb) x hp ho d gl h l = ap (λ b. b.live x) eb ∙ l
dead-kept I n p o H G (Claim w t ht un mk was now rest eb) x hp ho d gl h l = ap (λ b. b.live x) eb ∙ set-false (book I G).live t x l
dead-kept I n p o H G (Link r t ht held un en now rest eb) x hp ho d gl h l = ap (λ b. b.live x) eb ∙ set-there (book I G).live t x true (λ e. held-apart I n p o t x G gl hp ho d held h (sym e)) ∙ l
dead-kept I n p o H G (LinkOn r t ht held un en al now rest eb) x hp ho d gl h l = ap (λ b. b.live x) eb ∙ set-there (book I G).live t x true (λ e. held-apart I n p o t x G gl hp ho d held h (sym e)) ∙ l
dead-kept I n p o H G (Release r t hr held un en dead rest eb) x hp ho d gl h l = ap (λ b. b.live x) eb ∙ set-false (book I G).live r x l
dead-kept I n p o H G (Return r y hr held un en one rest eb) x hp ho d gl h l = ap (λ b. b.live x) eb ∙ set-false (book I G).live r x l

pub flags-kept : (I : Setting) (H G : World) (x : ℕ) → mem I H (seg I x 37) ≡ mem I G (seg I x 37) → ((book I G).live x ≡ true → (book I H).live x ≡ true) → FlagsOk I G x → FlagsOk I H x
flags-kept I H G x em el (inl z) = inl (ap nt_set em ∙ z)
flags-kept I H G x em el (inr l) = inr (el l)

-- the saved flags of a task that another processor holds stay
flags-held : (I : Setting) (n p o : ℕ) (H G : World) (ch : Change I p H G) (x : ℕ) → IsTidy I → p < n → o < n → p ≢ o → Gdt I n G → (book I G).held o ≡ Some x → mem I H (seg I x 37) ≡ mem I G (seg I x 37)
flags-held I n p o H G (Silent eb em mk) x tidy hp ho d gl h = em.nts x (gl.inside x (held-stands I n o x G ho h))
flags-held I n p o H G (Saved r t hr held en rest eb ok) x tidy hp ho d gl h =
    rest (seg I x 37) (area-out I tidy x 37 r (gl.inside x (held-stands I n o x G ho h)) (omega arith) hr (inl (λ e. waits-apart I n o r t x G gl ho h en (sym e))))
flags-held I n p o H G (Spoilt r hr held un rest eb) x tidy hp ho d gl h =
    rest (seg I x 37) (area-out I tidy x 37 r (gl.inside x (held-stands I n o x G ho h)) (omega arith) hr (inl (λ e. held-apart I n p o r x G gl hp ho d held h (sym e))))
flags-held I n p o H G (Claim w t ht un mk was now rest eb) x tidy hp ho d gl h = rest (seg I x 37) (tss-flag I tidy x 37 t (gl.inside x (held-stands I n o x G ho h)) (omega arith) ht)
flags-held I n p o H G (Link r t ht held un en now rest eb) x tidy hp ho d gl h =
    let hx = gl.inside x (held-stands I n o x G ho h) in
    rest (seg I x 37) (λ e. tss-part I tidy x 37 t 0 hx (omega arith) ht (omega arith) (omega arith) (omega (arith, e))) (tss-part I tidy x 37 t 1 hx (omega arith) ht (omega arith) (omega arith))
flags-held I n p o H G (LinkOn r t ht held un en al now rest eb) x tidy hp ho d gl h = rest (seg I x 37) (tss-part I tidy x 37 t 1 (gl.inside x (held-stands I n o x G ho h)) (omega arith) ht (omega arith) (omega arith))
flags-held I n p o H G (Release r t hr held un en dead rest eb) x tidy hp ho d gl h = rest (seg I x 37) (tss-flag I tidy x 37 r (gl.inside x (held-stands I n o x G ho h)) (omega arith) hr)
flags-held I n p o H G (Return r y hr held un en one rest eb) x tidy hp ho d gl h = rest (seg I x 37) (tss-flag I tidy x 37 r (gl.inside x (held-stands I n o x G ho h)) (omega arith) hr)

owes-kept : (I : Setting) (n p o : ℕ) (H G : World) (g : Phase) → p < n → o < n → p ≢ o → Gdt I n G → Change I p H G → (book I G).held o ≡ holds g → Owes (book I G) g → Owes (book I H) g
owes-kept I n p o H G (Turned k x t nt s) hp ho d gl ch held ow = entry-kept I n p o H G (num x) (num t) hp ho d gl ch held ow
owes-kept I n p o H G (Linking x t) hp ho d gl ch held ow = entry-kept I n p o H G (num x) (num t) hp ho d gl ch held ow
owes-kept I n p o H G (Backing t bs) hp ho d gl ch held ow = record { older = ow.older; entry = entry-kept I n p o H G ow.older (num t) hp ho d gl ch held ow.entry; low = ow.low; high = ow.high }
owes-kept I n p o H G (Free tr nt) hp ho d gl ch held ow = tt
owes-kept I n p o H G (Jumped t) hp ho d gl ch held ow = tt
owes-kept I n p o H G (Called t) hp ho d gl ch held ow = tt
owes-kept I n p o H G (Loaded t nt) hp ho d gl ch held ow = tt
owes-kept I n p o H G (Returned x) hp ho d gl ch held ow = tt
owes-kept I n p o H G (Ready x nt) hp ho d gl ch held ow = tt

-- a held task's link stays alive
live-if : (I : Setting) (n p o : ℕ) (H G : World) (tr : Option ℕ) → p < n → o < n → p ≢ o → Gdt I n G → Change I p H G → (book I G).held o ≡ tr → IsLive (book I G) tr → IsLive (book I H) tr
live-if I n p o H G None hp ho d gl ch held l = l
live-if I n p o H G (Some t) hp ho d gl ch held l = live-kept I p H G ch t (spares-held I n p o H G ch t hp ho d gl held) l

lives-kept : (I : Setting) (n p o : ℕ) (H G : World) (g : Phase) → IsTidy I → p < n → o < n → p ≢ o → Gdt I n G → Change I p H G → (book I G).held o ≡ holds g → Owes (book I G) g → Lives I G g → Lives I H g
lives-kept I n p o H G (Free tr nt) tidy hp ho d gl ch held ow l = λ e. live-if I n p o H G (number_of tr) hp ho d gl ch held (l e)
lives-kept I n p o H G (Turned k x t nt s) tidy hp ho d gl ch held ow l =
    (λ e. live-kept I p H G ch (num x) (spares-waits I n p o H G ch (num x) (num t) hp ho d gl held ow) (l.0 e), dead-kept I n p o H G ch (num t) hp ho d gl held l.1)
lives-kept I n p o H G (Linking x t) tidy hp ho d gl ch held ow l = live-kept I p H G ch (num t) (spares-held I n p o H G ch (num t) hp ho d gl held) l
lives-kept I n p o H G (Called t) tidy hp ho d gl ch held ow l = live-kept I p H G ch (num t) (spares-held I n p o H G ch (num t) hp ho d gl held) l
lives-kept I n p o H G (Jumped t) tidy hp ho d gl ch held ow l = tt
lives-kept I n p o H G (Loaded t nt) tidy hp ho d gl ch held ow l = l
lives-kept I n p o H G (Backing t bs) tidy hp ho d gl ch held ow l = live-kept I p H G ch (num t) (spares-held I n p o H G ch (num t) hp ho d gl held) l
lives-kept I n p o H G (Returned x) tidy hp ho d gl ch held ow l =
    flags-kept I H G (num x) (flags-held I n p o H G ch (num x) tidy hp ho d gl held) (live-kept I p H G ch (num x) (spares-held I n p o H G ch (num x) hp ho d gl held)) l
lives-kept I n p o H G (Ready x nt) tidy hp ho d gl ch held ow l = λ e. live-kept I p H G ch (num x) (spares-held I n p o H G ch (num x) hp ho d gl held) (l e)

-- What holds of another processor holds after the cycle.
pub frame : (I : Setting) (n p o : ℕ) (H G : World) → IsTidy I → p < n → o < n → o ≢ p → Others p H G → Gdt I n G → Change I p H G → HasRead I.first (gdt_reg I) o (G.at o) H.cycles → Good I o G → Good I o H
frame I n p o H G tidy hp ho d cp gl ch read good =
    let e : G.at o ≡ H.at o = sym (cp o d) in
    record {
      holds = held-kept I p o H G d ch ∙ good.holds ∙ ap (λ (g : Stage). holds g.phase) e;
      right = subst (λ (g : Stage). AreRight I.first (gdt_reg I) g.phase) e good.right;
      read = subst (λ (g : Stage). HasRead I.first (gdt_reg I) o g H.cycles) e read;
      owes = subst (λ (g : Stage). Owes (book I H) g.phase) e (owes-kept I n p o H G (G.at o).phase hp ho (λ e. d (sym e)) gl ch good.holds good.owes);
      lives = subst (λ (g : Stage). Lives I H g.phase) e (lives-kept I n p o H G (G.at o).phase tidy hp ho (λ e. d (sym e)) gl ch good.holds good.owes good.lives);
    }
