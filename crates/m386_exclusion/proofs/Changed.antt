-- Who holds and who waits, and the busy bits, after each kind of change.
use Rattle.std.proofs.Common.{◌≡◌, ◌≢◌, ℕ, ◌+◌, ◌<◌, ◌≤◌, Bool, Some, refl, sym, ap, ◌∙◌, subst, arith, ◌⊎◌, inl, inr}
use Rattle.m386_book.specs.Book.{without_by, without_of, waiter, claimed, released, returned, linked, Book}
use Rattle.m386_exclusion.proofs.Counts.{test, test-true, test-false, holders-put, entries-waits, waits-without_by, waits-without_of, waits-none, waits-added, waiter-is, waits-return}
use Rattle.m386_exclusion.proofs.Places.{flag-apart, tss-flag, area-table}
use Rattle.m386_exclusion.specs.Change.{But, Change, Silent, Saved, Spoilt, Claim, Link, LinkOn, Release, Return}
use Rattle.m386_exclusion.specs.Invariant.{entries, bys, Gdt}
use Rattle.m386_exclusion.specs.Table.{IsTable}
use Rattle.m386_exclusion.specs.World.{Setting, World, IsTask, IsBusy, mem, flag, book, is, stands, IsTidy, gdt_reg}

none-or-some : (k : ℕ) → (k ≡ 0) ⊎ (1 ≤ k)
none-or-some k = grind arith

-- counts after a claim, a release, a return
claim-count : (n : ℕ) (w : Bool) (p t : ℕ) (b : Book) (x : ℕ) → p < n → stands n (claimed w p t b) x ≤ stands n b x + is (Some t) x
unfolding claimed
claim-count n w p t b x h =
    let e1 = holders-put n b.held p (Some t) x h in
    let e2 = waits-added w (b.held p) t (without_by t b.waiting) x in
    let e3 = waits-without_by t b.waiting x in
    omega (arith, e1, e2, e3)

release-count : (n : ℕ) (o : ℕ) (b : Book) (x : ℕ) → stands n (released o b) x ≤ stands n b x
unfolding released
release-count n o b x =
    let e1 = waits-without_by o (without_of o b.waiting) x in
    let e2 = waits-without_of o b.waiting x in
    omega (arith, e1, e2)

release-none : (n : ℕ) (o t : ℕ) (b : Book) → stands n b o ≤ 1 → 1 ≤ entries b.waiting o t → stands n (released o b) o ≡ 0
unfolding released
release-none n o t b h e =
    let e1 = waits-without_by o (without_of o b.waiting) o in
    let e2 = waits-none o b.waiting in
    let e3 = entries-waits b.waiting o t in
    omega (arith, e1, e2, e3)

return-count : (n p o x : ℕ) (b : Book) (y : ℕ) → p < n → b.held p ≡ Some o → 1 ≤ entries b.waiting x o → bys b.waiting o ≤ 1 → stands n (returned p o b) y + is (Some o) y ≤ stands n b y
unfolding returned
return-count n p o x b y hp held en one =
    let w = waiter-is b.waiting x o one en in
    let e1 = holders-put n b.held p (waiter o b.waiting) y hp in
    let e1' = rw (w, held) at e1 in
    let e2 = waits-return o b.waiting y in
    rw w (elim (test x y) [
      | inl d ↦ (let z : is (Some x) y ≡ 1 = rw (d.1) refl in let en' : 1 ≤ entries b.waiting y o = subst (λ k. 1 ≤ entries b.waiting k o) d.0 en in omega (arith, e1', e2, z, en'))
      | inr d ↦ (let z : is (Some x) y ≡ 0 = rw (d.1) refl in omega (arith, e1', e2, z))
    ])

-- nothing that stands has changed
gdt_keep : (I : Setting) (n : ℕ) (H G : World) → ((x : ℕ) → stands n (book I H) x ≡ stands n (book I G) x) → ((t : ℕ) → IsTask I t → IsBusy (mem I G (flag I t)) → IsBusy (mem I H (flag I t))) → IsTable I.first (gdt_reg I) H.cycles → Gdt I n G → Gdt I n H
gdt_keep I n H G es ef kin gl =
    let back : (x : ℕ) → 1 ≤ stands n (book I H) x → 1 ≤ stands n (book I G) x = λ x h. subst (λ k. 1 ≤ k) (es x) h in
    record {
      once = λ x. subst (λ k. k ≤ 1) (sym (es x)) (gl.once x);
      busy = λ x h. ef x (gl.inside x (back x h)) (gl.busy x (back x h));
      inside = λ x h. gl.inside x (back x h);
      kin = kin;
    }

gdt_less : (I : Setting) (n o : ℕ) (H G : World) → ((x : ℕ) → stands n (book I H) x ≤ stands n (book I G) x) → stands n (book I H) o ≡ 0 → But I H G (flag I o) → IsTable I.first (gdt_reg I) H.cycles → Gdt I n G → Gdt I n H
gdt_less I n o H G count none rest kin gl =
    let other : (x : ℕ) → 1 ≤ stands n (book I H) x → x ≢ o = λ x h e. (let z : stands n (book I H) x ≡ 0 = ap (stands n (book I H)) e ∙ none in absurd (omega (arith, z, h))) in
    record {
      once = λ x. let k = count x in let o = gl.once x in omega (arith, k, o);
      busy = λ x h. let k = count x in subst IsBusy (sym (rest (flag I x) (flag-apart I x o (other x h)))) (gl.busy x (omega (arith, k, h)));
      inside = λ x h. let k = count x in gl.inside x (omega (arith, k, h));
      kin = kin;
    }

linked-stands : (n t : ℕ) (b : Book) (x : ℕ) → stands n (linked (Some t) b) x ≡ stands n b x
unfolding linked
linked-stands n t b x = refl

-- The tasks after each kind of change.
pub gdt_next : (I : Setting) (n p : ℕ) (H G : World) → IsTidy I → p < n → Gdt I n G → IsTable I.first (gdt_reg I) H.cycles → Change I p H G → Gdt I n H
gdt_next I n p H G tidy hp gl kin (Silent eb em mk) = gdt_keep I n H G (λ x. ap (λ b. stands n b x) eb) em.flags kin gl
gdt_next I n p H G tidy hp gl kin (Saved o t ho held en rest eb ok) =
    gdt_keep I n H G (λ x. ap (λ b. stands n b x) eb) (λ u h b. subst IsBusy (sym (rest (flag I u) (area-table I tidy u o h ho))) b) kin gl
gdt_next I n p H G tidy hp gl kin (Spoilt o ho held un rest eb) =
    gdt_keep I n H G (λ x. ap (λ b. stands n b x) eb) (λ u h b. subst IsBusy (sym (rest (flag I u) (area-table I tidy u o h ho))) b) kin gl
gdt_next I n p H G tidy hp gl kin (Link o t ht held un en now rest eb) =
    gdt_keep I n H G (λ x. ap (λ b. stands n b x) eb ∙ linked-stands n t (book I G) x)
    (λ u h b. subst IsBusy (sym (rest (flag I u) (λ e. tss-flag I tidy t 0 u ht (omega arith) h (sym e)) (λ e. tss-flag I tidy t 1 u ht (omega arith) h (sym e)))) b) kin gl
gdt_next I n p H G tidy hp gl kin (LinkOn o t ht held un en al now rest eb) =
    gdt_keep I n H G (λ x. ap (λ b. stands n b x) eb ∙ linked-stands n t (book I G) x)
    (λ u h b. subst IsBusy (sym (rest (flag I u) (λ e. tss-flag I tidy t 1 u ht (omega arith) h (sym e)))) b) kin gl
gdt_next I n p H G tidy hp gl kin (Release o t ho held un en dead rest eb) =
    let b = book I G in
    gdt_less I n o H G (λ x. subst (λ d. stands n d x ≤ stands n b x) (sym eb) (release-count n o b x)) (subst (λ d. stands n d o ≡ 0) (sym eb) (release-none n o t b (gl.once o) en)) rest kin gl
gdt_next I n p H G tidy hp gl kin (Return o x ho held un en one rest eb) =
    let b = book I G in
    let count : (y : ℕ) → stands n (book I H) y + is (Some o) y ≤ stands n b y = λ y. subst (λ d. stands n d y + is (Some o) y ≤ stands n b y) (sym eb) (return-count n p o x b y hp held en one) in
    gdt_less I n o H G (λ y. let k = count y in omega (arith, k)) (let k = count o in let z : is (Some o) o ≡ 1 = rw (test-true o o refl) refl in let l = gl.once o in omega (arith, k, z, l)) rest kin gl
gdt_next I n p H G tidy hp gl kin (Claim w t ht un mk was now rest eb) =
    let b = book I G in
    let none : stands n b t ≡ 0 = elim (none-or-some (stands n b t)) [ inl z ↦ z | inr s ↦ absurd (let k = sym was ∙ gl.busy t s in omega (arith, k)) ] in
    let count : (x : ℕ) → stands n (book I H) x ≤ stands n b x + is (Some t) x = λ x. subst (λ d. stands n d x ≤ stands n b x + is (Some t) x) (sym eb) (claim-count n w p t b x hp) in
    let other : (x : ℕ) → t ≢ x → stands n (book I H) x ≤ stands n b x = λ x d. let k = count x in let z : is (Some t) x ≡ 0 = rw (test-false t x d) refl in omega (arith, k, z) in
    record {
      once = λ x. elim (test t x) [
        | inl e ↦ (let k = count t in let z : is (Some t) t ≡ 1 = rw (test-true t t refl) refl in subst (λ y. stands n (book I H) y ≤ 1) e.0 (omega (arith, k, z, none)))
        | inr e ↦ (let k = other x e.0 in let o = gl.once x in omega (arith, k, o))
      ];
      busy = λ x h. elim (test t x) [
        | inl e ↦ subst (λ y. IsBusy (mem I H (flag I y))) e.0 now
        | inr e ↦ (let k = other x e.0 in subst IsBusy (sym (rest (flag I x) (flag-apart I x t (λ d. e.0 (sym d))))) (gl.busy x (omega (arith, k, h))))
      ];
      inside = λ x h. elim (test t x) [
        | inl e ↦ subst (IsTask I) e.0 ht
        | inr e ↦ (let k = other x e.0 in gl.inside x (omega (arith, k, h)))
      ];
      kin = kin;
    }
