-- What the rules on TSSs ask, by the bases that the code keeps.
use Rattle.std.proofs.Common.{◌≡◌, ℕ, zero, suc, ◌+◌, ◌*◌, ◌/◌, ◌<◌, ◌≤◌, ◌^◌, Bool, true, List, [], ◌∷◌, length, get_or, refl, ap, sym, subst, ◌∙◌, inl, inr, arith}
use Rattle.std.specs.Prelude.{◌⊎◌, ◌↔◌, IsTrue, Contains}
use Rattle.std.proofs.lemmas.Bool.{cases_lt}
use Rattle.m386_base.specs.declared.ask.Ask.{Ask}
use Rattle.m386_base.specs.Bytes.{Has, bytes_of}
use Rattle.m386_image.specs.declared.image.Image.{Image}
use Rattle.m386_book.specs.Rules.{GdtIsOutside, TssIsOutside, TssMeetsGdt, TwoTssMeet, TssIsBusy, FailsStatic, IsGuarded, Touches}
use Rattle.m386_book.specs.Segments.{AreBelow, EndsBehind, Meets}
use Rattle.m386_book.specs.Tss.{IsTss, IsBusyTss, IsOfTss, IsInSegment, IsOfTable, tss_base}

-- a TSS has its number below the count
counted : (image : Image) (number : ℕ) → IsTss image number → number < (image.gdt.limit + 1) / 8
counted image number tss = let h : number * 8 + 7 ≤ image.gdt.limit = tss.within.1 in omega (arith, h)

module _ (image : Image) (bases : List ℕ) (shared busy : Bool) (h : AreBelow image ((image.gdt.limit + 1) / 8) bases shared busy) where
  -- a segment that has a place from a low one to a last one
  met : (low last : ℕ) → Meets bases low last → (number : ℕ) × IsTss image number × (tss_base image number ≤ last) × (low < tss_base image number + 104)
  met low last m =
      let f = h.are m.0 m.1 in
      let e : tss_base image f.0 ≡ m.0 = f.3 in
      let l : m.0 ≤ last = m.2 in
      let r : low < m.0 + 104 = m.3 in
      (f.0, f.2, omega (arith, e, l), omega (arith, e, r))

  meets : (low last number : ℕ) → IsTss image number → tss_base image number ≤ last → low < tss_base image number + 104 → Meets bases low last
  meets low last number tss below above = (tss_base image number, h.all number (counted image number tss) tss, below, above)

  pub outside : EndsBehind bases image.memory ↔ TssIsOutside image
  outside = (
    λ m.
        let f = h.are m.0 m.1 in
        let e : tss_base image f.0 ≡ m.0 = f.3 in
        let l : image.memory < m.0 + 104 = m.2 in
        (f.0, f.2, omega (arith, e, l)),
    λ o. (tss_base image o.0, h.all o.0 (counted image o.0 o.1) o.1, o.2),
  )

  gdt_there : Meets bases image.gdt.base (image.gdt.base + image.gdt.limit) → TssMeetsGdt image
  gdt_there m =
      let f = met image.gdt.base (image.gdt.base + image.gdt.limit) m in
      let l : tss_base image f.0 ≤ image.gdt.base + image.gdt.limit = f.2 in
      let r : image.gdt.base < tss_base image f.0 + 104 = f.3 in
      elim (cases_lt (tss_base image f.0) image.gdt.base) [
        | inl lt ↦ (f.0, image.gdt.base, record { tss = f.1; at = record { from = omega (arith, lt); before = r } }, record { from = omega arith; upto = omega arith })
        | inr le ↦ (f.0, tss_base image f.0, record { tss = f.1; at = record { from = omega arith; before = omega arith } }, record { from = le; upto = l })
      ]

  gdt_back : TssMeetsGdt image → Meets bases image.gdt.base (image.gdt.base + image.gdt.limit)
  gdt_back o =
      let a : tss_base image o.0 ≤ o.1 = o.2.at.from in
      let b : o.1 < tss_base image o.0 + 104 = o.2.at.before in
      let c : image.gdt.base ≤ o.1 = o.3.from in
      let d : o.1 ≤ image.gdt.base + image.gdt.limit = o.3.upto in
      meets image.gdt.base (image.gdt.base + image.gdt.limit) o.0 o.2.tss (omega (arith, a, d)) (omega (arith, b, c))

  pub with_gdt : Meets bases image.gdt.base (image.gdt.base + image.gdt.limit) ↔ TssMeetsGdt image
  with_gdt = (gdt_there, gdt_back)

  pub among_themselves : IsTrue shared ↔ TwoTssMeet image
  among_themselves = (
    λ p. let f = h.shared_is.0 p in (f.0, f.1, f.2, f.3, f.5, f.6),
    λ o. h.shared_is.1 (o.0, o.1, o.2, o.3, counted image o.1 o.5.tss, o.4, o.5),
  )

  pub at_work : IsTrue busy ↔ TssIsBusy image
  at_work = (
    λ p. let f = h.busy_is.0 p in (f.0, f.2),
    λ o. h.busy_is.1 (o.0, counted image o.0 o.1.tss, o.1),
  )

  pub of_some_tss : (place : ℕ) → Meets bases place place ↔ ((number : ℕ) × IsOfTss image number place)
  of_some_tss place = (
    λ m.
        let f = met place place m in
        (f.0, record { tss = f.1; at = record { from = f.2; before = f.3 } }),
    λ o. meets place place o.0 o.1.tss o.1.at.from o.1.at.before,
  )

-- ---- the least rule that fails

pub iff_then : {A B C : Type 0} → (A ↔ B) → (B ↔ C) → (A ↔ C)
iff_then f g = (λ a. g.0 (f.0 a), λ c. f.1 (g.1 c))

pub fails_four : (image : Image) → ¬ GdtIsOutside image → ¬ TssIsOutside image → ¬ TssMeetsGdt image → TwoTssMeet image → FailsStatic image 4 × ((lesser : ℕ) → lesser < 4 → ¬ FailsStatic image lesser)
fails_four image one two three four = (inr (inr (inr (inl (refl, four)))), less)
  where
    less : (lesser : ℕ) → lesser < 4 → ¬ FailsStatic image lesser
    less r lt (inl f) = one f.1
    less r lt (inr (inl f)) = two f.1
    less r lt (inr (inr (inl f))) = three f.1
    less r lt (inr (inr (inr (inl f)))) = let e : r ≡ 4 = f.0 in omega (arith, e, lt)
    less r lt (inr (inr (inr (inr f)))) = let e : r ≡ 5 = f.0 in omega (arith, e, lt)

pub fails_five : (image : Image) → ¬ GdtIsOutside image → ¬ TssIsOutside image → ¬ TssMeetsGdt image → ¬ TwoTssMeet image → TssIsBusy image → FailsStatic image 5 × ((lesser : ℕ) → lesser < 5 → ¬ FailsStatic image lesser)
fails_five image one two three four five = (inr (inr (inr (inr (refl, five)))), less)
  where
    less : (lesser : ℕ) → lesser < 5 → ¬ FailsStatic image lesser
    less r lt (inl f) = one f.1
    less r lt (inr (inl f)) = two f.1
    less r lt (inr (inr (inl f))) = three f.1
    less r lt (inr (inr (inr (inl f)))) = four f.1
    less r lt (inr (inr (inr (inr f)))) = let e : r ≡ 5 = f.0 in omega (arith, e, lt)

pub fails_none : (image : Image) → ¬ GdtIsOutside image → ¬ TssIsOutside image → ¬ TssMeetsGdt image → ¬ TwoTssMeet image → ¬ TssIsBusy image → (rule : ℕ) → ¬ FailsStatic image rule
fails_none image one two three four five r (inl f) = one f.1
fails_none image one two three four five r (inr (inl f)) = two f.1
fails_none image one two three four five r (inr (inr (inl f))) = three f.1
fails_none image one two three four five r (inr (inr (inr (inl f)))) = four f.1
fails_none image one two three four five r (inr (inr (inr (inr f)))) = five f.1

-- ---- a cycle's bytes, one after another

-- none of the first bytes is guarded
abbrev pub NoneGuarded : Image → List (ℕ × ℕ) → ℕ → Type 0
NoneGuarded image bs n = (i : ℕ) → i < n → i < length bs → IsGuarded image (get_or bs i (0, 0)).0 → ⊥

has_at : (bs : List (ℕ × ℕ)) (i : ℕ) → i < length bs → Has bs (get_or bs i (0, 0)).0 (get_or bs i (0, 0)).1
has_at [] i lt = absurd (omega (arith, lt))
has_at (b ∷ bs) zero lt = inl (refl, refl)
has_at (b ∷ bs) (suc i) lt = inr (has_at bs i (omega (arith, lt)))

at_has : (bs : List (ℕ × ℕ)) (place byte : ℕ) → Has bs place byte → (i : ℕ) × (i < length bs) × ((get_or bs i (0, 0)).0 ≡ place)
at_has [] place byte h = elim h [ ]
at_has (b ∷ bs) place byte (inl e) = (0, omega arith, e.0)
at_has (b ∷ bs) place byte (inr h) = let r = at_has bs place byte h in (suc r.0, (let lt : r.0 < length bs = r.1 in omega (arith, lt)), r.2)

pub touched : (image : Image) (a : Ask) (bs : List (ℕ × ℕ)) (i : ℕ) → bs ≡ bytes_of a → i < length bs → IsGuarded image (get_or bs i (0, 0)).0 → Touches image a
touched image a bs i e lt guarded = ((get_or bs i (0, 0)).0, (get_or bs i (0, 0)).1, subst (λ (xs : List (ℕ × ℕ)). Has xs (get_or bs i (0, 0)).0 (get_or bs i (0, 0)).1) e (has_at bs i lt), guarded)

pub none_more : (image : Image) (bs : List (ℕ × ℕ)) (n : ℕ) → NoneGuarded image bs n → (IsGuarded image (get_or bs n (0, 0)).0 → ⊥) → NoneGuarded image bs (n + 1)
none_more image bs n before here i lt within guarded = elim (cases_lt i n) [
  | inl below ↦ before i below within guarded
  | inr over ↦ let e : i ≡ n = omega (arith, lt, over) in here (subst (λ (k : ℕ). IsGuarded image (get_or bs k (0, 0)).0) e guarded)
]

pub untouched : (image : Image) (a : Ask) (bs : List (ℕ × ℕ)) (n : ℕ) → bs ≡ bytes_of a → length bs ≤ n → NoneGuarded image bs n → Touches image a → ⊥
untouched image a bs n e all before t =
    let f = at_has bs t.0 t.1 (subst (λ (xs : List (ℕ × ℕ)). Has xs t.0 t.1) (sym e) t.2) in
    let lt : f.0 < length bs = f.1 in
    before f.0 (omega (arith, lt, all)) lt (subst (IsGuarded image) (sym f.2) t.3)

-- the other of two, where the first isn't so
pub or_else : {A B C : Type 0} → ¬ B → (A ↔ C) → (A ↔ (B ⊎ C))
or_else none f = (λ a. inr (f.0 a), λ x. elim x [ inl b ↦ absurd (none b) | inr c ↦ f.1 c ])
