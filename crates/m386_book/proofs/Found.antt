-- The TSSs of an image, taken in by the numbers of their descriptors.
use Rattle.std.proofs.Common.{◌≡◌, ℕ, ◌+◌, ◌-◌, ◌*◌, ◌/◌, ◌%◌, ◌^◌, ◌<◌, ◌≤◌, Bool, true, false, cond, eqb, List, [], ◌∷◌, ◌++◌, length, get_or, Option, Some, None, refl, ap, sym, subst, ◌∙◌, inl, inr, arith}
use Rattle.std.specs.Prelude.{◌↔◌, ◌⊎◌, IsTrue, Contains, ◌==◌, ◌&&◌, ◌||◌}
use Rattle.std.specs.List.{insert}
use Rattle.std.specs.List.Sorted.{IsNonDecreasing, IsPermutation}
use Rattle.std.proofs.lemmas.Bool.{cases_lt, cases_order, eqb-true, eq-eqb}
use Rattle.std.proofs.lemmas.List.Elements.{Contains-get_or, Contains-append_cases, Contains-push_cases, Contains-append_right}
use Rattle.std.proofs.lemmas.List.Sorted.{IsPermutation-insert, IsPermutation-sym, Contains-permutation, IsNonDecreasingBy-insert, IsNonDecreasingBy-short}
use Rattle.m386_image.specs.declared.image.Image.{Image}
use Rattle.m386_image.specs.Memory.{byte_of_image}
use Rattle.m386_book.specs.declared.segments.Tss.{Tss}
use Rattle.m386_book.specs.Segments.{AreBelow, EndsBehind, IsAdded, Meets, tss_in}
use Rattle.m386_book.specs.Tss.{IsTable, IsTss, IsBusyTss, IsOfTss, IsInSegment, tss_base, base_from, entry_byte, descriptor_byte, is_tss_access}

-- ---- segments by their bases, which rise

-- those that haven't ended before a place, and those that have begun by another
pub meets_between : (bases : List ℕ) (low last ended begun : ℕ) → begun ≤ length bases
    → ((i d : ℕ) → i < ended → get_or bases i d < low - 103) → ((i d : ℕ) → ended ≤ i → i < length bases → low - 103 ≤ get_or bases i d)
    → ((i d : ℕ) → i < begun → get_or bases i d ≤ last) → ((i d : ℕ) → begun ≤ i → i < length bases → last < get_or bases i d)
    → (ended < begun) ↔ Meets bases low last
meets_between bases low last ended begun within ended_below ended_above begun_upto begun_above = (there, back)
  where
    there : ended < begun → Meets bases low last
    there lt =
        let is_upto : get_or bases ended 0 ≤ last = begun_upto ended 0 lt in
        let is_above : low - 103 ≤ get_or bases ended 0 = ended_above ended 0 (omega arith) (omega (arith, within, lt)) in
        (get_or bases ended 0, Contains-get_or bases ended 0 (omega (arith, within, lt)), is_upto, omega (arith, is_above))

    back : Meets bases low last → ended < begun
    back m =
        let k = m.1.0 in
        let lt : k < length bases = m.1.1 in
        let e : get_or bases k m.0 ≡ m.0 = m.1.2 in
        let not_ended : ended ≤ k = elim (cases_lt k ended) [ inl early ↦ absurd (let h : get_or bases k m.0 < low - 103 = ended_below k m.0 early in let l : low < m.0 + 104 = m.3 in omega (arith, h, e, l)) | inr le ↦ le ] in
        let has_begun : k < begun = elim (cases_lt k begun) [ inl early ↦ early | inr le ↦ absurd (let h : last < get_or bases k m.0 = begun_above k m.0 le lt in let l : m.0 ≤ last = m.2 in omega (arith, h, e, l)) ] in
        omega (arith, not_ended, has_begun)

-- those that don't end behind a place
pub ends_after : (bases : List ℕ) (place inside : ℕ) → ((i d : ℕ) → i < inside → get_or bases i d < place - 103) → ((i d : ℕ) → inside ≤ i → i < length bases → place - 103 ≤ get_or bases i d)
    → (inside < length bases) ↔ EndsBehind bases place
ends_after bases place inside below above = (there, back)
  where
    there : inside < length bases → EndsBehind bases place
    there lt =
        let is_above : place - 103 ≤ get_or bases inside 0 = above inside 0 (omega arith) lt in
        (get_or bases inside 0, Contains-get_or bases inside 0 lt, omega (arith, is_above))

    back : EndsBehind bases place → inside < length bases
    back m =
        let k = m.1.0 in
        let lt : k < length bases = m.1.1 in
        let e : get_or bases k m.0 ≡ m.0 = m.1.2 in
        elim (cases_lt k inside) [ inl early ↦ absurd (let h : get_or bases k m.0 < place - 103 = below k m.0 early in let l : place < m.0 + 104 = m.2 in omega (arith, h, e, l)) | inr le ↦ omega (arith, le, lt) ]

pub base_added : (bases : List ℕ) (base place : ℕ) → IsNonDecreasing bases → place ≤ length bases
    → ((i d : ℕ) → i < place → get_or bases i d < base) → ((i d : ℕ) → place ≤ i → i < length bases → base ≤ get_or bases i d)
    → IsAdded bases base (insert bases place base)
base_added bases base place up within below above = record {
  rises = IsNonDecreasingBy-insert (λ x. x) bases place base up within (λ k d lt. let h : get_or bases k d < base = below k d lt in omega (arith, h)) above;
  are = λ other has. split other (Contains-append_cases (base ∷ []) bases other (Contains-permutation (insert bases place base) (base ∷ bases) other back has));
  old = λ other has. Contains-permutation (base ∷ bases) (insert bases place base) other moves (Contains-append_right (base ∷ []) bases other has);
  one = Contains-permutation (base ∷ bases) (insert bases place base) base moves (Contains-get_or (base ∷ bases) 0 base (omega arith));
}
  where
    moves : IsPermutation (base ∷ bases) (insert bases place base)
    moves = IsPermutation-insert bases place base

    back : IsPermutation (insert bases place base) (base ∷ bases)
    back = IsPermutation-sym (base ∷ bases) (insert bases place base) moves

    split : (other : ℕ) → (Contains (base ∷ []) other ⊎ Contains bases other) → (base ≡ other) ⊎ Contains bases other
    split other (inl one) = elim (Contains-push_cases [] base other one) [ inl none ↦ absurd (let h : none.0 < 0 = none.1 in omega (arith, h)) | inr e ↦ inl e ]
    split other (inr rest) = inr rest

-- ---- a descriptor by the bytes of the table

entry_is : (image : Image) (table : List ℕ) (number k : ℕ) → IsTable image table → number * 8 + 7 ≤ image.gdt.limit → k ≤ 7 → entry_byte table number k ≡ descriptor_byte image number k
unfolding descriptor_byte
entry_is image table number k is within lt = is.bytes (number * 8 + k) (omega arith)

cond_some : (t : Bool) (x y : Tss) → cond t (Some x) None ≡ Some y → (t ≡ true) × (x ≡ y)
cond_some true x y h = (refl, cc)
cond_some false x y h = absurd cc

cond_none : (t : Bool) (x : Tss) → cond t (Some x) None ≡ None → t ≡ true → ⊥
cond_none true x h e = absurd cc
cond_none false x h e = absurd cc

pub record IsFound (image : Image) (number : ℕ) (t : Tss) : Type 0 where
  pub tss : IsTss image number
  pub base : tss_base image number ≡ t.base
  pub busy : IsTrue t.busy ↔ (descriptor_byte image number 5 % 2 ^ 5 ≡ 11)

pub tss_found : (image : Image) (table : List ℕ) (number : ℕ) (t : Tss) → IsTable image table → 1 ≤ number → number * 8 + 7 ≤ image.gdt.limit → tss_in table number ≡ Some t → IsFound image number t
tss_found image table number t is some within h =
    let byte : (k : ℕ) → k ≤ 7 → entry_byte table number k ≡ descriptor_byte image number k = λ k lt. entry_is image table number k is within lt in
    let parts = cond_some (is_tss_access (entry_byte table number 5)) (record { base = base_from (entry_byte table number 2) (entry_byte table number 3) (entry_byte table number 4) (entry_byte table number 7); busy = entry_byte table number 5 % 2 ^ 5 == 11 }) t h in
    let access : entry_byte table number 5 ≡ descriptor_byte image number 5 = byte 5 (omega arith) in
    let busy_is : (entry_byte table number 5 % 2 ^ 5 == 11) ≡ t.busy = ap (λ (x : Tss). x.busy) parts.1 in
    record {
      tss = record { within = (some, within); access = subst (λ (b : ℕ). is_tss_access b ≡ true) access parts.0 };
      base =
          sym (ap (λ (b : ℕ). base_from b (descriptor_byte image number 3) (descriptor_byte image number 4) (descriptor_byte image number 7)) (byte 2 (omega arith))
          ) ∙ sym (ap (λ (b : ℕ). base_from (entry_byte table number 2) b (descriptor_byte image number 4) (descriptor_byte image number 7)) (byte 3 (omega arith)))
          ∙ sym (ap (λ (b : ℕ). base_from (entry_byte table number 2) (entry_byte table number 3) b (descriptor_byte image number 7)) (byte 4 (omega arith)))
          ∙ sym (ap (λ (b : ℕ). base_from (entry_byte table number 2) (entry_byte table number 3) (entry_byte table number 4) b) (byte 7 (omega arith)))
          ∙ ap (λ (x : Tss). x.base) parts.1;
      busy = (
        λ p. ap (λ (b : ℕ). b % 2 ^ 5) (sym access) ∙ eqb-true (entry_byte table number 5 % 2 ^ 5) 11 (busy_is ∙ p),
        λ p. sym busy_is ∙ eq-eqb (entry_byte table number 5 % 2 ^ 5) 11 (ap (λ (b : ℕ). b % 2 ^ 5) access ∙ p),
      );
    }

pub tss_missed : (image : Image) (table : List ℕ) (number : ℕ) → IsTable image table → number * 8 + 7 ≤ image.gdt.limit → tss_in table number ≡ None → IsTss image number → ⊥
tss_missed image table number is within h tss =
    cond_none (is_tss_access (entry_byte table number 5)) _ h (subst (λ (b : ℕ). is_tss_access b ≡ true) (sym (entry_is image table number 5 is within (omega arith))) tss.access)

-- ---- one more number

-- the TSSs so far are those of the numbers below one that is within the table, or below the first
pub record SoFar (image : Image) (number : ℕ) (bases : List ℕ) (shared busy : Bool) : Type 0 where
  pub below : AreBelow image number bases shared busy
  pub least : 1 ≤ number
  pub most : (number ≡ 1) ⊎ (number ≤ (image.gdt.limit + 1) / 8)

never : (image : Image) (number : ℕ) → number < 1 → IsTss image number → ⊥
never image number lt tss = let h : 1 ≤ number = tss.within.0 in omega (arith, h, lt)

pub so_far_none : (image : Image) → SoFar image 1 [] false false
so_far_none image = record {
  below = record {
    rises = IsNonDecreasingBy-short (λ x. x) [] (omega arith);
    are = λ base has. absurd (let h : has.0 < 0 = has.1 in omega (arith, h));
    all = λ number lt tss. absurd (never image number lt tss);
    shared_is = (λ (h : false ≡ true). absurd cc, λ h. absurd (never image h.1 h.4 h.6.tss));
    busy_is = (λ (h : false ≡ true). absurd cc, λ h. absurd (never image h.0 h.1 h.2.tss));
  };
  least = omega arith;
  most = inl refl;
}

-- numbers below one more
one_more : (n k : ℕ) → n < k + 1 → (n < k) ⊎ (n ≡ k)
one_more n k lt = elim (cases_lt n k) [ inl below ↦ inl below | inr over ↦ inr (omega (arith, lt, over)) ]

below_missed : (image : Image) (k : ℕ) (bases : List ℕ) (shared busy : Bool) → AreBelow image k bases shared busy → (IsTss image k → ⊥) → AreBelow image (k + 1) bases shared busy
below_missed image k bases shared busy h none = record {
  rises = h.rises;
  are = λ base has. let f = h.are base has in (f.0, omega (arith, f.1), f.2, f.3);
  all = λ number lt tss. elim (one_more number k lt) [ inl below ↦ h.all number below tss | inr e ↦ absurd (none (subst (IsTss image) e tss)) ];
  shared_is = (
    λ p. let f = h.shared_is.0 p in (f.0, f.1, f.2, f.3, omega (arith, f.4), f.5, f.6),
    λ f. h.shared_is.1 (elim (one_more f.1 k f.4) [ inl below ↦ (f.0, f.1, f.2, f.3, below, f.5, f.6) | inr e ↦ absurd (none (subst (IsTss image) e f.6.tss)) ]),
  );
  busy_is = (
    λ p. let f = h.busy_is.0 p in (f.0, omega (arith, f.1), f.2),
    λ f. h.busy_is.1 (elim (one_more f.0 k f.1) [ inl below ↦ (f.0, below, f.2) | inr e ↦ absurd (none (subst (IsTss image) e f.2.tss)) ]),
  );
}

-- two segments that meet, by a place of both
both_at : (a b : ℕ) → a < b + 104 → b < a + 104 → (place : ℕ) × IsInSegment a place × IsInSegment b place
both_at a b one other = elim (cases_lt a b) [
  | inl lt ↦ (b, record { from = omega (arith, lt); before = other }, record { from = omega arith; before = omega arith })
  | inr le ↦ (a, record { from = omega arith; before = omega arith }, record { from = le; before = one })
]

below_found : (image : Image) (k : ℕ) (bases new : List ℕ) (shared busy shared2 busy2 : Bool) (t : Tss) → AreBelow image k bases shared busy → IsFound image k t → IsAdded bases t.base new
    → (IsTrue shared2 ↔ (IsTrue shared ⊎ Meets bases t.base (t.base + 103))) → (IsTrue busy2 ↔ (IsTrue busy ⊎ IsTrue t.busy)) → AreBelow image (k + 1) new shared2 busy2
below_found image k bases new shared busy shared2 busy2 t h found added shares works = record {
  rises = added.rises;
  are = λ base has. elim (added.are base has) [
    | inl e ↦ (k, omega arith, found.tss, found.base ∙ e)
    | inr old ↦ let f = h.are base old in (f.0, omega (arith, f.1), f.2, f.3)
  ];
  all = λ number lt tss. elim (one_more number k lt) [
    | inl below ↦ added.old (tss_base image number) (h.all number below tss)
    | inr e ↦ subst (Contains new) (sym (ap (tss_base image) e ∙ found.base)) added.one
  ];
  shared_is = (
    λ p. elim (shares.0 p) [
      | inl old ↦ let f = h.shared_is.0 old in (f.0, f.1, f.2, f.3, omega (arith, f.4), f.5, f.6)
      | inr m ↦ shared_now m
    ],
    λ f. shares.1 (elim (one_more f.1 k f.4) [
      | inl below ↦ inl (h.shared_is.1 (f.0, f.1, f.2, f.3, below, f.5, f.6))
      | inr e ↦ inr (met f.0 f.1 f.2 f.3 e f.5 f.6)
    ]),
  );
  busy_is = (
    λ p. elim (works.0 p) [
      | inl old ↦ let f = h.busy_is.0 old in (f.0, omega (arith, f.1), f.2)
      | inr b ↦ (k, omega arith, record { tss = found.tss; type_is = found.busy.0 b })
    ],
    λ f. works.1 (elim (one_more f.0 k f.1) [
      | inl below ↦ inl (h.busy_is.1 (f.0, below, f.2))
      | inr e ↦ inr (found.busy.1 (subst (λ (n : ℕ). descriptor_byte image n 5 % 2 ^ 5 ≡ 11) e f.2.type_is))
    ]),
  );
}
  where
    shared_now : Meets bases t.base (t.base + 103) → (one other place : ℕ) × (one < other) × (other < k + 1) × IsOfTss image one place × IsOfTss image other place
    shared_now m =
        let f = h.are m.0 m.1 in
        let is : tss_base image f.0 ≡ m.0 = f.3 in
        let low : m.0 ≤ t.base + 103 = m.2 in
        let high : t.base < m.0 + 104 = m.3 in
        let place = both_at (tss_base image f.0) (tss_base image k) (omega (arith, is, low, found.base)) (omega (arith, is, high, found.base)) in
        (f.0, k, place.0, f.1, omega arith, record { tss = f.2; at = place.1 }, record { tss = found.tss; at = place.2 })

    met : (one other place : ℕ) → one < other → other ≡ k → IsOfTss image one place → IsOfTss image other place → Meets bases t.base (t.base + 103)
    met one other place lt e p q =
        let base : tss_base image other ≡ t.base = ap (tss_base image) e ∙ found.base in
        let one_from : tss_base image one ≤ place = p.at.from in
        let one_before : place < tss_base image one + 104 = p.at.before in
        let from : tss_base image other ≤ place = q.at.from in
        let before : place < tss_base image other + 104 = q.at.before in
        (tss_base image one, h.all one (omega (arith, lt, e)) p.tss, omega (arith, base, one_from, before), omega (arith, base, from, one_before))

pub so_far_missed : (image : Image) (table : List ℕ) (k : ℕ) (bases : List ℕ) (shared busy : Bool) → IsTable image table → k < length table / 8 → tss_in table k ≡ None → SoFar image k bases shared busy → SoFar image (k + 1) bases shared busy
so_far_missed image table k bases shared busy is lt none h =
    let len : length table ≡ image.gdt.limit + 1 = is.len in
    let within : k * 8 + 7 ≤ image.gdt.limit = omega (arith, lt, len) in
    record {
      below = below_missed image k bases shared busy h.below (tss_missed image table k is within none);
      least = omega arith;
      most = inr (omega (arith, lt, len));
    }

pub so_far_found : (image : Image) (table : List ℕ) (k : ℕ) (bases new : List ℕ) (shared busy shared2 busy2 : Bool) (t : Tss) → IsTable image table → k < length table / 8 → tss_in table k ≡ Some t → SoFar image k bases shared busy
    → IsAdded bases t.base new → (IsTrue shared2 ↔ (IsTrue shared ⊎ Meets bases t.base (t.base + 103))) → (IsTrue busy2 ↔ (IsTrue busy ⊎ IsTrue t.busy)) → SoFar image (k + 1) new shared2 busy2
so_far_found image table k bases new shared busy shared2 busy2 t is lt some h added shares works =
    let len : length table ≡ image.gdt.limit + 1 = is.len in
    let within : k * 8 + 7 ≤ image.gdt.limit = omega (arith, lt, len) in
    record {
      below = below_found image k bases new shared busy shared2 busy2 t h.below (tss_found image table k t is h.least within some) added shares works;
      least = omega arith;
      most = inr (omega (arith, lt, len));
    }

-- where there is no descriptor but the null descriptor, there is no TSS
few : (image : Image) (count : ℕ) (bases : List ℕ) (shared busy : Bool) → count ≤ 1 → AreBelow image 1 bases shared busy → AreBelow image count bases shared busy
few image count bases shared busy le h = record {
  rises = h.rises;
  are = λ base has. let f = h.are base has in absurd (never image f.0 f.1 f.2);
  all = λ number lt tss. h.all number (omega (arith, lt, le)) tss;
  shared_is = (
    λ p. let f = h.shared_is.0 p in absurd (never image f.1 f.4 f.6.tss),
    λ f. h.shared_is.1 (f.0, f.1, f.2, f.3, omega (arith, f.4, le), f.5, f.6),
  );
  busy_is = (
    λ p. let f = h.busy_is.0 p in absurd (never image f.0 f.1 f.2.tss),
    λ f. h.busy_is.1 (f.0, omega (arith, f.1, le), f.2),
  );
}

pub so_far_all : (image : Image) (table : List ℕ) (k : ℕ) (bases : List ℕ) (shared busy : Bool) → IsTable image table → length table / 8 ≤ k → SoFar image k bases shared busy → AreBelow image ((image.gdt.limit + 1) / 8) bases shared busy
so_far_all image table k bases shared busy is le h = elim h.most [
  | inl e ↦ few image ((image.gdt.limit + 1) / 8) bases shared busy (let len : length table ≡ image.gdt.limit + 1 = is.len in omega (arith, le, len, e)) (subst (λ (n : ℕ). AreBelow image n bases shared busy) e h.below)
  | inr most ↦ subst (λ (n : ℕ). AreBelow image n bases shared busy) (let len : length table ≡ image.gdt.limit + 1 = is.len in omega (arith, le, len, most)) h.below
]
