-- The bytes of an image's GDT, put together from its sections.
use Rattle.std.proofs.Common.{◌≡◌, ℕ, zero, suc, ◌+◌, ◌-◌, ◌<◌, ◌≤◌, Bool, true, false, cond, List, [], ◌∷◌, length, get_or, set, drop, replicate, refl, ap, sym, subst, ◌∙◌, inl, inr, arith}
use Rattle.std.specs.Prelude.{◌⊎◌, nat_le, nat_lt, ◌&&◌}
use Rattle.std.proofs.lemmas.Bool.{cases_lt, cases_eq, cases_Bool, and_parts, and_from, leb-true, ltb-true, le-leb, lt-ltb}
use Rattle.std.proofs.lemmas.List.{length-set, get_or-set_same, get_or-set_other, drop_more, drop_all, get_or-replicate, length-replicate}
use Rattle.m386_image.specs.declared.image.Image.{Image}
use Rattle.m386_image.specs.declared.image.Section.{Section}
use Rattle.m386_image.specs.Memory.{covers, byte_of_sections, byte_of_image}
use Rattle.m386_book.specs.Tss.{IsTable}

-- bytes that stand from a base on, in which those from start to place are now a section's, which begins at addr
pub record Copied (source old new : List ℕ) (base addr start end place : ℕ) : Type 0 where
  pub ran : (place ≡ start) ⊎ (place ≤ end)
  pub len : length new ≡ length old
  pub inside : (i : ℕ) → i < length old → start ≤ base + i → base + i < place → get_or new i 0 ≡ get_or source (base + i - addr) 0
  pub outside : (i : ℕ) → (base + i < start) ⊎ (place ≤ base + i) → get_or new i 0 ≡ get_or old i 0

pub copied_none : (source old : List ℕ) (base addr start end : ℕ) → Copied source old old base addr start end start
copied_none source old base addr start end = record { ran = inl refl; len = refl; inside = λ i lt le below. absurd (omega (arith, le, below)); outside = λ i h. refl }

pub copied_more : (source old new : List ℕ) (base addr start end place : ℕ) → base ≤ place → place < base + length old → place < end → start ≤ place → Copied source old new base addr start end place
    → Copied source old (set new (place - base) (get_or source (place - addr) 0)) base addr start end (place + 1)
copied_more source old new base addr start end place le lt below_end from h = record {
  ran = inr (omega (arith, below_end));
  len = length-set new (place - base) (get_or source (place - addr) 0) ∙ h.len;
  inside = λ i within start_le below. elim (cases_eq i (place - base)) [
    | inl e ↦
        let here : base + i ≡ place = omega (arith, e, le) in
        ap (λ (k : ℕ). get_or (set new (place - base) (get_or source (place - addr) 0)) k 0) e ∙ get_or-set_same new (place - base) (get_or source (place - addr) 0) 0 (let l = h.len in omega (arith, l, le, lt))
        ∙ ap (λ (k : ℕ). get_or source (k - addr) 0) (sym here)
    | inr other ↦ get_or-set_other new (place - base) i (get_or source (place - addr) 0) 0 other ∙ h.inside i within start_le (omega (arith, other, below, le))
  ];
  outside = λ i out. get_or-set_other new (place - base) i (get_or source (place - addr) 0) 0 (λ e. elim out [
    | inl before ↦ omega (arith, e, before, from, le)
    | inr behind ↦ omega (arith, e, behind, le)
  ]) ∙ h.outside i (elim out [ inl before ↦ inl before | inr behind ↦ inr (omega (arith, behind)) ]);
}

-- what the section has of the bytes stands there, and the others are as before
pub copied_all : (s : Section) (old new : List ℕ) (base start end place : ℕ) → base ≤ start → s.addr ≤ start → start ≤ place → end ≤ place → end ≤ base + length old → end ≤ s.addr + length s.bytes
    → (start ≡ base) ⊎ (start ≡ s.addr) → (end ≡ base + length old) ⊎ (end ≡ s.addr + length s.bytes)
    → Copied s.bytes old new base s.addr start end place
    → (i : ℕ) → i < length old → get_or new i 0 ≡ cond (covers s (base + i)) (get_or s.bytes (base + i - s.addr) 0) (get_or old i 0)
copied_all s old new base start end place b a sp ep eb ea s_is e_is h i lt = elim (cases_Bool (covers s (base + i))) [
  | inl covered_so ↦
      let parts = and_parts (nat_le s.addr (base + i)) (nat_lt (base + i) (s.addr + length s.bytes)) covered_so in
      let low : s.addr ≤ base + i = leb-true s.addr (base + i) parts.0 in
      let high : base + i < s.addr + length s.bytes = ltb-true (base + i) (s.addr + length s.bytes) parts.1 in
      let from : start ≤ base + i = elim s_is [ inl e ↦ omega (arith, e) | inr e ↦ omega (arith, e, low) ] in
      let upto : base + i < end = elim e_is [ inl e ↦ omega (arith, e, lt) | inr e ↦ omega (arith, e, high) ] in
      h.inside i lt from (omega (arith, upto, ep)) ∙ sym (ap (λ (t : Bool). cond t (get_or s.bytes (base + i - s.addr) 0) (get_or old i 0)) covered_so)
  | inr out ↦ h.outside i (elim (cases_lt (base + i) start) [
    | inl before ↦ inl before
    | inr from ↦ elim (cases_lt (base + i) place) [
      | inl below ↦ absurd (covered from below out)
      | inr behind ↦ inr behind
    ]
  ]) ∙ sym (ap (λ (t : Bool). cond t (get_or s.bytes (base + i - s.addr) 0) (get_or old i 0)) out)
]
  where
    covered : start ≤ base + i → base + i < place → covers s (base + i) ≡ false → ⊥
    covered from below out =
        let before : base + i < end = elim h.ran [ inl e ↦ absurd (omega (arith, e, from, below)) | inr le ↦ omega (arith, le, below) ] in
        let covered_so : covers s (base + i) ≡ true = and_from (nat_le s.addr (base + i)) (nat_lt (base + i) (s.addr + length s.bytes)) (le-leb s.addr (base + i) (omega (arith, a, from))) (lt-ltb (base + i) (s.addr + length s.bytes) (omega (arith, ea, before))) in
        let h2 : true ≡ false = sym covered_so ∙ out in cc

-- ---- section after section, the last one first

pub record Filled (image : Image) (sections : List Section) (left : ℕ) (table : List ℕ) : Type 0 where
  pub same : sections ≡ image.sections
  pub within : left ≤ length sections
  pub len : length table ≡ image.gdt.limit + 1
  pub bytes : (i : ℕ) → i ≤ image.gdt.limit → get_or table i 0 ≡ byte_of_sections (drop left sections) (image.gdt.base + i)

pub filled_none : (image : Image) (sections : List Section) (left : ℕ) (table : List ℕ) → sections ≡ image.sections → left ≡ length sections → table ≡ replicate (image.gdt.limit + 1) 0 → Filled image sections left table
filled_none image sections left table same e zeros = record {
  same = same;
  within = omega (arith, e);
  len = ap length zeros ∙ length-replicate (image.gdt.limit + 1) 0;
  bytes = λ i le.
      ap (λ (xs : List ℕ). get_or xs i 0) zeros ∙ get_or-replicate (image.gdt.limit + 1) i 0 0 (omega (arith, le))
      ∙ sym (ap (λ (ss : List Section). byte_of_sections ss (image.gdt.base + i)) (drop_all left sections (omega (arith, e))));
}

pub filled_more : (image : Image) (sections : List Section) (left : ℕ) (s : Section) (table new : List ℕ) → left + 1 ≤ length sections → s ≡ get_or sections left s → Filled image sections (left + 1) table → length new ≡ length table
    → ((i : ℕ) → i < length table → get_or new i 0 ≡ cond (covers s (image.gdt.base + i)) (get_or s.bytes (image.gdt.base + i - s.addr) 0) (get_or table i 0)) → Filled image sections left new
filled_more image sections left s table new lt e h len bytes = record {
  same = h.same;
  within = omega (arith, lt);
  len = len ∙ h.len;
  bytes = λ i le.
      let l : length table ≡ image.gdt.limit + 1 = h.len in
      let split : drop left sections ≡ s ∷ drop (left + 1) sections = drop_more sections left s (omega (arith, lt)) ∙ ap (λ (t : Section). t ∷ drop (left + 1) sections) (sym e) in
      bytes i (omega (arith, l, le)) ∙ ap (λ (b : ℕ). cond (covers s (image.gdt.base + i)) (get_or s.bytes (image.gdt.base + i - s.addr) 0) b) (h.bytes i le)
      ∙ sym (ap (λ (ss : List Section). byte_of_sections ss (image.gdt.base + i)) split);
}

pub filled_all : (image : Image) (sections : List Section) (left : ℕ) (table : List ℕ) → left ≤ 0 → Filled image sections left table → IsTable image table
filled_all image sections left table le h = record {
  len = h.len;
  bytes = λ i lt. h.bytes i lt ∙ ap (λ (ss : List Section). byte_of_sections ss (image.gdt.base + i)) (ap (λ (k : ℕ). drop k sections) none ∙ h.same);
}
  where
    none : left ≡ 0
    none = omega (arith, le)
