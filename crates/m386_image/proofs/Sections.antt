-- Sections at the front of bytes.
use Rattle.std.proofs.Common.{◌≡◌, ℕ, zero, suc, ◌+◌, ◌-◌, ◌<◌, ◌≤◌, List, [], ◌∷◌, ◌++◌, length, take, drop, refl, sym, ap, subst, ◌∙◌, append_assoc, arith, Bool}
use Rattle.std.specs.Prelude.{◌↔◌, IsTrue}
use Rattle.std.specs.List.{flat_map, AllByRecursion}
use Rattle.std.proofs.lemmas.List.{append-nil, take_at, drop_at, drop-drop, take-append-drop, length-append, length-take, length-drop}
use Rattle.std.proofs.lemmas.List.Concat.{flat_map-append}
use Rattle.m386_image.specs.declared.image.Section.{Section}
use Rattle.m386_image.specs.Format.{AreBytes, u32_at, u32_bytes, section_text, HasText, Takes, TakesAll, ArePlaced}
use Rattle.m386_image.proofs.Numbers.{AreBytes-drop, length-u32_bytes, u32_at_lt, u32_at-drop, u32_at-bytes, u32_bytes-at}

-- ---- one section

-- the section at the front, and what follows it, by the two numbers that stand there
abbrev pub front : List ℕ → Section
front bytes = record { addr = u32_at 0 bytes; bytes = take (u32_at 4 bytes) (drop 8 bytes) }

abbrev pub behind_section : List ℕ → List ℕ
behind_section bytes = drop (u32_at 4 bytes) (drop 8 bytes)

joined : (a n t d : List ℕ) → a ++ (n ++ (t ++ d)) ≡ (a ++ (n ++ t)) ++ d
joined a n t d = simp append_assoc

-- where there is room for them, they stand there
pub front_takes : (bytes : List ℕ) → AreBytes bytes → 8 + u32_at 4 bytes ≤ length bytes → Takes bytes (front bytes) (behind_section bytes)
front_takes bytes h room =
    let a = u32_at 0 bytes in
    let n = u32_at 4 bytes in
    let t = take n (drop 8 bytes) in
    let d = drop n (drop 8 bytes) in
    let len : length t ≡ n = omega (arith, length-take n (drop 8 bytes), length-drop 8 bytes) in
    let first : bytes ≡ u32_bytes a ++ drop 4 bytes = sym (u32_bytes-at bytes h (omega arith)) in
    let rest : drop 4 (drop 4 bytes) ≡ drop 8 bytes = drop-drop 4 4 bytes in
    let second : drop 4 bytes ≡ u32_bytes n ++ drop 8 bytes = sym (u32_bytes-at (drop 4 bytes) (AreBytes-drop 4 bytes h) (omega (arith, length-drop 4 bytes))) ∙ ap (λ (k : ℕ). u32_bytes k ++ drop 4 (drop 4 bytes)) (u32_at-drop 4 0 bytes) ∙ ap (λ (x : List ℕ). u32_bytes n ++ x) rest in
    let third : drop 8 bytes ≡ t ++ d = sym (take-append-drop n (drop 8 bytes)) in
    let whole : bytes ≡ u32_bytes a ++ (u32_bytes n ++ (t ++ d)) = first ∙ ap (λ (x : List ℕ). u32_bytes a ++ x) (second ∙ ap (λ (x : List ℕ). u32_bytes n ++ x) third) in
    record {
      text = (u32_at_lt 0 bytes h, omega (arith, u32_at_lt 4 bytes h));
      parts = whole ∙ joined (u32_bytes a) (u32_bytes n) t d ∙ ap (λ (k : ℕ). (u32_bytes a ++ (u32_bytes k ++ t)) ++ d) (sym len);
    }

-- the same by the parts that a reader has at hand
pub parts_take : (bytes : List ℕ) (a n : ℕ) (body t d : List ℕ) → AreBytes bytes → 8 ≤ length bytes → a ≡ u32_at 0 bytes → n ≡ u32_at 4 bytes → body ≡ drop 8 bytes → n ≤ length body → t ≡ take n body → d ≡ drop n body
    → Takes bytes (record { addr = a; bytes = t }) d
parts_take bytes a n body t d h long a-is n-is body-is room t-is d-is =
    let len : length body ≡ length bytes - 8 = ap length body-is ∙ length-drop 8 bytes in
    rw (t-is, d-is, a-is, body-is, n-is) (front_takes bytes h (omega arith))

-- what stands there is the front
pub record IsFront (bytes : List ℕ) (s : Section) (after : List ℕ) : Type 0 where
  pub room : 8 + u32_at 4 bytes ≤ length bytes
  pub section : s ≡ front bytes
  pub rest : after ≡ behind_section bytes

pub takes_front : (bytes : List ℕ) (s : Section) (after : List ℕ) → Takes bytes s after → IsFront bytes s after
takes_front bytes s after t =
    let e : bytes ≡ u32_bytes s.addr ++ (u32_bytes (length s.bytes) ++ (s.bytes ++ after)) = t.parts ∙ sym (joined (u32_bytes s.addr) (u32_bytes (length s.bytes)) s.bytes after) in
    let d4 : drop 4 bytes ≡ u32_bytes (length s.bytes) ++ (s.bytes ++ after) = ap (drop 4) e ∙ drop_at (u32_bytes s.addr) _ 4 (length-u32_bytes s.addr) in
    let d8 : drop 8 bytes ≡ s.bytes ++ after = sym (drop-drop 4 4 bytes) ∙ ap (drop 4) d4 ∙ drop_at (u32_bytes (length s.bytes)) _ 4 (length-u32_bytes (length s.bytes)) in
    let a : u32_at 0 bytes ≡ s.addr = ap (u32_at 0) e ∙ u32_at-bytes s.addr _ t.text.0 in
    let n : u32_at 4 bytes ≡ length s.bytes = sym (u32_at-drop 4 0 bytes) ∙ ap (u32_at 0) d4 ∙ u32_at-bytes (length s.bytes) _ t.text.1 in
    let len : length bytes ≡ 4 + (4 + (length s.bytes + length after)) = ap length e ∙ simp (length-append, length-u32_bytes) in
    record {
      room = omega arith;
      section = rw (a, n, d8, take_at s.bytes after (length s.bytes) refl) refl;
      rest = rw (n, d8, drop_at s.bytes after (length s.bytes) refl) refl;
    }

pub takes_same : (bytes : List ℕ) (s t : Section) (after rest : List ℕ) → Takes bytes s after → Takes bytes t rest → (s ≡ t) × (after ≡ rest)
takes_same bytes s t after rest p q =
    let a = takes_front bytes s after p in
    let b = takes_front bytes t rest q in
    (a.section ∙ sym b.section, a.rest ∙ sym b.rest)

-- ---- several

-- the first of several, and the others
pub record Splits (n : ℕ) (bytes : List ℕ) (ss : List Section) (rest : List ℕ) : Type 0 where
  pub first : Section
  pub others : List Section
  pub after : List ℕ
  pub takes : Takes bytes first after
  pub sections : ss ≡ first ∷ others
  pub takes_others : TakesAll n after others rest

pub takes_split : (n : ℕ) (bytes : List ℕ) (ss : List Section) (rest : List ℕ) → TakesAll (suc n) bytes ss rest → Splits n bytes ss rest
takes_split n bytes [] rest t = absurd (omega (arith, t.count))
takes_split n bytes (s ∷ ss) rest t = record {
  first = s;
  others = ss;
  after = flat_map section_text ss ++ rest;
  takes = record { text = t.text.0; parts = t.parts ∙ append_assoc (section_text s) (flat_map section_text ss) rest };
  sections = refl;
  takes_others = record { count = omega (arith, t.count); text = t.text.1; parts = refl };
}

AllByRecursion-push : (ss : List Section) (s : Section) → AllByRecursion HasText ss → HasText s → AllByRecursion HasText (ss ++ s ∷ [])
AllByRecursion-push [] s h p = (p, tt)
AllByRecursion-push (t ∷ ss) s h p = (h.0, AllByRecursion-push ss s h.1 p)

-- one more at the end
pub takes_more : (n : ℕ) (bytes : List ℕ) (ss : List Section) (middle : List ℕ) (s : Section) (rest : List ℕ) → TakesAll n bytes ss middle → Takes middle s rest → TakesAll (n + 1) bytes (ss ++ s ∷ []) rest
takes_more n bytes ss middle s rest t p = record {
  count = omega (arith, t.count, length-append ss (s ∷ []));
  text = AllByRecursion-push ss s t.text p.text;
  parts = t.parts ∙ ap (λ (x : List ℕ). flat_map section_text ss ++ x) p.parts ∙ sym (rw (flat_map-append section_text ss (s ∷ [])) (simp (append_assoc, append-nil)));
}

pub record AreSame (ss us : List Section) (after behind_us : List ℕ) : Type 0 where
  pub sections : ss ≡ us
  pub rest : after ≡ behind_us

-- so many sections stand there in one way
pub takes_all_same : (n : ℕ) (bytes : List ℕ) (ss us : List Section) (after rest : List ℕ) → TakesAll n bytes ss after → TakesAll n bytes us rest → AreSame ss us after rest
takes_all_same zero bytes [] [] after rest t u = record { sections = refl; rest = sym t.parts ∙ u.parts }
takes_all_same zero bytes [] (v ∷ us) after rest t u = absurd (omega (arith, u.count))
takes_all_same zero bytes (s ∷ ss) us after rest t u = absurd (omega (arith, t.count))
takes_all_same (suc n) bytes ss us after rest t u =
    let a = takes_split n bytes ss after t in
    let b = takes_split n bytes us rest u in
    let e = takes_same bytes a.first b.first a.after b.after a.takes b.takes in
    let others = takes_all_same n a.after a.others b.others after rest a.takes_others (subst (λ (x : List ℕ). TakesAll n x b.others rest) (sym e.1) b.takes_others) in
    record {
      sections = a.sections ∙ ap (λ (x : Section). x ∷ a.others) e.0 ∙ ap (λ (x : List Section). b.first ∷ x) others.sections ∙ sym b.sections;
      rest = others.rest;
    }

-- where more sections stand than were taken, one more can be taken
pub takes_next : (i n : ℕ) (bytes : List ℕ) (ss us : List Section) (middle rest : List ℕ) → i < n → TakesAll i bytes ss middle → TakesAll n bytes us rest → (s : Section) × (after : List ℕ) × Takes middle s after
takes_next zero zero bytes ss us middle rest lt t u = absurd (omega arith)
takes_next zero (suc n) bytes [] us middle rest lt t u =
    let b = takes_split n bytes us rest u in
    (b.first, b.after, subst (λ (x : List ℕ). Takes x b.first b.after) t.parts b.takes)
takes_next zero (suc n) bytes (s ∷ ss) us middle rest lt t u = absurd (omega (arith, t.count))
takes_next (suc i) zero bytes ss us middle rest lt t u = absurd (omega arith)
takes_next (suc i) (suc n) bytes ss us middle rest lt t u =
    let a = takes_split i bytes ss middle t in
    let b = takes_split n bytes us rest u in
    let e = takes_same bytes a.first b.first a.after b.after a.takes b.takes in
    takes_next i n a.after a.others b.others middle rest (omega arith) a.takes_others (subst (λ (x : List ℕ). TakesAll n x b.others rest) (sym e.1) b.takes_others)

-- ---- a walk over sections

-- the place behind the last of these sections
abbrev pub end_of : ℕ → List Section → ℕ
end_of place [] = place
end_of place (s ∷ ss) = end_of (s.addr + length s.bytes) ss

end_of-push : (place : ℕ) (ss : List Section) (s : Section) → end_of place (ss ++ s ∷ []) ≡ s.addr + length s.bytes
end_of-push place [] s = refl
end_of-push place (t ∷ ss) s = end_of-push (t.addr + length t.bytes) ss s

placed_more : (place memory : ℕ) (ss : List Section) (s : Section) → ArePlaced place memory ss → end_of place ss ≤ s.addr → s.addr + length s.bytes ≤ memory → ArePlaced place memory (ss ++ s ∷ [])
placed_more place memory [] s h begins ends = (begins, ends, tt)
placed_more place memory (t ∷ ss) s h begins ends = (h.0, h.1, placed_more (t.addr + length t.bytes) memory ss s h.2 begins ends)

placed_less : (place memory : ℕ) (ss : List Section) (s : Section) → ArePlaced place memory (ss ++ s ∷ []) → ArePlaced place memory ss × (end_of place ss ≤ s.addr) × (s.addr + length s.bytes ≤ memory)
placed_less place memory [] s h = (tt, h.0, h.1)
placed_less place memory (t ∷ ss) s h =
    let others = placed_less (t.addr + length t.bytes) memory ss s h.2 in
    ((h.0, h.1, others.0), others.1, others.2)

-- i sections were walked over
pub record Walked (i : ℕ) (bytes : List ℕ) (memory : ℕ) (rest : List ℕ) (placed : Bool) (end : ℕ) : Type 0 where
  pub sections : List Section
  pub takes : TakesAll i bytes sections rest
  pub placed_is : IsTrue placed ↔ ArePlaced 0 memory sections
  pub end_is : end ≡ end_of 0 sections

pub walked_more : (i : ℕ) (bytes : List ℕ) (memory : ℕ) (rest : List ℕ) (placed : Bool) (end : ℕ) (s : Section) (after : List ℕ) (now : Bool)
    → Walked i bytes memory rest placed end → Takes rest s after → (IsTrue now ↔ (IsTrue placed × (end ≤ s.addr) × (s.addr + length s.bytes ≤ memory))) → Walked (i + 1) bytes memory after now (s.addr + length s.bytes)
walked_more i bytes memory rest placed end s after now w t is = record {
  sections = w.sections ++ s ∷ [];
  takes = takes_more i bytes w.sections rest s after w.takes t;
  placed_is = (
    λ h. let all = is.0 h in placed_more 0 memory w.sections s (w.placed_is.0 all.0) (subst (λ (e : ℕ). e ≤ s.addr) w.end_is all.1) all.2,
    λ h. let all = placed_less 0 memory w.sections s h in is.1 (w.placed_is.1 all.0, subst (λ (e : ℕ). e ≤ s.addr) (sym w.end_is) all.1, all.2),
  );
  end_is = sym (end_of-push 0 w.sections s);
}
