-- How sections grow.
use Rattle.std.proofs.Common.{◌≡◌, ℕ, suc, ◌≤◌, Bool, true, false, List, [], ◌∷◌, ◌++◌, length, refl, sym, ap, ◌∙◌, arith, subst}
use Rattle.std.specs.Prelude.{◌==◌, Option, Some, None, Result, Ok, Err, OnOk}
use Rattle.std.proofs.lemmas.List.{append-nil}
use Rattle.m386_image.specs.declared.image.Section.{Section}
use Rattle.m386_lines.specs.Lines.{Statement}
use Rattle.m386_asm.specs.declared.sections.Sections.{Sections}
use Rattle.m386_asm.specs.Drafts.{HasSections, growing}
use Rattle.m386_asm.specs.declared.value.Names.{Names as SeenNames}
use Rattle.m386_asm.specs.Knows.{Knows}
use Rattle.m386_asm.specs.Layout.{Makes, Names, begins_at, with_bytes, with_statement}

-- bytes go to the last section
with_bytes_last : (bytes : List ℕ) (ss : List Section) (s : Section) → with_bytes bytes (ss ++ s ∷ []) ≡ ss ++ with_bytes bytes (s ∷ [])
unfolding with_bytes
with_bytes_last [] ss s = refl
with_bytes_last (b ∷ bs) [] s = refl
with_bytes_last (b ∷ bs) (x ∷ []) s = refl
with_bytes_last (b ∷ bs) (x ∷ y ∷ ss) s = ap (λ ts. x ∷ ts) (with_bytes_last (b ∷ bs) (y ∷ ss) s)

-- a section alone
pub with_bytes_alone : (bytes : List ℕ) (s after : Section) → after ≡ record { addr = s.addr; bytes = s.bytes ++ bytes } → after ∷ [] ≡ with_bytes bytes (s ∷ [])
unfolding with_bytes
with_bytes_alone [] s after e = ap (λ t. t ∷ []) e ∙ ap (λ bs. record { addr = s.addr; bytes = bs } ∷ []) (append-nil s.bytes)
with_bytes_alone (b ∷ bs) s after e = ap (λ t. t ∷ []) e

-- no section, and no bytes
pub with_no_bytes : (bytes : List ℕ) (after : Section) → after ≡ record { addr = 0; bytes = [] ++ bytes } → length after.bytes ≡ 0 → [] ≡ with_bytes bytes []
unfolding with_bytes
with_no_bytes [] after e h = refl
with_no_bytes (b ∷ bs) after e h = (let k : suc (length bs) ≡ 0 = ap (λ s. length s.bytes) (sym e) ∙ h in absurd (omega (arith, k)))

-- the first section
pub with_first_bytes : (bytes : List ℕ) (after : Section) → after ≡ record { addr = 0; bytes = [] ++ bytes } → 1 ≤ length after.bytes → after ∷ [] ≡ with_bytes bytes []
unfolding with_bytes
with_first_bytes [] after e h = (let k : length after.bytes ≡ 0 = ap (λ s. length s.bytes) e in absurd (omega (arith, k, h)))
with_first_bytes (b ∷ bs) after e h = ap (λ s. s ∷ []) e

-- a last one that is there stays
stays : (bytes : List ℕ) (s : Section) → growing None ≡ with_bytes bytes (s ∷ []) → ⊥
unfolding with_bytes
stays [] s e = (let k : 0 ≡ 1 = ap length e in absurd (omega (arith, k)))
stays (b ∷ bs) s e = (let k : 0 ≡ 1 = ap length e in absurd (omega (arith, k)))

-- the sections, where the last one has grown
pub sections_grown : (ended : List Section) (last after : Option Section) (bytes : List ℕ) (ss : List Section) → growing after ≡ with_bytes bytes (growing last) →
    HasSections (record { ended = ended; last = last }) ss → HasSections (record { ended = ended; last = after }) (with_bytes bytes ss)
sections_grown ended (Some s) after bytes ss e h = record {
  all = ap (λ ts. ended ++ ts) e ∙ sym (with_bytes_last bytes ended s) ∙ ap (with_bytes bytes) h.all;
  begun = λ n. absurd (stays bytes s (ap growing (sym n) ∙ e));
}
sections_grown ended None after bytes ss e h =
    let none : ended ≡ [] = h.begun refl in
    let empty : ss ≡ [] = sym h.all ∙ append-nil ended ∙ none in
    record {
      all = ap (λ ts. ts ++ growing after) none ∙ e ∙ ap (with_bytes bytes) (sym empty);
      begun = λ n. none;
    }

-- a section more
pub section_begun : (ended : List Section) (last : Option Section) (ss : List Section) (s : Section) → HasSections (record { ended = ended; last = last }) ss →
    HasSections (record { ended = ended ++ growing last; last = Some s }) (ss ++ s ∷ [])
section_begun ended last ss s h = record {
  all = ap (λ ts. ts ++ s ∷ []) h.all;
  begun = λ n. (let k : Some s ≡ None = n in cc);
}

not_zero : (n : ℕ) → (suc n == 0) ≡ false
not_zero n = grind arith

-- a list without an element, and one with some
pub none_left : (bs ts : List ℕ) (b : Bool) → ts ≡ bs → b ≡ (length ts == 0) → b ≡ true → length bs ≡ 0
none_left [] ts b e f t = refl
none_left (x ∷ bs) ts b e f t = (let k : true ≡ false = sym t ∙ f ∙ ap (λ us. length us == 0) e ∙ not_zero (length bs) in cc)

pub some_left : (bs ts : List ℕ) (b : Bool) → ts ≡ bs → b ≡ (length ts == 0) → b ≡ false → 1 ≤ length bs
some_left [] ts b e f t = (let k : false ≡ true = sym t ∙ f ∙ ap (λ us. length us == 0) e in cc)
some_left (x ∷ bs) ts b e f t = omega arith

-- a statement that begins no section
pub none_begins : {A E : Type 0} (names : SeenNames) (place : ℕ) (old new : Sections) (r : Result A E) (s : Statement) → begins_at s ≡ None →
    OnOk r ((ns : Names) (ss : List Section) → Knows names ns → HasSections old ss → (bytes : List ℕ) × Makes ns place s bytes × HasSections new (with_bytes bytes ss)) →
    OnOk r ((ns : Names) (ss : List Section) → Knows names ns → HasSections old ss → (bytes : List ℕ) × Makes ns place s bytes × HasSections new (with_statement ss s bytes))
none_begins names place old new (Ok a) s e h = λ ns ss k o.
    let g = h ns ss k o in
    (g.0, g.1, subst (λ b. HasSections new (elim b [ Some a ↦ ss ++ record { addr = a; bytes = [] } ∷ [] | None ↦ with_bytes g.0 ss ])) (sym e) g.2)
none_begins names place old new (Err x) s e h = h
