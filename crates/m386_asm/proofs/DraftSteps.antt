-- A draft with a line more, and the image that it is in the end.
use Rattle.std.proofs.Common.{◌≡◌, ℕ, zero, suc, ◌+◌, ◌<◌, ◌≤◌, Bool, true, false, List, [], ◌∷◌, ◌++◌, length, map, refl, sym, ap, ◌∙◌, arith, subst}
use Rattle.std.specs.Prelude.{ℤ, pos, negsuc, Option, Some, None, if◌then◌else◌, Result, Ok, Err, OnOk}
use Rattle.std.specs.List.{flat_map, fold}
use Rattle.std.proofs.lemmas.Bool.{lt-ltb}
use Rattle.std.proofs.lemmas.List.{append-nil, length-append}
use Rattle.std.proofs.lemmas.Grind.{flat_map-append}
use Rattle.std.proofs.lemmas.List.Sums.{fold-append}
use Rattle.m386_image.specs.declared.image.Section.{Section}
use Rattle.m386_lines.specs.Directives.{SetsMemory, SetsCpus, SetsGdt, SetsIdt, StartsBare, StartsTask, Plans, Begins, Values, Bytes, Zeros, Describes, Gates, Fields}
use Rattle.m386_lines.specs.Lines.{Statement, Nothing, Assign, Direct, Operate, Meaning}
use Rattle.m386_asm.specs.declared.sections.Sections.{Sections}
use Rattle.m386_asm.specs.declared.drafted.Draft.{Draft}
use Rattle.m386_asm.specs.Drafts.{HasSections, IsDraft, IsHeaded, tasks_after, with_item, words_after}
use Rattle.m386_asm.specs.Knows.{Knows}
use Rattle.m386_asm.specs.declared.value.Names.{Names as SeenNames}
use Rattle.m386_asm.specs.Layout.{Laid, Makes, Names, begins_at, field_value, gdt_in, idt_in, plan_of, planned, processors, same_value, sections_of, set_by, start_in, start_of, value, with_bytes, with_line, with_statement}

-- ---- the starts

-- a processor that there may not be is none of those
too_large : (n c : ℕ) → c < n → same_value (pos n) (pos c) ≡ false
too_large n c h = grind (arith, h, lt-ltb c n h)

-- the list with an item at a processor's place is that of all processors, with the item for the one
item_at : {X : Type 0} (g : ℕ × Bool → X) (v : ℤ) (x : ℕ × Bool) (f : ℕ → ℕ × Bool) →
    with_item (map (λ cpu. g (f cpu)) processors) v (g x) ≡ map (λ cpu. g (if same_value v (pos cpu) then x else f cpu)) processors
item_at g (negsuc n) x f = refl
item_at g (pos zero) x f = refl
item_at g (pos (suc zero)) x f = refl
item_at g (pos (suc (suc zero))) x f = refl
item_at g (pos (suc (suc (suc zero)))) x f = refl
item_at g (pos (suc (suc (suc (suc zero))))) x f = refl
item_at g (pos (suc (suc (suc (suc (suc zero)))))) x f = refl
item_at g (pos (suc (suc (suc (suc (suc (suc zero))))))) x f = refl
item_at g (pos (suc (suc (suc (suc (suc (suc (suc zero)))))))) x f = refl
item_at g (pos (suc (suc (suc (suc (suc (suc (suc (suc n))))))))) x f =
    let m = suc (suc (suc (suc (suc (suc (suc (suc n))))))) in
    rw (too_large m 0 (omega arith), too_large m 1 (omega arith), too_large m 2 (omega arith), too_large m 3 (omega arith), too_large m 4 (omega arith), too_large m 5 (omega arith), too_large m 6 (omega arith), too_large m 7 (omega arith)) refl

-- functions that agree give the same of all processors
same_all : {X : Type 0} (f g : ℕ → X) → ((n : ℕ) → f n ≡ g n) → (ns : List ℕ) → map f ns ≡ map g ns
same_all f g h [] = refl
same_all f g h (n ∷ ns) = rw (h n, same_all f g h ns) refl

-- what a directive gives or else what was before, as a choice
chosen : (b : Bool) (x t : ℕ × Bool) → (if b then x else t) ≡ set_by (λ d. if b then Some x else None) (Direct (Zeros (pos 0))) t
chosen true x t = refl
chosen false x t = refl

words_more : (ns : Names) (s : Statement) (f : ℕ → ℕ × Bool) → words_after ns s (map (λ cpu. (f cpu).0) processors) ≡ map (λ cpu. (set_by (start_in ns cpu) s (f cpu)).0) processors
words_more ns (Direct (StartsBare p e)) f = item_at (λ t. t.0) (value ns p) (field_value ns 32 e, false) f ∙ same_all _ _ (λ n. ap (λ t. t.0) (chosen (same_value (value ns p) (pos n)) (field_value ns 32 e, false) (f n))) processors
words_more ns (Direct (StartsTask p s)) f = item_at (λ t. t.0) (value ns p) (field_value ns 16 s, true) f ∙ same_all _ _ (λ n. ap (λ t. t.0) (chosen (same_value (value ns p) (pos n)) (field_value ns 16 s, true) (f n))) processors
words_more ns (Direct (SetsMemory e)) f = refl
words_more ns (Direct (SetsCpus e)) f = refl
words_more ns (Direct (SetsGdt b l)) f = refl
words_more ns (Direct (SetsIdt b l)) f = refl
words_more ns (Direct (Plans p s v)) f = refl
words_more ns (Direct (Begins n)) f = refl
words_more ns (Direct (Values w es)) f = refl
words_more ns (Direct (Bytes bs)) f = refl
words_more ns (Direct (Zeros n)) f = refl
words_more ns (Direct (Describes b l a g)) f = refl
words_more ns (Direct (Gates s o a c)) f = refl
words_more ns (Direct (Fields fs)) f = refl
words_more ns Nothing f = refl
words_more ns (Assign w n) f = refl
words_more ns (Operate i) f = refl

tasks_more : (ns : Names) (s : Statement) (f : ℕ → ℕ × Bool) → tasks_after ns s (map (λ cpu. (f cpu).1) processors) ≡ map (λ cpu. (set_by (start_in ns cpu) s (f cpu)).1) processors
tasks_more ns (Direct (StartsBare p e)) f = item_at (λ t. t.1) (value ns p) (field_value ns 32 e, false) f ∙ same_all _ _ (λ n. ap (λ t. t.1) (chosen (same_value (value ns p) (pos n)) (field_value ns 32 e, false) (f n))) processors
tasks_more ns (Direct (StartsTask p s)) f = item_at (λ t. t.1) (value ns p) (field_value ns 16 s, true) f ∙ same_all _ _ (λ n. ap (λ t. t.1) (chosen (same_value (value ns p) (pos n)) (field_value ns 16 s, true) (f n))) processors
tasks_more ns (Direct (SetsMemory e)) f = refl
tasks_more ns (Direct (SetsCpus e)) f = refl
tasks_more ns (Direct (SetsGdt b l)) f = refl
tasks_more ns (Direct (SetsIdt b l)) f = refl
tasks_more ns (Direct (Plans p s v)) f = refl
tasks_more ns (Direct (Begins n)) f = refl
tasks_more ns (Direct (Values w es)) f = refl
tasks_more ns (Direct (Bytes bs)) f = refl
tasks_more ns (Direct (Zeros n)) f = refl
tasks_more ns (Direct (Describes b l a g)) f = refl
tasks_more ns (Direct (Gates s o a c)) f = refl
tasks_more ns (Direct (Fields fs)) f = refl
tasks_more ns Nothing f = refl
tasks_more ns (Assign w n) f = refl
tasks_more ns (Operate i) f = refl

-- ---- a line more

start_more : (ns : Names) (ls : List Laid) (l : Laid) (cpu : ℕ) → set_by (start_in ns cpu) l.meaning.statement (start_of ns ls cpu) ≡ start_of ns (ls ++ l ∷ []) cpu
start_more ns ls l cpu = sym (fold-append (λ t (l : Laid). set_by (start_in ns cpu) l.meaning.statement t) (0, false) ls (l ∷ []))

draft_more : (ns : Names) (ls : List Laid) (l : Laid) (old mid new : Draft) → IsDraft ns ls old → IsHeaded ns l.meaning.statement old mid →
    new.gdt ≡ mid.gdt → new.idt ≡ mid.idt → new.words ≡ mid.words → new.tasks ≡ mid.tasks → new.plan ≡ mid.plan →
    HasSections new.sections (with_statement (sections_of ls) l.meaning.statement l.bytes) → IsDraft ns (ls ++ l ∷ []) new
draft_more ns ls l old mid new d h gdt idt words tasks plan sections = record {
  gdt = gdt ∙ h.gdt ∙ ap (set_by (gdt_in ns) s) d.gdt ∙ sym (fold-append (λ t (l : Laid). set_by (gdt_in ns) l.meaning.statement t) (record { base = 0; limit = 0 }) ls (l ∷ []));
  idt = idt ∙ h.idt ∙ ap (set_by (idt_in ns) s) d.idt ∙ sym (fold-append (λ t (l : Laid). set_by (idt_in ns) l.meaning.statement t) (record { base = 0; limit = 0 }) ls (l ∷ []));
  words = words ∙ h.words ∙ ap (words_after ns s) d.words ∙ words_more ns s (start_of ns ls) ∙ same_all _ _ (λ cpu. ap (λ t. t.0) (start_more ns ls l cpu)) processors;
  tasks = tasks ∙ h.tasks ∙ ap (tasks_after ns s) d.tasks ∙ tasks_more ns s (start_of ns ls) ∙ same_all _ _ (λ cpu. ap (λ t. t.1) (start_more ns ls l cpu)) processors;
  plan = plan ∙ h.plan ∙ ap (λ ps. ps ++ planned ns s) d.plan ∙ ap (λ ps. flat_map (plan_of ns) ls ++ ps) (sym (append-nil (planned ns s))) ∙ sym (flat_map-append (plan_of ns) ls (l ∷ []));
  sections = subst (HasSections new.sections) (sym (fold-append with_line [] ls (l ∷ []))) sections;
}
  where
    s : Statement
    s = l.meaning.statement

-- what a line does to a draft, where there is memory for it
pub line_taken : {A E : Type 0} (names : SeenNames) (place : ℕ) (s : Statement) (old mid : Draft) (after : Sections) (r : Result A E) →
    ((ns : Names) → Knows names ns → IsHeaded ns s old mid) →
    OnOk r ((ns : Names) (ss : List Section) → Knows names ns → HasSections mid.sections ss → (bytes : List ℕ) × Makes ns place s bytes × HasSections after (with_statement ss s bytes)) →
    OnOk r ((ns : Names) (ls : List Laid) → Knows names ns → IsDraft ns ls old → (meaning : Meaning) → meaning.statement ≡ s → (text : List ℕ) →
    (bytes : List ℕ) × Makes ns place s bytes × IsDraft ns (ls ++ record { text = text; meaning = meaning; bytes = bytes } ∷ [])
    (record { gdt = mid.gdt; idt = mid.idt; words = mid.words; tasks = mid.tasks; plan = mid.plan; sections = after }))
line_taken names place s old mid after (Ok a) h t = λ ns ls k d meaning e text.
    let before : HasSections mid.sections (sections_of ls) = subst (λ x. HasSections x (sections_of ls)) (sym (h ns k).sections) d.sections in
    let g = t ns (sections_of ls) k before in
    let l : Laid = record { text = text; meaning = meaning; bytes = g.0 } in
    let new : Draft = record { gdt = mid.gdt; idt = mid.idt; words = mid.words; tasks = mid.tasks; plan = mid.plan; sections = after } in
    let headed : IsHeaded ns meaning.statement old mid = subst (λ x. IsHeaded ns x old mid) (sym e) (h ns k) in
    let sections : HasSections after (with_statement (sections_of ls) meaning.statement g.0) = subst (λ x. HasSections after (with_statement (sections_of ls) x g.0)) (sym e) g.2 in
    (g.0, g.1, draft_more ns ls l old mid new d headed refl refl refl refl refl sections)
line_taken names place s old mid after (Err x) h t = t

-- ---- lengths

planned_short : (ns : Names) (s : Statement) → length (planned ns s) ≤ 1
planned_short ns (Direct (Plans p s v)) = omega arith
planned_short ns (Direct (StartsBare p e)) = omega arith
planned_short ns (Direct (StartsTask p s)) = omega arith
planned_short ns (Direct (SetsMemory e)) = omega arith
planned_short ns (Direct (SetsCpus e)) = omega arith
planned_short ns (Direct (SetsGdt b l)) = omega arith
planned_short ns (Direct (SetsIdt b l)) = omega arith
planned_short ns (Direct (Begins n)) = omega arith
planned_short ns (Direct (Values w es)) = omega arith
planned_short ns (Direct (Bytes bs)) = omega arith
planned_short ns (Direct (Zeros n)) = omega arith
planned_short ns (Direct (Describes b l a g)) = omega arith
planned_short ns (Direct (Gates s o a c)) = omega arith
planned_short ns (Direct (Fields fs)) = omega arith
planned_short ns Nothing = omega arith
planned_short ns (Assign w n) = omega arith
planned_short ns (Operate i) = omega arith

pub plan_short : (ns : Names) (ls : List Laid) → length (flat_map (plan_of ns) ls) ≤ length ls
plan_short ns [] = omega arith
plan_short ns (l ∷ ls) = omega (arith, length-append (plan_of ns l) (flat_map (plan_of ns) ls), planned_short ns l.meaning.statement, plan_short ns ls)

bytes_add : (bytes : List ℕ) (ss : List Section) → length (with_bytes bytes ss) ≤ length ss + 1
unfolding with_bytes
bytes_add [] ss = omega arith
bytes_add (b ∷ bs) [] = omega arith
bytes_add (b ∷ bs) (s ∷ []) = omega arith
bytes_add (b ∷ bs) (s ∷ t ∷ ss) = omega (arith, bytes_add (b ∷ bs) (t ∷ ss))

-- the sections, where a statement may begin one
beginning : Option ℕ → List ℕ → List Section → List Section
beginning o bytes ss = elim o [ Some a ↦ ss ++ record { addr = a; bytes = [] } ∷ [] | None ↦ with_bytes bytes ss ]

begins_add : (o : Option ℕ) (bytes : List ℕ) (ss : List Section) → length (beginning o bytes ss) ≤ length ss + 1
unfolding beginning
begins_add (Some a) bytes ss = omega (arith, length-append ss (record { addr = a; bytes = [] } ∷ []))
begins_add None bytes ss = bytes_add bytes ss

line_adds : (ss : List Section) (l : Laid) → length (with_line ss l) ≤ length ss + 1
unfolding beginning
line_adds ss l = begins_add (begins_at l.meaning.statement) l.bytes ss

lines_add : (ss : List Section) (ls : List Laid) → length (fold with_line ss ls) ≤ length ss + length ls
lines_add ss [] = omega arith
lines_add ss (l ∷ ls) = omega (arith, lines_add (with_line ss l) ls, line_adds ss l)

pub sections_short : (ls : List Laid) → length (sections_of ls) ≤ length ls
sections_short ls = omega (arith, lines_add [] ls)
