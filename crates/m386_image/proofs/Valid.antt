-- What holds of every valid image, and that its text is its bytes.
use Rattle.std.proofs.Common.{◌≡◌, ℕ, zero, suc, ◌+◌, ◌*◌, ◌%◌, ◌^◌, ◌<◌, ◌≤◌, Bool, true, false, ltb, List, [], ◌∷◌, ◌++◌, length, get_or, take, drop, refl, sym, ap, subst, ◌∙◌, append_assoc, arith, inl, inr, lit<}
use Rattle.std.specs.Prelude.{nat_lt, if◌then◌else◌, codes}
use Rattle.std.specs.List.{flat_map, AllByRecursion}
use Rattle.std.proofs.lemmas.Bool.{cases_lt, lt-ltb, le-ltb}
use Rattle.std.proofs.lemmas.List.{append-nil, length-append, length-drop, drop_at, drop-drop, get_or_past}
use Rattle.std.proofs.lemmas.List.FromFn.{fill_by_all, length-map-range_with_len, get_or-map-range_with_len}
use Rattle.std.proofs.lemmas.Nat.{from_le_bytes-to_le_bytes_2, from_le_bytes-to_le_bytes_4}
use Rattle.m386_image.specs.declared.image.Image.{Image}
use Rattle.m386_image.specs.declared.image.Planned.{Planned}
use Rattle.m386_image.specs.declared.image.TableAt.{TableAt}
use Rattle.m386_image.specs.Format.{AreBytes, u16_at, u32_at, u16_bytes, u32_bytes, cpus_of, flags_of, starts_of, starts_bare, start_in, start_word, AreFlags, entry_at, entries, entry_text, plan_count, plan_in, plan_end, section_text, HasText, ArePlaced, IsMemorySize, IsCpuCount, ImageOf, IsValid, HasImageText, head_text, tables_text, counts_text, image_text}
use Rattle.m386_image.proofs.Plans.{length-entries, StepsFit, entries_fit, length-plan_text, entries-plan_text}
use Rattle.m386_image.proofs.Numbers.{AreBytes-drop, u16_at_lt, u32_at_lt, u32_at-drop, u32_at-bytes, length-u32_bytes}

-- ---- what holds of a valid image

pub valid_memory : (image : Image) → IsValid image → IsMemorySize image.memory
valid_memory image v = subst IsMemorySize (sym v.1.memory) v.1.header.memory

pub valid_cpus : (image : Image) → IsValid image → IsCpuCount image.cpus
valid_cpus image v = subst IsCpuCount (sym v.1.cpus) v.1.header.cpus

pub valid_flags : (image : Image) → IsValid image → AreFlags image.cpus image.flags
valid_flags image v = rw (v.1.cpus, v.1.flags) v.1.header.flags

-- the flags are a byte
flags_byte : (image : Image) → IsValid image → image.flags < 256
flags_byte image v = omega (arith, v.1.flags, v.1.are_bytes 7)

pub valid_placed : (image : Image) → IsValid image → ArePlaced 0 image.memory image.sections
valid_placed image v = v.1.placed

pub valid_sections : (image : Image) → IsValid image → AllByRecursion HasText image.sections
valid_sections image v = v.1.sections.sections.text

planned_count : (bytes : List ℕ) (image : Image) → ImageOf bytes image → length image.plan ≡ plan_count bytes
unfolding plan_in
planned_count bytes image i = ap length i.plan ∙ length-entries (plan_count bytes) (drop 64 bytes)

valid_steps : (image : Image) → IsValid image → StepsFit image.plan
unfolding plan_in
valid_steps image v = subst StepsFit (sym v.1.plan) (entries_fit (plan_count v.0) (drop 64 v.0) (AreBytes-drop 64 v.0 v.1.are_bytes))

pub valid_counts : (image : Image) → IsValid image → (length image.plan < 2 ^ 32) × (length image.sections < 2 ^ 32)
valid_counts image v =
    (omega (arith, planned_count v.0 image v.1, u32_at_lt 24 v.0 v.1.are_bytes), omega (arith, v.1.sections.sections.count, u32_at_lt 28 v.0 v.1.are_bytes))

pub valid_has_text : (image : Image) → IsValid image → HasImageText image
valid_has_text image v = record { planned = (valid_counts image v).0; counted = (valid_counts image v).1; sections = valid_sections image v }

-- the starts of the bytes, one by one
get_or-starts_of : (bytes : List ℕ) (k : ℕ) → k < 8 → get_or (starts_of bytes) k 0 ≡ start_word bytes k
unfolding starts_of
get_or-starts_of bytes k lt = get_or-map-range_with_len (start_word bytes) 0 8 k k 0 lt (omega arith)

length-starts_of : (bytes : List ℕ) → length (starts_of bytes) ≡ 8
unfolding starts_of
length-starts_of bytes = length-map-range_with_len (start_word bytes) 0 8

starts_from : (bytes starts : List ℕ) → length starts ≡ 8 → ((k : ℕ) → k < 8 → get_or starts k 0 ≡ start_word bytes k) → starts ≡ starts_of bytes
unfolding starts_of
starts_from bytes starts len each = fill_by_all (start_word bytes) starts 8 0 len each

-- ---- the text of a valid image is its bytes

length-words : (xs : List ℕ) → length (flat_map u32_bytes xs) ≡ 4 * length xs
length-words [] = refl
length-words (x ∷ xs) = omega (arith, length-append (u32_bytes x) (flat_map u32_bytes xs), length-u32_bytes x, length-words xs)

-- the number at place p of numbers end to end
u32_at-words : (xs rest : List ℕ) (p : ℕ) → p < length xs → ((k : ℕ) → get_or xs k 0 < 2 ^ 32) → u32_at (4 * p) (flat_map u32_bytes xs ++ rest) ≡ get_or xs p 0
u32_at-words [] rest p lt h = absurd (omega arith)
u32_at-words (x ∷ xs) rest zero lt h = ap (u32_at 0) (append_assoc (u32_bytes x) (flat_map u32_bytes xs) rest) ∙ u32_at-bytes x (flat_map u32_bytes xs ++ rest) (h 0)
u32_at-words (x ∷ xs) rest (suc p) lt h =
    let all = flat_map u32_bytes xs ++ rest in
    let e : u32_bytes x ++ flat_map u32_bytes xs ++ rest ≡ u32_bytes x ++ all = append_assoc (u32_bytes x) (flat_map u32_bytes xs) rest in
    let four : 4 * suc p ≡ 4 + 4 * p = omega arith in
    let cut : drop 4 (u32_bytes x ++ all) ≡ all = drop_at (u32_bytes x) all 4 (length-u32_bytes x) in
    ap (u32_at (4 * suc p)) e ∙ ap (λ (n : ℕ). u32_at n (u32_bytes x ++ all)) four ∙ sym (u32_at-drop 4 (4 * p) (u32_bytes x ++ all)) ∙ ap (u32_at (4 * p)) cut
    ∙ u32_at-words xs rest p (omega arith) (λ k. h (suc k))

-- the words of a text, whose values its image keeps
pub record HasWords (image : Image) (text : List ℕ) : Type 0 where
  pub magic : take 4 text ≡ codes "M386"
  pub version : u16_at 4 text ≡ 1
  pub cpus : get_or text 6 0 ≡ image.cpus
  pub flags : get_or text 7 0 ≡ image.flags
  pub memory : u32_at 8 text ≡ image.memory
  pub gdt_base : u32_at 12 text ≡ image.gdt.base
  pub gdt_limit : u16_at 16 text ≡ image.gdt.limit
  pub idt_limit : u16_at 18 text ≡ image.idt.limit
  pub idt_base : u32_at 20 text ≡ image.idt.base
  pub planned : u32_at 24 text ≡ length image.plan
  pub sections : u32_at 28 text ≡ length image.sections
  pub rest : drop 32 text ≡ flat_map u32_bytes image.starts ++ (flat_map entry_text image.plan ++ flat_map section_text image.sections)

-- the numbers of an image fit their places
pub record NumbersFit (image : Image) : Type 0 where
  pub memory : image.memory < 2 ^ 32
  pub gdt_base : image.gdt.base < 2 ^ 32
  pub gdt_limit : image.gdt.limit < 2 ^ 16
  pub idt_base : image.idt.base < 2 ^ 32
  pub idt_limit : image.idt.limit < 2 ^ 16
  pub planned : length image.plan < 2 ^ 32
  pub sections : length image.sections < 2 ^ 32

has_words : (image : Image) → NumbersFit image → HasWords image (image_text image)
unfolding image_text u16_at u32_at u16_bytes u32_bytes
has_words image f = record {
  magic = refl;
  version = refl;
  cpus = refl;
  flags = refl;
  memory = from_le_bytes-to_le_bytes_4 image.memory f.memory;
  gdt_base = from_le_bytes-to_le_bytes_4 image.gdt.base f.gdt_base;
  gdt_limit = from_le_bytes-to_le_bytes_2 image.gdt.limit f.gdt_limit;
  idt_limit = from_le_bytes-to_le_bytes_2 image.idt.limit f.idt_limit;
  idt_base = from_le_bytes-to_le_bytes_4 image.idt.base f.idt_base;
  planned = from_le_bytes-to_le_bytes_4 (length image.plan) f.planned;
  sections = from_le_bytes-to_le_bytes_4 (length image.sections) f.sections;
  rest = append_assoc (flat_map u32_bytes image.starts) (flat_map entry_text image.plan) (flat_map section_text image.sections);
}

valid_fits : (image : Image) → IsValid image → NumbersFit image
valid_fits image v = record {
  memory = omega (arith, v.1.memory, u32_at_lt 8 v.0 v.1.are_bytes);
  gdt_base = subst (λ (t : TableAt). t.base < 2 ^ 32) (sym v.1.gdt) (u32_at_lt 12 v.0 v.1.are_bytes);
  gdt_limit = subst (λ (t : TableAt). t.limit < 2 ^ 16) (sym v.1.gdt) (u16_at_lt 16 v.0 v.1.are_bytes);
  idt_base = subst (λ (t : TableAt). t.base < 2 ^ 32) (sym v.1.idt) (u32_at_lt 20 v.0 v.1.are_bytes);
  idt_limit = subst (λ (t : TableAt). t.limit < 2 ^ 16) (sym v.1.idt) (u16_at_lt 18 v.0 v.1.are_bytes);
  planned = (valid_counts image v).0;
  sections = (valid_counts image v).1;
}

pub valid_starts : (image : Image) → IsValid image → length image.starts ≡ 8
valid_starts image v = ap length v.1.starts ∙ length-starts_of v.0

-- a start, and that it is 0 where there is no such processor
valid_start : (image : Image) (v : IsValid image) (k : ℕ) → k < 8 → get_or image.starts k 0 ≡ start_word v.0 k
valid_start image v k lt = ap (λ (xs : List ℕ). get_or xs k 0) v.1.starts ∙ get_or-starts_of v.0 k lt

-- a start is no greater than its word
start_in_lt : (flags p word : ℕ) → word < 2 ^ 32 → start_in flags p word < 2 ^ 32
start_in_lt flags p word lt =
    let P : Bool → Type 0 = λ b. (if b then word else word % 2 ^ 16) < 2 ^ 32 in
    elim (starts_bare flags p) as P [ true ↦ lt | false ↦ omega arith ]

-- a start is its own start word
start_in_again : (flags p word : ℕ) → start_in flags p (start_in flags p word) ≡ start_in flags p word
start_in_again flags p word =
    let P : Bool → Type 0 = λ b. (if b then (if b then word else word % 2 ^ 16) else (if b then word else word % 2 ^ 16) % 2 ^ 16) ≡ (if b then word else word % 2 ^ 16) in
    elim (starts_bare flags p) as P [ true ↦ refl | false ↦ omega arith ]

start_lt : (bytes : List ℕ) (k : ℕ) → AreBytes bytes → start_word bytes k < 2 ^ 32
start_lt bytes k h =
    let P : Bool → Type 0 = λ b. (if b then start_in (flags_of bytes) k (u32_at (32 + 4 * k) bytes) else 0) < 2 ^ 32 in
    elim (nat_lt k (cpus_of bytes)) as P [ true ↦ start_in_lt (flags_of bytes) k (u32_at (32 + 4 * k) bytes) (u32_at_lt (32 + 4 * k) bytes h) | false ↦ omega arith ]

valid_start_lt : (image : Image) → IsValid image → (k : ℕ) → get_or image.starts k 0 < 2 ^ 32
valid_start_lt image v k =
    elim (cases_lt k 8) [
      | inl lt ↦ rw (valid_start image v k lt) (start_lt v.0 k v.1.are_bytes)
      | inr le ↦ rw (get_or_past image.starts k 0 (omega (arith, valid_starts image v))) (omega arith)
    ]

-- each start of an image is that of its text
text_start : (image : Image) (v : IsValid image) (text : List ℕ) → HasWords image text → (k : ℕ) → k < 8 → get_or image.starts k 0 ≡ start_word text k
text_start image v text w k lt =
    let is : u32_at (32 + 4 * k) text ≡ get_or image.starts k 0 =
    sym (u32_at-drop 32 (4 * k) text) ∙ ap (u32_at (4 * k)) w.rest ∙ u32_at-words image.starts (flat_map entry_text image.plan ++ flat_map section_text image.sections) k (omega (arith, valid_starts image v)) (valid_start_lt image v) in
    elim (cases_lt k image.cpus) [
      | inl below ↦
          let t : ltb k image.cpus ≡ true = lt-ltb k image.cpus below in
          let word = u32_at (32 + 4 * k) v.0 in
          let here : start_word v.0 k ≡ start_in image.flags k word = rw (← v.1.cpus, t, v.1.flags) refl in
          let start : get_or image.starts k 0 ≡ start_in image.flags k word = valid_start image v k lt ∙ here in
          rw (w.cpus, t, w.flags, is) (start ∙ sym (start_in_again image.flags k word) ∙ ap (start_in image.flags k) (sym start))
      | inr past ↦
          let t : ltb k image.cpus ≡ false = le-ltb k image.cpus past in
          let absent : start_word v.0 k ≡ 0 = rw (← v.1.cpus, t) refl in
          rw (w.cpus, t) (valid_start image v k lt ∙ absent)
    ]

-- the text of an image is of bytes
record IsOfBytes (text : List ℕ) : Type 0 where
  bytes : AreBytes text

nil_bytes : AreBytes []
nil_bytes i = omega arith

cons_bytes : (b : ℕ) (bytes : List ℕ) → b < 256 → AreBytes bytes → AreBytes (b ∷ bytes)
cons_bytes b bytes lt h zero = lt
cons_bytes b bytes lt h (suc i) = h i

append_bytes : (xs ys : List ℕ) → AreBytes xs → AreBytes ys → AreBytes (xs ++ ys)
append_bytes [] ys h k = k
append_bytes (x ∷ xs) ys h k = cons_bytes x (xs ++ ys) (h 0) (append_bytes xs ys (λ i. h (suc i)) k)

both : {xs ys : List ℕ} → IsOfBytes xs → IsOfBytes ys → IsOfBytes (xs ++ ys)
both {xs} {ys} h k = record { bytes = append_bytes xs ys h.bytes k.bytes }

u16_cells : (n : ℕ) → AreBytes (u16_bytes n)
unfolding u16_bytes
u16_cells n zero = omega arith
u16_cells n (suc zero) = omega arith
u16_cells n (suc (suc i)) = omega arith

u32_cells : (n : ℕ) → AreBytes (u32_bytes n)
unfolding u32_bytes
u32_cells n zero = omega arith
u32_cells n (suc zero) = omega arith
u32_cells n (suc (suc zero)) = omega arith
u32_cells n (suc (suc (suc zero))) = omega arith
u32_cells n (suc (suc (suc (suc i)))) = omega arith

words_bytes : (xs : List ℕ) → AreBytes (flat_map u32_bytes xs)
words_bytes [] = nil_bytes
words_bytes (x ∷ xs) = append_bytes (u32_bytes x) (flat_map u32_bytes xs) (u32_cells x) (words_bytes xs)

listed_bytes : (bytes : List ℕ) → AllByRecursion (λ b. b < 256) bytes → AreBytes bytes
listed_bytes [] h = nil_bytes
listed_bytes (b ∷ bytes) h = cons_bytes b bytes h.0 (listed_bytes bytes h.1)

of_u16 : (n : ℕ) → IsOfBytes (u16_bytes n)
of_u16 n = record { bytes = u16_cells n }

of_u32 : (n : ℕ) → IsOfBytes (u32_bytes n)
of_u32 n = record { bytes = u32_cells n }

machine_bytes : (image : Image) → IsValid image → IsOfBytes (head_text image)
machine_bytes image v =
    let magic : IsOfBytes (codes "M386") = record { bytes = listed_bytes (codes "M386") (lit< tt, (lit< tt, (lit< tt, (lit< tt, tt)))) } in
    let cells : IsOfBytes (image.cpus ∷ image.flags ∷ []) = record { bytes = listed_bytes (image.cpus ∷ image.flags ∷ []) (omega (arith, valid_cpus image v), (flags_byte image v, tt)) } in
    both (both (both magic (of_u16 1)) cells) (of_u32 image.memory)

tables_bytes : (image : Image) → IsOfBytes (tables_text image)
tables_bytes image = both (both (both (of_u32 image.gdt.base) (of_u16 image.gdt.limit)) (of_u16 image.idt.limit)) (of_u32 image.idt.base)

counts_bytes : (image : Image) → IsOfBytes (counts_text image)
counts_bytes image = both (of_u32 (length image.plan)) (of_u32 (length image.sections))

entries_bytes : (n : ℕ) (bytes : List ℕ) → AreBytes bytes → AreBytes (flat_map entry_text (entries n bytes))
unfolding entries
entries_bytes zero bytes h = nil_bytes
entries_bytes (suc n) bytes h =
    let numbers : IsOfBytes (get_or bytes 4 0 ∷ get_or bytes 5 0 ∷ 0 ∷ 0 ∷ []) = record { bytes = listed_bytes (get_or bytes 4 0 ∷ get_or bytes 5 0 ∷ 0 ∷ 0 ∷ []) (h 4, (h 5, (lit< tt, (lit< tt, tt)))) } in
    append_bytes (entry_text (entry_at bytes)) _ (both (of_u32 (u32_at 0 bytes)) numbers).bytes (entries_bytes n (drop 8 bytes) (AreBytes-drop 8 bytes h))

plan_bytes : (image : Image) → IsValid image → IsOfBytes (flat_map entry_text image.plan)
unfolding plan_in
plan_bytes image v = record { bytes = subst (λ (es : List Planned). AreBytes (flat_map entry_text es)) (sym v.1.plan) (entries_bytes (plan_count v.0) (drop 64 v.0) (AreBytes-drop 64 v.0 v.1.are_bytes)) }

text_bytes : (image : Image) → IsValid image → IsOfBytes (image_text image)
unfolding image_text
text_bytes image v =
    let texts = flat_map section_text image.sections in
    let parts : drop (plan_end v.0) v.0 ≡ texts = v.1.sections.sections.parts ∙ append-nil texts in
    let sections : IsOfBytes texts = record { bytes = subst AreBytes parts (AreBytes-drop (plan_end v.0) v.0 v.1.are_bytes) } in
    let starts : IsOfBytes (flat_map u32_bytes image.starts) = record { bytes = words_bytes image.starts } in
    both (both (both (both (both (machine_bytes image v) (tables_bytes image)) (counts_bytes image)) starts) (plan_bytes image v)) sections

pub text_is_image : (image : Image) → IsValid image → ImageOf (image_text image) image
unfolding plan_in
text_is_image image v =
    let text = image_text image in
    let w = has_words image (valid_fits image v) in
    let words = flat_map u32_bytes image.starts in
    let planned = flat_map entry_text image.plan in
    let texts = flat_map section_text image.sections in
    let place : plan_end text ≡ 64 + length planned = omega (arith, w.planned, length-plan_text image.plan) in
    let len : length words ≡ 32 = omega (arith, length-words image.starts, valid_starts image v) in
    let behind : drop 64 text ≡ planned ++ texts = sym (drop-drop 32 32 text) ∙ ap (drop 32) w.rest ∙ drop_at words (planned ++ texts) 32 len in
    let last : drop (64 + length planned) text ≡ texts = sym (drop-drop (length planned) 64 text) ∙ ap (drop (length planned)) behind ∙ drop_at planned texts (length planned) refl in
    let long : 64 + length planned ≤ length text = omega (arith, length-drop 32 text, ap length w.rest, length-append words (planned ++ texts), length-append planned texts) in
    let read : entries (plan_count text) (drop 64 text) ≡ image.plan = ap (λ (n : ℕ). entries n (drop 64 text)) w.planned ∙ ap (entries (length image.plan)) behind ∙ entries-plan_text image.plan texts (valid_steps image v) in
    record {
      are_bytes = (text_bytes image v).bytes;
      header = record { long = omega (arith, long); magic = w.magic; version = w.version; memory = rw w.memory (valid_memory image v); cpus = rw w.cpus (valid_cpus image v); flags = rw (w.cpus, w.flags) (valid_flags image v) };
      memory = sym w.memory;
      cpus = sym w.cpus;
      flags = sym w.flags;
      gdt = λ t. record { base = (sym w.gdt_base) t; limit = (sym w.gdt_limit) t };
      idt = λ t. record { base = (sym w.idt_base) t; limit = (sym w.idt_limit) t };
      starts = starts_from text image.starts (valid_starts image v) (text_start image v text w);
      plan = sym read;
      ordered = v.1.ordered;
      sections = record {
        plan = omega (arith, place, long);
        sections = record {
          count = sym w.sections;
          text = valid_sections image v;
          parts = ap (λ (n : ℕ). drop n text) place ∙ last ∙ sym (append-nil texts);
        };
      };
      placed = valid_placed image v;
    }
