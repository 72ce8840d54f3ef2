-- What sections give when they are put into zeros one after the other.
use Rattle.std.proofs.Common.{◌≡◌, ℕ, zero, suc, ◌+◌, ◌-◌, ◌<◌, ◌≤◌, Bool, true, false, cond, List, [], ◌∷◌, ◌++◌, length, get_or, take, drop, refl, sym, ap, subst, ◌∙◌, arith, inl, inr}
use Rattle.std.specs.Prelude.{nat_lt, nat_le}
use Rattle.std.proofs.lemmas.Bool.{cases_lt, lt-ltb, le-ltb, le-leb, lt-leb, and_from, and_left, and_right}
use Rattle.std.proofs.lemmas.List.{length-append, length-take, length-drop, get_or-take, get_or-drop, get_or_append_left, get_or-append_right, get_or-replicate, get_or_past, length-replicate}
use Rattle.m386_image.specs.declared.image.Image.{Image}
use Rattle.m386_image.specs.declared.image.Section.{Section}
use Rattle.m386_image.specs.Format.{ArePlaced, IsValid}
use Rattle.m386_image.specs.Memory.{covers, byte_of_sections, byte_of_image, blank_memory, fill, fill_all}
use Rattle.m386_image.proofs.Valid.{valid_placed}

-- ---- one section

pub length-blank_memory : (size : ℕ) → length (blank_memory size) ≡ size
length-blank_memory size = length-replicate {A = ℕ} size 0

pub length-fill : (place : ℕ) (bytes memory : List ℕ) → place + length bytes ≤ length memory → length (fill place bytes memory) ≡ length memory
length-fill place bytes memory h =
    omega (arith, length-append (take place memory ++ bytes) (drop (place + length bytes) memory), length-append (take place memory) bytes, length-take place memory, length-drop (place + length bytes) memory)

-- a place before the bytes, in them, and behind them
fill_before : (place : ℕ) (bytes memory : List ℕ) (at : ℕ) → place + length bytes ≤ length memory → at < place → get_or (fill place bytes memory) at 0 ≡ get_or memory at 0
fill_before place bytes memory at h lt =
    let front = take place memory in
    let len : length front ≡ place = omega (arith, length-take place memory) in
    get_or_append_left (front ++ bytes) (drop (place + length bytes) memory) 0 at (omega (arith, length-append front bytes)) ∙ get_or_append_left front bytes 0 at (omega arith) ∙ get_or-take place memory at 0 lt

fill_in : (place : ℕ) (bytes memory : List ℕ) (at : ℕ) → place + length bytes ≤ length memory → place ≤ at → at < place + length bytes → get_or (fill place bytes memory) at 0 ≡ get_or bytes (at - place) 0
fill_in place bytes memory at h le lt =
    let front = take place memory in
    let len : length front ≡ place = omega (arith, length-take place memory) in
    get_or_append_left (front ++ bytes) (drop (place + length bytes) memory) 0 at (omega (arith, length-append front bytes)) ∙ get_or-append_right front bytes place at 0 len le

fill_behind : (place : ℕ) (bytes memory : List ℕ) (at : ℕ) → place + length bytes ≤ length memory → place + length bytes ≤ at → get_or (fill place bytes memory) at 0 ≡ get_or memory at 0
fill_behind place bytes memory at h le =
    let front = take place memory in
    let end = place + length bytes in
    let len : length front ≡ place = omega (arith, length-take place memory) in
    let both : length (front ++ bytes) ≡ end = omega (arith, length-append front bytes) in
    let back : end + (at - end) ≡ at = omega arith in
    get_or-append_right (front ++ bytes) (drop end memory) end at 0 both le ∙ get_or-drop end memory (at - end) 0 ∙ ap (λ (k : ℕ). get_or memory k 0) back

-- ---- sections

-- the byte at a place where sections were put into a memory that had this byte there
byte_over : List Section → ℕ → ℕ → ℕ
byte_over [] place old = old
byte_over (s ∷ ss) place old = cond (covers s place) (get_or s.bytes (place - s.addr) 0) (byte_over ss place old)

byte_over-zero : (ss : List Section) (place : ℕ) → byte_over ss place 0 ≡ byte_of_sections ss place
unfolding byte_over
byte_over-zero [] place = refl
byte_over-zero (s ∷ ss) place = ap (λ (b : ℕ). cond (covers s place) (get_or s.bytes (place - s.addr) 0) b) (byte_over-zero ss place)

covers_in : (s : Section) (place : ℕ) → s.addr ≤ place → place < s.addr + length s.bytes → covers s place ≡ true
covers_in s place le lt = and_from (nat_le s.addr place) (nat_lt place (s.addr + length s.bytes)) (le-leb s.addr place le) (lt-ltb place (s.addr + length s.bytes) lt)

covers_before : (s : Section) (place : ℕ) → place < s.addr → covers s place ≡ false
covers_before s place lt = and_left (nat_le s.addr place) (nat_lt place (s.addr + length s.bytes)) (lt-leb s.addr place lt)

covers_behind : (s : Section) (place : ℕ) → s.addr + length s.bytes ≤ place → covers s place ≡ false
covers_behind s place le = and_right (nat_le s.addr place) (nat_lt place (s.addr + length s.bytes)) (le-ltb place (s.addr + length s.bytes) le)

-- no section covers a place below the first
byte_over_below : (low memory : ℕ) (ss : List Section) (place old : ℕ) → ArePlaced low memory ss → place < low → byte_over ss place old ≡ old
unfolding byte_over
byte_over_below low memory [] place old h lt = refl
byte_over_below low memory (s ∷ ss) place old h lt =
    let no : covers s place ≡ false = covers_before s place (omega arith) in
    ap (λ (b : Bool). cond b (get_or s.bytes (place - s.addr) 0) (byte_over ss place old)) no ∙ byte_over_below (s.addr + length s.bytes) memory ss place old h.2 (omega arith)

filled_over : (low : ℕ) (ss : List Section) (memory : List ℕ) (place : ℕ) → ArePlaced low (length memory) ss → get_or (fill_all ss memory) place 0 ≡ byte_over ss place (get_or memory place 0)
unfolding byte_over
filled_over low [] memory place h = refl
filled_over low (s ∷ ss) memory place h =
    let end = s.addr + length s.bytes in
    let now = fill s.addr s.bytes memory in
    let others : ArePlaced end (length now) ss = subst (λ (n : ℕ). ArePlaced end n ss) (sym (length-fill s.addr s.bytes memory h.1)) h.2 in
    let all : get_or (fill_all ss now) place 0 ≡ byte_over ss place (get_or now place 0) = filled_over end ss now place others in
    let here = λ (b : Bool). cond b (get_or s.bytes (place - s.addr) 0) (byte_over ss place (get_or memory place 0)) in
    elim (cases_lt place s.addr) [
      | inl before ↦ all ∙ ap (byte_over ss place) (fill_before s.addr s.bytes memory place h.1 before) ∙ ap here (sym (covers_before s place before))
      | inr le ↦ elim (cases_lt place end) [
        | inl lt ↦ all ∙ byte_over_below end (length now) ss place (get_or now place 0) others lt ∙ fill_in s.addr s.bytes memory place h.1 le lt ∙ ap here (sym (covers_in s place le lt))
        | inr behind ↦ all ∙ ap (byte_over ss place) (fill_behind s.addr s.bytes memory place h.1 behind) ∙ ap here (sym (covers_behind s place behind))
      ]
    ]

get_or-zeros : (n place : ℕ) → get_or (blank_memory n) place 0 ≡ 0
get_or-zeros n place =
    elim (cases_lt place n) [
      | inl lt ↦ get_or-replicate n place 0 0 lt
      | inr le ↦ get_or_past (blank_memory n) place 0 (omega (arith, length-blank_memory n))
    ]

-- sections that are put into zeros give each place its byte
pub filled_bytes : (size : ℕ) (ss : List Section) (place : ℕ) → ArePlaced 0 size ss → get_or (fill_all ss (blank_memory size)) place 0 ≡ byte_of_sections ss place
filled_bytes size ss place h =
    let len : length (blank_memory size) ≡ size = length-blank_memory size in
    filled_over 0 ss (blank_memory size) place (subst (λ (n : ℕ). ArePlaced 0 n ss) (sym len) h) ∙ ap (byte_over ss place) (get_or-zeros size place) ∙ byte_over-zero ss place

-- the same for an image
pub filled_image : (image : Image) (place : ℕ) → IsValid image → get_or (fill_all image.sections (blank_memory image.memory)) place 0 ≡ byte_of_image image place
filled_image image place v = filled_bytes image.memory image.sections place (valid_placed image v)

-- one more section, as a loop over sections puts them
pub fill_all-push : (ss : List Section) (s : Section) (memory : List ℕ) → fill_all (ss ++ s ∷ []) memory ≡ fill s.addr s.bytes (fill_all ss memory)
fill_all-push [] s memory = refl
fill_all-push (t ∷ ss) s memory = fill_all-push ss s (fill t.addr t.bytes memory)

-- each section lies inside the memory
placed_at : (low size : ℕ) (ss : List Section) (i : ℕ) (s : Section) → ArePlaced low size ss → i < length ss → (get_or ss i s).addr + length (get_or ss i s).bytes ≤ size
placed_at low size [] i s h lt = absurd (omega arith)
placed_at low size (t ∷ ss) zero s h lt = h.1
placed_at low size (t ∷ ss) (suc i) s h lt = placed_at (t.addr + length t.bytes) size ss i s h.2 (omega arith)

pub section_inside : (image : Image) (i : ℕ) (s : Section) → IsValid image → i < length image.sections → (get_or image.sections i s).addr + length (get_or image.sections i s).bytes ≤ image.memory
section_inside image i s v lt = placed_at 0 image.memory image.sections i s (valid_placed image v) lt
