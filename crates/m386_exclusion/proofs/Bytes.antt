-- The bytes of an image's sections are bytes.
use Rattle.std.proofs.Common.{ℕ, suc, ◌-◌, ◌<◌, Bool, true, false, List, [], ◌∷◌, ◌++◌, length, get_or, sym, subst, arith, if◌then◌else◌, inl, inr}
use Rattle.std.specs.List.{flat_map, AllByRecursion}
use Rattle.std.proofs.lemmas.Bool.{cases_lt}
use Rattle.std.proofs.lemmas.List.{get_or_append_left, get_or_past}
use Rattle.m386_image.specs.declared.image.Image.{Image}
use Rattle.m386_image.specs.declared.image.Section.{Section}
use Rattle.m386_image.specs.Format.{AreBytes, IsValid, section_text, u32_bytes}
use Rattle.m386_image.proofs.Numbers.{AreBytes-drop}
use Rattle.m386_image.specs.Memory.{byte_of_image, byte_of_sections, covers}

-- the front and the rest of bytes are bytes
front_bytes : (xs ys : List ℕ) → AreBytes (xs ++ ys) → AreBytes xs
front_bytes xs ys h i = elim (cases_lt i (length xs)) [
  | inl lt ↦ subst (λ b. b < 256) (get_or_append_left xs ys 0 i lt) (h i)
  | inr le ↦ subst (λ b. b < 256) (sym (get_or_past xs i 0 le)) (omega arith)
]

rest_bytes : (xs ys : List ℕ) → AreBytes (xs ++ ys) → AreBytes ys
rest_bytes [] ys h = h
rest_bytes (x ∷ xs) ys h = rest_bytes xs ys (λ i. h (suc i))

section_bytes : (s : Section) → AreBytes (section_text s) → AreBytes s.bytes
section_bytes s h = rest_bytes (u32_bytes (length s.bytes)) s.bytes (rest_bytes (u32_bytes s.addr) (u32_bytes (length s.bytes) ++ s.bytes) h)

sections_bytes : (ss : List Section) → AreBytes (flat_map section_text ss) → AllByRecursion (λ (s : Section). AreBytes s.bytes) ss
sections_bytes [] h = tt
sections_bytes (s ∷ ss) h = (section_bytes s (front_bytes (section_text s) (flat_map section_text ss) h), sections_bytes ss (rest_bytes (section_text s) (flat_map section_text ss) h))

byte_of : (ss : List Section) (place : ℕ) → AllByRecursion (λ (s : Section). AreBytes s.bytes) ss → byte_of_sections ss place < 256
byte_of [] place h = omega arith
byte_of (s ∷ ss) place h = go (covers s place) (byte_of ss place h.1)
  where
    go : (b : Bool) → byte_of_sections ss place < 256 → (if b then get_or s.bytes (place - s.addr) 0 else byte_of_sections ss place) < 256
    go true i = h.0 (place - s.addr)
    go false i = i

-- each byte of a valid image is one
pub image_byte : (image : Image) (place : ℕ) → IsValid image → byte_of_image image place < 256
image_byte image place v =
    let all = v.1.sections.sections in
    let behind : AreBytes (flat_map section_text image.sections ++ []) = subst AreBytes all.parts (AreBytes-drop _ v.0 v.1.are_bytes) in
    byte_of image.sections place (sections_bytes image.sections (front_bytes (flat_map section_text image.sections) [] behind))
