-- The byte at a place after a write.
use Rattle.std.proofs.Common.{◌≡◌, ◌≢◌, ℕ, ◌<◌, ◌≤◌, Bool, true, false, cond, ◌&&◌, eqb, ltb, List, [], ◌∷◌, length, get_or, set, Some, refl, sym, ◌∙◌, arith}
use Rattle.std.specs.Option.{unwrap_or}
use Rattle.std.proofs.lemmas.List.{length-set, get_or-set_same, get_or-set_other, get_or_past}
use Rattle.m386_base.specs.declared.ask.Space.{Space}
use Rattle.m386_base.specs.declared.ask.Space.TheVariants.{Memory, Port}
use Rattle.m386_base.specs.Bytes.{byte_at_place}
use Rattle.m386_base.specs.Phrase.{space_number}
use Rattle.m386_memory.specs.Contents.{Contents, byte_in, holds_byte, SameSize, with_bytes, with_written}

pub length-with_bytes : (xs : List ℕ) (bs : List (ℕ × ℕ)) → length (with_bytes xs bs) ≡ length xs
length-with_bytes xs [] = refl
length-with_bytes xs (b ∷ bs) = length-set (with_bytes xs bs) b.0 b.1 ∙ length-with_bytes xs bs

cond-same : (p : Bool) (n : ℕ) → n ≡ cond p n n
cond-same true n = refl
cond-same false n = refl

pub get_or-with_bytes : (xs : List ℕ) (bs : List (ℕ × ℕ)) (a d : ℕ) → get_or (with_bytes xs bs) a d ≡ cond (ltb a (length xs)) (unwrap_or (byte_at_place bs a) (get_or xs a d)) (get_or xs a d)
get_or-with_bytes xs [] a d = cond-same (ltb a (length xs)) (get_or xs a d)
get_or-with_bytes xs (b ∷ bs) a d = go (eqb b.0 a) refl (ltb a (length xs)) refl (get_or-with_bytes xs bs a d)
  where
    go : (p : Bool) → eqb b.0 a ≡ p → (q : Bool) → ltb a (length xs) ≡ q → get_or (with_bytes xs bs) a d ≡ cond q (unwrap_or (byte_at_place bs a) (get_or xs a d)) (get_or xs a d) → get_or (set (with_bytes xs bs) b.0 b.1) a d ≡ cond q (unwrap_or (cond p (Some b.1) (byte_at_place bs a)) (get_or xs a d)) (get_or xs a d)
    go true e true f ih =
        let i : b.0 ≡ a = grind (arith, e) in
        let l : a < length (with_bytes xs bs) = rw (length-with_bytes xs bs) (grind (arith, f)) in
        rw i (get_or-set_same (with_bytes xs bs) a b.1 d l)
    go true e false f ih =
        let m : length xs ≤ a = grind (arith, f) in
        let l : length (set (with_bytes xs bs) b.0 b.1) ≤ a = rw (length-set (with_bytes xs bs) b.0 b.1, length-with_bytes xs bs) m in
        get_or_past (set (with_bytes xs bs) b.0 b.1) a d l ∙ sym (get_or_past xs a d m)
    go false e q f ih =
        let i : a ≢ b.0 = grind (arith, e) in
        get_or-set_other (with_bytes xs bs) b.0 a b.1 d i ∙ ih

-- what stands at a place after a write
pub byte_in-written : (c : Contents) (t : Space) (bs : List (ℕ × ℕ)) (s : Space) (a : ℕ) → byte_in (with_written c t bs) s a ≡ cond (eqb (space_number t) (space_number s) && holds_byte c s a) (unwrap_or (byte_at_place bs a) (byte_in c s a)) (byte_in c s a)
byte_in-written c Memory bs Memory a = get_or-with_bytes c.memory bs a 255
byte_in-written c Memory bs Port a = refl
byte_in-written c Port bs Memory a = refl
byte_in-written c Port bs Port a = get_or-with_bytes c.ports bs a 0

-- a write leaves as many bytes
pub SameSize-written : (first c : Contents) (t : Space) (bs : List (ℕ × ℕ)) → SameSize first c → SameSize first (with_written c t bs)
SameSize-written first c Memory bs h = record { memory = length-with_bytes c.memory bs ∙ h.memory; ports = h.ports }
SameSize-written first c Port bs h = record { memory = h.memory; ports = length-with_bytes c.ports bs ∙ h.ports }

pub is_inside-same : (first c : Contents) (s : Space) (a : ℕ) → SameSize first c → holds_byte c s a ≡ holds_byte first s a
is_inside-same first c Memory a h = rw h.memory refl
is_inside-same first c Port a h = rw h.ports refl
