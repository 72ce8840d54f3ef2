-- Numbers as bytes and back.
use Rattle.std.proofs.Common.{◌≡◌, ℕ, ◌+◌, ◌^◌, ◌<◌, ◌≤◌, List, ◌++◌, length, take, drop, refl, sym, ap, ◌∙◌, arith, inl, inr}
use Rattle.std.proofs.lemmas.Bool.{cases_lt}
use Rattle.std.proofs.lemmas.List.{take-append-drop, length-take, drop-drop, get_or-drop, get_or-take, get_or_past}
use Rattle.std.proofs.lemmas.Nat.{le_bytes_4, from_le_bytes-to_le_bytes_4}
use Rattle.m386_image.specs.Format.{AreBytes, u16_at, u32_at, u32_bytes}

pub AreBytes-drop : (n : ℕ) (bytes : List ℕ) → AreBytes bytes → AreBytes (drop n bytes)
AreBytes-drop n bytes h i = rw get_or-drop (h (n + i))

pub AreBytes-take : (n : ℕ) (bytes : List ℕ) → AreBytes bytes → AreBytes (take n bytes)
AreBytes-take n bytes h i =
    elim (cases_lt i n) [
      | inl lt ↦ rw (get_or-take n bytes i 0 lt) (h i)
      | inr le ↦ rw (get_or_past (take n bytes) i 0 (omega (arith, length-take n bytes))) (omega arith)
    ]

pub length-u32_bytes : (n : ℕ) → length (u32_bytes n) ≡ 4
unfolding u32_bytes
length-u32_bytes n = refl

pub u16_at_lt : (place : ℕ) (bytes : List ℕ) → AreBytes bytes → u16_at place bytes < 2 ^ 16
unfolding u16_at
u16_at_lt place bytes h = let d = AreBytes-drop place bytes h in omega (arith, d 0, d 1)

pub u32_at_lt : (place : ℕ) (bytes : List ℕ) → AreBytes bytes → u32_at place bytes < 2 ^ 32
unfolding u32_at
u32_at_lt place bytes h = let d = AreBytes-drop place bytes h in omega (arith, d 0, d 1, d 2, d 3)

-- a number behind n further bytes
pub u32_at-drop : (n place : ℕ) (bytes : List ℕ) → u32_at place (drop n bytes) ≡ u32_at (n + place) bytes
unfolding u32_at
u32_at-drop n place bytes = rw drop-drop refl

pub u32_at-bytes : (n : ℕ) (rest : List ℕ) → n < 2 ^ 32 → u32_at 0 (u32_bytes n ++ rest) ≡ n
unfolding u32_at u32_bytes
u32_at-bytes n rest h = from_le_bytes-to_le_bytes_4 n h

-- a number that was read has these bytes
at_take : (bytes : List ℕ) → u32_at 0 (take 4 bytes) ≡ u32_at 0 bytes
unfolding u32_at
at_take bytes = rw (get_or-take 4 bytes 0 0 (omega arith), get_or-take 4 bytes 1 0 (omega arith), get_or-take 4 bytes 2 0 (omega arith), get_or-take 4 bytes 3 0 (omega arith)) refl

written : (bytes : List ℕ) → AreBytes bytes → length bytes ≡ 4 → u32_bytes (u32_at 0 bytes) ≡ bytes
unfolding u32_at u32_bytes
written bytes h len = le_bytes_4 bytes _ len h refl

pub u32_bytes-at : (bytes : List ℕ) → AreBytes bytes → 4 ≤ length bytes → u32_bytes (u32_at 0 bytes) ++ drop 4 bytes ≡ bytes
u32_bytes-at bytes h len =
    let e : u32_bytes (u32_at 0 (take 4 bytes)) ≡ take 4 bytes = written (take 4 bytes) (AreBytes-take 4 bytes h) (omega (arith, length-take 4 bytes)) in
    ap (λ (n : ℕ). u32_bytes n ++ drop 4 bytes) (sym (at_take bytes)) ∙ ap (λ (x : List ℕ). x ++ drop 4 bytes) e ∙ take-append-drop 4 bytes
