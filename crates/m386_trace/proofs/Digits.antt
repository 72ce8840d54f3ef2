-- Digits are ASCII.
use Rattle.std.proofs.Common.{◌≡◌, ℕ, ◌+◌, ◌/◌, ◌%◌, ◌<◌, true, List, [], ◌∷◌, ◌++◌, codes, length, get_or, ltb, refl, sym, ap, ◌∙◌, subst, arith}
use Rattle.std.specs.List.{list_all}
use Rattle.std.specs.Str.{IsAscii}
use Rattle.std.proofs.lemmas.Bool.{and_parts}
use borrow.Author.Tests.{ltb-true}
use Rattle.std.proofs.lemmas.Str.{IsAscii-append}
use Rattle.std.proofs.lemmas.Str.Ascii.{IsAscii-nil, IsAscii-cons}
use Rattle.hex.specs.Hex.{encode_lower, encode_with, lower_digits}
use Rattle.hex.proofs.HexLemmas.{IsAscii-encode_with}
use Rattle.m386_trace.specs.Line.{spaced, hex1, hex8, two_digits}

-- a text whose bytes pass the test
IsAscii-from_test : (text : List ℕ) → list_all (λ b. ltb b 128) text ≡ true → IsAscii text
IsAscii-from_test [] test = IsAscii-nil
IsAscii-from_test (b ∷ bs) test =
    let parts = and_parts (ltb b 128) (list_all (λ c. ltb c 128) bs) test in
    let small : b < 128 = omega (arith, ltb-true b 128 parts.0) in
    IsAscii-cons b bs small (IsAscii-from_test bs parts.1)

IsAscii-lower_digits : IsAscii lower_digits
IsAscii-lower_digits = IsAscii-from_test lower_digits refl

-- bytes in hexadecimal digits
pub IsAscii-encode_lower : (text bytes : List ℕ) → text ≡ encode_lower bytes → IsAscii text
IsAscii-encode_lower text bytes same = subst (λ (t : List ℕ). IsAscii t) (sym same) (IsAscii-encode_with lower_digits bytes IsAscii-lower_digits)

-- eight bytes, one by one
eight : (bytes : List ℕ) → length bytes ≡ 8 → bytes ≡ get_or bytes 0 0 ∷ get_or bytes 1 0 ∷ get_or bytes 2 0 ∷ get_or bytes 3 0 ∷ get_or bytes 4 0 ∷ get_or bytes 5 0 ∷ get_or bytes 6 0 ∷ get_or bytes 7 0 ∷ []
eight [] e = absurd (omega arith)
eight (a ∷ []) e = absurd (omega arith)
eight (a ∷ b ∷ []) e = absurd (omega arith)
eight (a ∷ b ∷ c ∷ []) e = absurd (omega arith)
eight (a ∷ b ∷ c ∷ d ∷ []) e = absurd (omega arith)
eight (a ∷ b ∷ c ∷ d ∷ f ∷ []) e = absurd (omega arith)
eight (a ∷ b ∷ c ∷ d ∷ f ∷ g ∷ []) e = absurd (omega arith)
eight (a ∷ b ∷ c ∷ d ∷ f ∷ g ∷ h ∷ []) e = absurd (omega arith)
eight (a ∷ b ∷ c ∷ d ∷ f ∷ g ∷ h ∷ i ∷ []) e = refl
eight (a ∷ b ∷ c ∷ d ∷ f ∷ g ∷ h ∷ i ∷ j ∷ bytes) e = absurd (omega arith)

-- four fields and a line feed, as bytes at fixed places
abbrev pub four_fields : ℕ → ℕ → List ℕ → ℕ → List ℕ → List ℕ
four_fields tens ones a e v =
    32 ∷ tens ∷ ones ∷ 32 ∷ get_or a 0 0 ∷ get_or a 1 0 ∷ get_or a 2 0 ∷ get_or a 3 0 ∷ get_or a 4 0 ∷ get_or a 5 0 ∷ get_or a 6 0 ∷ get_or a 7 0
    ∷ 32 ∷ e ∷ 32 ∷ get_or v 0 0 ∷ get_or v 1 0 ∷ get_or v 2 0 ∷ get_or v 3 0 ∷ get_or v 4 0 ∷ get_or v 5 0 ∷ get_or v 6 0 ∷ get_or v 7 0 ∷ 10 ∷ []

four_spaced : (tens ones e : ℕ) (a v : List ℕ) → length a ≡ 8 → length v ≡ 8 → four_fields tens ones a e v ≡ spaced ((tens ∷ ones ∷ []) ∷ a ∷ (e ∷ []) ∷ v ∷ []) ++ codes "\n"
unfolding spaced
four_spaced tens ones e a v al vl =
    ap (λ (t : List ℕ). spaced ((tens ∷ ones ∷ []) ∷ t ∷ (e ∷ []) ∷ (get_or v 0 0 ∷ get_or v 1 0 ∷ get_or v 2 0 ∷ get_or v 3 0 ∷ get_or v 4 0 ∷ get_or v 5 0 ∷ get_or v 6 0 ∷ get_or v 7 0 ∷ []) ∷ []) ++ codes "\n") (sym (eight a al))
    ∙ ap (λ (t : List ℕ). spaced ((tens ∷ ones ∷ []) ∷ a ∷ (e ∷ []) ∷ t ∷ []) ++ codes "\n") (sym (eight v vl))

length-hex8 : (text : List ℕ) (n : ℕ) → text ≡ hex8 n → length text ≡ 8
unfolding hex8 encode_with
length-hex8 text n e = ap length e

-- a number below 100 in two digits, one of 32 bits in eight, one of 4 bits in one, and one of 32 bits again
pub last_fields_text : (part addr enables value e : ℕ) (a v : List ℕ) → a ≡ hex8 addr → e ∷ [] ≡ hex1 enables → v ≡ hex8 value → four_fields (48 + part / 10) (48 + part % 10) a e v ≡ spaced (two_digits part ∷ hex8 addr ∷ hex1 enables ∷ hex8 value ∷ []) ++ codes "\n"
unfolding two_digits
last_fields_text part addr enables value e a v a_is e_is v_is =
    four_spaced (48 + part / 10) (48 + part % 10) e a v (length-hex8 a addr a_is) (length-hex8 v value v_is)
    ∙ ap (λ (t : List ℕ). spaced (two_digits part ∷ t ∷ (e ∷ []) ∷ v ∷ []) ++ codes "\n") a_is
    ∙ ap (λ (t : List ℕ). spaced (two_digits part ∷ hex8 addr ∷ t ∷ v ∷ []) ++ codes "\n") e_is
    ∙ ap (λ (t : List ℕ). spaced (two_digits part ∷ hex8 addr ∷ hex1 enables ∷ t ∷ []) ++ codes "\n") v_is

-- one more field before the others
ascii_spaced : (field : List ℕ) (fields : List (List ℕ)) → IsAscii field → IsAscii (spaced fields) → IsAscii (spaced (field ∷ fields))
unfolding spaced
ascii_spaced field fields f r = IsAscii-cons 32 (field ++ spaced fields) (omega arith) (IsAscii-append field (spaced fields) f r)

ascii_two_digits : (part : ℕ) → part < 100 → IsAscii (two_digits part)
unfolding two_digits
ascii_two_digits part lt = IsAscii-cons (48 + part / 10) ((48 + part % 10) ∷ []) (omega arith) (IsAscii-cons (48 + part % 10) [] (omega arith) IsAscii-nil)

ascii_hex1 : (n : ℕ) → IsAscii (hex1 n)
unfolding hex1
ascii_hex1 n = IsAscii-cons _ [] (IsAscii-lower_digits n) IsAscii-nil

ascii_hex8 : (n : ℕ) → IsAscii (hex8 n)
unfolding hex8
ascii_hex8 n = IsAscii-encode_lower _ _ refl

pub last_fields_ascii : (part addr enables value : ℕ) → part < 100 → IsAscii (spaced (two_digits part ∷ hex8 addr ∷ hex1 enables ∷ hex8 value ∷ []) ++ codes "\n")
unfolding spaced
last_fields_ascii part addr enables value lt =
    let on_value = ascii_spaced (hex8 value) [] (ascii_hex8 value) IsAscii-nil in
    let on_enables = ascii_spaced (hex1 enables) (hex8 value ∷ []) (ascii_hex1 enables) on_value in
    let on_addr = ascii_spaced (hex8 addr) (hex1 enables ∷ hex8 value ∷ []) (ascii_hex8 addr) on_enables in
    let on_part = ascii_spaced (two_digits part) (hex8 addr ∷ hex1 enables ∷ hex8 value ∷ []) (ascii_two_digits part lt) on_addr in
    IsAscii-append (spaced (two_digits part ∷ hex8 addr ∷ hex1 enables ∷ hex8 value ∷ [])) (codes "\n") on_part (IsAscii-from_test (codes "\n") refl)
