-- Numbers and displacements in their full size are the same numbers and displacements.
use Rattle.std.proofs.Common.{◌≡◌, ◌≢◌, ℕ, zero, suc, ◌+◌, ◌-◌, ◌%◌, ◌^◌, ◌<◌, ◌≤◌, Bool, true, false, cond, List, [], ◌∷◌, length, take, refl, sym, ◌∙◌, ap, arith, subst, ◌&&◌, nat_lt}
use Rattle.std.specs.Prelude.{Option, Some, None, ◌==◌}
use Rattle.std.proofs.lemmas.Bool.{ltb-true, ltb-false}
use Rattle.std.proofs.lemmas.Bool.Decides.{nat_tests}
use Rattle.m386_base.specs.declared.number.Width.{Width}
use Rattle.m386_base.specs.declared.number.Width.TheVariants.{W8, W16, W32}
use Rattle.m386_opmap.specs.declared.op.Arg.{Arg}
use Rattle.m386_opmap.specs.Forms.{Form, absent, register, based, indexed, top_bits, middle_bits, low, width_bits, width_bytes, number, extended, displacement, displacement_length, base_of, index_of, scale_of}
use Rattle.m386_opmap.proofs.Numbers.{extended_whole}
use Rattle.m386_encode.specs.Candidates.{low_bytes}
use Rattle.m386_encode.specs.Wide.{HasWholeDisplacement}
use Rattle.m386_encode.proofs.Octets.{lowest_are, lowest_size}
use Rattle.m386_encode.proofs.Places.{memory}
use Rattle.m386_encode.proofs.Values.{Bytes, later_bytes}

-- a number of as many bytes as a width has
pub number_again : (w : Width) (v : ℕ) → v < 2 ^ width_bits w → number (take (width_bytes w) (low_bytes (width_bytes w) v)) ≡ v
unfolding number low_bytes
number_again W8 v h = omega arith
number_again W16 v h = omega arith
number_again W32 v h = omega arith

extended_by : (c : Bool) (w : Width) (n : ℕ) → n < 256 → cond c n (n + (2 ^ width_bits w - 2 ^ 8)) < 2 ^ width_bits w
extended_by true W8 n h = omega arith
extended_by true W16 n h = omega arith
extended_by true W32 n h = omega arith
extended_by false W8 n h = omega arith
extended_by false W16 n h = omega arith
extended_by false W32 n h = omega arith

-- a byte with a sign above it fits the width
pub extended_fits : (w : Width) (n : ℕ) → n < 256 → extended W8 w n < 2 ^ width_bits w
unfolding extended
extended_fits w n h = extended_by (nat_lt n (2 ^ 7)) w n h

word_again : (n : ℕ) → n < 256 → extended W16 W32 (number (low_bytes 2 (extended W8 W32 n))) ≡ extended W8 W32 n
unfolding extended number low_bytes
word_again n h = grind (arith, nat_tests)

byte_again : (n : ℕ) → n < 256 → extended W8 W32 (number (low_bytes 1 (extended W8 W32 n))) ≡ extended W8 W32 n
unfolding extended number low_bytes
byte_again n h = grind (arith, nat_tests)

-- a distance of a byte, in full
pub distance_again : (w : Width) (n : ℕ) → n < 256 → extended w W32 (number (take (width_bytes w) (low_bytes (width_bytes w) (extended W8 W32 n)))) ≡ extended W8 W32 n
unfolding low_bytes
distance_again W8 n h = byte_again n h
distance_again W16 n h = word_again n h
distance_again W32 n h = ap (extended W32 W32) (number_again W32 (extended W8 W32 n) (extended_fits W32 n h)) ∙ extended_whole (extended W8 W32 n)

-- What a ModRM byte names, with a displacement of four bytes where it is memory.
pub record Whole (seg : Option ℕ) (mid : ℕ) (place : Option Arg) : Type 0 where
  pub bytes : List ℕ
  pub form : Form seg bytes mid place
  pub displaced : HasWholeDisplacement form
  pub are : Bytes bytes

-- a choice of three sizes
abbrev sizes : Bool → Bool → Bool → ℕ
sizes a b c = cond a (cond b 4 0) (cond c 1 4)

size_by : (a b c : Bool) → 1 < sizes a b c → sizes a b c ≡ 4
size_by true true c h = refl
size_by true false c h = absurd (omega arith)
size_by false b true h = absurd (omega arith)
size_by false b false h = refl

base_by : (a b c : Bool) (x : ℕ) → sizes a b c ≤ 1 → cond (a && b) None (Some x) ≡ Some x
base_by true true c x h = absurd (omega arith)
base_by true false c x h = refl
base_by false b c x h = refl

-- more than one byte of displacement are four
long_size : (t b : ℕ) → 1 < displacement_length t b → displacement_length t b ≡ 4
long_size t b h = size_by (t == 0) (b == 5) (t == 1) h

-- under at most one there is a base
short_base : (t b : ℕ) → displacement_length t b ≤ 1 → base_of t b ≡ Some b
short_base t b h = base_by (t == 0) (b == 5) (t == 1) b h

-- a displacement of at most one byte, in four
displaced_again : (ds : List ℕ) → Bytes ds → length ds ≤ 1 → displacement (low_bytes 4 (displacement ds)) ≡ displacement ds
unfolding displacement low_bytes number
displaced_again [] f h = refl
displaced_again (d ∷ []) f h = number_again W32 (extended W8 W32 (number (d ∷ []))) (extended_fits W32 (number (d ∷ [])) (omega (arith, f 0 (omega arith))))
displaced_again (d ∷ e ∷ ds) f h = absurd (omega arith)

-- bytes before others
pub bytes_next : (b : ℕ) (bs : List ℕ) → b < 256 → Bytes bs → Bytes (b ∷ bs)
bytes_next b bs h f zero k = h
bytes_next b bs h f (suc i) k = f i (omega arith)

-- mod 2 of a ModRM byte in place of its own
abbrev far : ℕ → ℕ
far m = 128 + m % 64

whole_based : (seg : Option ℕ) (m v : ℕ) → low m ≢ 4 → Whole seg (middle_bits m) (Some (memory seg (Some (low m)) None 1 (displacement (low_bytes 4 v))))
whole_based seg m v n =
    let ds : List ℕ = low_bytes 4 v in
    let et : top_bits (far m) ≡ 2 = omega arith in
    let em : middle_bits (far m) ≡ middle_bits m = omega arith in
    let el : low (far m) ≡ low m = omega arith in
    let size : length ds ≡ displacement_length (top_bits (far m)) (low (far m)) = lowest_size 4 v ∙ sym (ap (λ t. displacement_length t (low (far m))) et) in
    let there : base_of (top_bits (far m)) (low (far m)) ≡ Some (low m) = ap (λ t. base_of t (low (far m))) et ∙ ap (λ b. base_of 2 b) el in
    let P : ℕ → Type 0 = λ y. Whole seg y (Some (memory seg (Some (low m)) None 1 (displacement ds))) in
    let Q : Option ℕ → Type 0 = λ b. Whole seg (middle_bits (far m)) (Some (memory seg b None 1 (displacement ds))) in
    let w : Q (base_of (top_bits (far m)) (low (far m))) = record {
      bytes = far m ∷ ds;
      form = based (far m) ds (omega (arith, et)) (λ e. n (sym el ∙ e)) size;
      displaced = lowest_size 4 v;
      are = bytes_next (far m) ds (omega arith) (lowest_are 4 v);
    } in
    subst P em (subst Q there w)

whole_indexed : (seg : Option ℕ) (m s v : ℕ) → low m ≡ 4 → s < 256 → Whole seg (middle_bits m) (Some (memory seg (Some (low s)) (index_of s) (scale_of s) (displacement (low_bytes 4 v))))
whole_indexed seg m s v l h =
    let ds : List ℕ = low_bytes 4 v in
    let et : top_bits (far m) ≡ 2 = omega arith in
    let em : middle_bits (far m) ≡ middle_bits m = omega arith in
    let el : low (far m) ≡ low m = omega arith in
    let size : length ds ≡ displacement_length (top_bits (far m)) (low s) = lowest_size 4 v ∙ sym (ap (λ t. displacement_length t (low s)) et) in
    let there : base_of (top_bits (far m)) (low s) ≡ Some (low s) = ap (λ t. base_of t (low s)) et in
    let P : ℕ → Type 0 = λ y. Whole seg y (Some (memory seg (Some (low s)) (index_of s) (scale_of s) (displacement ds))) in
    let Q : Option ℕ → Type 0 = λ b. Whole seg (middle_bits (far m)) (Some (memory seg b (index_of s) (scale_of s) (displacement ds))) in
    let w : Q (base_of (top_bits (far m)) (low s)) = record {
      bytes = far m ∷ s ∷ ds;
      form = indexed (far m) s ds (omega (arith, et)) (el ∙ l) size;
      displaced = lowest_size 4 v;
      are = bytes_next (far m) (s ∷ ds) (omega arith) (bytes_next s ds h (lowest_are 4 v));
    } in
    subst P em (subst Q there w)

based_either : (long : Bool) (seg : Option ℕ) (m : ℕ) (ds : List ℕ) → nat_lt 1 (length ds) ≡ long → Bytes (m ∷ ds) → (t : top_bits m ≢ 3) (n : low m ≢ 4) (h : length ds ≡ displacement_length (top_bits m) (low m)) →
    Whole seg (middle_bits m) (Some (memory seg (base_of (top_bits m) (low m)) None 1 (displacement ds)))
based_either true seg m ds e f t n h =
    let more : 1 < displacement_length (top_bits m) (low m) = omega (arith, h, ltb-true 1 (length ds) e) in
    record { bytes = m ∷ ds; form = based m ds t n h; displaced = h ∙ long_size (top_bits m) (low m) more; are = f }
based_either false seg m ds e f t n h =
    let few : length ds ≤ 1 = ltb-false 1 (length ds) e in
    let there = short_base (top_bits m) (low m) (omega (arith, h, few)) in
    let P : Option ℕ → Type 0 = λ b. Whole seg (middle_bits m) (Some (memory seg b None 1 (displacement ds))) in
    let Q : ℕ → Type 0 = λ d. Whole seg (middle_bits m) (Some (memory seg (Some (low m)) None 1 d)) in
    subst P (sym there) (subst Q (displaced_again ds (later_bytes m ds f) few) (whole_based seg m (displacement ds) n))

indexed_either : (long : Bool) (seg : Option ℕ) (m s : ℕ) (ds : List ℕ) → nat_lt 1 (length ds) ≡ long → Bytes (m ∷ s ∷ ds) → (t : top_bits m ≢ 3) (l : low m ≡ 4) (h : length ds ≡ displacement_length (top_bits m) (low s)) →
    Whole seg (middle_bits m) (Some (memory seg (base_of (top_bits m) (low s)) (index_of s) (scale_of s) (displacement ds)))
indexed_either true seg m s ds e f t l h =
    let more : 1 < displacement_length (top_bits m) (low s) = omega (arith, h, ltb-true 1 (length ds) e) in
    record { bytes = m ∷ s ∷ ds; form = indexed m s ds t l h; displaced = h ∙ long_size (top_bits m) (low s) more; are = f }
indexed_either false seg m s ds e f t l h =
    let few : length ds ≤ 1 = ltb-false 1 (length ds) e in
    let there = short_base (top_bits m) (low s) (omega (arith, h, few)) in
    let P : Option ℕ → Type 0 = λ b. Whole seg (middle_bits m) (Some (memory seg b (index_of s) (scale_of s) (displacement ds))) in
    let Q : ℕ → Type 0 = λ d. Whole seg (middle_bits m) (Some (memory seg (Some (low s)) (index_of s) (scale_of s) d)) in
    subst P (sym there) (subst Q (displaced_again ds (later_bytes s ds (later_bytes m (s ∷ ds) f)) few) (whole_indexed seg m s (displacement ds) l (f 1 (omega arith))))

-- what a ModRM byte names has bytes with a whole displacement
pub form_whole : (seg : Option ℕ) (bs : List ℕ) (mid : ℕ) (place : Option Arg) → Bytes bs → Form seg bs mid place → Whole seg mid place
form_whole seg _ _ _ f absent = record { bytes = []; form = absent; displaced = tt; are = f }
form_whole seg _ _ _ f (register m t) = record { bytes = m ∷ []; form = register m t; displaced = tt; are = f }
form_whole seg _ _ _ f (based m ds t n h) = based_either (nat_lt 1 (length ds)) seg m ds refl f t n h
form_whole seg _ _ _ f (indexed m s ds t l h) = indexed_either (nat_lt 1 (length ds)) seg m s ds refl f t l h
