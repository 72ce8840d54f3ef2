-- A read gives one value: that of the bytes that stand at its places.
use Rattle.std.proofs.Common.{◌≡◌, ℕ, ◌+◌, ◌*◌, ◌/◌, ◌%◌, ◌^◌, ◌<◌, ◌==◌, Bool, true, false, cond, List, [], ◌∷◌, ◌++◌, bit_and, refl, sym, ◌∙◌, ap, subst, arith, add-zero}
use Rattle.std.proofs.lemmas.Nat.{and_block, and_mask}
use Rattle.std.specs.Int.Bits.{and_zero_r}
use Rattle.m386_base.specs.declared.ask.Ask.{Ask}
use Rattle.m386_base.specs.Bus.{mask, IsAsk, IsEnabled, cycle_of}
use Rattle.m386_base.specs.Bytes.{byte_of, bytes_of}
use Rattle.m386_base.specs.Phrase.{answer_of}
use Rattle.m386_memory.specs.Contents.{Contents, group_of, Stand}
use Rattle.m386_memory.specs.History.{byte_after}
use Rattle.m386_base.specs.declared.ask.Cycle.{Cycle}

-- four bytes as one number
abbrev four : ℕ → ℕ → ℕ → ℕ → ℕ
four a b c d = ((d * 2 ^ 8 + c) * 2 ^ 8 + b) * 2 ^ 8 + a

four_same : {a b c d w x y z : ℕ} → a ≡ w → b ≡ x → c ≡ y → d ≡ z → four a b c d ≡ four w x y z
four_same p q r s = rw (p, q, r, s) refl

and_four : (a b c d w x y z : ℕ) → a < 256 → b < 256 → c < 256 → w < 256 → x < 256 → y < 256 → bit_and (four a b c d) (four w x y z) ≡ four (bit_and a w) (bit_and b x) (bit_and c y) (bit_and d z)
and_four a b c d w x y z p q r s t u =
    rw (and_block 8 ((d * 2 ^ 8 + c) * 2 ^ 8 + b) ((z * 2 ^ 8 + y) * 2 ^ 8 + x) a w p s, and_block 8 (d * 2 ^ 8 + c) (z * 2 ^ 8 + y) b x q t, and_block 8 d z c y r u) refl

-- the test of byte k's enable
abbrev off : ℕ → ℕ → Bool
off enables k = bit_and enables (2 ^ k) == 0

-- a number, or 0 where the test holds
abbrev kept : Bool → ℕ → ℕ
kept p b = cond p 0 b

kept_less : (p : Bool) → kept p 255 < 256
kept_less true = omega arith
kept_less false = omega arith

kept_times : (p : Bool) (b k : ℕ) → kept p (b * k) ≡ kept p b * k
kept_times true b k = omega arith
kept_times false b k = refl

-- what the mask of a byte leaves of a number
kept_of : (p : Bool) (x : ℕ) → bit_and x (kept p 255) ≡ kept p (x % 256)
kept_of true x = and_zero_r x
kept_of false x = and_mask x 8

mask_four : (e : ℕ) → mask e ≡ four (kept (off e 0) 255) (kept (off e 1) 255) (kept (off e 2) 255) (kept (off e 3) 255)
mask_four e =
    let i : kept (off e 1) 0xff00 ≡ kept (off e 1) 255 * 256 = kept_times (off e 1) 255 256 in
    let j : kept (off e 2) 0xff0000 ≡ kept (off e 2) 255 * 65536 = kept_times (off e 2) 255 65536 in
    let k : kept (off e 3) 0xff000000 ≡ kept (off e 3) 255 * 16777216 = kept_times (off e 3) 255 16777216 in
    omega (arith, i, j, k)

-- a value with nothing in the bytes that aren't enabled is that of the others
enabled_four : (e v : ℕ) → IsEnabled e v → v ≡ four (kept (off e 0) (v / 1 % 256)) (kept (off e 1) (v / 256 % 256)) (kept (off e 2) (v / 65536 % 256)) (kept (off e 3) (v / 16777216 % 256))
enabled_four e v h =
    let i : v ≡ four (v / 1 % 256) (v / 256 % 256) (v / 65536 % 256) (v / 16777216) = omega arith in
    let a : bit_and v (mask e) ≡ bit_and (four (v / 1 % 256) (v / 256 % 256) (v / 65536 % 256) (v / 16777216)) (four (kept (off e 0) 255) (kept (off e 1) 255) (kept (off e 2) 255) (kept (off e 3) 255)) = ap (λ n. bit_and n (mask e)) i ∙ ap (bit_and (four (v / 1 % 256) (v / 256 % 256) (v / 65536 % 256) (v / 16777216))) (mask_four e) in
    let b = and_four (v / 1 % 256) (v / 256 % 256) (v / 65536 % 256) (v / 16777216) (kept (off e 0) 255) (kept (off e 1) 255) (kept (off e 2) 255) (kept (off e 3) 255) (omega arith) (omega arith) (omega arith) (kept_less (off e 0)) (kept_less (off e 1)) (kept_less (off e 2)) in
    sym h ∙ a ∙ b ∙ four_same (kept_of (off e 0) (v / 1 % 256) ∙ ap (kept (off e 0)) (omega arith)) (kept_of (off e 1) (v / 256 % 256) ∙ ap (kept (off e 1)) (omega arith)) (kept_of (off e 2) (v / 65536 % 256) ∙ ap (kept (off e 2)) (omega arith)) (kept_of (off e 3) (v / 16777216))

-- what stands in two lists of bytes stands in each
front_stands : (byte : ℕ → ℕ) (xs ys : List (ℕ × ℕ)) → Stand byte (xs ++ ys) → Stand byte xs
unfolding Stand
front_stands byte [] ys h = tt
front_stands byte (x ∷ xs) ys h = (h.0, front_stands byte xs ys h.1)

rest_stands : (byte : ℕ → ℕ) (xs ys : List (ℕ × ℕ)) → Stand byte (xs ++ ys) → Stand byte ys
unfolding Stand
rest_stands byte [] ys h = h
rest_stands byte (x ∷ xs) ys h = rest_stands byte xs ys h.1

stands_at : (byte : ℕ → ℕ) (p : Bool) (place x : ℕ) → Stand byte (cond p [] ((place, x) ∷ [])) → kept p x ≡ kept p (byte place)
unfolding Stand
stands_at byte true place x h = refl
stands_at byte false place x h = sym h.0

part_times : (p : Bool) (b k : ℕ) → cond p 0 (b * k) ≡ kept p b * k
part_times true b k = omega arith
part_times false b k = refl

-- a value whose bytes stand at their places is the one that stands there
pub value_stands : (byte : ℕ → ℕ) (a : Ask) → IsEnabled a.enables a.value → Stand byte (bytes_of a) → a.value ≡ group_of byte a.addr a.enables
unfolding bytes_of group_of
value_stands byte a enabled h =
    let e : ℕ = a.enables in
    let h012 = front_stands byte (byte_of a 0 ++ byte_of a 1 ++ byte_of a 2) (byte_of a 3) h in
    let h01 = front_stands byte (byte_of a 0 ++ byte_of a 1) (byte_of a 2) h012 in
    let b0 = stands_at byte (off e 0) (a.addr + 0) (a.value / 1 % 256) (front_stands byte (byte_of a 0) (byte_of a 1) h01) in
    let b1 = stands_at byte (off e 1) (a.addr + 1) (a.value / 256 % 256) (rest_stands byte (byte_of a 0) (byte_of a 1) h01) in
    let b2 = stands_at byte (off e 2) (a.addr + 2) (a.value / 65536 % 256) (rest_stands byte (byte_of a 0 ++ byte_of a 1) (byte_of a 2) h012) in
    let b3 = stands_at byte (off e 3) (a.addr + 3) (a.value / 16777216 % 256) (rest_stands byte (byte_of a 0 ++ byte_of a 1 ++ byte_of a 2) (byte_of a 3) h) in
    let f = enabled_four e a.value enabled ∙ four_same (b0 ∙ ap (λ n. kept (off e 0) (byte n)) (add-zero a.addr)) b1 b2 b3 in
    let i = part_times (off e 0) (byte a.addr) 1 in
    let j = part_times (off e 1) (byte (a.addr + 1)) 256 in
    let k = part_times (off e 2) (byte (a.addr + 2)) 65536 in
    let l = part_times (off e 3) (byte (a.addr + 3)) 16777216 in
    f ∙ sym (rw (i, j, k, l) (omega arith))

read_cycle : (b : Bool) (w : Ask) (v : ℕ) → b ≡ false → cond b w (record w { value = v }) ≡ record w { value = v }
read_cycle true w v e = let d : true ≡ false = e in cc
read_cycle false w v e = refl

-- the answer to a read is the value that stands at its place
pub one_answer : (first : Contents) (older : List Cycle) (w a : Ask) → w.write ≡ false → cycle_of w (answer_of a) ≡ a → IsAsk a → (a.write ≡ false → Stand (byte_after first older a.space) (bytes_of a)) → answer_of a ≡ group_of (byte_after first older w.space) w.addr w.enables
unfolding cycle_of
one_answer first older w a r e lawful stands =
    let is : a ≡ record w { value = answer_of a } = sym e ∙ read_cycle w.write w (answer_of a) r in
    let k : IsAsk (record w { value = answer_of a }) = subst IsAsk is lawful in
    let h : w.write ≡ false → Stand (byte_after first older w.space) (bytes_of (record w { value = answer_of a })) = subst (λ (b : Ask). b.write ≡ false → Stand (byte_after first older b.space) (bytes_of b)) is stands in
    value_stands (byte_after first older w.space) (record w { value = answer_of a }) k.value (h r)
