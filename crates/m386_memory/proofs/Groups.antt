-- The bytes of an aligned group in and out of its value.
use Rattle.std.proofs.Common.{◌≡◌, ℕ, ◌+◌, ◌*◌, ◌/◌, ◌%◌, ◌^◌, ◌<◌, ◌==◌, Bool, true, false, cond, List, [], ◌∷◌, ◌++◌, bit_and, refl, sym, ◌∙◌, ap, arith, add-zero, not, set}
use Rattle.std.proofs.lemmas.Nat.{and_block, and_mask}
use Rattle.m386_base.specs.declared.ask.Ask.{Ask}
use Rattle.m386_base.specs.Bus.{mask, IsEnabled}
use Rattle.m386_base.specs.Bytes.{byte_of, bytes_of}
use Rattle.m386_memory.specs.Contents.{byte_part, value_from, group_of, group_bytes, Stand, with_bytes}

-- four bytes as one number
abbrev four : ℕ → ℕ → ℕ → ℕ → ℕ
four a b c d = ((d * 2 ^ 8 + c) * 2 ^ 8 + b) * 2 ^ 8 + a

and_four : (a b c d w x y z : ℕ) → a < 256 → b < 256 → c < 256 → w < 256 → x < 256 → y < 256 → bit_and (four a b c d) (four w x y z) ≡ four (bit_and a w) (bit_and b x) (bit_and c y) (bit_and d z)
and_four a b c d w x y z p q r s t u =
    rw (and_block 8 ((d * 2 ^ 8 + c) * 2 ^ 8 + b) ((z * 2 ^ 8 + y) * 2 ^ 8 + x) a w p s, and_block 8 (d * 2 ^ 8 + c) (z * 2 ^ 8 + y) b x q t, and_block 8 d z c y r u) refl

-- a byte, or 0 where the test holds
abbrev kept : Bool → ℕ → ℕ
kept p b = cond p 0 b

kept-and : (p : Bool) (b : ℕ) → b < 256 → bit_and (kept p b) (kept p 255) ≡ kept p b
kept-and true b h = refl
kept-and false b h = and_mask b 8 ∙ omega arith

kept-lt : (p : Bool) (b : ℕ) → b < 256 → kept p b < 256
kept-lt true b h = omega arith
kept-lt false b h = h

kept-mul : (p : Bool) (b k : ℕ) → cond p 0 (b * k) ≡ kept p b * k
kept-mul true b k = omega arith
kept-mul false b k = refl

kept-on : (p : Bool) (b : ℕ) → p ≡ false → kept p b ≡ b
kept-on true b h = cc
kept-on false b h = refl

-- the test of byte k's enable
abbrev off : ℕ → ℕ → Bool
off enables k = bit_and enables (2 ^ k) == 0

value-four : (e a b c d : ℕ) → value_from e a b c d ≡ four (kept (off e 0) a) (kept (off e 1) b) (kept (off e 2) c) (kept (off e 3) d)
value-four e a b c d =
    let i : byte_part e 0 a ≡ kept (off e 0) a * 1 = kept-mul (off e 0) a 1 in
    let j : byte_part e 1 b ≡ kept (off e 1) b * 256 = kept-mul (off e 1) b 256 in
    let k : byte_part e 2 c ≡ kept (off e 2) c * 65536 = kept-mul (off e 2) c 65536 in
    let l : byte_part e 3 d ≡ kept (off e 3) d * 16777216 = kept-mul (off e 3) d 16777216 in
    rw (i, j, k, l) (omega arith)

mask-value : (e : ℕ) → mask e ≡ value_from e 255 255 255 255
mask-value e = refl

-- a value of an aligned group has zeros for the bytes that aren't enabled
pub value_enabled : (e a b c d : ℕ) → a < 256 → b < 256 → c < 256 → d < 256 → IsEnabled e (value_from e a b c d)
value_enabled e a b c d p q r s =
    let m : mask e ≡ four (kept (off e 0) 255) (kept (off e 1) 255) (kept (off e 2) 255) (kept (off e 3) 255) = mask-value e ∙ value-four e 255 255 255 255 in
    rw (m, value-four e a b c d, and_four (kept (off e 0) a) (kept (off e 1) b) (kept (off e 2) c) (kept (off e 3) d) (kept (off e 0) 255) (kept (off e 1) 255) (kept (off e 2) 255) (kept (off e 3) 255) (kept-lt _ a p) (kept-lt _ b q) (kept-lt _ c r) (kept-lt _ 255 (omega arith)) (kept-lt _ 255 (omega arith)) (kept-lt _ 255 (omega arith)), kept-and (off e 0) a p, kept-and (off e 1) b q, kept-and (off e 2) c r, kept-and (off e 3) d s) refl

-- the bytes of two lists stand where each list's do
stand-append : (byte : ℕ → ℕ) (xs ys : List (ℕ × ℕ)) → Stand byte xs → Stand byte ys → Stand byte (xs ++ ys)
unfolding Stand
stand-append byte [] ys p q = q
stand-append byte (x ∷ xs) ys p q = (p.0, stand-append byte xs ys p.1 q)

-- byte k of an ask stands where it is enabled
stand-byte : (byte : ℕ → ℕ) (a : Ask) (k : ℕ) → (off a.enables k ≡ false → byte (a.addr + k) ≡ a.value / 2 ^ (8 * k) % 256) → Stand byte (byte_of a k)
unfolding Stand
stand-byte byte a k h = go (off a.enables k) h
  where
    go : (p : Bool) → (p ≡ false → byte (a.addr + k) ≡ a.value / 2 ^ (8 * k) % 256) → Stand byte (cond p [] ((a.addr + k, a.value / 2 ^ (8 * k) % 256) ∷ []))
    go true g = tt
    go false g = (g refl, tt)

-- the bytes of a number of four
byte-0 : (a b c d : ℕ) → a < 256 → four a b c d / 1 % 256 ≡ a
byte-0 a b c d p = omega arith

byte-1 : (a b c d : ℕ) → a < 256 → b < 256 → four a b c d / 256 % 256 ≡ b
byte-1 a b c d p q = omega arith

byte-2 : (a b c d : ℕ) → a < 256 → b < 256 → c < 256 → four a b c d / 65536 % 256 ≡ c
byte-2 a b c d p q r = omega arith

byte-3 : (a b c d : ℕ) → a < 256 → b < 256 → c < 256 → d < 256 → four a b c d / 16777216 % 256 ≡ d
byte-3 a b c d p q r s = omega arith

-- the bytes of an aligned group stand in its value
pub group_stands : (byte : ℕ → ℕ) (a : Ask) → byte a.addr < 256 → byte (a.addr + 1) < 256 → byte (a.addr + 2) < 256 → byte (a.addr + 3) < 256 → a.value ≡ group_of byte a.addr a.enables → Stand byte (bytes_of a)
unfolding bytes_of group_of
group_stands byte a p q r s v =
    let e : a.value ≡ four (kept (off a.enables 0) (byte a.addr)) (kept (off a.enables 1) (byte (a.addr + 1))) (kept (off a.enables 2) (byte (a.addr + 2))) (kept (off a.enables 3) (byte (a.addr + 3))) = v ∙ value-four a.enables (byte a.addr) (byte (a.addr + 1)) (byte (a.addr + 2)) (byte (a.addr + 3)) in
    let k0 = kept-lt (off a.enables 0) (byte a.addr) p in
    let k1 = kept-lt (off a.enables 1) (byte (a.addr + 1)) q in
    let k2 = kept-lt (off a.enables 2) (byte (a.addr + 2)) r in
    let k3 = kept-lt (off a.enables 3) (byte (a.addr + 3)) s in
    let b0 = byte-0 (kept (off a.enables 0) (byte a.addr)) (kept (off a.enables 1) (byte (a.addr + 1))) (kept (off a.enables 2) (byte (a.addr + 2))) (kept (off a.enables 3) (byte (a.addr + 3))) k0 in
    let b1 = byte-1 (kept (off a.enables 0) (byte a.addr)) (kept (off a.enables 1) (byte (a.addr + 1))) (kept (off a.enables 2) (byte (a.addr + 2))) (kept (off a.enables 3) (byte (a.addr + 3))) k0 k1 in
    let b2 = byte-2 (kept (off a.enables 0) (byte a.addr)) (kept (off a.enables 1) (byte (a.addr + 1))) (kept (off a.enables 2) (byte (a.addr + 2))) (kept (off a.enables 3) (byte (a.addr + 3))) k0 k1 k2 in
    let b3 = byte-3 (kept (off a.enables 0) (byte a.addr)) (kept (off a.enables 1) (byte (a.addr + 1))) (kept (off a.enables 2) (byte (a.addr + 2))) (kept (off a.enables 3) (byte (a.addr + 3))) k0 k1 k2 k3 in
    stand-append byte _ _ (stand-append byte _ _ (stand-append byte _ _
    (stand-byte byte a 0 (λ h. ap byte (add-zero a.addr) ∙ sym (ap (λ n. n / 1 % 256) e ∙ b0 ∙ kept-on (off a.enables 0) (byte a.addr) h)))
    (stand-byte byte a 1 (λ h. sym (ap (λ n. n / 256 % 256) e ∙ b1 ∙ kept-on (off a.enables 1) (byte (a.addr + 1)) h))))
    (stand-byte byte a 2 (λ h. sym (ap (λ n. n / 65536 % 256) e ∙ b2 ∙ kept-on (off a.enables 2) (byte (a.addr + 2)) h))))
    (stand-byte byte a 3 (λ h. sym (ap (λ n. n / 16777216 % 256) e ∙ b3 ∙ kept-on (off a.enables 3) (byte (a.addr + 3)) h)))

-- two lists of bytes are put one after the other, the later list first
with_bytes-append : (xs : List ℕ) (bs cs : List (ℕ × ℕ)) → with_bytes xs (bs ++ cs) ≡ with_bytes (with_bytes xs cs) bs
with_bytes-append xs [] cs = refl
with_bytes-append xs (b ∷ bs) cs = ap (λ ys. set ys b.0 b.1) (with_bytes-append xs bs cs)

-- what putting byte k of an ask does
pub put_one : (xs ys : List ℕ) (a : Ask) (k place byte : ℕ) (p : Bool) → p ≡ not (off a.enables k) → place ≡ a.addr + k → byte ≡ a.value / 2 ^ (8 * k) % 256 → ys ≡ cond p (set xs place byte) xs → ys ≡ with_bytes xs (byte_of a k)
put_one xs ys a k place byte p e f g h = go (off a.enables k) (h ∙ ap (λ q. cond q (set xs place byte) xs) e)
  where
    go : (q : Bool) → ys ≡ cond (not q) (set xs place byte) xs → ys ≡ with_bytes xs (cond q [] ((a.addr + k, a.value / 2 ^ (8 * k) % 256) ∷ []))
    go true i = i
    go false i = rw (← f, ← g) i

-- the four bytes of an ask, the last one put first
pub put_all : (xs x3 x2 x1 x0 : List ℕ) (a : Ask) → x3 ≡ with_bytes xs (byte_of a 3) → x2 ≡ with_bytes x3 (byte_of a 2) → x1 ≡ with_bytes x2 (byte_of a 1) → x0 ≡ with_bytes x1 (byte_of a 0) → x0 ≡ with_bytes xs (bytes_of a)
unfolding bytes_of
put_all xs x3 x2 x1 x0 a p q r s =
    rw (with_bytes-append xs (byte_of a 0 ++ byte_of a 1 ++ byte_of a 2) (byte_of a 3), with_bytes-append _ (byte_of a 0 ++ byte_of a 1) (byte_of a 2), with_bytes-append _ (byte_of a 0) (byte_of a 1), ← p, ← q, ← r) s

nought : (p : Bool) → cond {A = ℕ} p 0 0 ≡ 0
nought true = refl
nought false = refl

-- an aligned group where each byte is 0
pub group_of-zeros : (addr enables : ℕ) → 0 ≡ group_of (λ a. 0) addr enables
unfolding group_of
group_of-zeros addr enables =
    rw (nought (off enables 0), nought (off enables 1), nought (off enables 2), nought (off enables 3)) refl
