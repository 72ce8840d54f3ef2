-- A flags image has NT only where a cycle that read it has.
use Rattle.std.proofs.Common.{arith, ◌≡◌, ℕ, zero, suc, ◌+◌, ◌-◌, ◌*◌, ◌/◌, ◌%◌, ◌^◌, ◌<◌, ◌==◌, ◌||◌, ◌⊎◌, ◌∙◌, not, inl, inr, refl, sym, ap, subst, List, [], ◌∷◌, length, Bool, true, false, eq-eqb, bit_or, bit_and, nat_le}
use Rattle.std.specs.List.{list_any}
use Rattle.std.proofs.lemmas.Bool.{eqb-true}
use Rattle.std.proofs.lemmas.Nat.{and_or_apart}
use Rattle.std.proofs.lemmas.Nat.Bits.{and_high}
use Rattle.m386_base.specs.declared.ask.Ask.{Ask}
use Rattle.m386_base.specs.declared.ask.Role.TheVariants.{Flags}
use Rattle.m386_base.specs.declared.ask.Space.TheVariants.{Memory}
use Rattle.m386_base.specs.declared.split.Piece.{Piece}
use Rattle.m386_base.specs.Bus.{cycle_of}
use Rattle.m386_base.specs.Bytes.{Has, bytes_of, has_nt, is_nt_byte}
use Rattle.m386_base.specs.Phrase.{Phrase, ◌>>=◌}
use Rattle.m386_base.specs.Plain.{Plain}
use Rattle.m386_base.specs.Split.{IsLength, byte, gather_of, lanes}
use Rattle.m386_base.proofs.Moved.{Shapes, OfEach, of_each, shaped, gather_0_1, gather_0_2, gather_0_4, gather_0_8, gather_0_3, gather_0_6, gather_0_12, gather_0_14, gather_0_15, gather_1_1, gather_3_1, gather_2_3, gather_1_7}
use Rattle.m386_base.proofs.Plain.{plain_bind, plain_within}
use Rattle.m386_state.specs.declared.proc.Proc.{Proc}
use Rattle.m386_state.specs.declared.segment.TableReg.{TableReg}
use Rattle.m386_access.specs.Access.{memory_pieces, read_ask, reads}
use Rattle.m386_access.specs.Ordinary.{Ordinary, Reads, Keeps, has_nested, is_nested, popped}
use Rattle.m386_access.proofs.Phrases.{few_pieces}

zero_bit : (n : ℕ) → n < 2 → (n == 1) ≡ false → n ≡ 0
zero_bit zero l h = refl
zero_bit (suc zero) l h = cc
zero_bit (suc (suc n)) l h = absurd (omega arith)

bit_14 : (n : ℕ) → bit_and n 0x4000 ≡ n / 2 ^ 14 % 2 * 2 ^ 14
bit_14 n = and_high n 1 14

same_bit : (n m : ℕ) → bit_and n 0x4000 ≡ bit_and m 0x4000 → has_nested n ≡ has_nested m
same_bit n m h = let k : n / 2 ^ 14 % 2 * 2 ^ 14 ≡ m / 2 ^ 14 % 2 * 2 ^ 14 = sym (bit_14 n) ∙ h ∙ bit_14 m in let z : n / 2 ^ 14 % 2 ≡ m / 2 ^ 14 % 2 = omega (arith, k) in ap (λ x. x == 1) z

or_nested : (a b : ℕ) → has_nested (bit_or a b) ≡ true → (has_nested a ≡ true) ⊎ (has_nested b ≡ true)
or_nested a b h = go (has_nested b) refl
  where
    go : (c : Bool) → has_nested b ≡ c → (has_nested a ≡ true) ⊎ (has_nested b ≡ true)
    go true e = inr e
    go false e =
        let z : b / 2 ^ 14 % 2 ≡ 0 = zero_bit (b / 2 ^ 14 % 2) (omega arith) e in
        let k : bit_and b 0x4000 ≡ 0 = bit_14 b ∙ ap (λ x. x * 2 ^ 14) z in
        inl (sym (same_bit (bit_or a b) a (and_or_apart 0x4000 a b k)) ∙ h)

or_right : (a b : Bool) → b ≡ true → (a || b) ≡ true
or_right true b h = refl
or_right false b h = h

-- a byte at place 1 of the access with bit 6 set is one with NT
nt_here : (part first : ℕ) (x : ℕ × ℕ) (a b : ℕ) → x.0 ≡ a → x.1 ≡ b → part + (a - first) ≡ 1 → b / 2 ^ 6 % 2 ≡ 1 → is_nt_byte part first x ≡ true
nt_here part first x a b e f p q =
    let i : (part + (x.0 - first) == 1) ≡ true = eq-eqb _ _ (subst (λ y. part + (y - first) ≡ 1) (sym e) p) in
    let r : x.1 / 2 ^ 6 % 2 ≡ 1 = subst (λ y. y / 2 ^ 6 % 2 ≡ 1) (sym f) q in
    let j : not (bit_and x.1 0x40 == 0) ≡ true = ap (λ y. not (y == 0)) (and_high x.1 1 6 ∙ ap (λ y. y * 2 ^ 6) r) in
    rw (i, j) refl

nt_in : (part first : ℕ) (xs : List (ℕ × ℕ)) (a b : ℕ) → Has xs a b → part + (a - first) ≡ 1 → b / 2 ^ 6 % 2 ≡ 1 → list_any (is_nt_byte part first) xs ≡ true
nt_in part first [] a b h p q = absurd h
nt_in part first (x ∷ xs) a b (inl e) p q = rw (nt_here part first x a b e.0 e.1 p q) refl
nt_in part first (x ∷ xs) a b (inr h) p q = or_right (is_nt_byte part first x) _ (nt_in part first xs a b h p q)

nt_bit : (w b0 b1 r : ℕ) → b0 < 256 → b1 < 256 → w ≡ b0 + b1 * 2 ^ 8 + r * 2 ^ 16 → has_nested w ≡ true → b1 / 2 ^ 6 % 2 ≡ 1
nt_bit w b0 b1 r l m e h = let k : w / 2 ^ 14 % 2 ≡ 1 = eqb-true _ _ h in omega arith

no_bit : (w b0 r : ℕ) → b0 < 256 → w ≡ b0 + r * 2 ^ 16 → has_nested w ≡ true → ⊥
no_bit w b0 r l e h = let k : w / 2 ^ 14 % 2 ≡ 1 = eqb-true _ _ h in absurd (omega arith)

-- a group of flags that was read
abbrev flags_cycle : ℕ → ℕ → ℕ → ℕ → Ask
flags_cycle place enables addr value = record (read_ask Flags false (shaped addr place enables)) { value = value }

-- a group of flags by its place and its enables: where what it brings has NT, the cycle has
abbrev NtRead : ℕ → ℕ → Type 0
NtRead place enables = (addr value : ℕ) → has_nested (gather_of (shaped addr place enables) value) ≡ true → has_nt (flags_cycle place enables addr value) ≡ true

nt_0_1 : NtRead 0 1
unfolding lanes
nt_0_1 addr value h = absurd (no_bit _ (byte value 0) 0 (omega arith) (rw (gather_0_1 addr value) (omega arith)) h)

nt_0_2 : NtRead 0 2
unfolding lanes
nt_0_2 addr value h = absurd (no_bit _ (byte value 1) 0 (omega arith) (rw (gather_0_2 addr value) (omega arith)) h)

nt_0_4 : NtRead 0 4
unfolding lanes
nt_0_4 addr value h = absurd (no_bit _ (byte value 2) 0 (omega arith) (rw (gather_0_4 addr value) (omega arith)) h)

nt_0_8 : NtRead 0 8
unfolding lanes
nt_0_8 addr value h = absurd (no_bit _ (byte value 3) 0 (omega arith) (rw (gather_0_8 addr value) (omega arith)) h)

nt_3_1 : NtRead 3 1
unfolding lanes
nt_3_1 addr value h = absurd (no_bit _ 0 (byte value 0 * 2 ^ 8) (omega arith) (rw (gather_3_1 addr value) (omega arith)) h)

nt_2_3 : NtRead 2 3
unfolding lanes
nt_2_3 addr value h = absurd (no_bit _ 0 (byte value 0 + byte value 1 * 2 ^ 8) (omega arith) (rw (gather_2_3 addr value) (omega arith)) h)

nt_0_3 : NtRead 0 3
unfolding lanes has_nt bytes_of
nt_0_3 addr value h = nt_in 0 (addr + 0) (bytes_of (flags_cycle 0 3 addr value)) (addr + 1) (byte value 1) (inr (inl (refl, refl))) (omega arith) (nt_bit _ (byte value 0) (byte value 1) 0 (omega arith) (omega arith) (rw (gather_0_3 addr value) (omega arith)) h)

nt_0_6 : NtRead 0 6
unfolding lanes has_nt bytes_of
nt_0_6 addr value h = nt_in 0 (addr + 1) (bytes_of (flags_cycle 0 6 addr value)) (addr + 2) (byte value 2) (inr (inl (refl, refl))) (omega arith) (nt_bit _ (byte value 1) (byte value 2) 0 (omega arith) (omega arith) (rw (gather_0_6 addr value) (omega arith)) h)

nt_0_12 : NtRead 0 12
unfolding lanes has_nt bytes_of
nt_0_12 addr value h = nt_in 0 (addr + 2) (bytes_of (flags_cycle 0 12 addr value)) (addr + 3) (byte value 3) (inr (inl (refl, refl))) (omega arith) (nt_bit _ (byte value 2) (byte value 3) 0 (omega arith) (omega arith) (rw (gather_0_12 addr value) (omega arith)) h)

nt_0_14 : NtRead 0 14
unfolding lanes has_nt bytes_of
nt_0_14 addr value h = nt_in 0 (addr + 1) (bytes_of (flags_cycle 0 14 addr value)) (addr + 2) (byte value 2) (inr (inl (refl, refl))) (omega arith) (nt_bit _ (byte value 1) (byte value 2) (byte value 3) (omega arith) (omega arith) (rw (gather_0_14 addr value) (omega arith)) h)

nt_0_15 : NtRead 0 15
unfolding lanes has_nt bytes_of
nt_0_15 addr value h = nt_in 0 (addr + 0) (bytes_of (flags_cycle 0 15 addr value)) (addr + 1) (byte value 1) (inr (inl (refl, refl))) (omega arith) (nt_bit _ (byte value 0) (byte value 1) (byte value 2 + byte value 3 * 2 ^ 8) (omega arith) (omega arith) (rw (gather_0_15 addr value) (omega arith)) h)

nt_1_1 : NtRead 1 1
unfolding lanes has_nt bytes_of
nt_1_1 addr value h = nt_in 1 (addr + 0) (bytes_of (flags_cycle 1 1 addr value)) (addr + 0) (byte value 0) (inl (refl, refl)) (omega arith) (nt_bit _ 0 (byte value 0) 0 (omega arith) (omega arith) (rw (gather_1_1 addr value) (omega arith)) h)

nt_1_7 : NtRead 1 7
unfolding lanes has_nt bytes_of
nt_1_7 addr value h = nt_in 1 (addr + 0) (bytes_of (flags_cycle 1 7 addr value)) (addr + 0) (byte value 0) (inl (refl, refl)) (omega arith) (nt_bit _ 0 (byte value 0) (byte value 1 + byte value 2 * 2 ^ 8) (omega arith) (omega arith) (rw (gather_1_7 addr value) (omega arith)) h)

nt_shapes : Shapes NtRead
nt_shapes = record { at_0_1 = nt_0_1; at_0_2 = nt_0_2; at_0_4 = nt_0_4; at_0_8 = nt_0_8; at_0_3 = nt_0_3; at_0_6 = nt_0_6; at_0_12 = nt_0_12; at_0_14 = nt_0_14; at_0_15 = nt_0_15; at_1_1 = nt_1_1; at_3_1 = nt_3_1; at_2_3 = nt_2_3; at_1_7 = nt_1_7 }

-- where the image has NT, a cycle that read it has
abbrev pub Popped : List Ask → ℕ → Type 0
Popped us image = has_nested image ≡ true → popped us ≡ true

flag_reads : (gdt : TableReg) (ps : List Piece) (value : ℕ) (ts : List Ask) → Popped ts value → OfEach NtRead ps → Plain (length ps) (Ordinary gdt) Popped ts (reads Flags value ps)
unfolding reads ◌>>=◌ Plain cycle_of
flag_reads gdt [] value ts h s = h
flag_reads gdt (p ∷ ps) value ts h s = (Reads refl refl refl, λ v. flag_reads gdt ps _ _ (λ k. go v (or_nested value (gather_of p v) k)) s.1)
  where
    go : (v : ℕ) → (has_nested value ≡ true) ⊎ (has_nested (gather_of p v) ≡ true) → (has_nt (record (read_ask Flags false p) { value = v }) || popped ts) ≡ true
    go v (inl a) = or_right (has_nt (record (read_ask Flags false p) { value = v })) _ (h a)
    go v (inr b) = rw (s.0 p.addr v b) refl

-- A flags image read, and what follows.
pub flags_then : {B : Type 0} (gdt : TableReg) (n : ℕ) (ends : List Ask → B → Type 0) (ts : List Ask) (at len : ℕ) (f : ℕ → Phrase B) → nat_le 2 n ≡ true → IsLength len → ((us : List Ask) (v : ℕ) → Popped us v → Plain (n - 2) (Ordinary gdt) ends us (f v)) → Plain n (Ordinary gdt) ends ts (reads Flags 0 (memory_pieces at len) >>= f)
flags_then gdt n ends ts at len f l i k =
    plain_bind 2 n (Ordinary gdt) Popped ends ts _ f (grind (arith, l))
    (plain_within _ 2 (Ordinary gdt) Popped ts (reads Flags 0 (memory_pieces at len)) (few_pieces at len) (flag_reads gdt (memory_pieces at len) 0 ts (λ h. cc) (of_each NtRead nt_shapes Memory at len i)))
    k

-- A state that has TR and the GDT register as they were, and the flags of an image that was read, is kept.
pub keeps_popped : (p : Proc) (ts : List Ask) (after : Proc) → after.tr ≡ p.tr → after.gdtr ≡ p.gdtr → (is_nested after ≡ true → popped ts ≡ true) → Keeps p ts after
keeps_popped p ts after t g n = record { tr = t; gdtr = inl g; nested = λ h. inr (n h) }
