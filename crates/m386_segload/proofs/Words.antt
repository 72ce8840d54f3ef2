-- Byte 5 of a descriptor that was read at any alignment.
use Rattle.std.proofs.Common.{arith, ◌≡◌, ℕ, zero, suc, ◌+◌, ◌-◌, ◌*◌, ◌/◌, ◌%◌, ◌^◌, ◌<◌, ◌∙◌, inl, inr, refl, bit_or, List, [], ◌∷◌, Bool, true, false, if◌then◌else◌}
use Rattle.std.proofs.lemmas.Nat.{or_comm, or_shifted}
use Rattle.m386_base.specs.declared.ask.Ask.{Ask}
use Rattle.m386_base.specs.declared.ask.Role.{Role}
use Rattle.m386_base.specs.declared.ask.Space.TheVariants.{Memory}
use Rattle.m386_base.specs.Bus.{cycle_of}
use Rattle.m386_base.specs.Bytes.{bytes_of, Has}
use Rattle.m386_base.specs.Split.{pieces, gather_of, byte, lanes, moved, swapped}
use Rattle.m386_base.specs.Phrase.{◌>>=◌}
use Rattle.m386_base.proofs.Access.{pieces_at}
use Rattle.m386_base.proofs.Moved.{shaped, gather_0_8, gather_0_12, gather_0_14, gather_0_15, gather_1_7, gather_2_3, gather_3_1}
use Rattle.m386_base.specs.Plain.{Plain}
use Rattle.m386_state.specs.declared.segment.TableReg.{TableReg}
use Rattle.m386_access.specs.Ordinary.{Ordinary, Reads, WasRead, is_read_role, is_behind}
use Rattle.m386_segload.specs.Descriptors.{word_reads}

-- numbers that share no byte
or_sum : (n a b c : ℕ) → a < 2 ^ n → b ≡ c * 2 ^ n → bit_or a b ≡ a + b
or_sum n a b c l e = rw e (or_comm a (c * 2 ^ n) ∙ or_shifted c n a l ∙ omega arith)

abbrev sum4 : ℕ → ℕ → ℕ → ℕ → ℕ
sum4 a b c d = a + b * 2 ^ 8 + c * 2 ^ 16 + d * 2 ^ 24

pub word_0 : (A v : ℕ) → bit_or 0 (gather_of (shaped A 0 15) v) ≡ sum4 (byte v 0) (byte v 1) (byte v 2) (byte v 3)
unfolding lanes
word_0 A v = rw (gather_0_15 A v) (omega arith)

pub word_1 : (A B v u : ℕ) → bit_or (bit_or 0 (gather_of (shaped A 0 14) v)) (gather_of (shaped B 3 1) u) ≡ sum4 (byte v 1) (byte v 2) (byte v 3) (byte u 0)
unfolding lanes
word_1 A B v u = rw (gather_0_14 A v, gather_3_1 B u) (or_sum 24 (moved (swapped (lanes (shaped A 0 14))) v) (moved (swapped (lanes (shaped B 3 1))) u) (byte u 0) (omega arith) (omega arith) ∙ omega arith)

pub word_2 : (A B v u : ℕ) → bit_or (bit_or 0 (gather_of (shaped A 0 12) v)) (gather_of (shaped B 2 3) u) ≡ sum4 (byte v 2) (byte v 3) (byte u 0) (byte u 1)
unfolding lanes
word_2 A B v u = rw (gather_0_12 A v, gather_2_3 B u) (or_sum 16 (moved (swapped (lanes (shaped A 0 12))) v) (moved (swapped (lanes (shaped B 2 3))) u) (byte u 0 + byte u 1 * 2 ^ 8) (omega arith) (omega arith) ∙ omega arith)

pub word_3 : (A B v u : ℕ) → bit_or (bit_or 0 (gather_of (shaped A 0 8) v)) (gather_of (shaped B 1 7) u) ≡ sum4 (byte v 3) (byte u 0) (byte u 1) (byte u 2)
unfolding lanes
word_3 A B v u = rw (gather_0_8 A v, gather_1_7 B u) (or_sum 8 (moved (swapped (lanes (shaped A 0 8))) v) (moved (swapped (lanes (shaped B 1 7))) u) (byte u 0 + byte u 1 * 2 ^ 8 + byte u 2 * 2 ^ 16) (omega arith) (omega arith) ∙ omega arith)

-- the bytes of a sum
part_0 : (a b c d w : ℕ) → a < 256 → w ≡ sum4 a b c d → a ≡ w % 2 ^ 8
part_0 a b c d w l e = omega arith

pub part_1 : (a b c d w : ℕ) → a < 256 → b < 256 → w ≡ sum4 a b c d → b ≡ w / 2 ^ 8 % 2 ^ 8
part_1 a b c d w l m e = omega arith

pub below : (v k : ℕ) → byte v k < 256
below v k = omega arith

-- a byte at a place, by its turn
here : (a place b c : ℕ) (xs : List (ℕ × ℕ)) → a ≡ place → b ≡ c → Has ((a, b) ∷ xs) place c
here a place b c xs e f = inl (e, f)

later : (a place b c : ℕ) (xs : List (ℕ × ℕ)) → Has xs place c → Has ((a, b) ∷ xs) place c
later a place b c xs h = inr h

-- byte 1 of the doubleword that begins at a was read, as the doubleword has it, in the locked group
pub record GotHigh (a : ℕ) (us : List Ask) (w : ℕ) : Type 0 where
  pub byte : WasRead us ((a + 1) % 2 ^ 32) (w / 2 ^ 8 % 2 ^ 8)
  pub behind : is_behind us ≡ true

may_join : (joined : Bool) (ts : List Ask) → (joined ≡ true → is_behind ts ≡ true) → (if joined then is_behind ts else true) ≡ true
may_join true ts h = h refl
may_join false ts h = refl

word_plain : (gdt : TableReg) (ts : List Ask) (role : Role) (joined : Bool) (a first at : ℕ) → is_read_role role ≡ true → (joined ≡ true → is_behind ts ≡ true) → first ≡ a % 2 ^ 32 → first % 4 ≡ at → Plain 2 (Ordinary gdt) (GotHigh a) ts (word_reads role joined 0 (pieces_at Memory first at 4))
unfolding Plain word_reads ◌>>=◌ cycle_of bytes_of
word_plain gdt ts role joined a first zero r j e h = (
  Reads refl r (may_join joined ts j),
  λ v. record {
    byte = (refl, inl (later (first - 0 + 0) ((a + 1) % 2 ^ 32) (byte v 0) _ ((first - 0 + 1, byte v 1) ∷ (first - 0 + 2, byte v 2) ∷ (first - 0 + 3, byte v 3) ∷ []) (here (first - 0 + 1) ((a + 1) % 2 ^ 32) (byte v 1) _ ((first - 0 + 2, byte v 2) ∷ (first - 0 + 3, byte v 3) ∷ []) (omega arith) (part_1 (byte v 0) (byte v 1) (byte v 2) (byte v 3) _ (below v 0) (below v 1) (word_0 (first - 0) v)))));
    behind = refl;
  },
)
word_plain gdt ts role joined a first (suc zero) r j e h = (
  Reads refl r (may_join joined ts j),
  λ v. (
    Reads refl r refl,
    λ u. record {
      byte = (refl, inr (refl, (refl, inl (later (first - 1 + 1) ((a + 1) % 2 ^ 32) (byte v 1) _ ((first - 1 + 2, byte v 2) ∷ (first - 1 + 3, byte v 3) ∷ []) (here (first - 1 + 2) ((a + 1) % 2 ^ 32) (byte v 2) _ ((first - 1 + 3, byte v 3) ∷ []) (omega arith) (part_1 (byte v 1) (byte v 2) (byte v 3) (byte u 0) _ (below v 1) (below v 2) (word_1 (first - 1) ((first - 1 + 4) % 2 ^ 32) v u)))))));
      behind = refl;
    },
  ),
)
word_plain gdt ts role joined a first (suc (suc zero)) r j e h = (
  Reads refl r (may_join joined ts j),
  λ v. (
    Reads refl r refl,
    λ u. record {
      byte = (refl, inr (refl, (refl, inl (later (first - 2 + 2) ((a + 1) % 2 ^ 32) (byte v 2) _ ((first - 2 + 3, byte v 3) ∷ []) (here (first - 2 + 3) ((a + 1) % 2 ^ 32) (byte v 3) _ [] (omega arith) (part_1 (byte v 2) (byte v 3) (byte u 0) (byte u 1) _ (below v 2) (below v 3) (word_2 (first - 2) ((first - 2 + 4) % 2 ^ 32) v u)))))));
      behind = refl;
    },
  ),
)
word_plain gdt ts role joined a first (suc (suc (suc zero))) r j e h = (
  Reads refl r (may_join joined ts j),
  λ v. (
    Reads refl r refl,
    λ u. record {
      byte = (refl, inl (here ((first - 3 + 4) % 2 ^ 32 + 0) ((a + 1) % 2 ^ 32) (byte u 0) _ (((first - 3 + 4) % 2 ^ 32 + 1, byte u 1) ∷ ((first - 3 + 4) % 2 ^ 32 + 2, byte u 2) ∷ []) (omega arith) (part_1 (byte v 3) (byte u 0) (byte u 1) (byte u 2) _ (below v 3) (below u 0) (word_3 (first - 3) ((first - 3 + 4) % 2 ^ 32) v u))));
      behind = refl;
    },
  ),
)
word_plain gdt ts role joined a first (suc (suc (suc (suc at)))) r j e h = absurd (omega arith)

-- A doubleword that is read at any alignment.
pub plain_word : (gdt : TableReg) (ts : List Ask) (role : Role) (joined : Bool) (a : ℕ) → is_read_role role ≡ true → (joined ≡ true → is_behind ts ≡ true) → Plain 2 (Ordinary gdt) (GotHigh a) ts (word_reads role joined 0 (pieces Memory a 4))
unfolding pieces
plain_word gdt ts role joined a r j = word_plain gdt ts role joined a (a % 2 ^ 32) (a % 2 ^ 32 % 4) r j refl refl
