-- The bytes that the two or four groups of a descriptor gather.
use Rattle.std.proofs.Common.{arith, ◌≡◌, ℕ, zero, suc, ◌+◌, ◌-◌, ◌*◌, ◌/◌, ◌%◌, ◌^◌, ◌<◌, ◌∙◌, inl, inr, refl, subst, bit_or, List, [], ◌∷◌, ◌++◌, Bool, true, false, if◌then◌else◌}
use Rattle.std.proofs.lemmas.Nat.{or_comm, or_shifted}
use Rattle.m386_base.specs.declared.ask.Ask.{Ask}
use Rattle.m386_base.specs.declared.ask.Role.{Role}
use Rattle.m386_base.specs.declared.ask.Space.TheVariants.{Memory}
use Rattle.m386_base.specs.declared.desc.Desc.{Desc}
use Rattle.m386_base.specs.declared.split.Piece.{Piece}
use Rattle.m386_base.specs.Bus.{cycle_of}
use Rattle.m386_base.specs.Bytes.{bytes_of, Has, heard}
use Rattle.m386_base.specs.Split.{pieces, gather_of, byte, lanes, moved, swapped}
use Rattle.m386_base.specs.Phrase.{◌>>=◌}
use Rattle.m386_base.proofs.Access.{pieces_at}
use Rattle.m386_base.proofs.Moved.{shaped, gather_0_8, gather_0_12, gather_0_14, gather_0_15, gather_1_7, gather_2_3, gather_3_1}
use Rattle.m386_state.specs.declared.segment.TableReg.{TableReg}
use Rattle.m386_desc.specs.Bytes.{descriptor_in, two_doublewords}
use Rattle.m386_stages.specs.Stages.{Stage, Hears, Keeps, hears}
use Rattle.m386_stages.proofs.Chains.{keeps_then, keeps_done, has_right}
use Rattle.m386_segload.specs.Descriptors.{word_reads, descriptor_phrase}
use Rattle.m386_base.specs.Laws.{Turns}

-- numbers that share no byte
or_sum : (n a b c : ℕ) → a < 2 ^ n → b ≡ c * 2 ^ n → bit_or a b ≡ a + b
or_sum n a b c l e = rw e (or_comm a (c * 2 ^ n) ∙ or_shifted c n a l ∙ omega arith)

-- four bytes of a doubleword that stand from there on
pub record Covers (xs : List (ℕ × ℕ)) (a w : ℕ) : Type 0 where
  pub c0 : Has xs (a % 2 ^ 32) (w % 2 ^ 8)
  pub c1 : Has xs ((a + 1) % 2 ^ 32) (w / 2 ^ 8 % 2 ^ 8)
  pub c2 : Has xs ((a + 2) % 2 ^ 32) (w / 2 ^ 16 % 2 ^ 8)
  pub c3 : Has xs ((a + 3) % 2 ^ 32) (w / 2 ^ 24 % 2 ^ 8)

-- a doubleword was read from there on, in the locked group where it is joined
pub record GotWord (g : Stage) (joined : Bool) (a : ℕ) (g2 : Stage) (w : ℕ) : Type 0 where
  pub phase : g2.phase ≡ g.phase
  pub group : Covers g2.group a w
  pub seen : Covers g2.seen a w
  pub kept : joined ≡ true → (x y : ℕ) → Has g.group x y → Has g2.group x y
  pub more : (x y : ℕ) → Has g.seen x y → Has g2.seen x y

abbrev sum4 : ℕ → ℕ → ℕ → ℕ → ℕ
sum4 a b c d = a + b * 2 ^ 8 + c * 2 ^ 16 + d * 2 ^ 24

pub word_0 : (A v : ℕ) → bit_or 0 (gather_of (shaped A 0 15) v) ≡ sum4 (byte v 0) (byte v 1) (byte v 2) (byte v 3)
unfolding lanes
word_0 A v = rw (gather_0_15 A v) (omega arith)

pub word_1 : (A B v u : ℕ) → bit_or (bit_or 0 (gather_of (shaped A 0 14) v)) (gather_of (shaped B 3 1) u) ≡ sum4 (byte v 1) (byte v 2) (byte v 3) (byte u 0)
unfolding lanes
word_1 A B v u = rw (gather_0_14 A v, gather_3_1 B u) (or_sum 24 (moved (swapped (lanes (shaped A 0 14))) v) (moved (swapped (lanes (shaped B 3 1))) u) (byte u 0) (omega arith) (omega arith) ∙ omega arith)

pub word_2 : (A B v u : ℕ) → bit_or (bit_or 0 (gather_of (shaped A 0 12) v)) (gather_of (shaped B 2 3) u) ≡ sum4 (byte v 2) (byte v 3) (byte u 0) (byte u 1)
unfolding lanes
word_2 A B v u = rw (gather_0_12 A v, gather_2_3 B u) (or_sum 16 (moved (swapped (lanes (shaped A 0 12))) v) (moved (swapped (lanes (shaped B 2 3))) u) (byte u 0 + byte u 1 * 2 ^ 8) (omega arith) (omega arith) ∙ omega arith)

pub word_3 : (A B v u : ℕ) → bit_or (bit_or 0 (gather_of (shaped A 0 8) v)) (gather_of (shaped B 1 7) u) ≡ sum4 (byte v 3) (byte u 0) (byte u 1) (byte u 2)
unfolding lanes
word_3 A B v u = rw (gather_0_8 A v, gather_1_7 B u) (or_sum 8 (moved (swapped (lanes (shaped A 0 8))) v) (moved (swapped (lanes (shaped B 1 7))) u) (byte u 0 + byte u 1 * 2 ^ 8 + byte u 2 * 2 ^ 16) (omega arith) (omega arith) ∙ omega arith)

-- the bytes of a sum
part_0 : (a b c d w : ℕ) → a < 256 → w ≡ sum4 a b c d → a ≡ w % 2 ^ 8
part_0 a b c d w l e = omega arith

pub part_1 : (a b c d w : ℕ) → a < 256 → b < 256 → w ≡ sum4 a b c d → b ≡ w / 2 ^ 8 % 2 ^ 8
part_1 a b c d w l m e = omega arith

part_2 : (a b c d w : ℕ) → a < 256 → b < 256 → c < 256 → w ≡ sum4 a b c d → c ≡ w / 2 ^ 16 % 2 ^ 8
part_2 a b c d w l m n e = omega arith

part_3 : (a b c d w : ℕ) → a < 256 → b < 256 → c < 256 → d < 256 → w ≡ sum4 a b c d → d ≡ w / 2 ^ 24 % 2 ^ 8
part_3 a b c d w l m n o e = omega arith

pub below : (v k : ℕ) → byte v k < 256
below v k = omega arith

covers : (xs : List (ℕ × ℕ)) (a w b0 b1 b2 b3 : ℕ) → b0 < 256 → b1 < 256 → b2 < 256 → b3 < 256 → w ≡ sum4 b0 b1 b2 b3 → Has xs (a % 2 ^ 32) b0 → Has xs ((a + 1) % 2 ^ 32) b1 → Has xs ((a + 2) % 2 ^ 32) b2 → Has xs ((a + 3) % 2 ^ 32) b3 → Covers xs a w
covers xs a w b0 b1 b2 b3 l0 l1 l2 l3 e h0 h1 h2 h3 = record {
  c0 = subst (Has xs (a % 2 ^ 32)) (part_0 b0 b1 b2 b3 w l0 e) h0;
  c1 = subst (Has xs ((a + 1) % 2 ^ 32)) (part_1 b0 b1 b2 b3 w l0 l1 e) h1;
  c2 = subst (Has xs ((a + 2) % 2 ^ 32)) (part_2 b0 b1 b2 b3 w l0 l1 l2 e) h2;
  c3 = subst (Has xs ((a + 3) % 2 ^ 32)) (part_3 b0 b1 b2 b3 w l0 l1 l2 l3 e) h3;
}

-- the bytes by their groups, for each place of the first in its group
from_0 : (xs : List (ℕ × ℕ)) (a A v : ℕ) → A % 4 ≡ 0 → A ≡ a % 2 ^ 32 → Covers ((A + 0, byte v 0) ∷ (A + 1, byte v 1) ∷ (A + 2, byte v 2) ∷ (A + 3, byte v 3) ∷ xs) a (bit_or 0 (gather_of (shaped A 0 15) v))
from_0 xs a A v m e = covers _ a _ (byte v 0) (byte v 1) (byte v 2) (byte v 3) (below v 0) (below v 1) (below v 2) (below v 3) (word_0 A v)
    (inl (omega arith, refl)) (inr (inl (omega arith, refl))) (inr (inr (inl (omega arith, refl)))) (inr (inr (inr (inl (omega arith, refl)))))

from_1 : (xs : List (ℕ × ℕ)) (a A B v u : ℕ) → A % 4 ≡ 0 → A + 1 ≡ a % 2 ^ 32 → B ≡ (A + 4) % 2 ^ 32 → Covers ((B + 0, byte u 0) ∷ (A + 1, byte v 1) ∷ (A + 2, byte v 2) ∷ (A + 3, byte v 3) ∷ xs) a (bit_or (bit_or 0 (gather_of (shaped A 0 14) v)) (gather_of (shaped B 3 1) u))
from_1 xs a A B v u m e f = covers _ a _ (byte v 1) (byte v 2) (byte v 3) (byte u 0) (below v 1) (below v 2) (below v 3) (below u 0) (word_1 A B v u)
    (inr (inl (omega arith, refl))) (inr (inr (inl (omega arith, refl)))) (inr (inr (inr (inl (omega arith, refl))))) (inl (omega arith, refl))

from_2 : (xs : List (ℕ × ℕ)) (a A B v u : ℕ) → A % 4 ≡ 0 → A + 2 ≡ a % 2 ^ 32 → B ≡ (A + 4) % 2 ^ 32 → Covers ((B + 0, byte u 0) ∷ (B + 1, byte u 1) ∷ (A + 2, byte v 2) ∷ (A + 3, byte v 3) ∷ xs) a (bit_or (bit_or 0 (gather_of (shaped A 0 12) v)) (gather_of (shaped B 2 3) u))
from_2 xs a A B v u m e f = covers _ a _ (byte v 2) (byte v 3) (byte u 0) (byte u 1) (below v 2) (below v 3) (below u 0) (below u 1) (word_2 A B v u)
    (inr (inr (inl (omega arith, refl)))) (inr (inr (inr (inl (omega arith, refl))))) (inl (omega arith, refl)) (inr (inl (omega arith, refl)))

from_3 : (xs : List (ℕ × ℕ)) (a A B v u : ℕ) → A % 4 ≡ 0 → A + 3 ≡ a % 2 ^ 32 → B ≡ (A + 4) % 2 ^ 32 → Covers ((B + 0, byte u 0) ∷ (B + 1, byte u 1) ∷ (B + 2, byte u 2) ∷ (A + 3, byte v 3) ∷ xs) a (bit_or (bit_or 0 (gather_of (shaped A 0 8) v)) (gather_of (shaped B 1 7) u))
from_3 xs a A B v u m e f = covers _ a _ (byte v 3) (byte u 0) (byte u 1) (byte u 2) (below v 3) (below u 0) (below u 1) (below u 2) (word_3 A B v u)
    (inr (inr (inr (inl (omega arith, refl))))) (inl (omega arith, refl)) (inr (inl (omega arith, refl))) (inr (inr (inl (omega arith, refl))))

kept_group : (b : Bool) (xs ys : List (ℕ × ℕ)) (x y : ℕ) → b ≡ true → Has ys x y → Has (xs ++ (if b then ys else [])) x y
kept_group true xs ys x y e h = has_right xs ys x y h
kept_group false xs ys x y e h = absurd cc

-- the cycle that a group's read makes
abbrev pub read_cycle : Role → Bool → Piece → ℕ → Ask
read_cycle role joined p v = record { space = Memory; write = false; joined = joined; role = role; part = p.place; addr = p.addr; enables = p.enables; value = v }

word_keeps : (gdt : TableReg) (g : Stage) (role : Role) (joined : Bool) (a first at : ℕ) → first ≡ a % 2 ^ 32 → first % 4 ≡ at → Keeps gdt (GotWord g joined a) g (word_reads role joined 0 (pieces_at Memory first at 4))
unfolding Keeps Turns word_reads ◌>>=◌ cycle_of bytes_of
word_keeps gdt g role joined a first zero e h = λ v.
    let A : ℕ = first - 0 in
    let c : Ask = read_cycle role joined (shaped A 0 15) v in (
      hears g c g.phase,
      Hears refl refl,
      record {
        phase = refl;
        group = from_0 _ a A v (omega arith) (omega arith);
        seen = from_0 _ a A v (omega arith) (omega arith);
        kept = λ j x y i. kept_group joined (heard c) g.group x y j i;
        more = λ x y i. has_right (heard c) g.seen x y i;
      },
    )
word_keeps gdt g role joined a first (suc zero) e h = λ v.
    let A : ℕ = first - 1 in
    let B : ℕ = (first - 1 + 4) % 2 ^ 32 in
    let c : Ask = read_cycle role joined (shaped A 0 14) v in
    let g1 : Stage = hears g c g.phase in (
      g1,
      Hears refl refl,
      λ u.
          let d : Ask = read_cycle role true (shaped B 3 1) u in (
            hears g1 d g.phase,
            Hears refl refl,
            record {
              phase = refl;
              group = from_1 _ a A B v u (omega arith) (omega arith) refl;
              seen = from_1 _ a A B v u (omega arith) (omega arith) refl;
              kept = λ j x y i. has_right (heard d) g1.group x y (kept_group joined (heard c) g.group x y j i);
              more = λ x y i. has_right (heard d) g1.seen x y (has_right (heard c) g.seen x y i);
            },
          ),
    )
word_keeps gdt g role joined a first (suc (suc zero)) e h = λ v.
    let A : ℕ = first - 2 in
    let B : ℕ = (first - 2 + 4) % 2 ^ 32 in
    let c : Ask = read_cycle role joined (shaped A 0 12) v in
    let g1 : Stage = hears g c g.phase in (
      g1,
      Hears refl refl,
      λ u.
          let d : Ask = read_cycle role true (shaped B 2 3) u in (
            hears g1 d g.phase,
            Hears refl refl,
            record {
              phase = refl;
              group = from_2 _ a A B v u (omega arith) (omega arith) refl;
              seen = from_2 _ a A B v u (omega arith) (omega arith) refl;
              kept = λ j x y i. has_right (heard d) g1.group x y (kept_group joined (heard c) g.group x y j i);
              more = λ x y i. has_right (heard d) g1.seen x y (has_right (heard c) g.seen x y i);
            },
          ),
    )
word_keeps gdt g role joined a first (suc (suc (suc zero))) e h = λ v.
    let A : ℕ = first - 3 in
    let B : ℕ = (first - 3 + 4) % 2 ^ 32 in
    let c : Ask = read_cycle role joined (shaped A 0 8) v in
    let g1 : Stage = hears g c g.phase in (
      g1,
      Hears refl refl,
      λ u.
          let d : Ask = read_cycle role true (shaped B 1 7) u in (
            hears g1 d g.phase,
            Hears refl refl,
            record {
              phase = refl;
              group = from_3 _ a A B v u (omega arith) (omega arith) refl;
              seen = from_3 _ a A B v u (omega arith) (omega arith) refl;
              kept = λ j x y i. has_right (heard d) g1.group x y (kept_group joined (heard c) g.group x y j i);
              more = λ x y i. has_right (heard d) g1.seen x y (has_right (heard c) g.seen x y i);
            },
          ),
    )
word_keeps gdt g role joined a first (suc (suc (suc (suc at)))) e h = absurd (omega arith)

-- A doubleword that is read at any alignment.
pub keeps_word : (gdt : TableReg) (g : Stage) (role : Role) (joined : Bool) (a : ℕ) → Keeps gdt (GotWord g joined a) g (word_reads role joined 0 (pieces Memory a 4))
unfolding pieces
keeps_word gdt g role joined a = word_keeps gdt g role joined a (a % 2 ^ 32) (a % 2 ^ 32 % 4) refl refl

covers_more : (xs ys : List (ℕ × ℕ)) (a w : ℕ) → ((x y : ℕ) → Has xs x y → Has ys x y) → Covers xs a w → Covers ys a w
covers_more xs ys a w m c = record { c0 = m _ _ c.c0; c1 = m _ _ c.c1; c2 = m _ _ c.c2; c3 = m _ _ c.c3 }

-- a descriptor was read there, as a locked group
pub record GotDesc (g : Stage) (a : ℕ) (g2 : Stage) (d : Desc) : Type 0 where
  pub lo : ℕ
  pub hi : ℕ
  pub is : d ≡ descriptor_in (two_doublewords lo hi)
  pub phase : g2.phase ≡ g.phase
  pub low : Covers g2.group a lo
  pub high : Covers g2.group (a + 4) hi
  pub seen_low : Covers g2.seen a lo
  pub seen_high : Covers g2.seen (a + 4) hi
  pub more : (x y : ℕ) → Has g.seen x y → Has g2.seen x y

move_high : (xs : List (ℕ × ℕ)) (a w : ℕ) → Covers xs ((a + 4) % 2 ^ 32) w → Covers xs (a + 4) w
move_high xs a w c = record {
  c0 = subst (λ x. Has xs x (w % 2 ^ 8)) (omega arith) c.c0;
  c1 = subst (λ x. Has xs x (w / 2 ^ 8 % 2 ^ 8)) (omega arith) c.c1;
  c2 = subst (λ x. Has xs x (w / 2 ^ 16 % 2 ^ 8)) (omega arith) c.c2;
  c3 = subst (λ x. Has xs x (w / 2 ^ 24 % 2 ^ 8)) (omega arith) c.c3;
}

-- A descriptor that is read at any alignment.
pub keeps_descriptor : (gdt : TableReg) (g : Stage) (role : Role) (a : ℕ) → Keeps gdt (GotDesc g a) g (descriptor_phrase role a)
unfolding descriptor_phrase
keeps_descriptor gdt g role a =
    keeps_then gdt (GotWord g false a) (GotDesc g a) g (word_reads role false 0 (pieces Memory a 4)) _ (keeps_word gdt g role false a) (λ lo g1 p.
    keeps_then gdt (GotWord g1 true ((a + 4) % 2 ^ 32)) (GotDesc g a) g1 (word_reads role true 0 (pieces Memory ((a + 4) % 2 ^ 32) 4)) _ (keeps_word gdt g1 role true ((a + 4) % 2 ^ 32)) (λ hi g2 q.
    keeps_done gdt (GotDesc g a) g2 _ (record {
      lo = lo;
      hi = hi;
      is = refl;
      phase = q.phase ∙ p.phase;
      low = covers_more _ _ a lo (q.kept refl) p.group;
      high = move_high _ a hi q.group;
      seen_low = covers_more _ _ a lo q.more p.seen;
      seen_high = move_high _ a hi q.seen;
      more = λ x y h. q.more x y (p.more x y h);
    })))
