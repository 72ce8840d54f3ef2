-- The link is written and read, and fields are loaded.
use Rattle.std.proofs.Common.{arith, ◌≡◌, ℕ, zero, suc, ◌+◌, ◌-◌, ◌*◌, ◌/◌, ◌%◌, ◌^◌, ◌<◌, ◌∙◌, inl, inr, refl, subst, List, [], ◌∷◌, ◌++◌, Bool, true, false, bit_or, Some}
use Rattle.std.proofs.lemmas.Nat.{or_comm, or_shifted}
use Rattle.m386_base.specs.declared.ask.Ask.{Ask}
use Rattle.m386_base.specs.declared.ask.Role.{Role}
use Rattle.m386_base.specs.declared.ask.Role.TheVariants as roles
use Rattle.m386_base.specs.declared.ask.Space.TheVariants.{Memory}
use Rattle.m386_base.specs.declared.split.Piece.{Piece}
use Rattle.m386_base.specs.Bus.{cycle_of}
use Rattle.m386_base.specs.Bytes.{bytes_of, Has, heard}
use Rattle.m386_base.specs.Split.{pieces, byte, gather_of, lanes, moved, swapped}
use Rattle.m386_base.specs.Phrase.{◌>>=◌}
use Rattle.m386_base.proofs.Access.{pieces_at}
use Rattle.m386_base.proofs.Moved.{shaped, gather_0_3, gather_0_6, gather_0_8, gather_0_12, gather_1_1}
use Rattle.m386_base.proofs.Lanes.{byte_0_3_0, byte_0_3_1, byte_0_6_1, byte_0_6_2, byte_0_12_2, byte_0_12_3, byte_0_8_3, byte_1_1_0}
use Rattle.m386_state.specs.declared.segment.TableReg.{TableReg}
use Rattle.m386_tss.specs.Fields.{field_at}
use Rattle.m386_stages.specs.Stages.{Stage, Phase, Free, Turned, Linking, Called, Backing, Task, Hears, Links_whole, Links_low, Links_high, Backs, Backs_on, Keeps, hears, shut, segment_byte, IsWritten}
use Rattle.m386_stages.proofs.Chains.{keeps_weaken, has_right}
use Rattle.m386_stages.proofs.Words.{read_cycle, below}
use Rattle.m386_switch.specs.Fields.{field_ask, field_write_ask, field_reads, field_writes, field_phrase, field_write_phrase}
use Rattle.m386_base.specs.Laws.{Turns}

-- what was seen stays seen
abbrev pub Grows : Stage → Stage → Type 0
Grows g g2 = (x y : ℕ) → Has g.seen x y → Has g2.seen x y

-- the phase is this one, and what was seen stays seen
abbrev pub In : {A : Type 0} → Phase → Stage → Stage → A → Type 0
In ph g g2 a = (g2.phase ≡ ph) × Grows g g2

-- reads of any kind
pub keeps_reads : (gdt : TableReg) (role : Role) (n : ℕ) (ps : List Piece) (value : ℕ) (ph : Phase) (g : Stage) → g.phase ≡ ph → Keeps gdt (In ph g) g (field_reads role n value ps)
unfolding Keeps Turns field_reads ◌>>=◌ cycle_of
keeps_reads gdt role n [] value ph g e = (e, λ x y h. h)
keeps_reads gdt role n (p ∷ ps) value ph g e = λ v.
    let c : Ask = record (field_ask role n p) { value = v } in
    let g1 : Stage = hears g c g.phase in
    (g1, Hears refl refl, keeps_weaken gdt (In ph g1) (In ph g) g1 (field_reads role n (bit_or value (gather_of p v)) ps) (λ a g2 k. (k.0, λ x y h. k.1 x y (has_right (heard c) g.seen x y h))) (keeps_reads gdt role n ps (bit_or value (gather_of p v)) ph g1 e))

-- two bytes that are written
abbrev pair : ℕ → ℕ → ℕ → ℕ → List (ℕ × ℕ)
pair a b c d = (a, b) ∷ (c, d) ∷ []

abbrev single : ℕ → ℕ → List (ℕ × ℕ)
single a b = (a, b) ∷ []

pairs : (a b c d e f g h : ℕ) → a ≡ e → b ≡ f → c ≡ g → d ≡ h → pair a b c d ≡ pair e f g h
pairs a b c d e f g h p q r s = λ i. pair (p i) (q i) (r i) (s i)

singles : (a b c d : ℕ) → a ≡ c → b ≡ d → single a b ≡ single c d
singles a b c d p q = λ i. single (p i) (q i)

link_written : (value : ℕ) (p : Piece) → IsWritten (field_write_ask roles.Link 0 p value) roles.Link
link_written value p = record { write = refl; joined = refl; space = refl; role = refl }

link_at : (gdt : TableReg) (nt : Bool) (o t : Task) (first at : ℕ) (g : Stage) → g.phase ≡ Turned true o t nt true → first ≡ (t.base + 0) % 2 ^ 32 % 2 ^ 32 → first % 4 ≡ at → Keeps gdt (λ g2 u. g2.phase ≡ Called t) g (field_writes roles.Link 0 o.selector (pieces_at Memory first at 2))
unfolding Keeps Turns field_writes ◌>>=◌ cycle_of bytes_of
link_at gdt nt o t first zero g e f m = λ v. (shut g (Called t), Links_whole nt o t e (link_written o.selector _) (pairs _ _ _ _ _ _ _ _ (omega arith) (byte_0_3_0 (first - 0) o.selector ∙ omega arith) (omega arith) (byte_0_3_1 (first - 0) o.selector)) refl, refl)
link_at gdt nt o t first (suc zero) g e f m = λ v. (shut g (Called t), Links_whole nt o t e (link_written o.selector _) (pairs _ _ _ _ _ _ _ _ (omega arith) (byte_0_6_1 (first - 1) o.selector ∙ omega arith) (omega arith) (byte_0_6_2 (first - 1) o.selector)) refl, refl)
link_at gdt nt o t first (suc (suc zero)) g e f m = λ v. (shut g (Called t), Links_whole nt o t e (link_written o.selector _) (pairs _ _ _ _ _ _ _ _ (omega arith) (byte_0_12_2 (first - 2) o.selector ∙ omega arith) (omega arith) (byte_0_12_3 (first - 2) o.selector)) refl, refl)
link_at gdt nt o t first (suc (suc (suc zero))) g e f m = λ v.
    let g1 : Stage = shut g (Linking o t) in (
      g1,
      Links_low nt o t e (link_written o.selector _) (singles _ _ _ _ (omega arith) (byte_0_8_3 (first - 3) o.selector ∙ omega arith)) refl,
      λ w.
          (shut g1 (Called t), Links_high o t refl (link_written o.selector _) (singles _ _ _ _ (omega arith) (byte_1_1_0 ((first - 3 + 4) % 2 ^ 32) o.selector)) refl, refl),
    )
link_at gdt nt o t first (suc (suc (suc (suc at)))) g e f m = absurd (omega arith)

-- The link is written, in one group or in two.
pub keeps_link : (gdt : TableReg) (nt : Bool) (o t : Task) (g : Stage) → g.phase ≡ Turned true o t nt true → Keeps gdt (λ g2 u. g2.phase ≡ Called t) g (field_write_phrase roles.Link t.base 0 o.selector)
unfolding field_write_phrase pieces field_at
keeps_link gdt nt o t g e = link_at gdt nt o t _ _ g e refl refl

-- a link that was read
pub record GotLink (o : Task) (g : Stage) (g2 : Stage) (w : ℕ) : Type 0 where
  pub bs : List (ℕ × ℕ)
  pub phase : g2.phase ≡ Backing o bs
  pub low : Has bs (segment_byte o.base 0) (w % 2 ^ 8)
  pub high : Has bs (segment_byte o.base 1) (w / 2 ^ 8 % 2 ^ 8)
  pub short : w < 2 ^ 16
  pub more : Grows g g2

or_sum : (n a b c : ℕ) → a < 2 ^ n → b ≡ c * 2 ^ n → bit_or a b ≡ a + b
or_sum n a b c l e = rw e (or_comm a (c * 2 ^ n) ∙ or_shifted c n a l ∙ omega arith)

half_0 : (A v : ℕ) → bit_or 0 (gather_of (shaped A 0 3) v) ≡ byte v 0 + byte v 1 * 2 ^ 8
unfolding lanes
half_0 A v = rw (gather_0_3 A v) (omega arith)

half_1 : (A v : ℕ) → bit_or 0 (gather_of (shaped A 0 6) v) ≡ byte v 1 + byte v 2 * 2 ^ 8
unfolding lanes
half_1 A v = rw (gather_0_6 A v) (omega arith)

half_2 : (A v : ℕ) → bit_or 0 (gather_of (shaped A 0 12) v) ≡ byte v 2 + byte v 3 * 2 ^ 8
unfolding lanes
half_2 A v = rw (gather_0_12 A v) (omega arith)

half_3 : (A B v u : ℕ) → bit_or (bit_or 0 (gather_of (shaped A 0 8) v)) (gather_of (shaped B 1 1) u) ≡ byte v 3 + byte u 0 * 2 ^ 8
unfolding lanes
half_3 A B v u = rw (gather_0_8 A v, gather_1_1 B u) (or_sum 8 (moved (swapped (lanes (shaped A 0 8))) v) (moved (swapped (lanes (shaped B 1 1))) u) (byte u 0) (omega arith) (omega arith) ∙ omega arith)

low_part : (a b w : ℕ) → a < 256 → w ≡ a + b * 2 ^ 8 → a ≡ w % 2 ^ 8
low_part a b w l e = omega arith

high_part : (a b w : ℕ) → a < 256 → b < 256 → w ≡ a + b * 2 ^ 8 → b ≡ w / 2 ^ 8 % 2 ^ 8
high_part a b w l m e = omega arith

short_sum : (a b w : ℕ) → a < 256 → b < 256 → w ≡ a + b * 2 ^ 8 → w < 2 ^ 16
short_sum a b w l m e = omega arith

got_link : (o : Task) (g g2 : Stage) (bs : List (ℕ × ℕ)) (w a b : ℕ) → g2.phase ≡ Backing o bs → Grows g g2 → a < 256 → b < 256 → w ≡ a + b * 2 ^ 8 → Has bs (segment_byte o.base 0) a → Has bs (segment_byte o.base 1) b → GotLink o g g2 w
got_link o g g2 bs w a b e m la lb s ha hb = record {
  bs = bs;
  phase = e;
  low = subst (Has bs (segment_byte o.base 0)) (low_part a b w la s) ha;
  high = subst (Has bs (segment_byte o.base 1)) (high_part a b w la lb s) hb;
  short = short_sum a b w la lb s;
  more = m;
}

back_at : (gdt : TableReg) (o : Task) (first at : ℕ) (g : Stage) → g.phase ≡ Free (Some o) true → first ≡ (o.base + 0) % 2 ^ 32 % 2 ^ 32 → first % 4 ≡ at → Keeps gdt (GotLink o g) g (field_reads roles.Back 0 0 (pieces_at Memory first at 2))
unfolding Keeps Turns field_reads ◌>>=◌ cycle_of bytes_of
back_at gdt o first zero g e f m = λ v.
    let A : ℕ = first - 0 in
    let c : Ask = read_cycle roles.Back false (record { addr = A; enables = 3; place = 0 }) v in
    let g2 : Stage = hears g c (Backing o (heard c)) in
    (g2, Backs o e refl refl refl, got_link o g g2 (heard c) _ (byte v 0) (byte v 1) refl (λ x y h. has_right (heard c) g.seen x y h) (below v 0) (below v 1) (half_0 A v) (inl (omega arith, refl)) (inr (inl (omega arith, refl))))
back_at gdt o first (suc zero) g e f m = λ v.
    let A : ℕ = first - 1 in
    let c : Ask = read_cycle roles.Back false (record { addr = A; enables = 6; place = 0 }) v in
    let g2 : Stage = hears g c (Backing o (heard c)) in
    (g2, Backs o e refl refl refl, got_link o g g2 (heard c) _ (byte v 1) (byte v 2) refl (λ x y h. has_right (heard c) g.seen x y h) (below v 1) (below v 2) (half_1 A v) (inl (omega arith, refl)) (inr (inl (omega arith, refl))))
back_at gdt o first (suc (suc zero)) g e f m = λ v.
    let A : ℕ = first - 2 in
    let c : Ask = read_cycle roles.Back false (record { addr = A; enables = 12; place = 0 }) v in
    let g2 : Stage = hears g c (Backing o (heard c)) in
    (g2, Backs o e refl refl refl, got_link o g g2 (heard c) _ (byte v 2) (byte v 3) refl (λ x y h. has_right (heard c) g.seen x y h) (below v 2) (below v 3) (half_2 A v) (inl (omega arith, refl)) (inr (inl (omega arith, refl))))
back_at gdt o first (suc (suc (suc zero))) g e f m = λ v.
    let A : ℕ = first - 3 in
    let B : ℕ = (first - 3 + 4) % 2 ^ 32 in
    let c : Ask = read_cycle roles.Back false (record { addr = A; enables = 8; place = 0 }) v in
    let g1 : Stage = hears g c (Backing o (heard c)) in (
      g1,
      Backs o e refl refl refl,
      λ u.
          let d : Ask = read_cycle roles.Back false (record { addr = B; enables = 1; place = 0 }) u in
          let g2 : Stage = hears g1 d (Backing o (heard d ++ heard c)) in
          (g2, Backs_on o (heard c) refl refl refl refl, got_link o g g2 (heard d ++ heard c) _ (byte v 3) (byte u 0) refl (λ x y h. has_right (heard d) g1.seen x y (has_right (heard c) g.seen x y h)) (below v 3) (below u 0) (half_3 A B v u) (inr (inl (omega arith, refl))) (inl (omega arith, refl))),
    )
back_at gdt o first (suc (suc (suc (suc at)))) g e f m = absurd (omega arith)

-- The link is read, in one group or in two.
pub keeps_back : (gdt : TableReg) (o : Task) (g : Stage) → g.phase ≡ Free (Some o) true → Keeps gdt (GotLink o g) g (field_phrase roles.Back o.base 0)
unfolding field_phrase pieces field_at
keeps_back gdt o g e = back_at gdt o _ _ g e refl refl
