-- The table is kept by reads, by stores, by accessed bytes, by claims and by releases.
use Rattle.std.proofs.Common.{arith, ◌≡◌, ℕ, ◌/◌, ◌%◌, ◌^◌, ◌<◌, ◌==◌, ◌∙◌, ◌⊎◌, inl, inr, refl, sym, ap, subst, List, [], ◌∷◌, ◌++◌, Bool, true, false, bit_or, bit_and, if◌then◌else◌, ◌&&◌, eqb}
use Rattle.m386_base.specs.declared.ask.Ask.{Ask}
use Rattle.m386_base.specs.declared.ask.Cycle.{Cycle}
use Rattle.m386_base.specs.declared.ask.Role.{Role}
use Rattle.m386_base.specs.declared.ask.Space.{Space}
use Rattle.m386_base.specs.declared.ask.Space.TheVariants as spaces
use Rattle.m386_base.proofs.Finite.{all_below, each_below}
use Rattle.m386_base.specs.Bytes.{bytes_of, Has, heard, bytes_in}
use Rattle.m386_memory.specs.Contents.{Contents, byte_in, holds_byte, Stand}
use Rattle.m386_memory.specs.History.{byte_after, byte_then, writes_in, Consistent, Unsplit}
use Rattle.m386_access.specs.Ordinary.{desc_byte, NamesGdt, IsSegmentByte, IsByteWritten}
use Rattle.m386_stages.specs.Stages.{Stage, Phase, hears, shut, IsFreeByte}
use Rattle.m386_exclusion.specs.Table.{InGdt, IsTssByte, Kin, Same, Marked, Used, AreBytes, IsTable, HasRead, IsTask}
use Rattle.m386_state.specs.declared.segment.TableReg.{TableReg}

pub same_number : (a b : ℕ) → eqb a b ≡ true → a ≡ b
same_number a b k = grind (arith, k)

twice_used : (i : ℕ) → i < 256 → bit_or (bit_or i 1) 1 ≡ bit_or i 1
unfolding all_below
twice_used i l = same_number _ _ (each_below 256 (λ x. eqb (bit_or (bit_or x 1) 1) (bit_or x 1)) refl i l)

twice_busy : (i : ℕ) → i < 256 → bit_or (bit_or i 2) 2 ≡ bit_or i 2
unfolding all_below
twice_busy i l = same_number _ _ (each_below 256 (λ x. eqb (bit_or (bit_or x 2) 2) (bit_or x 2)) refl i l)

busy_again : (i : ℕ) → i < 256 → bit_or (bit_and i 0xfd) 2 ≡ bit_or i 2
unfolding all_below
busy_again i l = same_number _ _ (each_below 256 (λ x. eqb (bit_or (bit_and x 0xfd) 2) (bit_or x 2)) refl i l)

free_again : (i : ℕ) → i < 256 → bit_and (bit_or i 2) 0xfd ≡ bit_and i 0xfd
unfolding all_below
free_again i l = same_number _ _ (each_below 256 (λ x. eqb (bit_and (bit_or x 2) 0xfd) (bit_and x 0xfd)) refl i l)

twice_free : (i : ℕ) → i < 256 → bit_and (bit_and i 0xfd) 0xfd ≡ bit_and i 0xfd
unfolding all_below
twice_free i l = same_number _ _ (each_below 256 (λ x. eqb (bit_and (bit_and x 0xfd) 0xfd) (bit_and x 0xfd)) refl i l)

-- S is as it was
s_busy : (i : ℕ) → i < 256 → bit_or i 2 / 2 ^ 4 % 2 ≡ i / 2 ^ 4 % 2
unfolding all_below
s_busy i l = same_number _ _ (each_below 256 (λ x. eqb (bit_or x 2 / 2 ^ 4 % 2) (x / 2 ^ 4 % 2)) refl i l)

s_free : (i : ℕ) → i < 256 → bit_and i 0xfd / 2 ^ 4 % 2 ≡ i / 2 ^ 4 % 2
unfolding all_below
s_free i l = same_number _ _ (each_below 256 (λ x. eqb (bit_and x 0xfd / 2 ^ 4 % 2) (x / 2 ^ 4 % 2)) refl i l)

pub s_used : (i : ℕ) → i < 256 → bit_or i 1 / 2 ^ 4 % 2 ≡ i / 2 ^ 4 % 2
unfolding all_below
s_used i l = same_number _ _ (each_below 256 (λ x. eqb (bit_or x 1 / 2 ^ 4 % 2) (x / 2 ^ 4 % 2)) refl i l)

pub free_is_tss : (b : ℕ) → IsFreeByte b → IsTssByte b
free_is_tss b f = let h : b % 2 ^ 4 ≡ 9 = f.2 in (f.0, f.1, omega (arith, h), omega (arith, h))

pub zero_one : (n : ℕ) → n ≡ 0 → n ≡ 1 → ⊥
zero_one n z o = omega (arith, z, o)

-- the accessed bit of what is kin
pub kin_touched : (first : Contents) (gdt : TableReg) (s b : ℕ) → AreBytes first → NamesGdt gdt s → IsSegmentByte b → Kin first gdt (desc_byte gdt s 5) b → Kin first gdt (desc_byte gdt s 5) (bit_or b 1)
kin_touched first gdt s b small n i (Same e) = Used s n refl (subst IsSegmentByte e i) (ap (λ x. bit_or x 1) e)
kin_touched first gdt s b small n i (Marked t m p k (inl e)) = let a = byte_in first spaces.Memory (desc_byte gdt s 5) in absurd (zero_one (b / 2 ^ 4 % 2) (ap (λ x. x / 2 ^ 4 % 2) e ∙ s_busy a (small _) ∙ k.1) i)
kin_touched first gdt s b small n i (Marked t m p k (inr e)) = let a = byte_in first spaces.Memory (desc_byte gdt s 5) in absurd (zero_one (b / 2 ^ 4 % 2) (ap (λ x. x / 2 ^ 4 % 2) e ∙ s_free a (small _) ∙ k.1) i)
kin_touched first gdt s b small n i (Used t m p k e) = Used t m p k (ap (λ x. bit_or x 1) e ∙ twice_used _ (small _))

-- the busy bit set
pub kin_claimed : (first : Contents) (gdt : TableReg) (s b : ℕ) → AreBytes first → NamesGdt gdt s → IsFreeByte b → Kin first gdt (desc_byte gdt s 5) b → Kin first gdt (desc_byte gdt s 5) (bit_or b 2)
kin_claimed first gdt s b small n f (Same e) = Marked s n refl (subst IsTssByte e (free_is_tss b f)) (inl (ap (λ x. bit_or x 2) e))
kin_claimed first gdt s b small n f (Marked t m p k (inl e)) = Marked t m p k (inl (ap (λ x. bit_or x 2) e ∙ twice_busy _ (small _)))
kin_claimed first gdt s b small n f (Marked t m p k (inr e)) = Marked t m p k (inl (ap (λ x. bit_or x 2) e ∙ busy_again _ (small _)))
kin_claimed first gdt s b small n f (Used t m p k e) = absurd (zero_one (b / 2 ^ 4 % 2) f.1 (ap (λ x. x / 2 ^ 4 % 2) e ∙ s_used _ (small _) ∙ k))

-- the busy bit cleared, of a present TSS of the image
pub kin_released : (first : Contents) (gdt : TableReg) (s b : ℕ) → AreBytes first → IsTask first gdt s → Kin first gdt (desc_byte gdt s 5) b → Kin first gdt (desc_byte gdt s 5) (bit_and b 0xfd)
kin_released first gdt s b small t (Same e) = Marked s t.0 refl t.1 (inr (ap (λ x. bit_and x 0xfd) e))
kin_released first gdt s b small t (Marked u m p k (inl e)) = Marked u m p k (inr (ap (λ x. bit_and x 0xfd) e ∙ free_again _ (small _)))
kin_released first gdt s b small t (Marked u m p k (inr e)) = Marked u m p k (inr (ap (λ x. bit_and x 0xfd) e ∙ twice_free _ (small _)))
kin_released first gdt s b small t (Used u m p k e) = absurd (zero_one _ t.1.1 k)

-- a read changes no byte
pub read_keeps : (first : Contents) (x : Cycle) (older : List Cycle) (s : Space) (a : ℕ) → x.ask.write ≡ false → byte_after first (x ∷ older) s a ≡ byte_after first older s a
unfolding byte_after
read_keeps first x older s a w = rw w refl

-- what is heard stands there
pub stands_heard : (byte : ℕ → ℕ) (bs : List (ℕ × ℕ)) (a b : ℕ) → Stand byte bs → Has bs a b → byte a ≡ b
unfolding Stand
stands_heard byte [] a b s h = absurd h
stands_heard byte (x ∷ xs) a b s (inl e) = ap byte (sym e.0) ∙ s.0 ∙ e.1
stands_heard byte (x ∷ xs) a b s (inr h) = stands_heard byte xs a b s.1 h

pub heard_stands : (first : Contents) (older : List Cycle) (c : Ask) (sp : Space) → c.space ≡ sp → Stand (byte_after first older c.space) (bytes_of c) → (a b : ℕ) → Has (bytes_in c.space (bytes_of c)) a b → byte_after first older spaces.Memory a ≡ b
heard_stands first older c spaces.Memory e s a b h =
    let s2 : Stand (byte_after first older spaces.Memory) (bytes_of c) = subst (λ x. Stand (byte_after first older x) (bytes_of c)) e s in
    let h2 : Has (bytes_of c) a b = subst (λ x. Has (bytes_in x (bytes_of c)) a b) e h in
    stands_heard (byte_after first older spaces.Memory) (bytes_of c) a b s2 h2
heard_stands first older c spaces.Port e s a b h = let h2 : Has [] a b = subst (λ x. Has (bytes_in x (bytes_of c)) a b) e h in absurd h2

pub either_has : (xs ys : List (ℕ × ℕ)) (a b : ℕ) → Has (xs ++ ys) a b → Has xs a b ⊎ Has ys a b
either_has [] ys a b h = inr h
either_has (x ∷ xs) ys a b (inl e) = inl (inl e)
either_has (x ∷ xs) ys a b (inr h) = go (either_has xs ys a b h)
  where
    go : Has xs a b ⊎ Has ys a b → Has (x ∷ xs) a b ⊎ Has ys a b
    go (inl i) = inl (inr i)
    go (inr i) = inr i

-- The table is kept by every read, whatever its role and its phase.
pub table_read : (first : Contents) (gdt : TableReg) (x : Cycle) (g : Stage) (ph : Phase) (older : List Cycle) → x.ask.write ≡ false → Consistent first (x ∷ older) → Unsplit (x ∷ older) → IsTable first gdt older → HasRead first gdt x.cpu g older
    → IsTable first gdt (x ∷ older) × HasRead first gdt x.cpu (hears g x.ask ph) (x ∷ older)
unfolding Consistent Unsplit
table_read first gdt x g ph older w c u t r = (
  λ a i. subst (Kin first gdt a) (sym (read_keeps first x older spaces.Memory a w)) (t a i),
  record { seen = λ a b i h. seen a b i (either_has (heard x.ask) g.seen a b h); group = λ l a b h. read_keeps first x older spaces.Memory a w ∙ group a b (either_has (heard x.ask) _ a b h) },
)
  where
    seen : (a b : ℕ) → InGdt gdt a → Has (heard x.ask) a b ⊎ Has g.seen a b → Kin first gdt a b
    seen a b i (inl h) = subst (Kin first gdt a) (heard_stands first older x.ask x.ask.space refl (c.0 w) a b h) (t a i)
    seen a b i (inr h) = r.seen a b i h

    group : (a b : ℕ) → Has (heard x.ask) a b ⊎ Has (if x.ask.joined then g.group else []) a b → byte_after first older spaces.Memory a ≡ b
    group a b (inl h) = heard_stands first older x.ask x.ask.space refl (c.0 w) a b h
    group a b (inr h) = joined x.ask.joined refl h
      where
        joined : (j : Bool) → x.ask.joined ≡ j → Has (if j then g.group else []) a b → byte_after first older spaces.Memory a ≡ b
        joined true e h = r.group (u.0 e) a b h
        joined false e h = absurd h

-- a byte written is there, or what stood there before
pub one_written : (first : Contents) (x : Cycle) (older : List Cycle) (place v a : ℕ) → bytes_of x.ask ≡ (place, v) ∷ [] → ((a ≡ place) × (byte_after first (x ∷ older) spaces.Memory a ≡ v)) ⊎ (byte_after first (x ∷ older) spaces.Memory a ≡ byte_after first older spaces.Memory a)
unfolding byte_after
one_written first x older place v a e = go (writes_in x spaces.Memory && holds_byte first spaces.Memory a) refl (place == a) refl
  where
    before : ℕ
    before = byte_after first older spaces.Memory a

    now : ℕ → ℕ
    now n = byte_then first x spaces.Memory a before

    go : (b : Bool) → (writes_in x spaces.Memory && holds_byte first spaces.Memory a) ≡ b → (c : Bool) → (place == a) ≡ c → ((a ≡ place) × (byte_then first x spaces.Memory a before ≡ v)) ⊎ (byte_then first x spaces.Memory a before ≡ before)
    go false f c q = inr (rw f refl)
    go true f true q = inl (sym (same_number place a q), rw (f, e, q) refl)
    go true f false q = inr (rw (f, e, q) refl)

-- The table is kept by a byte that is written in its locked group, where it stays kin.
pub table_byte : (first : Contents) (gdt : TableReg) (x : Cycle) (g : Stage) (ph : Phase) (older : List Cycle) (role : Role) (s b v : ℕ) → IsByteWritten x.ask role (desc_byte gdt s 5) v → Has g.group (desc_byte gdt s 5) b → Unsplit (x ∷ older) → IsTable first gdt older → HasRead first gdt x.cpu g older
    → (Kin first gdt (desc_byte gdt s 5) b → Kin first gdt (desc_byte gdt s 5) v)
    → IsTable first gdt (x ∷ older) × HasRead first gdt x.cpu (shut g ph) (x ∷ older)
unfolding Unsplit
table_byte first gdt x g ph older role s b v w h u t r k = (
  λ a i. go a i (one_written first x older (desc_byte gdt s 5) v a w.bytes),
  record { seen = r.seen; group = λ l a b h. absurd h },
)
  where
    go : (a : ℕ) → InGdt gdt a → ((a ≡ desc_byte gdt s 5) × (byte_after first (x ∷ older) spaces.Memory a ≡ v)) ⊎ (byte_after first (x ∷ older) spaces.Memory a ≡ byte_after first older spaces.Memory a) → Kin first gdt a (byte_after first (x ∷ older) spaces.Memory a)
    go a i (inr e) = subst (Kin first gdt a) (sym e) (t a i)
    go a i (inl e) =
        let stood : byte_after first older spaces.Memory (desc_byte gdt s 5) ≡ b = r.group (u.0 w.joined) (desc_byte gdt s 5) b h in
        let i2 : InGdt gdt (desc_byte gdt s 5) = subst (InGdt gdt) e.0 i in
        let kb : Kin first gdt (desc_byte gdt s 5) b = subst (Kin first gdt (desc_byte gdt s 5)) stood (t (desc_byte gdt s 5) i2) in
        let kv : Kin first gdt a v = subst (λ y. Kin first gdt y v) (sym e.0) (k kb) in
        subst (Kin first gdt a) (sym e.1) kv
