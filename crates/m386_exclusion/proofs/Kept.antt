-- The table and the tasks of a stage are kept by each kind of cycle but the release of IRET.
use Rattle.std.proofs.Common.{arith, ◌≡◌, ◌≢◌, ℕ, ◌+◌, ◌*◌, ◌/◌, ◌%◌, ◌^◌, ◌<◌, ◌≤◌, ◌==◌, ◌∙◌, inl, inr, refl, sym, ap, subst, List, [], ◌∷◌, Bool, true, false, bit_or, bit_and, ◌&&◌, Option, Some, None, nat_le}
use Rattle.std.specs.List.{AllByRecursion}
use Rattle.std.proofs.lemmas.Bool.Decides.{nat_tests}
use Rattle.m386_base.specs.declared.ask.Ask.{Ask}
use Rattle.m386_base.specs.declared.ask.Cycle.{Cycle}
use Rattle.m386_base.specs.declared.ask.Role.{Role}
use Rattle.m386_base.specs.declared.ask.Role.TheVariants as roles
use Rattle.m386_base.specs.declared.ask.Space.{Space}
use Rattle.m386_base.specs.declared.ask.Space.TheVariants as spaces
use Rattle.m386_base.specs.Bytes.{bytes_of, byte_at_place, Has, heard, bytes_in}
use Rattle.m386_memory.specs.Contents.{Contents, byte_in, holds_byte}
use Rattle.m386_memory.specs.History.{byte_after, byte_then, writes_in, Consistent, Unsplit}
use Rattle.m386_access.specs.Ordinary.{desc_byte, NamesGdt}
use Rattle.m386_stages.specs.Stages.{Task, Stage, Phase, Free, Backing, Turn, Hears, Stores, Touches, Pops_set, Claims, Claims_start, Claims_ltr, Saves, Saves_flags, Saves_back, Links_whole, Links_low, Links_high, Releases, Backs, Backs_on, Returns, Loads_flags, shut, segment_byte, IsBase, IsFreeByte, IsWritten, IsSaved, IsSavedAny, IsClaim, IsRelease}
use Rattle.m386_exclusion.proofs.Table.{table_read, table_byte, kin_touched, kin_claimed, kin_released, zero_one, free_is_tss, s_used, same_number}
use Rattle.m386_exclusion.specs.Table.{InGdt, IsTssByte, Kin, Same, Marked, Used, AreBytes, IsTable, HasRead, KeepsOff, IsTidyTable, IsRight, AreRight, IsSound, image_base}
use Rattle.m386_desc.specs.Selector.{is_in_table}
use Rattle.m386_state.specs.declared.segment.TableReg.{TableReg}

-- nothing at a place
none_there : (bs : List (ℕ × ℕ)) (a : ℕ) → ((b : ℕ) → Has bs a b → ⊥) → byte_at_place bs a ≡ None
none_there [] a h = refl
none_there (x ∷ xs) a h = go (x.0 == a) refl (none_there xs a (λ b i. h b (inr i)))
  where
    go : (b : Bool) → (x.0 == a) ≡ b → byte_at_place xs a ≡ None → byte_at_place (x ∷ xs) a ≡ None
    go true e i = absurd (h x.1 (inl (same_number x.0 a e, refl)))
    go false e i = rw e i

pub off_written : (first : Contents) (x : Cycle) (older : List Cycle) (a : ℕ) → ((b : ℕ) → Has (heard x.ask) a b → ⊥) → byte_after first (x ∷ older) spaces.Memory a ≡ byte_after first older spaces.Memory a
unfolding byte_after
off_written first x older a h = space x.ask.space refl
  where
    before : ℕ
    before = byte_after first older spaces.Memory a

    go : (b : Bool) → (writes_in x spaces.Memory && holds_byte first spaces.Memory a) ≡ b → byte_at_place (bytes_of x.ask) a ≡ None → byte_then first x spaces.Memory a before ≡ before
    go true f n = rw (f, n) refl
    go false f n = rw f refl

    port : (b : Bool) → (b && (1 == 0) && holds_byte first spaces.Memory a) ≡ false
    port true = refl
    port false = refl

    space : (s : Space) → x.ask.space ≡ s → byte_then first x spaces.Memory a before ≡ before
    space spaces.Memory e = go (writes_in x spaces.Memory && holds_byte first spaces.Memory a) refl (none_there (bytes_of x.ask) a (λ b i. h b (subst (λ s. Has (bytes_in s (bytes_of x.ask)) a b) (sym e) i)))
    space spaces.Port e =
        let f : (writes_in x spaces.Memory && holds_byte first spaces.Memory a) ≡ false = rw e (port x.ask.write) in
        rw f refl

-- The table is kept by a write outside the GDT.
table_off : (first : Contents) (gdt : TableReg) (x : Cycle) (g : Stage) (ph : Phase) (older : List Cycle) → ((a b : ℕ) → InGdt gdt a → Has (heard x.ask) a b → ⊥) → IsTable first gdt older → HasRead first gdt x.cpu g older
    → IsTable first gdt (x ∷ older) × HasRead first gdt x.cpu (shut g ph) (x ∷ older)
table_off first gdt x g ph older o t r = (λ a i. subst (Kin first gdt a) (sym (off_written first x older a (λ b h. o a b i h))) (t a i), record { seen = r.seen; group = λ l a b h. absurd h })

pub all_has : (P : ℕ → Type 0) (bs : List (ℕ × ℕ)) (a b : ℕ) → AllByRecursion (λ (x : ℕ × ℕ). P x.0) bs → Has bs a b → P a
all_has P [] a b h i = absurd i
all_has P (x ∷ xs) a b h (inl e) = subst P e.0 h.0
all_has P (x ∷ xs) a b h (inr i) = all_has P xs a b h.1 i

-- what a switch writes to a segment lies in it
pub heard_memory : (c : Ask) (what : Role) (a b : ℕ) → IsWritten c what → Has (heard c) a b → Has (bytes_of c) a b
heard_memory c what a b w h = subst (λ s. Has (bytes_in s (bytes_of c)) a b) w.space h

off_segment : (first : Contents) (gdt : TableReg) (t : Task) (j a : ℕ) → IsTidyTable first gdt → IsRight first gdt t → j < 104 → a ≡ segment_byte t.base j → InGdt gdt a → ⊥
off_segment first gdt t j a tidy r l e i = tidy.apart t.selector j r.0 l (subst (InGdt gdt) (e ∙ ap (λ b. segment_byte b j) r.1) i)

off_saved : (first : Contents) (gdt : TableReg) (t : Task) (c : Ask) (a b : ℕ) → IsTidyTable first gdt → IsRight first gdt t → IsWritten c roles.Save → AllByRecursion (λ (x : ℕ × ℕ). IsSaved t.base x.0) (bytes_of c) → InGdt gdt a → Has (heard c) a b → ⊥
off_saved first gdt t c a b tidy r w all i h =
    let s : IsSaved t.base a = all_has (IsSaved t.base) (bytes_of c) a b all (heard_memory c roles.Save a b w h) in
    off_segment first gdt t s.0 a tidy r (let l : s.0 < 96 = s.2 in omega (arith, l)) s.4 i

off_saved_any : (first : Contents) (gdt : TableReg) (t : Task) (c : Ask) (a b : ℕ) → IsTidyTable first gdt → IsRight first gdt t → IsWritten c roles.Save → AllByRecursion (λ (x : ℕ × ℕ). IsSavedAny t.base x.0) (bytes_of c) → InGdt gdt a → Has (heard c) a b → ⊥
off_saved_any first gdt t c a b tidy r w all i h =
    let s : IsSavedAny t.base a = all_has (IsSavedAny t.base) (bytes_of c) a b all (heard_memory c roles.Save a b w h) in
    off_segment first gdt t s.0 a tidy r (let l : s.0 < 96 = s.2 in omega (arith, l)) s.3 i

off_one : (first : Contents) (gdt : TableReg) (t : Task) (c : Ask) (j v a b : ℕ) → IsTidyTable first gdt → IsRight first gdt t → j < 104 → IsWritten c roles.Link → bytes_of c ≡ (segment_byte t.base j, v) ∷ [] → InGdt gdt a → Has (heard c) a b → ⊥
off_one first gdt t c j v a b tidy r l w e i h = go (subst (λ bs. Has bs a b) e (heard_memory c roles.Link a b w h))
  where
    go : Has ((segment_byte t.base j, v) ∷ []) a b → ⊥
    go (inl k) = off_segment first gdt t j a tidy r l (sym k.0) i
    go (inr k) = absurd k

off_two : (first : Contents) (gdt : TableReg) (t : Task) (c : Ask) (v u a b : ℕ) → IsTidyTable first gdt → IsRight first gdt t → IsWritten c roles.Link → bytes_of c ≡ (segment_byte t.base 0, v) ∷ (segment_byte t.base 1, u) ∷ [] → InGdt gdt a → Has (heard c) a b → ⊥
off_two first gdt t c v u a b tidy r w e i h = go (subst (λ bs. Has bs a b) e (heard_memory c roles.Link a b w h))
  where
    go : Has ((segment_byte t.base 0, v) ∷ (segment_byte t.base 1, u) ∷ []) a b → ⊥
    go (inl k) = off_segment first gdt t 0 a tidy r (omega arith) (sym k.0) i
    go (inr (inl k)) = off_segment first gdt t 1 a tidy r (omega arith) (sym k.0) i
    go (inr (inr k)) = absurd k

-- bytes of descriptors stand in the GDT, and only one of each is its access byte
pub in_gdt : (gdt : TableReg) (s k : ℕ) → gdt.base + gdt.limit < 2 ^ 32 → NamesGdt gdt s → k < 8 → InGdt gdt (desc_byte gdt s k)
unfolding is_in_table
in_gdt gdt s k f n l =
    let h : nat_le (s / 8 * 8 + 7) gdt.limit ≡ true = n.inside in
    let m : s / 8 * 8 + 7 ≤ gdt.limit = grind (arith, nat_tests, h) in
    (omega (arith, m, f, l), omega (arith, m, f, l))

no_access : (base q r k : ℕ) → k < 8 → k ≢ 5 → ((base + q * 8) % 2 ^ 32 + k) % 2 ^ 32 ≡ ((base + r * 8) % 2 ^ 32 + 5) % 2 ^ 32 → ⊥
no_access base q r k l n e = n (omega (arith, l, e))

byte_same : (first : Contents) (gdt : TableReg) (s k b : ℕ) → k < 8 → k ≢ 5 → Kin first gdt (desc_byte gdt s k) b → b ≡ byte_in first spaces.Memory (desc_byte gdt s k)
byte_same first gdt s k b l n (Same e) = e
byte_same first gdt s k b l n (Marked t m p i o) = absurd (no_access gdt.base (s / 8) (t / 8) k l n p)
byte_same first gdt s k b l n (Used t m p i o) = absurd (no_access gdt.base (s / 8) (t / 8) k l n p)

pub base_right : (first : Contents) (gdt : TableReg) (cpu : ℕ) (g : Stage) (older : List Cycle) (t : Task) → IsTidyTable first gdt → HasRead first gdt cpu g older → NamesGdt gdt t.selector → IsBase gdt g.seen t → t.base ≡ image_base first gdt t.selector
base_right first gdt cpu g older t tidy r n b =
    let at : (k v : ℕ) → k < 8 → k ≢ 5 → Has g.seen (desc_byte gdt t.selector k) v → v ≡ byte_in first spaces.Memory (desc_byte gdt t.selector k) = λ k v l q h. byte_same first gdt t.selector k v l q (r.seen _ v (in_gdt gdt t.selector k tidy.fits n l) h) in
    let e2 = at 2 b.b2 (omega arith) (λ q. omega arith) b.h2 in
    let e3 = at 3 b.b3 (omega arith) (λ q. omega arith) b.h3 in
    let e4 = at 4 b.b4 (omega arith) (λ q. omega arith) b.h4 in
    let e7 = at 7 b.b7 (omega arith) (λ q. omega arith) b.h7 in
    b.base ∙ (λ i. e2 i + e3 i * 2 ^ 8 + e4 i * 2 ^ 16 + e7 i * 2 ^ 24)

-- what a locked group has read of the GDT is kin
pub group_kin : (first : Contents) (gdt : TableReg) (x : Cycle) (g : Stage) (older : List Cycle) (a b : ℕ) → x.ask.joined ≡ true → Unsplit (x ∷ older) → IsTable first gdt older → HasRead first gdt x.cpu g older → InGdt gdt a → Has g.group a b → Kin first gdt a b
unfolding Unsplit
group_kin first gdt x g older a b j u t r i h = subst (Kin first gdt a) (r.group (u.0 j) a b h) (t a i)

free_task : (first : Contents) (gdt : TableReg) (s b : ℕ) → AreBytes first → IsFreeByte b → Kin first gdt (desc_byte gdt s 5) b → IsTssByte (byte_in first spaces.Memory (desc_byte gdt s 5))
free_task first gdt s b small f (Same e) = subst IsTssByte e (free_is_tss b f)
free_task first gdt s b small f (Marked t m p k o) = k
free_task first gdt s b small f (Used t m p k e) = absurd (zero_one (b / 2 ^ 4 % 2) f.1 (ap (λ x. x / 2 ^ 4 % 2) e ∙ s_used _ (small _) ∙ k))

-- what is claimed is right
pub claim_right : (first : Contents) (gdt : TableReg) (x : Cycle) (g : Stage) (older : List Cycle) (role : Role) (t : Task) → IsTidyTable first gdt → Unsplit (x ∷ older) → IsTable first gdt older → HasRead first gdt x.cpu g older → IsClaim gdt g x.ask role t → IsRight first gdt t
claim_right first gdt x g older role t tidy u tb r c =
    ((c.names, free_task first gdt t.selector c.b tidy.small c.free (group_kin first gdt x g older _ c.b c.written.joined u tb r (in_gdt gdt t.selector 5 tidy.fits c.names (omega arith)) c.read)), base_right first gdt x.cpu g older t tidy r c.names c.base)

-- a claim
claim_keeps : (first : Contents) (gdt : TableReg) (x : Cycle) (g : Stage) (ph : Phase) (older : List Cycle) (role : Role) (t : Task) → IsTidyTable first gdt → Unsplit (x ∷ older) → IsTable first gdt older → HasRead first gdt x.cpu g older → IsClaim gdt g x.ask role t → IsTable first gdt (x ∷ older) × HasRead first gdt x.cpu (shut g ph) (x ∷ older)
claim_keeps first gdt x g ph older role t tidy u tb r c = table_byte first gdt x g ph older role t.selector c.b (bit_or c.b 2) c.written c.read u tb r (λ k. kin_claimed first gdt t.selector c.b tidy.small c.names c.free k)

phase_is : {g2 h : Stage} → g2 ≡ h → g2.phase ≡ h.phase
phase_is e = ap (λ (s : Stage). s.phase) e

-- from what holds of the stage written out to what holds of the stage
sound_at : (first : Contents) (gdt : TableReg) (x : Cycle) (older : List Cycle) (g2 h : Stage) → g2 ≡ h → IsTable first gdt (x ∷ older) × HasRead first gdt x.cpu h (x ∷ older) → AreRight first gdt h.phase → IsSound first gdt x.cpu g2 (x ∷ older)
sound_at first gdt x older g2 h e k r = subst (λ s. IsSound first gdt x.cpu s (x ∷ older)) (sym e) (record { table = k.0; read = k.1; right = r })

-- The table and the tasks of a stage are kept by each kind of cycle, where what IRET returns to is right.
pub sound_with : (first : Contents) (gdt : TableReg) (x : Cycle) (g g2 : Stage) (older : List Cycle) → IsTidyTable first gdt → Consistent first (x ∷ older) → Unsplit (x ∷ older) → KeepsOff gdt x.ask → ((o t : Task) (bs : List (ℕ × ℕ)) (lo hi : ℕ) → g.phase ≡ Backing o bs → Has bs (segment_byte o.base 0) lo → Has bs (segment_byte o.base 1) hi → t.selector ≡ lo + hi * 2 ^ 8 → NamesGdt gdt t.selector → IsBase gdt g.seen t → IsRelease gdt g x.ask roles.RelRet o → IsRight first gdt t) → Turn gdt g x.ask g2 → IsSound first gdt x.cpu g older → IsSound first gdt x.cpu g2 (x ∷ older)
sound_with first gdt x g g2 older tidy c u off nr (Hears w e) s = sound_at first gdt x older g2 _ e (table_read first gdt x g g.phase older w c u s.table s.read) s.right
sound_with first gdt x g g2 older tidy c u off nr (Stores w r e) s = sound_at first gdt x older g2 _ e (table_off first gdt x g g.phase older (λ a b i h. off w r a i b h) s.table s.read) s.right
sound_with first gdt x g g2 older tidy c u off nr (Touches t b n h i w e) s = sound_at first gdt x older g2 _ e (table_byte first gdt x g g.phase older roles.GdtAcc t b (bit_or b 1) w h u s.table s.read (λ k. kin_touched first gdt t b tidy.small n i k)) s.right
sound_with first gdt x g g2 older tidy c u off nr (Pops_set tr nt p w r q e) s = sound_at first gdt x older g2 _ e (table_read first gdt x g _ older w c u s.table s.read) (free tr nt (subst (AreRight first gdt) p s.right))
  where
    free : (t : Option Task) (n : Bool) → AreRight first gdt (Free t n) → AreRight first gdt (Free t true)
    free None n h = tt
    free (Some o) n h = h
sound_with first gdt x g g2 older tidy c u off nr (Claims k nt o t p q e) s = sound_at first gdt x older g2 _ e (claim_keeps first gdt x g _ older _ t tidy u s.table s.read q) (subst (AreRight first gdt) p s.right, claim_right first gdt x g older _ t tidy u s.table s.read q)
sound_with first gdt x g g2 older tidy c u off nr (Claims_start tr nt t p q e) s = sound_at first gdt x older g2 _ e (claim_keeps first gdt x g _ older _ t tidy u s.table s.read q) (claim_right first gdt x g older _ t tidy u s.table s.read q)
sound_with first gdt x g g2 older tidy c u off nr (Claims_ltr tr nt t p q e) s = sound_at first gdt x older g2 _ e (claim_keeps first gdt x g _ older _ t tidy u s.table s.read q) (claim_right first gdt x g older _ t tidy u s.table s.read q)
sound_with first gdt x g g2 older tidy c u off nr (Saves k nt z o t p w h e) s = let r : IsRight first gdt o × IsRight first gdt t = subst (AreRight first gdt) p s.right in sound_at first gdt x older g2 _ e (table_off first gdt x g _ older (λ a b i j. off_saved first gdt o x.ask a b tidy r.0 w h i j) s.table s.read) s.right
sound_with first gdt x g g2 older tidy c u off nr (Saves_flags k nt z o t b p w h i f e) s = let r : IsRight first gdt o × IsRight first gdt t = subst (AreRight first gdt) p s.right in sound_at first gdt x older g2 _ e (table_off first gdt x g _ older (λ a v j l. off_saved_any first gdt o x.ask a v tidy r.0 w h j l) s.table s.read) r
sound_with first gdt x g g2 older tidy c u off nr (Saves_back o bs p w h e) s = let r : IsRight first gdt o = subst (AreRight first gdt) p s.right in sound_at first gdt x older g2 _ e (table_off first gdt x g _ older (λ a v j l. off_saved_any first gdt o x.ask a v tidy r w h j l) s.table s.read) s.right
sound_with first gdt x g g2 older tidy c u off nr (Links_whole nt o t p w b e) s = let r : IsRight first gdt o × IsRight first gdt t = subst (AreRight first gdt) p s.right in sound_at first gdt x older g2 _ e (table_off first gdt x g _ older (λ a v j l. off_two first gdt t x.ask _ _ a v tidy r.1 w b j l) s.table s.read) r.1
sound_with first gdt x g g2 older tidy c u off nr (Links_low nt o t p w b e) s = let r : IsRight first gdt o × IsRight first gdt t = subst (AreRight first gdt) p s.right in sound_at first gdt x older g2 _ e (table_off first gdt x g _ older (λ a v j l. off_one first gdt t x.ask 0 _ a v tidy r.1 (omega arith) w b j l) s.table s.read) r
sound_with first gdt x g g2 older tidy c u off nr (Links_high o t p w b e) s = let r : IsRight first gdt o × IsRight first gdt t = subst (AreRight first gdt) p s.right in sound_at first gdt x older g2 _ e (table_off first gdt x g _ older (λ a v j l. off_one first gdt t x.ask 1 _ a v tidy r.1 (omega arith) w b j l) s.table s.read) r.1
sound_with first gdt x g g2 older tidy c u off nr (Releases nt o t p q e) s = let r : IsRight first gdt o × IsRight first gdt t = subst (AreRight first gdt) p s.right in sound_at first gdt x older g2 _ e (table_byte first gdt x g _ older roles.RelJmp o.selector q.b (bit_and q.b 0xfd) q.written q.read u s.table s.read (λ k. kin_released first gdt o.selector q.b tidy.small r.0.0 k)) r.1
sound_with first gdt x g g2 older tidy c u off nr (Backs o p w r e) s = sound_at first gdt x older g2 _ e (table_read first gdt x g _ older w c u s.table s.read) (subst (AreRight first gdt) p s.right)
sound_with first gdt x g g2 older tidy c u off nr (Backs_on o bs p w r e) s = sound_at first gdt x older g2 _ e (table_read first gdt x g _ older w c u s.table s.read) (subst (AreRight first gdt) p s.right)
sound_with first gdt x g g2 older tidy c u off nr (Returns o t bs lo hi p l h q n b r e) s = let d : IsRight first gdt o = subst (AreRight first gdt) p s.right in sound_at first gdt x older g2 _ e (table_byte first gdt x g _ older roles.RelRet o.selector r.b (bit_and r.b 0xfd) r.written r.read u s.table s.read (λ k. kin_released first gdt o.selector r.b tidy.small d.0 k)) (nr o t bs lo hi p l h q n b r)
sound_with first gdt x g g2 older tidy c u off nr (Loads_flags t b p w r h e) s = sound_at first gdt x older g2 _ e (table_read first gdt x g _ older w c u s.table s.read) (subst (AreRight first gdt) p s.right)

-- The same of each kind of cycle but the release of IRET.
pub sound_next : (first : Contents) (gdt : TableReg) (x : Cycle) (g g2 : Stage) (older : List Cycle) → IsTidyTable first gdt → Consistent first (x ∷ older) → Unsplit (x ∷ older) → KeepsOff gdt x.ask → (x.ask.role ≡ roles.RelRet → ⊥) → Turn gdt g x.ask g2 → IsSound first gdt x.cpu g older → IsSound first gdt x.cpu g2 (x ∷ older)
sound_next first gdt x g g2 older tidy c u off nr t s = sound_with first gdt x g g2 older tidy c u off (λ o t bs lo hi p l h q n b r. absurd (nr r.written.role)) t s
