-- Places of access bytes and of segments lie apart; a task by its number and by its selector.
use Rattle.std.proofs.Common.{arith, ◌≡◌, ◌≢◌, ℕ, ◌+◌, ◌*◌, ◌/◌, ◌%◌, ◌^◌, ◌<◌, ◌≤◌, ◌==◌, ◌∙◌, ◌⊎◌, inl, inr, sym, ap, subst, true, false, nat_le, nat_lt}
use Rattle.std.proofs.lemmas.Bool.Decides.{nat_tests}
use Rattle.m386_base.specs.declared.ask.Space.TheVariants.{Memory}
use Rattle.m386_desc.specs.Selector.{is_in_table, is_null_selector, names_ldt}
use Rattle.m386_memory.specs.Contents.{Contents, byte_in}
use Rattle.m386_access.specs.Ordinary.{NamesGdt, desc_byte}
use Rattle.m386_stages.specs.Stages.{Task, segment_byte}
use Rattle.m386_exclusion.specs.Table.{InGdt, IsTssByte, IsTask as IsTaskBy, IsRight, image_base}
use Rattle.m386_exclusion.specs.World.{Setting, IsTask, IsTidy, flag, seg, gdt_reg}
use Rattle.m386_state.specs.declared.segment.TableReg.{TableReg}

pub named_inside : (gdt : TableReg) (s : ℕ) → NamesGdt gdt s → s / 8 * 8 + 7 ≤ gdt.limit
unfolding is_in_table
named_inside gdt s n =
    let h : nat_le (s / 8 * 8 + 7) gdt.limit ≡ true = n.inside in grind (arith, nat_tests, h)

-- the number of a task is 1 or more
pub named_some : (gdt : TableReg) (s : ℕ) → NamesGdt gdt s → 1 ≤ s / 8
unfolding is_null_selector names_ldt
named_some gdt s n =
    let h : nat_lt s 4 ≡ false = n.some in
    let k : (s / 4 % 2 == 1) ≡ false = n.table in
    let h2 : 4 ≤ s = grind (arith, nat_tests, h) in
    let k2 : s / 4 % 2 ≢ 1 = grind (arith, nat_tests, k) in
    omega (arith, h2, k2)

pub task_some : (I : Setting) (t : ℕ) → IsTask I t → 1 ≤ t
task_some I t h = let k = named_some (gdt_reg I) (t * 8) h.0 in omega (arith, k)

pub task_limit : (I : Setting) (t : ℕ) → IsTask I t → t * 8 + 7 ≤ I.image.gdt.limit
task_limit I t h = let k = named_inside (gdt_reg I) (t * 8) h.0 in omega (arith, k)

pub flag-in : (I : Setting) (t : ℕ) → IsTask I t → InGdt (gdt_reg I) (flag I t)
unfolding flag
flag-in I t h = let k = task_limit I t h in (omega (arith, k), omega (arith, k))

pub flag-apart : (I : Setting) (t u : ℕ) → t ≢ u → flag I t ≢ flag I u
unfolding flag
flag-apart I t u d e = d (omega (arith, e))

pub tss-flag : (I : Setting) → IsTidy I → (t i u : ℕ) → IsTask I t → i < 104 → IsTask I u → seg I t i ≢ flag I u
unfolding seg
tss-flag I tidy t i u ht hi hu e = tidy.table.apart (t * 8) i ht hi (subst (InGdt (gdt_reg I)) (sym e) (flag-in I u hu))

pub tss-table : (I : Setting) → IsTidy I → (t i a : ℕ) → IsTask I t → i < 104 → InGdt (gdt_reg I) a → a ≢ seg I t i
unfolding seg
tss-table I tidy t i a ht hi h e = tidy.table.apart (t * 8) i ht hi (subst (InGdt (gdt_reg I)) e h)

pub tss-apart : (I : Setting) → IsTidy I → (t i u k : ℕ) → IsTask I t → i < 104 → IsTask I u → k < 104 → t ≢ u → seg I t i ≢ seg I u k
tss-apart I tidy t i u k ht hi hu hk d e = d (tidy.separate t u i k ht hu hi hk e)

part_apart : (b i k : ℕ) → i < 104 → k < 104 → i ≢ k → (b + i) % 2 ^ 32 ≢ (b + k) % 2 ^ 32
part_apart b i k hi hk d e = d (omega (arith, hi, hk, e))

seg-part : (I : Setting) (t i k : ℕ) → i < 104 → k < 104 → i ≢ k → seg I t i ≢ seg I t k
unfolding seg
seg-part I t i k hi hk d e = part_apart (image_base I.first (gdt_reg I) (t * 8)) i k hi hk d e

pub tss-part : (I : Setting) → IsTidy I → (t i u k : ℕ) → IsTask I t → i < 104 → IsTask I u → k < 104 → i ≢ k → seg I t i ≢ seg I u k
tss-part I tidy t i u k ht hi hu hk d e =
    let s : t ≡ u = tidy.separate t u i k ht hu hi hk e in
    seg-part I t i k hi hk d (e ∙ ap (λ y. seg I y k) (sym s))

pub area-out : (I : Setting) → IsTidy I → (t i u : ℕ) → IsTask I t → i < 104 → IsTask I u → (t ≢ u) ⊎ ((i < 32) ⊎ (96 ≤ i)) → (j : ℕ) → 32 ≤ j → j < 96 → seg I t i ≢ seg I u j
area-out I tidy t i u ht hi hu (inl d) j l m = tss-apart I tidy t i u j ht hi hu (omega (arith, m)) d
area-out I tidy t i u ht hi hu (inr (inl d)) j l m = tss-part I tidy t i u j ht hi hu (omega (arith, m)) (λ e. omega (arith, e, l, d))
area-out I tidy t i u ht hi hu (inr (inr d)) j l m = tss-part I tidy t i u j ht hi hu (omega (arith, m)) (λ e. omega (arith, e, m, d))

pub area-table : (I : Setting) → IsTidy I → (t u : ℕ) → IsTask I t → IsTask I u → (j : ℕ) → 32 ≤ j → j < 96 → flag I t ≢ seg I u j
area-table I tidy t u ht hu j l m e = tss-flag I tidy u j t hu (omega (arith, m)) ht (sym e)

-- by the number of a selector
eighth : (b s k : ℕ) → ((b + s / 8 * 8 / 8 * 8) % 2 ^ 32 + k) % 2 ^ 32 ≡ ((b + s / 8 * 8) % 2 ^ 32 + k) % 2 ^ 32
eighth b s k = ap (λ y. ((b + y * 8) % 2 ^ 32 + k) % 2 ^ 32) (let h : s / 8 * 8 / 8 ≡ s / 8 = omega arith in h)

pub desc_same : (gdt : TableReg) (s k : ℕ) → desc_byte gdt (s / 8 * 8) k ≡ desc_byte gdt s k
desc_same gdt s k = eighth gdt.base s k

pub names_same : (gdt : TableReg) (s : ℕ) → NamesGdt gdt s → NamesGdt gdt (s / 8 * 8)
unfolding is_null_selector names_ldt is_in_table
names_same gdt s n =
    let k = named_some gdt s n in
    let l = named_inside gdt s n in
    record { some = (let a : 4 ≤ s / 8 * 8 = omega (arith, k) in grind (arith, nat_tests, a)); table = (let a : s / 8 * 8 / 4 % 2 ≢ 1 = omega arith in grind (arith, nat_tests, a)); inside = (let a : s / 8 * 8 / 8 * 8 + 7 ≤ gdt.limit = omega (arith, l) in grind (arith, nat_tests, a)) }

pub task_number : (I : Setting) (s : ℕ) → IsTaskBy I.first (gdt_reg I) s → IsTask I (s / 8)
task_number I s h = (names_same (gdt_reg I) s h.0, subst (λ a. IsTssByte (byte_in I.first Memory a)) (sym (desc_same (gdt_reg I) s 5)) h.1)

pub base_number : (first : Contents) (gdt : TableReg) (s : ℕ) → image_base first gdt s ≡ image_base first gdt (s / 8 * 8)
base_number first gdt s =
    let at : (k : ℕ) → byte_in first Memory (desc_byte gdt s k) ≡ byte_in first Memory (desc_byte gdt (s / 8 * 8) k) = λ k. ap (byte_in first Memory) (sym (desc_same gdt s k)) in
    λ i. at 2 i + at 3 i * 2 ^ 8 + at 4 i * 2 ^ 16 + at 7 i * 2 ^ 24

pub seg_number : (I : Setting) (t : Task) (j : ℕ) → IsRight I.first (gdt_reg I) t → segment_byte t.base j ≡ seg I (t.selector / 8) j
unfolding seg
seg_number I t j r = ap (λ b. segment_byte b j) (r.1 ∙ base_number I.first (gdt_reg I) t.selector)

flag_place : (b m n s : ℕ) → s * 8 + 7 ≤ m → b + m < 2 ^ 32 → ((b + s * 8) % 2 ^ 32 + 5) % 2 ^ 32 ≡ b + s * 8 + 5
flag_place b m n s h f = omega (arith, h, f)

pub flag_number : (I : Setting) (s : ℕ) → I.image.gdt.base + I.image.gdt.limit < 2 ^ 32 → NamesGdt (gdt_reg I) s → desc_byte (gdt_reg I) s 5 ≡ flag I (s / 8)
unfolding flag
flag_number I s f n = flag_place I.image.gdt.base I.image.gdt.limit 0 (s / 8) (named_inside (gdt_reg I) s n) f

-- the access byte that a selector names stands in the GDT
pub named_in : (I : Setting) (s : ℕ) → IsTidy I → NamesGdt (gdt_reg I) s → InGdt (gdt_reg I) (flag I (s / 8))
unfolding flag
named_in I s tidy n = let k = named_inside (gdt_reg I) s n in (omega (arith, k), omega (arith, k))
