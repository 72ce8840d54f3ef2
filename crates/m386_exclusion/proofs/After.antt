-- Memory, the book and the stages after one more cycle.
use Rattle.std.proofs.Common.{arith, ◌≡◌, ◌≢◌, ℕ, ◌+◌, ◌*◌, ◌/◌, ◌%◌, ◌^◌, ◌<◌, ◌≤◌, ◌==◌, ◌∙◌, inl, inr, refl, sym, ap, subst, List, [], ◌∷◌, ◌++◌, Bool, true, false, bit_or, bit_and, ◌&&◌, Option, Some, None, if◌then◌else◌, eqb}
use Rattle.m386_base.specs.declared.ask.Ask.{Ask}
use Rattle.m386_base.specs.declared.ask.Cycle.{Cycle}
use Rattle.m386_base.specs.declared.ask.Role.{Role}
use Rattle.m386_base.specs.declared.ask.Role.TheVariants as roles
use Rattle.m386_base.specs.declared.ask.Space.TheVariants as spaces
use Rattle.m386_base.proofs.Finite.{all_below, each_below}
use Rattle.m386_base.specs.Bytes.{bytes_of, byte_of, byte_at_place, Has, heard}
use Rattle.m386_memory.specs.Contents.{Contents, holds_byte}
use Rattle.m386_memory.specs.History.{byte_after, byte_then, writes_in}
use Rattle.m386_stages.proofs.OneByte.{set_busy, set_accessed, clear_busy}
use Rattle.m386_stages.specs.Stages.{Stage, Phase, is_store}
use Rattle.m386_book.proofs.Places.{speaks_of_its_task}
use Rattle.m386_book.specs.Book.{moved, Book, task_at, effect, book_after}
use Rattle.m386_exclusion.proofs.Counts.{test-true, test-false}
use Rattle.m386_exclusion.proofs.Kept.{off_written}
use Rattle.m386_exclusion.proofs.Places.{task_some, task_limit}
use Rattle.m386_exclusion.proofs.Table.{read_keeps, same_number}
use Rattle.m386_exclusion.specs.Change.{Others, after}
use Rattle.m386_exclusion.specs.Invariant.{unsaved, unsaved_of, pending, pending_of}
use Rattle.m386_exclusion.specs.Table.{Kin, Same, Marked, Used, AreBytes}
use Rattle.m386_exclusion.specs.World.{IsTidy, Setting, World, IsTask, IsBusy, mem, flag, book}
use Rattle.m386_state.specs.declared.segment.TableReg.{TableReg}

pub at_here : (G : World) (x : Cycle) (g2 : Stage) → (after G x g2).at x.cpu ≡ g2
at_here G x g2 = rw (test-true x.cpu x.cpu refl) refl

pub at_others : (G : World) (x : Cycle) (g2 : Stage) → Others x.cpu (after G x g2) G
at_others G x g2 q d = rw (test-false q x.cpu d) refl

pub unsaved_at : (G : World) (x : Cycle) (g2 : Stage) (ph : Phase) → g2.phase ≡ ph → unsaved (after G x g2) x.cpu ≡ unsaved_of ph
unsaved_at G x g2 ph e = ap (λ (g : Stage). unsaved_of g.phase) (at_here G x g2) ∙ ap unsaved_of e

pub pending_at : (G : World) (x : Cycle) (g2 : Stage) (ph : Phase) → g2.phase ≡ ph → pending (after G x g2) x.cpu ≡ pending_of ph
pending_at G x g2 ph e = ap (λ (g : Stage). pending_of g.phase) (at_here G x g2) ∙ ap pending_of e

pub mem_read : (I : Setting) (x : Cycle) (G : World) (g2 : Stage) (a : ℕ) → x.ask.write ≡ false → mem I (after G x g2) a ≡ mem I G a
mem_read I x G g2 a w = read_keeps I.first x G.cycles spaces.Memory a w

pub mem_off : (I : Setting) (x : Cycle) (G : World) (g2 : Stage) (a : ℕ) → ((b : ℕ) → Has (heard x.ask) a b → ⊥) → mem I (after G x g2) a ≡ mem I G a
mem_off I x G g2 a h = off_written I.first x G.cycles a h

pub mem_found : (I : Setting) (x : Cycle) (G : World) (g2 : Stage) (a v : ℕ) → x.ask.write ≡ true → x.ask.space ≡ spaces.Memory → holds_byte I.first spaces.Memory a ≡ true → byte_at_place (bytes_of x.ask) a ≡ Some v → mem I (after G x g2) a ≡ v
unfolding byte_after
mem_found I x G g2 a v w s i f = let t : (writes_in x spaces.Memory && holds_byte I.first spaces.Memory a) ≡ true = rw (w, s, i) refl in rw (t, f) refl

pub mem_missed : (I : Setting) (x : Cycle) (G : World) (g2 : Stage) (a : ℕ) → byte_at_place (bytes_of x.ask) a ≡ None → mem I (after G x g2) a ≡ mem I G a
unfolding byte_after
mem_missed I x G g2 a f = go (writes_in x spaces.Memory && holds_byte I.first spaces.Memory a) refl
  where
    go : (b : Bool) → (writes_in x spaces.Memory && holds_byte I.first spaces.Memory a) ≡ b → byte_then I.first x spaces.Memory a (mem I G a) ≡ mem I G a
    go true e = rw (e, f) refl
    go false e = rw e refl

pub found_one : (bs : List (ℕ × ℕ)) (a v : ℕ) → bs ≡ (a, v) ∷ [] → byte_at_place bs a ≡ Some v
found_one bs a v e = ap (λ l. byte_at_place l a) e ∙ rw (test-true a a refl) refl

pub missed_one : (bs : List (ℕ × ℕ)) (a p v : ℕ) → bs ≡ (p, v) ∷ [] → a ≢ p → byte_at_place bs a ≡ None
missed_one bs a p v e d = ap (λ l. byte_at_place l a) e ∙ rw (test-false p a (λ f. d (sym f))) refl

pub found_second : (bs : List (ℕ × ℕ)) (a p v w : ℕ) → bs ≡ (p, v) ∷ (a, w) ∷ [] → a ≢ p → byte_at_place bs a ≡ Some w
found_second bs a p v w e d = ap (λ l. byte_at_place l a) e ∙ rw (test-false p a (λ f. d (sym f)), test-true a a refl) refl

pub found_first : (bs : List (ℕ × ℕ)) (a p v w : ℕ) → bs ≡ (a, v) ∷ (p, w) ∷ [] → byte_at_place bs a ≡ Some v
found_first bs a p v w e = ap (λ l. byte_at_place l a) e ∙ rw (test-true a a refl) refl

pub missed_two : (bs : List (ℕ × ℕ)) (a p q v w : ℕ) → bs ≡ (p, v) ∷ (q, w) ∷ [] → a ≢ p → a ≢ q → byte_at_place bs a ≡ None
missed_two bs a p q v w e d f = ap (λ l. byte_at_place l a) e ∙ rw (test-false p a (λ h. d (sym h)), test-false q a (λ h. f (sym h))) refl

-- the bytes of a cycle have rising places, so a byte of it is the one found there
unfoldable Rising : ℕ → List (ℕ × ℕ) → Type 0
Rising lo [] = Unit {0}
Rising lo (b ∷ bs) = (lo ≤ b.0) × Rising (b.0 + 1) bs

has_above : (bs : List (ℕ × ℕ)) (lo a x : ℕ) → Rising lo bs → Has bs a x → lo ≤ a
unfolding Rising
has_above [] lo a x r h = absurd h
has_above (b ∷ bs) lo a x r (inl e) = let l = r.0 in let f = e.0 in omega (arith, l, f)
has_above (b ∷ bs) lo a x r (inr h) = let l = r.0 in let k = has_above bs (b.0 + 1) a x r.1 h in omega (arith, l, k)

has_found : (bs : List (ℕ × ℕ)) (lo a x : ℕ) → Rising lo bs → Has bs a x → byte_at_place bs a ≡ Some x
unfolding Rising
has_found [] lo a x r h = absurd h
has_found (b ∷ bs) lo a x r (inl e) = rw (test-true b.0 a e.0) (ap Some e.1)
has_found (b ∷ bs) lo a x r (inr h) =
    let k = has_above bs (b.0 + 1) a x r.1 h in
    let d : b.0 ≢ a = λ f. omega (arith, k, f) in
    let i : byte_at_place bs a ≡ Some x = has_found bs (b.0 + 1) a x r.1 h in
    rw (test-false b.0 a d) i

piece : Bool → ℕ → ℕ → List (ℕ × ℕ)
piece true a v = []
piece false a v = (a, v) ∷ []

rising_four : (c0 c1 c2 c3 : Bool) (a v0 v1 v2 v3 : ℕ) → Rising a ((if c0 then [] else (a + 0, v0) ∷ []) ++ (if c1 then [] else (a + 1, v1) ∷ []) ++ (if c2 then [] else (a + 2, v2) ∷ []) ++ (if c3 then [] else (a + 3, v3) ∷ []))
unfolding Rising
rising_four true true true true a v0 v1 v2 v3 = tt
rising_four true true true false a v0 v1 v2 v3 = (omega arith, tt)
rising_four true true false true a v0 v1 v2 v3 = (omega arith, tt)
rising_four true true false false a v0 v1 v2 v3 = (omega arith, (omega arith, tt))
rising_four true false true true a v0 v1 v2 v3 = (omega arith, tt)
rising_four true false true false a v0 v1 v2 v3 = (omega arith, (omega arith, tt))
rising_four true false false true a v0 v1 v2 v3 = (omega arith, (omega arith, tt))
rising_four true false false false a v0 v1 v2 v3 = (omega arith, (omega arith, (omega arith, tt)))
rising_four false true true true a v0 v1 v2 v3 = (omega arith, tt)
rising_four false true true false a v0 v1 v2 v3 = (omega arith, (omega arith, tt))
rising_four false true false true a v0 v1 v2 v3 = (omega arith, (omega arith, tt))
rising_four false true false false a v0 v1 v2 v3 = (omega arith, (omega arith, (omega arith, tt)))
rising_four false false true true a v0 v1 v2 v3 = (omega arith, (omega arith, tt))
rising_four false false true false a v0 v1 v2 v3 = (omega arith, (omega arith, (omega arith, tt)))
rising_four false false false true a v0 v1 v2 v3 = (omega arith, (omega arith, (omega arith, tt)))
rising_four false false false false a v0 v1 v2 v3 = (omega arith, (omega arith, (omega arith, (omega arith, tt))))

pub heard_found : (c : Ask) (a x : ℕ) → Has (bytes_of c) a x → byte_at_place (bytes_of c) a ≡ Some x
unfolding bytes_of
heard_found c a x h = has_found (byte_of c 0 ++ byte_of c 1 ++ byte_of c 2 ++ byte_of c 3) c.addr a x (rising_four (bit_and c.enables (2 ^ 0) == 0) (bit_and c.enables (2 ^ 1) == 0) (bit_and c.enables (2 ^ 2) == 0) (bit_and c.enables (2 ^ 3) == 0) c.addr _ _ _ _) h

-- the book
pub book_read : (I : Setting) (x : Cycle) (G : World) (g2 : Stage) → x.ask.write ≡ false → book I (after G x g2) ≡ book I G
unfolding book_after
book_read I x G g2 w = rw w refl

pub book_write : (I : Setting) (x : Cycle) (G : World) (g2 : Stage) (r : Role) → x.ask.write ≡ true → x.ask.role ≡ r → book I (after G x g2) ≡ effect x.cpu r (task_at I.image.gdt (bytes_of x.ask)) (book I G)
unfolding book_after
book_write I x G g2 r w e = rw (w, e) refl

place_below : (b m n : ℕ) → n * 8 + 7 ≤ m → b + m < 2 ^ 32 → b + n * 8 + 5 < 2 ^ 32
place_below b m n l f = omega (arith, l, f)

place_whole : (b m n : ℕ) → n * 8 + 7 ≤ m → b + m < 2 ^ 32 → (b + (n * 8 + 5)) % 2 ^ 32 ≡ b + n * 8 + 5
place_whole b m n l f = omega (arith, l, f)

task_place : (I : Setting) (t v : ℕ) → IsTidy I → IsTask I t → task_at I.image.gdt ((flag I t, v) ∷ []) ≡ Some t
unfolding flag
task_place I t v tidy h =
    let l = task_limit I t h in
    (speaks_of_its_task I.image.gdt (flag I t) v t tidy.limit (place_below I.image.gdt.base I.image.gdt.limit t l tidy.table.fits)).1 ((task_some I t h, l), place_whole I.image.gdt.base I.image.gdt.limit t l tidy.table.fits)

pub book_flag : (I : Setting) (x : Cycle) (G : World) (g2 : Stage) (r : Role) (t v : ℕ) → IsTidy I → IsTask I t → x.ask.write ≡ true → x.ask.role ≡ r → bytes_of x.ask ≡ (flag I t, v) ∷ [] → book I (after G x g2) ≡ effect x.cpu r (Some t) (book I G)
book_flag I x G g2 r t v tidy h w e b = book_write I x G g2 r w e ∙ ap (λ o. effect x.cpu r o (book I G)) (ap (task_at I.image.gdt) b ∙ task_place I t v tidy h)

pub effect_store : (p : ℕ) (r : Role) (o : Option ℕ) (b : Book) → is_store r ≡ true → effect p r o b ≡ b
unfolding moved
effect_store p roles.Operand o b h = refl
effect_store p roles.Push o b h = refl
effect_store p roles.LdtAcc o b h = refl
effect_store p _ o b h = absurd cc

pub effect_none : (p : ℕ) (o : Option ℕ) (b : Book) → (effect p roles.Save o b ≡ b) × (effect p roles.GdtAcc o b ≡ b)
unfolding moved
effect_none p o b = (refl, refl)

-- access bytes
below_256 : (b c : ℕ) → b % 256 ≡ c → c < 256
below_256 b c e = omega (arith, e)

pub kin_small : (first : Contents) (gdt : TableReg) (a b : ℕ) → AreBytes first → Kin first gdt a b → b < 256
kin_small first gdt a b small (Same e) = subst (λ y. y < 256) (sym e) (small a)
kin_small first gdt a b small (Marked s n p t (inl e)) = subst (λ y. y < 256) (sym e) (below_256 _ _ (set_busy _ (small a)))
kin_small first gdt a b small (Marked s n p t (inr e)) = subst (λ y. y < 256) (sym e) (below_256 _ _ (clear_busy _ (small a)))
kin_small first gdt a b small (Used s n p t e) = subst (λ y. y < 256) (sym e) (below_256 _ _ (set_accessed _ (small a)))

pub busy_set : (i : ℕ) → i < 256 → IsBusy (bit_or i 2)
unfolding all_below
busy_set i l = same_number _ _ (each_below 256 (λ x. eqb (bit_or x 2 / 2 % 2) 1) refl i l)

pub busy_touched : (i : ℕ) → i < 256 → bit_or i 1 / 2 % 2 ≡ i / 2 % 2
unfolding all_below
busy_touched i l = same_number _ _ (each_below 256 (λ x. eqb (bit_or x 1 / 2 % 2) (x / 2 % 2)) refl i l)
