-- The task that a byte of the GDT speaks of.
use Rattle.std.proofs.Common.{◌≡◌, ℕ, ◌+◌, ◌-◌, ◌*◌, ◌/◌, ◌%◌, ◌^◌, ◌<◌, ◌≤◌, Bool, true, false, cond, eqb, ◌&&◌, [], ◌∷◌, Some, None, refl, ap, sym, subst, ◌∙◌, arith, eq-eqb}
use Rattle.std.specs.Prelude.{nat_le, ◌↔◌, ◌==◌}
use Rattle.std.proofs.lemmas.Bool.{and_parts, and_from, eqb-true, leb-true, le-leb}
use Rattle.m386_image.specs.declared.image.TableAt.{TableAt}
use Rattle.m386_book.specs.Book.{task_at, task_above, above_access}
use Rattle.m386_book.specs.Laws.{SpeaksOfItsTask}
use Rattle.m386_book.specs.Tss.{IsNumber}

-- a distance and a place, modulo 2 ^ 32
place_from : (base n place : ℕ) → n * 8 < 2 ^ 32 → place < 2 ^ 32 → (place + 2 ^ 32 - (base + 5) % 2 ^ 32) % 2 ^ 32 ≡ n * 8 → (base + (n * 8 + 5)) % 2 ^ 32 ≡ place
place_from base n place small below h = omega (arith, h)

above_from : (base n place : ℕ) → n * 8 < 2 ^ 32 → place < 2 ^ 32 → (base + (n * 8 + 5)) % 2 ^ 32 ≡ place → (place + 2 ^ 32 - (base + 5) % 2 ^ 32) % 2 ^ 32 ≡ n * 8
above_from base n place small below h = omega (arith, h)

some_of : (t : Bool) (x n : ℕ) → cond t (Some x) None ≡ Some n → (t ≡ true) × (x ≡ n)
some_of true x n h = (refl, cc)
some_of false x n h = absurd cc

task_found : (table : TableAt) (place number : ℕ) → table.limit < 2 ^ 16 → place < 2 ^ 32 → task_above table (above_access table place) ≡ Some number → IsNumber table number × ((table.base + (number * 8 + 5)) % 2 ^ 32 ≡ place)
task_found table place number small below h =
    let above = above_access table place in
    let parts = some_of ((above % 8 == 0) && (nat_le 8 above && nat_le (above + 7) table.limit)) (above / 8) number h in
    let one = and_parts (above % 8 == 0) (nat_le 8 above && nat_le (above + 7) table.limit) parts.0 in
    let two = and_parts (nat_le 8 above) (nat_le (above + 7) table.limit) one.1 in
    let whole : above % 8 ≡ 0 = eqb-true (above % 8) 0 one.0 in
    let least : 8 ≤ above = leb-true 8 above two.0 in
    let most : above + 7 ≤ table.limit = leb-true (above + 7) table.limit two.1 in
    let e : above / 8 ≡ number = parts.1 in
    let times : above ≡ number * 8 = eight above number whole e in
    ((omega (arith, least, times), omega (arith, most, times)), place_from table.base number place (omega (arith, most, times, small)) below times)
  where
    eight : (a n : ℕ) → a % 8 ≡ 0 → a / 8 ≡ n → a ≡ n * 8
    eight a n w e = omega (arith, w, e)

task_made : (table : TableAt) (place number : ℕ) → table.limit < 2 ^ 16 → place < 2 ^ 32 → IsNumber table number → (table.base + (number * 8 + 5)) % 2 ^ 32 ≡ place → task_above table (above_access table place) ≡ Some number
task_made table place number small below is h =
    subst (λ (a : ℕ). task_above table a ≡ Some number) (sym (above_from table.base number place (omega (arith, is.1, small)) below h)) (at_number)
  where
    at_number : task_above table (number * 8) ≡ Some number
    at_number =
        let whole : (number * 8 % 8 == 0) ≡ true = eq-eqb (number * 8 % 8) 0 (omega arith) in
        let least : nat_le 8 (number * 8) ≡ true = le-leb 8 (number * 8) (omega (arith, is.0)) in
        let most : nat_le (number * 8 + 7) table.limit ≡ true = le-leb (number * 8 + 7) table.limit is.1 in
        let test = and_from (number * 8 % 8 == 0) (nat_le 8 (number * 8) && nat_le (number * 8 + 7) table.limit) whole (and_from (nat_le 8 (number * 8)) (nat_le (number * 8 + 7) table.limit) least most) in
        let same : number * 8 / 8 ≡ number = omega arith in
        ap (λ (b : Bool). cond b (Some (number * 8 / 8)) None) test ∙ ap Some same

pub speaks_of_its_task : SpeaksOfItsTask
unfolding task_at
speaks_of_its_task table place byte number small below = (task_found table place number small below, λ h. task_made table place number small below h.0 h.1)
