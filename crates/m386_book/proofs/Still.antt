-- Cycles that change nothing in the book.
use Rattle.std.proofs.Common.{◌≡◌, ℕ, Bool, true, false, cond, List, ◌∷◌, Option, None, refl, ap, ◌∙◌, inl, inr}
use Rattle.m386_base.specs.declared.ask.Cycle.{Cycle}
use Rattle.m386_base.specs.Bytes.{bytes_of}
use Rattle.m386_image.specs.declared.image.Image.{Image}
use Rattle.m386_book.specs.declared.moves.Move.{Move}
use Rattle.m386_book.specs.declared.moves.Move.TheVariants.{Claim, Link, Release, Return, Stay}
use Rattle.m386_book.specs.Book.{Book, book_after, move_of, moved, task_at}
use Rattle.m386_book.specs.Laws.{OthersKeepTheBook, TasklessKeepTheBook}

either : (w : Bool) (x y : Book) → x ≡ y → cond w x y ≡ y
either true x y e = e
either false x y e = refl

stays : (p : ℕ) (t : Option ℕ) (b : Book) → moved p Stay t b ≡ b
unfolding moved
stays p t b = refl

pub others_keep_the_book : OthersKeepTheBook
unfolding book_after
others_keep_the_book image c older (inl read) =
    ap (λ (w : Bool). cond w (moved c.cpu (move_of c.ask.role) (task_at image.gdt (bytes_of c.ask)) (book_after image older)) (book_after image older)) read
others_keep_the_book image c older (inr still) =
    either c.ask.write _ _ (ap (λ (m : Move). moved c.cpu m (task_at image.gdt (bytes_of c.ask)) (book_after image older)) still ∙ stays c.cpu (task_at image.gdt (bytes_of c.ask)) (book_after image older))

pub no_task : (p : ℕ) (m : Move) (b : Book) → (m ≡ Link → ⊥) → moved p m None b ≡ b
unfolding moved
no_task p (Claim waits) b other = refl
no_task p Link b other = absurd (other refl)
no_task p Release b other = refl
no_task p Return b other = refl
no_task p Stay b other = refl

pub taskless_keep_the_book : TasklessKeepTheBook
unfolding book_after
taskless_keep_the_book image c older other none =
    either c.ask.write _ _ (ap (λ (t : Option ℕ). moved c.cpu (move_of c.ask.role) t (book_after image older)) none ∙ no_task c.cpu (move_of c.ask.role) (book_after image older) other)
