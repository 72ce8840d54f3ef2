-- The code's lists go on standing for a book as it moves.
use Rattle.std.proofs.Common.{◌≡◌, ◌≢◌, ℕ, ◌*◌, ◌%◌, ◌/◌, ◌<◌, ◌≤◌, Bool, true, false, cond, eqb, ◌&&◌, List, [], ◌∷◌, ◌++◌, map, length, get_or, set, Option, Some, None, refl, ap, sym, subst, ◌∙◌, inl, inr, arith, eq-eqb}
use Rattle.std.specs.Prelude.{◌↔◌, IsTrue, nat_le, Result, OnOk}
use Rattle.std.proofs.lemmas.Result.{on_ok_weaker}
use Rattle.std.specs.List.{list_any}
use Rattle.std.proofs.lemmas.Bool.{cases_eq, ne_eqb, leb-true, le-leb}
use Rattle.std.proofs.lemmas.List.{length-set, get_or-set_same, get_or-set_other}
use Rattle.m386_base.specs.declared.ask.Cycle.{Cycle}
use Rattle.m386_base.specs.Bytes.{bytes_of}
use Rattle.m386_image.specs.declared.image.Image.{Image}
use Rattle.m386_book.specs.declared.waiting.Waiting.{Waiting}
use Rattle.m386_book.specs.declared.moves.Move.{Move}
use Rattle.m386_book.specs.declared.moves.Move.TheVariants.{Link}
use Rattle.m386_book.specs.Book.{Book, IsLive, put, without_by, without_of, added, waiter, claimed, linked, released, returned, moved, move_of, task_at, book_next}
use Rattle.m386_book.specs.Holding.{Keeps, selector_of, waiting_of, others, others_by, others_of, with_added, waiter_by, times, live_times}
use Rattle.m386_book.proofs.Entries.{entries_by, entries_of, entries_added, entries_waiter}
use Rattle.m386_book.proofs.Still.{no_task}
use Rattle.m386_book.proofs.Lives.{any_times, live_ended, live_made, unit_if}

-- ---- what is held

held_put : (f : ℕ → Option ℕ) (held : List (Option ℕ)) (cpu : ℕ) (v w : Option ℕ) → length held ≡ 8 → cpu < 8 → v ≡ selector_of w → ((p : ℕ) → p < 8 → get_or held p None ≡ selector_of (f p))
    → (p : ℕ) → p < 8 → get_or (set held cpu v) p None ≡ selector_of (put f cpu w p)
unfolding put
held_put f held cpu v w eight lt e h p below = elim (cases_eq p cpu) [
  | inl same ↦
      ap (λ (q : ℕ). get_or (set held cpu v) q None) same ∙ get_or-set_same held cpu v None (omega (arith, eight)) ∙ e ∙ sym (ap (λ (b : Bool). selector_of (cond b w (f p))) (eq-eqb p cpu same))
  | inr other ↦
      get_or-set_other held cpu p v None other ∙ h p below ∙ sym (ap (λ (b : Bool). selector_of (cond b w (f p))) (ne_eqb p cpu other))
]

-- ---- each move

pub keeps_claim : (book : Book) (number cpu task : ℕ) (waits : Bool) (held : List (Option ℕ)) (entries : List Waiting) (live : List ℕ) → cpu < 8 → task ≡ number * 8 → Keeps book held entries live
    → Keeps (claimed waits cpu number book) (set held cpu (Some task)) (with_added waits (get_or held cpu None) task (others_by task entries)) (others task live)
unfolding claimed
keeps_claim book number cpu task waits held entries live lt e k =
    subst (λ (t : ℕ). Keeps (claimed waits cpu number book) (set held cpu (Some t)) (with_added waits (get_or held cpu None) t (others_by t entries)) (others t live)) (sym e) (record {
      eight = length-set held cpu (Some (number * 8)) ∙ k.eight;
      holds = held_put book.held held cpu (Some (number * 8)) (Some number) k.eight lt refl k.holds;
      waits =
          ap (λ (ws : List Waiting). with_added waits (get_or held cpu None) (number * 8) (others_by (number * 8) ws)) k.waits
          ∙ ap (λ (ws : List Waiting). with_added waits (get_or held cpu None) (number * 8) ws) (entries_by number book.waiting)
          ∙ ap (λ (o : Option ℕ). with_added waits o (number * 8) (map waiting_of (without_by number book.waiting))) (k.holds cpu lt)
          ∙ entries_added waits (book.held cpu) number (without_by number book.waiting);
      lives = live_ended book.live live number k.lives;
    })

pub keeps_link_none : (book : Book) (cpu : ℕ) (held : List (Option ℕ)) (entries : List Waiting) (live : List ℕ) → cpu < 8 → get_or held cpu None ≡ None → Keeps book held entries live → Keeps (linked (book.held cpu) book) held entries live
unfolding linked
keeps_link_none book cpu held entries live lt none k = go (book.held cpu) (sym (k.holds cpu lt) ∙ none)
  where
    go : (o : Option ℕ) → selector_of o ≡ None → Keeps (linked o book) held entries live
    go None h = k
    go (Some t) h = absurd cc

pub keeps_link_some : (book : Book) (cpu task : ℕ) (held : List (Option ℕ)) (entries : List Waiting) (live : List ℕ) → cpu < 8 → get_or held cpu None ≡ Some task → Keeps book held entries live
    → Keeps (linked (book.held cpu) book) held entries (others task live ++ task ∷ [])
unfolding linked
keeps_link_some book cpu task held entries live lt some k = go (book.held cpu) (sym (k.holds cpu lt) ∙ some)
  where
    go : (o : Option ℕ) → selector_of o ≡ Some task → Keeps (linked o book) held entries (others task live ++ task ∷ [])
    go None h = absurd cc
    go (Some t) h =
        let e : t * 8 ≡ task = cc in
        subst (λ (x : ℕ). Keeps (linked (Some t) book) held entries (others x live ++ x ∷ [])) e (record {
          eight = k.eight;
          holds = k.holds;
          waits = k.waits;
          lives = live_made book.live live t k.lives;
        })

pub keeps_release : (book : Book) (number task : ℕ) (held : List (Option ℕ)) (entries : List Waiting) (live : List ℕ) → task ≡ number * 8 → Keeps book held entries live
    → Keeps (released number book) held (others_by task (others_of task entries)) (others task live)
unfolding released
keeps_release book number task held entries live e k =
    subst (λ (t : ℕ). Keeps (released number book) held (others_by t (others_of t entries)) (others t live)) (sym e) (record {
      eight = k.eight;
      holds = k.holds;
      waits =
          ap (λ (ws : List Waiting). others_by (number * 8) (others_of (number * 8) ws)) k.waits
          ∙ ap (λ (ws : List Waiting). others_by (number * 8) ws) (entries_of number book.waiting) ∙ entries_by number (without_of number book.waiting);
      lives = live_ended book.live live number k.lives;
    })

pub keeps_return : (book : Book) (number cpu task : ℕ) (held : List (Option ℕ)) (entries : List Waiting) (live : List ℕ) → cpu < 8 → task ≡ number * 8 → Keeps book held entries live
    → Keeps (returned cpu number book) (set held cpu (waiter_by task entries)) (others_by task entries) (others task live)
unfolding returned
keeps_return book number cpu task held entries live lt e k =
    subst (λ (t : ℕ). Keeps (returned cpu number book) (set held cpu (waiter_by t entries)) (others_by t entries) (others t live)) (sym e) (record {
      eight = length-set held cpu (waiter_by (number * 8) entries) ∙ k.eight;
      holds = held_put book.held held cpu (waiter_by (number * 8) entries) (waiter number book.waiting) k.eight lt
          (ap (waiter_by (number * 8)) k.waits ∙ entries_waiter number book.waiting) k.holds;
      waits = ap (others_by (number * 8)) k.waits ∙ entries_by number book.waiting;
      lives = live_ended book.live live number k.lives;
    })

-- ---- a held task whose link is live

pub live_held : (book : Book) (cpu : ℕ) (held : List (Option ℕ)) (entries : List Waiting) (live : List ℕ) → cpu < 8 → Keeps book held entries live
    → (task : ℕ) → get_or held cpu None ≡ Some task → IsTrue (list_any (λ y. eqb y task) live) ↔ IsLive book (book.held cpu)
live_held book cpu held entries live lt k task some = go (book.held cpu) (sym (k.holds cpu lt) ∙ some)
  where
    alive : (t : ℕ) → list_any (λ y. eqb y (t * 8)) live ≡ nat_le 1 (live_times book (t * 8))
    alive t = any_times (t * 8) live ∙ ap (nat_le 1) (k.lives (t * 8))

    whole : (t : ℕ) → live_times book (t * 8) ≡ unit_if (book.live t)
    whole t =
        let r : eqb (t * 8 % 8) 0 ≡ true = eq-eqb (t * 8 % 8) 0 (omega arith) in
        let q : t * 8 / 8 ≡ t = omega arith in
        ap (λ (b : Bool). unit_if (b && book.live (t * 8 / 8))) r ∙ ap (λ (x : ℕ). unit_if (book.live x)) q

    one : (b : Bool) → nat_le 1 (unit_if b) ≡ b
    one true = refl
    one false = refl

    go : (o : Option ℕ) → selector_of o ≡ Some task → IsTrue (list_any (λ y. eqb y task) live) ↔ IsLive book o
    go None h = absurd cc
    go (Some t) h =
        let e : t * 8 ≡ task = cc in
        let all : list_any (λ y. eqb y task) live ≡ book.live t = subst (λ (x : ℕ). list_any (λ y. eqb y x) live ≡ book.live t) e (alive t ∙ ap (nat_le 1) (whole t) ∙ one (book.live t)) in
        (λ p. sym all ∙ p, λ p. all ∙ p)

pub dead_held : (book : Book) (cpu : ℕ) (held : List (Option ℕ)) (entries : List Waiting) (live : List ℕ) → cpu < 8 → Keeps book held entries live → get_or held cpu None ≡ None → IsLive book (book.held cpu) → ⊥
dead_held book cpu held entries live lt k none = go (book.held cpu) (sym (k.holds cpu lt) ∙ none)
  where
    go : (o : Option ℕ) → selector_of o ≡ None → IsLive book o → ⊥
    go None h l = l
    go (Some t) h l = absurd cc

-- ---- the same of lists that are known by what calls said of them

keeps_at : (book : Book) (held held2 : List (Option ℕ)) (ws ws2 : List Waiting) (ls ls2 : List ℕ) → held2 ≡ held → ws2 ≡ ws → ls2 ≡ ls → Keeps book held ws ls → Keeps book held2 ws2 ls2
keeps_at book held held2 ws ws2 ls ls2 e f g k =
    subst (λ (x : List (Option ℕ)). Keeps book x ws2 ls2) (sym e) (subst (λ (x : List Waiting). Keeps book held x ls2) (sym f) (subst (λ (x : List ℕ). Keeps book held ws x) (sym g) k))

pub claim_keeps : (book : Book) (number cpu task : ℕ) (waits : Bool) (older : Option ℕ) (held held2 : List (Option ℕ)) (ws mid ws2 : List Waiting) (ls ls2 : List ℕ) → cpu < 8
    → older ≡ get_or held cpu None → mid ≡ others_by task ws → ws2 ≡ with_added waits older task mid → ls2 ≡ others task ls → held2 ≡ set held cpu (Some task) → task ≡ number * 8 → Keeps book held ws ls
    → Keeps (claimed waits cpu number book) held2 ws2 ls2
claim_keeps book number cpu task waits older held held2 ws mid ws2 ls ls2 lt o m w l h e k =
    keeps_at (claimed waits cpu number book) (set held cpu (Some task)) held2 (with_added waits (get_or held cpu None) task (others_by task ws)) ws2 (others task ls) ls2 h
    (w ∙ ap (λ (x : Option ℕ). with_added waits x task mid) o ∙ ap (with_added waits (get_or held cpu None) task) m) l (keeps_claim book number cpu task waits held ws ls lt e k)

pub release_keeps : (book : Book) (number task : ℕ) (held : List (Option ℕ)) (ws mid ws2 : List Waiting) (ls ls2 : List ℕ) → mid ≡ others_of task ws → ws2 ≡ others_by task mid → ls2 ≡ others task ls → task ≡ number * 8 → Keeps book held ws ls
    → Keeps (released number book) held ws2 ls2
release_keeps book number task held ws mid ws2 ls ls2 m w l e k =
    keeps_at (released number book) held held (others_by task (others_of task ws)) ws2 (others task ls) ls2 refl (w ∙ ap (others_by task) m) l (keeps_release book number task held ws ls e k)

pub return_keeps : (book : Book) (number cpu task : ℕ) (back : Option ℕ) (held held2 : List (Option ℕ)) (ws slice ws2 : List Waiting) (ls ls2 : List ℕ) → cpu < 8 → slice ≡ ws → back ≡ waiter_by task slice → held2 ≡ set held cpu back
    → ws2 ≡ others_by task ws → ls2 ≡ others task ls → task ≡ number * 8 → Keeps book held ws ls → Keeps (returned cpu number book) held2 ws2 ls2
return_keeps book number cpu task back held held2 ws slice ws2 ls ls2 lt s b h w l e k =
    keeps_at (returned cpu number book) (set held cpu (waiter_by task ws)) held2 (others_by task ws) ws2 (others task ls) ls2 (h ∙ ap (set held cpu) (b ∙ ap (waiter_by task) s)) w l (keeps_return book number cpu task held ws ls lt e k)

pub link_keeps : (book : Book) (cpu task : ℕ) (held : List (Option ℕ)) (ws : List Waiting) (ls ls2 : List ℕ) → cpu < 8 → get_or held cpu None ≡ Some task → ls2 ≡ others task ls ++ task ∷ [] → Keeps book held ws ls
    → Keeps (linked (book.held cpu) book) held ws ls2
link_keeps book cpu task held ws ls ls2 lt some l k =
    keeps_at (linked (book.held cpu) book) held held ws ws (others task ls ++ task ∷ []) ls2 refl refl l (keeps_link_some book cpu task held ws ls lt some k)

-- ---- a move by its kind

some_number : (number : Option ℕ) (task : ℕ) → Some task ≡ selector_of number → (n : ℕ) × (number ≡ Some n) × (task ≡ n * 8)
some_number None task h = absurd cc
some_number (Some n) task h = (n, refl, cc)

none_number : (number : Option ℕ) → None ≡ selector_of number → number ≡ None
none_number None h = refl
none_number (Some n) h = absurd cc

-- a move of a task, which is named by its selector
pub move_some : (cpu task : ℕ) (what : Move) (given : Option ℕ) (held held2 : List (Option ℕ)) (ws ws2 : List Waiting) (ls ls2 : List ℕ) → given ≡ Some task
    → ((book : Book) (number : ℕ) → task ≡ number * 8 → Keeps book held ws ls → Keeps (moved cpu what (Some number) book) held2 ws2 ls2)
    → (book : Book) (number : Option ℕ) → given ≡ selector_of number → Keeps book held ws ls → Keeps (moved cpu what number book) held2 ws2 ls2
move_some cpu task what given held held2 ws ws2 ls ls2 is f book number e k =
    let n = some_number number task (sym is ∙ e) in
    subst (λ (o : Option ℕ). Keeps (moved cpu what o book) held2 ws2 ls2) (sym n.1) (f book n.0 n.2 k)

pub move_none : (cpu : ℕ) (what : Move) (given : Option ℕ) (held held2 : List (Option ℕ)) (ws ws2 : List Waiting) (ls ls2 : List ℕ) → given ≡ None
    → ((book : Book) → Keeps book held ws ls → Keeps (moved cpu what None book) held2 ws2 ls2)
    → (book : Book) (number : Option ℕ) → given ≡ selector_of number → Keeps book held ws ls → Keeps (moved cpu what number book) held2 ws2 ls2
move_none cpu what given held held2 ws ws2 ls ls2 is f book number e k =
    subst (λ (o : Option ℕ). Keeps (moved cpu what o book) held2 ws2 ls2) (sym (none_number number (sym is ∙ e))) (f book k)

pub no_move : (cpu : ℕ) (what : Move) (book : Book) (held : List (Option ℕ)) (ws : List Waiting) (ls : List ℕ) → (what ≡ Link → ⊥) → Keeps book held ws ls → Keeps (moved cpu what None book) held ws ls
no_move cpu what book held ws ls other k = subst (λ (b : Book). Keeps b held ws ls) (sym (no_task cpu what book other)) k

pub move_link : (cpu : ℕ) (what : Move) (number : Option ℕ) (book : Book) (held : List (Option ℕ)) (ws : List Waiting) (ls : List ℕ) → what ≡ Link → Keeps (linked (book.held cpu) book) held ws ls → Keeps (moved cpu what number book) held ws ls
unfolding moved
move_link cpu what number book held ws ls e k = subst (λ (m : Move). Keeps (moved cpu m number book) held ws ls) (sym e) k

-- ---- one more cycle

pub next_read : (image : Image) (x : Cycle) (book : Book) (held : List (Option ℕ)) (ws : List Waiting) (ls : List ℕ) → x.ask.write ≡ false → Keeps book held ws ls → Keeps (book_next image x book) held ws ls
next_read image x book held ws ls e k =
    subst (λ (w : Bool). Keeps (cond w (moved x.cpu (move_of x.ask.role) (task_at image.gdt (bytes_of x.ask)) book) book) held ws ls) (sym e) k

pub next_written : (image : Image) (x : Cycle) (held held2 : List (Option ℕ)) (ws ws2 : List Waiting) (ls ls2 : List ℕ) (task : Option ℕ) → x.ask.write ≡ true → task ≡ selector_of (task_at image.gdt (bytes_of x.ask))
    → ((book : Book) (number : Option ℕ) → task ≡ selector_of number → Keeps book held ws ls → Keeps (moved x.cpu (move_of x.ask.role) number book) held2 ws2 ls2)
    → (book : Book) → Keeps book held ws ls → Keeps (book_next image x book) held2 ws2 ls2
next_written image x held held2 ws ws2 ls ls2 task e at f book k =
    subst (λ (w : Bool). Keeps (cond w (moved x.cpu (move_of x.ask.role) (task_at image.gdt (bytes_of x.ask)) book) book) held2 ws2 ls2) (sym e) (f book (task_at image.gdt (bytes_of x.ask)) at k)

-- ---- the same under the answer of a call

pub link_result : {T E : Type 0} (r : Result T E) (cpu task : ℕ) (held : List (Option ℕ)) (ws : List Waiting) (ls ls2 : List ℕ) → cpu < 8 → get_or held cpu None ≡ Some task → OnOk r (ls2 ≡ others task ls ++ task ∷ [])
    → OnOk r ((book : Book) → Keeps book held ws ls → Keeps (linked (book.held cpu) book) held ws ls2)
link_result r cpu task held ws ls ls2 lt some h = on_ok_weaker r go h
  where
    go : ls2 ≡ others task ls ++ task ∷ [] → (book : Book) → Keeps book held ws ls → Keeps (linked (book.held cpu) book) held ws ls2
    go l book k = link_keeps book cpu task held ws ls ls2 lt some l k

pub link_of_none : {T E : Type 0} (r : Result T E) (cpu : ℕ) (what : Move) (held held2 : List (Option ℕ)) (ws ws2 : List Waiting) (ls ls2 : List ℕ) → what ≡ Link
    → OnOk r ((book : Book) → Keeps book held ws ls → Keeps (linked (book.held cpu) book) held2 ws2 ls2) → OnOk r ((book : Book) → Keeps book held ws ls → Keeps (moved cpu what None book) held2 ws2 ls2)
link_of_none r cpu what held held2 ws ws2 ls ls2 e h = on_ok_weaker r go h
  where
    go : ((book : Book) → Keeps book held ws ls → Keeps (linked (book.held cpu) book) held2 ws2 ls2) → (book : Book) → Keeps book held ws ls → Keeps (moved cpu what None book) held2 ws2 ls2
    go f book k = move_link cpu what None book held2 ws2 ls2 e (f book k)
