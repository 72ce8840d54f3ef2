-- Entries by selectors change as the book's entries do.
use Rattle.std.proofs.Common.{◌≡◌, ℕ, ◌+◌, ◌*◌, ◌<◌, Bool, true, false, cond, eqb, not, List, [], ◌∷◌, length, get_or, drop, map, filter, Option, Some, None, refl, ap, sym, ◌∙◌}
use Rattle.std.proofs.lemmas.List.{drop_more}
use Rattle.m386_book.specs.declared.waiting.Waiting.{Waiting}
use Rattle.m386_book.specs.Book.{without_by, without_of, added, waiter}
use Rattle.m386_book.specs.Holding.{selector_of, waiting_of, others_by, others_of, with_added, waiter_by}
use Rattle.m386_book.proofs.Numbers.{same_eight}

kept : (b : Bool) (e : ℕ × ℕ) (ws : List Waiting) (es : List (ℕ × ℕ)) → ws ≡ map waiting_of es
    → cond (not b) (waiting_of e ∷ ws) ws ≡ map waiting_of (cond b es (e ∷ es))
kept true e ws es h = h
kept false e ws es h = ap (λ (xs : List Waiting). waiting_of e ∷ xs) h

pub entries_by : (t : ℕ) (es : List (ℕ × ℕ)) → others_by (t * 8) (map waiting_of es) ≡ map waiting_of (without_by t es)
unfolding without_by
entries_by t [] = refl
entries_by t (e ∷ es) =
    let rest : List Waiting = others_by (t * 8) (map waiting_of es) in
    ap (λ (b : Bool). cond (not b) (waiting_of e ∷ rest) rest) (same_eight e.1 t) ∙ kept (eqb e.1 t) e rest (without_by t es) (entries_by t es)

pub entries_of : (t : ℕ) (es : List (ℕ × ℕ)) → others_of (t * 8) (map waiting_of es) ≡ map waiting_of (without_of t es)
unfolding without_of
entries_of t [] = refl
entries_of t (e ∷ es) =
    let rest : List Waiting = others_of (t * 8) (map waiting_of es) in
    ap (λ (b : Bool). cond (not b) (waiting_of e ∷ rest) rest) (same_eight e.0 t) ∙ kept (eqb e.0 t) e rest (without_of t es) (entries_of t es)

pub entries_added : (waits : Bool) (o : Option ℕ) (t : ℕ) (es : List (ℕ × ℕ)) → with_added waits (selector_of o) (t * 8) (map waiting_of es) ≡ map waiting_of (added waits o t es)
unfolding added
entries_added true None t es = refl
entries_added true (Some o) t es = refl
entries_added false None t es = refl
entries_added false (Some o) t es = refl

found : (b : Bool) (e : ℕ × ℕ) (r : Option ℕ) (q : Option ℕ) → r ≡ selector_of q → cond b (Some (e.0 * 8)) r ≡ selector_of (cond b (Some e.0) q)
found true e r q h = refl
found false e r q h = h

pub entries_waiter : (t : ℕ) (es : List (ℕ × ℕ)) → waiter_by (t * 8) (map waiting_of es) ≡ selector_of (waiter t es)
unfolding waiter
entries_waiter t [] = refl
entries_waiter t (e ∷ es) =
    let rest : Option ℕ = waiter_by (t * 8) (map waiting_of es) in
    ap (λ (b : Bool). cond b (Some (e.0 * 8)) rest) (same_eight e.1 t) ∙ found (eqb e.1 t) e rest (waiter t es) (entries_waiter t es)

-- ---- the search for the one that waits by a task, entry by entry

pub waiter_found : (by : ℕ) (ws : List Waiting) (i : ℕ) (d : Waiting) → i < length ws → eqb (get_or ws i d).by by ≡ true → waiter_by by ws ≡ waiter_by by (drop i ws) → waiter_by by ws ≡ Some (get_or ws i d).task
waiter_found by ws i d lt e h =
    h ∙ ap (waiter_by by) (drop_more ws i d lt) ∙ ap (λ (b : Bool). cond b (Some (get_or ws i d).task) (waiter_by by (drop (i + 1) ws))) e

pub waiter_passed : (by : ℕ) (ws : List Waiting) (i : ℕ) (d : Waiting) → i < length ws → eqb (get_or ws i d).by by ≡ false → waiter_by by ws ≡ waiter_by by (drop i ws) → waiter_by by ws ≡ waiter_by by (drop (i + 1) ws)
waiter_passed by ws i d lt e h =
    h ∙ ap (waiter_by by) (drop_more ws i d lt) ∙ ap (λ (b : Bool). cond b (Some (get_or ws i d).task) (waiter_by by (drop (i + 1) ws))) e
