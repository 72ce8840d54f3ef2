-- How seats are dealt, and gathered again.
use Rattle.std.proofs.Common.{◌≡◌, ℕ, zero, suc, ◌+◌, ◌-◌, ◌<◌, ◌≤◌, List, [], ◌∷◌, ◌++◌, length, map, get_or, take, refl, sym, ap, ◌∙◌, subst, arith, length-append, length-drop, add-zero, append-nil}
use Rattle.std.proofs.lemmas.Grind.{get_or_after_one}
use Rattle.std.proofs.lemmas.List.{length-map}
use Rattle.atomic_table.specs.Table.{Me}
use Rattle.atomic_table.specs.Seated.{TableId}
use Rattle.m386_base.specs.declared.ask.Ask.{Ask}
use Rattle.m386_base.specs.declared.ask.Cycle.{Cycle}
use Rattle.m386_memory.specs.History.{RecordView, cycles_of}
use Rattle.m386_arbiter.specs.declared.rule.View.{View}
use Rattle.m386_arbiter.specs.declared.rule.Stage.TheVariants.{Idle}
use Rattle.m386_arbiter.specs.declared.seats.BusSeat.{BusSeat}
use Rattle.m386_arbiter.specs.Rule.{rest_of, first_of, joined}
use Rattle.m386_arbiter.specs.Seats.{IsIdle, own_of, own_cycles}
use Rattle.m386_arbiter.specs.Ends.{AreSeats, AllOwn, NoneYet, IsOf, made_by}
use Rattle.m386_arbiter.specs.Dealt.{IsDealer, IsGathered}

pub dealt_rest : (n : ℕ) (m m' : Me RecordView View) → IsDealer n m → m' ≡ (rest_of m.0, m.1) → 0 < length m'.0.turns → IsDealer (n + 1) m'
dealt_rest n m m' d e l = record {
  low = ap (λ (x : Me RecordView View). x.0.low) e ∙ ap (λ k. k + 1) d.low;
  idle = ap (λ (x : Me RecordView View). x.0.stage) e ∙ d.idle;
  empty = ap (λ (x : Me RecordView View). x.1) e ∙ d.empty;
  none_yet = λ i. ap (λ (x : Me RecordView View). get_or x.0.turns i []) e ∙ get_or_after_one m.0.turns i [] ∙ d.none_yet (1 + i);
  some = l;
}

pub dealt_length : (n : ℕ) (m m' : Me RecordView View) → IsDealer n m → m' ≡ (rest_of m.0, m.1) → length m.0.turns ≡ length m'.0.turns + 1
dealt_length n m m' d e =
    let s : 0 < length m.0.turns = d.some in
    let x : length m'.0.turns ≡ length m.0.turns - 1 = ap (λ (x : Me RecordView View). length x.0.turns) e ∙ length-drop 1 m.0.turns in
    omega arith

first_none : (l : List (List Ask)) → get_or l 0 [] ≡ [] → get_or (take 1 l) 0 [] ≡ []
first_none [] e = refl
first_none (x ∷ xs) e = e

pub dealt_first : (n : ℕ) (m m' : Me RecordView View) → IsDealer n m → m' ≡ (first_of m.0, []) → own_cycles m' ≡ []
dealt_first n m m' d e = ap own_cycles e ∙ first_none m.0.turns (d.none_yet 0)

pub last_seat : (z : TableId) (n : ℕ) (xs : List BusSeat) (s : BusSeat) → AreSeats z n (xs ++ s ∷ []) → AreSeats z n xs × (s.seat.table_id ≡ z) × (s.number ≡ n + length xs)
last_seat z n [] s h = (tt, h.0, h.1 ∙ sym (add-zero n))
last_seat z n (x ∷ xs) s h =
    let r = last_seat z (n + 1) xs s h.2 in
    let e : s.number ≡ (n + 1) + length xs = r.2 in
    ((h.0, h.1, r.0), r.1, omega arith)

one_list : (l : List (List Ask)) → length l ≡ 1 → l ≡ get_or l 0 [] ∷ []
one_list [] e = absurd (omega arith)
one_list (x ∷ []) e = refl
one_list (x ∷ y ∷ ys) e = absurd (omega arith)

pub turns_of : (s : BusSeat) → s.seat.me.0.turns ≡ made_by s ∷ []
turns_of s = one_list s.seat.me.0.turns s.idle.one ∙ ap (λ l. l ∷ []) (sym (ap (own_of s.seat.me.0) s.idle.empty))

map_snoc : (xs : List BusSeat) (s : BusSeat) (ls : List (List Ask)) → map made_by (xs ++ s ∷ []) ++ ls ≡ map made_by xs ++ (made_by s ∷ ls)
map_snoc [] s ls = refl
map_snoc (x ∷ xs) s ls = ap (λ l. made_by x ∷ l) (map_snoc xs s ls)

-- what a gathering seat is, with the seats that are left
pub record Gathers (z : TableId) (all left : List BusSeat) (table : TableId) (me : Me RecordView View) : Type 0 where
  pub board : table ≡ z
  pub seats : AreSeats z 0 left
  pub low : me.0.low ≡ length left
  pub idle : me.0.stage ≡ Idle
  pub empty : me.1 ≡ []
  pub some : 0 < length me.0.turns
  pub whole : map made_by left ++ me.0.turns ≡ map made_by all

pub gathers_last : (z : TableId) (all left : List BusSeat) (s : BusSeat) → AreSeats z 0 all → all ≡ left ++ s ∷ [] → Gathers z all left s.seat.table_id s.seat.me
gathers_last z all left s h e =
    let r = last_seat z 0 left s (subst (AreSeats z 0) e h) in
    let number : s.number ≡ 0 + length left = r.2 in
    let low : s.seat.me.0.low ≡ s.number = s.idle.low in
    let one : length s.seat.me.0.turns ≡ 1 = s.idle.one in
    record {
      board = r.1;
      seats = r.0;
      low = omega arith;
      idle = s.idle.idle;
      empty = s.idle.empty;
      some = omega arith;
      whole = ap (λ l. map made_by left ++ l) (turns_of s) ∙ sym (map_snoc left s []) ∙ append-nil _ ∙ sym (ap (map made_by) e);
    }

pub gathers_next : (z : TableId) (all left now : List BusSeat) (s : BusSeat) (table : TableId) (me me' : Me RecordView View) (table' : TableId) → Gathers z all left table me → left ≡ now ++ s ∷ []
    → table' ≡ s.seat.table_id → me' ≡ (joined s.seat.me.0 me.0, s.seat.me.1) → Gathers z all now table' me'
gathers_next z all left now s table me me' table' g e t h =
    let r = last_seat z 0 now s (subst (AreSeats z 0) e g.seats) in
    let number : s.number ≡ 0 + length now = r.2 in
    let low : s.seat.me.0.low ≡ s.number = s.idle.low in
    let one : length s.seat.me.0.turns ≡ 1 = s.idle.one in
    let len : length me'.0.turns ≡ length s.seat.me.0.turns + length me.0.turns = ap (λ (x : Me RecordView View). length x.0.turns) h ∙ length-append s.seat.me.0.turns me.0.turns in
    let low' : me'.0.low ≡ s.seat.me.0.low = ap (λ (x : Me RecordView View). x.0.low) h in
    record {
      board = t ∙ r.1;
      seats = r.0;
      low = omega arith;
      idle = ap (λ (x : Me RecordView View). x.0.stage) h ∙ s.idle.idle;
      empty = ap (λ (x : Me RecordView View). x.1) h ∙ s.idle.empty;
      some = omega arith;
      whole = ap (λ (x : Me RecordView View). map made_by now ++ x.0.turns) h ∙ ap (λ l. map made_by now ++ (l ++ me.0.turns)) (turns_of s) ∙ sym (map_snoc now s me.0.turns) ∙ ap (λ l. map made_by l ++ me.0.turns) (sym e) ∙ g.whole;
    }

pub gathers_low : (z : TableId) (all left now : List BusSeat) (s : BusSeat) (table : TableId) (me : Me RecordView View) → Gathers z all left table me → left ≡ now ++ s ∷ []
    → (s.seat.table_id ≡ z) × (0 < length s.seat.me.0.turns) × (me.0.low ≡ s.seat.me.0.low + length s.seat.me.0.turns)
gathers_low z all left now s table me g e =
    let r = last_seat z 0 now s (subst (AreSeats z 0) e g.seats) in
    let number : s.number ≡ 0 + length now = r.2 in
    let low : s.seat.me.0.low ≡ s.number = s.idle.low in
    let one : length s.seat.me.0.turns ≡ 1 = s.idle.one in
    let below : me.0.low ≡ length left = g.low in
    let len : length left ≡ length now + 1 = ap length e ∙ length-append now (s ∷ []) in
    (r.1, omega arith, omega arith)

pub gathers_all : (z : TableId) (all left : List BusSeat) (table : TableId) (me : Me RecordView View) → Gathers z all left table me → left ≡ [] → IsGathered 0 (map made_by all) me
gathers_all z all left table me g e = record {
  low = g.low ∙ ap length e;
  idle = g.idle;
  empty = g.empty;
  whole = sym (ap (λ l. map made_by l ++ me.0.turns) e) ∙ g.whole;
}

pub seats_snoc : (z : TableId) (n : ℕ) (xs : List BusSeat) (s : BusSeat) → AreSeats z n xs → s.seat.table_id ≡ z → s.number ≡ n + length xs → AreSeats z n (xs ++ s ∷ [])
seats_snoc z n [] s h t e = (t, e ∙ add-zero n, tt)
seats_snoc z n (x ∷ xs) s h t e = (h.0, h.1, seats_snoc z (n + 1) xs s h.2 t (omega arith))

pub none_snoc : (xs : List BusSeat) (s : BusSeat) → NoneYet xs → made_by s ≡ [] → NoneYet (xs ++ s ∷ [])
none_snoc [] s h e = (e, tt)
none_snoc (x ∷ xs) s h e = (h.0, none_snoc xs s h.1 e)

pub last_idle : (n : ℕ) (m : Me RecordView View) → IsDealer n m → length m.0.turns ≡ 1 → IsIdle n m
last_idle n m d one = record { low = d.low; one = one; idle = d.idle; empty = d.empty }

pub last_none : (n : ℕ) (m : Me RecordView View) → IsDealer n m → own_cycles m ≡ []
last_none n m d = ap (own_of m.0) d.empty ∙ d.none_yet 0

pub all_own : (log : List Cycle) (n : ℕ) (ls : List (List Ask)) → ((i : ℕ) → i < length ls → get_or ls i [] ≡ cycles_of (n + i) log) → AllOwn log n ls
all_own log n [] h = tt
all_own log n (l ∷ ls) h = (h 0 (omega arith) ∙ ap (λ k. cycles_of k log) (add-zero n), all_own log (n + 1) ls (λ i lt. h (suc i) (omega arith) ∙ ap (λ k. cycles_of k log) (same_place i)))
  where
    same_place : (i : ℕ) → n + suc i ≡ (n + 1) + i
    same_place i = omega arith

-- a seat in its place
pub seat_at : (z : TableId) (n : ℕ) (xs : List BusSeat) (i : ℕ) (x : BusSeat) → AreSeats z n xs → i < length xs → x ≡ get_or xs i x → (x.seat.table_id ≡ z) × (x.number ≡ n + i)
seat_at z n [] i x h l e = absurd (omega arith)
seat_at z n (y ∷ ys) zero x h l e = (ap (λ (s : BusSeat). s.seat.table_id) e ∙ h.0, ap (λ (s : BusSeat). s.number) e ∙ h.1 ∙ sym (add-zero n))
seat_at z n (y ∷ ys) (suc i) x h l e =
    let r = seat_at z (n + 1) ys i x h.2 (omega arith) e in
    let number : x.number ≡ (n + 1) + i = r.1 in
    (r.0, omega arith)

-- seats that are the same, one by one
pub same_seats : (z : TableId) (n : ℕ) (xs ys : List BusSeat) → AreSeats z n xs → length ys ≡ length xs → ((i : ℕ) (d : BusSeat) → i < length xs → IsOf (get_or xs i d) (get_or ys i d)) → AreSeats z n ys
same_seats z n [] [] h l e = tt
same_seats z n [] (y ∷ ys) h l e = absurd (omega arith)
same_seats z n (x ∷ xs) [] h l e = absurd (omega arith)
same_seats z n (x ∷ xs) (y ∷ ys) h l e =
    let first : IsOf x y = e 0 x (omega arith) in
    (first.0 ∙ h.0, first.1 ∙ h.1, same_seats z (n + 1) xs ys h.2 (omega arith) (λ i d b. e (suc i) d (omega arith)))

-- how far the seats have been dealt
pub record Dealt (z : TableId) (cpus n : ℕ) (table : TableId) (me : Me RecordView View) (items : List BusSeat) : Type 0 where
  pub board : table ≡ z
  pub dealer : IsDealer n me
  pub left : length me.0.turns + n ≡ cpus
  pub dealt : length items ≡ n
  pub seats : AreSeats z 0 items
  pub none_yet : NoneYet items

pub dealt_on : (z : TableId) (cpus n : ℕ) (table table' : TableId) (me me' : Me RecordView View) (items new : List BusSeat) (s : BusSeat) → Dealt z cpus n table me items → n < cpus - 1
    → (table' ≡ table) × (s.seat.table_id ≡ table) → (0 < length me'.0.turns → IsDealer (n + 1) me') × (length me.0.turns ≡ length me'.0.turns + 1) → (s.number ≡ n) × (made_by s ≡ []) → new ≡ items ++ s ∷ []
    → Dealt z cpus (n + 1) table' me' new
dealt_on z cpus n table table' me me' items new s d less boards dealer seat is =
    let left : length me.0.turns + n ≡ cpus = d.left in
    let fewer : length me.0.turns ≡ length me'.0.turns + 1 = dealer.1 in
    let more : 0 < length me'.0.turns = omega arith in
    let len : length items ≡ n = d.dealt in
    let all : length new ≡ length items + 1 = ap length is ∙ length-append items (s ∷ []) in
    let number : s.number ≡ 0 + length items = seat.0 ∙ omega arith in
    record {
      board = boards.0 ∙ d.board;
      dealer = dealer.0 more;
      left = omega arith;
      dealt = omega arith;
      seats = subst (AreSeats z 0) (sym is) (seats_snoc z 0 items s d.seats (boards.1 ∙ d.board) number);
      none_yet = subst NoneYet (sym is) (none_snoc items s d.none_yet seat.1);
    }

pub dealt_all : (z : TableId) (cpus n : ℕ) (table : TableId) (me : Me RecordView View) (items new : List BusSeat) (s : BusSeat) → Dealt z cpus n table me items → n < cpus → ¬ (n < cpus - 1)
    → (s.seat.table_id ≡ table) → (s.seat.me ≡ me) → s.number ≡ cpus - 1 → new ≡ items ++ s ∷ [] → (length new ≡ cpus) × AreSeats z 0 new × NoneYet new
dealt_all z cpus n table me items new s d less last board same num is =
    let len : length items ≡ n = d.dealt in
    let all : length new ≡ length items + 1 = ap length is ∙ length-append items (s ∷ []) in
    let number : s.number ≡ 0 + length items = num ∙ omega arith in (
      omega arith,
      subst (AreSeats z 0) (sym is) (seats_snoc z 0 items s d.seats (board ∙ d.board) number),
      subst NoneYet (sym is) (none_snoc items s d.none_yet (ap own_cycles same ∙ last_none n me d.dealer)),
    )
