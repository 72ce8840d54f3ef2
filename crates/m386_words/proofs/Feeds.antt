-- The first line feed of a text.
use Rattle.std.proofs.Common.{◌≡◌, ◌≢◌, ℕ, ◌+◌, ◌<◌, true, false, List, [], ◌∷◌, length, take, drop, get_or, refl, ap, arith, zero, suc, nat_lt, subst, inl, inr}
use Rattle.std.proofs.lemmas.Bool.{cases_Bool, ltb-true, ltb-false}
use Rattle.std.specs.Prelude.{◌==◌}
use Rattle.m386_words.specs.Text.{lines_of, with_first}

-- no line feed stands below a place
abbrev pub NoFeed : ℕ → List ℕ → Type 0
NoFeed n bs = (i : ℕ) → i < n → get_or bs i 0 ≢ 10

not_feed : (b : ℕ) → b ≢ 10 → (b == 10) ≡ false
not_feed b n = grind (arith, n)

-- the bytes up to the first line feed are a line
pub line_ends : (i : ℕ) (bs : List ℕ) → i < length bs → get_or bs i 0 ≡ 10 → NoFeed i bs → lines_of bs ≡ take i bs ∷ lines_of (drop (i + 1) bs)
unfolding lines_of
line_ends i [] h e f = absurd (omega (arith, h))
line_ends zero (b ∷ bs) h e f = let t : (b == 10) ≡ true = rw e refl in rw t refl
line_ends (suc i) (b ∷ bs) h e f = let n : (b == 10) ≡ false = not_feed b (f 0 (omega arith)) in
    let r = line_ends i bs (omega (arith, h)) e (λ k l. f (suc k) (omega (arith, l))) in
    let q : suc i + 1 ≡ suc (i + 1) = omega arith in
    rw q (rw n (ap (with_first b) r))

-- bytes without a line feed are the last line
pub line_is_last : (bs : List ℕ) → 0 < length bs → NoFeed (length bs) bs → lines_of bs ≡ bs ∷ lines_of []
unfolding lines_of
line_is_last [] h f = absurd (omega (arith, h))
line_is_last (b ∷ []) h f = rw (not_feed b (f 0 (omega arith))) refl
line_is_last (b ∷ c ∷ bs) h f = let r = line_is_last (c ∷ bs) (omega arith) (λ k l. f (suc k) (omega (arith, l))) in rw (not_feed b (f 0 (omega arith))) (rw r refl)

pub no_feed_yet : (bs : List ℕ) → NoFeed 0 bs
no_feed_yet bs = λ i h. absurd (omega (arith, h))

-- one more byte that is none
pub no_feed_more : (n : ℕ) (bs : List ℕ) → NoFeed n bs → get_or bs n 0 ≢ 10 → NoFeed (n + 1) bs
no_feed_more n bs f e = below_next (λ i. get_or bs i 0 ≢ 10) n f e
  where
    below_next : (P : ℕ → Type 0) (n : ℕ) → ((i : ℕ) → i < n → P i) → P n → (i : ℕ) → i < n + 1 → P i
    below_next P n f p i h = elim (cases_Bool (nat_lt i n)) [ inl e ↦ f i (ltb-true i n e) | inr e ↦ (let q : n ≡ i = omega (arith, ltb-false i n e, h) in subst P q p) ]

pub ruleset feeds = (line_ends, line_is_last, no_feed_yet, no_feed_more)
