-- The first token of a line.
use Rattle.std.proofs.Common.{◌≡◌, ◌≢◌, ℕ, zero, suc, ◌+◌, ◌-◌, ◌<◌, ◌≤◌, Bool, true, false, cond, List, [], ◌∷◌, length, take, drop, get_or, map, ◌++◌, append-nil, refl, sym, ap, arith, ◌||◌, nat_lt, subst, inl, inr}
use Rattle.std.proofs.lemmas.Bool.{cases_Bool, ltb-true, ltb-false}
use Rattle.std.specs.Prelude.{◌==◌}
use Rattle.m386_words.specs.Text.{Token, Word, Comma, Colon, Open, Close, Plus, Minus, Star, Equals, Blank, Strange, is_word_byte, mark_of, with_letter, tokens_of}
use Rattle.std.proofs.Math.Seq.{take-length}
use Rattle.m386_words.specs.Tokens.{IsRun, seen}
use Rattle.m386_words.specs.declared.token.Token.{Token as Seen}

-- a token that is no word
abbrev IsMark : Token → Type 0
IsMark (Word w) = ⊥
IsMark _ = Unit {0}

mark_by : (a b c d e f g h i : Bool) → IsMark (cond a Comma (cond b Colon (cond c Open (cond d Close (cond e Plus (cond f Minus (cond g Star (cond h Equals (cond i Blank Strange)))))))))
mark_by true b c d e f g h i = tt
mark_by false true c d e f g h i = tt
mark_by false false true d e f g h i = tt
mark_by false false false true e f g h i = tt
mark_by false false false false true f g h i = tt
mark_by false false false false false true g h i = tt
mark_by false false false false false false true h i = tt
mark_by false false false false false false false true i = tt
mark_by false false false false false false false false true = tt
mark_by false false false false false false false false false = tt

mark_is : (c : ℕ) → IsMark (mark_of c)
mark_is c = mark_by (c == 44) (c == 58) (c == 91) (c == 93) (c == 43) (c == 45) (c == 42) (c == 61) (c == 32 || c == 9)

before_mark : (b : ℕ) (t : Token) (ts : List Token) → IsMark t → with_letter b (t ∷ ts) ≡ Word (b ∷ []) ∷ t ∷ ts
before_mark b (Word w) ts m = absurd m
before_mark b Comma ts m = refl
before_mark b Colon ts m = refl
before_mark b Open ts m = refl
before_mark b Close ts m = refl
before_mark b Plus ts m = refl
before_mark b Minus ts m = refl
before_mark b Star ts m = refl
before_mark b Equals ts m = refl
before_mark b Blank ts m = refl
before_mark b Strange ts m = refl

-- a word byte before what begins with none
ends_by : (b c : ℕ) (ts : List Token) (comment : Bool) → with_letter b (cond comment [] (mark_of c ∷ ts)) ≡ Word (b ∷ []) ∷ cond comment [] (mark_of c ∷ ts)
ends_by b c ts true = refl
ends_by b c ts false = before_mark b (mark_of c) ts (mark_is c)

last_letter : (b : ℕ) (rest : List ℕ) → (0 < length rest → is_word_byte (get_or rest 0 0) ≡ false) → with_letter b (tokens_of rest) ≡ Word (b ∷ []) ∷ tokens_of rest
unfolding tokens_of
last_letter b [] f = refl
last_letter b (c ∷ cs) f = rw (f (omega arith)) (ends_by b c (tokens_of cs) (c == 59))

-- a word byte begins no comment
no_comment : (b : ℕ) → is_word_byte b ≡ true → (b == 59) ≡ false
no_comment b h = no_comment_by (b == 59) b refl h
  where
    no_comment_by : (c : Bool) (b : ℕ) → (b == 59) ≡ c → is_word_byte b ≡ true → c ≡ false
    no_comment_by false b e h = refl
    no_comment_by true b e h = (let q : b ≡ 59 = grind (arith, e) in let r : is_word_byte 59 ≡ true = rw q at h in cc)

-- a run of word bytes is a word
pub word_is : (n : ℕ) (line : List ℕ) → 0 < n → IsRun line n → tokens_of line ≡ Word (take n line) ∷ tokens_of (drop n line)
unfolding tokens_of
word_is zero line p r = absurd (omega (arith, p))
word_is (suc n) [] p r = absurd (omega (arith, r.fits))
word_is (suc zero) (b ∷ bs) p r = let w = r.inside 0 (omega arith) in rw (no_comment b w) (rw w (last_letter b bs (λ h. r.ended (omega (arith, h)))))
word_is (suc (suc n)) (b ∷ bs) p r =
    let w = r.inside 0 (omega arith) in
    let next : IsRun bs (suc n) = record { fits = omega (arith, r.fits); inside = λ i h. r.inside (suc i) (omega (arith, h)); ended = λ h. r.ended (omega (arith, h)) } in
    rw (no_comment b w) (rw w (ap (with_letter b) (word_is (suc n) bs (omega arith) next)))

pub comment_is : (line : List ℕ) → 0 < length line → get_or line 0 0 ≡ 59 → tokens_of line ≡ []
unfolding tokens_of
comment_is [] h e = absurd (omega (arith, h))
comment_is (b ∷ bs) h e = let t : (b == 59) ≡ true = rw e refl in rw t refl

pub ruleset token_rules = (word_is, comment_is)

-- all below a place stand in words
abbrev pub Below : ℕ → List ℕ → Type 0
Below n line = (i : ℕ) → i < n → is_word_byte (get_or line i 0) ≡ true

pub run_empty : (line : List ℕ) → Below 0 line
run_empty line = λ i h. absurd (omega (arith, h))

pub run_more : (n : ℕ) (line : List ℕ) → Below n line → is_word_byte (get_or line n 0) ≡ true → Below (n + 1) line
run_more n line f e = λ i h. elim (cases_Bool (nat_lt i n)) [ inl l ↦ f i (ltb-true i n l) | inr l ↦ (let q : n ≡ i = omega (arith, ltb-false i n l, h) in subst (λ k. is_word_byte (get_or line k 0) ≡ true) q e) ]

pub ruleset runs = (run_empty, run_more)

pub no_tokens : (line : List ℕ) → length line < 1 → tokens_of line ≡ []
unfolding tokens_of
no_tokens [] h = refl
no_tokens (b ∷ bs) h = absurd (omega (arith, h))

not_comment : (b : ℕ) → b ≢ 59 → (b == 59) ≡ false
not_comment b n = grind (arith, n)

-- a byte outside words is a token
pub mark_first : (line : List ℕ) → 1 ≤ length line → get_or line 0 0 ≢ 59 → is_word_byte (get_or line 0 0) ≡ false → tokens_of line ≡ mark_of (get_or line 0 0) ∷ tokens_of (take (length line - 1) (drop 1 line))
unfolding tokens_of
mark_first [] h n e = absurd (omega (arith, h))
mark_first (b ∷ bs) h n e = let q : length (b ∷ bs) - 1 ≡ length bs = omega arith in rw q (rw (take-length bs) (rw (not_comment b n) (rw e refl)))

-- one more word
pub one_more : (ws : List Seen) (t : Seen) (rest next : List ℕ) → tokens_of rest ≡ seen t ∷ tokens_of next → map seen (ws ++ t ∷ []) ++ tokens_of next ≡ map seen ws ++ tokens_of rest
one_more [] t rest next e = sym e
one_more (w ∷ ws) t rest next e = ap (λ xs. seen w ∷ xs) (one_more ws t rest next e)

pub all_words : (ws : List Seen) (rest : List ℕ) → tokens_of rest ≡ [] → map seen ws ++ tokens_of rest ≡ map seen ws
all_words ws rest e = rw e (append-nil (map seen ws))

pub ruleset words_rules = (one_more, all_words)
