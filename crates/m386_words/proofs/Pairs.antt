-- Pairs of hexadecimal digits.
use Rattle.std.proofs.Common.{◌≡◌, ℕ, ◌+◌, ◌*◌, ◌<◌, ◌≤◌, Bool, true, false, cond, ◌&&◌, nat_lt, List, [], ◌∷◌, ◌++◌, length, drop, get_or, refl, sym, ap, arith, append_assoc}
use Rattle.std.specs.Prelude.{Option, Some, None}
use Rattle.std.proofs.lemmas.List.{append-nil}
use Rattle.std.proofs.lemmas.Bool.{lt-ltb}
use Rattle.m386_words.specs.Words.{digit}
use Rattle.std.specs.Option.{option_map}
use Rattle.m386_words.specs.Words.{bytes_of_digits}

-- bytes with others before them
abbrev pub behind : List ℕ → Option (List ℕ) → Option (List ℕ)
behind xs o = option_map (λ ys. xs ++ ys) o

behind_more : (xs : List ℕ) (b : ℕ) (o : Option (List ℕ)) → behind xs (option_map (λ bs. b ∷ bs) o) ≡ behind (xs ++ b ∷ []) o
behind_more xs b None = refl
behind_more xs b (Some ys) = ap Some (sym (append_assoc xs (b ∷ []) ys))

pub pair_read : (xs rest : List ℕ) (h l : ℕ) → 2 ≤ length rest → h ≡ digit (get_or rest 0 0) → l ≡ digit (get_or rest 1 0) → h < 16 → l < 16 →
    behind (xs ++ (16 * h + l) ∷ []) (bytes_of_digits (drop 2 rest)) ≡ behind xs (bytes_of_digits rest)
unfolding bytes_of_digits
pair_read xs [] h l n e f i j = absurd (omega (arith, n))
pair_read xs (a ∷ []) h l n e f i j = absurd (omega (arith, n))
pair_read xs (a ∷ b ∷ cs) h l n e f i j =
    let p : nat_lt (digit a) 16 ≡ true = lt-ltb (digit a) 16 (omega (arith, e, i)) in
    let q : nat_lt (digit b) 16 ≡ true = lt-ltb (digit b) 16 (omega (arith, f, j)) in
    rw (e, f) (rw (p, q) (sym (behind_more xs (16 * digit a + digit b) (bytes_of_digits cs))))

wrong_by : (c d : Bool) (xs : List ℕ) (o : Option (List ℕ)) → c && d ≡ false → behind xs (cond (c && d) o None) ≡ None
wrong_by true true xs o e = (let t : true ≡ false = e in cc)
wrong_by true false xs o e = refl
wrong_by false d xs o e = refl

not_less : (a : ℕ) → 16 ≤ a → nat_lt a 16 ≡ false
not_less a h = grind (arith, h)

first_false : (c d : Bool) → c ≡ false → c && d ≡ false
first_false true d e = (let t : true ≡ false = e in cc)
first_false false d e = refl

second_false : (c d : Bool) → d ≡ false → c && d ≡ false
second_false true d e = e
second_false false d e = refl

pub first_wrong : (xs rest : List ℕ) (h : ℕ) → 2 ≤ length rest → h ≡ digit (get_or rest 0 0) → 16 ≤ h → behind xs (bytes_of_digits rest) ≡ None
unfolding bytes_of_digits
first_wrong xs [] h n e i = absurd (omega (arith, n))
first_wrong xs (a ∷ []) h n e i = absurd (omega (arith, n))
first_wrong xs (a ∷ b ∷ cs) h n e i = wrong_by (nat_lt (digit a) 16) (nat_lt (digit b) 16) xs _ (first_false _ _ (not_less (digit a) (omega (arith, e, i))))

pub second_wrong : (xs rest : List ℕ) (l : ℕ) → 2 ≤ length rest → l ≡ digit (get_or rest 1 0) → 16 ≤ l → behind xs (bytes_of_digits rest) ≡ None
unfolding bytes_of_digits
second_wrong xs [] l n e i = absurd (omega (arith, n))
second_wrong xs (a ∷ []) l n e i = absurd (omega (arith, n))
second_wrong xs (a ∷ b ∷ cs) l n e i = wrong_by (nat_lt (digit a) 16) (nat_lt (digit b) 16) xs _ (second_false _ _ (not_less (digit b) (omega (arith, e, i))))

pub pairs_end : (xs rest : List ℕ) → length rest ≡ 0 → behind xs (bytes_of_digits rest) ≡ Some xs
unfolding bytes_of_digits
pairs_end xs [] h = ap Some (append-nil xs)
pairs_end xs (a ∷ cs) h = absurd (omega (arith, h))

pub one_left : (xs rest : List ℕ) → length rest < 2 → 0 < length rest → behind xs (bytes_of_digits rest) ≡ None
unfolding bytes_of_digits
one_left xs [] h n = absurd (omega (arith, n))
one_left xs (a ∷ []) h n = refl
one_left xs (a ∷ b ∷ cs) h n = absurd (omega (arith, h))

pub nothing_yet : (rest : List ℕ) → behind [] (bytes_of_digits rest) ≡ bytes_of_digits rest
nothing_yet rest = by (bytes_of_digits rest)
  where
    by : (o : Option (List ℕ)) → behind [] o ≡ o
    by None = refl
    by (Some ys) = refl

pub ruleset pairs = (pair_read, first_wrong, second_wrong, pairs_end, one_left, nothing_yet)
