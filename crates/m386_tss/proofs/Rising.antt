-- A run of numbers, grown at its end.
use Rattle.std.proofs.Common.{◌≡◌, ℕ, zero, suc, ◌+◌, ◌-◌, ◌≤◌, List, [], ◌∷◌, ◌++◌, length, refl, ap, arith, add-one, add-zero}

-- n numbers that rise by one
unfoldable pub counting_from : ℕ → ℕ → List ℕ
counting_from first zero = []
counting_from first (suc n) = first ∷ counting_from (first + 1) n

pub rising_from-suc : (first n : ℕ) → counting_from first (n + 1) ≡ counting_from first n ++ (first + n) ∷ []
unfolding counting_from
rising_from-suc first zero = rw (add-zero first) refl
rising_from-suc first (suc n) =
    let e : first + 1 + n ≡ first + suc n = omega arith in
    rw (add-one (suc n)) (ap (λ xs. first ∷ xs) (rw (← e) (rw (add-one n) at (rising_from-suc (first + 1) n))))

pub length-rising_from : (first n : ℕ) → length (counting_from first n) ≡ n
unfolding counting_from
length-rising_from first zero = refl
length-rising_from first (suc n) = ap suc (length-rising_from (first + 1) n)

-- a run that has come from `first` to `number` has room for one more below its end
pub rising_more : (first number : ℕ) (xs : List ℕ) → xs ≡ counting_from first (number - first) → first ≤ number → xs ++ number ∷ [] ≡ counting_from first (number + 1 - first)
rising_more first number xs e h =
    let n : number + 1 - first ≡ number - first + 1 = omega arith in
    let last : first + (number - first) ≡ number = omega arith in
    rw (n, rising_from-suc first (number - first), last, e) refl

pub length-grown : (first number : ℕ) (xs : List ℕ) → xs ≡ counting_from first (number - first) → length xs ≡ number - first
length-grown first number xs e = rw e (length-rising_from first (number - first))
