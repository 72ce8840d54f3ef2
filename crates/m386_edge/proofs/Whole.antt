-- The steps of the loops that write or read the whole.
use Rattle.std.proofs.Common.{◌≡◌, ℕ, ◌+◌, ◌-◌, ◌≤◌, List, [], ◌++◌, length, take, drop, Option, Some, None, refl, ap, sym, subst, ◌∙◌, append-nil, arith, length-append}
use Rattle.std.proofs.Math.Seq.{take-add}
use Rattle.std.proofs.lemmas.List.{take_rest}
use Rattle.m386_edge.specs.Edge.{given_back, grown, Gave, Grows, IsEmptied, Reads, Writes}
use Rattle.m386_edge.proofs.Edge.{given_back-nil, given_back-twice, grown-twice}

-- one more write took what it did of the bytes behind the first ones
pub grows_more : (first old new : Option (List ℕ)) (bytes : List ℕ) (done n : ℕ) → Grows first old (take done bytes) → Writes old new (take (length bytes - done) (drop done bytes)) n → Grows first new (take (done + n) bytes)
grows_more first old new bytes done n before step =
    let same : take (length bytes - done) (drop done bytes) ≡ drop done bytes = take_rest bytes done in
    step.grows ∙ ap (λ rest. grown old (take n rest)) same ∙ ap (λ held. grown held (take n (drop done bytes))) before ∙ grown-twice first (take done bytes) (take n (drop done bytes))
    ∙ ap (grown first) (sym (take-add done n bytes))

-- one more read gave what it did behind the first bytes
pub gave_more : (first old new : Option (List ℕ)) (bytes buf : List ℕ) (room n : ℕ) → Gave first old bytes → Reads old new room buf n → Gave first new (bytes ++ take n buf)
gave_more first old new bytes buf room n before step =
    before ∙ ap (given_back bytes) step.gave ∙ given_back-twice bytes (take n buf) new

-- a read that gave nothing
pub gave_end : (first old new : Option (List ℕ)) (bytes buf : List ℕ) (room n : ℕ) → n ≡ 0 → Gave first old bytes → Reads old new room buf n → Gave first new bytes
gave_end first old new bytes buf room n none before step =
    let end = subst (λ (k : ℕ). Reads old new room buf k) none step in
    before ∙ ap (given_back bytes) (end.gave ∙ given_back-nil new)

emptied : (old new : Option (List ℕ)) (room : ℕ) (buf : List ℕ) → Reads old new room buf 0 → old ≡ new → IsEmptied new
emptied old None room buf step same = tt
emptied None (Some left) room buf step same = cc
emptied (Some old) (Some left) room buf step same =
    let e : old ≡ left = cc in
    subst (λ (bytes : List ℕ). bytes ≡ []) e (step.end.0 refl)

pub emptied_end : (old new : Option (List ℕ)) (room : ℕ) (buf : List ℕ) (n : ℕ) → n ≡ 0 → Reads old new room buf n → IsEmptied new
emptied_end old new room buf n none step =
    let end = subst (λ (k : ℕ). Reads old new room buf k) none step in
    emptied old new room buf end (end.gave ∙ given_back-nil new)

-- what a source that tells its bytes had left is as long as what it gave, and longer where something is left
pub gave_length : (new : Option (List ℕ)) (bytes all : List ℕ) → Gave (Some all) new bytes → length bytes ≤ length all
unfolding given_back
gave_length None bytes all gave = cc
gave_length (Some left) bytes all gave =
    let e : all ≡ bytes ++ left = cc in rw e (omega (arith, length-append bytes left))

pub gave_all : (new : Option (List ℕ)) (bytes all : List ℕ) → Gave (Some all) new bytes → IsEmptied new → length all ≡ length bytes
unfolding given_back
gave_all None bytes all gave emptied = cc
gave_all (Some left) bytes all gave emptied =
    let e : all ≡ bytes = (let e : all ≡ bytes ++ left = cc in e ∙ ap (λ (back : List ℕ). bytes ++ back) emptied ∙ append-nil bytes) in ap length e
