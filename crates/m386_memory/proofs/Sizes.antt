-- How many bytes there are.
use Rattle.std.proofs.Common.{◌≡◌, ℕ, ◌+◌, ◌<◌, ◌≤◌, ◌%◌, List, length, get_or, ◌∙◌, ap, arith, rules}
use Rattle.std.proofs.lemmas.List.{length-replicate, get_or-replicate, length-append, length-take, length-drop, places}
use Rattle.m386_memory.specs.Contents.{IsSized, zeros, filled}

pub length-zeros : (n : ℕ) → length (zeros n) ≡ n
unfolding zeros
length-zeros n = length-replicate n 0

-- fresh memory and ports have a lawful size
pub fresh_is_sized : (m p : List ℕ) (size : ℕ) → m ≡ zeros size → p ≡ zeros 65536 → size % 4096 ≡ 0 → 4096 ≤ size → size ≤ 16777216 → IsSized (record { memory = m; ports = p })
fresh_is_sized m p size e f h i j =
    let l : length m ≡ size = ap length e ∙ length-zeros size in
    record { pages = rw l h; least = rw l i; most = rw l j; every_port = ap length f ∙ length-zeros 65536 }

pub length-filled : (xs : List ℕ) (at : ℕ) (ys : List ℕ) → at + length ys ≤ length xs → length (filled xs at ys) ≡ length xs
length-filled xs at ys h = omega (arith, length-append {A = ℕ}, length-take {A = ℕ}, length-drop {A = ℕ})
