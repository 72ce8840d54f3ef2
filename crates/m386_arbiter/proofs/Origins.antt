-- A table and a number are told by one list of numbers: equal lists are of one table and of one number.
use Rattle.std.proofs.Common.{◌≡◌, ℕ, List, ap, get_or, drop}
use Rattle.atomic_table.specs.Seated.{TableId}
use Rattle.m386_arbiter.specs.Ends.{origin_of}

pub same_table : (a b : TableId) (n m : ℕ) → origin_of a n ≡ origin_of b m → a ≡ b
same_table a b n m e = λ i. record {
  words = get_or (e i) 1 0;
  slots = get_or (e i) 2 0;
  views_name = get_or (e i) 3 0;
  atom = get_or (e i) 4 0;
  block = get_or (e i) 5 0;
  offset = get_or (e i) 6 0;
  slot_names = drop 7 (e i);
}

pub same_number : (a b : TableId) (n m : ℕ) → origin_of a n ≡ origin_of b m → n ≡ m
same_number a b n m e = ap (λ l. get_or l 0 0) e
