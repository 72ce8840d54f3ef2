-- The rows that a search, and the bytes that a reader, has yet to look at.
use Rattle.std.proofs.Common.{sym, ◌∙◌, take, true, ◌-◌, ◌≡◌, ℕ, ◌+◌, ◌*◌, ◌<◌, ◌≤◌, List, length, drop, get_or, refl, add-one, drop-cons, cond, Bool, false, ◌&&◌, ◌||◌, not, nat_le, Option, Some, None}
use Rattle.std.specs.List.{find}
use Rattle.std.proofs.lemmas.List.{drop_all, take_rest}
use Rattle.m386_opmap.specs.declared.row.Row.{Row}
use Rattle.m386_opmap.specs.declared.row.Operand.TheVariants.{Absent}
use Rattle.m386_opmap.specs.declared.row.Size.TheVariants.{Byte}
use Rattle.m386_opmap.specs.declared.name.Name.TheVariants.{Add}
use Rattle.m386_opmap.specs.declared.fields.Prefixes.{Prefixes}
use Rattle.m386_opmap.specs.declared.outcome.Reading.TheVariants.{More}
use Rattle.m386_opmap.specs.declared.outcome.Reading.{Reading}
use Rattle.m386_opmap.specs.Prefix.{is_prefix, with_prefix}
use Rattle.m386_opmap.specs.Readings.{prefixed_reading, first_reading}
use Rattle.m386_opmap.specs.Rows.{row_at, row_of, covers_key, begins}

-- what stands past the end of a list of rows
abbrev none : Row
none = record { low = 0; high = 0; name = Add; size = Byte; first = Absent; second = Absent; third = Absent; lock = false; newer = false }

find_more : (test : Row → Bool) (rs : List Row) (i : ℕ) → i < length rs →
    find test (drop i rs) ≡ cond (test (get_or rs i none)) (Some (get_or rs i none)) (find test (drop (i + 1) rs))
find_more test rs i h = rw (drop-cons rs i none h) (rw (add-one i) refl)

find_none : (test : Row → Bool) (rs : List Row) (i : ℕ) → length rs ≤ i → find test (drop i rs) ≡ None
find_none test rs i h = rw (drop_all i rs h) refl

pub row_at_next : (key : ℕ) (rs : List Row) (i : ℕ) → i < length rs →
    row_at key (drop i rs) ≡ cond (nat_le (get_or rs i none).low key && nat_le key (get_or rs i none).high) (Some (get_or rs i none)) (row_at key (drop (i + 1) rs))
unfolding row_at
row_at_next key rs i h = find_more (covers_key key) rs i h

pub row_at_end : (key : ℕ) (rs : List Row) (i : ℕ) → length rs ≤ i → row_at key (drop i rs) ≡ None
unfolding row_at
row_at_end key rs i h = find_none (covers_key key) rs i h

pub row_of_next : (lock : Bool) (opcode : ℕ) (rs : List Row) (i : ℕ) → i < length rs →
    row_of lock opcode (drop i rs) ≡ cond (nat_le (get_or rs i none).low (8 * opcode + 7) && nat_le (8 * opcode) (get_or rs i none).high && (not lock || (get_or rs i none).lock)) (Some (get_or rs i none)) (row_of lock opcode (drop (i + 1) rs))
unfolding row_of
row_of_next lock opcode rs i h = find_more (begins lock opcode) rs i h

pub row_of_end : (lock : Bool) (opcode : ℕ) (rs : List Row) (i : ℕ) → length rs ≤ i → row_of lock opcode (drop i rs) ≡ None
unfolding row_of
row_of_end lock opcode rs i h = find_none (begins lock opcode) rs i h

pub ruleset row_at_steps = (row_at_next, row_at_end)

pub ruleset row_of_steps = (row_of_next, row_of_end)

pub prefixed_next : (rs : List Row) (said : Prefixes) (at : ℕ) (bytes : List ℕ) → at < length bytes →
    prefixed_reading rs said at (drop at bytes) ≡ cond (is_prefix (get_or bytes at 0)) (prefixed_reading rs (with_prefix said (get_or bytes at 0)) (at + 1) (drop (at + 1) bytes)) (first_reading rs said (get_or bytes at 0) at (drop (at + 1) bytes))
unfolding prefixed_reading
prefixed_next rs said at bytes h = rw (drop-cons bytes at 0 h) (rw (add-one at) refl)

pub prefixed_end : (rs : List Row) (said : Prefixes) (at : ℕ) (bytes : List ℕ) → length bytes ≤ at →
    prefixed_reading rs said at (drop at bytes) ≡ More
unfolding prefixed_reading
prefixed_end rs said at bytes h = rw (drop_all at bytes h) refl

pub ruleset prefixed_steps = (prefixed_next, prefixed_end)

stops : (t : Bool) (x y : Reading) (p : Prefixes) → None ≡ cond t (Some p) None → cond t x y ≡ y
stops true x y p h = cc
stops false x y p h = refl

pub prefixed_stop : (rs : List Row) (said : Prefixes) (at : ℕ) (bytes : List ℕ) (o : Option Prefixes) → at < length bytes →
    o ≡ cond (is_prefix (get_or bytes at 0)) (Some (with_prefix said (get_or bytes at 0))) None → o ≡ None →
    first_reading rs said (get_or bytes at 0) at (take (length bytes - (at + 1)) (drop (at + 1) bytes)) ≡ prefixed_reading rs said at (drop at bytes)
prefixed_stop rs said at bytes o h e n =
    let none : None ≡ cond (is_prefix (get_or bytes at 0)) (Some (with_prefix said (get_or bytes at 0))) None = sym n ∙ e in
    let first : prefixed_reading rs said at (drop at bytes) ≡ first_reading rs said (get_or bytes at 0) at (drop (at + 1) bytes) =
    prefixed_next rs said at bytes h ∙ stops (is_prefix (get_or bytes at 0)) _ _ _ none in
    rw (take_rest bytes (at + 1)) (sym first)
