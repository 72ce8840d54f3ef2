-- How many bytes are surely wanted, from the last bytes of an instruction up to all of them.
use Rattle.std.proofs.Common.{◌≡◌, ℕ, zero, suc, ◌+◌, ◌-◌, ◌<◌, ◌≤◌, List, [], ◌∷◌, ◌++◌, length, take, drop, get_or, refl, sym, ◌∙◌, ap, cond, Bool, true, false, arith, add-one, drop-cons, inl, inr, Option, Some, None}
use Rattle.std.proofs.lemmas.Bool.{lt-ltb, le-ltb, cases_lt}
use Rattle.std.proofs.lemmas.List.{length-append, append-nil, take_rest}
use Rattle.m386_opmap.specs.declared.fields.Fields.{Fields}
use Rattle.m386_opmap.specs.declared.fields.Prefixes.{Prefixes}
use Rattle.m386_opmap.specs.declared.op.Addr.{Addr}
use Rattle.m386_opmap.specs.declared.op.Arg.TheVariants.{Mem}
use Rattle.m386_opmap.specs.declared.outcome.Reading.{Reading}
use Rattle.m386_opmap.specs.declared.outcome.Reading.TheVariants.{More}
use Rattle.m386_opmap.specs.declared.row.Row.{Row}
use Rattle.m386_opmap.specs.Forms.{displacement}
use Rattle.m386_opmap.specs.Operands.{tail_length}
use Rattle.m386_opmap.specs.Prefix.{is_prefix, with_prefix}
use Rattle.m386_opmap.specs.Readings.{tail_reading, displaced_reading, with_place, opcode_reading, second_reading, first_reading, prefixed_reading}
use Rattle.m386_opmap.specs.Rows.{rows_from}
use Rattle.m386_opmap.specs.Sure.{IsSure}
use Rattle.m386_opmap.proofs.Below.{opcode_by}

-- the first byte that lacks is surely wanted
pub sure_one : (f : List ℕ → Reading) (bytes : List ℕ) → f bytes ≡ More → IsSure f bytes 1
sure_one f bytes e [] lt = ap f (append-nil bytes) ∙ e
sure_one f bytes e (x ∷ more) lt = absurd (omega arith)

tail_short : (r : Row) (f : Fields) (at : ℕ) (bytes : List ℕ) → length bytes < tail_length r f.prefixes.narrow → tail_reading r f at bytes ≡ More
unfolding tail_reading
tail_short r f at bytes lt = rw (lt-ltb _ _ lt) refl

drop_length : (n : ℕ) (bytes : List ℕ) → n ≤ length bytes → length (drop n bytes) + n ≡ length bytes
drop_length zero bytes le = omega arith
drop_length (suc n) [] le = absurd (omega arith)
drop_length (suc n) (x ∷ bytes) le = omega (arith, drop_length n bytes (omega arith))

-- a displacement that isn't whole wants the bytes behind it too
displaced_short : (r : Row) (f : Fields) (address : Addr) (n at : ℕ) (bytes : List ℕ) → length bytes < n + tail_length r f.prefixes.narrow → displaced_reading r f address n at bytes ≡ More
unfolding displaced_reading
displaced_short r f address n at bytes lt = elim (cases_lt (length bytes) n) [
  | inl l ↦ rw (lt-ltb (length bytes) n l) refl
  | inr g ↦ rw (le-ltb (length bytes) n g) (tail_short r (with_place f (Mem (record address { disp = displacement (take n bytes) }))) (at + n) (drop n bytes) (omega (arith, drop_length n bytes g)))
]

pub displaced_sure : (r : Row) (f : Fields) (address : Addr) (n at : ℕ) (bytes : List ℕ) (tail : ℕ) → tail ≡ tail_length r f.prefixes.narrow → length bytes < n → IsSure (displaced_reading r f address n at) bytes (n - length bytes + tail)
displaced_sure r f address n at bytes tail e lt more few =
    displaced_short r f address n at (bytes ++ more) (omega (arith, length-append bytes more, e))

-- what stands behind a second byte of an opcode
pub second_sure : (rows part : List Row) (said : Prefixes) (at : ℕ) (bytes : List ℕ) (n : ℕ) (more : List ℕ) → 1 ≤ length bytes → n ≡ get_or bytes 0 0 → part ≡ rows_from (0xf00 + get_or bytes 0 0) rows →
    opcode_reading part said (0xf00 + n) at (take (length bytes - 1) (drop 1 bytes) ++ more) ≡ More → second_reading rows said at (bytes ++ more) ≡ More
unfolding second_reading
second_sure rows part said at [] n more h i p e = absurd (omega arith)
second_sure rows part said at (b ∷ bytes) n more h i p e =
    let t : take (length (b ∷ bytes) - 1) (drop 1 (b ∷ bytes)) ≡ bytes = take_rest (b ∷ bytes) 1 in
    let k : opcode_reading part said (0xf00 + b) at (bytes ++ more) ≡ More = rw (t, i) at e in
    sym (opcode_by rows part said (0xf00 + b) at (bytes ++ more) p) ∙ k

-- one byte behind the prefixes so far, whatever follows the bytes
prefixed_on : (rs : List Row) (said : Prefixes) (at : ℕ) (bytes more : List ℕ) → at < length bytes →
    prefixed_reading rs said at (drop at bytes ++ more) ≡ cond (is_prefix (get_or bytes at 0)) (prefixed_reading rs (with_prefix said (get_or bytes at 0)) (at + 1) (drop (at + 1) bytes ++ more)) (first_reading rs said (get_or bytes at 0) at (drop (at + 1) bytes ++ more))
unfolding prefixed_reading
prefixed_on rs said at bytes more h = rw (drop-cons bytes at 0 h) (rw (add-one at) refl)

goes : (t : Bool) (x y : Reading) (p q : Prefixes) → Some q ≡ cond t (Some p) None → (q ≡ p) × (cond t x y ≡ x)
goes true x y p q h = (let e : q ≡ p = cc in e, refl)
goes false x y p q h = absurd (cc)

stops : (t : Bool) (x y : Reading) (p : Prefixes) → None ≡ cond t (Some p) None → cond t x y ≡ y
stops true x y p h = cc
stops false x y p h = refl

-- a prefix
pub prefixed_goes : (rs : List Row) (said next : Prefixes) (at : ℕ) (bytes more : List ℕ) (o : Option Prefixes) → at < length bytes →
    o ≡ cond (is_prefix (get_or bytes at 0)) (Some (with_prefix said (get_or bytes at 0))) None → o ≡ Some next →
    prefixed_reading rs next (at + 1) (drop (at + 1) bytes ++ more) ≡ prefixed_reading rs said at (drop at bytes ++ more)
prefixed_goes rs said next at bytes more o h e is =
    let some : Some next ≡ cond (is_prefix (get_or bytes at 0)) (Some (with_prefix said (get_or bytes at 0))) None = sym is ∙ e in
    let g = goes (is_prefix (get_or bytes at 0)) (prefixed_reading rs (with_prefix said (get_or bytes at 0)) (at + 1) (drop (at + 1) bytes ++ more)) (first_reading rs said (get_or bytes at 0) at (drop (at + 1) bytes ++ more)) (with_prefix said (get_or bytes at 0)) next some in
    ap (λ (p : Prefixes). prefixed_reading rs p (at + 1) (drop (at + 1) bytes ++ more)) g.0 ∙ sym (prefixed_on rs said at bytes more h ∙ g.1)

-- the byte behind the last prefix
pub prefixed_stops : (rs : List Row) (said : Prefixes) (at : ℕ) (bytes more : List ℕ) (o : Option Prefixes) → at < length bytes →
    o ≡ cond (is_prefix (get_or bytes at 0)) (Some (with_prefix said (get_or bytes at 0))) None → o ≡ None →
    prefixed_reading rs said at (drop at bytes ++ more) ≡ first_reading rs said (get_or bytes at 0) at (take (length bytes - (at + 1)) (drop (at + 1) bytes) ++ more)
prefixed_stops rs said at bytes more o h e is =
    let none : None ≡ cond (is_prefix (get_or bytes at 0)) (Some (with_prefix said (get_or bytes at 0))) None = sym is ∙ e in
    rw (take_rest bytes (at + 1)) (prefixed_on rs said at bytes more h ∙ stops (is_prefix (get_or bytes at 0)) (prefixed_reading rs (with_prefix said (get_or bytes at 0)) (at + 1) (drop (at + 1) bytes ++ more)) (first_reading rs said (get_or bytes at 0) at (drop (at + 1) bytes ++ more)) (with_prefix said (get_or bytes at 0)) none)
