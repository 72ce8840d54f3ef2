-- What holds of spellings and readings by the opcodes of the machine.
use Rattle.std.proofs.Common.{◌≡◌, ℕ, ◌+◌, List, [], ◌∷◌, ◌++◌, length, take, refl, sym, ◌∙◌, ap, arith, subst, append_assoc, length-append}
use Rattle.std.proofs.lemmas.List.{append-nil, take_at, nil_from_length}
use Rattle.m386_opmap.specs.declared.op.Op.{Op}
use Rattle.m386_opmap.specs.declared.outcome.Reading.{Reading}
use Rattle.m386_opmap.specs.declared.outcome.Reading.TheVariants.{Spelled, More, Refused}
use Rattle.m386_opmap.specs.Opcodes.{opcode_rows}
use Rattle.m386_opmap.specs.Readings.{prefixed_reading, reading_by, reading_of}
use Rattle.m386_opmap.specs.Spelling.{Spells, BeginsSpelling, HasNoSpelling, IsReadingOf}
use Rattle.m386_opmap.proofs.Complete.{complete}
use Rattle.m386_opmap.proofs.Lawful.{opcodes_lawful}
use Rattle.m386_opmap.proofs.OneRow.{one_row}
use Rattle.m386_opmap.proofs.ReadingOutcomes.{outcome}
use Rattle.m386_opmap.proofs.Sound.{AllAreBytes, Outcome, RefusedAt, front_bytes}

-- what is spelled is read, whatever follows
pub spelled_reads : (op : Op) (front rest : List ℕ) → Spells op front → reading_of (front ++ rest) ≡ Spelled op (length front)
unfolding reading_of
spelled_reads op front rest s = complete opcode_rows op front rest opcodes_lawful s

pub spelled_reads_alone : (op : Op) (bytes : List ℕ) → Spells op bytes → reading_of bytes ≡ Spelled op (length bytes)
spelled_reads_alone op bytes s = ap reading_of (sym (append-nil bytes)) ∙ spelled_reads op bytes [] s

-- no bytes spell two operations
pub one_operation : (op other : Op) (bytes : List ℕ) → Spells op bytes → Spells other bytes → op ≡ other
one_operation op other bytes s t =
    let e : Spelled op (length bytes) ≡ Spelled other (length bytes) = sym (spelled_reads_alone op bytes s) ∙ spelled_reads_alone other bytes t in cc

-- no spelling is a proper front of another
pub no_longer_spelling : (op other : Op) (bytes rest : List ℕ) → Spells op bytes → Spells other (bytes ++ rest) → rest ≡ []
no_longer_spelling op other bytes rest s t =
    let e : Spelled op (length bytes) ≡ Spelled other (length (bytes ++ rest)) = sym (spelled_reads op bytes rest s) ∙ spelled_reads_alone other (bytes ++ rest) t in
    let l : length bytes ≡ length (bytes ++ rest) = cc in
    nil_from_length rest (omega (arith, l, length-append bytes rest))

-- what the function on bytes answers has its cause in them
outcome_of : (bytes : List ℕ) → AllAreBytes bytes → Outcome opcode_rows bytes (reading_of bytes)
unfolding reading_of
outcome_of bytes are = outcome opcode_rows opcodes_lawful bytes are

-- bytes that read as More begin a spelling
begins_at_more : (bytes : List ℕ) (x : Reading) → x ≡ More → Outcome opcode_rows bytes x → BeginsSpelling bytes
begins_at_more bytes (Spelled op len) e o = cc
begins_at_more bytes More e o = record { op = o.op; rest = o.rest; spelled = o.spelled }
begins_at_more bytes (Refused at) e o = cc

more_begins : (bytes : List ℕ) → AllAreBytes bytes → reading_of bytes ≡ More → BeginsSpelling bytes
more_begins bytes are e = begins_at_more bytes (reading_of bytes) e (outcome_of bytes are)

-- bytes that don't read as an operation have none at their front
no_spelling : (bytes : List ℕ) (x : Reading) → reading_of bytes ≡ x → ((op : Op) (len : ℕ) → x ≡ Spelled op len → ⊥) → HasNoSpelling bytes
no_spelling bytes x e apart op front rest parts s = apart op (length front) (sym e ∙ ap reading_of parts ∙ spelled_reads op front rest s)

front_taken : (bytes front rest : List ℕ) (len : ℕ) → bytes ≡ front ++ rest → len ≡ length front → take len bytes ≡ front
front_taken bytes front rest len parts size = ap (λ x. take len x) parts ∙ take_at front rest len (sym size)

-- no spelling begins with bytes that are refused, whatever follows
none_begins : (front : List ℕ) (byte at : ℕ) → ((next : List ℕ) → reading_of (front ++ byte ∷ next) ≡ Refused at) → BeginsSpelling (front ++ byte ∷ []) → ⊥
none_begins front byte at after b =
    let e : reading_of (front ++ byte ∷ b.rest) ≡ Spelled b.op (length ((front ++ byte ∷ []) ++ b.rest)) =
    ap reading_of (sym (append_assoc front (byte ∷ []) b.rest)) ∙ spelled_reads_alone b.op ((front ++ byte ∷ []) ++ b.rest) b.spelled in
    let r : reading_of (front ++ byte ∷ b.rest) ≡ Refused at = after b.rest in
    cc

stops_reading : (bytes : List ℕ) (at : ℕ) → AllAreBytes bytes → reading_of bytes ≡ Refused at → RefusedAt opcode_rows bytes at → IsReadingOf bytes (Refused at)
unfolding reading_of
stops_reading bytes at are e o =
    let whole : length bytes ≡ length o.front + length (o.byte ∷ o.rest) = ap length o.parts ∙ length-append o.front (o.byte ∷ o.rest) in
    let front : take at bytes ≡ o.front = front_taken bytes o.front (o.byte ∷ o.rest) at o.parts o.size in
    let longer : bytes ≡ (o.front ++ o.byte ∷ []) ++ o.rest = o.parts ∙ sym (append_assoc o.front (o.byte ∷ []) o.rest) in
    let one : at + 1 ≡ length (o.front ++ o.byte ∷ []) = omega (arith, o.size, length-append o.front (o.byte ∷ [])) in
    let next : take (at + 1) bytes ≡ o.front ++ o.byte ∷ [] = front_taken bytes (o.front ++ o.byte ∷ []) o.rest (at + 1) longer one in
    let B : List ℕ → Type 0 = BeginsSpelling in
    let P : List ℕ → Type 0 = AllAreBytes in
    let front_are : AllAreBytes o.front = front_bytes o.front (o.byte ∷ o.rest) (subst P o.parts are) in (
      no_spelling bytes (Refused at) e (λ op len f. cc),
      (
        omega (arith, o.size, whole),
        (
          subst B (sym front) (more_begins o.front front_are o.before),
          λ b. none_begins o.front o.byte at o.after (subst B next b),
        ),
      ),
    )

reading_at : (bytes : List ℕ) (x : Reading) → AllAreBytes bytes → reading_of bytes ≡ x → Outcome opcode_rows bytes x → IsReadingOf bytes x
reading_at bytes (Spelled op len) are e o =
    let front : take len bytes ≡ o.front = front_taken bytes o.front o.rest len o.parts o.size in
    let S : List ℕ → Type 0 = λ x. Spells op x in
    (omega (arith, o.size, ap length o.parts, length-append o.front o.rest), subst S (sym front) o.spelled)
reading_at bytes More are e o = (no_spelling bytes More e (λ op len f. cc), record { op = o.op; rest = o.rest; spelled = o.spelled })
reading_at bytes (Refused at) are e o = stops_reading bytes at are e o

-- the function on bytes answers what its answer says
pub reading_is : (bytes : List ℕ) → AllAreBytes bytes → IsReadingOf bytes (reading_of bytes)
reading_is bytes are = reading_at bytes (reading_of bytes) are refl (outcome_of bytes are)

-- no bytes yet want more
pub reading_nothing : reading_of [] ≡ More
unfolding reading_of reading_by prefixed_reading
reading_nothing = refl

-- no two rows match one string of bytes
pub one_opcode_row : (op other : Op) (bytes : List ℕ) (s : Spells op bytes) (t : Spells other bytes) → s.row ≡ t.row
one_opcode_row op other bytes s t = one_row opcode_rows op other bytes opcodes_lawful s t
