-- What is read is spelled, what wants more begins a spelling, and what is refused begins none.
use Rattle.std.specs.Prelude.{◌==◌, replicate}
use Rattle.std.specs.List.{All}
use Rattle.std.proofs.Common.{◌≡◌, ℕ, ◌+◌, ◌-◌, ◌<◌, ◌≤◌, ◌≢◌, List, [], ◌∷◌, ◌++◌, length, take, drop, refl, sym, ◌∙◌, ap, cond, false, not, nat_lt, Some, None, arith, subst, length-append, append_assoc}
use Rattle.std.proofs.lemmas.Bool.{cond_both, ltb-true, ltb-false, eqb-true, eqb-false}
use Rattle.std.proofs.lemmas.List.{take-append-drop, append-nil, length-take-le, length-replicate, take_at, drop_at}
use Rattle.std.proofs.lemmas.List.Elements.{All-append, All-take, All-drop, All-replicate, All-cons}
use Rattle.m386_opmap.specs.declared.fields.Fields.{Fields}
use Rattle.m386_opmap.specs.declared.op.Addr.{Addr}
use Rattle.m386_opmap.specs.declared.op.Arg.{Arg}
use Rattle.m386_opmap.specs.declared.op.Arg.TheVariants.{Reg, Mem}
use Rattle.m386_opmap.specs.declared.op.Op.{Op}
use Rattle.m386_opmap.specs.declared.outcome.Reading.{Reading}
use Rattle.m386_opmap.specs.declared.outcome.Reading.TheVariants.{Spelled, More, Refused}
use Rattle.m386_opmap.specs.declared.row.Row.{Row}
use Rattle.m386_opmap.specs.Forms.{Form, register, based, indexed, top_bits, middle_bits, low, displacement, displacement_length, base_of, index_of, scale_of}
use Rattle.m386_opmap.specs.Operands.{is_memory, tail_length, operation}
use Rattle.m386_opmap.specs.Readings.{tail_reading, displaced_reading, sib_reading, form_reading, reading_by, with_place}
use Rattle.m386_opmap.specs.Spelling.{SpelledBy}

-- each is a byte
abbrev pub AllAreBytes : List ℕ → Type 0
AllAreBytes bs = All (λ b. b < 256) bs

-- so many zeros
abbrev pub so_many_zeros : ℕ → List ℕ
so_many_zeros n = replicate n 0

pub zeros_are_bytes : (n : ℕ) → AllAreBytes (so_many_zeros n)
zeros_are_bytes n = All-replicate (λ b. b < 256) n 0 (omega arith)

with_zeros : (bs : List ℕ) (n : ℕ) → AllAreBytes bs → AllAreBytes (bs ++ so_many_zeros n)
with_zeros bs n h = All-append (λ b. b < 256) bs (so_many_zeros n) h (zeros_are_bytes n)

pub front_bytes : (xs ys : List ℕ) → AllAreBytes (xs ++ ys) → AllAreBytes xs
front_bytes xs ys h =
    let P : List ℕ → Type 0 = AllAreBytes in
    subst P (take_at xs ys (length xs) refl) (All-take (λ b. b < 256) (length xs) (xs ++ ys) h)

pub back_bytes : (xs ys : List ℕ) → AllAreBytes (xs ++ ys) → AllAreBytes ys
back_bytes xs ys h =
    let P : List ℕ → Type 0 = AllAreBytes in
    subst P (drop_at xs ys (length xs) refl) (All-drop (λ b. b < 256) (length xs) (xs ++ ys) h)

-- the bytes begin with a spelling
pub record Fronts (rows : List Row) (bytes : List ℕ) (op : Op) (len : ℕ) : Type 0 where
  pub front : List ℕ
  pub rest : List ℕ
  pub parts : bytes ≡ front ++ rest
  pub size : len ≡ length front
  pub spelled : SpelledBy rows op front

-- a spelling begins with the bytes
pub record Opens (rows : List Row) (bytes : List ℕ) : Type 0 where
  pub op : Op
  pub rest : List ℕ
  pub spelled : SpelledBy rows op (bytes ++ rest)

-- the bytes are refused at one of them, whatever follows it, and not before
pub record RefusedAt (rows : List Row) (bytes : List ℕ) (at : ℕ) : Type 0 where
  pub front : List ℕ
  pub byte : ℕ
  pub rest : List ℕ
  pub parts : bytes ≡ front ++ byte ∷ rest
  pub size : at ≡ length front
  pub before : reading_by rows front ≡ More
  pub after : (next : List ℕ) → reading_by rows (front ++ byte ∷ next) ≡ Refused at

abbrev pub Outcome : List Row → List ℕ → Reading → Type 0
Outcome rows bytes (Spelled op len) = Fronts rows bytes op len
Outcome rows bytes More = Opens rows bytes
Outcome rows bytes (Refused at) = RefusedAt rows bytes at

-- a spelling at equal bytes
pub spelled_again : (rows : List Row) (op : Op) (bs cs : List ℕ) → bs ≡ cs → SpelledBy rows op bs → SpelledBy rows op cs
spelled_again rows op bs cs e s = let P : List ℕ → Type 0 = λ x. SpelledBy rows op x in subst P e s

pub outcome_at : (rows : List Row) (bs cs : List ℕ) (x : Reading) → bs ≡ cs → Outcome rows bs x → Outcome rows cs x
outcome_at rows bs cs x e o = let P : List ℕ → Type 0 = λ y. Outcome rows y x in subst P e o

-- the bytes behind opcode and ModRM
pub tail_outcome : (rows : List Row) (c : List ℕ) (at : ℕ) (r : Row) (f : Fields) → at ≡ length c →
    ((tail : List ℕ) → length tail ≡ tail_length r f.prefixes.narrow → AllAreBytes (c ++ tail) → SpelledBy rows (operation r f tail) (c ++ tail)) →
    (bytes : List ℕ) → AllAreBytes (c ++ bytes) → Outcome rows (c ++ bytes) (tail_reading r f at bytes)
unfolding tail_reading
tail_outcome rows c at r f e makes bytes h =
    let n : ℕ = tail_length r f.prefixes.narrow in
    cond_both (nat_lt (length bytes) n) More (Spelled (operation r f (take n bytes)) (at + n)) (Outcome rows (c ++ bytes))
    (λ t.
    let short : length bytes < n = ltb-true (length bytes) n t in
    let fill : List ℕ = so_many_zeros (n - length bytes) in
    let size : length (bytes ++ fill) ≡ n = simp (length-append, length-replicate) (omega arith) in
    let join : (c ++ bytes) ++ fill ≡ c ++ (bytes ++ fill) = append_assoc c bytes fill in
    let P : List ℕ → Type 0 = AllAreBytes in
    record { op = operation r f (bytes ++ fill); rest = fill; spelled = spelled_again rows _ _ _ (sym join) (makes (bytes ++ fill) size (subst P join (with_zeros (c ++ bytes) (n - length bytes) h))) })
    (λ t.
    let long : n ≤ length bytes = ltb-false (length bytes) n t in
    let size : length (take n bytes) ≡ n = length-take-le n bytes long in
    let join : (c ++ take n bytes) ++ drop n bytes ≡ c ++ bytes = append_assoc c (take n bytes) (drop n bytes) ∙ ap (λ x. c ++ x) (take-append-drop n bytes) in
    record { front = c ++ take n bytes; rest = drop n bytes; parts = sym join; size = simp (length-append) (omega (arith, e, size)); spelled = makes (take n bytes) size (front_bytes (c ++ take n bytes) (drop n bytes) (let P : List ℕ → Type 0 = AllAreBytes in subst P (sym join) h)) })

-- a displacement
displaced_outcome : (rows : List Row) (c : List ℕ) (at : ℕ) (r : Row) (f : Fields) (address : Addr) (n : ℕ) → at ≡ length c →
    ((ds tail : List ℕ) → length ds ≡ n → length tail ≡ tail_length r f.prefixes.narrow → AllAreBytes (c ++ (ds ++ tail)) →
    SpelledBy rows (operation r (with_place f (Mem (record address { disp = displacement ds }))) tail) (c ++ (ds ++ tail))) →
    (bytes : List ℕ) → AllAreBytes (c ++ bytes) → Outcome rows (c ++ bytes) (displaced_reading r f address n at bytes)
unfolding displaced_reading
displaced_outcome rows c at r f address n e makes bytes h =
    let k : ℕ = tail_length r f.prefixes.narrow in
    let P : List ℕ → Type 0 = AllAreBytes in
    let after : Fields = with_place f (Mem (record address { disp = displacement (take n bytes) })) in
    cond_both (nat_lt (length bytes) n) More (tail_reading r after (at + n) (drop n bytes)) (Outcome rows (c ++ bytes))
    (λ t.
    let short : length bytes < n = ltb-true (length bytes) n t in
    let fill : List ℕ = so_many_zeros (n - length bytes) in
    let size : length (bytes ++ fill) ≡ n = simp (length-append, length-replicate) (omega arith) in
    let join : (c ++ bytes) ++ (fill ++ so_many_zeros k) ≡ c ++ ((bytes ++ fill) ++ so_many_zeros k) =
    append_assoc c bytes (fill ++ so_many_zeros k) ∙ ap (λ x. c ++ x) (sym (append_assoc bytes fill (so_many_zeros k))) in
    let are : AllAreBytes ((c ++ bytes) ++ (fill ++ so_many_zeros k)) = All-append (λ b. b < 256) (c ++ bytes) (fill ++ so_many_zeros k) h (with_zeros fill k (zeros_are_bytes (n - length bytes))) in
    record { op = operation r (with_place f (Mem (record address { disp = displacement (bytes ++ fill) }))) (so_many_zeros k); rest = fill ++ so_many_zeros k; spelled = spelled_again rows _ _ _ (sym join) (makes (bytes ++ fill) (so_many_zeros k) size (length-replicate k 0) (subst P join are)) })
    (λ t.
    let long : n ≤ length bytes = ltb-false (length bytes) n t in
    let size : length (take n bytes) ≡ n = length-take-le n bytes long in
    let join : (c ++ take n bytes) ++ drop n bytes ≡ c ++ bytes = append_assoc c (take n bytes) (drop n bytes) ∙ ap (λ x. c ++ x) (take-append-drop n bytes) in
    outcome_at rows _ _ _ join
    (tail_outcome rows (c ++ take n bytes) (at + n) r after (simp length-append (omega (arith, e, size)))
    (λ tail l are. spelled_again rows _ _ _ (sym (append_assoc c (take n bytes) tail)) (makes (take n bytes) tail size l (subst P (append_assoc c (take n bytes) tail) are)))
    (drop n bytes) (subst P (sym join) h)))

-- a byte more behind some bytes
pub bytes_more : (c : List ℕ) (b : ℕ) (bytes : List ℕ) → (c ++ b ∷ []) ++ bytes ≡ c ++ b ∷ bytes
bytes_more c b bytes = append_assoc c (b ∷ []) bytes

pub length_more : (c : List ℕ) (b at : ℕ) → at ≡ length c → at + 1 ≡ length (c ++ b ∷ [])
length_more c b at e = simp length-append (omega (arith, e))

-- the address of a SIB byte
abbrev sib_address : Fields → ℕ → ℕ → Addr
sib_address f mode s = record { seg = f.prefixes.seg; base = base_of mode (low s); index = index_of s; scale = scale_of s; disp = 0 }

-- a SIB byte
sib_outcome : (rows : List Row) (c : List ℕ) (at : ℕ) (r : Row) (f : Fields) (mode : ℕ) → at ≡ length c →
    ((s : ℕ) (ds tail : List ℕ) → length ds ≡ displacement_length mode (low s) → length tail ≡ tail_length r f.prefixes.narrow → AllAreBytes (c ++ (s ∷ ds ++ tail)) →
    SpelledBy rows (operation r (with_place f (Mem (record (sib_address f mode s) { disp = displacement ds }))) tail) (c ++ (s ∷ ds ++ tail))) →
    (bytes : List ℕ) → AllAreBytes (c ++ bytes) → Outcome rows (c ++ bytes) (sib_reading r f mode at bytes)
unfolding sib_reading
sib_outcome rows c at r f mode e makes [] h =
    let k : ℕ = tail_length r f.prefixes.narrow in
    let d : ℕ = displacement_length mode (low 0) in
    let P : List ℕ → Type 0 = AllAreBytes in
    let join : (c ++ []) ++ (0 ∷ so_many_zeros d ++ so_many_zeros k) ≡ c ++ (0 ∷ so_many_zeros d ++ so_many_zeros k) = ap (λ x. x ++ (0 ∷ so_many_zeros d ++ so_many_zeros k)) (append-nil c) in
    let fill : AllAreBytes (0 ∷ so_many_zeros d ++ so_many_zeros k) = All-cons (λ b. b < 256) 0 (so_many_zeros d ++ so_many_zeros k) (omega arith) (with_zeros (so_many_zeros d) k (zeros_are_bytes d)) in
    let are : AllAreBytes (c ++ (0 ∷ so_many_zeros d ++ so_many_zeros k)) = All-append (λ b. b < 256) c (0 ∷ so_many_zeros d ++ so_many_zeros k) (subst P (append-nil c) h) fill in
    record { op = operation r (with_place f (Mem (record (sib_address f mode 0) { disp = displacement (so_many_zeros d) }))) (so_many_zeros k); rest = 0 ∷ so_many_zeros d ++ so_many_zeros k; spelled = spelled_again rows _ _ _ (sym join) (makes 0 (so_many_zeros d) (so_many_zeros k) (length-replicate d 0) (length-replicate k 0) are) }
sib_outcome rows c at r f mode e makes (s ∷ bytes) h =
    let P : List ℕ → Type 0 = AllAreBytes in
    outcome_at rows _ _ _ (bytes_more c s bytes)
    (displaced_outcome rows (c ++ s ∷ []) (at + 1) r f (sib_address f mode s) (displacement_length mode (low s)) (length_more c s at e)
    (λ ds tail n l are. spelled_again rows _ _ _ (sym (bytes_more c s (ds ++ tail))) (makes s ds tail n l (subst P (bytes_more c s (ds ++ tail)) are)))
    bytes (subst P (sym (bytes_more c s bytes)) h))

ne_from_test : (a b : ℕ) → (a == b) ≡ false → a ≢ b
ne_from_test a b h e = eqb-false a b h e

-- what the ModRM byte names
pub form_outcome : (rows : List Row) (c : List ℕ) (at : ℕ) (r : Row) (f : Fields) (m : ℕ) → at ≡ length c →
    ((ms : List ℕ) (place : Arg) (tail : List ℕ) → Form f.prefixes.seg (m ∷ ms) (middle_bits m) (Some place) → is_memory (Some place) ≡ not (top_bits m == 3) →
    length tail ≡ tail_length r f.prefixes.narrow → AllAreBytes (c ++ (ms ++ tail)) →
    SpelledBy rows (operation r (with_place f place) tail) (c ++ (ms ++ tail))) →
    (bytes : List ℕ) → AllAreBytes (c ++ bytes) → Outcome rows (c ++ bytes) (form_reading r f m at bytes)
unfolding form_reading
form_outcome rows c at r f m e makes bytes h =
    let address : Addr = record { seg = f.prefixes.seg; base = base_of (top_bits m) (low m); index = None; scale = 1; disp = 0 } in
    let d : ℕ = displacement_length (top_bits m) (low m) in
    cond_both (top_bits m == 3) (tail_reading r (with_place f (Reg (low m))) at bytes) (cond (low m == 4) (sib_reading r f (top_bits m) at bytes) (displaced_reading r f address d at bytes)) (Outcome rows (c ++ bytes))
    (λ t. tail_outcome rows c at r (with_place f (Reg (low m))) e
    (λ tail l are. makes [] (Reg (low m)) tail (register m (eqb-true (top_bits m) 3 t)) (rw t refl) l are) bytes h)
    (λ t. cond_both (low m == 4) (sib_reading r f (top_bits m) at bytes) (displaced_reading r f address d at bytes) (Outcome rows (c ++ bytes))
    (λ u. sib_outcome rows c at r f (top_bits m) e
    (λ s ds tail n l are. makes (s ∷ ds) (Mem (record (sib_address f (top_bits m) s) { disp = displacement ds })) tail (indexed m s ds (ne_from_test (top_bits m) 3 t) (eqb-true (low m) 4 u) n) (rw t refl) l are) bytes h)
    (λ u. displaced_outcome rows c at r f address d e
    (λ ds tail n l are. makes ds (Mem (record address { disp = displacement ds })) tail (based m ds (ne_from_test (top_bits m) 3 t) (ne_from_test (low m) 4 u) n) (rw t refl) l are) bytes h))
