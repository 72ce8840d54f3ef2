-- A report gives its cycles back.
use Rattle.std.proofs.Common.{◌≡◌, ℕ, zero, suc, ◌+◌, ◌*◌, ◌/◌, ◌%◌, ◌^◌, ◌<◌, Bool, true, false, not, cond, eqb, List, [], ◌∷◌, ◌++◌, length, Option, Some, codes, decimal, refl, ap, sym, subst, ◌∙◌, append_assoc, arith, length-append}
use Rattle.std.specs.Prelude.{slice_index}
use Rattle.std.specs.List.{flat_map, list_all, AllByRecursion}
use Rattle.std.specs.Int.{w32, to_be_bytes, from_be_bytes}
use Rattle.std.proofs.lemmas.Bool.{and_parts}
use Rattle.std.proofs.lemmas.List.{append_cancel_left}
use Rattle.std.proofs.lemmas.Fmt.{decimal_digit, decimal_injective}
use Rattle.std.proofs.lemmas.Nat.{from_be_bytes-to_be_bytes_4}
use Rattle.hex.specs.Hex.{encode_lower, lower_digits, hex_digit_value, decode_of, IsBytes}
use Rattle.hex.proofs.HexLemmas.{length-encode_with, decode_of-encode_lower, decode_of-same, IsDigits-lower_digits}
use Rattle.m386_base.specs.declared.ask.Ask.{Ask}
use Rattle.m386_base.specs.declared.ask.Cycle.{Cycle}
use Rattle.m386_base.specs.declared.ask.Space.{Space}
use Rattle.m386_base.specs.declared.ask.Space.TheVariants.{Memory, Port}
use Rattle.m386_base.specs.declared.ask.Role.{Role}
use Rattle.m386_base.specs.declared.ask.Role.TheVariants.{Fetch, Operand, Push, Pop, Flags, Gdt, Ldt, Idt, GdtAcc, LdtAcc, Tss, ClaimJmp, ClaimCall, ClaimStart, ClaimLtr, Save, Link, Back, RelJmp, RelRet, Load, Inner, Map, Lgdt, Lidt}
use Rattle.m386_image.specs.declared.image.Image.{Image}
use Rattle.m386_memory.specs.Contents.{Contents}
use Rattle.m386_memory.specs.declared.ended.ProcEnd.{ProcEnd}
use Rattle.m386_state.specs.declared.proc.Proc.{Proc}
use Rattle.m386_book.specs.declared.verdict.Verdict.{Verdict}
use Rattle.m386_trace.specs.Line.{spaced, hex1, hex8, two_digits}
use Rattle.m386_trace.specs.Report.{ask_fields, cycle_text, left_at, machine_text, proc_text, procs_text, report_text, title_text, verdict_text}
use Rattle.m386_trace.specs.Tasks.{tasks_text}
use Rattle.m386_trace.specs.Told.{HasReport, HasWidths}
use Rattle.m386_trace.specs.Words.{joined_word, role_word, space_word, write_word}

-- ---- fronts of texts

-- fronts of one length
split_same : (f g r s : List ℕ) → length f ≡ length g → f ++ r ≡ g ++ s → (f ≡ g) × (r ≡ s)
split_same [] [] r s len same = (refl, same)
split_same [] (y ∷ ys) r s len same = absurd (omega arith)
split_same (x ∷ xs) [] r s len same = absurd (omega arith)
split_same (x ∷ xs) (y ∷ ys) r s len same =
    let head : x ≡ y = cc in
    let tail : xs ++ r ≡ ys ++ s = cc in
    let rest = split_same xs ys r s (omega arith) tail in
    let front : xs ≡ ys = rest.0 in (cc, rest.1)

-- a text with no space in it
abbrev has_no_space : List ℕ → Bool
has_no_space text = list_all (λ b. not (eqb b 32)) text

space_at_head : (b : ℕ) (bs : List ℕ) → has_no_space (b ∷ bs) ≡ true → 32 ≡ b → ⊥
space_at_head b bs none same =
    let parts = and_parts (not (eqb b 32)) (has_no_space bs) none in
    let here : not (eqb 32 32) ≡ true = subst (λ (k : ℕ). not (eqb k 32) ≡ true) (sym same) parts.0 in cc

-- fronts up to the first space
split_word : (f g r s : List ℕ) → has_no_space f ≡ true → has_no_space g ≡ true → f ++ (32 ∷ r) ≡ g ++ (32 ∷ s) → (f ≡ g) × (r ≡ s)
split_word [] [] r s none other same = let tail : r ≡ s = cc in (refl, tail)
split_word [] (y ∷ ys) r s none other same = let head : 32 ≡ y = cc in absurd (space_at_head y ys other head)
split_word (x ∷ xs) [] r s none other same = let head : 32 ≡ x = cc in absurd (space_at_head x xs none head)
split_word (x ∷ xs) (y ∷ ys) r s none other same =
    let head : x ≡ y = cc in
    let tail : xs ++ (32 ∷ r) ≡ ys ++ (32 ∷ s) = cc in
    let rest = split_word xs ys r s (and_parts (not (eqb x 32)) (has_no_space xs) none).1 (and_parts (not (eqb y 32)) (has_no_space ys) other).1 tail in
    let front : xs ≡ ys = rest.0 in (cc, rest.1)

-- ---- fields

-- two lists of fields, with what follows them, that are one text
record SameText (fs gs : List (List ℕ)) (r s : List ℕ) : Type 0 where
  text : spaced fs ++ r ≡ spaced gs ++ s

spaced_then : (f : List ℕ) (fs : List (List ℕ)) (r : List ℕ) → spaced (f ∷ fs) ++ r ≡ 32 ∷ (f ++ (spaced fs ++ r))
unfolding spaced
spaced_then f fs r = ap (λ (t : List ℕ). 32 ∷ t) (append_assoc f (spaced fs) r)

-- the first fields, where they have one length
field_same : {f g : List ℕ} {fs gs : List (List ℕ)} {r s : List ℕ} → length f ≡ length g → SameText (f ∷ fs) (g ∷ gs) r s → (f ≡ g) × SameText fs gs r s
field_same {f} {g} {fs} {gs} {r} {s} len same =
    let text : 32 ∷ (f ++ (spaced fs ++ r)) ≡ 32 ∷ (g ++ (spaced gs ++ s)) = sym (spaced_then f fs r) ∙ same.text ∙ spaced_then g gs s in
    let behind : f ++ (spaced fs ++ r) ≡ g ++ (spaced gs ++ s) = cc text in
    let parts = split_same f g (spaced fs ++ r) (spaced gs ++ s) len behind in (parts.0, record { text = parts.1 })

-- the first fields, where they have no space
word_same : {f g k l : List ℕ} {fs gs : List (List ℕ)} {r s : List ℕ} → has_no_space f ≡ true → has_no_space g ≡ true
    → SameText (f ∷ k ∷ fs) (g ∷ l ∷ gs) r s → (f ≡ g) × SameText (k ∷ fs) (l ∷ gs) r s
word_same {f} {g} {k} {l} {fs} {gs} {r} {s} none other same =
    let text : 32 ∷ (f ++ (spaced (k ∷ fs) ++ r)) ≡ 32 ∷ (g ++ (spaced (l ∷ gs) ++ s)) = sym (spaced_then f (k ∷ fs) r) ∙ same.text ∙ spaced_then g (l ∷ gs) s in
    let behind : f ++ (spaced (k ∷ fs) ++ r) ≡ g ++ (spaced (l ∷ gs) ++ s) = cc text in
    let one = ap (λ (t : List ℕ). f ++ t) (sym (spaced_then k fs r)) in
    let two = ap (λ (t : List ℕ). g ++ t) (spaced_then l gs s) in
    let parts = split_word f g (k ++ (spaced fs ++ r)) (l ++ (spaced gs ++ s)) none other (one ∙ behind ∙ two) in
    (parts.0, record { text = spaced_then k fs r ∙ ap (λ (t : List ℕ). 32 ∷ t) parts.1 ∙ sym (spaced_then l gs s) })

-- ---- numbers and words

length-decimal : (n : ℕ) → n < 10 → length (decimal n) ≡ 1
length-decimal n small = ap length (decimal_digit n small)

length-hex8 : (n : ℕ) → length (hex8 n) ≡ 8
unfolding hex8
length-hex8 n = length-encode_with lower_digits (to_be_bytes w32 n)

-- the bytes of a number are bytes
to_be_bytes-are : (n : ℕ) → IsBytes (to_be_bytes w32 n)
to_be_bytes-are n zero = omega arith
to_be_bytes-are n (suc zero) = omega arith
to_be_bytes-are n (suc (suc zero)) = omega arith
to_be_bytes-are n (suc (suc (suc zero))) = omega arith
to_be_bytes-are n (suc (suc (suc (suc i)))) = omega arith

hex8-same : (m n : ℕ) → m < 2 ^ 32 → n < 2 ^ 32 → hex8 m ≡ hex8 n → m ≡ n
unfolding hex8
hex8-same m n m_fits n_fits same =
    let bytes : to_be_bytes w32 m ≡ to_be_bytes w32 n =
    decode_of-same (encode_lower (to_be_bytes w32 m)) (to_be_bytes w32 m) (to_be_bytes w32 n) (decode_of-encode_lower (to_be_bytes w32 m) (to_be_bytes-are m))
    (ap decode_of same ∙ decode_of-encode_lower (to_be_bytes w32 n) (to_be_bytes-are n)) in
    sym (from_be_bytes-to_be_bytes_4 m m_fits) ∙ ap (from_be_bytes w32) bytes ∙ from_be_bytes-to_be_bytes_4 n n_fits

length-hex1 : (n : ℕ) → length (hex1 n) ≡ 1
unfolding hex1
length-hex1 n = refl

hex1-same : (m n : ℕ) → m < 16 → n < 16 → hex1 m ≡ hex1 n → m ≡ n
unfolding hex1
hex1-same m n m_fits n_fits same =
    let digit : slice_index lower_digits m ≡ slice_index lower_digits n = cc in
    let values : Some m ≡ Some n = sym (IsDigits-lower_digits m m_fits) ∙ ap hex_digit_value digit ∙ IsDigits-lower_digits n n_fits in cc

length-two_digits : (n : ℕ) → length (two_digits n) ≡ 2
unfolding two_digits
length-two_digits n = refl

two_digits-same : (m n : ℕ) → two_digits m ≡ two_digits n → m ≡ n
unfolding two_digits
two_digits-same m n same =
    let high : 48 + m / 10 ≡ 48 + n / 10 = cc in
    let low : 48 + m % 10 ≡ 48 + n % 10 = cc in omega arith

-- a text as one number
abbrev number_of : List ℕ → ℕ
number_of [] = 0
number_of (b ∷ bs) = b + 256 * number_of bs

length-space_word : (s : Space) → length (space_word s) ≡ 1
length-space_word Memory = refl
length-space_word Port = refl

space_word-same : (s t : Space) → space_word s ≡ space_word t → s ≡ t
space_word-same Memory Memory same = refl
space_word-same Memory Port same = absurd (omega (arith, ap number_of same))
space_word-same Port Memory same = absurd (omega (arith, ap number_of same))
space_word-same Port Port same = refl

length-write_word : (b : Bool) → length (write_word b) ≡ 1
length-write_word true = refl
length-write_word false = refl

write_word-same : (b c : Bool) → write_word b ≡ write_word c → b ≡ c
write_word-same true true same = refl
write_word-same true false same = absurd (omega (arith, ap number_of same))
write_word-same false true same = absurd (omega (arith, ap number_of same))
write_word-same false false same = refl

length-joined_word : (b : Bool) → length (joined_word b) ≡ 1
length-joined_word true = refl
length-joined_word false = refl

joined_word-same : (b c : Bool) → joined_word b ≡ joined_word c → b ≡ c
joined_word-same true true same = refl
joined_word-same true false same = absurd (omega (arith, ap number_of same))
joined_word-same false true same = absurd (omega (arith, ap number_of same))
joined_word-same false false same = refl

-- the role whose word is this number
abbrev role_of : ℕ → Role
role_of n =
    cond (eqb n (number_of (role_word Fetch))) Fetch (
    cond (eqb n (number_of (role_word Operand))) Operand (
    cond (eqb n (number_of (role_word Push))) Push (
    cond (eqb n (number_of (role_word Pop))) Pop (
    cond (eqb n (number_of (role_word Flags))) Flags (
    cond (eqb n (number_of (role_word Gdt))) Gdt (
    cond (eqb n (number_of (role_word Ldt))) Ldt (
    cond (eqb n (number_of (role_word Idt))) Idt (
    cond (eqb n (number_of (role_word GdtAcc))) GdtAcc (
    cond (eqb n (number_of (role_word LdtAcc))) LdtAcc (
    cond (eqb n (number_of (role_word Tss))) Tss (
    cond (eqb n (number_of (role_word ClaimJmp))) ClaimJmp (
    cond (eqb n (number_of (role_word ClaimCall))) ClaimCall (
    cond (eqb n (number_of (role_word ClaimStart))) ClaimStart (
    cond (eqb n (number_of (role_word ClaimLtr))) ClaimLtr (
    cond (eqb n (number_of (role_word Save))) Save (
    cond (eqb n (number_of (role_word Link))) Link (
    cond (eqb n (number_of (role_word Back))) Back (
    cond (eqb n (number_of (role_word RelJmp))) RelJmp (
    cond (eqb n (number_of (role_word RelRet))) RelRet (
    cond (eqb n (number_of (role_word Load))) Load (
    cond (eqb n (number_of (role_word Inner))) Inner (
    cond (eqb n (number_of (role_word Map))) Map (
    cond (eqb n (number_of (role_word Lgdt))) Lgdt (Lidt))))))))))))))))))))))))

role_of-word : (r : Role) → role_of (number_of (role_word r)) ≡ r
role_of-word Fetch = refl
role_of-word Operand = refl
role_of-word Push = refl
role_of-word Pop = refl
role_of-word Flags = refl
role_of-word Gdt = refl
role_of-word Ldt = refl
role_of-word Idt = refl
role_of-word GdtAcc = refl
role_of-word LdtAcc = refl
role_of-word Tss = refl
role_of-word ClaimJmp = refl
role_of-word ClaimCall = refl
role_of-word ClaimStart = refl
role_of-word ClaimLtr = refl
role_of-word Save = refl
role_of-word Link = refl
role_of-word Back = refl
role_of-word RelJmp = refl
role_of-word RelRet = refl
role_of-word Load = refl
role_of-word Inner = refl
role_of-word Map = refl
role_of-word Lgdt = refl
role_of-word Lidt = refl

role_word-same : (r s : Role) → role_word r ≡ role_word s → r ≡ s
role_word-same r s same = sym (role_of-word r) ∙ ap (λ (word : List ℕ). role_of (number_of word)) same ∙ role_of-word s

role_word-no_space : (r : Role) → has_no_space (role_word r) ≡ true
role_word-no_space Fetch = refl
role_word-no_space Operand = refl
role_word-no_space Push = refl
role_word-no_space Pop = refl
role_word-no_space Flags = refl
role_word-no_space Gdt = refl
role_word-no_space Ldt = refl
role_word-no_space Idt = refl
role_word-no_space GdtAcc = refl
role_word-no_space LdtAcc = refl
role_word-no_space Tss = refl
role_word-no_space ClaimJmp = refl
role_word-no_space ClaimCall = refl
role_word-no_space ClaimStart = refl
role_word-no_space ClaimLtr = refl
role_word-no_space Save = refl
role_word-no_space Link = refl
role_word-no_space Back = refl
role_word-no_space RelJmp = refl
role_word-no_space RelRet = refl
role_word-no_space Load = refl
role_word-no_space Inner = refl
role_word-no_space Map = refl
role_word-no_space Lgdt = refl
role_word-no_space Lidt = refl

-- ---- cycles

ask_same : (a b : Ask) → a.space ≡ b.space → a.write ≡ b.write → a.joined ≡ b.joined → a.role ≡ b.role → a.part ≡ b.part → a.addr ≡ b.addr → a.enables ≡ b.enables → a.value ≡ b.value → a ≡ b
ask_same a b space write joined role part addr enables value =
    λ i. record { space = space i; write = write i; joined = joined i; role = role i; part = part i; addr = addr i; enables = enables i; value = value i }

cycle_then : (c : Cycle) (r : List ℕ) → cycle_text c ++ r ≡ 99 ∷ (spaced (decimal c.cpu ∷ ask_fields c.ask) ++ (10 ∷ r))
unfolding cycle_text
cycle_then c r = ap (λ (t : List ℕ). 99 ∷ t) (append_assoc (spaced (decimal c.cpu ∷ ask_fields c.ask)) (10 ∷ []) r)

ends_same : (r s : List ℕ) → spaced [] ++ (10 ∷ r) ≡ spaced [] ++ (10 ∷ s) → r ≡ s
unfolding spaced
ends_same r s same = cc

-- two texts that begin with the line of a cycle
cycle_same : (c d : Cycle) (r s : List ℕ) → HasWidths c → HasWidths d → cycle_text c ++ r ≡ cycle_text d ++ s → (c ≡ d) × (r ≡ s)
cycle_same c d r s one two same =
    let text : 99 ∷ (spaced (decimal c.cpu ∷ ask_fields c.ask) ++ (10 ∷ r)) ≡ 99 ∷ (spaced (decimal d.cpu ∷ ask_fields d.ask) ++ (10 ∷ s)) = sym (cycle_then c r) ∙ same ∙ cycle_then d s in
    let fields : SameText (decimal c.cpu ∷ ask_fields c.ask) (decimal d.cpu ∷ ask_fields d.ask) (10 ∷ r) (10 ∷ s) = record { text = cc text } in
    let cpu = field_same (length-decimal c.cpu one.cpu ∙ sym (length-decimal d.cpu two.cpu)) fields in
    let space = field_same (length-space_word c.ask.space ∙ sym (length-space_word d.ask.space)) cpu.1 in
    let write = field_same (length-write_word c.ask.write ∙ sym (length-write_word d.ask.write)) space.1 in
    let joined = field_same (length-joined_word c.ask.joined ∙ sym (length-joined_word d.ask.joined)) write.1 in
    let role = word_same (role_word-no_space c.ask.role) (role_word-no_space d.ask.role) joined.1 in
    let part = field_same (length-two_digits c.ask.part ∙ sym (length-two_digits d.ask.part)) role.1 in
    let addr = field_same (length-hex8 c.ask.addr ∙ sym (length-hex8 d.ask.addr)) part.1 in
    let enables = field_same (length-hex1 c.ask.enables ∙ sym (length-hex1 d.ask.enables)) addr.1 in
    let value = field_same (length-hex8 c.ask.value ∙ sym (length-hex8 d.ask.value)) enables.1 in
    let cpus : c.cpu ≡ d.cpu = decimal_injective c.cpu d.cpu (omega (arith, one.cpu)) (omega (arith, two.cpu)) cpu.0 in
    let asks = ask_same c.ask d.ask (space_word-same _ _ space.0) (write_word-same _ _ write.0) (joined_word-same _ _ joined.0) (role_word-same _ _ role.0)
    (two_digits-same _ _ part.0) (hex8-same _ _ one.addr two.addr addr.0) (hex1-same _ _ one.enables two.enables enables.0) (hex8-same _ _ one.value two.value value.0) in
    let behind : spaced [] ++ (10 ∷ r) ≡ spaced [] ++ (10 ∷ s) = value.1.text in
    (λ i. record { cpu = cpus i; ask = asks i }, ends_same r s behind)

-- ---- the whole

-- the letters p and c
abbrev letter_of : List ℕ → ℕ
letter_of [] = 0
letter_of (b ∷ bs) = b

other_letters : {r s : List ℕ} → 112 ∷ r ≡ 99 ∷ s → ⊥
other_letters {r} {s} same = omega (arith, ap letter_of same)

-- the lines of cycles, before a text that begins with the letter p
cycles_same : (history other : List Cycle) (r s : List ℕ) → AllByRecursion HasWidths history → AllByRecursion HasWidths other
    → flat_map cycle_text history ++ (112 ∷ r) ≡ flat_map cycle_text other ++ (112 ∷ s) → history ≡ other
cycles_same [] [] r s one two same = refl
cycles_same [] (d ∷ ds) r s one two same =
    let text : 112 ∷ r ≡ 99 ∷ (spaced (decimal d.cpu ∷ ask_fields d.ask) ++ (10 ∷ (flat_map cycle_text ds ++ (112 ∷ s)))) =
    same ∙ append_assoc (cycle_text d) (flat_map cycle_text ds) (112 ∷ s) ∙ cycle_then d (flat_map cycle_text ds ++ (112 ∷ s)) in
    absurd (other_letters text)
cycles_same (c ∷ cs) [] r s one two same =
    let text : 112 ∷ s ≡ 99 ∷ (spaced (decimal c.cpu ∷ ask_fields c.ask) ++ (10 ∷ (flat_map cycle_text cs ++ (112 ∷ r)))) =
    sym same ∙ append_assoc (cycle_text c) (flat_map cycle_text cs) (112 ∷ r) ∙ cycle_then c (flat_map cycle_text cs ++ (112 ∷ r)) in
    absurd (other_letters text)
cycles_same (c ∷ cs) (d ∷ ds) r s one two same =
    let text : cycle_text c ++ (flat_map cycle_text cs ++ (112 ∷ r)) ≡ cycle_text d ++ (flat_map cycle_text ds ++ (112 ∷ s)) =
    sym (append_assoc (cycle_text c) (flat_map cycle_text cs) (112 ∷ r)) ∙ same ∙ append_assoc (cycle_text d) (flat_map cycle_text ds) (112 ∷ s) in
    let parts = cycle_same c d _ _ one.0 two.0 text in
    let head : c ≡ d = parts.0 in
    let tail : cs ≡ ds = cycles_same cs ds r s one.1 two.1 parts.1 in cc

-- the lines of processors begin with the letter p
procs_begin : (procs : List (ProcEnd Proc)) (t : List ℕ) → 0 < length procs → (rest : List ℕ) × (procs_text 0 procs ++ t ≡ 112 ∷ rest)
unfolding procs_text proc_text
procs_begin [] t some = absurd (omega arith)
procs_begin (e ∷ es) t some = (_, refl)

length-spaced : (f : List ℕ) (fs : List (List ℕ)) → length (spaced (f ∷ fs)) ≡ suc (length f + length (spaced fs))
unfolding spaced
length-spaced f fs = ap suc (length-append f (spaced fs))

length-no_fields : length (spaced []) ≡ 0
unfolding spaced
length-no_fields = refl

length-machine_text : (image : Image) (cpus : ℕ) → cpus < 10 → length (machine_text image cpus) ≡ 23
unfolding machine_text
length-machine_text image cpus small =
    let fields = hex8 image.memory ∷ codes "cpus" ∷ decimal cpus ∷ [] in
    omega (
      arith,
      length-append (spaced fields) (10 ∷ []),
      length-spaced (hex8 image.memory) (codes "cpus" ∷ decimal cpus ∷ []),
      length-spaced (codes "cpus") (decimal cpus ∷ []),
      length-spaced (decimal cpus) [],
      length-no_fields,
      length-hex8 image.memory,
      length-decimal cpus small,
    )

report_then : (image : Image) (first : Contents) (history : List Cycle) (procs : List (ProcEnd Proc)) (verdict : Verdict)
    → report_text image first history procs verdict ≡ title_text ++ (machine_text image (length procs) ++ (flat_map cycle_text history ++ (procs_text 0 procs ++ (tasks_text (left_at first history) image.gdt ++ verdict_text verdict))))
unfolding report_text
report_then image first history procs verdict = simp append_assoc

-- two runs with one report have the same cycles
pub tells_cycles : (history other : List Cycle) (image other_image : Image) (first other_first : Contents) (procs other_procs : List (ProcEnd Proc)) (verdict other_verdict : Verdict)
    → HasReport history procs → HasReport other other_procs
    → report_text image first history procs verdict ≡ report_text other_image other_first other other_procs other_verdict → history ≡ other
tells_cycles history other image other_image first other_first procs other_procs verdict other_verdict one two same =
    let text = sym (report_then image first history procs verdict) ∙ same ∙ report_then other_image other_first other other_procs other_verdict in
    let titled = append_cancel_left title_text _ _ text in
    let lengths = length-machine_text image (length procs) one.few ∙ sym (length-machine_text other_image (length other_procs) two.few) in
    let lines = split_same (machine_text image (length procs)) (machine_text other_image (length other_procs)) _ _ lengths titled in
    let begun = procs_begin procs (tasks_text (left_at first history) image.gdt ++ verdict_text verdict) one.some in
    let other_begun = procs_begin other_procs (tasks_text (left_at other_first other) other_image.gdt ++ verdict_text other_verdict) two.some in
    let cycles = sym (ap (λ (t : List ℕ). flat_map cycle_text history ++ t) begun.1) ∙ lines.1 ∙ ap (λ (t : List ℕ). flat_map cycle_text other ++ t) other_begun.1 in
    cycles_same history other begun.0 other_begun.0 one.cycles two.cycles cycles
