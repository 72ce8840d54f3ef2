-- Of the fronts of some bytes one at most has an answer of the decoder's own, and it has one.
use Rattle.std.proofs.Common.{◌≡◌, ℕ, ◌+◌, ◌<◌, ◌≤◌, inl, inr, List, [], ◌∷◌, ◌++◌, length, take, drop, Result, Ok, Err, refl, sym, ◌∙◌, ap, arith, subst, append_assoc, length-append}
use Rattle.std.proofs.lemmas.List.{append-nil, take-append-drop, take-append-le, take_at, nil_from_length}
use Rattle.m386_base.specs.declared.fault.Break.{Break}
use Rattle.m386_opmap.specs.declared.op.Op.{Op}
use Rattle.m386_opmap.specs.Spelling.{Spells, BeginsSpelling, HasNoSpelling}
use Rattle.m386_opmap.proofs.Laws.{no_longer_spelling, one_operation}
use Rattle.m386_decode.specs.declared.decoded.Decoded.{Decoded}
use Rattle.m386_decode.specs.Decoding.{WantsMore, IsRefused, IsDecoded, Concludes}
use Rattle.m386_decode.proofs.Concluding.{begins_before}

-- of two fronts of one list the shorter is a front of the longer
pub front_of_front : (a b c d : List ℕ) → a ++ b ≡ c ++ d → length a ≤ length c → c ≡ a ++ drop (length a) c
front_of_front a b c d e few =
    let same : take (length a) c ≡ a = sym (take-append-le (length a) c d few) ∙ ap (λ x. take (length a) x) (sym e) ∙ take_at a b (length a) refl in
    sym (take-append-drop (length a) c) ∙ ap (λ x. x ++ drop (length a) c) same

-- nothing behind bytes that are as many without it
none_behind : (bytes rest : List ℕ) → length (bytes ++ rest) ≤ length bytes → rest ≡ []
none_behind bytes rest few = nil_from_length rest (omega (arith, few, length-append bytes rest))

same_decoded : (d e : Decoded) → d.op ≡ e.op → d.len ≡ e.len → d ≡ e
same_decoded d e o n =
    let first : d ≡ record { op = e.op; len = d.len } = ap (λ (x : Op). let r : Decoded = record { op = x; len = d.len } in r) o in
    first ∙ ap (λ (x : ℕ). let r : Decoded = record { op = e.op; len = x } in r) n

-- bytes with a spelling at their front don't lack one
spelled_not_none : (op : Op) (bytes rest : List ℕ) → Spells op bytes → HasNoSpelling (bytes ++ rest) → ⊥
spelled_not_none op bytes rest s none = none op bytes rest refl s

decoded_once : (bytes rest : List ℕ) (d e : Decoded) → IsDecoded bytes d → IsDecoded (bytes ++ rest) e → (rest ≡ []) × (d ≡ e)
decoded_once bytes rest d e s t =
    let none : rest ≡ [] = no_longer_spelling d.op e.op bytes rest s.1 t.1 in
    let whole : bytes ++ rest ≡ bytes = ap (λ x. bytes ++ x) none ∙ append-nil bytes in
    let S : List ℕ → Type 0 = λ x. Spells e.op x in
    (none, same_decoded d e (one_operation d.op e.op bytes s.1 (subst S whole t.1)) (s.0 ∙ sym (ap length whole) ∙ sym t.0))

refused_once : (bytes rest : List ℕ) → IsRefused bytes → IsRefused (bytes ++ rest) → rest ≡ []
refused_once bytes [] s t = refl
refused_once bytes (x ∷ xs) s t =
    let sizes : length bytes + length (x ∷ xs) ≡ length t.front + 1 = omega (arith, ap length t.parts, length-append bytes (x ∷ xs), length-append t.front (t.last ∷ [])) in
    let before : t.front ≡ bytes ++ drop (length bytes) t.front = front_of_front bytes (x ∷ xs) t.front (t.last ∷ []) t.parts (omega (arith, sizes)) in
    let B : List ℕ → Type 0 = BeginsSpelling in
    absurd (s.after (begins_before bytes (drop (length bytes) t.front) (subst B before t.before.1)))

err_once : (bytes rest : List ℕ) (a b : Break) → Concludes bytes (Err a) → Concludes (bytes ++ rest) (Err b) → (rest ≡ []) × (a ≡ b)
err_once bytes rest a b (inl s) (inl t) = (refused_once bytes rest s.1 t.1, s.2 ∙ sym t.2)
err_once bytes rest a b (inl s) (inr t) = absurd (s.1.after (begins_before bytes rest t.1.1))
err_once bytes rest a b (inr s) (inl t) =
    let none : rest ≡ [] = none_behind bytes rest (omega (arith, s.0, t.0)) in
    let B : List ℕ → Type 0 = BeginsSpelling in
    absurd (t.1.after (subst B (sym (ap (λ x. bytes ++ x) none ∙ append-nil bytes)) s.1.1))
err_once bytes rest a b (inr s) (inr t) = (none_behind bytes rest (omega (arith, s.0, t.0)), s.2 ∙ sym t.2)

ok_then_err : (bytes rest : List ℕ) (d : Decoded) (b : Break) → Concludes bytes (Ok d) → Concludes (bytes ++ rest) (Err b) → ⊥
ok_then_err bytes rest d b s (inl t) = spelled_not_none d.op bytes rest s.1.1 t.1.none
ok_then_err bytes rest d b s (inr t) = spelled_not_none d.op bytes rest s.1.1 t.1.0

err_then_ok : (bytes rest : List ℕ) (a : Break) (e : Decoded) → Concludes bytes (Err a) → Concludes (bytes ++ rest) (Ok e) → ⊥
err_then_ok bytes rest a e (inl s) t = s.1.after (record { op = e.op; rest = rest; spelled = t.1.1 })
err_then_ok bytes rest a e (inr s) t =
    let none : rest ≡ [] = none_behind bytes rest (omega (arith, s.0, t.0)) in
    let whole : bytes ≡ (bytes ++ rest) ++ [] = sym (append-nil (bytes ++ rest) ∙ ap (λ x. bytes ++ x) none ∙ append-nil bytes) in
    s.1.0 e.op (bytes ++ rest) [] whole t.1.1

-- no two fronts have an answer, and none has two
pub one_answer : (bytes rest : List ℕ) (a b : Result Decoded Break) → Concludes bytes a → Concludes (bytes ++ rest) b → (rest ≡ []) × (a ≡ b)
one_answer bytes rest (Ok d) (Ok e) s t = let same = decoded_once bytes rest d e s.1 t.1 in (same.0, ap Ok same.1)
one_answer bytes rest (Ok d) (Err b) s t = absurd (ok_then_err bytes rest d b s t)
one_answer bytes rest (Err a) (Ok e) s t = absurd (err_then_ok bytes rest a e s t)
one_answer bytes rest (Err a) (Err b) s t = let same = err_once bytes rest a b s t in (same.0, ap Err same.1)

-- what has an answer doesn't want more behind it
pub answered_wants_none : (bytes rest : List ℕ) (a : Result Decoded Break) → Concludes bytes a → WantsMore (bytes ++ rest) → length (bytes ++ rest) < 15 → ⊥
answered_wants_none bytes rest (Ok d) s wants few = spelled_not_none d.op bytes rest s.1.1 wants.0
answered_wants_none bytes rest (Err b) (inl s) wants few = s.1.after (begins_before bytes rest wants.1)
answered_wants_none bytes rest (Err b) (inr s) wants few = absurd (omega (arith, s.0, few, length-append bytes rest))

-- two fronts of one list have the same answer
pub same_answer : (front rest other behind : List ℕ) (a b : Result Decoded Break) → front ++ rest ≡ other ++ behind → length front ≤ length other → Concludes front a → Concludes other b → a ≡ b
same_answer front rest other behind a b e few s t =
    let longer : other ≡ front ++ drop (length front) other = front_of_front front rest other behind e few in
    let C : List ℕ → Type 0 = λ x. Concludes x b in
    (one_answer front (drop (length front) other) a b s (subst C longer t)).1

-- what stands at the front of bytes with no spelling has none
none_before : (front rest : List ℕ) → HasNoSpelling (front ++ rest) → HasNoSpelling front
none_before front rest none op spelling behind parts s =
    none op spelling (behind ++ rest) (ap (λ x. x ++ rest) parts ∙ append_assoc spelling behind rest) s

-- what stands at the front of bytes that want more wants more
pub wanting_before : (front rest : List ℕ) → WantsMore (front ++ rest) → WantsMore front
wanting_before front rest wants = (none_before front rest wants.0, begins_before front rest wants.1)

-- what stands before the end of a spelling has none
none_within : (op : Op) (front : List ℕ) (byte : ℕ) (rest : List ℕ) → Spells op (front ++ byte ∷ rest) → HasNoSpelling front
none_within op front byte rest s other spelling behind parts t =
    let join : front ++ byte ∷ rest ≡ spelling ++ (behind ++ byte ∷ rest) = ap (λ x. x ++ byte ∷ rest) parts ∙ append_assoc spelling behind (byte ∷ rest) in
    let S : List ℕ → Type 0 = λ x. Spells op x in
    let none : behind ++ byte ∷ rest ≡ [] = no_longer_spelling other op spelling (behind ++ byte ∷ rest) t (subst S join s) in
    absurd (omega (arith, ap length none, length-append behind (byte ∷ rest)))

refused_wanting : (front : List ℕ) (byte : ℕ) (rest : List ℕ) → IsRefused (front ++ byte ∷ rest) → WantsMore front
refused_wanting front byte rest t =
    let sizes : length front + length (byte ∷ rest) ≡ length t.front + 1 = omega (arith, ap length t.parts, length-append front (byte ∷ rest), length-append t.front (t.last ∷ [])) in
    let before : t.front ≡ front ++ drop (length front) t.front = front_of_front front (byte ∷ rest) t.front (t.last ∷ []) t.parts (omega (arith, sizes)) in
    let W : List ℕ → Type 0 = WantsMore in
    wanting_before front (drop (length front) t.front) (subst W before t.before)

shorter : (front : List ℕ) (byte : ℕ) (rest : List ℕ) → length (front ++ byte ∷ rest) ≤ 15 → length front < 15
shorter front byte rest few = omega (arith, few, length-append front (byte ∷ rest))

-- every shorter front of bytes with an answer wants more
pub wants_more_before : (front : List ℕ) (byte : ℕ) (rest : List ℕ) (answer : Result Decoded Break) → Concludes (front ++ byte ∷ rest) answer → (length front < 15) × WantsMore front
wants_more_before front byte rest (Ok d) s =
    (shorter front byte rest s.0, (none_within d.op front byte rest s.1.1, record { op = d.op; rest = byte ∷ rest; spelled = s.1.1 }))
wants_more_before front byte rest (Err b) (inl s) = (shorter front byte rest s.0, refused_wanting front byte rest s.1)
wants_more_before front byte rest (Err b) (inr s) = (shorter front byte rest (omega (arith, s.0)), wanting_before front (byte ∷ rest) s.1)
