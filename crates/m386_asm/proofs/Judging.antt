-- What the second walk says of a line.
use Rattle.std.proofs.Common.{◌≡◌, ℕ, ◌+◌, Bool, true, false, List, [], ◌∷◌, ◌++◌, length, refl, sym, ◌∙◌, ap, subst, length-append}
use Rattle.std.specs.Prelude.{Option, Some, None, Result, Ok, Err, IfOk, is_some, if◌then◌else◌}
use Rattle.m386_words.specs.Text.{tokens_of, solid}
use Rattle.m386_lines.specs.declared.kind.AsmKind.{AsmKind}
use Rattle.m386_lines.specs.declared.kind.AsmKind.TheVariants as kinds
use Rattle.m386_lines.specs.Lines.{Meaning, Nothing, shape_of, label_of, statement_in}
use Rattle.m386_lines.specs.Faults.{own_kind, first_of, judged, judged_line, meaning_of, meaning_from, has_strange_byte, has_strange_token, has_wrong_number, has_no_mnemonic, has_wrong_operands, has_no_directive, has_wrong_arguments}
use Rattle.m386_asm.specs.declared.drafted.Draft.{Draft}
use Rattle.m386_asm.specs.declared.spot.Spot.{Spot}
use Rattle.m386_asm.specs.declared.stop.AsmStop.{AsmStop}
use Rattle.m386_asm.specs.declared.stop.AsmStop.TheVariants.{Bad}
use Rattle.m386_asm.specs.declared.survey.Survey.{Survey}
use Rattle.m386_asm.specs.declared.walk.Walk.{Walk}
use Rattle.m386_asm.specs.Drafts.{IsDraft}
use Rattle.m386_asm.specs.Layout.{Laid, Names, Makes, moved, end_of, names_of, has, Has, kind_number}
use Rattle.m386_asm.specs.Turns.{IsTurn, IsWalk}
use Rattle.m386_asm.specs.Walks.{IsAt, IsLeast, IsNoted}
use Rattle.m386_asm.proofs.Least.{Below, from_one, step, not_true}
use Rattle.m386_asm.proofs.Sketched.{end_behind}
use Rattle.m386_asm.proofs.Unique.{made_once}

-- ---- a line that has a kind by itself

abbrev nothing : Meaning
nothing = record { label = None; statement = Nothing }

-- a line that means nothing has no unknown name, and defines none
nothing_unknown : (ls before : List Laid) (l : Laid) → l.meaning ≡ nothing → has ls before l kinds.UnknownName ≡ false
nothing_unknown ls before l e = ap (λ m. has ls before (record { text = l.text; meaning = m; bytes = l.bytes }) kinds.UnknownName) e

nothing_twice : (ls before : List Laid) (l : Laid) → l.meaning ≡ nothing → has ls before l kinds.NameTwice ≡ false
nothing_twice ls before l e = ap (λ m. has ls before (record { text = l.text; meaning = m; bytes = l.bytes }) kinds.NameTwice) e

-- no kind below one, as far as these tests are false
below_two : (ls before : List Laid) (l : Laid) → has ls before l kinds.Ascii ≡ false → Below ls before l 2
below_two ls before l a = step ls before l kinds.Ascii (λ k h it. from_one k h) (not_true (has ls before l kinds.Ascii) a)

below_three : (ls before : List Laid) (l : Laid) → has ls before l kinds.Ascii ≡ false → has ls before l kinds.Token ≡ false → Below ls before l 3
below_three ls before l a b = step ls before l kinds.Token (below_two ls before l a) (not_true (has ls before l kinds.Token) b)

below_four : (ls before : List Laid) (l : Laid) → has ls before l kinds.Ascii ≡ false → has ls before l kinds.Token ≡ false → has ls before l kinds.Number ≡ false → Below ls before l 4
below_four ls before l a b c = step ls before l kinds.Number (below_three ls before l a b) (not_true (has ls before l kinds.Number) c)

below_five : (ls before : List Laid) (l : Laid) → has ls before l kinds.Ascii ≡ false → has ls before l kinds.Token ≡ false → has ls before l kinds.Number ≡ false → has ls before l kinds.Mnemonic ≡ false → Below ls before l 5
below_five ls before l a b c d = step ls before l kinds.Mnemonic (below_four ls before l a b c) (not_true (has ls before l kinds.Mnemonic) d)

below_eight : (ls before : List Laid) (l : Laid) → l.meaning ≡ nothing → Below ls before l 5 → has ls before l kinds.Operands ≡ false → Below ls before l 8
below_eight ls before l n five e =
    let six : Below ls before l 6 = step ls before l kinds.Operands five (not_true (has ls before l kinds.Operands) e) in
    let seven : Below ls before l 7 = step ls before l kinds.UnknownName six (not_true (has ls before l kinds.UnknownName) (nothing_unknown ls before l n)) in
    step ls before l kinds.NameTwice seven (not_true (has ls before l kinds.NameTwice) (nothing_twice ls before l n))

least_is : (ls before : List Laid) (l : Laid) (k kind : AsmKind) → k ≡ kind → Has ls before l k → Below ls before l (kind_number k) → IsLeast ls before l (Some kind)
least_is ls before l k kind e h below = subst (λ x. IsLeast ls before l (Some x)) e (h, below)

some_same : (k j : AsmKind) → Some k ≡ Some j → k ≡ j
some_same k j e = cc

-- the first of the seven that is there is the least of all
least_of : (ls before : List Laid) (l : Laid) (kind : AsmKind) (a b c d e f g : Bool) → l.meaning ≡ nothing →
    has ls before l kinds.Ascii ≡ a → has ls before l kinds.Token ≡ b → has ls before l kinds.Number ≡ c → has ls before l kinds.Mnemonic ≡ d → has ls before l kinds.Operands ≡ e → has ls before l kinds.Directive ≡ f →
    has ls before l kinds.Arguments ≡ g →
    first_of ((kinds.Ascii, a) ∷ (kinds.Token, b) ∷ (kinds.Number, c) ∷ (kinds.Mnemonic, d) ∷ (kinds.Operands, e) ∷ (kinds.Directive, f) ∷ (kinds.Arguments, g) ∷ []) ≡ Some kind → IsLeast ls before l (Some kind)
unfolding first_of
least_of ls before l kind true b c d e f g n p q r s t u v h = least_is ls before l kinds.Ascii kind (some_same kinds.Ascii kind h) p (λ k h it. from_one k h)
least_of ls before l kind false true c d e f g n p q r s t u v h = least_is ls before l kinds.Token kind (some_same kinds.Token kind h) q (below_two ls before l p)
least_of ls before l kind false false true d e f g n p q r s t u v h = least_is ls before l kinds.Number kind (some_same kinds.Number kind h) r (below_three ls before l p q)
least_of ls before l kind false false false true e f g n p q r s t u v h = least_is ls before l kinds.Mnemonic kind (some_same kinds.Mnemonic kind h) s (below_four ls before l p q r)
least_of ls before l kind false false false false true f g n p q r s t u v h = least_is ls before l kinds.Operands kind (some_same kinds.Operands kind h) t (below_five ls before l p q r s)
least_of ls before l kind false false false false false true g n p q r s t u v h = least_is ls before l kinds.Directive kind (some_same kinds.Directive kind h) u (below_eight ls before l n (below_five ls before l p q r s) t)
least_of ls before l kind false false false false false false true n p q r s t u v h =
    least_is ls before l kinds.Arguments kind (some_same kinds.Arguments kind h) v (step ls before l kinds.Directive (below_eight ls before l n (below_five ls before l p q r s) t) (not_true (has ls before l kinds.Directive) u))
least_of ls before l kind false false false false false false false n p q r s t u v h = cc

own_means : (line : List ℕ) (kind : AsmKind) → own_kind line ≡ Some kind → meaning_of line ≡ nothing
unfolding meaning_of
own_means line kind h = ap (λ (o : Option AsmKind). meaning_from (label_of (solid (tokens_of line))) (if is_some o then None else statement_in line)) h

own_least : (ls before : List Laid) (l : Laid) (kind : AsmKind) → own_kind l.text ≡ Some kind → l.meaning ≡ meaning_of l.text → IsLeast ls before l (Some kind)
unfolding own_kind
own_least ls before l kind h m =
    let line : List ℕ = l.text in
    let shape = shape_of (solid (tokens_of line)) in
    least_of ls before l kind (has_strange_byte line) (has_strange_token line) (has_wrong_number line) (has_no_mnemonic shape) (has_wrong_operands shape) (has_no_directive shape) (has_wrong_arguments (tokens_of line) shape)
    (m ∙ own_means line kind h) refl refl refl refl refl refl refl h

-- ---- what is judged

judged_kind : (o : Option AsmKind) (m : Meaning) (kind : AsmKind) → judged o m ≡ Err kind → o ≡ Some kind
judged_kind (Some k) m kind h = let e : k ≡ kind = cc in ap Some e
judged_kind None m kind h = cc

judged_none : (o : Option AsmKind) (m n : Meaning) → judged o m ≡ Ok n → (o ≡ None) × (n ≡ m)
judged_none (Some k) m n h = cc
judged_none None m n h = let e : m ≡ n = cc in (refl, sym e)

pub told_least : (ls before : List Laid) (l : Laid) (survey : Survey) (line : List ℕ) (walk : Walk) (kind : AsmKind) → Err kind ≡ judged_line line → IsTurn ls before l survey line walk → IsLeast ls before l (Some kind)
unfolding judged_line
told_least ls before l survey line walk kind h t =
    own_least ls before l kind (ap own_kind t.line_is ∙ judged_kind (own_kind line) (meaning_of line) kind (sym h)) t.laid.meaning

-- a line that has a kind by itself means nothing
pub told_silent : (line : List ℕ) (kind : AsmKind) → Err kind ≡ judged_line line → meaning_of line ≡ record { label = None; statement = Nothing }
unfolding judged_line
told_silent line kind h = own_means line kind (judged_kind (own_kind line) (meaning_of line) kind (sym h))

pub told_meaning : (line : List ℕ) (m : Meaning) → Ok m ≡ judged_line line → (own_kind line ≡ None) × (m ≡ meaning_of line)
unfolding judged_line
told_meaning line m h = judged_none (own_kind line) (meaning_of line) m (sym h)

-- a line that means something has the least kind that its meaning is told
pub told_by_meaning : {E : Type 0} (survey : Survey) (line : List ℕ) (walk : Walk) (m : Meaning) (r : Result (Option AsmKind) E) → m ≡ meaning_of line → own_kind line ≡ None →
    IfOk r (λ kind. (ls before : List Laid) (l : Laid) (text : List ℕ) → m ≡ meaning_of text → own_kind text ≡ None → IsTurn ls before l survey text walk → IsLeast ls before l kind) →
    IfOk r (λ kind. (ls before : List Laid) (l : Laid) → IsTurn ls before l survey line walk → IsLeast ls before l kind)
told_by_meaning survey line walk m (Ok kind) e own h = λ ls before l t. h ls before l line e own t
told_by_meaning survey line walk m (Err x) e own h = h

-- the number and the kind that are answered
abbrev the_answer : {A : Type 0} → ℕ → AsmKind → Result A AsmStop
the_answer m k = Err (Bad m k)

pub bad_told : {A : Type 0} (m n : ℕ) (k j : AsmKind) → the_answer {A = A} m k ≡ the_answer n j → (m ≡ n) × (k ≡ j)
bad_told m n k j e = (cc, cc)

-- ---- where a line stands

-- what the line means is its meaning
turn_meaning : (ls before : List Laid) (l : Laid) (survey : Survey) (line : List ℕ) (walk : Walk) (m : Meaning) → m ≡ meaning_of line → IsTurn ls before l survey line walk → m ≡ l.meaning
turn_meaning ls before l survey line walk m e t = e ∙ ap meaning_of (sym t.line_is) ∙ sym t.laid.meaning

made_here : (ls before : List Laid) (l : Laid) (survey : Survey) (line : List ℕ) (walk : Walk) (m : Meaning) → m ≡ meaning_of line → IsTurn ls before l survey line walk → Makes (names_of ls) walk.place m.statement l.bytes
made_here ls before l survey line walk m e t =
    let same : m ≡ l.meaning = turn_meaning ls before l survey line walk m e t in
    subst (λ n. Makes (names_of ls) n m.statement l.bytes) (sym t.walk_is.place) (subst (λ (x : Meaning). Makes (names_of ls) (end_of before) x.statement l.bytes) (sym same) t.laid.bytes)

pub turn_length : (ls before : List Laid) (l : Laid) (survey : Survey) (line : List ℕ) (walk : Walk) (m : Meaning) (len : ℕ) → m ≡ meaning_of line → IsTurn ls before l survey line walk →
    ((ns : Names) (text bytes : List ℕ) → (meaning_of text).statement ≡ m.statement → Makes ns walk.place m.statement bytes → length bytes ≡ len) → length l.bytes ≡ len
turn_length ls before l survey line walk m len e t known = known (names_of ls) line l.bytes (ap (λ (x : Meaning). x.statement) (sym e)) (made_here ls before l survey line walk m e t)

pub turn_at : (ls before : List Laid) (l : Laid) (survey : Survey) (line : List ℕ) (walk : Walk) (m : Meaning) (spot : Spot) → m ≡ meaning_of line → IsTurn ls before l survey line walk → spot.lines ≡ walk.lines → spot.place ≡ walk.place →
    length l.bytes ≡ spot.len → IsAt ls before l survey spot m
turn_at ls before l survey line walk m spot e t lines place len = record {
  survey_is = t.survey_is;
  after = l ∷ t.after;
  text = t.text;
  lines = lines ∙ t.walk_is.lines;
  place = place ∙ t.walk_is.place;
  len = sym len;
  meaning_is = turn_meaning ls before l survey line walk m e t;
}

pub turn_own : (ls before : List Laid) (l : Laid) (survey : Survey) (line : List ℕ) (walk : Walk) → own_kind line ≡ None → IsTurn ls before l survey line walk → own_kind l.text ≡ None
turn_own ls before l survey line walk h t = ap own_kind t.line_is ∙ h

-- ---- the walk behind a line

-- what is laid out behind a line
pub drafted_behind : (ls before : List Laid) (l : Laid) (survey : Survey) (line : List ℕ) (walk : Walk) (m : Meaning) (draft : Draft) → m ≡ meaning_of line → IsTurn ls before l survey line walk →
    ((x : Meaning) → x.statement ≡ m.statement → (text : List ℕ) → (bytes : List ℕ) × Makes (names_of ls) walk.place m.statement bytes × IsDraft (names_of ls) (before ++ record { text = text; meaning = x; bytes = bytes } ∷ []) draft) →
    IsDraft (names_of ls) (before ++ l ∷ []) draft
drafted_behind ls before l survey line walk m draft e t take =
    let same : m ≡ l.meaning = turn_meaning ls before l survey line walk m e t in
    let taken = take l.meaning (ap (λ (x : Meaning). x.statement) (sym same)) l.text in
    let bytes : taken.0 ≡ l.bytes = made_once (names_of ls) walk.place m.statement taken.0 l.bytes taken.1 (made_here ls before l survey line walk m e t) in
    subst (λ b. IsDraft (names_of ls) (before ++ record { text = l.text; meaning = l.meaning; bytes = b } ∷ []) draft) bytes taken.2

pub walk_behind : (ls before : List Laid) (l : Laid) (survey : Survey) (line : List ℕ) (walk behind : Walk) (m : Meaning) (len : ℕ) → m ≡ meaning_of line → IsTurn ls before l survey line walk → length l.bytes ≡ len →
    behind.lines ≡ walk.lines + 1 → ((x : Laid) → x.meaning.statement ≡ m.statement → length x.bytes ≡ len → behind.place ≡ moved walk.place x) → IsNoted ls (before ++ l ∷ []) behind.noted → behind.makes ≡ walk.makes →
    (behind.makes ≡ true → IsDraft (names_of ls) (before ++ l ∷ []) behind.draft) → IsWalk ls (before ++ l ∷ []) behind
walk_behind ls before l survey line walk behind m len e t n lines place noted makes draft =
    let same : m ≡ l.meaning = turn_meaning ls before l survey line walk m e t in
    record {
      lines = lines ∙ ap (λ k. k + 1) t.walk_is.lines ∙ sym (length-append before (l ∷ []));
      place = place l (ap (λ (x : Meaning). x.statement) (sym same)) n ∙ ap (λ p. moved p l) t.walk_is.place ∙ sym (end_behind before l);
      noted = noted;
      makes = makes ∙ t.walk_is.makes;
      draft = draft;
    }
