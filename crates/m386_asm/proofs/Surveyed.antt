-- What the first walk knows behind its lines.
use Rattle.std.proofs.Common.{◌≡◌, ℕ, ◌+◌, ◌<◌, ◌≤◌, nat_le, Bool, true, false, List, [], ◌∷◌, ◌++◌, length, refl, sym, ◌∙◌, ap, subst, arith, length-append}
use Rattle.std.proofs.lemmas.Bool.Decides.{nat_tests}
use Rattle.std.specs.List.{fold}
use Rattle.std.specs.Option.{option_map, option_or}
use Rattle.std.specs.Prelude.{OnOk, Option, Some, None, Result, Ok, Err, is_some, ℤ, if◌then◌else◌}
use Rattle.m386_words.specs.declared.expression.Expression.{Expression as SeenExpression}
use Rattle.m386_words.specs.Expressions.{Expression}
use Rattle.m386_words.specs.Seen.{expression_seen}
use Rattle.m386_words.specs.Words.{same_word}
use Rattle.m386_lines.specs.Directives.{Directive}
use Rattle.m386_lines.specs.Lines.{Statement, Meaning, Nothing, Assign, Direct, Operate}
use Rattle.m386_asm.specs.declared.named.Named.{Named}
use Rattle.m386_asm.specs.declared.surveying.Surveying.{Surveying}
use Rattle.m386_asm.specs.Knows.{found, Knows, first_kept}
use Rattle.m386_asm.specs.Layout.{IsLaid, Laid, Makes, Names, assigned, cpus_set, defined, end_of, first_known, header_values, labelled, memory_set, moved, named, names_from, names_of}
use Rattle.m386_asm.proofs.Sketched.{end_behind}
use Rattle.m386_asm.specs.Surveys.{IsSurveyOf, IsSurveying, first_value, found_first, found_in, given_by, is_found_by, known_value, seen_at}

-- ---- one name

or_none : {T : Type 0} (p : Option T) → option_or p None ≡ p
or_none None = refl
or_none (Some x) = refl

pub or_assoc : {T : Type 0} (p q r : Option T) → option_or (option_or p q) r ≡ option_or p (option_or q r)
or_assoc None q r = refl
or_assoc (Some x) q r = refl

kept_first : (b : Bool) (old : Option Named) (n : Named) → seen_at (if is_some old then old else if b then Some n else old) ≡ option_or (seen_at old) (if b then Some (n.value, n.line) else None)
kept_first b (Some o) n = refl
kept_first true None n = refl
kept_first false None n = refl

-- what is found behind a name that is given
pub named_behind : (old new : Option Named) (word : List ℕ) (n : Named) (w : List ℕ) → new ≡ first_kept old word n w → seen_at new ≡ option_or (seen_at old) (found_first ((word, n.value) ∷ []) n.line w)
unfolding found_first
named_behind old new word n w e = ap seen_at e ∙ kept_first (same_word word w) old n

pub none_behind : (old : Option Named) (line : ℕ) (w : List ℕ) → seen_at old ≡ option_or (seen_at old) (found_first [] line w)
unfolding found_first
none_behind old line w = sym (or_none (seen_at old))

-- ---- the names of a line

first_both : (ns ms : Names) (line : ℕ) (w : List ℕ) → found_first (ns ++ ms) line w ≡ option_or (found_first ns line w) (found_first ms line w)
unfolding found_first
first_both [] ms line w = refl
first_both (n ∷ ns) ms line w = test (same_word n.0 w) (first_both ns ms line w)
  where
    test : (b : Bool) → found_first (ns ++ ms) line w ≡ option_or (found_first ns line w) (found_first ms line w) →
        (if b then Some (n.1, line) else found_first (ns ++ ms) line w) ≡ option_or (if b then Some (n.1, line) else found_first ns line w) (found_first ms line w)
    test true h = refl
    test false h = h

-- what is found behind both names of a line
pub defined_behind : (old mid new : Option (ℤ × ℕ)) (place : ℕ) (m : Meaning) (line : ℕ) (w : List ℕ) → mid ≡ option_or old (found_first (labelled place m.label) line w) → new ≡ option_or mid (found_first (assigned m.statement) line w) →
    new ≡ option_or old (found_first (defined place m) line w)
defined_behind old mid new place m line w e f =
    f ∙ ap (λ x. option_or x (found_first (assigned m.statement) line w)) e ∙ or_assoc old (found_first (labelled place m.label) line w) (found_first (assigned m.statement) line w)
    ∙ ap (option_or old) (sym (first_both (labelled place m.label) (assigned m.statement) line w))

-- ---- the names of lines

found_behind : (place count : ℕ) (before : List Laid) (l : Laid) (w : List ℕ) →
    found_in place count (before ++ l ∷ []) w ≡ option_or (found_in place count before w) (found_first (defined (fold moved place before) l.meaning) (count + length before + 1) w)
unfolding found_in
found_behind place count [] l w = or_none (found_first (defined place l.meaning) (count + 1) w) ∙ ap (λ n. found_first (defined place l.meaning) n w) (omega arith)
found_behind place count (b ∷ before) l w =
    ap (option_or (found_first (defined place b.meaning) (count + 1) w)) (found_behind (moved place b) (count + 1) before l w)
    ∙ sym (or_assoc (found_first (defined place b.meaning) (count + 1) w) (found_in (moved place b) (count + 1) before w) (found_first (defined (fold moved (moved place b) before) l.meaning) (count + 1 + length before + 1) w))
    ∙ ap (λ n. option_or (option_or (found_first (defined place b.meaning) (count + 1) w) (found_in (moved place b) (count + 1) before w)) (found_first (defined (fold moved (moved place b) before) l.meaning) n w)) (omega arith)

-- ---- headers

header_behind : (of : Directive → Option Expression) (before : List Laid) (l : Laid) → first_value (header_values of (before ++ l ∷ [])) ≡ option_or (first_value (header_values of before)) (given_by of l.meaning.statement)
header_behind of [] l = alone l.text l.meaning.label l.meaning.statement l.bytes
  where
    value_alone : (x : Option Expression) → first_value (elim x [ None ↦ [] | Some e ↦ e ∷ [] ] ++ []) ≡ x
    value_alone None = refl
    value_alone (Some e) = refl

    alone : (t : List ℕ) (label : Option (List ℕ)) (s : Statement) (bytes : List ℕ) → first_value (header_values of (record { text = t; meaning = record { label = label; statement = s }; bytes = bytes } ∷ [])) ≡ given_by of s
    alone t label Nothing bytes = refl
    alone t label (Assign w n) bytes = refl
    alone t label (Operate i) bytes = refl
    alone t label (Direct d) bytes = value_alone (of d)
header_behind of (b ∷ before) l = more b.text b.meaning.label b.meaning.statement b.bytes (header_behind of before l)
  where
    given : (x : Option Expression) → first_value (header_values of (before ++ l ∷ [])) ≡ option_or (first_value (header_values of before)) (given_by of l.meaning.statement) →
        first_value (elim x [ None ↦ [] | Some e ↦ e ∷ [] ] ++ header_values of (before ++ l ∷ [])) ≡ option_or (first_value (elim x [ None ↦ [] | Some e ↦ e ∷ [] ] ++ header_values of before)) (given_by of l.meaning.statement)
    given None h = h
    given (Some e) h = refl

    more : (t : List ℕ) (label : Option (List ℕ)) (s : Statement) (bytes : List ℕ) → first_value (header_values of (before ++ l ∷ [])) ≡ option_or (first_value (header_values of before)) (given_by of l.meaning.statement) →
        first_value (header_values of (record { text = t; meaning = record { label = label; statement = s }; bytes = bytes } ∷ before ++ l ∷ []))
        ≡ option_or (first_value (header_values of (record { text = t; meaning = record { label = label; statement = s }; bytes = bytes } ∷ before))) (given_by of l.meaning.statement)
    more t label Nothing bytes h = h
    more t label (Assign w n) bytes h = h
    more t label (Operate i) bytes h = h
    more t label (Direct d) bytes h = given (of d) h

map_or : {S T : Type 0} (f : S → T) (p q : Option S) → option_map f (option_or p q) ≡ option_or (option_map f p) (option_map f q)
map_or f None q = refl
map_or f (Some x) q = refl

-- what is kept of a header
pub value_behind : (old given new : Option SeenExpression) (e : Option Expression) → new ≡ option_or old given → option_map expression_seen given ≡ e → option_map expression_seen new ≡ option_or (option_map expression_seen old) e
value_behind old given new e h g = ap (option_map expression_seen) h ∙ map_or expression_seen old given ∙ ap (option_or (option_map expression_seen old)) g

-- ---- the walk behind a line

pub walk_behind : (before : List Laid) (l : Laid) (old new : Surveying) (m : Meaning) → m ≡ l.meaning → IsSurveying before old → new.lines ≡ old.lines + 1 → new.place ≡ moved old.place l →
    ((w : List ℕ) → seen_at (found new.names w) ≡ option_or (seen_at (found old.names w)) (found_first (defined old.place m) (old.lines + 1) w)) →
    option_map expression_seen new.memory ≡ option_or (option_map expression_seen old.memory) (given_by memory_set m.statement) →
    option_map expression_seen new.cpus ≡ option_or (option_map expression_seen old.cpus) (given_by cpus_set m.statement) → IsSurveying (before ++ l ∷ []) new
walk_behind before l old new m e at lines place names memory cpus = record {
  lines = lines ∙ ap (λ n. n + 1) at.lines ∙ sym (length-append before (l ∷ []));
  place = place ∙ ap (λ n. moved n l) at.place ∙ sym (end_behind before l);
  names = λ w.
      names w ∙ ap (λ p. option_or p (found_first (defined old.place m) (old.lines + 1) w)) (at.names w)
      ∙ ap (λ x. option_or (found_in 0 0 before w) (found_first (defined old.place x) (old.lines + 1) w)) e
      ∙ ap (λ n. option_or (found_in 0 0 before w) (found_first (defined n l.meaning) (old.lines + 1) w)) at.place
      ∙ ap (λ n. option_or (found_in 0 0 before w) (found_first (defined (end_of before) l.meaning) n w)) (let k : old.lines + 1 ≡ 0 + length before + 1 = omega (arith, at.lines) in k)
      ∙ sym (found_behind 0 0 before l w);
  memory =
      memory ∙ ap (λ p. option_or p (given_by memory_set m.statement)) at.memory ∙ ap (λ (x : Meaning). option_or (first_value (header_values memory_set before)) (given_by memory_set x.statement)) e ∙ sym (header_behind memory_set before l);
  cpus =
      cpus ∙ ap (λ p. option_or p (given_by cpus_set m.statement)) at.cpus ∙ ap (λ (x : Meaning). option_or (first_value (header_values cpus_set before)) (given_by cpus_set x.statement)) e ∙ sym (header_behind cpus_set before l);
}

-- a line's bytes are made where the walk stands
pub made_at : (ns : Names) (before : List Laid) (l : Laid) (place : ℕ) (m : Meaning) → m ≡ l.meaning → IsLaid ns before l → place ≡ end_of before → Makes ns place m.statement l.bytes
made_at ns before l place m e laid p = subst (λ n. Makes ns n m.statement l.bytes) (sym p) (subst (λ (x : Meaning). Makes ns (end_of before) x.statement l.bytes) (sym e) laid.bytes)

abbrev pub silent : Meaning
silent = record { label = None; statement = Nothing }

-- behind a line that means nothing
pub walk_passed : (before : List Laid) (l : Laid) (old new : Surveying) → l.meaning ≡ silent → IsSurveying before old → new.lines ≡ old.lines + 1 → new.place ≡ old.place → new.names ≡ old.names → new.memory ≡ old.memory → new.cpus ≡ old.cpus →
    IsSurveying (before ++ l ∷ []) new
walk_passed before l old new e at lines place names memory cpus =
    walk_behind before l old new silent (sym e) at lines
    (place ∙ sym (ap (λ m. moved old.place (record { text = l.text; meaning = m; bytes = l.bytes })) e))
    (λ w. ap (λ ns. seen_at (found ns w)) names ∙ none_behind (found old.names w) (old.lines + 1) w)
    (ap (option_map expression_seen) memory ∙ sym (or_none (option_map expression_seen old.memory)))
    (ap (option_map expression_seen) cpus ∙ sym (or_none (option_map expression_seen old.cpus)))

-- before any line
pub surveying_none : (walk : Surveying) → walk.lines ≡ 0 → walk.place ≡ 0 → ((w : List ℕ) → found walk.names w ≡ None) → walk.memory ≡ None → walk.cpus ≡ None → IsSurveying [] walk
unfolding found_in
surveying_none walk lines place names memory cpus = record {
  lines = lines;
  place = place;
  names = λ w. ap seen_at (names w);
  memory = ap (option_map expression_seen) memory;
  cpus = ap (option_map expression_seen) cpus;
}

-- ---- the whole

abbrev value_in : Option (ℤ × ℕ) → Option ℤ
value_in p = option_map (λ (p : ℤ × ℕ). p.0) p

abbrev by_line : ℕ → Option (ℤ × ℕ) → Bool
by_line n None = false
by_line n (Some p) = nat_le p.1 n

value_seen : (o : Option Named) → option_map (λ (n : Named). n.value) o ≡ value_in (seen_at o)
value_seen None = refl
value_seen (Some n) = refl

line_seen : (n : ℕ) (o : Option Named) → is_found_by n o ≡ by_line n (seen_at o)
line_seen n None = refl
line_seen n (Some o) = refl

named_both : (ns ms : Names) (w : List ℕ) → named (ns ++ ms) w ≡ option_or (named ns w) (named ms w)
unfolding named
named_both [] ms w = refl
named_both (n ∷ ns) ms w = test (same_word n.0 w) (named_both ns ms w)
  where
    test : (b : Bool) → named (ns ++ ms) w ≡ option_or (named ns w) (named ms w) → (if b then Some n.1 else named (ns ++ ms) w) ≡ option_or (if b then Some n.1 else named ns w) (named ms w)
    test true h = refl
    test false h = h

first_named : (ns : Names) (line : ℕ) (w : List ℕ) → value_in (found_first ns line w) ≡ named ns w
unfolding found_first named
first_named [] line w = refl
first_named (n ∷ ns) line w = test (same_word n.0 w) (first_named ns line w)
  where
    test : (b : Bool) → value_in (found_first ns line w) ≡ named ns w → value_in (if b then Some (n.1, line) else found_first ns line w) ≡ (if b then Some n.1 else named ns w)
    test true h = refl
    test false h = h

-- what lines define
in_named : (place count : ℕ) (ls : List Laid) (w : List ℕ) → value_in (found_in place count ls w) ≡ named (names_from place ls) w
unfolding found_in named names_from
in_named place count [] w = refl
in_named place count (l ∷ ls) w =
    map_or (λ (p : ℤ × ℕ). p.0) (found_first (defined place l.meaning) (count + 1) w) (found_in (moved place l) (count + 1) ls w)
    ∙ ap (λ p. option_or p (value_in (found_in (moved place l) (count + 1) ls w))) (first_named (defined place l.meaning) (count + 1) w)
    ∙ ap (option_or (named (defined place l.meaning) w)) (in_named (moved place l) (count + 1) ls w)
    ∙ sym (named_both (defined place l.meaning) (names_from (moved place l) ls) w)

first_line : (ns : Names) (line : ℕ) (w : List ℕ) (p : ℤ × ℕ) → found_first ns line w ≡ Some p → p.1 ≡ line
unfolding found_first
first_line [] line w p h = cc
first_line (n ∷ ns) line w p h = test (same_word n.0 w) (first_line ns line w p) h
  where
    same : (x y : ℤ × ℕ) → Some x ≡ Some y → x ≡ y
    same x y g = cc

    test : (b : Bool) → (found_first ns line w ≡ Some p → p.1 ≡ line) → (if b then Some (n.1, line) else found_first ns line w) ≡ Some p → p.1 ≡ line
    test true go g = sym (ap (λ (x : ℤ × ℕ). x.1) (same (n.1, line) p g))
    test false go g = go g

beyond : (n line : ℕ) (f g : Option (ℤ × ℕ)) → ((p : ℤ × ℕ) → f ≡ Some p → p.1 ≡ line) → n < line → by_line n g ≡ false → by_line n (option_or f g) ≡ false
beyond n line None g h lt e = e
beyond n line (Some p) g h lt e = let k : p.1 ≡ line = h p refl in grind (arith, nat_tests, k, lt)

later : (place count n : ℕ) (ls : List Laid) (w : List ℕ) → n ≤ count → by_line n (found_in place count ls w) ≡ false
unfolding found_in
later place count n [] w h = refl
later place count n (l ∷ ls) w h =
    beyond n (count + 1) (found_first (defined place l.meaning) (count + 1) w) (found_in (moved place l) (count + 1) ls w) (first_line (defined place l.meaning) (count + 1) w) (omega (arith, h)) (later (moved place l) (count + 1) n ls w (omega (arith, h)))

turn : (a b : Option ℤ) (f g : Option (ℤ × ℕ)) (n line : ℕ) → value_in f ≡ a → ((p : ℤ × ℕ) → f ≡ Some p → p.1 ≡ line) → line ≤ n → is_some b ≡ by_line n g → is_some (option_or a b) ≡ by_line n (option_or f g)
turn a b None g n line e h le k = ap (λ x. is_some (option_or x b)) (sym e) ∙ k
turn a b (Some p) g n line e h le k = let q : p.1 ≡ line = h p refl in ap (λ x. is_some (option_or x b)) (sym e) ∙ (let t : true ≡ nat_le p.1 n = grind (arith, nat_tests, q, le) in t)

within : (place count : ℕ) (before after : List Laid) (w : List ℕ) → is_some (named (names_from place before) w) ≡ by_line (count + length before) (found_in place count (before ++ after) w)
unfolding found_in named names_from
within place count [] after w = sym (later place count (count + 0) after w (omega arith))
within place count (b ∷ before) after w =
    ap is_some (named_both (defined place b.meaning) (names_from (moved place b) before) w)
    ∙ turn (named (defined place b.meaning) w) (named (names_from (moved place b) before) w) (found_first (defined place b.meaning) (count + 1) w) (found_in (moved place b) (count + 1) (before ++ after) w) (count + length (b ∷ before)) (count + 1)
    (first_named (defined place b.meaning) (count + 1) w) (first_line (defined place b.meaning) (count + 1) w) (omega arith)
    (within (moved place b) (count + 1) before after w ∙ ap (λ n. by_line n (found_in (moved place b) (count + 1) (before ++ after) w)) (omega arith))

known_first : (ns : Names) (es : List Expression) → known_value ns (first_value es) ≡ first_known ns es
known_first ns [] = refl
known_first ns (e ∷ es) = refl

pub survey_is : (ls : List Laid) (walk : Surveying) (memory cpus : Option ℤ) → IsSurveying ls walk → ((ns : Names) → Knows walk.names ns → memory ≡ known_value ns (option_map expression_seen walk.memory)) →
    ((ns : Names) → Knows walk.names ns → cpus ≡ known_value ns (option_map expression_seen walk.cpus)) → IsSurveyOf ls (record { names = walk.names; memory = memory; cpus = cpus })
survey_is ls walk memory cpus at m c =
    let ns : Names = names_of ls in
    let knows : Knows walk.names ns = λ w. value_seen (found walk.names w) ∙ ap value_in (at.names w) ∙ in_named 0 0 ls w in
    record {
      knows = knows;
      lines = λ before after w e.
          within 0 0 before after w ∙ ap (λ xs. by_line (0 + length before) (found_in 0 0 xs w)) (sym e) ∙ ap (λ n. by_line n (found_in 0 0 ls w)) (let k : 0 + length before ≡ length before = omega arith in k)
          ∙ ap (by_line (length before)) (sym (at.names w)) ∙ sym (line_seen (length before) (found walk.names w));
      memory = m ns knows ∙ ap (known_value ns) at.memory ∙ known_first ns (header_values memory_set ls);
      cpus = c ns knows ∙ ap (known_value ns) at.cpus ∙ known_first ns (header_values cpus_set ls);
    }

-- ---- answers

pub on_ok : {T E : Type 0} {P Q : Type 0} (r : Result T E) → (P → Q) → OnOk r P → OnOk r Q
on_ok (Ok x) f p = f p
on_ok (Err e) f p = tt
