-- What the tests of a line say of it, and what is noted behind it.
use Rattle.std.proofs.Common.{◌≡◌, ℕ, ◌+◌, Bool, true, false, ◌||◌, not, List, [], ◌∷◌, ◌++◌, length, refl, sym, ◌∙◌, ap, subst, inl, inr, ◌⊎◌, append-nil}
use Rattle.std.proofs.lemmas.List.Concat.{flat_map-append}
use Rattle.std.proofs.lemmas.List.Folds.{list_any-append}
use Rattle.std.proofs.lemmas.List.Sums.{fold-append}
use Rattle.std.specs.BTreeSet.{BTreeSet}
use Rattle.std.specs.List.{list_any, flat_map}
use Rattle.std.specs.Option.{option_or}
use Rattle.std.specs.Prelude.{Option, Some, None, IsTrue, is_some, ℤ, pos}
use Rattle.m386_image.specs.declared.image.Planned.{Planned}
use Rattle.m386_words.specs.Expressions.{Expression}
use Rattle.m386_lines.specs.declared.kind.AsmKind.TheVariants as kinds
use Rattle.m386_lines.specs.Faults.{own_kind}
use Rattle.m386_lines.specs.Lines.{Meaning, Statement}
use Rattle.m386_asm.specs.declared.noted.Noted.{Noted}
use Rattle.m386_asm.specs.declared.spot.Spot.{Spot}
use Rattle.m386_asm.specs.declared.survey.Survey.{Survey}
use Rattle.m386_asm.specs.Knows.{found}
use Rattle.m386_asm.specs.Layout.{Names, Laid, end_of, names_of, memory_of, cpus_of, named, defined, header, same_header, is_unknown, is_up_to, is_above, are_above, planned, plan_of, fields_of, expressions_of, is_org_below, is_out_of_range, IsUnreached, Has}
use Rattle.m386_asm.specs.Surveys.{is_found_by}
use Rattle.m386_asm.specs.Walks.{is_given, is_above_last, follows, entry_list, is_value_outside, AreTests, IsAt, IsNoted}

-- ---- range

range_is : (ls before : List Laid) (l : Laid) (survey : Survey) (spot : Spot) (m : Meaning) (s : Statement) (fs : List (ℕ × Expression)) → IsAt ls before l survey spot m → m.statement ≡ s → fs ≡ fields_of s →
    is_out_of_range ls before l ≡ (is_value_outside (names_of ls) survey.memory survey.cpus s fs || not (is_up_to survey.memory (pos (spot.place + spot.len))))
range_is ls before l survey spot m s fs at e f =
    ap (λ (m : Meaning). is_value_outside (names_of ls) (memory_of ls) (cpus_of ls) m.statement (fields_of m.statement) || not (is_up_to (memory_of ls) (pos (end_of before + length l.bytes)))) (sym at.meaning_is)
    ∙ ap (λ t. is_value_outside (names_of ls) (memory_of ls) (cpus_of ls) t (fields_of t) || not (is_up_to (memory_of ls) (pos (end_of before + length l.bytes)))) e
    ∙ ap (λ gs. is_value_outside (names_of ls) (memory_of ls) (cpus_of ls) s gs || not (is_up_to (memory_of ls) (pos (end_of before + length l.bytes)))) (sym f)
    ∙ ap (λ c. is_value_outside (names_of ls) (memory_of ls) c s fs || not (is_up_to (memory_of ls) (pos (end_of before + length l.bytes)))) (sym at.survey_is.cpus)
    ∙ ap (λ y. is_value_outside (names_of ls) y survey.cpus s fs || not (is_up_to y (pos (end_of before + length l.bytes)))) (sym at.survey_is.memory)
    ∙ ap (λ p. is_value_outside (names_of ls) survey.memory survey.cpus s fs || not (is_up_to survey.memory (pos (p + length l.bytes)))) (sym at.place)
    ∙ ap (λ n. is_value_outside (names_of ls) survey.memory survey.cpus s fs || not (is_up_to survey.memory (pos (spot.place + n)))) (sym at.len)

pub value_outside : (ls before : List Laid) (l : Laid) (survey : Survey) (spot : Spot) (m : Meaning) (s : Statement) (fs : List (ℕ × Expression)) → IsAt ls before l survey spot m → m.statement ≡ s → fs ≡ fields_of s →
    is_value_outside (names_of ls) survey.memory survey.cpus s fs ≡ true → true ≡ is_out_of_range ls before l
value_outside ls before l survey spot m s fs at e f h = sym (range_is ls before l survey spot m s fs at e f ∙ ap (λ b. b || not (is_up_to survey.memory (pos (spot.place + spot.len)))) h)

pub ends_outside : (ls before : List Laid) (l : Laid) (survey : Survey) (spot : Spot) (m : Meaning) (s : Statement) (fs : List (ℕ × Expression)) → IsAt ls before l survey spot m → m.statement ≡ s → fs ≡ fields_of s →
    is_value_outside (names_of ls) survey.memory survey.cpus s fs ≡ false → not (is_up_to survey.memory (pos (spot.place + spot.len))) ≡ is_out_of_range ls before l
ends_outside ls before l survey spot m s fs at e f h = sym (range_is ls before l survey spot m s fs at e f ∙ ap (λ b. b || not (is_up_to survey.memory (pos (spot.place + spot.len)))) h)

pub unreached_here : (ls before : List Laid) (l : Laid) (survey : Survey) (spot : Spot) (m : Meaning) (s : Statement) → IsAt ls before l survey spot m → m.statement ≡ s → IsUnreached (names_of ls) (end_of before) l.meaning.statement →
    IsUnreached (names_of ls) spot.place s
unreached_here ls before l survey spot m s at e u =
    subst (λ p. IsUnreached (names_of ls) p s) (sym at.place) (subst (IsUnreached (names_of ls) (end_of before)) e (subst (λ (m : Meaning). IsUnreached (names_of ls) (end_of before) m.statement) (sym at.meaning_is) u))

pub unreached_there : (ls before : List Laid) (l : Laid) (survey : Survey) (spot : Spot) (m : Meaning) (s : Statement) → IsAt ls before l survey spot m → m.statement ≡ s → IsUnreached (names_of ls) spot.place s →
    IsUnreached (names_of ls) (end_of before) l.meaning.statement
unreached_there ls before l survey spot m s at e u =
    subst (λ (m : Meaning). IsUnreached (names_of ls) (end_of before) m.statement) at.meaning_is (subst (IsUnreached (names_of ls) (end_of before)) (sym e) (subst (λ p. IsUnreached (names_of ls) p s) at.place u))

pub neither : (a : Bool) (B : Type 0) → a ≡ false → (B → ⊥) → IsTrue a ⊎ B → ⊥
neither a B e f (inl t) = cc
neither a B e f (inr b) = f b

-- ---- the tests

any_alike : {A : Type 0} (f g : A → Bool) (xs : List A) → ((x : A) → f x ≡ g x) → list_any f xs ≡ list_any g xs
any_alike f g [] h = refl
any_alike f g (x ∷ xs) h = ap (λ b. b || list_any f xs) (h x) ∙ ap (λ b. g x || b) (any_alike f g xs h)

plan_by : (ns : Names) (last : Option Planned) (ps : List Planned) (entry : Option Planned) → ((e : Planned) → is_above_last last e ≡ are_above (e ∷ []) ps) → not (follows last entry) ≡ not (are_above (entry_list entry) ps)
plan_by ns last ps None h = refl
plan_by ns last ps (Some e) h = ap not (h e)

pub tests : (ls before : List Laid) (l : Laid) (survey : Survey) (noted : Noted) (spot : Spot) (m : Meaning) (entry : Option Planned) (unknown twice header range overlap plan : Bool) →
    IsAt ls before l survey spot m → own_kind l.text ≡ None → IsNoted ls before noted →
    unknown ≡ list_any (is_unknown (names_of ls)) (expressions_of m.statement) →
    twice ≡ list_any (λ (n : List ℕ × ℤ). is_found_by spot.lines (found survey.names n.0)) (defined 0 m) →
    header ≡ is_given (names_of ls) noted.headers m.statement →
    (range ≡ true → Has ls before l kinds.Range) → (range ≡ false → ¬ Has ls before l kinds.Range) →
    overlap ≡ is_org_below spot.place m.statement →
    entry_list entry ≡ planned (names_of ls) m.statement → plan ≡ not (follows noted.planned entry) →
    AreTests ls before l unknown twice header range overlap plan
tests ls before l survey noted spot m entry unknown twice header_ range overlap plan at own kept u t h out within o listed p = record {
  own = own;
  unknown_is = u ∙ ap (λ (m : Meaning). list_any (is_unknown (names_of ls)) (expressions_of m.statement)) at.meaning_is;
  twice_is =
      t ∙ ap (λ (m : Meaning). list_any (λ (n : List ℕ × ℤ). is_found_by spot.lines (found survey.names n.0)) (defined 0 m)) at.meaning_is
      ∙ any_alike (λ (n : List ℕ × ℤ). is_found_by spot.lines (found survey.names n.0)) (λ (n : List ℕ × ℤ). is_some (named (names_of before) n.0)) (defined 0 l.meaning)
      (λ (n : List ℕ × ℤ). ap (λ k. is_found_by k (found survey.names n.0)) at.lines ∙ sym (at.survey_is.lines before at.after n.0 at.text));
  header_is = h ∙ kept.headers m.statement ∙ ap (λ (m : Meaning). list_any (λ (b : Laid). same_header (header (names_of ls) b.meaning.statement) (header (names_of ls) m.statement)) before) at.meaning_is;
  range_is = out;
  range_not = within;
  overlap_is = o ∙ ap (λ n. is_org_below n m.statement) at.place ∙ ap (λ (m : Meaning). is_org_below (end_of before) m.statement) at.meaning_is;
  plan_is =
      p ∙ plan_by (names_of ls) noted.planned (flat_map (plan_of (names_of ls)) before) entry kept.planned
      ∙ ap (λ es. not (are_above es (flat_map (plan_of (names_of ls)) before))) listed
      ∙ ap (λ (m : Meaning). not (are_above (planned (names_of ls) m.statement) (flat_map (plan_of (names_of ls)) before))) at.meaning_is;
}

-- ---- what is noted

or_false : (b : Bool) → (b || false) ≡ b
or_false true = refl
or_false false = refl

above_behind : (last : Option Planned) (ps : List Planned) (entry : Option Planned) (e : Planned) → is_above_last last e ≡ are_above (e ∷ []) ps → is_above_last (option_or entry last) e ≡ are_above (e ∷ []) (ps ++ entry_list entry)
above_behind last ps None e h = h ∙ ap (are_above (e ∷ [])) (sym (append-nil ps))
above_behind last ps (Some x) e h = sym (fold-append (λ above before. is_above e before) true ps (x ∷ []))

pub noted_behind : (ls before : List Laid) (l : Laid) (survey : Survey) (noted : Noted) (spot : Spot) (m : Meaning) (entry last : Option Planned) (headers : BTreeSet (ℕ × ℤ)) → IsAt ls before l survey spot m → IsNoted ls before noted →
    ((other : Statement) → is_given (names_of ls) headers other ≡ (is_given (names_of ls) noted.headers other || same_header (header (names_of ls) m.statement) (header (names_of ls) other))) →
    entry_list entry ≡ planned (names_of ls) m.statement → last ≡ option_or entry noted.planned → IsNoted ls (before ++ l ∷ []) (record { headers = headers; planned = last })
noted_behind ls before l survey noted spot m entry last headers at kept h listed e = record {
  headers = λ s.
      h s ∙ ap (λ b. b || same_header (header (names_of ls) m.statement) (header (names_of ls) s)) (kept.headers s)
      ∙ ap (λ (m : Meaning). list_any (λ (b : Laid). same_header (header (names_of ls) b.meaning.statement) (header (names_of ls) s)) before || same_header (header (names_of ls) m.statement) (header (names_of ls) s)) at.meaning_is
      ∙ ap (λ b. list_any (λ (b : Laid). same_header (header (names_of ls) b.meaning.statement) (header (names_of ls) s)) before || b) (sym (or_false (same_header (header (names_of ls) l.meaning.statement) (header (names_of ls) s))))
      ∙ sym (list_any-append (λ (b : Laid). same_header (header (names_of ls) b.meaning.statement) (header (names_of ls) s)) before (l ∷ []));
  planned = λ x.
      ap (λ o. is_above_last o x) e ∙ above_behind noted.planned (flat_map (plan_of (names_of ls)) before) entry x (kept.planned x)
      ∙ ap (λ es. are_above (x ∷ []) (flat_map (plan_of (names_of ls)) before ++ es)) (listed ∙ ap (λ (m : Meaning). planned (names_of ls) m.statement) at.meaning_is ∙ sym (append-nil (plan_of (names_of ls) l)))
      ∙ ap (are_above (x ∷ [])) (sym (flat_map-append (plan_of (names_of ls)) before (l ∷ [])));
}

-- ---- two tests

pub or_then : (r a b : Bool) → r ≡ a → r ≡ true → r ≡ (a || b)
or_then r a b e t = t ∙ sym (ap (λ x. x || b) (sym e ∙ t))

pub or_else : (r a q b : Bool) → r ≡ a → r ≡ false → q ≡ b → not q ≡ (a || not b)
or_else r a q b e f g = ap not g ∙ sym (ap (λ x. x || not b) (sym e ∙ f))
