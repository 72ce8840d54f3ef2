-- What each string of bytes reads as.
use Rattle.std.specs.Prelude.{◌==◌}
use Rattle.std.specs.List.{All}
use Rattle.std.proofs.Common.{◌≡◌, ℕ, ◌+◌, ◌-◌, ◌<◌, ◌≤◌, List, [], ◌∷◌, ◌++◌, length, refl, sym, ◌∙◌, ap, true, false, arith, subst}
use Rattle.std.proofs.lemmas.Bool.{cond_both, le-ltb, lt-ltb, eqb-true}
use Rattle.std.proofs.lemmas.List.{append-nil}
use Rattle.std.proofs.lemmas.List.Elements.{All-head, All-nil, All-push}
use Rattle.m386_opmap.specs.declared.outcome.Reading.{Reading}
use Rattle.m386_opmap.specs.declared.outcome.Reading.TheVariants.{More}
use Rattle.m386_opmap.specs.declared.row.Row.{Row}
use Rattle.m386_opmap.specs.Prefix.{is_prefix, prefixes_of, with_prefix}
use Rattle.m386_opmap.specs.Readings.{opcode_reading, second_reading, first_reading, prefixed_reading, reading_by}
use Rattle.m386_opmap.specs.Spelling.{opcode_bytes}
use Rattle.m386_opmap.proofs.Lawful.{Lawful}
use Rattle.m386_opmap.proofs.Complete.{prefixed_first, first_byte, first_pair, escape_is_no_prefix}
use Rattle.m386_opmap.proofs.OpcodeOutcomes.{opcode_outcome, opens_prefixes, opens_escape}
use Rattle.m386_opmap.proofs.Prefixing.{walk, prefixes_of-push}
use Rattle.m386_opmap.proofs.Sound.{AllAreBytes, Outcome, front_bytes, back_bytes, outcome_at, bytes_more, length_more}

-- the bytes of an opcode
byte_opcode : (b : ℕ) → b < 256 → opcode_bytes b ≡ b ∷ []
byte_opcode b h = rw (lt-ltb b 256 h) refl

pair_opcode : (b : ℕ) → opcode_bytes (0xf00 + b) ≡ 0x0f ∷ b ∷ []
pair_opcode b =
    let long : 256 ≤ 0xf00 + b = omega arith in
    let same : 0xf00 + b - 0xf00 ≡ b = omega arith in
    rw (le-ltb (0xf00 + b) 256 long) (rw same refl)

module _ (rows : List Row) (law : Lawful rows) (ps : List ℕ) (prefixes : All (λ p. is_prefix p ≡ true) ps) where
  prefixes_read : reading_by rows ps ≡ More
  unfolding prefixed_reading
  prefixes_read = ap (λ x. reading_by rows x) (sym (append-nil ps)) ∙ walk rows ps [] prefixes

  escape_read : reading_by rows (ps ++ 0x0f ∷ []) ≡ More
  unfolding first_reading second_reading
  escape_read = walk rows ps (0x0f ∷ []) prefixes ∙ prefixed_first rows (prefixes_of ps) (length ps) 0x0f [] escape_is_no_prefix

  byte_outcome : (b : ℕ) (bytes : List ℕ) → is_prefix b ≡ false → (b == 0x0f) ≡ false → AllAreBytes (ps ++ b ∷ bytes) →
      Outcome rows (ps ++ b ∷ bytes) (opcode_reading rows (prefixes_of ps) b (length ps) bytes)
  byte_outcome b bytes apart other are =
      let small : b < 256 = All-head (λ c. c < 256) b bytes (back_bytes ps (b ∷ bytes) are) in
      let join : ps ++ b ∷ [] ≡ ps ++ opcode_bytes b = ap (λ x. ps ++ x) (sym (byte_opcode b small)) in
      let whole : (ps ++ opcode_bytes b) ++ bytes ≡ ps ++ b ∷ bytes = ap (λ x. x ++ bytes) (sym join) ∙ bytes_more ps b bytes in
      let P : List ℕ → Type 0 = AllAreBytes in
      outcome_at rows _ _ _ whole
      (opcode_outcome rows law ps prefixes b (length ps) ps b join refl prefixes_read
      (λ next. walk rows ps (b ∷ next) prefixes ∙ prefixed_first rows (prefixes_of ps) (length ps) b next apart ∙ first_byte rows (prefixes_of ps) (length ps) b next other)
      bytes (subst P (sym whole) are))

  second_outcome : (bytes : List ℕ) → AllAreBytes (ps ++ 0x0f ∷ bytes) → Outcome rows (ps ++ 0x0f ∷ bytes) (second_reading rows (prefixes_of ps) (length ps + 1) bytes)
  unfolding second_reading
  second_outcome [] are = opens_escape rows law ps prefixes (front_bytes ps (0x0f ∷ []) are)
  second_outcome (b ∷ bytes) are =
      let front : List ℕ = ps ++ 0x0f ∷ [] in
      let join : front ++ b ∷ [] ≡ ps ++ opcode_bytes (0xf00 + b) = bytes_more ps 0x0f (b ∷ []) ∙ ap (λ x. ps ++ x) (sym (pair_opcode b)) in
      let whole : (ps ++ opcode_bytes (0xf00 + b)) ++ bytes ≡ ps ++ 0x0f ∷ b ∷ bytes = ap (λ x. x ++ bytes) (sym join) ∙ bytes_more front b bytes ∙ bytes_more ps 0x0f (b ∷ bytes) in
      let P : List ℕ → Type 0 = AllAreBytes in
      outcome_at rows _ _ _ whole
      (opcode_outcome rows law ps prefixes (0xf00 + b) (length ps + 1) front b join (length_more ps 0x0f (length ps) refl) escape_read
      (λ next. ap (λ x. reading_by rows x) (bytes_more ps 0x0f (b ∷ next)) ∙ walk rows ps (0x0f ∷ b ∷ next) prefixes
      ∙ prefixed_first rows (prefixes_of ps) (length ps) 0x0f (b ∷ next) escape_is_no_prefix ∙ first_pair rows (prefixes_of ps) (length ps) b next)
      bytes (subst P (sym whole) are))

  first_outcome : (b : ℕ) (bytes : List ℕ) → is_prefix b ≡ false → AllAreBytes (ps ++ b ∷ bytes) →
      Outcome rows (ps ++ b ∷ bytes) (first_reading rows (prefixes_of ps) b (length ps) bytes)
  unfolding first_reading
  first_outcome b bytes apart are =
      cond_both (b == 0x0f) (second_reading rows (prefixes_of ps) (length ps + 1) bytes) (opcode_reading rows (prefixes_of ps) b (length ps) bytes) (Outcome rows (ps ++ b ∷ bytes))
      (λ t.
      let same : b ≡ 0x0f = eqb-true b 0x0f t in
      let P : List ℕ → Type 0 = AllAreBytes in
      let e : ps ++ b ∷ bytes ≡ ps ++ 0x0f ∷ bytes = ap (λ x. ps ++ x ∷ bytes) same in
      outcome_at rows _ _ _ (sym e) (second_outcome bytes (subst P e are)))
      (λ t. byte_outcome b bytes apart t are)

-- bytes behind prefixes
prefixed_outcome : (rows : List Row) → Lawful rows → (bytes ps : List ℕ) → All (λ p. is_prefix p ≡ true) ps → AllAreBytes (ps ++ bytes) →
    Outcome rows (ps ++ bytes) (prefixed_reading rows (prefixes_of ps) (length ps) bytes)
unfolding prefixed_reading
prefixed_outcome rows law [] ps prefixes are = outcome_at rows _ _ More (sym (append-nil ps)) (opens_prefixes rows law ps prefixes (front_bytes ps [] are))
prefixed_outcome rows law (b ∷ bytes) ps prefixes are =
    cond_both (is_prefix b) (prefixed_reading rows (with_prefix (prefixes_of ps) b) (length ps + 1) bytes) (first_reading rows (prefixes_of ps) b (length ps) bytes) (Outcome rows (ps ++ b ∷ bytes))
    (λ t.
    let P : List ℕ → Type 0 = AllAreBytes in
    let Q : Reading → Type 0 = Outcome rows (ps ++ b ∷ bytes) in
    let same : prefixed_reading rows (prefixes_of (ps ++ b ∷ [])) (length (ps ++ b ∷ [])) bytes ≡ prefixed_reading rows (with_prefix (prefixes_of ps) b) (length ps + 1) bytes =
    ap (λ s. prefixed_reading rows s (length (ps ++ b ∷ [])) bytes) (prefixes_of-push ps b)
    ∙ ap (λ n. prefixed_reading rows (with_prefix (prefixes_of ps) b) n bytes) (sym (length_more ps b (length ps) refl)) in
    subst Q same (outcome_at rows _ _ _ (bytes_more ps b bytes)
    (prefixed_outcome rows law bytes (ps ++ b ∷ []) (All-push (λ p. is_prefix p ≡ true) ps b prefixes t) (subst P (sym (bytes_more ps b bytes)) are))))
    (λ t. first_outcome rows law ps prefixes b bytes t are)

-- every string of bytes
pub outcome : (rows : List Row) → Lawful rows → (bytes : List ℕ) → AllAreBytes bytes → Outcome rows bytes (reading_by rows bytes)
unfolding reading_by prefixes_of
outcome rows law bytes are = prefixed_outcome rows law bytes [] (All-nil (λ p. is_prefix p ≡ true)) are
