-- What a text without a faulty line sets as its memory and its processors.
use Rattle.std.proofs.Common.{◌≡◌, ℕ, ◌+◌, ◌%◌, ◌^◌, ◌<◌, Bool, true, false, ◌||◌, ◌&&◌, not, List, [], ◌∷◌, ◌++◌, length, refl, sym, ◌∙◌, ap, subst, arith, inl}
use Rattle.std.proofs.lemmas.Bool.Decides.{nat_tests}
use Rattle.std.specs.Prelude.{Option, Some, None, ℤ, pos, negsuc, int_lt, is_some, if◌then◌else◌}
use Rattle.std.specs.List.{list_any}
use Rattle.m386_words.specs.Expressions.{Expression}
use Rattle.m386_lines.specs.declared.kind.AsmKind.TheVariants as kinds
use Rattle.m386_lines.specs.Directives.{Directive, SetsMemory, SetsCpus, SetsGdt, SetsIdt, StartsBare, StartsTask, Plans, Begins, Values, Bytes, Zeros, Describes, Gates, Fields}
use Rattle.m386_lines.specs.Lines.{Statement, Nothing, Assign, Direct, Operate}
use Rattle.m386_asm.specs.Layout.{Laid, names_of, value, is_unknown, is_between, is_in_field, is_up_to, keeps_limits, fields_of, expressions_of, end_of, memory_of, cpus_of, header_values, memory_set, cpus_set, first_known, has, EachLine, IsFaultless, is_empty, lacks_header, number_in, wrapped}
use Rattle.m386_asm.specs.Turns.{has_memory_size}

abbrev line_as : List ℕ → Option (List ℕ) → Statement → List ℕ → Laid
line_as t label s bytes = record { text = t; meaning = record { label = label; statement = s }; bytes = bytes }

-- the first value that the lines give, with P
data IsFirst (P : Expression → Type 0) : List Expression → Type 0 where
  missing : IsFirst P []
  first : (e : Expression) (es : List Expression) → P e → IsFirst P (e ∷ es)

first_given : (P : Expression → Type 0) (x : Option Expression) (es : List Expression) → ((e : Expression) → x ≡ Some e → P e) → IsFirst P es → IsFirst P (elim x [ None ↦ [] | Some e ↦ e ∷ [] ] ++ es)
first_given P None es has more = more
first_given P (Some e) es has more = first e es (has e refl)

first_of : (P : Expression → Type 0) (of : Directive → Option Expression) (ls : List Laid) →
    ((before : List Laid) (l : Laid) (d : Directive) (e : Expression) → IsFaultless ls before l → l.meaning.statement ≡ Direct d → of d ≡ Some e → P e) →
    (before rest : List Laid) (t : List ℕ) (label : Option (List ℕ)) (s : Statement) (bytes : List ℕ) → IsFaultless ls before (line_as t label s bytes) → IsFirst P (header_values of rest) →
    IsFirst P (header_values of (line_as t label s bytes ∷ rest))
first_of P of ls good before rest t label Nothing bytes f more = more
first_of P of ls good before rest t label (Assign w n) bytes f more = more
first_of P of ls good before rest t label (Operate i) bytes f more = more
first_of P of ls good before rest t label (Direct d) bytes f more = first_given P (of d) (header_values of rest) (λ e h. good before (line_as t label (Direct d) bytes) d e f refl h) more

first_in : (P : Expression → Type 0) (of : Directive → Option Expression) (ls : List Laid) →
    ((before : List Laid) (l : Laid) (d : Directive) (e : Expression) → IsFaultless ls before l → l.meaning.statement ≡ Direct d → of d ≡ Some e → P e) →
    (before rest : List Laid) → EachLine (IsFaultless ls) before rest → IsFirst P (header_values of rest)
unfolding EachLine
first_in P of ls good before [] p = missing
first_in P of ls good before (l ∷ rest) p = first_of P of ls good before rest l.text l.meaning.label l.meaning.statement l.bytes p.0 (first_in P of ls good (before ++ l ∷ []) rest p.1)

-- ---- the two headers

memory_alone : (d : Directive) (e : Expression) → memory_set d ≡ Some e → d ≡ SetsMemory e
memory_alone (SetsMemory x) e h = cc
memory_alone (SetsCpus x) e h = cc
memory_alone (SetsGdt b l) e h = cc
memory_alone (SetsIdt b l) e h = cc
memory_alone (StartsBare p x) e h = cc
memory_alone (StartsTask p s) e h = cc
memory_alone (Plans p s v) e h = cc
memory_alone (Begins n) e h = cc
memory_alone (Values w es) e h = cc
memory_alone (Bytes bs) e h = cc
memory_alone (Zeros n) e h = cc
memory_alone (Describes b l a f) e h = cc
memory_alone (Gates s o a c) e h = cc
memory_alone (Fields fs) e h = cc

cpus_alone : (d : Directive) (e : Expression) → cpus_set d ≡ Some e → d ≡ SetsCpus e
cpus_alone (SetsMemory x) e h = cc
cpus_alone (SetsCpus x) e h = cc
cpus_alone (SetsGdt b l) e h = cc
cpus_alone (SetsIdt b l) e h = cc
cpus_alone (StartsBare p x) e h = cc
cpus_alone (StartsTask p s) e h = cc
cpus_alone (Plans p s v) e h = cc
cpus_alone (Begins n) e h = cc
cpus_alone (Values w es) e h = cc
cpus_alone (Bytes bs) e h = cc
cpus_alone (Zeros n) e h = cc
cpus_alone (Describes b l a f) e h = cc
cpus_alone (Gates s o a c) e h = cc
cpus_alone (Fields fs) e h = cc

not_any : (a : Bool) → ((a || false) ≡ true → ⊥) → a ≡ false
not_any true h = absurd (h refl)
not_any false h = refl

middle : (a b c : Bool) → ((a || not b || c) ≡ true → ⊥) → b ≡ true
middle true b c h = absurd (h refl)
middle false true c h = refl
middle false false c h = absurd (h refl)

-- a line without a kind keeps its limits
kept : (ls before : List Laid) (l : Laid) (s : Statement) → IsFaultless ls before l → l.meaning.statement ≡ s → keeps_limits (names_of ls) (memory_of ls) (cpus_of ls) s ≡ true
kept ls before l s f e =
    let ns = names_of ls in
    middle (list_any (λ (f : ℕ × Expression). not (is_in_field f.0 (value ns f.1))) (fields_of s)) (keeps_limits ns (memory_of ls) (cpus_of ls) s) (not (is_up_to (memory_of ls) (pos (end_of before + length l.bytes))))
    (λ h. f kinds.Range (inl (ap (λ t. list_any (λ (f : ℕ × Expression). not (is_in_field f.0 (value ns f.1))) (fields_of t) || not (keeps_limits ns (memory_of ls) (cpus_of ls) t) || not (is_up_to (memory_of ls) (pos (end_of before + length l.bytes)))) e ∙ h)))

-- and has known names alone
known : (ls before : List Laid) (l : Laid) (s : Statement) → IsFaultless ls before l → l.meaning.statement ≡ s → list_any (is_unknown (names_of ls)) (expressions_of s) ≡ true → ⊥
known ls before l s f e h = f kinds.UnknownName (ap (λ t. list_any (is_unknown (names_of ls)) (expressions_of t)) e ∙ h)

-- a value that is known, with P
record IsKnown (P : ℤ → Bool) (ls : List Laid) (e : Expression) : Type 0 where
  is_known : is_unknown (names_of ls) e ≡ false
  holds : P (value (names_of ls) e) ≡ true

memory_first : (ls : List Laid) → EachLine (IsFaultless ls) [] ls → IsFirst (IsKnown (λ v. has_memory_size (Some v)) ls) (header_values memory_set ls)
memory_first ls = first_in (IsKnown (λ v. has_memory_size (Some v)) ls) memory_set ls good [] ls
  where
    good : (before : List Laid) (l : Laid) (d : Directive) (e : Expression) → IsFaultless ls before l → l.meaning.statement ≡ Direct d → memory_set d ≡ Some e → IsKnown (λ v. has_memory_size (Some v)) ls e
    good before l d e f s h =
        let is : l.meaning.statement ≡ Direct (SetsMemory e) = s ∙ ap Direct (memory_alone d e h) in
        record { is_known = not_any (is_unknown (names_of ls) e) (known ls before l (Direct (SetsMemory e)) f is); holds = kept ls before l (Direct (SetsMemory e)) f is }

cpus_first : (ls : List Laid) → EachLine (IsFaultless ls) [] ls → IsFirst (IsKnown (is_between 1 8) ls) (header_values cpus_set ls)
cpus_first ls = first_in (IsKnown (is_between 1 8) ls) cpus_set ls good [] ls
  where
    good : (before : List Laid) (l : Laid) (d : Directive) (e : Expression) → IsFaultless ls before l → l.meaning.statement ≡ Direct d → cpus_set d ≡ Some e → IsKnown (is_between 1 8) ls e
    good before l d e f s h =
        let is : l.meaning.statement ≡ Direct (SetsCpus e) = s ∙ ap Direct (cpus_alone d e h) in
        record { is_known = not_any (is_unknown (names_of ls) e) (known ls before l (Direct (SetsCpus e)) f is); holds = kept ls before l (Direct (SetsCpus e)) f is }

-- ---- what is given

-- the value that stands first, where it is known and has P
pub data IsValueOf (P : ℤ → Bool) (ls : List Laid) : Option ℤ → List Expression → Type 0 where
  no_value : IsValueOf P ls None []
  some_value : (v : ℤ) (e : Expression) (es : List Expression) → P v ≡ true → IsValueOf P ls (Some v) (e ∷ es)

value_of : (P : ℤ → Bool) (ls : List Laid) (es : List Expression) → IsFirst (IsKnown P ls) es → IsValueOf P ls (first_known (names_of ls) es) es
value_of P ls _ missing = no_value
value_of P ls (e ∷ es) (first _ _ k) =
    subst (λ b. IsValueOf P ls (if b then None else Some (value (names_of ls) e)) (e ∷ es)) (sym k.is_known) (some_value (value (names_of ls) e) e es k.holds)

pub memory_value : (ls : List Laid) → EachLine (IsFaultless ls) [] ls → IsValueOf (λ v. has_memory_size (Some v)) ls (memory_of ls) (header_values memory_set ls)
memory_value ls p = value_of (λ v. has_memory_size (Some v)) ls (header_values memory_set ls) (memory_first ls p)

pub cpus_value : (ls : List Laid) → EachLine (IsFaultless ls) [] ls → IsValueOf (is_between 1 8) ls (cpus_of ls) (header_values cpus_set ls)
cpus_value ls p = value_of (is_between 1 8) ls (header_values cpus_set ls) (cpus_first ls p)

-- ---- the end of a text

-- where none is missing, both are given, with their limits
pub record IsHeadedBy (ls : List Laid) : Type 0 where
  pub all : lacks_header ls ≡ false
  pub size : has_memory_size (memory_of ls) ≡ true
  pub count : number_in (cpus_of ls) % 2 ^ 8 ≡ number_in (cpus_of ls)

value_empty : (P : ℤ → Bool) (ls : List Laid) (v : Option ℤ) (es : List Expression) → IsValueOf P ls v es → is_some v ≡ false → is_empty es ≡ true
value_empty P ls _ _ no_value h = refl
value_empty P ls _ _ (some_value v e es p) h = cc

-- a value that is known, behind which there is one
record IsFull (P : ℤ → Bool) (v : Option ℤ) (es : List Expression) : Type 0 where
  full : is_empty es ≡ false
  known_as : ℤ
  is : v ≡ Some known_as
  holds : P known_as ≡ true

value_full : (P : ℤ → Bool) (ls : List Laid) (v : Option ℤ) (es : List Expression) → IsValueOf P ls v es → is_some v ≡ true → IsFull P v es
value_full P ls _ _ no_value h = cc
value_full P ls _ _ (some_value v e es p) h = record { full = refl; known_as = v; is = refl; holds = p }

or_true : (a : Bool) → (a || true) ≡ true
or_true true = refl
or_true false = refl

pub lacks_memory : (ls : List Laid) → EachLine (IsFaultless ls) [] ls → is_some (memory_of ls) ≡ false → lacks_header ls ≡ true
lacks_memory ls p h = ap (λ b. b || is_empty (header_values cpus_set ls)) (value_empty (λ v. has_memory_size (Some v)) ls (memory_of ls) (header_values memory_set ls) (memory_value ls p) h)

pub lacks_cpus : (ls : List Laid) → EachLine (IsFaultless ls) [] ls → is_some (cpus_of ls) ≡ false → lacks_header ls ≡ true
lacks_cpus ls p h =
    ap (λ b. is_empty (header_values memory_set ls) || b) (value_empty (is_between 1 8) ls (cpus_of ls) (header_values cpus_set ls) (cpus_value ls p) h) ∙ or_true (is_empty (header_values memory_set ls))

below_nine : (n : ℕ) → (not (int_lt (pos n) (pos 1)) && not (int_lt (pos 8) (pos n))) ≡ true → n < 9
below_nine n h = grind (arith, nat_tests, h)

small : (n : ℕ) → n < 9 → n % 2 ^ 32 % 2 ^ 8 ≡ n % 2 ^ 32
small n h = omega (arith, h)

few : (v : ℤ) → is_between 1 8 v ≡ true → wrapped 32 v % 2 ^ 8 ≡ wrapped 32 v
few (pos n) h = small n (below_nine n h)
few (negsuc n) h = cc

pub headed_by : (ls : List Laid) → EachLine (IsFaultless ls) [] ls → is_some (memory_of ls) ≡ true → is_some (cpus_of ls) ≡ true → IsHeadedBy ls
headed_by ls p m c =
    let a = value_full (λ v. has_memory_size (Some v)) ls (memory_of ls) (header_values memory_set ls) (memory_value ls p) m in
    let b = value_full (is_between 1 8) ls (cpus_of ls) (header_values cpus_set ls) (cpus_value ls p) c in
    record {
      all = ap (λ x. x || is_empty (header_values cpus_set ls)) a.full ∙ b.full;
      size = ap has_memory_size a.is ∙ a.holds;
      count = subst (λ v. number_in v % 2 ^ 8 ≡ number_in v) (sym b.is) (few b.known_as b.holds);
    }
