-- What the first walk over a text tells.
use Rattle.std.specs.Prelude.{ℕ, ℤ, ◌≡◌, ◌+◌, nat_le, Bool, false, List, [], ◌∷◌, ◌++◌, length, Option, Some, None, is_some, if◌then◌else◌}
use Rattle.std.specs.Option.{option_map, option_or}
use Rattle.m386_words.specs.Expressions.{Expression}
use Rattle.m386_words.specs.Seen.{expression_seen}
use Rattle.m386_words.specs.Words.{same_word}
use Rattle.m386_lines.specs.Directives.{Directive}
use Rattle.m386_lines.specs.Lines.{Statement, Direct}
use Rattle.m386_asm.specs.declared.named.Named.{Named}
use Rattle.m386_asm.specs.declared.survey.Survey.{Survey}
use Rattle.m386_asm.specs.Knows.{found, Knows}
use Rattle.m386_asm.specs.declared.surveying.Surveying.{Surveying}
use Rattle.m386_asm.specs.Layout.{Laid, Names, named, names_of, memory_of, cpus_of, cpus_set, defined, end_of, header_values, is_unknown, memory_set, moved, value}

-- whether one of so many first lines defines what was found
abbrev pub is_found_by : ℕ → Option Named → Bool
is_found_by count None = false
is_found_by count (Some n) = nat_le n.line count

-- The survey of a text's lines: the names with their values and first lines, the memory size and the number of processors.
pub record IsSurveyOf (ls : List Laid) (s : Survey) : Type 0 where
  pub knows : Knows s.names (names_of ls)
  pub lines : (before after : List Laid) (w : List ℕ) → ls ≡ before ++ after → is_some (named (names_of before) w) ≡ is_found_by (length before) (found s.names w)
  pub memory : s.memory ≡ memory_of ls
  pub cpus : s.cpus ≡ cpus_of ls

-- ---- the walk

-- what is found, without its bounds
abbrev pub seen_at : Option Named → Option (ℤ × ℕ)
seen_at n = option_map (λ (n : Named). (n.value, n.line)) n

-- the first of these names with a word, and the number of their line
unfoldable pub found_first : Names → ℕ → List ℕ → Option (ℤ × ℕ)
found_first [] line w = None
found_first (n ∷ ns) line w = if same_word n.0 w then Some (n.1, line) else found_first ns line w

-- the first name with a word that lines define, which begin at a place behind so many others
unfoldable pub found_in : ℕ → ℕ → List Laid → List ℕ → Option (ℤ × ℕ)
found_in place count [] w = None
found_in place count (l ∷ ls) w = option_or (found_first (defined place l.meaning) (count + 1) w) (found_in (moved place l) (count + 1) ls w)

-- what a statement gives, if it is such a directive
abbrev pub given_by : (Directive → Option Expression) → Statement → Option Expression
given_by of (Direct d) = of d
given_by of _ = None

abbrev pub first_value : List Expression → Option Expression
first_value [] = None
first_value (e ∷ es) = Some e

-- an expression's value, if there is one and its names are known
abbrev pub known_value : Names → Option Expression → Option ℤ
known_value ns None = None
known_value ns (Some e) = if is_unknown ns e then None else Some (value ns e)

-- The first walk stands behind these lines.
pub record IsSurveying (before : List Laid) (walk : Surveying) : Type 0 where
  pub lines : walk.lines ≡ length before
  pub place : walk.place ≡ end_of before
  pub names : (w : List ℕ) → seen_at (found walk.names w) ≡ found_in 0 0 before w
  pub memory : option_map expression_seen walk.memory ≡ first_value (header_values memory_set before)
  pub cpus : option_map expression_seen walk.cpus ≡ first_value (header_values cpus_set before)
