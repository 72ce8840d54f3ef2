-- What the second walk knows behind some lines.
use Rattle.std.specs.Prelude.{ℕ, ℤ, ◌≡◌, ◌<◌, ◌++◌, ◌∷◌, [], Bool, true, false, ◌||◌, not, List, length, Option, Some, None}
use Rattle.std.specs.BTreeSet.{BTreeSet, contains}
use Rattle.std.specs.List.{flat_map, list_any}
use Rattle.std.specs.declared.cmp.Ordering.{Ordering}
use Rattle.std.specs.Ordering.{nat_cmp, int_cmp, ordering_then}
use Rattle.m386_words.specs.Expressions.{Expression}
use Rattle.m386_image.specs.declared.image.Planned.{Planned}
use Rattle.m386_lines.specs.declared.kind.AsmKind.{AsmKind}
use Rattle.m386_lines.specs.declared.kind.AsmKind.TheVariants as kinds
use Rattle.m386_lines.specs.Faults.{own_kind}
use Rattle.m386_lines.specs.Lines.{Statement, Meaning}
use Rattle.m386_asm.specs.declared.noted.Noted.{Noted}
use Rattle.m386_asm.specs.declared.spot.Spot.{Spot}
use Rattle.m386_asm.specs.declared.survey.Survey.{Survey}
use Rattle.m386_asm.specs.Surveys.{IsSurveyOf}
use Rattle.m386_asm.specs.Layout.{Names, Laid, value, is_in_field, keeps_limits, end_of, names_of, header, same_header, is_above, are_above, plan_of, IsFaultless, has, Has, kind_number}

-- the order of headers
abbrev pub header_cmp : ℕ × ℤ → ℕ × ℤ → Ordering
header_cmp a b = ordering_then (nat_cmp a.0 b.0) (int_cmp a.1 b.1)

-- whether a statement is a header among these
abbrev pub is_given : Names → BTreeSet (ℕ × ℤ) → Statement → Bool
is_given ns headers s = elim (header ns s) [ None ↦ false | Some h ↦ contains header_cmp headers h ]

-- whether an entry of the plan stands above the last one, if there is one
abbrev pub is_above_last : Option Planned → Planned → Bool
is_above_last None entry = true
is_above_last (Some last) entry = is_above entry last

-- the same of an entry, if there is one
abbrev pub follows : Option Planned → Option Planned → Bool
follows last None = true
follows last (Some entry) = is_above_last last entry

-- an entry, if there is one
abbrev pub entry_list : Option Planned → List Planned
entry_list None = []
entry_list (Some entry) = entry ∷ []

-- the least kind of a line, if it has one
abbrev pub IsLeast : List Laid → List Laid → Laid → Option AsmKind → Type 0
IsLeast ls before l None = IsFaultless ls before l
IsLeast ls before l (Some kind) = Has ls before l kind × ((other : AsmKind) → kind_number other < kind_number kind → ¬ Has ls before l other)

-- the kinds that hang on other lines, in the order of their numbers, each with whether a line has it
abbrev pub later_kinds : Bool → Bool → Bool → Bool → Bool → Bool → List (AsmKind × Bool)
later_kinds unknown twice header range overlap plan =
    (kinds.UnknownName, unknown) ∷ (kinds.NameTwice, twice) ∷ (kinds.HeaderTwice, header) ∷ (kinds.Range, range) ∷ (kinds.Overlap, overlap) ∷ (kinds.PlanOrder, plan) ∷ []

-- The tests of a line that has no kind by itself say which of these kinds it has.
pub record AreTests (ls before : List Laid) (l : Laid) (unknown twice header range overlap plan : Bool) : Type 0 where
  pub own : own_kind l.text ≡ None
  pub unknown_is : unknown ≡ has ls before l kinds.UnknownName
  pub twice_is : twice ≡ has ls before l kinds.NameTwice
  pub header_is : header ≡ has ls before l kinds.HeaderTwice
  pub range_is : range ≡ true → Has ls before l kinds.Range
  pub range_not : range ≡ false → ¬ Has ls before l kinds.Range
  pub overlap_is : overlap ≡ has ls before l kinds.Overlap
  pub plan_is : plan ≡ has ls before l kinds.PlanOrder

-- whether a value of a statement with these fields is outside its field or its limit
abbrev pub is_value_outside : Names → Option ℤ → Option ℤ → Statement → List (ℕ × Expression) → Bool
is_value_outside ns memory cpus s fields = list_any (λ (f : ℕ × Expression). not (is_in_field f.0 (value ns f.1))) fields || not (keeps_limits ns memory cpus s)

-- A line stands there, behind these lines of a text, with its survey and its meaning.
pub record IsAt (ls before : List Laid) (l : Laid) (survey : Survey) (spot : Spot) (meaning : Meaning) : Type 0 where
  pub survey_is : IsSurveyOf ls survey
  pub after : List Laid
  pub text : ls ≡ before ++ after
  pub lines : spot.lines ≡ length before
  pub place : spot.place ≡ end_of before
  pub len : spot.len ≡ length l.bytes
  pub meaning_is : meaning ≡ l.meaning

-- What is noted of these lines of a text.
pub record IsNoted (ls before : List Laid) (noted : Noted) : Type 0 where
  pub headers : (s : Statement) → is_given (names_of ls) noted.headers s ≡ list_any (λ (b : Laid). same_header (header (names_of ls) b.meaning.statement) (header (names_of ls) s)) before
  pub planned : (entry : Planned) → is_above_last noted.planned entry ≡ are_above (entry ∷ []) (flat_map (plan_of (names_of ls)) before)
