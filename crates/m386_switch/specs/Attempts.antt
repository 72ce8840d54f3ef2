-- What holds of each attempt at a task switch within a phrase.
use Rattle.std.specs.Prelude.{◌≡◌, ℕ, Bool, true, false, List, []}
use Rattle.m386_base.specs.declared.ask.Ask.{Ask}
use Rattle.m386_base.specs.declared.ask.Role.{Role}
use Rattle.m386_base.specs.declared.ask.Role.TheVariants as roles
use Rattle.m386_base.specs.Phrase.{Phrase, Done, Faults, Asks, Begins, Attempt, follow, Whole}

-- Where a phrase begins an attempt, Q holds of the attempt, of all cycles that follow and of what is found at their end.
unfoldable pub EachEnds : {A : Type 0} → (Attempt → List Ask → A → Type 0) → Phrase A → Type 0
EachEnds Q (Done a) = Unit {0}
EachEnds Q (Faults f) = Unit {0}
EachEnds Q (Asks q k) = (v : ℕ) → EachEnds Q (k v)
EachEnds Q (Begins m t) = ((ts : List Ask) (a : _) → follow t ts ≡ Whole a [] → Q m ts a) × EachEnds Q t

-- cycles that only a switch, a start or LTR makes
abbrev pub is_of_a_switch : Role → Bool
is_of_a_switch roles.Tss = true
is_of_a_switch roles.ClaimJmp = true
is_of_a_switch roles.ClaimCall = true
is_of_a_switch roles.ClaimStart = true
is_of_a_switch roles.Save = true
is_of_a_switch roles.Link = true
is_of_a_switch roles.Back = true
is_of_a_switch roles.RelJmp = true
is_of_a_switch roles.RelRet = true
is_of_a_switch roles.Load = true
is_of_a_switch _ = false

-- Before an attempt begins the phrase makes no cycle of a switch.
unfoldable pub Outside : {A : Type 0} → Phrase A → Type 0
Outside (Done a) = Unit {0}
Outside (Faults f) = Unit {0}
Outside (Asks q k) = (is_of_a_switch q.role ≡ false) × ((v : ℕ) → Outside (k v))
Outside (Begins m t) = Unit {0}
