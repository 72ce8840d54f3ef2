-- The rules that a search has yet to test.
use Rattle.std.proofs.Common.{◌≡◌, ℕ, ◌+◌, ◌<◌, ◌≤◌, List, length, drop, get_or, refl, add-one, drop-cons, false, cond, Some, None}
use Rattle.std.proofs.lemmas.List.{drop_all}
use Rattle.m386_base.specs.declared.exception.Exception.TheVariants.{DivideError}
use Rattle.m386_segload.specs.declared.rules.Candidate.{Candidate}
use Rattle.m386_segload.specs.declared.rules.Requirement.TheVariants.{NotNull}
use Rattle.m386_segload.specs.declared.rules.Rule.{Rule}
use Rattle.m386_segload.specs.Requirements.{is_met}
use Rattle.m386_segload.specs.Rules.{first_broken, broken, rule}

abbrev no_rule : Rule
no_rule = rule NotNull DivideError false

pub rule_next : (c : Candidate) (rules : List Rule) (i : ℕ) → i < length rules → first_broken (drop i rules) c ≡ cond (is_met (get_or rules i no_rule).requirement c) (first_broken (drop (i + 1) rules) c) (Some (broken (get_or rules i no_rule) c))
unfolding first_broken
rule_next c rules i h = rw (drop-cons rules i no_rule h) (rw (add-one i) refl)

pub rule_end : (c : Candidate) (rules : List Rule) (i : ℕ) → length rules ≤ i → first_broken (drop i rules) c ≡ None
unfolding first_broken
rule_end c rules i h = rw (drop_all i rules h) refl

pub ruleset rule_steps = (rule_next, rule_end)
