-- What an instruction's operands are, seen one by one.
use Rattle.std.proofs.Common.{◌≡◌, ℕ, Bool, List, [], ◌∷◌, map, refl, ◌∙◌, ap, ◌||◌}
use Rattle.std.specs.Prelude.{is_some}
use Rattle.std.specs.List.{list_any, flat_map}
use Rattle.std.proofs.lemmas.List.Folds.{list_any-append}
use Rattle.m386_words.specs.Expressions.{Expression}
use Rattle.m386_lines.specs.declared.instruction.Argument.{Argument as SeenArgument}
use Rattle.m386_lines.specs.Seen.{argument_seen}
use Rattle.m386_asm.specs.Layout.{arg_fields, is_target}

-- whether a number has a name
abbrev pub has_name : ℕ × Expression → Bool
has_name f = is_some f.1.name

pub seen_targets : (xs : List SeenArgument) → list_any is_target (map argument_seen xs) ≡ list_any (λ a. is_target (argument_seen a)) xs
seen_targets [] = refl
seen_targets (x ∷ xs) = ap (λ b. is_target (argument_seen x) || b) (seen_targets xs)

pub seen_names : (xs : List SeenArgument) → list_any (λ (f : ℕ × Expression). is_some f.1.name) (flat_map arg_fields (map argument_seen xs)) ≡ list_any (λ a. list_any (λ (f : ℕ × Expression). is_some f.1.name) (arg_fields (argument_seen a))) xs
seen_names [] = refl
seen_names (x ∷ xs) =
    list_any-append (λ (f : ℕ × Expression). is_some f.1.name) (arg_fields (argument_seen x)) (flat_map arg_fields (map argument_seen xs))
    ∙ ap (λ b. list_any (λ (f : ℕ × Expression). is_some f.1.name) (arg_fields (argument_seen x)) || b) (seen_names xs)
