-- The numbers so far are in their fields.
use Rattle.std.proofs.Common.{◌≡◌, ℕ, false, map, take}
use Rattle.std.specs.Prelude.{not}
use Rattle.std.specs.List.{list_any}
use Rattle.m386_words.specs.Expressions.{Expression}
use Rattle.m386_asm.specs.Knows.{Knows}
use Rattle.m386_asm.specs.Layout.{Names, is_in_field, value}
use Rattle.m386_asm.specs.Limits.{limit_seen}
use Rattle.m386_asm.proofs.limits.is_outside_fields.Given as goal

abbrev pub invariant-loop-field : goal.invariant-loop-field
invariant-loop-field l = (ns : Names) → Knows l.names ns → list_any (λ (f : ℕ × Expression). not (is_in_field f.0 (value ns f.1))) (map limit_seen (take l.field-index l.fields)) ≡ false
