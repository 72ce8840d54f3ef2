-- What the code's numbers with fields are.
use Rattle.std.specs.Prelude.{ℕ}
use Rattle.m386_words.specs.Expressions.{Expression}
use Rattle.m386_words.specs.Seen.{expression_seen}
use Rattle.m386_asm.specs.declared.field.Field.{Field}

abbrev pub limit_seen : Field → ℕ × Expression
limit_seen f = (f.bits, expression_seen f.value)
