-- Directives with another number of expressions than they take.
use Rattle.std.proofs.Common.{◌≡◌, ◌<◌, List, [], ◌∷◌, length, map, refl, arith}
use Rattle.std.specs.Prelude.{None}
use Rattle.m386_words.specs.declared.expression.Expression.{Expression as SeenExpression}
use Rattle.m386_words.specs.Seen.{expression_seen}
use Rattle.m386_lines.specs.declared.directive.Form.{Form}
use Rattle.m386_lines.specs.declared.directive.Form.TheVariants.{Memory, Cpus, Gdt, Idt, Bare, Task, Plan, Org, Byte, Word, Long, Hex, Zero, Desc, Gate, Tss}
use Rattle.m386_words.specs.Expressions.{Expression}
use Rattle.m386_lines.specs.Seen.{fixed_means}

many : (form : Form) (a b c d e : Expression) (es : List Expression) → fixed_means form (a ∷ b ∷ c ∷ d ∷ e ∷ es) ≡ None
many Memory a b c d e es = refl
many Cpus a b c d e es = refl
many Gdt a b c d e es = refl
many Idt a b c d e es = refl
many Bare a b c d e es = refl
many Task a b c d e es = refl
many Plan a b c d e es = refl
many Org a b c d e es = refl
many Byte a b c d e es = refl
many Word a b c d e es = refl
many Long a b c d e es = refl
many Hex a b c d e es = refl
many Zero a b c d e es = refl
many Desc a b c d e es = refl
many Gate a b c d e es = refl
many Tss a b c d e es = refl

nothing : (form : Form) → fixed_means form [] ≡ None
nothing Memory = refl
nothing Cpus = refl
nothing Gdt = refl
nothing Idt = refl
nothing Bare = refl
nothing Task = refl
nothing Plan = refl
nothing Org = refl
nothing Byte = refl
nothing Word = refl
nothing Long = refl
nothing Hex = refl
nothing Zero = refl
nothing Desc = refl
nothing Gate = refl
nothing Tss = refl

pub too_many : (form : Form) (es : List SeenExpression) → 4 < length es → fixed_means form (map expression_seen es) ≡ None
too_many form [] h = absurd (omega (arith, h))
too_many form (a ∷ []) h = absurd (omega (arith, h))
too_many form (a ∷ b ∷ []) h = absurd (omega (arith, h))
too_many form (a ∷ b ∷ c ∷ []) h = absurd (omega (arith, h))
too_many form (a ∷ b ∷ c ∷ d ∷ []) h = absurd (omega (arith, h))
too_many form (a ∷ b ∷ c ∷ d ∷ e ∷ es) h = many form _ _ _ _ _ _

pub too_few : (form : Form) (es : List SeenExpression) → length es < 1 → fixed_means form (map expression_seen es) ≡ None
too_few form [] h = nothing form
too_few form (e ∷ es) h = absurd (omega (arith, h))

pub ruleset counts = (too_many, too_few)
