-- The bytes of a line, where they could be put.
use Rattle.std.proofs.Common.{◌≡◌, ℕ, List, [], ◌∷◌, ◌++◌, refl, ap, ◌∙◌, inl, inr}
use Rattle.std.specs.Prelude.{Result, Ok, Err, OnOk}
use Rattle.m386_lines.specs.Directives.{Directive}
use Rattle.m386_lines.specs.Instructions.{Instruction}
use Rattle.m386_lines.specs.Lines.{Direct, Operate}
use Rattle.m386_asm.specs.declared.value.Names.{Names as SeenNames}
use Rattle.m386_asm.specs.Knows.{Knows}
use Rattle.m386_asm.specs.Layout.{HasMade, IsFirstSpelling, IsOutOfReach, Names, directive_bytes}

module _ {A E : Type 0} (names : SeenNames) (place : ℕ) (before after : List ℕ) where
  pub direct_made : (r : Result A E) (d : Directive) → OnOk r ((ns : Names) → Knows names ns → after ≡ before ++ directive_bytes ns d) → OnOk r ((ns : Names) → Knows names ns → HasMade ns place (Direct d) before after)
  direct_made (Ok a) d h = λ ns k. (directive_bytes ns d, h ns k, refl)
  direct_made (Err e) d h = h

  pub spelled_made : (r : Result A E) (i : Instruction) (bytes put : List ℕ) → OnOk r (after ≡ before ++ put) → put ≡ bytes → ((ns : Names) → Knows names ns → IsFirstSpelling ns place i bytes) →
      OnOk r ((ns : Names) → Knows names ns → HasMade ns place (Operate i) before after)
  spelled_made (Ok a) i bytes put h e f = λ ns k. (bytes, h ∙ ap (λ bs. before ++ bs) e, inl (f ns k))
  spelled_made (Err x) i bytes put h e f = h

  pub unreached_made : (r : Result A E) (i : Instruction) → OnOk r (after ≡ before ++ 0 ∷ 0 ∷ []) → ((ns : Names) → Knows names ns → IsOutOfReach ns place i) →
      OnOk r ((ns : Names) → Knows names ns → HasMade ns place (Operate i) before after)
  unreached_made (Ok a) i h f = λ ns k. (0 ∷ 0 ∷ [], h, inr (f ns k, refl))
  unreached_made (Err x) i h f = h
