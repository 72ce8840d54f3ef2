-- The code's names have their own values.
use Rattle.std.proofs.Common.{◌≡◌, ℕ, Bool, true, false, cond, List, [], ◌∷◌, map, refl, ◌∙◌}
use Rattle.std.specs.Prelude.{ℤ, Option, Some}
use Rattle.std.specs.Option.{option_map}
use Rattle.std.specs.Borrow.{Bor}
use Rattle.std.specs.Map.{lookup}
use Rattle.std.specs.BTreeMap.{is_at}
use Rattle.std.specs.Ordering.{nat_cmp}
use Rattle.std.specs.Cmp.Lexicographic.{slice_cmp}
use Rattle.std.proofs.lemmas.Cmp.{nat_list_eq_equiv}
use Rattle.std.proofs.lemmas.Map.Text.{is_eq-slice_cmp}
use Rattle.m386_words.specs.Words.{same_word}
use Rattle.m386_asm.specs.declared.named.Named.{Named}
use Rattle.m386_asm.specs.declared.value.Names.{Names as SeenNames}
use Rattle.m386_asm.specs.Knows.{Knows, own_names}
use Rattle.m386_asm.specs.Layout.{named}

-- the value of what is found for a word among the entries of a map
value_among : List ℕ → List (Bor (List ℕ) × Named) → Option ℤ
value_among w es = option_map (λ (n : Named). n.value) (lookup (is_at (λ (k : Bor (List ℕ)). slice_cmp nat_cmp w k.now)) es)

-- the same test, on the same value or the same rest
by_test : (a b : Bool) (n : Named) (o : Option Named) (p : Option ℤ) → a ≡ b → option_map (λ (n : Named). n.value) o ≡ p → option_map (λ (n : Named). n.value) (cond a (Some n) o) ≡ cond b (Some n.value) p
by_test true true n o p e h = refl
by_test true false n o p e h = (let t : true ≡ false = e in cc)
by_test false true n o p e h = (let t : false ≡ true = e in cc)
by_test false false n o p e h = h

own_value : (w : List ℕ) (es : List (Bor (List ℕ) × Named)) → value_among w es ≡ named (map (λ (e : Bor (List ℕ) × Named). (e.0.now, e.1.value)) es) w
unfolding named value_among
own_value w [] = refl
own_value w (e ∷ es) = by_test _ (same_word e.0.now w) e.1 _ _ (is_eq-slice_cmp w e.0.now ∙ nat_list_eq_equiv.symm w e.0.now) (own_value w es)

pub knows_own : (names : SeenNames) → Knows names (own_names names)
unfolding value_among
knows_own names = λ w. own_value w names.map.entries
