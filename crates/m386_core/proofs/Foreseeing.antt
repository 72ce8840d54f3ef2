-- What a bus on which a step is run ahead keeps.
use Rattle.std.proofs.Common.{◌≡◌, ℕ, ◌<◌, Bool, true, false, cond, List, [], ◌∷◌, ◌++◌, length, get_or, refl, ◌∙◌, arith, ◌&&◌, eq-eqb, bit_and}
use Rattle.std.specs.List.{AllByRecursion}
use Rattle.m386_base.specs.declared.ask.Ask.{Ask}
use Rattle.m386_base.specs.Bus.{IsAsk, IsEnabled, mask, cycle_of}
use Rattle.m386_base.specs.Phrase.{answer_of}
use Rattle.m386_base.specs.Replay.{answer_told}
use Rattle.m386_base.proofs.Replays.{answer_told-cycle_of}
use Rattle.m386_core.specs.Ahead.{agrees, first_joined}

and-l : (a b : Bool) → a && b ≡ true → a ≡ true
and-l true b h = refl
and-l false b h = h

and-r : (a b : Bool) → a && b ≡ true → b ≡ true
and-r true b h = h
and-r false true h = refl
and-r false false h = h

both : (a b : Bool) → a ≡ true → b ≡ true → a && b ≡ true
both true b h k = k
both false b h k = h

-- one more cycle, which was answered the value in its place, if there is one
pub agrees_more : (ts : List Ask) (vs : List ℕ) (t : Ask) → agrees ts vs ≡ true → (length ts < length vs → answer_of t ≡ answer_told t (get_or vs (length ts) 0)) → agrees (ts ++ t ∷ []) vs ≡ true
unfolding agrees
agrees_more [] [] t h e = refl
agrees_more [] (v ∷ vs) t h e = both _ _ (eq-eqb _ _ (e (omega arith))) refl
agrees_more (x ∷ ts) [] t h e = refl
agrees_more (x ∷ ts) (v ∷ vs) t h e = both _ _ (and-l _ _ h) (agrees_more ts vs t (and-r _ _ h) (λ l. e (omega arith)))

-- the same of a cycle that is made of an ask
pub agrees_cycle : (ts : List Ask) (vs : List ℕ) (a : Ask) (x : ℕ) → agrees ts vs ≡ true → (length ts < length vs → x ≡ cond a.write 0 (bit_and (get_or vs (length ts) 0) (mask a.enables))) → agrees (ts ++ cycle_of a x ∷ []) vs ≡ true
agrees_cycle ts vs a x h e = agrees_more ts vs (cycle_of a x) h (λ l. answer_told-cycle_of a (get_or vs (length ts) 0) x (e l))

lawful_cycle : (a : Ask) (v : ℕ) → IsAsk a → IsEnabled a.enables v → IsAsk (cycle_of a v)
unfolding cycle_of
lawful_cycle a v k e = elim a.write as (λ b. IsAsk (cond b a (record a { value = v }))) [
  | true ↦ k
  | false ↦ record { aligned = k.aligned; inside = k.inside; some = k.some; group = k.group; part = k.part; value = e }
]

-- one more cycle that may be made
pub lawful_more : (ts : List Ask) (a : Ask) (v : ℕ) → AllByRecursion IsAsk ts → IsAsk a → IsEnabled a.enables v → AllByRecursion IsAsk (ts ++ cycle_of a v ∷ [])
lawful_more [] a v h k e = (lawful_cycle a v k e, tt)
lawful_more (x ∷ ts) a v h k e = (h.0, lawful_more ts a v h.1 k e)

-- one more cycle, which isn't joined where it is the first
pub opens_more : (ts : List Ask) (a : Ask) (v : ℕ) (kept : Bool) → first_joined ts ≡ false → a.joined ≡ kept → (length ts ≡ 0 → kept ≡ false) → first_joined (ts ++ cycle_of a v ∷ []) ≡ false
unfolding first_joined cycle_of
opens_more [] a v kept h j u = elim a.write as (λ b. (cond b a (record a { value = v })).joined ≡ false) [
  | true ↦ j ∙ u refl
  | false ↦ j ∙ u refl
]
opens_more (x ∷ ts) a v kept h j u = h

pub ruleset foreseeing = (agrees_cycle, lawful_more, opens_more)
