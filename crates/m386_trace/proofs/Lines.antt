-- A line that grows by one field after another.
use Rattle.std.proofs.Common.{◌≡◌, ℕ, List, [], ◌∷◌, ◌++◌, codes, refl, ap, sym, ◌∙◌, append_assoc, append-nil}
use Rattle.m386_trace.specs.Line.{line_text, spaced}

pub spaced-append : (fields more : List (List ℕ)) → spaced (fields ++ more) ≡ spaced fields ++ spaced more
unfolding spaced
spaced-append [] more = refl
spaced-append (field ∷ fields) more =
    ap (λ (rest : List ℕ). codes " " ++ field ++ rest) (spaced-append fields more) ∙ sym (append_assoc (codes " " ++ field) (spaced fields) (spaced more))

-- a line that has these fields so far, behind its first one
pub record HasFields (first : List ℕ) (fields : List (List ℕ)) (line : List ℕ) : Type 0 where
  pub text : line ≡ first ++ spaced fields

pub line_begins : (first line : List ℕ) → line ≡ first → HasFields first [] line
unfolding spaced
line_begins first line same = record { text = same ∙ sym (append-nil first) }

pub pushed : {first : List ℕ} {fields : List (List ℕ)} {line : List ℕ} (more : List (List ℕ)) (new : List ℕ) → HasFields first fields line → new ≡ line ++ spaced more → HasFields first (fields ++ more) new
pushed {first} {fields} {line} more new before step = record {
  text = step ∙ ap (λ (text : List ℕ). text ++ spaced more) before.text ∙ append_assoc first (spaced fields) (spaced more) ∙ ap (λ (rest : List ℕ). first ++ rest) (sym (spaced-append fields more));
}

pub ended : {first : List ℕ} {fields : List (List ℕ)} {line : List ℕ} (new : List ℕ) → HasFields first fields line → new ≡ line ++ codes "\n" → new ≡ line_text first fields
ended new before step = step ∙ ap (λ (text : List ℕ). text ++ codes "\n") before.text

-- the last fields, with the line feed behind them
pub ended_by : {first : List ℕ} {fields : List (List ℕ)} {line : List ℕ} (more : List (List ℕ)) (new : List ℕ) → HasFields first fields line → new ≡ line ++ (spaced more ++ codes "\n") → new ≡ line_text first (fields ++ more)
ended_by {first} {fields} {line} more new before step =
    ended new (pushed more (line ++ spaced more) before refl) (step ∙ sym (append_assoc line (spaced more) (codes "\n")))

-- two fields, one after the other
pub pushed_two : (line mid new first second : List ℕ) → mid ≡ line ++ spaced (first ∷ []) → new ≡ mid ++ spaced (second ∷ []) → new ≡ line ++ spaced (first ∷ second ∷ [])
pushed_two line mid new first second before step =
    let text : HasFields line (first ∷ second ∷ []) new = pushed _ _ (record { text = before }) step in text.text

-- a line with no more fields than before
pub unchanged : (line : List ℕ) → HasFields line [] line
unchanged line = line_begins line line refl

-- a field behind its space
pub spaced_one : (line mid new field : List ℕ) → mid ≡ line ++ codes " " → new ≡ mid ++ field → new ≡ line ++ spaced (field ∷ [])
unfolding spaced
spaced_one line mid new field before step =
    step ∙ ap (λ (text : List ℕ). text ++ field) before ∙ append_assoc line (codes " ") field ∙ ap (λ (text : List ℕ). line ++ (codes " " ++ text)) (sym (append-nil field))
