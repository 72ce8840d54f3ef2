-- The lines of each text can be laid.
use Rattle.std.proofs.Common.{◌≡◌, ℕ, List, [], ◌∷◌, ◌++◌, map, refl, sym, ◌∙◌, ap, subst}
use Rattle.m386_words.specs.Text.{lines_of}
use Rattle.m386_lines.specs.Faults.{meaning_of}
use Rattle.m386_asm.specs.Laws.{LinesHaveBytes, LaidSomehow}
use Rattle.m386_asm.specs.Layout.{Names, Makes, Laid, moved, end_of, names_of, EachLine, IsLaid}
use Rattle.m386_asm.proofs.KeptLengths.{operations_keep}
use Rattle.m386_asm.proofs.LineBytes.{lines_have_bytes}
use Rattle.m386_asm.proofs.Sketched.{sketch, end_behind, names_alike, sketched}

-- a line at a place
abbrev line_at : LinesHaveBytes → Names → ℕ → List ℕ → Laid
line_at have ns place text = record { text = text; meaning = meaning_of text; bytes = (have ns place (meaning_of text).statement).0 }

-- lines from a place on
abbrev lines_from : LinesHaveBytes → Names → ℕ → List (List ℕ) → List Laid
lines_from have ns place [] = []
lines_from have ns place (t ∷ ts) = line_at have ns place t ∷ lines_from have ns (moved place (line_at have ns place t)) ts

texts_stay : (have : LinesHaveBytes) (ns : Names) (place : ℕ) (ts : List (List ℕ)) → map (λ (l : Laid). l.text) (lines_from have ns place ts) ≡ ts
texts_stay have ns place [] = refl
texts_stay have ns place (t ∷ ts) = ap (λ us. t ∷ us) (texts_stay have ns (moved place (line_at have ns place t)) ts)

are_laid : (have : LinesHaveBytes) (ns : Names) (before : List Laid) (place : ℕ) (ts : List (List ℕ)) → end_of before ≡ place → EachLine (IsLaid ns) before (lines_from have ns place ts)
unfolding EachLine
are_laid have ns before place [] e = tt
are_laid have ns before place (t ∷ ts) e =
    let l : Laid = line_at have ns place t in
    let made : Makes ns (end_of before) l.meaning.statement l.bytes = subst (λ n. Makes ns n l.meaning.statement l.bytes) (sym e) (have ns place (meaning_of t).statement).1 in
    (record { meaning = refl; bytes = made }, are_laid have ns (before ++ l ∷ []) (moved place l) ts (end_behind before l ∙ ap (λ n. moved n l) e))

pub laid_somehow : LaidSomehow
laid_somehow text =
    let have : LinesHaveBytes = lines_have_bytes in
    let ts : List (List ℕ) = lines_of text in
    let ns : Names = names_of (lines_from have [] 0 ts) in
    let ls : List Laid = lines_from have ns 0 ts in
    let laid : EachLine (IsLaid ns) [] ls = are_laid have ns [] 0 ts refl in
    let same : map sketch (lines_from have [] 0 ts) ≡ map sketch ls =
    sketched operations_keep [] ns [] [] (lines_from have [] 0 ts) ls refl (texts_stay have [] 0 ts ∙ sym (texts_stay have ns 0 ts)) (are_laid have [] [] 0 ts refl) laid in
    (ls, record { lines = texts_stay have ns 0 ts; laid = subst (λ ms. EachLine (IsLaid ms) [] ls) (names_alike 0 (lines_from have [] 0 ts) ls same) laid })
