-- A walk goes from line to line of a text.
use Rattle.std.proofs.Common.{◌≡◌, ℕ, List, [], ◌∷◌, ◌++◌, map, refl, sym, ◌∙◌, subst, append-nil, append_assoc}
use Rattle.m386_words.specs.Text.{lines_of}
use Rattle.m386_asm.specs.Layout.{Laid, names_of, AreLaid, EachLine, IsLaid}

-- The walk stands behind some lines of a text, of which P holds, and these bytes are what is left of the text.
pub record Stands (P : List Laid → Type 0) (ls : List Laid) (rest : List ℕ) : Type 0 where
  pub before : List Laid
  pub after : List Laid
  pub whole : ls ≡ before ++ after
  pub lines : map (λ (l : Laid). l.text) after ≡ lines_of rest
  pub laid : EachLine (IsLaid (names_of ls)) before after
  pub holds : P before

pub stands_first : (P : List Laid → Type 0) (text : List ℕ) (ls : List Laid) → AreLaid text ls → P [] → Stands P ls text
stands_first P text ls p h = record { before = []; after = ls; whole = refl; lines = p.lines; laid = p.laid; holds = h }

-- the next line
pub record IsNext (P : List Laid → Type 0) (ls : List Laid) (line more : List ℕ) : Type 0 where
  pub before : List Laid
  pub l : Laid
  pub after : List Laid
  pub whole : ls ≡ before ++ l ∷ after
  pub lines : map (λ (l : Laid). l.text) after ≡ lines_of more
  pub laid_here : IsLaid (names_of ls) before l
  pub laid : EachLine (IsLaid (names_of ls)) (before ++ l ∷ []) after
  pub text : l.text ≡ line
  pub holds : P before

next_of : (P : List Laid → Type 0) (ls : List Laid) (line more : List ℕ) (before after : List Laid) → ls ≡ before ++ after → map (λ (l : Laid). l.text) after ≡ line ∷ lines_of more →
    EachLine (IsLaid (names_of ls)) before after → P before → IsNext P ls line more
unfolding EachLine
next_of P ls line more before [] whole h laid p = cc
next_of P ls line more before (l ∷ after) whole h laid p =
    record { before = before; l = l; after = after; whole = whole; lines = cc; laid_here = laid.0; laid = laid.1; text = cc; holds = p }

pub stands_at : (P : List Laid → Type 0) (ls : List Laid) (rest line more : List ℕ) → lines_of rest ≡ line ∷ lines_of more → Stands P ls rest → IsNext P ls line more
stands_at P ls rest line more e w = next_of P ls line more w.before w.after w.whole (w.lines ∙ e) w.laid w.holds

-- behind the next line, of which Q holds with those before it
pub stands_behind : (P Q : List Laid → Type 0) (ls : List Laid) (line more : List ℕ) → (n : IsNext P ls line more) → Q (n.before ++ n.l ∷ []) → Stands Q ls more
stands_behind P Q ls line more n q = record {
  before = n.before ++ n.l ∷ [];
  after = n.after;
  whole = n.whole ∙ sym (append_assoc n.before (n.l ∷ []) n.after);
  lines = n.lines;
  laid = n.laid;
  holds = q;
}

pub stands_last : (P : List Laid → Type 0) (ls : List Laid) (rest : List ℕ) → lines_of rest ≡ [] → Stands P ls rest → P ls
stands_last P ls rest e w = from w.after w.whole (w.lines ∙ e)
  where
    from : (after : List Laid) → ls ≡ w.before ++ after → map (λ (l : Laid). l.text) after ≡ [] → P ls
    from [] whole h = subst P (sym (whole ∙ append-nil w.before)) w.holds
    from (l ∷ after) whole h = cc
