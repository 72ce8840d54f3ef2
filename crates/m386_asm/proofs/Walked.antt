-- The second walk goes from line to line.
use Rattle.std.proofs.Common.{◌≡◌, ℕ, ◌+◌, false, List, [], ◌∷◌, ◌++◌, map, refl, sym, ◌∙◌, ap, subst, append-nil, append_assoc}
use Rattle.std.specs.BTreeMap.{is_at}
use Rattle.std.specs.List.{list_any}
use Rattle.std.specs.BTreeSet.{BTreeSet, contains}
use Rattle.std.specs.Prelude.{Option, Some, None, ℤ}
use Rattle.m386_words.specs.Text.{lines_of}
use Rattle.m386_lines.specs.declared.kind.AsmKind.{AsmKind}
use Rattle.m386_lines.specs.Lines.{Statement}
use Rattle.m386_asm.specs.declared.survey.Survey.{Survey}
use Rattle.m386_asm.specs.declared.walk.Walk.{Walk}
use Rattle.m386_asm.specs.Layout.{Laid, Names, header, names_of, AreLaid, EachLine, IsLaid, IsFaultless, IsFirstFault, at_line}
use Rattle.m386_asm.specs.Surveys.{IsSurveyOf}
use Rattle.m386_asm.specs.Turns.{IsTurn, IsWalk}
use Rattle.m386_asm.specs.Walks.{IsLeast, header_cmp, is_given}

-- The walk stands behind some lines of a text, none of which is faulty, and these bytes are what is left of the text.
pub record Stands (ls : List Laid) (rest : List ℕ) (walk : Walk) : Type 0 where
  pub before : List Laid
  pub after : List Laid
  pub whole : ls ≡ before ++ after
  pub lines : map (λ (l : Laid). l.text) after ≡ lines_of rest
  pub good : EachLine (IsFaultless ls) [] before
  pub laid : EachLine (IsLaid (names_of ls)) before after
  pub walk_is : IsWalk ls before walk

pub stands_first : (text : List ℕ) (ls : List Laid) (walk : Walk) → AreLaid text ls → IsWalk ls [] walk → Stands ls text walk
unfolding EachLine
stands_first text ls walk p w = record { before = []; after = ls; whole = refl; lines = p.lines; good = tt; laid = p.laid; walk_is = w }

pub each_behind : (P : List Laid → Laid → Type 0) (front before : List Laid) (l : Laid) → EachLine P front before → P (front ++ before) l → EachLine P front (before ++ l ∷ [])
unfolding EachLine
each_behind P front [] l p q = (subst (λ f. P f l) (append-nil front) q, tt)
each_behind P front (b ∷ before) l p q = (p.0, each_behind P (front ++ b ∷ []) before l p.1 (subst (λ f. P f l) (sym (append_assoc front (b ∷ []) before)) q))

-- ---- a line

-- the next line
record IsNext (ls : List Laid) (survey : Survey) (line more : List ℕ) (walk : Walk) : Type 0 where
  before : List Laid
  l : Laid
  after : List Laid
  whole : ls ≡ before ++ l ∷ after
  lines : map (λ (l : Laid). l.text) after ≡ lines_of more
  good : EachLine (IsFaultless ls) [] before
  laid : EachLine (IsLaid (names_of ls)) (before ++ l ∷ []) after
  turn : IsTurn ls before l survey line walk

next_of : (ls : List Laid) (survey : Survey) (line more : List ℕ) (walk : Walk) (before after : List Laid) → ls ≡ before ++ after → map (λ (l : Laid). l.text) after ≡ line ∷ lines_of more →
    EachLine (IsFaultless ls) [] before → EachLine (IsLaid (names_of ls)) before after → IsSurveyOf ls survey → IsWalk ls before walk → IsNext ls survey line more walk
unfolding EachLine
next_of ls survey line more walk before [] whole h good laid s w = cc
next_of ls survey line more walk before (l ∷ after) whole h good laid s w =
    let text : l.text ≡ line = cc in
    record {
      before = before;
      l = l;
      after = after;
      whole = whole;
      lines = cc;
      good = good;
      laid = laid.1;
      turn = record { survey_is = s; after = after; text = whole; laid = laid.0; line_is = text; walk_is = w };
    }

next : (ls : List Laid) (survey : Survey) (rest line more : List ℕ) (walk : Walk) → lines_of rest ≡ line ∷ lines_of more → IsSurveyOf ls survey → Stands ls rest walk → IsNext ls survey line more walk
next ls survey rest line more walk e s w = next_of ls survey line more walk w.before w.after w.whole (w.lines ∙ e) w.good w.laid s w.walk_is

pub stands_next : (ls : List Laid) (survey : Survey) (rest line more : List ℕ) (walk behind : Walk) → lines_of rest ≡ line ∷ lines_of more → IsSurveyOf ls survey → Stands ls rest walk →
    ((ms before : List Laid) (l : Laid) → IsTurn ms before l survey line walk → IsLeast ms before l None × IsWalk ms (before ++ l ∷ []) behind) → Stands ls more behind
stands_next ls survey rest line more walk behind e s w go =
    let n : IsNext ls survey line more walk = next ls survey rest line more walk e s w in
    let went = go ls n.before n.l n.turn in
    record {
      before = n.before ++ n.l ∷ [];
      after = n.after;
      whole = n.whole ∙ sym (append_assoc n.before (n.l ∷ []) n.after);
      lines = n.lines;
      good = each_behind (IsFaultless ls) [] n.before n.l n.good went.0;
      laid = n.laid;
      walk_is = went.1;
    }

pub faulty_next : (ls : List Laid) (survey : Survey) (rest line more : List ℕ) (walk : Walk) (number : ℕ) (kind : AsmKind) → lines_of rest ≡ line ∷ lines_of more → IsSurveyOf ls survey → Stands ls rest walk →
    number ≡ walk.lines + 1 → ((ms before : List Laid) (l : Laid) → IsTurn ms before l survey line walk → IsLeast ms before l (Some kind)) → IsFirstFault ls number kind
faulty_next ls survey rest line more walk number kind e s w at least =
    let n : IsNext ls survey line more walk = next ls survey rest line more walk e s w in
    let has = least ls n.before n.l n.turn in
    subst (λ k. IsFirstFault ls k kind) (sym (at ∙ ap (λ k. k + 1) n.turn.walk_is.lines)) (at_line n.before n.l n.after kind n.whole n.good has.0 has.1)

-- ---- the end

pub stands_last : (ls : List Laid) (rest : List ℕ) (walk : Walk) → lines_of rest ≡ [] → Stands ls rest walk → EachLine (IsFaultless ls) [] ls × IsWalk ls ls walk
stands_last ls rest walk e w = from w.after w.whole (w.lines ∙ e)
  where
    from : (after : List Laid) → ls ≡ w.before ++ after → map (λ (l : Laid). l.text) after ≡ [] → EachLine (IsFaultless ls) [] ls × IsWalk ls ls walk
    from [] whole h =
        let same : w.before ≡ ls = sym (whole ∙ append-nil w.before) in
        (subst (EachLine (IsFaultless ls) []) same w.good, subst (λ ms. IsWalk ls ms walk) same w.walk_is)
    from (l ∷ after) whole h = cc

-- ---- the begin

-- no header is given among none
pub none_given : (ns : Names) (headers : BTreeSet (ℕ × ℤ)) → headers.keys ≡ [] → (s : Statement) → is_given ns headers s ≡ false
none_given ns headers e s = among_none (header ns s)
  where
    among_none : (h : Option (ℕ × ℤ)) → elim h [ None ↦ false | Some x ↦ contains header_cmp headers x ] ≡ false
    among_none None = refl
    among_none (Some x) = ap (list_any (is_at (header_cmp x))) e

pub lines_none : (text : List ℕ) → text ≡ [] → lines_of text ≡ []
unfolding lines_of
lines_none text e = ap lines_of e
