-- Lines without their bytes: where they stand and which names they define.
use Rattle.std.proofs.Common.{◌≡◌, ℕ, ◌+◌, List, [], ◌∷◌, ◌++◌, length, map, refl, sym, ◌∙◌, ap, subst, Option}
use Rattle.std.proofs.lemmas.List.Sums.{fold-append}
use Rattle.m386_lines.specs.Directives.{Directive, SetsMemory, SetsCpus, SetsGdt, SetsIdt, StartsBare, StartsTask, Plans, Begins, Values, Bytes, Zeros, Describes, Gates, Fields}
use Rattle.m386_lines.specs.Lines.{Meaning, Statement, Nothing, Assign, Direct, Operate}
use Rattle.m386_lines.specs.Faults.{meaning_of}
use Rattle.m386_asm.specs.Laws.{OperationsKeepLengths}
use Rattle.m386_asm.specs.Layout.{Names, Makes, Laid, moved, end_of, wrapped, defined, names_from, EachLine, IsLaid}
use Rattle.m386_asm.proofs.Alike.{lines_alike}

pub record Sketch : Type 0 where
  pub text : List ℕ
  pub meaning : Meaning
  pub len : ℕ

abbrev pub sketch : Laid → Sketch
sketch l = record { text = l.text; meaning = l.meaning; len = length l.bytes }

-- where the next line begins, by a statement and how many bytes it has
abbrev pub moved_by : ℕ → Statement → ℕ → ℕ
moved_by place Nothing n = place
moved_by place (Assign w v) n = place
moved_by place (Direct d) n = after d
  where
    after : Directive → ℕ
    after (Begins v) = wrapped 32 v
    after _ = place + n
moved_by place (Operate i) n = place + n

moved_with : (place : ℕ) (text : List ℕ) (label : Option (List ℕ)) (bytes : List ℕ) (s : Statement) →
    moved place (record { text = text; meaning = record { label = label; statement = s }; bytes = bytes }) ≡ moved_by place s (length bytes)
moved_with place text label bytes Nothing = refl
moved_with place text label bytes (Assign w v) = refl
moved_with place text label bytes (Operate i) = refl
moved_with place text label bytes (Direct (SetsMemory e)) = refl
moved_with place text label bytes (Direct (SetsCpus e)) = refl
moved_with place text label bytes (Direct (SetsGdt b l)) = refl
moved_with place text label bytes (Direct (SetsIdt b l)) = refl
moved_with place text label bytes (Direct (StartsBare p e)) = refl
moved_with place text label bytes (Direct (StartsTask p s)) = refl
moved_with place text label bytes (Direct (Plans p s v)) = refl
moved_with place text label bytes (Direct (Begins n)) = refl
moved_with place text label bytes (Direct (Values w es)) = refl
moved_with place text label bytes (Direct (Bytes bs)) = refl
moved_with place text label bytes (Direct (Zeros n)) = refl
moved_with place text label bytes (Direct (Describes b l a f)) = refl
moved_with place text label bytes (Direct (Gates s o a c)) = refl
moved_with place text label bytes (Direct (Fields fs)) = refl

pub moved_as : (place : ℕ) (l : Laid) → moved place l ≡ moved_by place l.meaning.statement (length l.bytes)
moved_as place l = moved_with place l.text l.meaning.label l.bytes l.meaning.statement

pub moved_alike : (place : ℕ) (l m : Laid) → sketch l ≡ sketch m → moved place l ≡ moved place m
moved_alike place l m h = moved_as place l ∙ ap (λ (s : Sketch). moved_by place s.meaning.statement s.len) h ∙ sym (moved_as place m)

pub end_behind : (before : List Laid) (l : Laid) → end_of (before ++ l ∷ []) ≡ moved (end_of before) l
end_behind before l = fold-append moved 0 before (l ∷ [])

-- the names hang on the sketches alone
pub names_alike : (place : ℕ) (ls ms : List Laid) → map sketch ls ≡ map sketch ms → names_from place ls ≡ names_from place ms
unfolding names_from
names_alike place [] [] h = refl
names_alike place [] (m ∷ ms) h = cc
names_alike place (l ∷ ls) [] h = cc
names_alike place (l ∷ ls) (m ∷ ms) h =
    let head : sketch l ≡ sketch m = cc in
    let tail : map sketch ls ≡ map sketch ms = cc in
    let e : moved place l ≡ moved place m = moved_alike place l m head in
    ap (λ (s : Sketch). defined place s.meaning ++ names_from (moved place l) ls) head ∙ ap (λ p. defined place m.meaning ++ names_from p ls) e ∙ ap (λ ns. defined place m.meaning ++ ns) (names_alike (moved place m) ls ms tail)

abbrev sketch_of : List ℕ → Meaning → ℕ → Sketch
sketch_of t m n = record { text = t; meaning = m; len = n }

same_sketch : (t u : List ℕ) (m o : Meaning) (n k : ℕ) → t ≡ u → m ≡ o → n ≡ k → sketch_of t m n ≡ sketch_of u o k
same_sketch t u m o n k a b c = ap (λ x. sketch_of x m n) a ∙ ap (λ x. sketch_of u x n) b ∙ ap (λ x. sketch_of u o x) c

-- lines that are laid by any names have the sketches of others of the same text
pub sketched : OperationsKeepLengths → (ns ms : Names) (before others : List Laid) (ls rs : List Laid) → end_of before ≡ end_of others → map (λ (l : Laid). l.text) ls ≡ map (λ (l : Laid). l.text) rs →
    EachLine (IsLaid ns) before ls → EachLine (IsLaid ms) others rs → map sketch ls ≡ map sketch rs
unfolding EachLine
sketched keep ns ms before others [] [] e t p q = refl
sketched keep ns ms before others [] (r ∷ rs) e t p q = cc
sketched keep ns ms before others (l ∷ ls) [] e t p q = cc
sketched keep ns ms before others (l ∷ ls) (r ∷ rs) e t p q =
    let text : l.text ≡ r.text = cc in
    let texts : map (λ (l : Laid). l.text) ls ≡ map (λ (l : Laid). l.text) rs = cc in
    let meaning : l.meaning ≡ r.meaning = p.0.meaning ∙ ap meaning_of text ∙ sym q.0.meaning in
    let made : Makes ms (end_of before) l.meaning.statement r.bytes = subst (λ (m : Meaning). Makes ms (end_of before) m.statement r.bytes) (sym meaning) (subst (λ n. Makes ms n r.meaning.statement r.bytes) (sym e) q.0.bytes) in
    let len : length l.bytes ≡ length r.bytes = lines_alike keep ns ms (end_of before) l.meaning.statement l.text l.bytes r.bytes (sym (ap (λ (m : Meaning). m.statement) p.0.meaning)) p.0.bytes made in
    let head : sketch l ≡ sketch r = same_sketch l.text r.text l.meaning r.meaning (length l.bytes) (length r.bytes) text meaning len in
    let ends : end_of (before ++ l ∷ []) ≡ end_of (others ++ r ∷ []) = end_behind before l ∙ moved_alike (end_of before) l r head ∙ ap (λ n. moved n r) e ∙ sym (end_behind others r) in
    ap (λ s. s ∷ map sketch ls) head ∙ ap (λ ss. sketch r ∷ ss) (sketched keep ns ms (before ++ l ∷ []) (others ++ r ∷ []) ls rs ends texts p.1 q.1)
