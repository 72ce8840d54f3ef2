-- A text is laid in one way, and lays out one thing.
use Rattle.std.proofs.Common.{◌≡◌, ℕ, ◌+◌, ◌<◌, true, false, List, [], ◌∷◌, ◌++◌, length, map, refl, sym, ◌∙◌, ap, subst, arith, inl, inr, ◌==◌, append-nil, append_assoc}
use Rattle.std.proofs.lemmas.Bool.Decides.{nat_tests}
use Rattle.std.specs.Prelude.{Ok, Err}
use Rattle.m386_encode.specs.Order.{is_before, is_less}
use Rattle.m386_lines.specs.declared.kind.AsmKind.{AsmKind}
use Rattle.m386_lines.specs.declared.kind.AsmKind.TheVariants as kinds
use Rattle.m386_lines.specs.Lines.{Meaning, Statement, Nothing, Assign, Direct, Operate}
use Rattle.m386_image.specs.Format.{image_text}
use Rattle.m386_asm.specs.Laws.{LaidOnce, LaysOutOnce}
use Rattle.m386_asm.specs.Layout.{Names, Makes, Laid, moved, end_of, names_of, EachLine, IsLaid, IsFaultless, Has, kind_number, lacks_header, IsFirstFault, at_line, at_end, image_of}
use Rattle.m386_asm.proofs.KeptLengths.{operations_keep}
use Rattle.m386_asm.proofs.Sketched.{Sketch, sketch, end_behind, moved_alike, names_alike, sketched}

-- ---- bytes

less_once : (xs ys : List ℕ) → length xs ≡ length ys → is_less xs ys ≡ false → is_less ys xs ≡ false → xs ≡ ys
unfolding is_less
less_once [] [] h p q = refl
less_once [] (y ∷ ys) h p q = absurd (omega (arith, h))
less_once (x ∷ xs) [] h p q = absurd (omega (arith, h))
less_once (x ∷ xs) (y ∷ ys) h p q =
    let head : x ≡ y = grind (arith, nat_tests, p, q) in
    let less : is_less xs ys ≡ false = grind (arith, nat_tests, p, q) in
    let more : is_less ys xs ≡ false = grind (arith, nat_tests, p, q) in
    ap (λ z. z ∷ xs) head ∙ ap (λ zs. y ∷ zs) (less_once xs ys (omega (arith, h)) less more)

before_once : (xs ys : List ℕ) → is_before xs ys ≡ false → is_before ys xs ≡ false → xs ≡ ys
unfolding is_before
before_once xs ys p q =
    let same : length xs ≡ length ys = grind (arith, nat_tests, p, q) in
    let less : is_less xs ys ≡ false = grind (arith, nat_tests, p, q) in
    let more : is_less ys xs ≡ false = grind (arith, nat_tests, p, q) in
    less_once xs ys same less more

pub made_once : (ns : Names) (place : ℕ) (s : Statement) (bytes more : List ℕ) → Makes ns place s bytes → Makes ns place s more → bytes ≡ more
made_once ns place Nothing bytes more m o = m ∙ sym o
made_once ns place (Assign w n) bytes more m o = m ∙ sym o
made_once ns place (Direct d) bytes more m o = m ∙ sym o
made_once ns place (Operate i) bytes more (inl m) (inl o) = before_once bytes more (o.first bytes m.spelling) (m.first more o.spelling)
made_once ns place (Operate i) bytes more (inl m) (inr o) = absurd (o.0 bytes m.spelling)
made_once ns place (Operate i) bytes more (inr m) (inl o) = absurd (m.0 more o.spelling)
made_once ns place (Operate i) bytes more (inr m) (inr o) = m.1 ∙ sym o.1

-- ---- lines

abbrev laid_as : List ℕ → Meaning → List ℕ → Laid
laid_as t m b = record { text = t; meaning = m; bytes = b }

same_laid : (t u : List ℕ) (m n : Meaning) (b c : List ℕ) → t ≡ u → m ≡ n → b ≡ c → laid_as t m b ≡ laid_as u n c
same_laid t u m n b c h i j = ap (λ x. laid_as x m b) h ∙ ap (λ x. laid_as u x b) i ∙ ap (λ x. laid_as u n x) j

lines_once : (ns : Names) (before others : List Laid) (ls rs : List Laid) → end_of before ≡ end_of others → map sketch ls ≡ map sketch rs → EachLine (IsLaid ns) before ls → EachLine (IsLaid ns) others rs → ls ≡ rs
unfolding EachLine
lines_once ns before others [] [] e h p q = refl
lines_once ns before others [] (r ∷ rs) e h p q = cc
lines_once ns before others (l ∷ ls) [] e h p q = cc
lines_once ns before others (l ∷ ls) (r ∷ rs) e h p q =
    let head : sketch l ≡ sketch r = cc in
    let tail : map sketch ls ≡ map sketch rs = cc in
    let text : l.text ≡ r.text = ap (λ (s : Sketch). s.text) head in
    let meaning : l.meaning ≡ r.meaning = ap (λ (s : Sketch). s.meaning) head in
    let made : Makes ns (end_of before) l.meaning.statement r.bytes = subst (λ (m : Meaning). Makes ns (end_of before) m.statement r.bytes) (sym meaning) (subst (λ n. Makes ns n r.meaning.statement r.bytes) (sym e) q.0.bytes) in
    let bytes : l.bytes ≡ r.bytes = made_once ns (end_of before) l.meaning.statement l.bytes r.bytes p.0.bytes made in
    let ends : end_of (before ++ l ∷ []) ≡ end_of (others ++ r ∷ []) = end_behind before l ∙ moved_alike (end_of before) l r head ∙ ap (λ n. moved n r) e ∙ sym (end_behind others r) in
    ap (λ x. x ∷ ls) (same_laid l.text r.text l.meaning r.meaning l.bytes r.bytes text meaning bytes) ∙ ap (λ xs. r ∷ xs) (lines_once ns (before ++ l ∷ []) (others ++ r ∷ []) ls rs ends tail p.1 q.1)

pub laid_once : LaidOnce
laid_once text ls ms p q =
    let same : map sketch ls ≡ map sketch ms = sketched operations_keep (names_of ls) (names_of ms) [] [] ls ms refl (p.lines ∙ sym q.lines) p.laid q.laid in
    lines_once (names_of ls) [] [] ls ms refl same p.laid (subst (λ ns. EachLine (IsLaid ns) [] ms) (sym (names_alike 0 ls ms same)) q.laid)

-- ---- answers

kind_of : ℕ → AsmKind
kind_of n = elim (n == 1) [
  | true ↦ kinds.Ascii
  | false ↦ elim (n == 2) [
    | true ↦ kinds.Token
    | false ↦ elim (n == 3) [
      | true ↦ kinds.Number
      | false ↦ elim (n == 4) [
        | true ↦ kinds.Mnemonic
        | false ↦
            elim (n == 5) [
              | true ↦ kinds.Operands
              | false ↦ elim (n == 6) [
                | true ↦ kinds.UnknownName
                | false ↦ elim (n == 7) [
                  | true ↦ kinds.NameTwice
                  | false ↦
                      elim (n == 8) [
                        | true ↦ kinds.Directive
                        | false ↦ elim (n == 9) [
                          | true ↦ kinds.Arguments
                          | false ↦ elim (n == 10) [
                            | true ↦ kinds.HeaderTwice
                            | false ↦
                                elim (n == 11) [ true ↦ kinds.HeaderMissing | false ↦ elim (n == 12) [ true ↦ kinds.Range | false ↦ elim (n == 13) [ true ↦ kinds.Overlap | false ↦ kinds.PlanOrder ] ] ]
                          ]
                        ]
                      ]
                ]
              ]
            ]
      ]
    ]
  ]
]

kind_by_number : (k : AsmKind) → kind_of (kind_number k) ≡ k
unfolding kind_of
kind_by_number kinds.Ascii = refl
kind_by_number kinds.Token = refl
kind_by_number kinds.Number = refl
kind_by_number kinds.Mnemonic = refl
kind_by_number kinds.Operands = refl
kind_by_number kinds.UnknownName = refl
kind_by_number kinds.NameTwice = refl
kind_by_number kinds.Directive = refl
kind_by_number kinds.Arguments = refl
kind_by_number kinds.HeaderTwice = refl
kind_by_number kinds.HeaderMissing = refl
kind_by_number kinds.Range = refl
kind_by_number kinds.Overlap = refl
kind_by_number kinds.PlanOrder = refl

pub same_number : (k j : AsmKind) → kind_number k ≡ kind_number j → k ≡ j
same_number k j e = sym (kind_by_number k) ∙ ap kind_of e ∙ kind_by_number j

least_once : (ls before : List Laid) (l : Laid) (k j : AsmKind) → Has ls before l k → ((other : AsmKind) → kind_number other < kind_number k → ¬ Has ls before l other) →
    Has ls before l j → ((other : AsmKind) → kind_number other < kind_number j → ¬ Has ls before l other) → k ≡ j
least_once ls before l k j h m i n =
    let one : kind_number k ≡ kind_number j = grind (arith, m j, n k) in
    same_number k j one

-- how two places in one list stand
data Splits (before : List Laid) (l : Laid) (others : List Laid) (r : Laid) : Type 0 where
  same : before ≡ others → l ≡ r → Splits before l others r
  first : (rest : List Laid) → others ≡ before ++ l ∷ rest → Splits before l others r
  later : (rest : List Laid) → before ≡ others ++ r ∷ rest → Splits before l others r

splits : (before : List Laid) (l : Laid) (after others : List Laid) (r : Laid) (rest : List Laid) → before ++ l ∷ after ≡ others ++ r ∷ rest → Splits before l others r
splits [] l after [] r rest e = same refl cc
splits [] l after (o ∷ others) r rest e = first others (let h : l ≡ o = cc in ap (λ x. x ∷ others) (sym h))
splits (b ∷ before) l after [] r rest e = later before (let h : b ≡ r = cc in ap (λ x. x ∷ before) h)
splits (b ∷ before) l after (o ∷ others) r rest e =
    let head : b ≡ o = cc in
    let tail : before ++ l ∷ after ≡ others ++ r ∷ rest = cc in
    more head (splits before l after others r rest tail)
  where
    more : b ≡ o → Splits before l others r → Splits (b ∷ before) l (o ∷ others) r
    more h (same p q) = same (ap (λ x. x ∷ before) h ∙ ap (λ xs. o ∷ xs) p) q
    more h (first rest p) = first rest (ap (λ xs. o ∷ xs) p ∙ ap (λ x. x ∷ before ++ l ∷ rest) (sym h))
    more h (later rest p) = later rest (ap (λ xs. b ∷ xs) p ∙ ap (λ x. x ∷ others ++ r ∷ rest) h)

-- what each line has, one among them has
among : (P : List Laid → Laid → Type 0) (front before : List Laid) (l : Laid) (after : List Laid) → EachLine P front (before ++ l ∷ after) → P (front ++ before) l
unfolding EachLine
among P front [] l after p = subst (λ f. P f l) (sym (append-nil front)) p.0
among P front (b ∷ before) l after p = subst (λ f. P f l) (append_assoc front (b ∷ []) before) (among P (front ++ b ∷ []) before l after p.1)

fault_once : (ls : List Laid) (n m : ℕ) (k j : AsmKind) → IsFirstFault ls n k → IsFirstFault ls m j → (n ≡ m) × (k ≡ j)
fault_once ls n m k j (at_line before l after kind e f h least) (at_line others r rest other e' f' h' least') = placed (splits before l after others r rest (sym e ∙ e'))
  where
    placed : Splits before l others r → (length before + 1 ≡ length others + 1) × (kind ≡ other)
    placed (same p q) = (
      ap (λ xs. length xs + 1) p,
      least_once ls before l kind other h least (subst (λ x. Has ls before x other) (sym q) (subst (λ xs. Has ls xs r other) (sym p) h'))
          (λ x s t. least' x s (subst (λ xs. Has ls xs r x) p (subst (λ y. Has ls before y x) q t))),
    )
    placed (first rest p) = absurd (among (IsFaultless ls) [] before l rest (subst (EachLine (IsFaultless ls) []) p f') kind h)
    placed (later rest p) = absurd (among (IsFaultless ls) [] others r rest (subst (EachLine (IsFaultless ls) []) p f) other h')
fault_once ls n m k j (at_line before l after kind e f h least) (at_end f' lacks) = absurd (among (IsFaultless ls) [] before l after (subst (EachLine (IsFaultless ls) []) e f') kind h)
fault_once ls n m k j (at_end f' lacks) (at_line before l after kind e f h least) = absurd (among (IsFaultless ls) [] before l after (subst (EachLine (IsFaultless ls) []) e f') kind h)
fault_once ls n m k j (at_end f lacks) (at_end g lacks') = (refl, refl)

not_faulty : (ls : List Laid) (n : ℕ) (k : AsmKind) → EachLine (IsFaultless ls) [] ls → lacks_header ls ≡ false → IsFirstFault ls n k → ⊥
not_faulty ls n k p q (at_line before l after kind e f h least) = among (IsFaultless ls) [] before l after (subst (EachLine (IsFaultless ls) []) e p) kind h
not_faulty ls n k p q (at_end f lacks) = cc

abbrev pair : ℕ → AsmKind → ℕ × AsmKind
pair n k = (n, k)

same_pair : (n m : ℕ) (k j : AsmKind) → n ≡ m → k ≡ j → pair n k ≡ pair m j
same_pair n m k j p q = ap (λ x. pair x k) p ∙ ap (λ x. pair m x) q

pub lays_out_once : LaysOutOnce
lays_out_once text (Ok bytes) (Ok more) p q = ap Ok (p.4 ∙ ap (λ ls. image_text (image_of ls)) (laid_once text p.0 q.0 p.1 q.1) ∙ sym q.4)
lays_out_once text (Ok bytes) (Err fault) p q = absurd (not_faulty p.0 fault.0 fault.1 p.2 p.3 (subst (λ ls. IsFirstFault ls fault.0 fault.1) (laid_once text q.0 p.0 q.1 p.1) q.2))
lays_out_once text (Err fault) (Ok bytes) p q = absurd (not_faulty q.0 fault.0 fault.1 q.2 q.3 (subst (λ ls. IsFirstFault ls fault.0 fault.1) (laid_once text p.0 q.0 p.1 q.1) p.2))
lays_out_once text (Err fault) (Err other) p q =
    let same : (fault.0 ≡ other.0) × (fault.1 ≡ other.1) = fault_once q.0 fault.0 other.0 fault.1 other.1 (subst (λ ls. IsFirstFault ls fault.0 fault.1) (laid_once text p.0 q.0 p.1 q.1) p.2) q.2 in
    ap Err (same_pair fault.0 other.0 fault.1 other.1 same.0 same.1)
