-- What a line's own kinds are, one test behind the other.
use Rattle.std.proofs.Common.{◌≡◌, ℕ, zero, suc, ◌+◌, ◌<◌, ◌≤◌, Bool, true, false, ◌&&◌, cond, List, [], ◌∷◌, length, drop, get_or, map, refl, sym, ◌∙◌, ap, arith}
use Rattle.std.specs.Prelude.{Option, None, Some, Result, Ok, Err, ◌||◌, is_some, if◌then◌else◌}
use Rattle.std.specs.List.{list_any}
use Rattle.m386_words.specs.declared.token.Token.{Token as SeenToken}
use Rattle.m386_words.specs.Text.{Token, tokens_of, solid}
use Rattle.m386_words.specs.Tokens.{seen}
use Rattle.m386_lines.specs.declared.kind.AsmKind.{AsmKind}
use Rattle.m386_lines.specs.declared.kind.AsmKind.TheVariants as kinds
use Rattle.m386_lines.specs.declared.line.Statement.{Statement as SeenStatement}
use Rattle.m386_lines.specs.Faults.{has_strange_byte, is_strange, is_wrong_number, has_numbers, own_kind, first_of, meaning_from, meaning_of, judged, judged_line}
use Rattle.m386_lines.specs.Judged.{token_kinds, kind_or, judged_shape, judged_tokens, judgement_seen}
use Rattle.m386_lines.specs.Lines.{Statement, Meaning, shape_of, statement_of, statement_in, label_of, is_dotted, behind_dot}

-- a test of the tokens that are seen
pub any_seen : (p : Token → Bool) (ts : List SeenToken) → list_any p (map seen ts) ≡ list_any (λ t. p (seen t)) ts
any_seen p [] = refl
any_seen p (t ∷ ts) = ap (λ b. p (seen t) || b) (any_seen p ts)

-- ---- what stands behind a directive's word

-- what is left, by its first
parts : (i : ℕ) (ts : List SeenToken) (d : SeenToken) → i < length ts → drop i ts ≡ get_or ts i d ∷ drop (i + 1) ts
parts i [] d h = absurd (omega (arith, h))
parts zero (t ∷ ts) d h = refl
parts (suc i) (t ∷ ts) d h = let q : suc i + 1 ≡ suc (i + 1) = omega arith in rw q (parts i ts d (omega (arith, h)))

behind_first : (t : Token) (ts : List Token) (b : Bool) → is_dotted t ≡ b → behind_dot (t ∷ ts) ≡ cond b ts (behind_dot ts)
unfolding behind_dot
behind_first t ts b h = rw h refl

-- what stands behind the dotted word, of the tokens that are left
abbrev pub left_behind : ℕ → List SeenToken → List Token
left_behind i ts = behind_dot (map seen (drop i ts))

pub dot_found : (i : ℕ) (ts : List SeenToken) (d : SeenToken) → i < length ts → is_dotted (seen (get_or ts i d)) ≡ true → left_behind i ts ≡ map seen (drop (i + 1) ts)
dot_found i ts d h e = ap (λ us. behind_dot (map seen us)) (parts i ts d h) ∙ behind_first (seen (get_or ts i d)) (map seen (drop (i + 1) ts)) true e

pub dot_later : (i : ℕ) (ts : List SeenToken) (d : SeenToken) → i < length ts → is_dotted (seen (get_or ts i d)) ≡ false → left_behind (i + 1) ts ≡ left_behind i ts
dot_later i ts d h e = sym (ap (λ us. behind_dot (map seen us)) (parts i ts d h) ∙ behind_first (seen (get_or ts i d)) (map seen (drop (i + 1) ts)) false e)

pub no_dot : (i : ℕ) (ts : List SeenToken) → length ts ≤ i → left_behind i ts ≡ []
unfolding behind_dot
no_dot zero [] h = refl
no_dot (suc i) [] h = refl
no_dot zero (t ∷ ts) h = absurd (omega (arith, h))
no_dot (suc i) (t ∷ ts) h = no_dot i ts (omega (arith, h))

pub none_left : (ts : List SeenToken) (n : ℕ) → length ts ≤ n → drop n ts ≡ []
none_left [] zero h = refl
none_left [] (suc n) h = refl
none_left (t ∷ ts) zero h = absurd (omega (arith, h))
none_left (t ∷ ts) (suc n) h = none_left ts n (omega (arith, h))

pub ruleset dots = (dot_found, dot_later, no_dot, none_left)

-- ---- the kinds of tokens, in their order

strange_by : (ts : List Token) → list_any is_strange ts ≡ true → judged_tokens ts ≡ Err kinds.Token
unfolding judged_tokens first_of
strange_by ts h = rw h refl

number_by : (ts : List Token) → list_any is_strange ts ≡ false → has_numbers (shape_of (solid ts)) ≡ true → list_any is_wrong_number ts ≡ true → judged_tokens ts ≡ Err kinds.Number
unfolding judged_tokens first_of
number_by ts h n w = rw h (rw n (rw w refl))

plain_by : (ts : List Token) → list_any is_strange ts ≡ false → has_numbers (shape_of (solid ts)) && list_any is_wrong_number ts ≡ false → judged_tokens ts ≡ judged_shape ts (shape_of (solid ts))
unfolding judged_tokens judged_shape first_of
plain_by ts h n = rw h (rw n refl)

pub strange_token : (ts : List SeenToken) → list_any (λ t. is_strange (seen t)) ts ≡ true → judged_tokens (map seen ts) ≡ Err kinds.Token
strange_token ts h = strange_by (map seen ts) (any_seen is_strange ts ∙ h)

pub wrong_number : (ts : List SeenToken) → list_any (λ t. is_strange (seen t)) ts ≡ false → has_numbers (shape_of (solid (map seen ts))) ≡ true → list_any (λ t. is_wrong_number (seen t)) ts ≡ true →
    judged_tokens (map seen ts) ≡ Err kinds.Number
wrong_number ts h n w = number_by (map seen ts) (any_seen is_strange ts ∙ h) n (any_seen is_wrong_number ts ∙ w)

no_numbers : (b c : Bool) → b ≡ false → b && c ≡ false
no_numbers true c h = (let t : true ≡ false = h in cc)
no_numbers false c h = refl

numbers_right : (b c : Bool) → c ≡ false → b && c ≡ false
numbers_right true c h = h
numbers_right false c h = refl

-- the tokens are the digits of `.hex`
pub by_digits : (ts : List SeenToken) → list_any (λ t. is_strange (seen t)) ts ≡ false → has_numbers (shape_of (solid (map seen ts))) ≡ false →
    judged_tokens (map seen ts) ≡ judged_shape (map seen ts) (shape_of (solid (map seen ts)))
by_digits ts h n = plain_by (map seen ts) (any_seen is_strange ts ∙ h) (no_numbers (has_numbers (shape_of (solid (map seen ts)))) (list_any is_wrong_number (map seen ts)) n)

-- each word that begins with a digit is a number
pub by_numbers : (ts : List SeenToken) → list_any (λ t. is_strange (seen t)) ts ≡ false → list_any (λ t. is_wrong_number (seen t)) ts ≡ false →
    judged_tokens (map seen ts) ≡ judged_shape (map seen ts) (shape_of (solid (map seen ts)))
by_numbers ts h w = plain_by (map seen ts) (any_seen is_strange ts ∙ h) (numbers_right (has_numbers (shape_of (solid (map seen ts)))) (list_any is_wrong_number (map seen ts)) (any_seen is_wrong_number ts ∙ w))

pub ruleset token_rules = (strange_token, wrong_number, by_digits, by_numbers)

-- ---- the line

pub strange_line : (line : List ℕ) → has_strange_byte line ≡ true → judged_line line ≡ Err kinds.Ascii
unfolding judged_line own_kind first_of
strange_line line h = rw h refl

same_statement : (s t : Statement) → kind_or None (Some s) ≡ kind_or None (Some t) → s ≡ t
same_statement s t h = cc

same_kind : (k l : AsmKind) (o : Option Statement) → kind_or (Some k) o ≡ kind_or (Some l) o → k ≡ l
same_kind k l o h = cc

-- what a line without a strange byte means, by its tokens
said_by : (k : Option AsmKind) (o : Option Statement) (label : Option (List ℕ)) (s : Statement) → Ok (Some s) ≡ kind_or k o →
    Ok (record { label = label; statement = s }) ≡ judged k (meaning_from label (if is_some k then None else o))
said_by (Some kind) o label s h = cc
said_by None None label s h = cc
said_by None (Some t) label s h = ap (λ (x : Statement). judged None (record { label = label; statement = x })) (same_statement s t h)

pub said : (line : List ℕ) (s : Statement) → has_strange_byte line ≡ false → Ok (Some s) ≡ judged_tokens (tokens_of line) →
    Ok (record { label = label_of (solid (tokens_of line)); statement = s }) ≡ judged_line line
unfolding judged_line own_kind meaning_of statement_in judged_tokens first_of
said line s h e = rw h (said_by (first_of (token_kinds (tokens_of line))) (statement_of (tokens_of line) (shape_of (solid (tokens_of line)))) (label_of (solid (tokens_of line))) s e)

-- a kind that its tokens have
told_by : (k : Option AsmKind) (o : Option Statement) (kind : AsmKind) (m : Meaning) → Err kind ≡ kind_or k o → Err kind ≡ judged k m
told_by (Some other) o kind m h = ap (λ (k : AsmKind). judged (Some k) m) (same_kind kind other o h)
told_by None o kind m h = cc

told_plain : (line : List ℕ) (kind : AsmKind) → has_strange_byte line ≡ false → Err kind ≡ judged_tokens (tokens_of line) → Err kind ≡ judged_line line
unfolding judged_line own_kind judged_tokens first_of
told_plain line kind h e = rw h (told_by (first_of (token_kinds (tokens_of line))) (statement_of (tokens_of line) (shape_of (solid (tokens_of line)))) kind (meaning_of line) e)

pub told : (line : List ℕ) (kind : AsmKind) (ts : List SeenToken) (j : Result SeenStatement AsmKind) → has_strange_byte line ≡ false → map seen ts ≡ tokens_of line →
    judgement_seen j ≡ judged_tokens (map seen ts) → j ≡ Err kind → Err kind ≡ judged_line line
told line kind ts j h t e f = told_plain line kind h (sym (ap judgement_seen f) ∙ e ∙ ap judged_tokens t)

pub ruleset line_rules = (strange_line, said)
