-- How many bytes lines have: that doesn't hang on the values of names.
use Rattle.std.proofs.Common.{◌≡◌, ℕ, ◌+◌, ◌*◌, ◌/◌, List, [], ◌∷◌, ◌++◌, length, take, drop, refl, sym, ◌∙◌, ap, replicate}
use Rattle.std.proofs.lemmas.List.{length-append, length-take, length-drop}
use Rattle.std.specs.Prelude.{min, ◌-◌}
use Rattle.std.specs.List.{flat_map, fold}
use Rattle.std.specs.Int.{w32, to_le_bytes}
use Rattle.m386_base.specs.Descriptor.{descriptor}
use Rattle.m386_desc.specs.Bytes.{descriptor_bytes}
use Rattle.m386_tss.specs.Fields.{field_at}
use Rattle.m386_words.specs.Expressions.{Expression}
use Rattle.m386_lines.specs.Directives.{Directive, SetsMemory, SetsCpus, SetsGdt, SetsIdt, StartsBare, StartsTask, Plans, Begins, Values, Bytes, Zeros, Describes, Gates, Fields}
use Rattle.m386_lines.specs.Faults.{meaning_of}
use Rattle.m386_lines.specs.Lines.{Statement, Nothing, Assign, Direct, Operate}
use Rattle.m386_asm.specs.Laws.{OperationsKeepLengths}
use Rattle.m386_asm.specs.Layout.{Names, Makes, field_value, with_field, directive_bytes}

values_alike : (ns ms : Names) (w : ℕ) (es : List Expression) →
    length (flat_map (λ e. take (w / 8) (to_le_bytes w32 (field_value ns w e))) es) ≡ length (flat_map (λ e. take (w / 8) (to_le_bytes w32 (field_value ms w e))) es)
values_alike ns ms w [] = refl
values_alike ns ms w (e ∷ es) =
    length-append (take (w / 8) (to_le_bytes w32 (field_value ns w e))) (flat_map (λ e. take (w / 8) (to_le_bytes w32 (field_value ns w e))) es)
    ∙ ap (λ n. n + length (flat_map (λ e. take (w / 8) (to_le_bytes w32 (field_value ns w e))) es)) (same_length (to_le_bytes w32 (field_value ns w e)) (to_le_bytes w32 (field_value ms w e)) refl)
    ∙ ap (λ n. length (take (w / 8) (to_le_bytes w32 (field_value ms w e))) + n) (values_alike ns ms w es)
    ∙ sym (length-append (take (w / 8) (to_le_bytes w32 (field_value ms w e))) (flat_map (λ e. take (w / 8) (to_le_bytes w32 (field_value ms w e))) es))
  where
    same_length : (xs ys : List ℕ) → length xs ≡ length ys → length (take (w / 8) xs) ≡ length (take (w / 8) ys)
    same_length xs ys h = length-take (w / 8) xs ∙ ap (λ n. min (w / 8) n) h ∙ sym (length-take (w / 8) ys)

-- a field written into bytes as many
pieces : (o l : ℕ) (xs ys bs cs : List ℕ) → length xs ≡ length ys → length bs ≡ length cs →
    length (take o xs ++ take l bs ++ drop (o + l) xs) ≡ length (take o ys ++ take l cs ++ drop (o + l) ys)
pieces o l xs ys bs cs h k =
    whole xs bs ∙ ap (λ n. min o n + min l (length bs) + (n - (o + l))) h ∙ ap (λ n. min o (length ys) + min l n + (length ys - (o + l))) k ∙ sym (whole ys cs)
  where
    whole : (xs bs : List ℕ) → length (take o xs ++ take l bs ++ drop (o + l) xs) ≡ min o (length xs) + min l (length bs) + (length xs - (o + l))
    whole xs bs =
        length-append (take o xs ++ take l bs) (drop (o + l) xs)
        ∙ ap (λ n. n + length (drop (o + l) xs)) (length-append (take o xs) (take l bs) ∙ ap (λ n. n + length (take l bs)) (length-take o xs) ∙ ap (λ n. min o (length xs) + n) (length-take l bs))
        ∙ ap (λ n. min o (length xs) + min l (length bs) + n) (length-drop (o + l) xs)

fields_alike : (ns ms : Names) (fs : List (ℕ × Expression)) (xs ys : List ℕ) → length xs ≡ length ys → length (fold (with_field ns) xs fs) ≡ length (fold (with_field ms) ys fs)
fields_alike ns ms [] xs ys h = h
fields_alike ns ms (f ∷ fs) xs ys h =
    let at = field_at f.0 in
    fields_alike ns ms fs (with_field ns xs f) (with_field ms ys f)
    (pieces at.offset at.len xs ys (to_le_bytes w32 (field_value ns (8 * at.len) f.1)) (to_le_bytes w32 (field_value ms (8 * at.len) f.1)) h refl)

eight_alike : (b l a f c m d g : ℕ) → length (descriptor_bytes (descriptor b l a f)) ≡ length (descriptor_bytes (descriptor c m d g))
unfolding descriptor_bytes
eight_alike b l a f c m d g = refl

pub directives_alike : (ns ms : Names) (d : Directive) → length (directive_bytes ns d) ≡ length (directive_bytes ms d)
directives_alike ns ms (SetsMemory e) = refl
directives_alike ns ms (SetsCpus e) = refl
directives_alike ns ms (SetsGdt b l) = refl
directives_alike ns ms (SetsIdt b l) = refl
directives_alike ns ms (StartsBare p e) = refl
directives_alike ns ms (StartsTask p s) = refl
directives_alike ns ms (Plans p s v) = refl
directives_alike ns ms (Begins n) = refl
directives_alike ns ms (Values w es) = values_alike ns ms w es
directives_alike ns ms (Bytes bs) = refl
directives_alike ns ms (Zeros n) = refl
directives_alike ns ms (Describes b l a f) = eight_alike (field_value ns 32 b) (field_value ns 20 l) (field_value ns 8 a) (field_value ns 4 f) (field_value ms 32 b) (field_value ms 20 l) (field_value ms 8 a) (field_value ms 4 f)
directives_alike ns ms (Gates s o a c) = refl
directives_alike ns ms (Fields fs) = fields_alike ns ms fs (replicate 104 0) (replicate 104 0) refl

pub lines_alike : OperationsKeepLengths → (ns ms : Names) (place : ℕ) (s : Statement) (line bytes more : List ℕ) → (meaning_of line).statement ≡ s → Makes ns place s bytes → Makes ms place s more → length bytes ≡ length more
lines_alike keep ns ms place Nothing line bytes more h m o = ap length m ∙ ap length (sym o)
lines_alike keep ns ms place (Assign w n) line bytes more h m o = ap length m ∙ ap length (sym o)
lines_alike keep ns ms place (Direct d) line bytes more h m o = ap length m ∙ directives_alike ns ms d ∙ ap length (sym o)
lines_alike keep ns ms place (Operate i) line bytes more h m o = keep ns ms place i line bytes more h m o
