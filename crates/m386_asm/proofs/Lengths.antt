-- How many bytes a directive has, whatever the names.
use Rattle.std.proofs.Common.{◌≡◌, ℕ, zero, suc, ◌+◌, ◌*◌, ◌/◌, ◌≤◌, Bool, true, ◌&&◌, List, [], ◌∷◌, ◌++◌, length, take, drop, map, get_or, replicate, refl, ap, ◌∙◌, arith, leb-true}
use Rattle.std.specs.Prelude.{nat_le}
use Rattle.std.specs.List.{list_all, fold}
use Rattle.std.specs.Int.{w32, to_le_bytes}
use Rattle.std.proofs.lemmas.List.{length-append, length-take, length-drop, length-map}
use Rattle.std.proofs.lemmas.Bool.{and_parts}
use Rattle.m386_base.specs.declared.number.Width.{Width}
use Rattle.m386_base.specs.declared.number.Width.TheVariants.{W8, W16, W32}
use Rattle.m386_desc.specs.Bytes.{descriptor_bytes}
use Rattle.m386_opmap.specs.Forms.{width_bits}
use Rattle.m386_tss.specs.declared.fields.Field.{Field}
use Rattle.m386_tss.specs.Fields.{field, field_at, field_table}
use Rattle.m386_words.specs.declared.expression.Expression.{Expression as SeenExpression}
use Rattle.m386_words.specs.Expressions.{Expression}
use Rattle.m386_words.specs.Seen.{expression_seen}
use Rattle.m386_lines.specs.Directives.{Describes, Fields, Gates, Values}
use Rattle.m386_asm.specs.Layout.{Names, directive_bytes, field_value, with_field}

length_values : (ns : Names) (w : Width) (es : List Expression) → length (directive_bytes ns (Values (width_bits w) es)) ≡ width_bits w / 8 * length es
length_values ns W8 [] = refl
length_values ns W16 [] = refl
length_values ns W32 [] = refl
length_values ns W8 (e ∷ es) = omega (arith, length_values ns W8 es)
length_values ns W16 (e ∷ es) = omega (arith, length_values ns W16 es)
length_values ns W32 (e ∷ es) = omega (arith, length_values ns W32 es)

-- the same, of what the code has
pub length_seen : (ns : Names) (w : Width) (es slice : List SeenExpression) (n : ℕ) → n ≡ width_bits w / 8 → slice ≡ es → length (directive_bytes ns (Values (width_bits w) (map expression_seen es))) ≡ n * length slice
length_seen ns w es slice n e f = rw (e, f) (length_values ns w (map expression_seen es) ∙ ap (λ k. width_bits w / 8 * k) (length-map es expression_seen))

pub length_descriptor : (ns : Names) (b l a f : Expression) → length (directive_bytes ns (Describes b l a f)) ≡ 8
unfolding descriptor_bytes
length_descriptor ns b l a f = refl

pub length_gate : (ns : Names) (s o a c : Expression) → length (directive_bytes ns (Gates s o a c)) ≡ 8
length_gate ns s o a c = refl

-- ---- a task state segment

-- a field is in the segment, and has up to four bytes
is_inside : Field → Bool
is_inside f = nat_le (f.offset + f.len) 104 && nat_le f.len 4

inside_among : (fs : List Field) (n : ℕ) → list_all is_inside fs ≡ true → is_inside (get_or fs n (field 0 0 0)) ≡ true
unfolding is_inside
inside_among [] n h = refl
inside_among (f ∷ fs) zero h = (and_parts (is_inside f) _ h).0
inside_among (f ∷ fs) (suc n) h = inside_among fs n (and_parts (is_inside f) _ h).1

inside : (n : ℕ) → is_inside (field_at n) ≡ true
unfolding is_inside field_at
inside n = inside_among field_table n refl

written_length : (at len : ℕ) (bytes value : List ℕ) → length bytes ≡ 104 → length value ≡ 4 → at + len ≤ 104 → len ≤ 4 → length (take at bytes ++ take len value ++ drop (at + len) bytes) ≡ 104
written_length at len bytes value h v i j =
    rw (length-append (take at bytes ++ take len value) (drop (at + len) bytes), length-append (take at bytes) (take len value), length-take at bytes, length-take len value, length-drop (at + len) bytes, h, v) (omega (arith, i, j))

with_field_length : (ns : Names) (bytes : List ℕ) (f : ℕ × Expression) → length bytes ≡ 104 → length (with_field ns bytes f) ≡ 104
unfolding is_inside
with_field_length ns bytes f h =
    let at = field_at f.0 in
    let parts = and_parts (nat_le (at.offset + at.len) 104) _ (inside f.0) in
    written_length at.offset at.len bytes (to_le_bytes w32 (field_value ns (8 * at.len) f.1)) h refl (leb-true _ _ parts.0) (leb-true _ _ parts.1)

fields_length : (ns : Names) (bytes : List ℕ) (fs : List (ℕ × Expression)) → length bytes ≡ 104 → length (fold (with_field ns) bytes fs) ≡ 104
fields_length ns bytes [] h = h
fields_length ns bytes (f ∷ fs) h = fields_length ns (with_field ns bytes f) fs (with_field_length ns bytes f h)

pub length_task : (ns : Names) (fs : List (ℕ × Expression)) → length (directive_bytes ns (Fields fs)) ≡ 104
length_task ns fs = fields_length ns (replicate 104 0) fs refl

pub ruleset lengths = (length_gate, length_task)
