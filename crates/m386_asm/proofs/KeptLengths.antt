-- An instruction's bytes are as many by any names.
use Rattle.std.proofs.Common.{◌≡◌, ℕ, ◌+◌, ◌-◌, ◌<◌, ◌≤◌, inl, inr, Bool, true, false, cond, List, [], ◌∷◌, ◌++◌, map, length, length-append, refl, sym, ◌∙◌, ap, arith, subst, nat_lt, ◌&&◌, ◌||◌, not}
use Rattle.std.specs.Prelude.{Option, Some, None, is_some, slice_index, ◌==◌}
use Rattle.std.specs.List.{All, list_all, list_any, flat_map}
use Rattle.std.proofs.lemmas.Bool.{and_parts, both_ways, cases_Bool, not-true}
use Rattle.std.proofs.lemmas.List.Sums.{AllPass-from_list_all}
use Rattle.std.proofs.lemmas.List.Elements.{All-nil, All-cons, All-head, All-tail, All-map, All-contains}
use denote.Enum.Bare.{sameb, true_same}
use Rattle.m386_base.specs.declared.number.Width.{Width}
use Rattle.m386_base.specs.declared.number.Width.TheVariants.{W8, W16, W32}
use Rattle.m386_opmap.specs.contracts.row.Operand.{the_type as operands}
use Rattle.m386_opmap.specs.declared.op.Arg.{Arg}
use Rattle.m386_opmap.specs.declared.op.Op.{Op}
use Rattle.m386_opmap.specs.declared.row.Operand.{Operand}
use Rattle.m386_opmap.specs.declared.row.Operand.TheVariants.{Absent, Jb}
use Rattle.m386_opmap.specs.declared.row.Row.{Row}
use Rattle.m386_opmap.specs.Opcodes.{opcode_rows}
use Rattle.m386_opmap.specs.Operands.{has_modrm, operand_length, width_of}
use Rattle.m386_opmap.specs.Prefix.{is_prefix}
use Rattle.m386_opmap.specs.Spelling.{Spells, opcode_bytes}
use Rattle.m386_encode.specs.Renumbered.{IsRenumbered, blank}
use Rattle.m386_encode.specs.Wide.{is_always_near, is_brief, is_full, IsWide}
use Rattle.m386_encode.proofs.AlikeRows.{IsAmong, Like, kind_of, like_among, like_rows, may_be, same_operand}
use Rattle.m386_encode.proofs.AlikeTails.{Draws, IsSmall, sort}
use Rattle.m386_encode.proofs.Chosen.{row_named}
use Rattle.m386_encode.proofs.Fuller.{near_stays}
use Rattle.m386_encode.proofs.Ordered.{not_longer}
use Rattle.m386_encode.proofs.RowParts.{is_absent}
use Rattle.m386_encode.proofs.WideLength.{WideLike, full_parts, numbers_again}
use Rattle.m386_lines.specs.Instructions.{Argument, Fixed, Immediate, Target, Far, At, Instruction, may_be_narrow, operands_of, same_width}
use Rattle.m386_lines.specs.Lines.{Operate}
use Rattle.m386_words.specs.Expressions.{Expression}
use Rattle.m386_asm.specs.Layout.{Names, Makes, IsSpelling, IsSpelledBy, arg_at, arg_fields, op_at, name_value, is_target, has_target, is_named}
use Rattle.m386_asm.specs.Laws.{OperationsKeepLengths}
use Rattle.m386_asm.proofs.Arguments.{Comes, come_all, is_near, is_wide}
use Rattle.m386_asm.proofs.LineBytes.{either_false}
use Rattle.m386_asm.proofs.Matched.{Matched, meant}
use Rattle.m386_asm.proofs.Spellings.{tail_is, form_size, opcode_size, bare_prefixes}

-- ---- without names

name_stays : (ns ms : Names) (o : Option (List ℕ)) → is_some o ≡ false → name_value ns o ≡ name_value ms o
name_stays ns ms None h = refl
name_stays ns ms (Some w) h = cc

abbrev has_name : ℕ × Expression → Bool
has_name f = is_some f.1.name

arguments_stay : (ns ms : Names) (end : ℕ) (xs : List Argument) → list_any has_name (flat_map arg_fields xs) ≡ false → map (arg_at ns end) xs ≡ map (arg_at ms end) xs
arguments_stay ns ms end [] h = refl
arguments_stay ns ms end (Fixed a ∷ xs) h = rw (arguments_stay ns ms end xs h) refl
arguments_stay ns ms end (Immediate w e ∷ xs) h =
    let p = either_false (is_some e.name) (list_any has_name (flat_map arg_fields xs)) h in
    rw (name_stays ns ms e.name p.0, arguments_stay ns ms end xs p.1) refl
arguments_stay ns ms end (Target e ∷ xs) h =
    let p = either_false (is_some e.name) (list_any has_name (flat_map arg_fields xs)) h in
    rw (name_stays ns ms e.name p.0, arguments_stay ns ms end xs p.1) refl
arguments_stay ns ms end (Far s o ∷ xs) h =
    let p = either_false (is_some s.name) (is_some o.name || list_any has_name (flat_map arg_fields xs)) h in
    let q = either_false (is_some o.name) (list_any has_name (flat_map arg_fields xs)) p.1 in
    rw (name_stays ns ms s.name p.0, name_stays ns ms o.name q.0, arguments_stay ns ms end xs q.1) refl
arguments_stay ns ms end (At a ∷ xs) h =
    let p = either_false (is_some a.offset.name) (list_any has_name (flat_map arg_fields xs)) h in
    rw (name_stays ns ms a.offset.name p.0, arguments_stay ns ms end xs p.1) refl

operation_stays : (ns ms : Names) (end : ℕ) (i : Instruction) → is_named i ≡ false → op_at ns end i ≡ op_at ms end i
operation_stays ns ms end i h = rw (arguments_stay ns ms end i.args h) refl

-- ---- the rows of an instruction

same_width_true : (a b : Width) → same_width a b ≡ true → a ≡ b
same_width_true W8 W8 h = refl
same_width_true W16 W16 h = refl
same_width_true W32 W32 h = refl
same_width_true a b h = cc

among_any : (f : Operand → Bool) (r : Row) (q : Operand) → IsAmong r q → f q ≡ true → f r.first || (f r.second || f r.third) ≡ true
among_any f r q among h =
    let P : Operand → Type 0 = λ x. f x ≡ true in
    elim among [
      | inl e ↦ either_first _ _ (subst P e h)
      | inr d ↦ elim d [ inl e ↦ either_second _ _ (either_first _ _ (subst P e h)) | inr e ↦ either_second _ _ (either_second _ _ (subst P e h)) ]
    ]
  where
    either_first : (a b : Bool) → a ≡ true → a || b ≡ true
    either_first true b h = refl
    either_first false b h = cc

    either_second : (a b : Bool) → b ≡ true → a || b ≡ true
    either_second true b h = refl
    either_second false b h = h

no_not : (a b : Bool) → a ≡ true → not a || b ≡ true → b ≡ true
no_not true b e h = h
no_not false b e h = cc

-- a row with a far pointer or a whole distance has 32 bits without 66h, and no line says that it has 16
abbrev is_clear : Row → Bool
is_clear r = not (is_wide r.first || (is_wide r.second || is_wide r.third)) || (not (may_be_narrow r) && same_width (width_of r.size false) W32)

all_clear : list_all is_clear opcode_rows ≡ true
all_clear = refl

wide_width : (i : Instruction) (m : Matched i) (q : Operand) → IsAmong m.row q → is_wide q ≡ true → i.width ≡ W32
wide_width i m q among h =
    let clear = All-contains (λ x. is_clear x ≡ true) opcode_rows m.row (AllPass-from_list_all is_clear opcode_rows all_clear) m.listed in
    let rest = no_not (is_wide m.row.first || (is_wide m.row.second || is_wide m.row.third)) (not (may_be_narrow m.row) && same_width (width_of m.row.size false) W32) (among_any is_wide m.row q among h) clear in
    let p = and_parts (not (may_be_narrow m.row)) (same_width (width_of m.row.size false) W32) rest in
    let narrow : m.narrow ≡ false = not_narrow m.narrow (may_be_narrow m.row) (not-true (may_be_narrow m.row) p.0) m.clear in
    m.width ∙ (ap (width_of m.row.size) narrow ∙ same_width_true (width_of m.row.size false) W32 p.1)
  where
    not_narrow : (a b : Bool) → b ≡ false → not a || b ≡ true → a ≡ false
    not_narrow true b e h = absurd (both_ways b e h)
    not_narrow false b e h = refl

-- a full row has a distance of a byte only where the jump is always near
full_not_near : (r : Row) (q : Operand) → is_full r ≡ true → is_always_near r.name ≡ false → IsAmong r q → is_near q ≡ false
full_not_near r q full far among =
    let b = full_parts r.name r.first r.second r.third full in
    let P : Operand → Type 0 = λ p. is_near p ≡ false in
    elim among [ inl e ↦ subst P (sym e) (apart r.first b.0) | inr d ↦ elim d [ inl e ↦ subst P (sym e) (apart r.second b.1.0) | inr e ↦ subst P (sym e) (apart r.third b.1.1) ] ]
  where
    apart : (p : Operand) → is_brief r.name p ≡ false → is_near p ≡ false
    apart Jb h = absurd (both_ways (not (is_always_near r.name)) h (ap not far))
    apart p h = refl

-- ---- by other names

blank_stays : (ns ms : Names) (end : ℕ) (a : Argument) → blank (arg_at ns end a) ≡ blank (arg_at ms end a)
blank_stays ns ms end (Fixed a) = refl
blank_stays ns ms end (Immediate w e) = refl
blank_stays ns ms end (Target e) = refl
blank_stays ns ms end (Far s o) = refl
blank_stays ns ms end (At p) = refl

same_blank : (ns ms : Names) (end : ℕ) (xs : List Argument) → map blank (map (arg_at ns end) xs) ≡ map blank (map (arg_at ms end) xs)
same_blank ns ms end [] = refl
same_blank ns ms end (x ∷ xs) = rw (blank_stays ns ms end x, same_blank ns ms end xs) refl

-- an operand by some names
record Held (ns : Names) (end : ℕ) (i : Instruction) (r : Row) (v : Arg) : Type 0 where
  pub argument : Argument
  pub comes : Comes r i.width argument
  pub far : is_target argument ≡ true → is_always_near i.name ≡ false
  pub is : arg_at ns end argument ≡ v

held_all : (ns : Names) (end : ℕ) (i : Instruction) (r : Row) (xs : List Argument) → All (Comes r i.width) xs → All (λ a. is_target a ≡ true → is_always_near i.name ≡ false) xs → All (λ a. Held ns end i r (arg_at ns end a)) xs
held_all ns end i r [] c f = All-nil (λ a. Held ns end i r (arg_at ns end a))
held_all ns end i r (x ∷ xs) c f =
    All-cons (λ a. Held ns end i r (arg_at ns end a)) x xs (record { argument = x; comes = All-head (Comes r i.width) x xs c; far = All-head (λ a. is_target a ≡ true → is_always_near i.name ≡ false) x xs f; is = refl })
    (held_all ns end i r xs (All-tail (Comes r i.width) x xs c) (All-tail (λ a. is_target a ≡ true → is_always_near i.name ≡ false) x xs f))

among_all : (r : Row) → All (IsAmong r) (operands_of r)
among_all r =
    let P : Operand → Type 0 = IsAmong r in
    All-cons P r.first (r.second ∷ r.third ∷ []) (inl refl) (All-cons P r.second (r.third ∷ []) (inr (inl refl)) (All-cons P r.third [] (inr (inr refl)) (All-nil P)))

module _ (ns ms : Names) (end : ℕ) (i : Instruction) (m : Matched i) (far : All (λ a. is_target a ≡ true → is_always_near i.name ≡ false) i.args) (bytes : List ℕ) (w : IsWide (op_at ns end i) bytes) where
  abbrev op : Op
  op = op_at ns end i

  abbrev other : Op
  other = op_at ms end i

  abbrev Holds : Arg → Type 0
  Holds = Held ms end i m.row

  renumbered : IsRenumbered op other
  renumbered = record { name = refl; width = refl; args = same_blank ns ms end i.args; lock = refl; rep = refl }

  held : All Holds other.args.items
  held = All-map Holds (arg_at ms end) i.args (held_all ms end i m.row i.args (come_all m.row m.row i.width m.size (operands_of m.row) m.written i.args (among_all m.row) m.args) far)

  small : (v : Arg) → Holds v → IsSmall (Some v)
  small v d = (let P : Arg → Type 0 = λ x. IsSmall (Some x) in subst P d.is (d.comes.stands.small ms end))

  apart : (v : Arg) (d : Holds v) → is_near d.comes.operand ≡ false
  apart v d =
      elim (cases_Bool (is_near d.comes.operand)) [
        | inl e ↦ full_not_near m.row d.comes.operand m.full (ap is_always_near m.named ∙ d.far (d.comes.stands.near e)) d.comes.among
        | inr e ↦ e
      ]

  like : Like w.spells.row m.row
  like = like_rows w.spells.row m.row w.spells.listed m.listed w.full m.full (row_named op bytes w.spells ∙ sym m.named)

  draws : (p : Operand) → IsAmong w.spells.row p → 0 < kind_of p → (v : Arg) → Holds v → sort v ≡ kind_of p → Draws i.width p (Some v)
  draws p among more v d is =
      let q : Operand = d.comes.operand in
      let K : Arg → Type 0 = λ x. (sort x == 0) || (may_be q == sort x) ≡ true in
      let same : p ≡ q = same_operand p q m.row (sort v) (like_among w.spells.row m.row p like among) d.comes.among more is (subst K d.is (d.comes.stands.kind ms end)) in
      let M : Operand → Type 0 = λ x. 0 < kind_of x in
      let P : Operand → Type 0 = λ x. Draws i.width x (Some v) in
      let V : Arg → Type 0 = λ x. Draws i.width q (Some x) in
      subst P (sym same) (subst V d.is (d.comes.stands.draws ms end (apart v d) (wide_width i m q d.comes.among) (subst M same more)))

  -- What is spelled in full by some names is spelled in full by others, in as many bytes.
  wide_again : WideLike other bytes
  wide_again = numbers_again op other bytes renumbered w.spells w.full w.displaced Holds held small draws

-- ---- jumps that are always near

abbrev is_two : Row → Bool
is_two r = not (sameb operands r.first Jb) || (not (has_modrm r) && (nat_lt r.high 2048 && (is_absent r.second && is_absent r.third)))

all_two : list_all is_two opcode_rows ≡ true
all_two = refl

absent_length : (w : Width) (p : Operand) → is_absent p ≡ true → operand_length w p ≡ 0
absent_length w Absent h = refl
absent_length w p h = cc

opcode_some : (o : ℕ) → 1 ≤ length (opcode_bytes o)
opcode_some o = by_size (nat_lt o 256)
  where
    by_size : (short : Bool) → 1 ≤ length (cond short (o ∷ []) (0x0f ∷ (o - 0xf00) ∷ []))
    by_size true = omega arith
    by_size false = omega arith

near_two : (op : Op) (bytes : List ℕ) (w : IsWide op bytes) → is_always_near op.name ≡ true → is_prefix (slice_index bytes 0) ≡ false → length bytes ≡ 2
near_two op bytes w near bare =
    let s : Spells op bytes = w.spells in
    let r : Row = s.row in
    let first : r.first ≡ Jb = near_stays r s.listed (ap is_always_near (row_named op bytes s) ∙ near) in
    let two = All-contains (λ x. is_two x ≡ true) opcode_rows r (AllPass-from_list_all is_two opcode_rows all_two) s.listed in
    let a = no_not (sameb operands r.first Jb) (not (has_modrm r) && (nat_lt r.high 2048 && (is_absent r.second && is_absent r.third))) (true_same operands r.first Jb first) two in
    let b = and_parts (not (has_modrm r)) (nat_lt r.high 2048 && (is_absent r.second && is_absent r.third)) a in
    let c = and_parts (nat_lt r.high 2048) (is_absent r.second && is_absent r.third) b.1 in
    let d = and_parts (is_absent r.second) (is_absent r.third) c.1 in
    let tail : length s.tail ≡ 1 = omega (arith, tail_is op bytes s, ap (operand_length op.width) first, absent_length op.width r.second d.0, absent_length op.width r.third d.1) in
    let without : is_some s.place ≡ false = sym s.wanted ∙ not-true (has_modrm r) b.0 in
    let L : Bool → Type 0 = λ x. length s.modrm ≤ cond x 6 0 in
    let modrm : length s.modrm ≤ 0 = subst L without (form_size s.form) in
    let O : Bool → Type 0 = λ x. length (opcode_bytes s.opcode) ≤ cond x 1 2 in
    let opcode : length (opcode_bytes s.opcode) ≤ 1 = subst O c.0 (opcode_size op bytes s) in
    omega (arith, tail, modrm, opcode, opcode_some s.opcode, ap length (bare_prefixes op bytes s bare), ap length s.parts, length-append s.prefixes (opcode_bytes s.opcode ++ (s.modrm ++ s.tail)), length-append (opcode_bytes s.opcode) (s.modrm ++ s.tail), length-append s.modrm s.tail)

-- ---- the law

-- a spelling by other names of so many bytes
record Carried (ns : Names) (place : ℕ) (i : Instruction) (n : ℕ) : Type 0 where
  pub bytes : List ℕ
  pub spelling : IsSpelling ns place i bytes
  pub size : length bytes ≡ n

abbrev Carries : Names → Names → ℕ → Instruction → Type 0
Carries ns ms place i = (bytes : List ℕ) → IsSpelling ns place i bytes → Carried ms place i (length bytes)

carries_unnamed : (ns ms : Names) (place : ℕ) (i : Instruction) → is_named i ≡ false → Carries ns ms place i
carries_unnamed ns ms place i h bytes s =
    let P : Op → Type 0 = λ o. IsSpelledBy (is_named i) o bytes in
    record { bytes = bytes; spelling = record { spelled = subst P (operation_stays ns ms (place + length bytes) i h) s.spelled; bare = s.bare }; size = refl }

carries_named : (ns ms : Names) (place : ℕ) (i : Instruction) (m : Matched i) → All (λ a. is_target a ≡ true → is_always_near i.name ≡ false) i.args → is_named i ≡ true → Carries ns ms place i
carries_named ns ms place i m far named bytes s =
    let end : ℕ = place + length bytes in
    let F : Bool → Type 0 = λ full. IsSpelledBy full (op_at ns end i) bytes in
    let again : WideLike (op_at ms end i) bytes = wide_again ns ms end i m far bytes (subst F named s.spelled) in
    let E : ℕ → Type 0 = λ n. IsWide (op_at ms (place + n) i) again.more in
    let G : Bool → Type 0 = λ full. IsSpelledBy full (op_at ms (place + length again.more) i) again.more in
    record { bytes = again.more; spelling = record { spelled = subst G (sym named) (subst E (sym again.size) again.wide); bare = λ t. again.begin ∙ s.bare t }; size = again.size }

kept : (ns ms : Names) (place : ℕ) (i : Instruction) (bytes more : List ℕ) → Carries ns ms place i → Carries ms ns place i → Makes ns place (Operate i) bytes → Makes ms place (Operate i) more → length bytes ≡ length more
kept ns ms place i bytes more there back (inl f) (inl g) =
    let c = there bytes f.spelling in
    let d = back more g.spelling in
    omega (arith, not_longer c.bytes more (g.first c.bytes c.spelling), not_longer d.bytes bytes (f.first d.bytes d.spelling), c.size, d.size)
kept ns ms place i bytes more there back (inl f) (inr g) = (let c = there bytes f.spelling in absurd (g.0 c.bytes c.spelling))
kept ns ms place i bytes more there back (inr f) (inl g) = (let d = back more g.spelling in absurd (f.0 d.bytes d.spelling))
kept ns ms place i bytes more there back (inr f) (inr g) = ap length f.1 ∙ sym (ap length g.1)

near_makes : (ns : Names) (place : ℕ) (i : Instruction) (bytes : List ℕ) → is_named i ≡ true → has_target i ≡ true → is_always_near i.name ≡ true → Makes ns place (Operate i) bytes → length bytes ≡ 2
near_makes ns place i bytes named target near (inl f) =
    let F : Bool → Type 0 = λ full. IsSpelledBy full (op_at ns (place + length bytes) i) bytes in
    near_two (op_at ns (place + length bytes) i) bytes (subst F named f.spelling.spelled) near (f.spelling.bare target)
near_makes ns place i bytes named target near (inr f) = ap length f.1

no_targets : (near : Bool) (xs : List Argument) → list_any is_target xs ≡ false → All (λ a. is_target a ≡ true → near ≡ false) xs
no_targets near [] h = All-nil (λ a. is_target a ≡ true → near ≡ false)
no_targets near (x ∷ xs) h =
    let p = either_false (is_target x) (list_any is_target xs) h in
    All-cons (λ a. is_target a ≡ true → near ≡ false) x xs (λ t. absurd (both_ways (is_target x) p.0 t)) (no_targets near xs p.1)

not_near : (near : Bool) (xs : List Argument) → near ≡ false → All (λ a. is_target a ≡ true → near ≡ false) xs
not_near near [] h = All-nil (λ a. is_target a ≡ true → near ≡ false)
not_near near (x ∷ xs) h = All-cons (λ a. is_target a ≡ true → near ≡ false) x xs (λ t. h) (not_near near xs h)

pub operations_keep : OperationsKeepLengths
operations_keep ns ms place i line bytes more e f g =
    let m : Matched i = meant line i e in
    let near : Bool = is_always_near i.name in
    let by_rows : All (λ a. is_target a ≡ true → is_always_near i.name ≡ false) i.args → is_named i ≡ true → length bytes ≡ length more = λ far named. kept ns ms place i bytes more (carries_named ns ms place i m far named) (carries_named ms ns place i m far named) f g in
    elim (cases_Bool (is_named i)) [
      | inr h ↦ kept ns ms place i bytes more (carries_unnamed ns ms place i h) (carries_unnamed ms ns place i h) f g
      | inl named ↦ elim (cases_Bool (has_target i)) [
        | inr h ↦ by_rows (no_targets (is_always_near i.name) i.args h) named
        | inl target ↦ elim (cases_Bool (is_always_near i.name)) [
          | inl h ↦ near_makes ns place i bytes named target h f ∙ sym (near_makes ms place i more named target h g)
          | inr h ↦ by_rows (not_near (is_always_near i.name) i.args h) named
        ]
      ]
    ]
