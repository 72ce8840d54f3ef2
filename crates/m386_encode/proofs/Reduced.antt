-- For each spelling there is a candidate of its row that spells the operation too and comes not after it.
use Rattle.std.proofs.Common.{◌≡◌, ℕ, ◌+◌, ◌*◌, ◌%◌, ◌<◌, ◌≤◌, ◌⊎◌, inl, inr, Bool, true, false, cond, List, ◌++◌, length, length-append, refl, sym, ◌∙◌, ap, arith, subst, append_assoc, nat_lt, nat_le, ◌&&◌}
use Rattle.std.specs.Prelude.{Option, is_some}
use Rattle.std.specs.List.{All, Contains, list_all}
use Rattle.std.proofs.lemmas.Bool.{and_parts, or_left, or_right, ltb-true, leb-true, both_ways}
use Rattle.std.proofs.lemmas.List.Sums.{AllPass-from_list_all}
use Rattle.std.proofs.lemmas.List.Elements.{All-append, All-get_or, All-from_get_or, All-weaker}
use Rattle.m386_base.specs.declared.number.Width.{Width}
use Rattle.m386_opmap.specs.declared.fields.Fields.{Fields}
use Rattle.m386_opmap.specs.declared.fields.Prefixes.{Prefixes}
use Rattle.m386_opmap.specs.declared.op.Arg.{Arg}
use Rattle.m386_opmap.specs.declared.op.Op.{Op}
use Rattle.m386_opmap.specs.declared.op.Rep.{Rep}
use Rattle.m386_opmap.specs.declared.op.Rep.TheVariants.{Once}
use Rattle.m386_opmap.specs.declared.row.Row.{Row}
use Rattle.m386_opmap.specs.Forms.{Form}
use Rattle.m386_opmap.specs.Opcodes.{opcode_rows}
use Rattle.m386_opmap.specs.Operands.{operand_value, has_modrm, suits, is_memory, tail_length, operation, is_string}
use Rattle.m386_opmap.specs.Prefix.{is_prefix, prefixes_of}
use Rattle.m386_opmap.specs.Rows.{Covers}
use Rattle.m386_opmap.specs.Spelling.{Spells, opcode_bytes}
use Rattle.m386_opmap.proofs.Lawful.{opcodes_lawful, lawful_row, begins_from, opcode_of_row, IsOpcode, byte, pair}
use Rattle.m386_opmap.proofs.Outcomes.{fields_at}
use Rattle.m386_opmap.proofs.Sound.{AllAreBytes, front_bytes, back_bytes}
use Rattle.m386_encode.specs.Candidates.{is_middle, is_low, opcode, named_segment, key_bytes, form_bytes, tail_bytes, prefixes, segment_prefix, candidate}
use Rattle.m386_encode.specs.Order.{is_before}
use Rattle.m386_encode.specs.Shortest.{IsSpelling}
use Rattle.m386_encode.proofs.Foremost.{marks_first, segment_stands}
use Rattle.m386_encode.proofs.Least.{AllWithin}
use Rattle.m386_encode.proofs.Marks.{marks, marks_say, marks_pass, IsSegment}
use Rattle.m386_encode.proofs.Named.{Named, named_again, operands, seg_either, plain_first, plain_second, width, said_is}
use Rattle.m386_encode.proofs.Octets.{key_are, key_size}
use Rattle.m386_encode.proofs.Ordered.{before_self, before_append}
use Rattle.m386_encode.proofs.Places.{Fits, mode_for, displacement_size}
use Rattle.m386_encode.proofs.RowParts.{Shaped, has_shape, few_bytes, third_is}
use Rattle.m386_encode.proofs.Taken.{tail_taken}
use Rattle.m386_encode.proofs.Values.{Bytes, is_plain, value_same}
use Rattle.m386_encode.proofs.Whole.{same_operation, same_rep, key_bytes_are, key_first}

-- A candidate of a row spells the operation, has at most 15 bytes, and comes not after these.
pub record Reduced (op : Op) (r : Row) (narrow : Bool) (mode : ℕ) (bytes : List ℕ) : Type 0 where
  pub spells : IsSpelling op (candidate op r narrow mode)
  pub short : length (candidate op r narrow mode) ≤ 15
  pub first : is_before bytes (candidate op r narrow mode) ≡ false

-- the prefixes of four marks
pub record MarksPass (bs : List ℕ) : Type 0 where
  pub prefixes : All (λ b. is_prefix b ≡ true) bs
  pub are : AllAreBytes bs
  pub few : length bs ≤ 4

pub passing : (seg : Option ℕ) (narrow lock : Bool) (rep : Rep) → IsSegment seg → MarksPass (marks seg narrow lock rep)
passing seg narrow lock rep h =
    let bs : List ℕ = marks seg narrow lock rep in
    let p = and_parts (list_all (λ b. is_prefix b && nat_lt b 256) bs) (nat_le (length bs) 4) (marks_pass seg narrow lock rep h) in
    let all : All (λ b. is_prefix b && nat_lt b 256 ≡ true) bs = AllPass-from_list_all (λ b. is_prefix b && nat_lt b 256) bs p.0 in
    record {
      prefixes = All-weaker (λ b. is_prefix b && nat_lt b 256 ≡ true) (λ b. is_prefix b ≡ true) (λ b e. (and_parts (is_prefix b) (nat_lt b 256) e).0) bs all;
      are = All-weaker (λ b. is_prefix b && nat_lt b 256 ≡ true) (λ b. b < 256) (λ b e. ltb-true b 256 (and_parts (is_prefix b) (nat_lt b 256) e).1) bs all;
      few = leb-true (length bs) 4 p.1;
    }

pub number_of_opcode : (o : ℕ) → IsOpcode o → (o < 256) ⊎ ((3840 ≤ o) × (o < 4096))
number_of_opcode o (byte h p q) = inl h
number_of_opcode o (pair h k) = inr (h, k)

below : (o : ℕ) → (o < 256) ⊎ ((3840 ≤ o) × (o < 4096)) → o < 4096
below o h = elim h [ inl l ↦ omega arith | inr l ↦ l.1 ]

module _ (r : Row) (ps : List ℕ) (o : ℕ) (modrm tail : List ℕ) (mid : ℕ) (place : Option Arg) (listed : Contains opcode_rows r) (form : Form (prefixes_of ps).seg modrm mid place)
    (wanted : has_modrm r ≡ is_some place) (covered : Covers r (8 * o + mid)) (are : AllAreBytes (ps ++ (opcode_bytes o ++ (modrm ++ tail)))) (whole : length tail ≡ tail_length r (prefixes_of ps).narrow) (mode : ℕ) (fits : Fits mode place modrm) where
  abbrev said : Prefixes
  said = prefixes_of ps

  abbrev f : Fields
  f = fields_at ps o mid place

  shape : Shaped r
  shape = has_shape r listed

  behind : AllAreBytes (modrm ++ tail)
  behind = back_bytes (opcode_bytes o) (modrm ++ tail) (back_bytes ps (opcode_bytes o ++ (modrm ++ tail)) are)

  modrm_are : Bytes modrm
  modrm_are k h = All-get_or (λ b. b < 256) modrm k 0 h (front_bytes modrm tail behind)

  tail_are : Bytes tail
  tail_are k h = All-get_or (λ b. b < 256) tail k 0 h (back_bytes modrm tail behind)

  abbrev xs : List Arg
  xs = operands r ps o modrm tail mid place listed shape form wanted

  abbrev w : Width
  w = width r ps o modrm tail mid place listed shape form wanted

  abbrev rep : Rep
  rep = cond (is_string r.name) said.rep Once

  abbrev new : List ℕ
  new = marks (named_segment xs) said.narrow said.lock rep

  named : Named r f xs mode modrm
  named = named_again r ps o modrm tail mid place listed shape form wanted mode covered modrm_are fits

  segment_is : IsSegment (named_segment xs)
  segment_is = seg_either r ps o modrm tail mid place listed shape form wanted IsSegment tt (said_is ps)

  say : prefixes_of new ≡ record { seg = named_segment xs; narrow = said.narrow; lock = said.lock; rep = rep }
  say = marks_say (named_segment xs) said.narrow said.lock rep segment_is

  pass : MarksPass new
  pass = passing (named_segment xs) said.narrow said.lock rep segment_is

  -- the operation and its candidate, by their parts
  abbrev meant : Op
  meant = operation r f tail

  abbrev parts : List ℕ → List ℕ
  parts end = ((new ++ key_bytes (opcode r xs)) ++ form_bytes r mode xs) ++ end

  candidate_is : candidate meant r said.narrow mode ≡ parts (tail_bytes r w xs)
  unfolding candidate prefixes operation
  candidate_is = refl

  tail_is : tail_bytes r w xs ≡ tail
  unfolding tail_length
  tail_is = tail_taken f w tail r shape.placed wanted shape.single whole tail_are

  is_candidate : candidate meant r said.narrow mode ≡ parts tail
  is_candidate = candidate_is ∙ ap parts tail_is

  opcode_is : IsOpcode (opcode r xs)
  opcode_is = opcode_of_row (opcode r xs) r (lawful_row opcode_rows r opcodes_lawful listed) (begins_from false (opcode r xs) named.mid r named.small named.covered refl)

  key_is : key_bytes (opcode r xs) ≡ opcode_bytes (opcode r xs)
  key_is = key_bytes_are (opcode r xs) (number_of_opcode (opcode r xs) opcode_is)

  from_get : (bs : List ℕ) → Bytes bs → AllAreBytes bs
  from_get bs b = All-from_get_or (λ b. b < 256) bs 0 b

  parts_are : AllAreBytes (parts tail)
  parts_are =
      All-append (λ b. b < 256) ((new ++ key_bytes (opcode r xs)) ++ form_bytes r mode xs) tail
      (All-append (λ b. b < 256) (new ++ key_bytes (opcode r xs)) (form_bytes r mode xs)
      (All-append (λ b. b < 256) new (key_bytes (opcode r xs)) pass.are (from_get (key_bytes (opcode r xs)) (key_are (opcode r xs) (below (opcode r xs) (number_of_opcode (opcode r xs) opcode_is)))))
      (from_get (form_bytes r mode xs) named.are))
      (from_get tail tail_are)

  -- the candidate's fields, and what they say of the operands
  abbrev g : Fields
  g = fields_at new (opcode r xs) named.mid place

  seg_is : g.prefixes.seg ≡ named_segment xs
  seg_is = ap (λ (x : Prefixes). x.seg) say

  narrow_is : g.prefixes.narrow ≡ said.narrow
  narrow_is = ap (λ (x : Prefixes). x.narrow) say

  lock_is : g.prefixes.lock ≡ said.lock
  lock_is = ap (λ (x : Prefixes). x.lock) say

  rep_is : cond (is_string r.name) g.prefixes.rep Once ≡ cond (is_string r.name) said.rep Once
  rep_is = ap (λ (x : Prefixes). cond (is_string r.name) x.rep Once) say ∙ same_rep (is_string r.name) said.rep

  value_first : operand_value g w tail r.first ≡ operand_value f w tail r.first
  value_first =
      sym (value_same f g w tail r.first refl (λ e. named.middle (or_left (is_middle r.first) (is_middle r.second) e))
      (λ e. ap (λ n. n % 8) (sym (named.low (or_left (is_low r.first) (is_low r.second) e)))) (λ e. plain_first r ps o modrm tail mid place listed shape form wanted e ∙ sym seg_is))

  value_second : operand_value g w tail r.second ≡ operand_value f w tail r.second
  value_second =
      sym (value_same f g w tail r.second refl (λ e. named.middle (or_right (is_middle r.first) (is_middle r.second) e))
      (λ e. ap (λ n. n % 8) (sym (named.low (or_right (is_low r.first) (is_low r.second) e)))) (λ e. plain_second r ps o modrm tail mid place listed shape form wanted e ∙ sym seg_is))

  value_third : operand_value g w tail r.third ≡ operand_value f w tail r.third
  value_third =
      let third = third_is r shape.placed in
      sym (value_same f g w tail r.third refl (λ e. absurd (both_ways (is_middle r.third) third.middle e)) (λ e. absurd (both_ways (is_low r.third) third.low e)) (λ e. absurd (both_ways (is_plain r.third) third.plain e)))

  same : operation r g tail ≡ meant
  same = same_operation r f g tail narrow_is lock_is rep_is value_first value_second value_third

  joined : parts tail ≡ new ++ (opcode_bytes (opcode r xs) ++ (form_bytes r mode xs ++ tail))
  joined =
      append_assoc (new ++ key_bytes (opcode r xs)) (form_bytes r mode xs) tail ∙ ap (λ k. (new ++ k) ++ (form_bytes r mode xs ++ tail)) key_is
      ∙ append_assoc new (opcode_bytes (opcode r xs)) (form_bytes r mode xs ++ tail)

  respelled_parts : (op : Op) → op ≡ meant → suits r said.lock (is_memory place) ≡ true → Spells op (candidate op r said.narrow mode)
  respelled_parts op is suited =
      let bytes : candidate op r said.narrow mode ≡ parts tail = ap (λ (x : Op). candidate x r said.narrow mode) is ∙ is_candidate in
      let A : List ℕ → Type 0 = AllAreBytes in
      let F : Option ℕ → Type 0 = λ x. Form x (form_bytes r mode xs) named.mid place in
      let L : Bool → Type 0 = λ x. suits r x (is_memory place) ≡ true in
      let N : Bool → Type 0 = λ x. length tail ≡ tail_length r x in
      record {
        row = r;
        listed = listed;
        prefixes = new;
        opcode = opcode r xs;
        modrm = form_bytes r mode xs;
        tail = tail;
        parts = bytes ∙ joined;
        are_bytes = subst A (sym bytes) parts_are;
        are_prefixes = pass.prefixes;
        middle = named.mid;
        place = place;
        form = subst F (sym seg_is) named.form;
        wanted = wanted;
        covered = named.covered;
        suited = subst L (sym lock_is) suited;
        whole = subst N (sym narrow_is) whole;
        spelled = is ∙ sym same;
      }

  sized : displacement_size (form_bytes r mode xs) ≡ displacement_size modrm
  sized = named.sized

  short : length (candidate meant r said.narrow mode) ≤ 15
  short =
      let most = few_bytes r said.narrow shape in
      let key = key_size (opcode r xs) r.high (omega (arith, named.covered.1)) in
      omega (arith, ap length is_candidate, most, key, named.size, pass.few, whole, length-append new (key_bytes (opcode r xs)), length-append (new ++ key_bytes (opcode r xs)) (form_bytes r mode xs), length-append ((new ++ key_bytes (opcode r xs)) ++ form_bytes r mode xs) tail)

  first : is_before (ps ++ (opcode_bytes o ++ (modrm ++ tail))) (candidate meant r said.narrow mode) ≡ false
  first =
      let stands : AllWithin (segment_prefix (named_segment xs)) ps = seg_either r ps o modrm tail mid place listed shape form wanted (λ x. AllWithin (segment_prefix x) ps) tt (segment_stands ps) in
      let marks : is_before ps new ≡ false = marks_first ps (named_segment xs) (is_string r.name) segment_is stands in
      let K : List ℕ → Type 0 = λ x. is_before (opcode_bytes o) x ≡ false in
      let key : is_before (opcode_bytes o) (key_bytes (opcode r xs)) ≡ false = subst K (sym key_is) (key_first o (opcode r xs) named.earlier) in
      let all : is_before (((ps ++ opcode_bytes o) ++ modrm) ++ tail) (parts tail) ≡ false =
      before_append ((ps ++ opcode_bytes o) ++ modrm) ((new ++ key_bytes (opcode r xs)) ++ form_bytes r mode xs) tail tail
      (before_append (ps ++ opcode_bytes o) (new ++ key_bytes (opcode r xs)) modrm (form_bytes r mode xs) (before_append ps new (opcode_bytes o) (key_bytes (opcode r xs)) marks key) named.first)
      (before_self tail) in
      let joined : ((ps ++ opcode_bytes o) ++ modrm) ++ tail ≡ ps ++ (opcode_bytes o ++ (modrm ++ tail)) = append_assoc (ps ++ opcode_bytes o) modrm tail ∙ append_assoc ps (opcode_bytes o) (modrm ++ tail) in
      let P : List ℕ → Type 0 = λ x. is_before x (candidate meant r said.narrow mode) ≡ false in
      let Q : List ℕ → Type 0 = λ x. is_before (((ps ++ opcode_bytes o) ++ modrm) ++ tail) x ≡ false in
      subst P joined (subst Q (sym is_candidate) all)

-- The candidate of a spelling's row, with 66h where it has that, spelled with as many bytes of displacement.
pub record Respelled (op : Op) (bytes : List ℕ) (s : Spells op bytes) (mode : ℕ) : Type 0 where
  pub spelled : Spells op (candidate op s.row (prefixes_of s.prefixes).narrow mode)
  pub row : spelled.row ≡ s.row
  pub place : spelled.place ≡ s.place
  pub sized : displacement_size spelled.modrm ≡ displacement_size s.modrm

-- for each spelling a candidate of its row spells the operation too; where the spelling names memory, by the mode of its displacement
pub respelled : (op : Op) (bytes : List ℕ) (s : Spells op bytes) (mode : ℕ) → Fits mode s.place s.modrm → Respelled op bytes s mode
unfolding respelled_parts
respelled op bytes s mode fits =
    let A : List ℕ → Type 0 = AllAreBytes in
    let are : AllAreBytes (s.prefixes ++ (opcode_bytes s.opcode ++ (s.modrm ++ s.tail))) = subst A s.parts s.are_bytes in
    record {
      spelled = respelled_parts s.row s.prefixes s.opcode s.modrm s.tail s.middle s.place s.listed s.form s.wanted s.covered are s.whole mode fits op s.spelled s.suited;
      row = refl;
      place = refl;
      sized = sized s.row s.prefixes s.opcode s.modrm s.tail s.middle s.place s.listed s.form s.wanted s.covered are s.whole mode fits;
    }

-- For each spelling of an operation there is a candidate of its row, with 66h where it has that, that spells the operation too,
-- has at most 15 bytes, and comes not after it. Where the spelling names memory, the mode is that of its displacement.
pub reduced : (op : Op) (bytes : List ℕ) (s : Spells op bytes) (mode : ℕ) → Fits mode s.place s.modrm → Reduced op s.row (prefixes_of s.prefixes).narrow mode bytes
reduced op bytes s mode fits =
    let A : List ℕ → Type 0 = AllAreBytes in
    let are : AllAreBytes (s.prefixes ++ (opcode_bytes s.opcode ++ (s.modrm ++ s.tail))) = subst A s.parts s.are_bytes in
    let S : Op → Type 0 = λ x. length (candidate x s.row (prefixes_of s.prefixes).narrow mode) ≤ 15 in
    let B : Op → Type 0 = λ x. is_before bytes (candidate x s.row (prefixes_of s.prefixes).narrow mode) ≡ false in
    let C : List ℕ → Type 0 = λ x. is_before x (candidate (operation s.row (fields_at s.prefixes s.opcode s.middle s.place) s.tail) s.row (prefixes_of s.prefixes).narrow mode) ≡ false in
    record {
      spells = record { spells = (respelled op bytes s mode fits).spelled };
      short = subst S (sym s.spelled) (short s.row s.prefixes s.opcode s.modrm s.tail s.middle s.place s.listed s.form s.wanted s.covered are s.whole mode fits);
      first = subst B (sym s.spelled) (subst C (sym s.parts) (first s.row s.prefixes s.opcode s.modrm s.tail s.middle s.place s.listed s.form s.wanted s.covered are s.whole mode fits));
    }

-- the candidate with a displacement of as many bytes
pub reduced_alike : (op : Op) (bytes : List ℕ) (s : Spells op bytes) → Reduced op s.row (prefixes_of s.prefixes).narrow (mode_for (displacement_size s.modrm)) bytes
reduced_alike op bytes s = reduced op bytes s (mode_for (displacement_size s.modrm)) (λ m. refl)

-- the candidate with a displacement of four bytes, where the spelling has one if it names memory
pub reduced_wide : (op : Op) (bytes : List ℕ) (s : Spells op bytes) → (is_memory s.place ≡ true → displacement_size s.modrm ≡ 4) → Reduced op s.row (prefixes_of s.prefixes).narrow 2 bytes
reduced_wide op bytes s four = reduced op bytes s 2 (λ m. sym (ap mode_for (four m)))
