-- What a text lays out: an image, or a first faulty line with its kind.
use Rattle.std.specs.Prelude.{ℕ, ◌≡◌, ◌+◌, ◌-◌, ◌*◌, ◌/◌, ◌%◌, ◌^◌, ◌<◌, ◌==◌, nat_lt, Bool, true, false, ◌&&◌, ◌||◌, not, List, [], ◌∷◌, ◌++◌, map, length, take, drop, replicate, slice_index, Option, Some, None, is_some, is_none, Result, Ok, Err, if◌then◌else◌, IsTrue, ◌⊎◌, ℤ, pos, negsuc, ◌+ℤ◌, int_lt}
use Rattle.std.specs.List.{list_any, flat_map, fold}
use Rattle.std.specs.Option.{unwrap_or}
use Rattle.std.specs.Int.{w16, w32, to_le_bytes}
use Rattle.m386_base.specs.Descriptor.{descriptor}
use Rattle.m386_desc.specs.Bytes.{descriptor_bytes}
use Rattle.m386_tss.specs.Fields.{field_at}
use Rattle.m386_opmap.specs.declared.op.Arg.{Arg}
use Rattle.m386_opmap.specs.declared.op.Arg.TheVariants as args
use Rattle.m386_opmap.specs.declared.op.Op.{Op}
use Rattle.m386_opmap.specs.Prefix.{is_prefix}
use Rattle.m386_opmap.specs.Spelling.{Spells}
use Rattle.m386_encode.specs.Order.{is_before}
use Rattle.m386_encode.specs.Wide.{IsWide}
use Rattle.m386_image.specs.declared.image.Image.{Image}
use Rattle.m386_image.specs.declared.image.Planned.{Planned}
use Rattle.m386_image.specs.declared.image.Section.{Section}
use Rattle.m386_image.specs.declared.image.TableAt.{TableAt}
use Rattle.m386_image.specs.Format.{image_text}
use Rattle.m386_words.specs.Text.{lines_of, tokens_of, solid}
use Rattle.m386_words.specs.Words.{same_word}
use Rattle.m386_words.specs.Expressions.{Expression, only}
use Rattle.m386_words.specs.Operands.{Place}
use Rattle.m386_lines.specs.declared.kind.AsmKind.{AsmKind}
use Rattle.m386_lines.specs.declared.kind.AsmKind.TheVariants as kinds
use Rattle.m386_lines.specs.Instructions.{Argument, Fixed, Immediate, Target, Far, At, Instruction}
use Rattle.m386_lines.specs.Directives.{Directive, SetsMemory, SetsCpus, SetsGdt, SetsIdt, StartsBare, StartsTask, Plans, Begins, Values, Bytes, Zeros, Describes, Gates, Fields}
use Rattle.m386_lines.specs.Lines.{Statement, Nothing, Assign, Direct, Operate, Meaning, shape_of}
use Rattle.m386_lines.specs.Faults.{has_strange_byte, has_strange_token, has_wrong_number, has_no_mnemonic, has_wrong_operands, has_no_directive, has_wrong_arguments, meaning_of}

-- ---- values and fields

-- the value of each name
abbrev pub Names : Type 0
Names = List (List ℕ × ℤ)

-- what the first line that defines a name gives it
unfoldable pub named : Names → List ℕ → Option ℤ
named [] w = None
named (n ∷ ns) w = if same_word n.0 w then Some n.1 else named ns w

abbrev pub or_zero : Option ℤ → ℤ
or_zero None = pos 0
or_zero (Some v) = v

abbrev pub name_value : Names → Option (List ℕ) → ℤ
name_value ns None = pos 0
name_value ns (Some w) = or_zero (named ns w)

-- an expression's value, with 0 for a name that no line defines
abbrev pub value : Names → Expression → ℤ
value ns e = name_value ns e.name +ℤ e.number

abbrev pub is_unknown : Names → Expression → Bool
is_unknown ns e = elim e.name [ None ↦ false | Some w ↦ is_none (named ns w) ]

-- a value modulo 2^w
abbrev pub wrapped : ℕ → ℤ → ℕ
wrapped w (pos n) = n % 2 ^ w
wrapped w (negsuc n) = 2 ^ w - 1 - n % 2 ^ w

-- whether a value is in a field of w bits: from -2^(w-1) to 2^w - 1
abbrev pub is_in_field : ℕ → ℤ → Bool
is_in_field w (pos n) = nat_lt n (2 ^ w)
is_in_field w (negsuc n) = nat_lt n (2 ^ (w - 1))

abbrev pub field_value : Names → ℕ → Expression → ℕ
field_value ns w e = wrapped w (value ns e)

-- ---- the bytes of a line

abbrev pub place_address : Names → Place → Arg
place_address ns p = args.Mem (record { seg = p.seg; base = p.base; index = p.index; scale = p.scale; disp = field_value ns 32 p.offset })

-- an operand, where the instruction's end stands there
abbrev pub arg_at : Names → ℕ → Argument → Arg
arg_at ns end (Fixed a) = a
arg_at ns end (Immediate w e) = args.Imm (field_value ns w e)
arg_at ns end (Target e) = args.Rel (wrapped 32 (value ns e +ℤ negsuc end +ℤ pos 1))
arg_at ns end (Far s o) = args.Far (field_value ns 16 s) (field_value ns 32 o)
arg_at ns end (At p) = place_address ns p

-- the operation of an instruction whose end stands there
abbrev pub op_at : Names → ℕ → Instruction → Op
op_at ns end i = record { name = i.name; width = i.width; args = record { items = map (arg_at ns end) i.args }; lock = i.lock; rep = i.rep }

-- the numbers of an operand, each with the bits of its field
abbrev pub arg_fields : Argument → List (ℕ × Expression)
arg_fields (Fixed a) = []
arg_fields (Immediate w e) = (w, e) ∷ []
arg_fields (Target e) = (32, e) ∷ []
arg_fields (Far s o) = (16, s) ∷ (32, o) ∷ []
arg_fields (At p) = (32, p.offset) ∷ []

abbrev pub instruction_fields : Instruction → List (ℕ × Expression)
instruction_fields i = flat_map arg_fields i.args

-- whether an operand has a name
abbrev pub is_named : Instruction → Bool
is_named i = list_any (λ (f : ℕ × Expression). is_some f.1.name) (instruction_fields i)

-- in full, or in any way
abbrev pub IsSpelledBy : Bool → Op → List ℕ → Type 0
IsSpelledBy true op bytes = IsWide op bytes
IsSpelledBy false op bytes = Spells op bytes

abbrev pub is_target : Argument → Bool
is_target (Target e) = true
is_target _ = false

-- whether it is a jump or a call that names its target
abbrev pub has_target : Instruction → Bool
has_target i = list_any is_target i.args

-- The bytes from a place on spell the instruction: in full, where an operand has a name. A jump's distance counts from
-- their own end, and it has no prefix: a prefix that says nothing would let a short jump reach a byte further.
-- Own choice: docs/DECISIONS.md, "Which spelling is laid out"
pub record IsSpelling (ns : Names) (place : ℕ) (i : Instruction) (bytes : List ℕ) : Type 0 where
  pub spelled : IsSpelledBy (is_named i) (op_at ns (place + length bytes) i) bytes
  pub bare : has_target i ≡ true → is_prefix (slice_index bytes 0) ≡ false

-- The first of them: no other is shorter, or as long and less.
-- Own choice: docs/DECISIONS.md, "Which spelling is laid out"
pub record IsFirstSpelling (ns : Names) (place : ℕ) (i : Instruction) (bytes : List ℕ) : Type 0 where
  pub spelling : IsSpelling ns place i bytes
  pub first : (other : List ℕ) → IsSpelling ns place i other → is_before other bytes ≡ false

-- No spelling reaches the target: only a jump with a distance of one byte in each of its opcodes has none, and has two bytes.
-- Own choice: docs/DECISIONS.md, "Which spelling is laid out"
abbrev pub IsOutOfReach : Names → ℕ → Instruction → Type 0
IsOutOfReach ns place i = (bytes : List ℕ) → ¬ IsSpelling ns place i bytes

-- a task state segment with a value in a field
abbrev pub with_field : Names → List ℕ → ℕ × Expression → List ℕ
with_field ns bytes f =
    let at = field_at f.0 in
    take at.offset bytes ++ take at.len (to_le_bytes w32 (field_value ns (8 * at.len) f.1)) ++ drop (at.offset + at.len) bytes

-- a task state segment with these values in its fields, and 0 in the others
abbrev pub tss_bytes : Names → List (ℕ × Expression) → List ℕ
tss_bytes ns fs = fold (with_field ns) (replicate 104 0) fs

abbrev pub gate_bytes : ℕ → ℕ → ℕ → ℕ → List ℕ
gate_bytes selector offset access count =
    take 2 (to_le_bytes w32 offset) ++ to_le_bytes w16 selector ++ (count ∷ access ∷ []) ++ drop 2 (to_le_bytes w32 offset)

abbrev pub zero_count : ℤ → ℕ
zero_count (pos n) = n
zero_count (negsuc n) = 0

-- The bytes of a directive.
-- Own choice: docs/DECISIONS.md, "The assembler's text"
abbrev pub directive_bytes : Names → Directive → List ℕ
directive_bytes ns (Values w es) = flat_map (λ e. take (w / 8) (to_le_bytes w32 (field_value ns w e))) es
directive_bytes ns (Bytes bs) = bs
directive_bytes ns (Zeros n) = replicate (zero_count n) 0
directive_bytes ns (Describes base limit access flags) = descriptor_bytes (descriptor (field_value ns 32 base) (field_value ns 20 limit) (field_value ns 8 access) (field_value ns 4 flags))
directive_bytes ns (Gates s o a c) = gate_bytes (field_value ns 16 s) (field_value ns 32 o) (field_value ns 8 a) (field_value ns 5 c)
directive_bytes ns (Fields fs) = tss_bytes ns fs
directive_bytes ns _ = []

-- The bytes of a line that begins at a place.
abbrev pub Makes : Names → ℕ → Statement → List ℕ → Type 0
Makes ns place (Operate i) bytes = IsFirstSpelling ns place i bytes ⊎ (IsOutOfReach ns place i × (bytes ≡ 0 ∷ 0 ∷ []))
Makes ns place (Direct d) bytes = bytes ≡ directive_bytes ns d
Makes ns place _ bytes = bytes ≡ []

-- the bytes of a line stand behind those before
abbrev pub HasMade : Names → ℕ → Statement → List ℕ → List ℕ → Type 0
HasMade ns place s before after = (bytes : List ℕ) × (after ≡ before ++ bytes) × Makes ns place s bytes

-- ---- a text

-- a line, what it means, and its bytes
pub record Laid : Type 0 where
  pub text : List ℕ
  pub meaning : Meaning
  pub bytes : List ℕ

-- where the next line begins
abbrev pub moved : ℕ → Laid → ℕ
moved place l = elim l.meaning.statement [
  | Nothing ↦ place
  | Assign w n ↦ place
  | Direct d ↦ after d
  | Operate i ↦ place + length l.bytes
]
  where
    after : Directive → ℕ
    after (Begins n) = wrapped 32 n
    after _ = place + length l.bytes

-- where these lines end
abbrev pub end_of : List Laid → ℕ
end_of ls = fold moved 0 ls

-- the name before a `:` at a place
abbrev pub labelled : ℕ → Option (List ℕ) → Names
labelled place None = []
labelled place (Some w) = (w, pos place) ∷ []

-- the name before a `=`
abbrev pub assigned : Statement → Names
assigned (Assign w n) = (w, n) ∷ []
assigned _ = []

-- the names that a line at a place defines
abbrev pub defined : ℕ → Meaning → Names
defined place m = labelled place m.label ++ assigned m.statement

-- the names of lines from a place on
unfoldable pub names_from : ℕ → List Laid → Names
names_from place [] = []
names_from place (l ∷ ls) = defined place l.meaning ++ names_from (moved place l) ls

abbrev pub names_of : List Laid → Names
names_of ls = names_from 0 ls

-- each of these lines has P with those before it
unfoldable pub EachLine : (List Laid → Laid → Type 0) → List Laid → List Laid → Type 0
EachLine P before [] = Unit {0}
EachLine P before (l ∷ ls) = P before l × EachLine P (before ++ l ∷ []) ls

-- The line means what it says, and has its bytes at its place.
pub record IsLaid (ns : Names) (before : List Laid) (l : Laid) : Type 0 where
  pub meaning : l.meaning ≡ meaning_of l.text
  pub bytes : Makes ns (end_of before) l.meaning.statement l.bytes

-- The lines of a text, each laid behind those before it, by the names of all.
pub record AreLaid (text : List ℕ) (ls : List Laid) : Type 0 where
  pub lines : map (λ (l : Laid). l.text) ls ≡ lines_of text
  pub laid : EachLine (IsLaid (names_of ls)) [] ls

-- ---- headers

-- the values that the lines give for what some directive sets
abbrev pub header_values : (Directive → Option Expression) → List Laid → List Expression
header_values of ls = flat_map found ls
  where
    sets : Statement → Option Expression
    sets (Direct d) = of d
    sets _ = None

    found : Laid → List Expression
    found l = elim (sets l.meaning.statement) [ None ↦ [] | Some e ↦ e ∷ [] ]

abbrev pub memory_set : Directive → Option Expression
memory_set (SetsMemory e) = Some e
memory_set _ = None

abbrev pub cpus_set : Directive → Option Expression
cpus_set (SetsCpus e) = Some e
cpus_set _ = None

-- the first value, if it is known
abbrev pub first_known : Names → List Expression → Option ℤ
first_known ns [] = None
first_known ns (e ∷ es) = if is_unknown ns e then None else Some (value ns e)

-- What the text sets as memory size, and as the number of processors.
abbrev pub memory_of : List Laid → Option ℤ
memory_of ls = first_known (names_of ls) (header_values memory_set ls)

abbrev pub cpus_of : List Laid → Option ℤ
cpus_of ls = first_known (names_of ls) (header_values cpus_set ls)

-- what a header sets: memory, processors, a table, or the start of a processor
abbrev pub header : Names → Statement → Option (ℕ × ℤ)
header ns (Direct (SetsMemory e)) = Some (0, pos 0)
header ns (Direct (SetsCpus e)) = Some (1, pos 0)
header ns (Direct (SetsGdt b l)) = Some (2, pos 0)
header ns (Direct (SetsIdt b l)) = Some (3, pos 0)
header ns (Direct (StartsBare p e)) = Some (4, value ns p)
header ns (Direct (StartsTask p s)) = Some (4, value ns p)
header ns _ = None

abbrev pub same_value : ℤ → ℤ → Bool
same_value a b = not (int_lt a b) && not (int_lt b a)

abbrev pub same_header : Option (ℕ × ℤ) → Option (ℕ × ℤ) → Bool
same_header (Some a) (Some b) = a.0 == b.0 && same_value a.1 b.1
same_header _ _ = false

-- ---- the limits of values

-- the value of a field of a task state segment, with the bits of the field
abbrev pub task_field : ℕ × Expression → ℕ × Expression
task_field f = (8 * (field_at f.0).len, f.1)

-- the numbers of a directive, each with the bits of its field
abbrev pub directive_fields : Directive → List (ℕ × Expression)
directive_fields (SetsGdt base limit) = (32, base) ∷ (16, limit) ∷ []
directive_fields (SetsIdt base limit) = (32, base) ∷ (16, limit) ∷ []
directive_fields (StartsBare p eip) = (32, eip) ∷ []
directive_fields (StartsTask p selector) = (16, selector) ∷ []
directive_fields (Plans p step vector) = (8, p) ∷ (32, step) ∷ (8, vector) ∷ []
directive_fields (Begins n) = (32, only n) ∷ []
directive_fields (Values w es) = map (λ e. (w, e)) es
directive_fields (Describes base limit access flags) = (32, base) ∷ (20, limit) ∷ (8, access) ∷ (4, flags) ∷ []
directive_fields (Gates s o a c) = (16, s) ∷ (32, o) ∷ (8, a) ∷ (5, c) ∷ []
directive_fields (Fields fs) = map task_field fs
directive_fields _ = []

abbrev pub fields_of : Statement → List (ℕ × Expression)
fields_of (Direct d) = directive_fields d
fields_of (Operate i) = instruction_fields i
fields_of _ = []

-- the values that have a limit and no field
abbrev pub limited : Statement → List Expression
limited (Direct (SetsMemory e)) = e ∷ []
limited (Direct (SetsCpus e)) = e ∷ []
limited (Direct (StartsBare p e)) = p ∷ []
limited (Direct (StartsTask p s)) = p ∷ []
limited _ = []

abbrev pub expressions_of : Statement → List Expression
expressions_of s = limited s ++ map (λ (f : ℕ × Expression). f.1) (fields_of s)

-- a value from one number to another
abbrev pub is_between : ℕ → ℕ → ℤ → Bool
is_between low high v = not (int_lt v (pos low)) && not (int_lt (pos high) v)

-- at or above 0 and below a limit, if there is one
abbrev pub is_below : Option ℤ → ℤ → Bool
is_below None v = true
is_below (Some limit) v = not (int_lt v (pos 0)) && int_lt v limit

-- not above a limit, if there is one
abbrev pub is_up_to : Option ℤ → ℤ → Bool
is_up_to None v = true
is_up_to (Some limit) v = not (int_lt limit v)

-- whether a statement's values keep their limits, in a text with so much memory and so many processors
abbrev pub keeps_limits : Names → Option ℤ → Option ℤ → Statement → Bool
keeps_limits ns memory cpus (Direct (SetsMemory e)) = is_between 4096 16777216 (value ns e) && wrapped 12 (value ns e) == 0
keeps_limits ns memory cpus (Direct (SetsCpus e)) = is_between 1 8 (value ns e)
keeps_limits ns memory cpus (Direct (StartsBare p e)) = is_below cpus (value ns p)
keeps_limits ns memory cpus (Direct (StartsTask p s)) = is_below cpus (value ns p)
keeps_limits ns memory cpus (Direct (Plans p s v)) = is_below cpus (value ns p)
keeps_limits ns memory cpus (Direct (Begins n)) = is_up_to memory (pos (wrapped 32 n))
keeps_limits ns memory cpus (Direct (Zeros n)) = not (int_lt n (pos 0))
keeps_limits ns memory cpus _ = true

-- ---- the plan

-- an entry of the plan
abbrev pub entry_of : Names → Expression → Expression → Expression → Planned
entry_of ns p s v = record { step = field_value ns 32 s; cpu = field_value ns 8 p; vector = field_value ns 8 v }

-- the plan entry of a statement
abbrev pub planned : Names → Statement → List Planned
planned ns (Direct (Plans p s v)) = entry_of ns p s v ∷ []
planned ns _ = []

abbrev pub plan_of : Names → Laid → List Planned
plan_of ns l = planned ns l.meaning.statement

-- whether an entry of the plan stands above another: by the processor, and then by the step
abbrev pub is_above : Planned → Planned → Bool
is_above a b = nat_lt b.cpu a.cpu || a.cpu == b.cpu && nat_lt b.step a.step

-- whether each of these stands above the last of those
abbrev pub are_above : List Planned → List Planned → Bool
are_above [] ps = true
are_above (p ∷ qs) ps = fold (λ above before. is_above p before) true ps

-- ---- the kinds

abbrev pub is_org_below : ℕ → Statement → Bool
is_org_below end (Direct (Begins n)) = nat_lt (wrapped 32 n) end
is_org_below end _ = false

-- whether a name among these stands among those
abbrev pub is_defined_in : Names → Names → Bool
is_defined_in ns ms = list_any (λ (n : List ℕ × ℤ). is_some (named ms n.0)) ns

abbrev pub IsUnreached : Names → ℕ → Statement → Type 0
IsUnreached ns place (Operate i) = IsOutOfReach ns place i
IsUnreached ns place _ = ⊥

-- whether a value is outside its field or its limit, or the line ends above the memory
abbrev pub is_out_of_range : List Laid → List Laid → Laid → Bool
is_out_of_range ls before l =
    let ns = names_of ls in
    list_any (λ (f : ℕ × Expression). not (is_in_field f.0 (value ns f.1))) (fields_of l.meaning.statement)
    || not (keeps_limits ns (memory_of ls) (cpus_of ls) l.meaning.statement)
    || not (is_up_to (memory_of ls) (pos (end_of before + length l.bytes)))

-- whether a header is that of an earlier line
abbrev pub is_header_again : Names → List Laid → Laid → Bool
is_header_again ns before l = list_any (λ (b : Laid). same_header (header ns b.meaning.statement) (header ns l.meaning.statement)) before

-- Whether one of these lines has a kind, behind those before it. What the seven kinds of a line alone are: Faults.antt.
-- Own choice: docs/DECISIONS.md, "The assembler's faults"
abbrev pub has : List Laid → List Laid → Laid → AsmKind → Bool
has ls before l kinds.Ascii = has_strange_byte l.text
has ls before l kinds.Token = has_strange_token l.text
has ls before l kinds.Number = has_wrong_number l.text
has ls before l kinds.Mnemonic = has_no_mnemonic (shape_of (solid (tokens_of l.text)))
has ls before l kinds.Operands = has_wrong_operands (shape_of (solid (tokens_of l.text)))
has ls before l kinds.UnknownName = list_any (is_unknown (names_of ls)) (expressions_of l.meaning.statement)
has ls before l kinds.NameTwice = is_defined_in (defined 0 l.meaning) (names_of before)
has ls before l kinds.Directive = has_no_directive (shape_of (solid (tokens_of l.text)))
has ls before l kinds.Arguments = has_wrong_arguments (tokens_of l.text) (shape_of (solid (tokens_of l.text)))
has ls before l kinds.HeaderTwice = is_header_again (names_of ls) before l
has ls before l kinds.HeaderMissing = false
has ls before l kinds.Range = is_out_of_range ls before l
has ls before l kinds.Overlap = is_org_below (end_of before) l.meaning.statement
has ls before l kinds.PlanOrder = not (are_above (plan_of (names_of ls) l) (flat_map (plan_of (names_of ls)) before))

-- The same, and Range also where no spelling reaches the target.
abbrev pub Has : List Laid → List Laid → Laid → AsmKind → Type 0
Has ls before l kinds.Range = IsTrue (is_out_of_range ls before l) ⊎ IsUnreached (names_of ls) (end_of before) l.meaning.statement
Has ls before l kind = IsTrue (has ls before l kind)

abbrev pub IsFaultless : List Laid → List Laid → Laid → Type 0
IsFaultless ls before l = (kind : AsmKind) → ¬ Has ls before l kind

abbrev pub is_empty : List Expression → Bool
is_empty [] = true
is_empty _ = false

-- whether no line sets the memory, or none the number of processors
abbrev pub lacks_header : List Laid → Bool
lacks_header ls = is_empty (header_values memory_set ls) || is_empty (header_values cpus_set ls)

-- a kind's number
abbrev pub kind_number : AsmKind → ℕ
kind_number kinds.Ascii = 1
kind_number kinds.Token = 2
kind_number kinds.Number = 3
kind_number kinds.Mnemonic = 4
kind_number kinds.Operands = 5
kind_number kinds.UnknownName = 6
kind_number kinds.NameTwice = 7
kind_number kinds.Directive = 8
kind_number kinds.Arguments = 9
kind_number kinds.HeaderTwice = 10
kind_number kinds.HeaderMissing = 11
kind_number kinds.Range = 12
kind_number kinds.Overlap = 13
kind_number kinds.PlanOrder = 14

-- The first faulty line, counted from 1, and the least of its kinds. A missing header is seen behind the last line.
-- Own choice: docs/DECISIONS.md, "The assembler's faults"
pub data IsFirstFault (ls : List Laid) : ℕ → AsmKind → Type 0 where
  at_line : (before : List Laid) (l : Laid) (after : List Laid) (kind : AsmKind) → ls ≡ before ++ l ∷ after → EachLine (IsFaultless ls) [] before → Has ls before l kind →
      ((other : AsmKind) → kind_number other < kind_number kind → ¬ Has ls before l other) → IsFirstFault ls (length before + 1) kind
  at_end : EachLine (IsFaultless ls) [] ls → lacks_header ls ≡ true → IsFirstFault ls (length ls + 1) kinds.HeaderMissing

-- ---- the image

-- the sections with more bytes behind them, which begin at 0 where there is no section yet
unfoldable pub with_bytes : List ℕ → List Section → List Section
with_bytes [] ss = ss
with_bytes (b ∷ bs) [] = record { addr = 0; bytes = b ∷ bs } ∷ []
with_bytes (b ∷ bs) (s ∷ []) = record { addr = s.addr; bytes = s.bytes ++ b ∷ bs } ∷ []
with_bytes (b ∷ bs) (s ∷ t ∷ ss) = s ∷ with_bytes (b ∷ bs) (t ∷ ss)

-- where a section begins, if a statement begins one
abbrev pub begins_at : Statement → Option ℕ
begins_at (Direct (Begins n)) = Some (wrapped 32 n)
begins_at _ = None

-- the sections with a statement and its bytes behind them
abbrev pub with_statement : List Section → Statement → List ℕ → List Section
with_statement ss s bytes = elim (begins_at s) [ Some a ↦ ss ++ record { addr = a; bytes = [] } ∷ [] | None ↦ with_bytes bytes ss ]

abbrev pub with_line : List Section → Laid → List Section
with_line ss l = with_statement ss l.meaning.statement l.bytes

-- The sections: `.org` begins one, which may stay empty.
-- Own choice: docs/DECISIONS.md, "The assembler's text"
abbrev pub sections_of : List Laid → List Section
sections_of ls = fold with_line [] ls

-- what a directive sets, or else what was set before
abbrev pub set_by : {A : Type 0} → (Directive → Option A) → Statement → A → A
set_by of (Direct d) before = unwrap_or (of d) before
set_by of _ before = before

abbrev pub table_from : Names → (Directive → Option TableAt) → List Laid → TableAt
table_from ns of ls = fold (λ t (l : Laid). set_by of l.meaning.statement t) (record { base = 0; limit = 0 }) ls

abbrev pub gdt_in : Names → Directive → Option TableAt
gdt_in ns (SetsGdt b l) = Some (record { base = field_value ns 32 b; limit = field_value ns 16 l })
gdt_in ns _ = None

abbrev pub idt_in : Names → Directive → Option TableAt
idt_in ns (SetsIdt b l) = Some (record { base = field_value ns 32 b; limit = field_value ns 16 l })
idt_in ns _ = None

-- the start of a processor that a directive gives: its word, and whether it starts in a task
abbrev pub start_in : Names → ℕ → Directive → Option (ℕ × Bool)
start_in ns cpu (StartsBare p e) = if same_value (value ns p) (pos cpu) then Some (field_value ns 32 e, false) else None
start_in ns cpu (StartsTask p s) = if same_value (value ns p) (pos cpu) then Some (field_value ns 16 s, true) else None
start_in ns cpu _ = None

abbrev pub start_of : Names → List Laid → ℕ → ℕ × Bool
start_of ns ls cpu = fold (λ t (l : Laid). set_by (start_in ns cpu) l.meaning.statement t) (0, false) ls

abbrev pub processors : List ℕ
processors = 0 ∷ 1 ∷ 2 ∷ 3 ∷ 4 ∷ 5 ∷ 6 ∷ 7 ∷ []

abbrev pub number_in : Option ℤ → ℕ
number_in None = 0
number_in (Some v) = wrapped 32 v

-- The image that these lines lay out. A processor that isn't named is bare at 0, and a table that isn't is at 0 with limit 0.
-- Own choice: docs/DECISIONS.md, "The assembler's text"
abbrev pub image_of : List Laid → Image
image_of ls =
    let ns = names_of ls in
    record {
      memory = number_in (memory_of ls);
      cpus = number_in (cpus_of ls);
      flags = fold (λ n cpu. n + (if (start_of ns ls cpu).1 then 2 ^ cpu else 0)) 0 processors;
      gdt = table_from ns (gdt_in ns) ls;
      idt = table_from ns (idt_in ns) ls;
      starts = map (λ cpu. (start_of ns ls cpu).0) processors;
      plan = flat_map (plan_of ns) ls;
      sections = sections_of ls;
    }

-- ---- the layout

-- What a text lays out: the bytes of an image, where no line is faulty, else the first faulty line with its least kind.
-- Own choice: docs/DECISIONS.md, "The assembler's text"
abbrev pub Layout : List ℕ → Result (List ℕ) (ℕ × AsmKind) → Type 0
Layout text (Ok bytes) = (ls : List Laid) × AreLaid text ls × EachLine (IsFaultless ls) [] ls × (lacks_header ls ≡ false) × (bytes ≡ image_text (image_of ls))
Layout text (Err fault) = (ls : List Laid) × AreLaid text ls × IsFirstFault ls fault.0 fault.1
