-- The bytes that may stand before an opcode, and what they say.
use Rattle.std.specs.Prelude.{ℕ, ◌==◌, Bool, false, ◌||◌, List, [], ◌∷◌, Option, Some, None, unwrap_or, if◌then◌else◌}
use Rattle.std.specs.List.{list_any}
use Rattle.m386_opmap.specs.declared.op.Rep.{Rep}
use Rattle.m386_opmap.specs.declared.op.Rep.TheVariants.{Once, Equal, NotEqual}
use Rattle.m386_opmap.specs.declared.fields.Prefixes.{Prefixes}

-- the segment register that a byte names as a prefix: ES, CS, SS, DS, FS, GS
abbrev pub segment_named : ℕ → Option ℕ
segment_named b =
    if b == 0x26 then Some 0 else if b == 0x2e then Some 1 else if b == 0x36 then Some 2
    else if b == 0x3e then Some 3 else if b == 0x64 then Some 4 else if b == 0x65 then Some 5 else None

-- how a byte repeats a string operation, as a prefix
abbrev pub rep_named : ℕ → Option Rep
rep_named b = if b == 0xf3 then Some Equal else if b == 0xf2 then Some NotEqual else None

-- the bytes that may stand before an opcode: the segments, 66h for the operand size, LOCK, and the repetitions
abbrev pub prefix_bytes : List ℕ
prefix_bytes = 0x26 ∷ 0x2e ∷ 0x36 ∷ 0x3e ∷ 0x64 ∷ 0x65 ∷ 0x66 ∷ 0xf0 ∷ 0xf2 ∷ 0xf3 ∷ []

-- Whether a byte is a prefix.
-- Source: Intel 80386 PRM 17.2.1
unfoldable pub is_prefix : ℕ → Bool
is_prefix b = list_any (λ p. b == p) prefix_bytes

-- the second, or else the first
abbrev pub later : {X : Type 0} → Option X → Option X → Option X
later first None = first
later first (Some x) = Some x

-- what the last of the bytes names that names anything
abbrev pub last_of : {X : Type 0} → (ℕ → Option X) → List ℕ → Option X
last_of named [] = None
last_of named (b ∷ bs) = later (named b) (last_of named bs)

-- What prefixes say, in whatever order they stand: the last of a kind holds.
-- Source: Intel 80386 PRM 17.2.1; the last of a kind: docs/DECISIONS.md, "Prefixes"
unfoldable pub prefixes_of : List ℕ → Prefixes
prefixes_of bs =
    record {
      seg = last_of segment_named bs;
      narrow = list_any (λ b. b == 0x66) bs;
      lock = list_any (λ b. b == 0xf0) bs;
      rep = unwrap_or (last_of rep_named bs) Once;
    }

-- what prefixes say before the first
abbrev pub no_prefixes : Prefixes
no_prefixes = record { seg = None; narrow = false; lock = false; rep = Once }

-- what prefixes say with one more behind them
unfoldable pub with_prefix : Prefixes → ℕ → Prefixes
with_prefix said b =
    record {
      seg = later said.seg (segment_named b);
      narrow = said.narrow || (b == 0x66);
      lock = said.lock || (b == 0xf0);
      rep = unwrap_or (rep_named b) said.rep;
    }
