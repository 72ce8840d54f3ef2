-- The two ways to spell a jump or a call to a target: in two bytes, and in full.
use Rattle.std.specs.Prelude.{ℕ, ◌+◌, ◌≡◌, ◌≢◌, Bool, true, false, List, length}
use Rattle.m386_opmap.specs.declared.name.Name.{Name}
use Rattle.m386_opmap.specs.declared.name.Name.TheVariants.{Loopnz, Loopz, Loop, Jecxz, Jmp, Call}
use Rattle.m386_opmap.specs.declared.op.Arg.{Arg}
use Rattle.m386_opmap.specs.declared.op.Arg.TheVariants.{Rel}
use Rattle.m386_opmap.specs.declared.op.Op.{Op}
use Rattle.m386_opmap.specs.Spelling.{Spells}
use Rattle.m386_encode.specs.Shortest.{IsShortest}
use Rattle.m386_encode.specs.Wide.{IsShortestWide}
use Rattle.m386_lines.specs.Instructions.{Instruction}
use Rattle.m386_asm.specs.Layout.{Names, is_named, op_at}

-- whether an operand is a distance
abbrev pub is_distance : Arg → Bool
is_distance (Rel n) = true
is_distance _ = false

-- How many bytes the full spelling has without a prefix.
-- Source: Intel 80386 PRM 17.2.2.11 (CALL, Jcc, JMP, LOOP/LOOPcond)
abbrev pub full_length : Name → ℕ
full_length Loopnz = 2
full_length Loopz = 2
full_length Loop = 2
full_length Jecxz = 2
full_length Jmp = 5
full_length Call = 5
full_length _ = 6

-- the operation where the instruction has two bytes, and where it has those of the full spelling
abbrev pub near : Names → ℕ → Instruction → Op
near ns place i = op_at ns (place + 2) i

abbrev pub far : Names → ℕ → Instruction → Op
far ns place i = op_at ns (place + full_length i.name) i

-- The shortest spelling, and it has two bytes.
pub record IsShort (ns : Names) (place : ℕ) (i : Instruction) (bytes : List ℕ) : Type 0 where
  pub unnamed : is_named i ≡ false
  pub shortest : IsShortest (near ns place i) bytes
  pub sized : length bytes ≡ 2

-- The shortest spelling, of another length.
pub record IsOtherShort (ns : Names) (place : ℕ) (i : Instruction) : Type 0 where
  pub bytes : List ℕ
  pub shortest : IsShortest (near ns place i) bytes
  pub sized : length bytes ≢ 2

-- Where there is any spelling, the shortest doesn't have two bytes.
pub record HasNoShort (ns : Names) (place : ℕ) (i : Instruction) : Type 0 where
  pub other : is_named i ≡ false → (bytes : List ℕ) → Spells (near ns place i) bytes → IsOtherShort ns place i

-- The shortest wide spelling, and it has the full length.
pub record IsFull (ns : Names) (place : ℕ) (i : Instruction) (bytes : List ℕ) : Type 0 where
  pub shortest : IsShortestWide (far ns place i) bytes
  pub sized : length bytes ≡ full_length i.name

-- The shortest wide spelling, of another length.
pub record IsOtherFull (ns : Names) (place : ℕ) (i : Instruction) : Type 0 where
  pub bytes : List ℕ
  pub shortest : IsShortestWide (far ns place i) bytes
  pub sized : length bytes ≢ full_length i.name

-- Where there is any spelling, the shortest wide one doesn't have the full length.
pub record HasNoFull (ns : Names) (place : ℕ) (i : Instruction) : Type 0 where
  pub other : (bytes : List ℕ) → Spells (far ns place i) bytes → IsOtherFull ns place i
