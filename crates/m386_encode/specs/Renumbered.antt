-- Operations that differ in their numbers alone, and how long their wide spellings are.
use Rattle.std.specs.Prelude.{ℕ, ◌≡◌, List, map, length}
use Rattle.m386_opmap.specs.declared.op.Arg.{Arg}
use Rattle.m386_opmap.specs.declared.op.Arg.TheVariants.{Reg, Seg, Imm, Mem, Rel, Far}
use Rattle.m386_opmap.specs.declared.op.Arg.TheVariants as args
use Rattle.m386_opmap.specs.declared.op.Op.{Op}
use Rattle.m386_encode.specs.Wide.{IsShortestWide}

-- an operand with 0 for each number in it: a value, a displacement, a distance, a far pointer
abbrev pub blank : Arg → Arg
blank (Reg n) = Reg n
blank (Seg n) = Seg n
blank args.Cr0 = args.Cr0
blank (Imm n) = Imm 0
blank (Mem a) = Mem (record { seg = a.seg; base = a.base; index = a.index; scale = a.scale; disp = 0 })
blank (Rel n) = Rel 0
blank (Far selector offset) = Far 0 0

-- Two operations are the same but for the numbers of their operands.
pub record IsRenumbered (op other : Op) : Type 0 where
  pub name : op.name ≡ other.name
  pub width : op.width ≡ other.width
  pub args : map blank op.args.items ≡ map blank other.args.items
  pub lock : op.lock ≡ other.lock
  pub rep : op.rep ≡ other.rep

-- The shortest wide spellings of operations that differ in their numbers alone are equally long.
-- Own choice: docs/DECISIONS.md, "Which spelling is written"
abbrev pub KeepsLength : Type 0
KeepsLength = (op other : Op) (bytes more : List ℕ) → IsRenumbered op other → IsShortestWide op bytes → IsShortestWide other more → length bytes ≡ length more
