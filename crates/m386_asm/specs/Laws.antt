-- What holds of the lines of each text.
use Rattle.std.specs.Prelude.{ℕ, ◌≡◌, List, length, Result}
use Rattle.m386_lines.specs.declared.kind.AsmKind.{AsmKind}
use Rattle.m386_lines.specs.Faults.{meaning_of}
use Rattle.m386_lines.specs.Instructions.{Instruction}
use Rattle.m386_lines.specs.Lines.{Statement, Operate}
use Rattle.m386_asm.specs.Layout.{Names, Makes, Laid, AreLaid, Layout}

-- Each line has bytes, by any names and from any place on.
-- Own choice: docs/DECISIONS.md, "Which spelling is laid out"
abbrev pub LinesHaveBytes : Type 0
LinesHaveBytes = (ns : Names) (place : ℕ) (s : Statement) → (bytes : List ℕ) × Makes ns place s bytes

-- The bytes of an instruction that a line means are as many by any names.
-- Own choice: docs/DECISIONS.md, "Which spelling is laid out"
abbrev pub OperationsKeepLengths : Type 0
OperationsKeepLengths =
    (ns ms : Names) (place : ℕ) (i : Instruction) (line bytes more : List ℕ) → (meaning_of line).statement ≡ Operate i →
    Makes ns place (Operate i) bytes → Makes ms place (Operate i) more → length bytes ≡ length more

-- The lines of a text are laid in one way.
abbrev pub LaidOnce : Type 0
LaidOnce = (text : List ℕ) (ls ms : List Laid) → AreLaid text ls → AreLaid text ms → ls ≡ ms

-- The lines of each text can be laid.
abbrev pub LaidSomehow : Type 0
LaidSomehow = (text : List ℕ) → (ls : List Laid) × AreLaid text ls

-- A text lays out one thing alone.
abbrev pub LaysOutOnce : Type 0
LaysOutOnce = (text : List ℕ) (answer other : Result (List ℕ) (ℕ × AsmKind)) → Layout text answer → Layout text other → answer ≡ other
