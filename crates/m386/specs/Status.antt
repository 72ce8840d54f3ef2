-- The numbers, names and texts of statuses.
use Rattle.std.specs.Prelude.{ℕ, List, [], ◌++◌, codes, decimal}
use Rattle.m386_calls.specs.Usage.{usage_number, usage_name}
use Rattle.m386_image.specs.Fault.{fault_number, fault_name}
use Rattle.m386_asm.specs.Layout.{kind_number}
use Rattle.m386_lines.specs.declared.kind.AsmKind.{AsmKind}
use Rattle.m386_lines.specs.declared.kind.AsmKind.TheVariants as kinds
use Rattle.m386.specs.declared.status.Status.{Status}
use Rattle.m386.specs.declared.status.Status.TheVariants.{Done, Memory, Usage, ReadFault, WriteFault, Image, Asm, TooLong}

-- The names of what is wrong with a line of a source text.
-- Own choice: docs/DECISIONS.md, "The assembler's faults"
unfoldable pub kind_name : AsmKind → List ℕ
kind_name kinds.Ascii = codes "Ascii"
kind_name kinds.Token = codes "Token"
kind_name kinds.Number = codes "Number"
kind_name kinds.Mnemonic = codes "Mnemonic"
kind_name kinds.Operands = codes "Operands"
kind_name kinds.UnknownName = codes "UnknownName"
kind_name kinds.NameTwice = codes "NameTwice"
kind_name kinds.Directive = codes "Directive"
kind_name kinds.Arguments = codes "Arguments"
kind_name kinds.HeaderTwice = codes "HeaderTwice"
kind_name kinds.HeaderMissing = codes "HeaderMissing"
kind_name kinds.Range = codes "Range"
kind_name kinds.Overlap = codes "Overlap"
kind_name kinds.PlanOrder = codes "PlanOrder"

-- The exit status of the program.
-- Own choice: docs/DECISIONS.md, "Statuses"
abbrev pub status_number : Status → ℕ
status_number Done = 0
status_number Memory = 1
status_number (Usage kind) = 2
status_number ReadFault = 3
status_number WriteFault = 4
status_number (Image fault) = 5
status_number (Asm line kind) = 6
status_number TooLong = 7

-- the line of a fault with its number and name, behind the words that begin it
abbrev pub fault_line : List ℕ → ℕ → List ℕ → List ℕ
fault_line begin number name = (begin ++ decimal number ++ codes " ") ++ (name ++ codes "\n")

-- the line of a faulty line of a source text, behind the words that begin it
abbrev pub asm_line : List ℕ → ℕ → AsmKind → List ℕ
asm_line begin line kind = (begin ++ decimal line) ++ fault_line (codes ": fault ") (kind_number kind) (kind_name kind)

-- The line that is written to err: none where the status is Done.
-- Own choice: docs/DECISIONS.md, "Statuses"
unfoldable pub status_line : Status → List ℕ
status_line Done = []
status_line Memory = codes "m386: out of memory\n"
status_line (Usage kind) = fault_line (codes "m386: usage fault ") (usage_number kind) (usage_name kind)
status_line ReadFault = codes "m386: read fault\n"
status_line WriteFault = codes "m386: write fault\n"
status_line (Image fault) = fault_line (codes "m386: image fault ") (fault_number fault) (fault_name fault)
status_line (Asm line kind) = asm_line (codes "m386: line ") line kind
status_line TooLong = codes "m386: input too long\n"
