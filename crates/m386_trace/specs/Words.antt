-- The words of the report.
use Rattle.std.specs.Prelude.{ℕ, Bool, true, false, List, codes}
use Rattle.m386_base.specs.declared.ask.Space.{Space}
use Rattle.m386_base.specs.declared.ask.Space.TheVariants.{Memory, Port}
use Rattle.m386_base.specs.declared.ask.Role.{Role}
use Rattle.m386_base.specs.declared.ask.Role.TheVariants.{Fetch, Operand, Push, Pop, Flags, Gdt, Ldt, Idt, GdtAcc, LdtAcc, Tss, ClaimJmp, ClaimCall, ClaimStart, ClaimLtr, Save, Link, Back, RelJmp, RelRet, Load, Inner, Map, Lgdt, Lidt}
use Rattle.m386_state.specs.declared.proc.Mode.{Mode}
use Rattle.m386_state.specs.declared.proc.Mode.TheVariants.{Running, Halted, Shutdown}

-- A cycle's role.
-- Own choice: docs/DECISIONS.md, "The report"
abbrev pub role_word : Role → List ℕ
role_word Fetch = codes "fetch"
role_word Operand = codes "data"
role_word Push = codes "push"
role_word Pop = codes "pop"
role_word Flags = codes "flags"
role_word Gdt = codes "gdt"
role_word Ldt = codes "ldt"
role_word Idt = codes "idt"
role_word GdtAcc = codes "gdtacc"
role_word LdtAcc = codes "ldtacc"
role_word Tss = codes "tss"
role_word ClaimJmp = codes "claimjmp"
role_word ClaimCall = codes "claimcall"
role_word ClaimStart = codes "claimstart"
role_word ClaimLtr = codes "claimltr"
role_word Save = codes "save"
role_word Link = codes "link"
role_word Back = codes "back"
role_word RelJmp = codes "reljmp"
role_word RelRet = codes "relret"
role_word Load = codes "load"
role_word Inner = codes "inner"
role_word Map = codes "map"
role_word Lgdt = codes "lgdt"
role_word Lidt = codes "lidt"

-- The space of a cycle.
-- Own choice: docs/DECISIONS.md, "The report"
abbrev pub space_word : Space → List ℕ
space_word Memory = codes "m"
space_word Port = codes "p"

-- Whether a cycle writes.
-- Own choice: docs/DECISIONS.md, "The report"
abbrev pub write_word : Bool → List ℕ
write_word true = codes "w"
write_word false = codes "r"

-- Whether a cycle is joined to the one before it.
-- Own choice: docs/DECISIONS.md, "The report"
abbrev pub joined_word : Bool → List ℕ
joined_word true = codes "+"
joined_word false = codes "."

-- A processor's mode.
-- Own choice: docs/DECISIONS.md, "The report"
abbrev pub mode_word : Mode → List ℕ
mode_word Running = codes "running"
mode_word Halted = codes "halted"
mode_word Shutdown = codes "shutdown"
