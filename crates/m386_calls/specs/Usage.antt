-- The numbers and names of what is wrong with words.
use Rattle.std.specs.Prelude.{ℕ, List, codes}
use Rattle.m386_calls.specs.declared.usage.UsageKind.{UsageKind}
use Rattle.m386_calls.specs.declared.usage.UsageKind.TheVariants.{Command, Line, Value, Cpus, Budget}

-- Own choice: docs/DECISIONS.md, "Statuses"
abbrev pub usage_number : UsageKind → ℕ
usage_number Command = 1
usage_number Line = 2
usage_number Value = 3
usage_number Cpus = 4
usage_number Budget = 5

abbrev pub usage_name : UsageKind → List ℕ
usage_name Command = codes "Command"
usage_name Line = codes "Line"
usage_name Value = codes "Value"
usage_name Cpus = codes "Cpus"
usage_name Budget = codes "Budget"
