-- The faults of an image file: their numbers and names, and when each stands.
use Rattle.std.specs.Prelude.{◌≡◌, ◌≢◌, ℕ, ◌<◌, false, List, [], length, take, codes}
use Rattle.m386_image.specs.declared.fault.ImageFault.{ImageFault}
use Rattle.m386_image.specs.declared.fault.ImageFault.TheVariants.{ShortHeader, Magic, Version, MemorySize, Processors, Flags, Truncated, PlanOrder, Trailing}
use Rattle.m386_image.specs.declared.fault.ImageFault.TheVariants as faults
use Rattle.m386_image.specs.declared.image.Section.{Section}
use Rattle.m386_image.specs.Format.{version_of, cpus_of, flags_of, memory_of, plan_in, are_ordered, IsMemorySize, IsCpuCount, AreFlags, HasSections, ArePlaced}

-- A fault's number. Of faults that stand together the one with the least number is told.
-- Own choice: docs/DECISIONS.md, "The image file"
abbrev pub fault_number : ImageFault → ℕ
fault_number ShortHeader = 1
fault_number Magic = 2
fault_number Version = 3
fault_number MemorySize = 4
fault_number Processors = 5
fault_number Flags = 6
fault_number Truncated = 7
fault_number PlanOrder = 8
fault_number faults.Section = 9
fault_number Trailing = 10

-- A fault's name.
-- Own choice: docs/DECISIONS.md, "The image file"
abbrev pub fault_name : ImageFault → List ℕ
fault_name ShortHeader = codes "ShortHeader"
fault_name Magic = codes "Magic"
fault_name Version = codes "Version"
fault_name MemorySize = codes "MemorySize"
fault_name Processors = codes "Processors"
fault_name Flags = codes "Flags"
fault_name Truncated = codes "Truncated"
fault_name PlanOrder = codes "PlanOrder"
fault_name faults.Section = codes "Section"
fault_name Trailing = codes "Trailing"

-- When a fault stands. Truncated says that the bytes end within the plan's entries and the sections that the header
-- counts: no sections stand there whole.
-- Own choice: docs/DECISIONS.md, "The image file"
abbrev pub Stands : List ℕ → ImageFault → Type 0
Stands bytes ShortHeader = length bytes < 64
Stands bytes Magic = take 4 bytes ≢ codes "M386"
Stands bytes Version = version_of bytes ≢ 1
Stands bytes MemorySize = ¬ IsMemorySize (memory_of bytes)
Stands bytes Processors = ¬ IsCpuCount (cpus_of bytes)
Stands bytes Flags = ¬ AreFlags (cpus_of bytes) (flags_of bytes)
Stands bytes Truncated = (ss : List Section) (rest : List ℕ) → ¬ HasSections bytes ss rest
Stands bytes PlanOrder = are_ordered (cpus_of bytes) 0 (plan_in bytes) ≡ false
Stands bytes faults.Section = (ss : List Section) × (rest : List ℕ) × HasSections bytes ss rest × ¬ ArePlaced 0 (memory_of bytes) ss
Stands bytes Trailing = (ss : List Section) × (rest : List ℕ) × HasSections bytes ss rest × (rest ≢ [])

-- no fault with a number below n stands
abbrev pub NoneBelow : ℕ → List ℕ → Type 0
NoneBelow n bytes = (f : ImageFault) → fault_number f < n → ¬ Stands bytes f

-- The fault that is told: it stands, and none with a smaller number does.
-- Own choice: docs/DECISIONS.md, "The image file"
pub record FirstFault (bytes : List ℕ) (f : ImageFault) : Type 0 where
  pub stands : Stands bytes f
  pub none_before : NoneBelow (fault_number f) bytes
