-- The exceptions of the processor, and the faults that are made of them.
use Rattle.std.specs.Prelude.{ℕ, Some, None}
use Rattle.m386_base.specs.declared.exception.Exception.{Exception}
use Rattle.m386_base.specs.declared.exception.Exception.TheVariants as exceptions
use Rattle.m386_base.specs.declared.fault.Fault.{Fault}

-- The vector of an exception.
-- Source: Intel 80386 PRM 9.8
abbrev pub vector_of : Exception → ℕ
vector_of exceptions.DivideError = 0
vector_of exceptions.Debug = 1
vector_of exceptions.Breakpoint = 3
vector_of exceptions.Overflow = 4
vector_of exceptions.BoundsCheck = 5
vector_of exceptions.InvalidOpcode = 6
vector_of exceptions.CoprocessorNotAvailable = 7
vector_of exceptions.DoubleFault = 8
vector_of exceptions.InvalidTss = 10
vector_of exceptions.SegmentNotPresent = 11
vector_of exceptions.StackFault = 12
vector_of exceptions.GeneralProtection = 13

-- its fault without an error code
abbrev pub fault_of : Exception → Fault
fault_of exception = record { vector = vector_of exception; code = None }

-- Its fault with an error code.
-- Source: Intel 80386 PRM 9.7
abbrev pub coded_fault_of : Exception → ℕ → Fault
coded_fault_of exception code = record { vector = vector_of exception; code = Some code }

-- #UD.
-- Source: Intel 80386 PRM 9.8.6
abbrev pub undefined_opcode_of : Fault
undefined_opcode_of = fault_of exceptions.InvalidOpcode

-- #GP(0).
-- Source: Intel 80386 PRM 9.8.13
abbrev pub general_protection_of : Fault
general_protection_of = coded_fault_of exceptions.GeneralProtection 0
