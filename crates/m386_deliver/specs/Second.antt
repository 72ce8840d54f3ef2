-- What becomes of a fault that is met while an event is delivered.
use Rattle.std.specs.Prelude.{ℕ, ◌==◌, ◌||◌, ◌&&◌, nat_le, if◌then◌else◌, Option, Some, None}
use Rattle.m386_base.specs.declared.exception.Exception.TheVariants.{DoubleFault}
use Rattle.m386_base.specs.declared.fault.Fault.{Fault}
use Rattle.m386_base.specs.Exceptions.{coded_fault_of}
use Rattle.m386_state.specs.declared.event.Cause.{Cause}
use Rattle.m386_state.specs.declared.event.Cause.TheVariants as causes
use Rattle.m386_state.specs.declared.event.Event.{Event}
use Rattle.m386_deliver.specs.declared.second.FaultClass.{FaultClass}
use Rattle.m386_deliver.specs.declared.second.FaultClass.TheVariants.{Benign, Contributory, Double}

-- The class of an exception: the division error, and the invalid TSS, the segment that isn't present, the stack fault and general
-- protection are contributory.
-- Source: Intel 80386 PRM 9.8.8
abbrev pub class_of : ℕ → FaultClass
class_of vector =
    if vector == 8 then Double
    else if (vector == 0) || (nat_le 10 vector && nat_le vector 13) then Contributory
    else Benign

-- An interrupt, of a program or from outside, is benign whatever its vector.
-- Own choice: docs/DECISIONS.md, "The class of an interrupt"
abbrev pub class_by : Cause → ℕ → FaultClass
class_by causes.Exception vector = class_of vector
class_by _ vector = Benign

-- the event of a fault
abbrev pub event_of : Fault → Event
event_of f = record { vector = f.vector; code = f.code; cause = causes.Exception }

-- Its error code is 0.
-- Source: Intel 80386 PRM 9.8.8
abbrev pub double_fault : Event
double_fault = event_of (coded_fault_of DoubleFault 0)

-- By the classes of what was being delivered and of the fault. None is a shutdown.
-- Source: Intel 80386 PRM 9.8.8
abbrev pub second_by : FaultClass → FaultClass → Fault → Option Event
second_by Double _ f = None
second_by Contributory Contributory f = Some double_fault
second_by Contributory Benign f = Some (event_of f)
second_by Contributory Double f = Some (event_of f)
second_by Benign _ f = Some (event_of f)

-- The event that is pending behind a fault met while the first was delivered.
-- Source: Intel 80386 PRM 9.8.8
abbrev pub second_of : Event → Fault → Option Event
second_of first f = second_by (class_by first.cause first.vector) (class_of f.vector) f
