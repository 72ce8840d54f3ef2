-- The tables of rules, each with its exception and whether the error code names the selector, and their one reader.
use Rattle.std.specs.Prelude.{Bool, true, false, List, [], ◌∷◌, if◌then◌else◌, Option, Some, None}
use Rattle.m386_base.specs.declared.exception.Exception.{Exception}
use Rattle.m386_base.specs.declared.exception.Exception.TheVariants.{InvalidTss, SegmentNotPresent, StackFault, GeneralProtection}
use Rattle.m386_base.specs.declared.fault.Fault.{Fault}
use Rattle.m386_base.specs.Exceptions.{coded_fault_of}
use Rattle.m386_base.specs.Phrase.{Phrase, Faults}
use Rattle.m386_segload.specs.declared.rules.Candidate.{Candidate}
use Rattle.m386_segload.specs.declared.rules.Requirement.{Requirement}
use Rattle.m386_segload.specs.declared.rules.Requirement.TheVariants as requirements
use Rattle.m386_segload.specs.declared.rules.Rule.{Rule}
use Rattle.m386_segload.specs.Requirements.{is_met}

abbrev pub rule : Requirement → Exception → Bool → Rule
rule requirement exception named = record { requirement = requirement; exception = exception; named = named }

-- A load of SS; the level is CPL.
-- Source: Intel 80386 PRM 6.3.2, 17.2.2.11, MOV
abbrev pub stack_rules : List Rule
stack_rules =
    rule requirements.NotNull GeneralProtection false
    ∷ rule requirements.InTable GeneralProtection true
    ∷ rule requirements.RplIsLevel GeneralProtection true
    ∷ rule requirements.Writable GeneralProtection true
    ∷ rule requirements.DplIsLevel GeneralProtection true
    ∷ rule requirements.Present StackFault true ∷ []

-- A load of DS, ES, FS or GS by a selector that isn't null; the level is CPL.
-- Source: Intel 80386 PRM 6.3.2, 17.2.2.11, MOV
abbrev pub data_rules : List Rule
data_rules =
    rule requirements.InTable GeneralProtection true
    ∷ rule requirements.Readable GeneralProtection true
    ∷ rule requirements.MayBeData GeneralProtection true
    ∷ rule requirements.Present SegmentNotPresent true ∷ []

-- A load of LDTR by a selector that isn't null.
-- Source: Intel 80386 PRM 17.2.2.11, LLDT
abbrev pub local_table_rules : List Rule
local_table_rules =
    rule requirements.InTable GeneralProtection true
    ∷ rule requirements.LocalTable GeneralProtection true
    ∷ rule requirements.Present SegmentNotPresent true ∷ []

-- A load of TR.
-- Source: Intel 80386 PRM 7.3, 17.2.2.11, LTR
abbrev pub task_rules : List Rule
task_rules =
    rule requirements.NotNull GeneralProtection false
    ∷ rule requirements.InTable GeneralProtection true
    ∷ rule requirements.AvailableTss GeneralProtection true
    ∷ rule requirements.Present SegmentNotPresent true ∷ []

-- The TSS of a stack change to the level: TR may be used, and holds ESP and SS of that level.
-- Source: Intel 80386 PRM 6.3.4.1, 7.1
abbrev pub task_stack_rules : List Rule
task_stack_rules = rule requirements.InTable InvalidTss false ∷ rule requirements.HoldsStack InvalidTss true ∷ []

-- The SS of an inner stack.
-- Source: Intel 80386 PRM 6.3.4.1
abbrev pub inner_stack_rules : List Rule
inner_stack_rules =
    rule requirements.NotNull InvalidTss false
    ∷ rule requirements.InTable InvalidTss true
    ∷ rule requirements.RplIsLevel InvalidTss true
    ∷ rule requirements.DplIsLevel InvalidTss true
    ∷ rule requirements.Writable InvalidTss true
    ∷ rule requirements.Present StackFault true ∷ []

-- The entry of an event in the IDT; the level is CPL for INT n, INT3 and INTO, and else 0.
-- Source: Intel 80386 PRM 9.5, 9.6
abbrev pub event_gate_rules : List Rule
event_gate_rules =
    rule requirements.InTable GeneralProtection true
    ∷ rule requirements.EventGate GeneralProtection true
    ∷ rule requirements.DplAtLeastLevel GeneralProtection true
    ∷ rule requirements.Present SegmentNotPresent true ∷ []

-- The code that a gate leads a CALL or an event to; the level is CPL.
-- Source: Intel 80386 PRM 6.3.4, 9.6.1.4
abbrev pub target_rules : List Rule
target_rules =
    rule requirements.NotNull GeneralProtection false
    ∷ rule requirements.InTable GeneralProtection true
    ∷ rule requirements.Code GeneralProtection true
    ∷ rule requirements.DplAtMostLevel GeneralProtection true
    ∷ rule requirements.Present SegmentNotPresent true ∷ []

-- The code that a gate leads a JMP to; the level is CPL.
-- Source: Intel 80386 PRM 6.3.4
abbrev pub jump_target_rules : List Rule
jump_target_rules =
    rule requirements.NotNull GeneralProtection false
    ∷ rule requirements.InTable GeneralProtection true
    ∷ rule requirements.Code GeneralProtection true
    ∷ rule requirements.DplAtMostLevel GeneralProtection true
    ∷ rule requirements.ConformingOrLevel GeneralProtection true
    ∷ rule requirements.Present SegmentNotPresent true ∷ []

-- A call gate; the level is CPL.
-- Source: Intel 80386 PRM 6.3.4
abbrev pub call_gate_rules : List Rule
call_gate_rules = rule requirements.ReachedFrom GeneralProtection true ∷ rule requirements.Present SegmentNotPresent true ∷ []

-- Code that a far JMP or CALL names itself; the level is CPL.
-- Source: Intel 80386 PRM 6.3.3
abbrev pub direct_rules : List Rule
direct_rules =
    rule requirements.NotNull GeneralProtection false
    ∷ rule requirements.InTable GeneralProtection true
    ∷ rule requirements.Code GeneralProtection true
    ∷ rule requirements.ReachedDirectly GeneralProtection true
    ∷ rule requirements.Present SegmentNotPresent true ∷ []

-- CS of RETF and IRET; the level is CPL.
-- Source: Intel 80386 PRM 6.3.4.2
abbrev pub return_rules : List Rule
return_rules =
    rule requirements.NotNull GeneralProtection false
    ∷ rule requirements.InTable GeneralProtection true
    ∷ rule requirements.RplAtLeastLevel GeneralProtection true
    ∷ rule requirements.Code GeneralProtection true
    ∷ rule requirements.RunsAtRpl GeneralProtection true
    ∷ rule requirements.Present SegmentNotPresent true ∷ []

-- The offset that a transfer leads to.
-- Source: Intel 80386 PRM 6.3.1.2
abbrev pub offset_rules : List Rule
offset_rules = rule requirements.HoldsOffset GeneralProtection false ∷ []

-- how a rule is broken: the error code names the selector, or is 0
abbrev pub broken : Rule → Candidate → Fault
broken r c = coded_fault_of r.exception (if r.named then c.code else 0)

-- The first rule that is broken: the one reader of all tables.
-- Own choice: docs/DECISIONS.md, "The tables of loads"
unfoldable pub first_broken : List Rule → Candidate → Option Fault
first_broken [] c = None
first_broken (r ∷ rs) c = if is_met r.requirement c then first_broken rs c else Some (broken r c)

-- what follows where no rule is broken
abbrev pub need : {A : Type 0} → Option Fault → Phrase A → Phrase A
need (Some fault) t = Faults fault
need None t = t
