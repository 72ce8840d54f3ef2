-- Near jumps, which stay in the code segment.
use Rattle.std.specs.Prelude.{ℕ, ◌+◌, ◌-◌, ◌%◌, ◌^◌, ◌==◌, ◌&&◌, Bool, true, not, if◌then◌else◌, List, [], ◌∷◌, Option, Some, None}
use Rattle.m386_base.specs.declared.number.Flags.{Flags}
use Rattle.m386_base.specs.declared.number.Width.{Width}
use Rattle.m386_base.specs.declared.number.Width.TheVariants.{W8, W16, W32}
use Rattle.m386_base.specs.Exceptions.{general_protection_of}
use Rattle.m386_base.specs.Phrase.{Phrase, Done, Faults, ◌>>=◌}
use Rattle.m386_base.specs.Segments.{cs}
use Rattle.m386_desc.specs.Offsets.{are_offsets}
use Rattle.m386_opmap.specs.declared.name.Name.{Name}
use Rattle.m386_opmap.specs.declared.name.Name.TheVariants as names
use Rattle.m386_opmap.specs.declared.op.Arg.{Arg}
use Rattle.m386_opmap.specs.declared.op.Arg.TheVariants.{Rel}
use Rattle.m386_opmap.specs.declared.op.Op.{Op}
use Rattle.m386_state.specs.declared.proc.Proc.{Proc}
use Rattle.m386_state.specs.Start.{seg_at}
use Rattle.m386_access.specs.After.{at_eip, register_of, with_register}
use Rattle.m386_access.specs.Conditions.{meets, when, unless}
use Rattle.m386_access.specs.Operands.{operands_of, on_one, value_phrase}
use Rattle.m386_access.specs.Registers.{ecx}
use Rattle.m386_access.specs.declared.conditions.Condition.{Condition}
use Rattle.m386_access.specs.declared.conditions.Relation.TheVariants as relations
use Rattle.m386_access.specs.declared.operands.Operands.{Operands}
use Rattle.m386_gates.specs.declared.near.Near.{Near}
use Rattle.m386_gates.specs.declared.near.Near.TheVariants.{Jump, Branch, Loop, Empty}

-- What the operation of a name does, where it is one of this group.
-- Source: Intel 80386 PRM 17.2.2.11, JMP, Jcc, LOOP
abbrev pub near_of : Name → Option Near
near_of names.Jmp = Some Jump
near_of names.Jo = Some (Branch (when relations.Overflow))
near_of names.Jno = Some (Branch (unless relations.Overflow))
near_of names.Jb = Some (Branch (when relations.Below))
near_of names.Jae = Some (Branch (unless relations.Below))
near_of names.Je = Some (Branch (when relations.Equal))
near_of names.Jne = Some (Branch (unless relations.Equal))
near_of names.Jbe = Some (Branch (when relations.BelowOrEqual))
near_of names.Ja = Some (Branch (unless relations.BelowOrEqual))
near_of names.Js = Some (Branch (when relations.Sign))
near_of names.Jns = Some (Branch (unless relations.Sign))
near_of names.Jp = Some (Branch (when relations.Parity))
near_of names.Jnp = Some (Branch (unless relations.Parity))
near_of names.Jl = Some (Branch (when relations.Less))
near_of names.Jge = Some (Branch (unless relations.Less))
near_of names.Jle = Some (Branch (when relations.LessOrEqual))
near_of names.Jg = Some (Branch (unless relations.LessOrEqual))
near_of names.Loop = Some (Loop None)
near_of names.Loopz = Some (Loop (Some (when relations.Equal)))
near_of names.Loopnz = Some (Loop (Some (unless relations.Equal)))
near_of names.Jecxz = Some Empty
near_of _ = None

-- an offset of the code segment
abbrev pub is_in_code : Proc → ℕ → Bool
is_in_code p offset = are_offsets (seg_at p cs).desc offset 1

-- A target by the width of its jump.
-- Source: Intel 80386 PRM 17.2.2.11, JMP
abbrev pub near_target : Width → ℕ → ℕ
near_target W32 offset = offset
near_target W16 offset = offset % 2 ^ 16
near_target W8 offset = offset % 2 ^ 16

-- The state at a target, which lies in the code segment.
-- Source: Intel 80386 PRM 17.2.2.11, JMP; 6.3.1.2
abbrev pub land_phrase : Proc → ℕ → Phrase Proc
land_phrase p target = if is_in_code p target then Done (at_eip p target) else Faults general_protection_of

-- a target that stands in a register or in memory
abbrev pub named_target_phrase : Proc → Width → Operands → Phrase ℕ
named_target_phrase p w operands = on_one operands (λ operand. value_phrase w p operand >>= (λ offset. Done (near_target w offset)))

abbrev pub target_of_args : List Arg → Proc → Op → Phrase ℕ
target_of_args (Rel distance ∷ []) p op = Done (near_target op.width ((p.eip + distance) % 2 ^ 32))
target_of_args _ p op = named_target_phrase p op.width (operands_of op)

-- Where a jump or a call leads, from the end of the instruction, where EIP stands.
-- Source: Intel 80386 PRM 17.2.2.11, CALL, JMP
unfoldable pub target_phrase : Proc → Op → Phrase ℕ
target_phrase p op = target_of_args op.args.items p op

-- JMP.
-- Source: Intel 80386 PRM 17.2.2.11, JMP
unfoldable pub jump_phrase : Proc → Op → Phrase Proc
jump_phrase p op = target_phrase p op >>= (λ target. land_phrase p target)

-- A jump that may be taken. One that isn't leaves EIP whole.
-- Source: Intel 80386 PRM 17.2.2.11, Jcc
unfoldable pub branch_phrase : Proc → Op → Bool → Phrase Proc
branch_phrase p op taken = if taken then jump_phrase p op else Done p

-- with ECX lowered by 1
abbrev pub counted_down : Proc → Proc
counted_down p = with_register p ecx ((register_of p ecx + (2 ^ 32 - 1)) % 2 ^ 32)

abbrev pub meets_any : Option Condition → Flags → Bool
meets_any None flags = true
meets_any (Some condition) flags = meets condition flags

-- A loop goes round with this count.
-- Source: Intel 80386 PRM 17.2.2.11, LOOP
abbrev pub goes_round : ℕ → Option Condition → Flags → Bool
goes_round count condition flags = not (count == 0) && meets_any condition flags

-- A near jump. ECX counts at either width.
-- Source: Intel 80386 PRM 17.2.2.11, Jcc, LOOP; ECX: docs/DECISIONS.md, "Near jumps of 16 bits"
abbrev pub near_phrase : Near → Op → Proc → Phrase Proc
near_phrase Jump op p = jump_phrase p op
near_phrase (Branch condition) op p = branch_phrase p op (meets condition p.eflags)
near_phrase (Loop condition) op p = branch_phrase (counted_down p) op (goes_round (register_of (counted_down p) ecx) condition p.eflags)
near_phrase Empty op p = branch_phrase p op (register_of p ecx == 0)
