-- The operations of this crate.
use Rattle.std.specs.Prelude.{Bool, Option, Some, None}
use Rattle.m386_base.specs.Exceptions.{undefined_opcode_of}
use Rattle.m386_base.specs.Phrase.{Phrase, Faults}
use Rattle.m386_opmap.specs.declared.op.Op.{Op}
use Rattle.m386_state.specs.declared.proc.Proc.{Proc}
use Rattle.m386_access.specs.Operands.{operands_of}
use Rattle.m386_segments.specs.Adjust.{adjust_phrase}
use Rattle.m386_segments.specs.Found.{show_phrase, verify_phrase}
use Rattle.m386_segments.specs.Names.{segment_work_of, segment_move_of, is_own}
use Rattle.m386_segments.specs.Pointers.{pointer_phrase}
use Rattle.m386_segments.specs.Registers.{move_phrase}
use Rattle.m386_segments.specs.declared.names.SegmentWork.{SegmentWork}
use Rattle.m386_segments.specs.declared.names.SegmentWork.TheVariants.{Move, Pointer, Show, Verify, Adjust}

-- one case for each kind of work
abbrev pub work_phrase : SegmentWork → Op → Proc → Phrase Proc
work_phrase Move op p = move_phrase (segment_move_of op.args.items) p
work_phrase (Pointer seg) op p = pointer_phrase seg op.width (operands_of op) p
work_phrase (Show what) op p = show_phrase what op.width (operands_of op) p
work_phrase (Verify what) op p = verify_phrase what (operands_of op) p
work_phrase Adjust op p = adjust_phrase (operands_of op) p

-- the work of a name that may not be one of this crate's
abbrev pub named_phrase : Option SegmentWork → Op → Proc → Phrase Proc
named_phrase (Some work) op p = work_phrase work op p
named_phrase None op p = Faults undefined_opcode_of

-- Whether an operation is one of this crate's: by its name, and a MOV only where an operand is a segment register.
unfoldable pub takes : Op → Bool
takes op = is_own (segment_work_of op.name) op.args.items

-- An operation of this crate, with EIP behind it. One whose operands aren't built is #UD.
-- Source: Intel 80386 PRM 17.2.2.11; #UD: docs/DECISIONS.md, "Operations that aren't built"
unfoldable pub exec_phrase : Op → Proc → Phrase Proc
exec_phrase op p = named_phrase (segment_work_of op.name) op p
