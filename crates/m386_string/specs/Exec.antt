-- The operations of this crate.
use Rattle.std.specs.Prelude.{Bool, is_some, Option, Some, None}
use Rattle.m386_base.specs.Exceptions.{undefined_opcode_of}
use Rattle.m386_base.specs.Phrase.{Phrase, Faults}
use Rattle.m386_opmap.specs.declared.op.Op.{Op}
use Rattle.m386_state.specs.declared.proc.Proc.{Proc}
use Rattle.m386_access.specs.Operands.{operands_of}
use Rattle.m386_string.specs.Element.{element_of}
use Rattle.m386_string.specs.Repetition.{string_phrase}
use Rattle.m386_string.specs.declared.element.Element.{Element}

-- whether an operation is one of this crate's
unfoldable pub takes : Op → Bool
takes op = is_some (element_of op.name)

-- the operation of a name that may not be one of this crate's
abbrev pub named_string_phrase : Option Element → Op → Proc → Phrase Proc
named_string_phrase (Some element) op p = string_phrase element op.rep op.width (operands_of op) p
named_string_phrase None op p = Faults undefined_opcode_of

-- An operation of this crate, with EIP behind it: one element, or one turn of a repetition.
-- Source: Intel 80386 PRM 3.6, 17.2.2.11; #UD: docs/DECISIONS.md, "Operations that aren't built"
unfoldable pub exec_phrase : Op → Proc → Phrase Proc
exec_phrase op p = named_string_phrase (element_of op.name) op p
