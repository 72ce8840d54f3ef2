-- The operations of this crate, by groups.
use Rattle.std.specs.Prelude.{Bool, ◌&&◌, is_some, Option, Some, None}
use Rattle.m386_base.specs.Exceptions.{undefined_opcode_of}
use Rattle.m386_base.specs.Phrase.{Phrase, Done, Faults}
use Rattle.m386_opmap.specs.declared.op.Op.{Op}
use Rattle.m386_state.specs.declared.proc.Proc.{Proc}
use Rattle.m386_access.specs.Operands.{manner_of, operands_of, are_general}
use Rattle.m386_access.specs.declared.operands.Manner.{Manner}
use Rattle.m386_access.specs.declared.operands.Operands.{Operands}
use Rattle.m386_data.specs.Alone.{done_alone}
use Rattle.m386_data.specs.BitStrings.{bit_test_phrase}
use Rattle.m386_data.specs.Compare.{comparison_phrase}
use Rattle.m386_data.specs.Moves.{moves_phrase}
use Rattle.m386_data.specs.Products.{products_phrase}
use Rattle.m386_data.specs.Update.{update_phrase}
use Rattle.m386_data.specs.Action.{action_of}
use Rattle.m386_data.specs.declared.action.Action.{Action}
use Rattle.m386_data.specs.declared.action.Action.TheVariants as actions

-- one case for each group
abbrev pub action_phrase : Action → Manner → Operands → Proc → Phrase Proc
action_phrase (actions.Update update) m operands p = update_phrase update m operands p
action_phrase (actions.Comparison comparison) m operands p = comparison_phrase comparison m operands p
action_phrase (actions.Products products) m operands p = products_phrase products m operands p
action_phrase (actions.BitTest op) m operands p = bit_test_phrase op m operands p
action_phrase (actions.Moves moves) m operands p = moves_phrase moves m operands p
action_phrase (actions.Alone alone) m operands p = Done (done_alone alone m.width p)

-- the action of a name that may not be one of this crate's
abbrev pub named_phrase : Option Action → Manner → Operands → Proc → Phrase Proc
named_phrase (Some action) m operands p = action_phrase action m operands p
named_phrase None m operands p = Faults undefined_opcode_of

-- Whether an operation is one of this crate's: by its name, and with no operands but general registers, numbers and memory.
unfoldable pub takes : Op → Bool
takes op = is_some (action_of op.name) && are_general (operands_of op)

-- An operation of this crate, with EIP behind it. One whose operands aren't built is #UD.
-- Source: Intel 80386 PRM 17.2.2.11; #UD: docs/DECISIONS.md, "Operations that aren't built"
unfoldable pub exec_phrase : Op → Proc → Phrase Proc
exec_phrase op p = named_phrase (action_of op.name) (manner_of op) (operands_of op) p
