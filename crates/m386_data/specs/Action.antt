-- What the operation of each name does, by groups.
use Rattle.std.specs.Prelude.{Option, Some, None}
use Rattle.m386_alu.specs.declared.bit_tests.BitOp.{BitOp}
use Rattle.m386_opmap.specs.declared.name.Name.{Name}
use Rattle.m386_data.specs.Alone.{alone_of}
use Rattle.m386_data.specs.BitStrings.{bit_op_of}
use Rattle.m386_data.specs.Compare.{comparison_of}
use Rattle.m386_data.specs.Moves.{moves_of}
use Rattle.m386_data.specs.Products.{products_of}
use Rattle.m386_data.specs.Update.{update_of}
use Rattle.m386_data.specs.declared.alone.Alone.{Alone}
use Rattle.m386_data.specs.declared.compare.Comparison.{Comparison}
use Rattle.m386_data.specs.declared.moves.Moves.{Moves}
use Rattle.m386_data.specs.declared.products.Products.{Products}
use Rattle.m386_data.specs.declared.update.Update.{Update}
use Rattle.m386_data.specs.declared.action.Action.{Action}
use Rattle.m386_data.specs.declared.action.Action.TheVariants as actions

-- the action of the group that has it
abbrev pub first_action : Option Update → Option Comparison → Option Products → Option BitOp → Option Moves → Option Alone → Option Action
first_action (Some update) comparison products bit moves alone = Some (actions.Update update)
first_action None (Some comparison) products bit moves alone = Some (actions.Comparison comparison)
first_action None None (Some products) bit moves alone = Some (actions.Products products)
first_action None None None (Some bit) moves alone = Some (actions.BitTest bit)
first_action None None None None (Some moves) alone = Some (actions.Moves moves)
first_action None None None None None (Some alone) = Some (actions.Alone alone)
first_action None None None None None None = None

-- What the operation of a name does, where it is one of this crate's.
-- Source: Intel 80386 PRM 17.2.2.11
abbrev pub action_of : Name → Option Action
action_of name = first_action (update_of name) (comparison_of name) (products_of name) (bit_op_of name) (moves_of name) (alone_of name)
