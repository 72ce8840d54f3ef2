-- TR, loaded by an operand.
use Rattle.std.specs.Prelude.{◌%◌, ◌^◌}
use Rattle.m386_base.specs.declared.number.Width.TheVariants.{W16}
use Rattle.m386_base.specs.Phrase.{Phrase, ◌>>=◌}
use Rattle.m386_state.specs.declared.proc.Proc.{Proc}
use Rattle.m386_access.specs.Operands.{value_phrase, on_one}
use Rattle.m386_access.specs.declared.operands.Operands.{Operands}
use Rattle.m386_access.specs.declared.operands.Place.{Place}
use Rattle.m386_switch.specs.Ltr.{ltr_phrase}

-- The selector, and the claim of its task.
-- Source: Intel 80386 PRM 7.3
unfoldable pub task_operand_phrase : Proc → Place → Phrase Proc
task_operand_phrase p operand = value_phrase W16 p operand >>= (λ selector. ltr_phrase p (selector % 2 ^ 16))

-- LTR.
-- Source: Intel 80386 PRM 17.2.2.11, LTR
unfoldable pub load_task_phrase : Proc → Operands → Phrase Proc
load_task_phrase p operands = on_one operands (task_operand_phrase p)
