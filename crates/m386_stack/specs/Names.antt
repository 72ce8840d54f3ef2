-- Which operations this crate has, and how wide they are.
use Rattle.std.specs.Prelude.{ℕ, Option, Some, None}
use Rattle.m386_base.specs.declared.number.Width.{Width}
use Rattle.m386_base.specs.declared.number.Width.TheVariants.{W8, W16, W32}
use Rattle.m386_opmap.specs.declared.name.Name.{Name}
use Rattle.m386_opmap.specs.declared.name.Name.TheVariants as names
use Rattle.m386_stack.specs.declared.names.StackOp.{StackOp}
use Rattle.m386_stack.specs.declared.names.StackOp.TheVariants.{Push, Pop, PushAll, PopAll, PushFlags, PopFlags, Leave}

-- What the operation of a name does, where it is one of this crate's.
-- Source: Intel 80386 PRM 17.2.2.11, LEAVE, POP, POPA, POPF, PUSH, PUSHA, PUSHF
abbrev pub stack_op_named : Name → Option StackOp
stack_op_named names.Push = Some Push
stack_op_named names.Pop = Some Pop
stack_op_named names.Pusha = Some PushAll
stack_op_named names.Popa = Some PopAll
stack_op_named names.Pushf = Some PushFlags
stack_op_named names.Popf = Some PopFlags
stack_op_named names.Leave = Some Leave
stack_op_named _ = None

-- by name and width: none of them has 8 bits
abbrev pub stack_op_of : Name → Width → Option StackOp
stack_op_of name W8 = None
stack_op_of name W16 = stack_op_named name
stack_op_of name W32 = stack_op_named name

-- how many bytes a push or a pop of this width moves
abbrev pub size_of : Width → ℕ
size_of W8 = 4
size_of W16 = 2
size_of W32 = 4
