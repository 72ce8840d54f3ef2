-- RETF.
use Rattle.std.specs.Prelude.{ℕ, ◌%◌, ◌^◌, Option, Some, None}
use Rattle.m386_base.specs.declared.ask.Role.TheVariants.{Pop}
use Rattle.m386_base.specs.declared.number.Width.{Width}
use Rattle.m386_base.specs.Exceptions.{undefined_opcode_of}
use Rattle.m386_base.specs.Phrase.{Phrase, Faults, ◌>>=◌}
use Rattle.m386_opmap.specs.declared.op.Op.{Op}
use Rattle.m386_state.specs.declared.proc.Proc.{Proc}
use Rattle.m386_stack.specs.declared.stack.Stack.{Stack}
use Rattle.m386_stack.specs.Names.{size_of}
use Rattle.m386_stack.specs.Stack.{own_stack, moved, pop_phrase}
use Rattle.m386_transfer.specs.Return as returns
use Rattle.m386_gates.specs.Calls.{released_of}

-- the stack behind so many popped values
abbrev pub behind_one : Proc → Width → Stack
behind_one p w = moved (own_stack p) (size_of w)

abbrev pub behind_two : Proc → Width → Stack
behind_two p w = moved (behind_one p w) (size_of w)

-- EIP and CS are popped, and the return is made.
-- Source: Intel 80386 PRM 6.3.4.2; 17.2.2.11, RET
unfoldable pub return_far_phrase : Proc → Width → ℕ → Phrase Proc
return_far_phrase p w released = do
  eip ← pop_phrase Pop (own_stack p) (size_of w)
  selector ← pop_phrase Pop (behind_one p w) (size_of w)
  returns.return_phrase p (selector % 2 ^ 16) eip (behind_two p w) (size_of w) released

abbrev pub far_return_by : Option ℕ → Proc → Width → Phrase Proc
far_return_by (Some released) p w = return_far_phrase p w released
far_return_by None p w = Faults undefined_opcode_of

-- RETF.
-- Source: Intel 80386 PRM 17.2.2.11, RET
unfoldable pub far_return_phrase : Proc → Op → Phrase Proc
far_return_phrase p op = far_return_by (released_of op.args.items) p op.width
