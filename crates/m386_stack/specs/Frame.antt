-- LEAVE.
use Rattle.std.specs.Prelude.{ℕ}
use Rattle.m386_base.specs.declared.ask.Role.TheVariants as roles
use Rattle.m386_base.specs.declared.number.Width.{Width}
use Rattle.m386_base.specs.Phrase.{Phrase, Done, ◌>>=◌}
use Rattle.m386_state.specs.declared.proc.Proc.{Proc}
use Rattle.m386_access.specs.After.{register_of, with_register_at}
use Rattle.m386_access.specs.Registers.{ebp}
use Rattle.m386_stack.specs.declared.stack.Stack.{Stack}
use Rattle.m386_stack.specs.Names.{size_of}
use Rattle.m386_stack.specs.Stack.{own_stack, at_pointer, moved, pop_phrase, with_pointer}

-- The top at the frame: ESP from EBP, or SP from BP where SS has B = 0.
-- Source: Intel 80386 PRM 17.2.2.11, LEAVE
abbrev pub frame_stack : Proc → Stack
frame_stack p = at_pointer (own_stack p) (register_of p ebp)

-- the frame left, and EBP or BP as it was popped
abbrev pub behind_leave : Proc → Width → ℕ → Proc
behind_leave p w value = with_register_at w (with_pointer p (moved (frame_stack p) (size_of w))) ebp value

-- LEAVE.
-- Source: Intel 80386 PRM 17.2.2.11, LEAVE
unfoldable pub leave_phrase : Proc → Width → Phrase Proc
leave_phrase p w = do
  value ← pop_phrase roles.Pop (frame_stack p) (size_of w)
  Done (behind_leave p w value)
