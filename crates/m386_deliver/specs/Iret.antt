-- The return from a handler, and from a nested task.
use Rattle.std.specs.Prelude.{ℕ, false, ◌%◌, ◌^◌, if◌then◌else◌}
use Rattle.m386_base.specs.declared.ask.Role.TheVariants as roles
use Rattle.m386_base.specs.declared.flags.Flag.TheVariants.{NestedTask}
use Rattle.m386_base.specs.declared.kind.SwitchKind.TheVariants.{Iret}
use Rattle.m386_base.specs.declared.number.Width.{Width}
use Rattle.m386_base.specs.Flags.{has_flag}
use Rattle.m386_base.specs.Phrase.{Phrase, Done, ◌>>=◌}
use Rattle.m386_state.specs.declared.proc.Proc.{Proc}
use Rattle.m386_access.specs.After.{with_flags}
use Rattle.m386_stack.specs.declared.stack.Stack.{Stack}
use Rattle.m386_stack.specs.Flags.{popped_flags}
use Rattle.m386_stack.specs.Names.{size_of}
use Rattle.m386_stack.specs.Stack.{moved, own_stack, pop_phrase}
use Rattle.m386_transfer.specs.declared.executed.Brief.{Brief}
use Rattle.m386_transfer.specs.declared.executed.Executed.{Executed}
use Rattle.m386_transfer.specs.Executed.{simply, switching_phrase}
use Rattle.m386_transfer.specs.Return.{return_phrase}

-- the return to CS:EIP, with the flags of an image as the level of the handler may change them
unfoldable pub behind_image_phrase : Proc → ℕ → ℕ → ℕ → Stack → ℕ → Phrase Proc
behind_image_phrase p selector eip image st len = return_phrase p selector eip st len 0 >>= (λ after. Done (with_flags after (popped_flags p image)))

-- the image of the flags, and the return
unfoldable pub image_phrase : Proc → ℕ → ℕ → Stack → ℕ → Phrase Proc
image_phrase p selector eip st len = pop_phrase roles.Flags st len >>= (λ image. behind_image_phrase p selector eip image (moved st len) len)

-- EIP, CS and the flags, popped in this order.
-- Source: Intel 80386 PRM 9.6.1.1, 17.2.2.11, IRET
unfoldable pub handler_left_phrase : Proc → ℕ → Phrase Proc
handler_left_phrase p len = do
  eip ← pop_phrase roles.Pop (own_stack p) len
  selector ← pop_phrase roles.Pop (moved (own_stack p) len) len
  image_phrase p (selector % 2 ^ 16) eip (moved (moved (own_stack p) len) len) len

-- The switch back to the task that a nested one names as its back link, which the switch reads.
-- Source: Intel 80386 PRM 7.6
abbrev pub back_brief : Brief
back_brief = record { kind = Iret; selector = 0; direct = false; ext = false }

-- IRET: with NT set it is a task switch, and makes no other cycle.
-- Source: Intel 80386 PRM 17.2.2.11, IRET; 7.6
unfoldable pub returned_phrase : Proc → Width → Phrase Executed
returned_phrase p w = if has_flag NestedTask p.eflags then switching_phrase p back_brief else simply (handler_left_phrase p (size_of w))
