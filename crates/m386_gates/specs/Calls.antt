-- Near calls and returns.
use Rattle.std.specs.Prelude.{ℕ, ◌%◌, ◌^◌, if◌then◌else◌, List, [], ◌∷◌, Option, Some, None}
use Rattle.m386_base.specs.declared.ask.Role.TheVariants.{Pop}
use Rattle.m386_base.specs.declared.number.Width.{Width}
use Rattle.m386_base.specs.Exceptions.{undefined_opcode_of, general_protection_of}
use Rattle.m386_base.specs.Phrase.{Phrase, Done, Faults, ◌>>=◌}
use Rattle.m386_opmap.specs.declared.op.Arg.{Arg}
use Rattle.m386_opmap.specs.declared.op.Arg.TheVariants.{Imm}
use Rattle.m386_opmap.specs.declared.op.Op.{Op}
use Rattle.m386_state.specs.declared.proc.Proc.{Proc}
use Rattle.m386_access.specs.After.{at_eip}
use Rattle.m386_stack.specs.Names.{size_of}
use Rattle.m386_stack.specs.Stack.{own_stack, moved, push_phrase, pop_phrase, with_pointer}
use Rattle.m386_gates.specs.Near.{is_in_code, near_target, land_phrase, target_phrase}

-- How many bytes of parameters a return releases.
-- Source: Intel 80386 PRM 17.2.2.11, RET
abbrev pub released_of : List Arg → Option ℕ
released_of [] = Some 0
released_of (Imm bytes ∷ []) = Some (bytes % 2 ^ 16)
released_of _ = None

-- The target lies in the code segment, the return address is pushed, and the state is at the target.
-- Source: Intel 80386 PRM 17.2.2.11, CALL; 6.3.1.2
unfoldable pub enter_phrase : Proc → Width → ℕ → Phrase Proc
enter_phrase p w target =
    if is_in_code p target then (push_phrase (own_stack p) (size_of w) (near_target w p.eip) >>= (λ st. Done (at_eip (with_pointer p st) target)))
    else Faults general_protection_of

-- CALL.
-- Source: Intel 80386 PRM 17.2.2.11, CALL
unfoldable pub call_phrase : Proc → Op → Phrase Proc
call_phrase p op = target_phrase p op >>= (λ target. enter_phrase p op.width target)

-- The return address is popped, and then tested.
-- Source: Intel 80386 PRM 17.2.2.11, RET; the order: docs/DECISIONS.md, "Calls and returns"
unfoldable pub return_near_phrase : Proc → Width → ℕ → Phrase Proc
return_near_phrase p w released = do
  offset ← pop_phrase Pop (own_stack p) (size_of w)
  land_phrase (with_pointer p (moved (moved (own_stack p) (size_of w)) released)) offset

abbrev pub return_by : Option ℕ → Proc → Width → Phrase Proc
return_by (Some released) p w = return_near_phrase p w released
return_by None p w = Faults undefined_opcode_of

-- RET.
-- Source: Intel 80386 PRM 17.2.2.11, RET
unfoldable pub return_phrase : Proc → Op → Phrase Proc
return_phrase p op = return_by (released_of op.args.items) p op.width
