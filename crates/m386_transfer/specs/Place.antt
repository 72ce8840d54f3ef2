-- Where a transfer leads, on which stack, and the state there.
use Rattle.std.specs.Prelude.{ℕ, Bool, ◌+◌, ◌*◌, ◌/◌, nat_lt, if◌then◌else◌, Option, Some}
use Rattle.m386_base.specs.declared.desc.Desc.{Desc}
use Rattle.m386_base.specs.declared.fault.Fault.{Fault}
use Rattle.m386_base.specs.Phrase.{Phrase, Done, ◌>>=◌}
use Rattle.m386_base.specs.Segments.{cs}
use Rattle.m386_desc.specs.Access.{dpl_of, is_conforming}
use Rattle.m386_state.specs.declared.proc.Proc.{Proc}
use Rattle.m386_state.specs.Start.{cpl_of}
use Rattle.m386_access.specs.After.{at_eip}
use Rattle.m386_segload.specs.declared.rules.Candidate.{Candidate}
use Rattle.m386_segload.specs.Rules.{first_broken, offset_rules}
use Rattle.m386_segload.specs.Segments.{usable_seg, with_segment}
use Rattle.m386_stack.specs.declared.stack.Stack.{Stack}
use Rattle.m386_stack.specs.Stack.{stack_of, own_stack, with_stack}
use Rattle.m386_switch.specs.Inner.{inner_phrase}
use Rattle.m386_transfer.specs.declared.place.Target.{Target}

-- The level that code runs at where a call or an event leads to it.
-- Source: Intel 80386 PRM 6.3.3, 6.3.4
abbrev pub level_of : Proc → Desc → ℕ
level_of p d = if is_conforming d then cpl_of p else dpl_of d

-- what the rule of an offset is read over
abbrev pub offset_candidate : Target → Candidate
offset_candidate t = record { selector = t.selector; desc = Some t.desc; level = t.level; code = 0; offset = t.offset }

-- The offset lies in the code.
-- Source: Intel 80386 PRM 6.3.1.2
abbrev pub target_fault : Target → Option Fault
target_fault t = first_broken offset_rules (offset_candidate t)

-- the stack that the task state segment names for a level
unfoldable pub stack_of_level_phrase : Proc → ℕ → Bool → Phrase Stack
stack_of_level_phrase p level ext = inner_phrase p level ext >>= (λ found. Done (stack_of found.ss found.esp))

-- The stack of code that runs at a level.
-- Source: Intel 80386 PRM 6.3.4.1
unfoldable pub stack_for_phrase : Proc → ℕ → Bool → Phrase Stack
stack_for_phrase p level ext = if nat_lt level (cpl_of p) then stack_of_level_phrase p level ext else Done (own_stack p)

-- The state at a target on a stack. CS has the new CPL as its RPL.
-- Source: Intel 80386 PRM 6.3.1, 6.3.4
unfoldable pub placed : Proc → Target → Stack → Proc
placed p t st = at_eip (with_stack (with_segment p cs (usable_seg (t.selector / 4 * 4 + t.level) t.desc)) st) t.offset
