-- Far JMP and CALL: to code that the selector names itself, through a call gate, and to a task, by itself or through a task gate.
use Rattle.std.specs.Prelude.{ℕ, Bool, true, false, List, [], ◌∷◌, if◌then◌else◌, Option, Some, None}
use Rattle.m386_base.specs.declared.desc.Desc.{Desc}
use Rattle.m386_base.specs.declared.kind.SwitchKind.{SwitchKind}
use Rattle.m386_base.specs.declared.kind.SwitchKind.TheVariants as switches
use Rattle.m386_base.specs.declared.number.Width.{Width}
use Rattle.m386_base.specs.declared.number.Width.TheVariants.{W32}
use Rattle.m386_base.specs.Exceptions.{undefined_opcode_of}
use Rattle.m386_base.specs.Phrase.{Phrase, Done, Faults, ◌>>=◌}
use Rattle.m386_base.specs.Segments.{cs}
use Rattle.m386_desc.specs.declared.gate.Gate4.{Gate4}
use Rattle.m386_desc.specs.declared.kind.Kind.{Kind}
use Rattle.m386_desc.specs.declared.kind.Kind.TheVariants as kinds
use Rattle.m386_desc.specs.Access.{kind_of}
use Rattle.m386_desc.specs.Selector.{code_of}
use Rattle.m386_opmap.specs.declared.op.Arg.{Arg}
use Rattle.m386_opmap.specs.declared.op.Arg.TheVariants as args
use Rattle.m386_opmap.specs.declared.op.Op.{Op}
use Rattle.m386_state.specs.declared.proc.Proc.{Proc}
use Rattle.m386_state.specs.Start.{cpl_of, seg_at}
use Rattle.m386_segload.specs.declared.rules.Candidate.{Candidate}
use Rattle.m386_segload.specs.Load.{load_desc_phrase, candidate_for, judge_phrase, take_phrase}
use Rattle.m386_segload.specs.Rules.{first_broken, need, call_gate_rules, direct_rules, target_rules, jump_target_rules}
use Rattle.m386_segload.specs.Segments.{or_zeros}
use Rattle.m386_segload.specs.Tables.{place_for, table_role}
use Rattle.m386_stack.specs.declared.stack.Stack.{Stack}
use Rattle.m386_stack.specs.Names.{size_of}
use Rattle.m386_stack.specs.Stack.{own_stack, pushes}
use Rattle.m386_transfer.specs.declared.executed.Brief.{Brief}
use Rattle.m386_transfer.specs.declared.executed.Executed.{Executed}
use Rattle.m386_transfer.specs.declared.place.Target.{Target}
use Rattle.m386_transfer.specs.Executed.{simply, switching_phrase}
use Rattle.m386_transfer.specs.Gate.{gate_of}
use Rattle.m386_transfer.specs.Place.{level_of, target_fault, stack_for_phrase, placed}
use Rattle.m386_gates.specs.declared.far.Destination.{Destination}
use Rattle.m386_gates.specs.declared.far.Destination.TheVariants as destinations
use Rattle.m386_gates.specs.declared.far.Far.{Far}
use Rattle.m386_gates.specs.declared.far.Far.TheVariants.{Jump, Call}
use Rattle.m386_segload.specs.declared.pointer.FarPointer.{FarPointer}
use Rattle.m386_segload.specs.Pointer.{far_pointer, read_pointer_phrase}
use Rattle.m386_gates.specs.Copies.{carried_phrase}
use Rattle.m386_gates.specs.Near.{near_target}

abbrev pub pointer_in : List Arg → Proc → Width → Phrase FarPointer
pointer_in (args.Far selector offset ∷ []) p w = Done (far_pointer selector offset)
pointer_in (args.Mem a ∷ []) p w = read_pointer_phrase p w a
pointer_in _ p w = Faults undefined_opcode_of

-- The far pointer of an operation, in the instruction or in memory.
-- Source: Intel 80386 PRM 17.2.2.11, CALL, JMP
unfoldable pub pointer_phrase : Proc → Op → Phrase FarPointer
pointer_phrase p op = pointer_in op.args.items p op.width

-- The state at a target. A CALL pushes CS and EIP first.
-- Source: Intel 80386 PRM 17.2.2.11, CALL, JMP
abbrev pub linked_phrase : Far → Proc → Width → Target → Stack → Phrase Proc
linked_phrase Jump p w t st = Done (placed p t st)
linked_phrase Call p w t st = pushes st (size_of w) ((seg_at p cs).selector ∷ near_target w p.eip ∷ []) >>= (λ top. Done (placed p t top))

-- a target at CPL
abbrev pub direct_target : Proc → ℕ → Desc → ℕ → Target
direct_target p selector d offset = record { selector = selector; desc = d; level = cpl_of p; offset = offset }

-- Code that the selector names itself.
-- Source: Intel 80386 PRM 6.3.3
unfoldable pub direct_phrase : Proc → Far → Width → ℕ → Candidate → Phrase Proc
direct_phrase p far w offset c = do
  d ← judge_phrase direct_rules (place_for p c.selector) c
  need (target_fault (direct_target p c.selector d offset)) (linked_phrase far p w (direct_target p c.selector d offset) (own_stack p))

-- The code that a gate leads to. For a JMP it runs at CPL.
-- Source: Intel 80386 PRM 6.3.4
abbrev pub gate_target_phrase : Far → Proc → ℕ → Phrase Desc
gate_target_phrase Jump p selector = take_phrase jump_target_rules p (cpl_of p) false selector
gate_target_phrase Call p selector = take_phrase target_rules p (cpl_of p) false selector

-- behind the stack change: the offset is tested, and what a changed stack carries goes before CS and EIP
unfoldable pub arrive_phrase : Proc → Far → ℕ → Target → Stack → Phrase Proc
arrive_phrase p far count t st = need (target_fault t) (carried_phrase p t.level count st >>= (λ top. linked_phrase far p W32 t top))

-- the stack of the level that a gate leads to, and what follows
unfoldable pub through_stack_phrase : Proc → Far → ℕ → Target → Phrase Proc
through_stack_phrase p far count t = stack_for_phrase p t.level false >>= (λ st. arrive_phrase p far count t st)

abbrev pub gate_at : Proc → Gate4 → Desc → Target
gate_at p g d = record { selector = g.selector; desc = d; level = level_of p d; offset = g.offset }

-- Through a gate that may be used. Its pushes have 4 bytes each at either width.
-- Source: Intel 80386 PRM 6.3.4, 6.3.4.1; the pushes: docs/DECISIONS.md, "Calls and returns"
unfoldable pub through_phrase : Proc → Far → Gate4 → Phrase Proc
through_phrase p far g = gate_target_phrase far p g.selector >>= (λ d. through_stack_phrase p far g.count (gate_at p g d))

-- A call gate: its rules, and what follows.
-- Source: Intel 80386 PRM 6.3.4
unfoldable pub gate_phrase : Proc → Far → Candidate → Phrase Proc
gate_phrase p far c = need (first_broken call_gate_rules c) (through_phrase p far (gate_of (or_zeros c.desc)))

-- A TSS may be busy or available. Each type that is none of the three is tried as code.
abbrev pub destination_by : Kind → Destination
destination_by kinds.CallGate = destinations.CallGate
destination_by kinds.TaskGate = destinations.TaskGate
destination_by (kinds.Tss busy) = destinations.Task
destination_by _ = destinations.Code

-- Where a far transfer leads to, by the type of the descriptor that was found.
-- Source: Intel 80386 PRM 6.3.3, 6.3.4, 7.5
abbrev pub destination_of : Option Desc → Destination
destination_of None = destinations.Code
destination_of (Some d) = destination_by (kind_of d)

-- what makes the switch
abbrev pub switch_kind_of : Far → SwitchKind
switch_kind_of Jump = switches.Jmp
switch_kind_of Call = switches.Call

-- The switch to the task of a TSS, by whether the transfer names the TSS itself or a gate does.
-- Source: Intel 80386 PRM 7.5
abbrev pub task_brief : Far → ℕ → Bool → Brief
task_brief far selector direct = record { kind = switch_kind_of far; selector = selector; direct = direct; ext = false }

-- A task gate: its rules, which are those of a call gate, and the switch to the task that it names. The privilege of its TSS isn't
-- tested.
-- Source: Intel 80386 PRM 7.4, 7.5
unfoldable pub task_gate_phrase : Proc → Far → Candidate → Phrase Executed
task_gate_phrase p far c = need (first_broken call_gate_rules c) (switching_phrase p (task_brief far (gate_of (or_zeros c.desc)).selector false))

-- A switch reads the descriptor of its TSS anew.
abbrev pub to_destination_phrase : Destination → Proc → Far → Width → ℕ → Candidate → Phrase Executed
to_destination_phrase destinations.Code p far w offset c = simply (direct_phrase p far w offset c)
to_destination_phrase destinations.CallGate p far w offset c = simply (gate_phrase p far c)
to_destination_phrase destinations.Task p far w offset c = switching_phrase p (task_brief far c.selector true)
to_destination_phrase destinations.TaskGate p far w offset c = task_gate_phrase p far c

-- By the type of what was found.
-- Source: Intel 80386 PRM 6.3.3, 6.3.4, 7.5
unfoldable pub by_type_phrase : Proc → Far → Width → ℕ → Candidate → Phrase Executed
by_type_phrase p far w offset c = to_destination_phrase (destination_of c.desc) p far w offset c

-- what the rules for a selector are read over
abbrev pub far_candidate : Proc → ℕ → Option Desc → Candidate
far_candidate p selector found = candidate_for (cpl_of p) (code_of selector false) selector found

-- By its pointer. The descriptor is read before any rule is tested.
-- Source: Intel 80386 PRM 17.2.2.11, CALL, JMP; the order: docs/DECISIONS.md, "Calls and returns"
unfoldable pub far_to_phrase : Proc → Far → Width → FarPointer → Phrase Executed
far_to_phrase p far w to = do
  found ← load_desc_phrase p to.selector (table_role to.selector)
  by_type_phrase p far w to.offset (far_candidate p to.selector found)

-- Far JMP or CALL.
-- Source: Intel 80386 PRM 17.2.2.11, CALL, JMP
unfoldable pub far_phrase : Proc → Far → Op → Phrase Executed
far_phrase p far op = pointer_phrase p op >>= (λ to. far_to_phrase p far op.width to)
