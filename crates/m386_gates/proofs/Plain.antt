-- The law of each kind of transfer.
use Rattle.std.proofs.Common.{◌≡◌, ℕ, zero, suc, ◌+◌, ◌*◌, ◌%◌, ◌^◌, ◌<◌, Bool, true, false, if◌then◌else◌, List, [], ◌∷◌, Option, Some, None, ◌-◌, nat_le, nat_lt, arith, refl}
use Rattle.m386_base.specs.declared.ask.Ask.{Ask}
use Rattle.m386_base.specs.declared.ask.Role.TheVariants as roles
use Rattle.m386_base.specs.declared.desc.Desc.{Desc}
use Rattle.m386_base.specs.declared.kind.SwitchKind.TheVariants.{Iret}
use Rattle.m386_base.specs.declared.number.Width.{Width}
use Rattle.m386_base.specs.declared.number.Width.TheVariants.{W32}
use Rattle.m386_base.specs.Phrase.{Phrase, ◌>>=◌}
use Rattle.m386_base.specs.Plain.{Plain}
use Rattle.m386_base.specs.Segments.{cs, ss}
use Rattle.m386_base.proofs.Plain.{plain_bind, plain_done, plain_faults, plain_if, plain_within}
use Rattle.m386_checks.specs.Holds.{is_start}
use Rattle.m386_desc.specs.Selector.{names_ldt}
use Rattle.m386_opmap.specs.declared.op.Arg.{Arg}
use Rattle.m386_opmap.specs.declared.op.Arg.TheVariants.{Rel, Mem, Far}
use Rattle.m386_opmap.specs.declared.op.Op.{Op}
use Rattle.m386_state.specs.declared.proc.Proc.{Proc}
use Rattle.m386_state.specs.declared.segment.TableReg.{TableReg}
use Rattle.m386_state.specs.Start.{cpl_of, seg_at}
use Rattle.m386_access.specs.Address.{segment_number, offset_of}
use Rattle.m386_access.specs.After.{register_of, len_of}
use Rattle.m386_access.specs.Ordinary.{Ordinary, Keeps, PlainFrom, is_nested, is_read_role}
use Rattle.m386_access.specs.Registers.{esp}
use Rattle.m386_access.proofs.Phrases.{plain, Stays, keeps_stays, stays_same, Anything}
use Rattle.m386_segload.specs.declared.rules.Candidate.{Candidate}
use Rattle.m386_segload.specs.Rules.{first_broken, call_gate_rules, direct_rules, target_rules, jump_target_rules}
use Rattle.m386_segload.specs.Segments.{or_zeros}
use Rattle.m386_segload.specs.Tables.{table_role}
use Rattle.m386_segload.specs.Load.{load_desc_phrase}
use Rattle.m386_segload.specs.Pointer.{read_pointer_phrase}
use Rattle.m386_segload.proofs.Loads.{Found, plain_need, take_then, judge_then, plain_load_desc}
use Rattle.m386_stack.specs.declared.stack.Stack.{Stack}
use Rattle.m386_stack.specs.Names.{size_of}
use Rattle.m386_stack.specs.Stack.{own_stack, put_top_phrase, push_phrase}
use Rattle.m386_stack.proofs.Pushed.{push_then, pop_then, pushes_then}
use Rattle.m386_transfer.specs.declared.place.Target.{Target}
use Rattle.m386_transfer.specs.Gate.{gate_of}
use Rattle.m386_transfer.specs.Place.{target_fault}
use Rattle.m386_transfer.proofs.Plain.{stack_for_then, stays_placed, return_plain}
use Rattle.m386_transfer.proofs.Tried.{tried_faults, tried_bind, tried_simply, tried_switch, tried_need, ReadsAlone, reads_since, reads_then, reads_done, reads_faults, read_alone, load_desc_alone}
use Rattle.m386_transfer.specs.Executed.{switching_phrase}
use Rattle.m386_transfer.specs.Tried.{AreReads, Tried, KeepsRun, TriedFrom}
use Rattle.m386_gates.specs.Calls.{released_of, enter_phrase, call_phrase, return_near_phrase, return_by, return_phrase}
use Rattle.m386_gates.specs.Copies.{copy_phrase, copies_phrase, carry_phrase, carried_phrase}
use Rattle.m386_gates.specs.Exec.{action_phrase, exec_phrase}
use Rattle.m386_gates.specs.Far.{pointer_in, pointer_phrase, linked_phrase, direct_target, direct_phrase, arrive_phrase, through_stack_phrase, gate_at, through_phrase, gate_phrase, destination_of, switch_kind_of, task_brief, task_gate_phrase, to_destination_phrase, by_type_phrase, far_candidate, far_to_phrase, far_phrase}
use Rattle.m386_gates.specs.Near.{near_target, near_phrase, target_of_args, target_phrase, jump_phrase, branch_phrase, counted_down}
use Rattle.m386_gates.specs.Returns.{behind_one, behind_two, return_far_phrase, far_return_by, far_return_phrase}
use Rattle.m386_gates.specs.Transfer.{transfer_of, transfer_phrase}
use Rattle.m386_gates.specs.declared.far.Destination.{Destination}
use Rattle.m386_gates.specs.declared.far.Destination.TheVariants as destinations
use Rattle.m386_gates.specs.declared.far.Far.{Far as FarKind}
use Rattle.m386_gates.specs.declared.far.Far.TheVariants as fars
use Rattle.m386_segload.specs.declared.pointer.FarPointer.{FarPointer}
use Rattle.m386_segload.proofs.Loads.{plain_pointer}
use Rattle.m386_gates.specs.declared.near.Near.{Near}
use Rattle.m386_gates.specs.declared.near.Near.TheVariants.{Jump, Branch, Loop, Empty}
use Rattle.m386_gates.specs.declared.transfer.Transfer.{Transfer}
use Rattle.m386_gates.specs.declared.transfer.Transfer.TheVariants as transfers

two_target : (gdt : TableReg) (p : Proc) (op : Op) (ts : List Ask) (args : List Arg) → Plain 2 (Ordinary gdt) Anything ts (target_of_args args p op)
two_target gdt p op ts (Rel distance ∷ []) = search plain
two_target gdt p op ts _ = search plain

-- Where a jump or a call leads, and what follows.
target_then : (gdt : TableReg) → {B : Type 0} (n : ℕ) (ends : List Ask → B → Type 0) (ts : List Ask) (p : Proc) (op : Op) (f : ℕ → Phrase B) → nat_le 2 n ≡ true → ((us : List Ask) (v : ℕ) → Plain (n - 2) (Ordinary gdt) ends us (f v)) → Plain n (Ordinary gdt) ends ts (target_phrase p op >>= f)
unfolding target_phrase
target_then gdt n ends ts p op f l k = plain_bind 2 n (Ordinary gdt) Anything ends ts _ f (grind (arith, l)) (two_target gdt p op ts op.args.items) (λ us v o. k us v)

ruleset steps = (plain, target_then, push_then, pop_then, pushes_then)

jump_plain : (p q : Proc) (op : Op) → Stays p q → Plain 2 (Ordinary p.gdtr) (Keeps p) [] (jump_phrase q op)
unfolding jump_phrase
jump_plain p q op s = search steps

branch_plain : (p q : Proc) (op : Op) (taken : Bool) → Stays p q → Plain 2 (Ordinary p.gdtr) (Keeps p) [] (branch_phrase q op taken)
unfolding branch_phrase
branch_plain p q op taken s = search (steps, jump_plain, s)

near_plain : (near : Near) (op : Op) (p : Proc) → PlainFrom 2 p (near_phrase near op p)
near_plain Jump op p = jump_plain p p op (stays_same p)
near_plain (Branch condition) op p = branch_plain p p op _ (stays_same p)
near_plain (Loop condition) op p = branch_plain p (counted_down p) op _ (record { tr = refl; gdtr = refl; nested = refl })
near_plain Empty op p = branch_plain p p op _ (stays_same p)

call_plain : (op : Op) (p : Proc) → PlainFrom 4 p (call_phrase p op)
unfolding call_phrase enter_phrase
call_plain op p = search steps

return_near_plain : (p : Proc) (w : Width) (released : ℕ) → PlainFrom 4 p (return_near_phrase p w released)
unfolding return_near_phrase
return_near_plain p w released = search steps

return_by_plain : (o : Option ℕ) (p : Proc) (w : Width) → PlainFrom 4 p (return_by o p w)
return_by_plain (Some released) p w = return_near_plain p w released
return_by_plain None p w = search steps

ret_plain : (op : Op) (p : Proc) → PlainFrom 4 p (return_phrase p op)
unfolding return_phrase
ret_plain op p = return_by_plain (released_of op.args.items) p op.width

return_far_plain : (p : Proc) (w : Width) (released : ℕ) → PlainFrom 18 p (return_far_phrase p w released)
unfolding return_far_phrase
return_far_plain p w released =
    pop_then p.gdtr 18 (Keeps p) [] roles.Pop (own_stack p) (size_of w) _ refl refl (λ us eip.
    pop_then p.gdtr 16 (Keeps p) us roles.Pop (behind_one p w) (size_of w) _ refl refl (λ vs selector.
    return_plain p vs (selector % 2 ^ 16) eip (behind_two p w) (size_of w) released))

far_return_by_plain : (o : Option ℕ) (p : Proc) (w : Width) → PlainFrom 18 p (far_return_by o p w)
far_return_by_plain (Some released) p w = return_far_plain p w released
far_return_by_plain None p w = search steps

far_return_plain : (op : Op) (p : Proc) → PlainFrom 18 p (far_return_phrase p op)
unfolding far_return_phrase
far_return_plain op p = far_return_by_plain (released_of op.args.items) p op.width

four_pointer_in : (args : List Arg) (p : Proc) (w : Width) → Plain 4 (Ordinary p.gdtr) Anything [] (pointer_in args p w)
four_pointer_in (Far selector offset ∷ []) p w = plain_done 4 (Ordinary p.gdtr) Anything [] _ tt
four_pointer_in (Mem a ∷ []) p w = plain_pointer p.gdtr p [] w a
four_pointer_in _ p w = plain_faults 4 (Ordinary p.gdtr) Anything [] _

-- CS and EIP pushed, and the state at the target
four_linked : (far : FarKind) (p : Proc) (w : Width) (t : Target) (st : Stack) (ts : List Ask) → Plain 4 (Ordinary p.gdtr) (Keeps p) ts (linked_phrase far p w t st)
four_linked fars.Jump p w t st ts = plain_done 4 (Ordinary p.gdtr) (Keeps p) ts _ (keeps_stays p ts _ (stays_placed p p t st (stays_same p)))
four_linked fars.Call p w t st ts =
    pushes_then p.gdtr 4 (Keeps p) ts st (size_of w) ((seg_at p cs).selector ∷ near_target w p.eip ∷ []) _ refl
    (λ us top. plain_done 0 (Ordinary p.gdtr) (Keeps p) us _ (keeps_stays p us _ (stays_placed p p t top (stays_same p))))

five_direct : (p : Proc) (far : FarKind) (w : Width) (offset : ℕ) (c : Candidate) (ts : List Ask) → Found p c.selector ts c.desc → Plain 5 (Ordinary p.gdtr) (Keeps p) ts (direct_phrase p far w offset c)
unfolding direct_phrase
five_direct p far w offset c ts f =
    judge_then p 5 (Keeps p) ts direct_rules c _ refl refl f (λ us d.
    plain_need p.gdtr 4 (Keeps p) us (target_fault (direct_target p c.selector d offset)) _ (four_linked far p w (direct_target p c.selector d offset) (own_stack p) us))

four_copy : (p : Proc) (place : ℕ) (st : Stack) (ts : List Ask) → Plain 4 (Ordinary p.gdtr) Anything ts (copy_phrase p place st)
unfolding copy_phrase push_phrase put_top_phrase
four_copy p place st ts = search steps

all_copies : (p : Proc) (count : ℕ) (st : Stack) (ts : List Ask) → Plain (count * 4) (Ordinary p.gdtr) Anything ts (copies_phrase p count st)
unfolding copies_phrase
all_copies p zero st ts = plain_done 0 (Ordinary p.gdtr) Anything ts st tt
all_copies p (suc place) st ts =
    let e : suc place * 4 - 4 ≡ place * 4 = omega arith in
    plain_bind 4 (suc place * 4) (Ordinary p.gdtr) Anything Anything ts (copy_phrase p place st) (λ next. copies_phrase p place next) (omega arith) (four_copy p place st ts) (λ us next o. rw e (all_copies p place next us))

-- a gate's count has five bits
some_copies : (p : Proc) (count : ℕ) (st : Stack) (ts : List Ask) → count < 32 → Plain 124 (Ordinary p.gdtr) Anything ts (copies_phrase p count st)
some_copies p count st ts l = plain_within (count * 4) 124 (Ordinary p.gdtr) Anything ts (copies_phrase p count st) (omega arith) (all_copies p count st ts)

carry_plain : (p : Proc) (count : ℕ) (st : Stack) (ts : List Ask) → count < 32 → Plain 128 (Ordinary p.gdtr) Anything ts (carry_phrase p count st)
unfolding carry_phrase
carry_plain p count st ts l =
    pushes_then p.gdtr 128 Anything ts st 4 ((seg_at p ss).selector ∷ register_of p esp ∷ []) _ refl (λ us below. some_copies p count below us l)

carried_plain : (p : Proc) (level count : ℕ) (st : Stack) (ts : List Ask) → count < 32 → Plain 128 (Ordinary p.gdtr) Anything ts (carried_phrase p level count st)
unfolding carried_phrase
carried_plain p level count st ts l = plain_if 128 (Ordinary p.gdtr) Anything ts (nat_lt level (cpl_of p)) _ _ (carry_plain p count st ts l) (plain_done 128 (Ordinary p.gdtr) Anything ts st tt)

arrive_plain : (p : Proc) (far : FarKind) (count : ℕ) (t : Target) (st : Stack) (ts : List Ask) → count < 32 → Plain 132 (Ordinary p.gdtr) (Keeps p) ts (arrive_phrase p far count t st)
unfolding arrive_phrase
arrive_plain p far count t st ts l =
    plain_need p.gdtr 132 (Keeps p) ts (target_fault t) _
    (plain_bind 128 132 (Ordinary p.gdtr) Anything (Keeps p) ts _ _ (omega arith) (carried_plain p t.level count st ts l) (λ us top o. four_linked far p W32 t top us))

through_stack_plain : (p : Proc) (far : FarKind) (count : ℕ) (t : Target) (ts : List Ask) → count < 32 → Plain 141 (Ordinary p.gdtr) (Keeps p) ts (through_stack_phrase p far count t)
unfolding through_stack_phrase
through_stack_plain p far count t ts l = stack_for_then p 141 (Keeps p) ts t.level false _ refl (λ us st. arrive_plain p far count t st us l)

count_of : (d : Desc) → (gate_of d).count < 32
count_of d = omega arith

through_plain : (far : FarKind) (p : Proc) (d : Desc) (ts : List Ask) → Plain 146 (Ordinary p.gdtr) (Keeps p) ts (through_phrase p far (gate_of d))
unfolding through_phrase
through_plain fars.Jump p d ts = take_then p 146 (Keeps p) ts jump_target_rules (cpl_of p) false (gate_of d).selector _ refl refl (λ us e. through_stack_plain p fars.Jump (gate_of d).count (gate_at p (gate_of d) e) us (count_of d))
through_plain fars.Call p d ts = take_then p 146 (Keeps p) ts target_rules (cpl_of p) false (gate_of d).selector _ refl refl (λ us e. through_stack_plain p fars.Call (gate_of d).count (gate_at p (gate_of d) e) us (count_of d))

gate_plain : (p : Proc) (far : FarKind) (c : Candidate) (ts : List Ask) → Plain 146 (Ordinary p.gdtr) (Keeps p) ts (gate_phrase p far c)
unfolding gate_phrase
gate_plain p far c ts = plain_need p.gdtr 146 (Keeps p) ts (first_broken call_gate_rules c) _ (through_plain far p (or_zeros c.desc) ts)

no_start : (far : FarKind) → is_start (switch_kind_of far) ≡ false
no_start fars.Jump = refl
no_start fars.Call = refl

no_return : (p : Proc) (far : FarKind) → switch_kind_of far ≡ Iret → is_nested p ≡ true
no_return p fars.Jump h = cc
no_return p fars.Call h = cc

task_tried : (p : Proc) (far : FarKind) (selector : ℕ) (direct : Bool) (ts : List Ask) → AreReads ts → Tried 146 (Ordinary p.gdtr) (KeepsRun p) p ts (switching_phrase p (task_brief far selector direct))
task_tried p far selector direct ts r = tried_switch 146 (Ordinary p.gdtr) (KeepsRun p) p (task_brief far selector direct) ts (no_start far) (no_return p far) (omega arith) r

task_gate_tried : (p : Proc) (far : FarKind) (c : Candidate) (ts : List Ask) → AreReads ts → Tried 146 (Ordinary p.gdtr) (KeepsRun p) p ts (task_gate_phrase p far c)
unfolding task_gate_phrase
task_gate_tried p far c ts r =
    tried_need 146 (Ordinary p.gdtr) (KeepsRun p) p ts (first_broken call_gate_rules c) _ (task_tried p far (gate_of (or_zeros c.desc)).selector false ts r)

-- behind reads alone: the descriptor of the selector
to_destination_tried : (to : Destination) (p : Proc) (far : FarKind) (w : Width) (offset : ℕ) (c : Candidate) (ts : List Ask) → Found p c.selector ts c.desc → AreReads ts → Tried 146 (Ordinary p.gdtr) (KeepsRun p) p ts (to_destination_phrase to p far w offset c)
to_destination_tried destinations.Code p far w offset c ts f r = tried_simply 5 146 p ts _ (omega arith) (five_direct p far w offset c ts f)
to_destination_tried destinations.CallGate p far w offset c ts f r = tried_simply 146 146 p ts _ (omega arith) (gate_plain p far c ts)
to_destination_tried destinations.Task p far w offset c ts f r = task_tried p far c.selector true ts r
to_destination_tried destinations.TaskGate p far w offset c ts f r = task_gate_tried p far c ts r

by_type_tried : (p : Proc) (far : FarKind) (w : Width) (offset : ℕ) (c : Candidate) (ts : List Ask) → Found p c.selector ts c.desc → AreReads ts → Tried 146 (Ordinary p.gdtr) (KeepsRun p) p ts (by_type_phrase p far w offset c)
unfolding by_type_phrase
by_type_tried p far w offset c ts f r = to_destination_tried (destination_of c.desc) p far w offset c ts f r

table_role_reads : (s : ℕ) → is_read_role (table_role s) ≡ true
table_role_reads s = go (names_ldt s)
  where
    go : (b : Bool) → is_read_role (if b then roles.Ldt else roles.Gdt) ≡ true
    go true = refl
    go false = refl

far_to_tried : (p : Proc) (far : FarKind) (w : Width) (to : FarPointer) (ts : List Ask) → AreReads ts → Tried 150 (Ordinary p.gdtr) (KeepsRun p) p ts (far_to_phrase p far w to)
unfolding far_to_phrase
far_to_tried p far w to ts r =
    let role = table_role to.selector in
    tried_bind 4 150 (Ordinary p.gdtr) (λ us found. Found p to.selector us found × AreReads us) (KeepsRun p) p ts (load_desc_phrase p to.selector role) _ (omega arith)
    (reads_since 4 (Ordinary p.gdtr) (Found p to.selector) ts (load_desc_phrase p to.selector role) r (load_desc_alone p to.selector role) (plain_load_desc p ts to.selector role (table_role_reads to.selector)))
    (λ us found h. by_type_tried p far w to.offset (far_candidate p to.selector found) us h.0 h.1)

pointer_alone : (args : List Arg) (p : Proc) (w : Width) → ReadsAlone (pointer_in args p w)
unfolding read_pointer_phrase
pointer_alone (Far selector offset ∷ []) p w = reads_done _
pointer_alone (Mem a ∷ []) p w =
    reads_then _ _ (read_alone p roles.Operand (segment_number a.seg a.base) (offset_of p a) (len_of w)) (λ offset.
    reads_then _ _ (read_alone p roles.Operand (segment_number a.seg a.base) ((offset_of p a + len_of w) % 2 ^ 32) 2) (λ selector. reads_done _))
pointer_alone _ p w = reads_faults _ _

far_tried : (far : FarKind) (op : Op) (p : Proc) → TriedFrom 154 p (far_phrase p far op)
unfolding far_phrase pointer_phrase
far_tried far op p =
    tried_bind 4 154 (Ordinary p.gdtr) (λ us to. Anything us to × AreReads us) (KeepsRun p) p [] (pointer_in op.args.items p op.width) _ (omega arith)
    (reads_since 4 (Ordinary p.gdtr) Anything [] (pointer_in op.args.items p op.width) tt (pointer_alone op.args.items p op.width) (four_pointer_in op.args.items p op.width))
    (λ us to h. far_to_tried p far op.width to us h.1)

-- each group, one line
transfer_tried : (transfer : Transfer) (op : Op) (p : Proc) → TriedFrom 154 p (transfer_phrase transfer op p)
transfer_tried (transfers.Near near) op p = tried_simply 2 154 p [] _ (omega arith) (near_plain near op p)
transfer_tried transfers.Call op p = tried_simply 4 154 p [] _ (omega arith) (call_plain op p)
transfer_tried transfers.Return op p = tried_simply 4 154 p [] _ (omega arith) (ret_plain op p)
transfer_tried (transfers.Far far) op p = far_tried far op p
transfer_tried transfers.FarReturn op p = tried_simply 18 154 p [] _ (omega arith) (far_return_plain op p)

action_tried : (transfer : Option Transfer) (op : Op) (p : Proc) → TriedFrom 154 p (action_phrase transfer op p)
action_tried (Some transfer) op p = transfer_tried transfer op p
action_tried None op p = tried_faults 154 (Ordinary p.gdtr) (KeepsRun p) p [] _

pub exec_tried : (op : Op) (p : Proc) → TriedFrom 154 p (exec_phrase op p)
unfolding exec_phrase
exec_tried op p = action_tried (transfer_of op.name) op p
