-- The law of each kind of work.
use Rattle.std.proofs.Common.{◌≡◌, ℕ, ◌/◌, ◌%◌, ◌^◌, ◌==◌, refl, ap, arith, Option, Some, None, List, [], Bool, true, false}
use Rattle.m386_base.specs.declared.ask.Ask.{Ask}
use Rattle.m386_base.specs.declared.ask.Role.TheVariants as roles
use Rattle.m386_base.specs.declared.flags.Flag.TheVariants.{Zero}
use Rattle.m386_base.specs.declared.number.Width.{Width}
use Rattle.m386_base.specs.declared.number.Width.TheVariants.{W16}
use Rattle.m386_base.specs.Flags.{with_flag, put_bit}
use Rattle.m386_base.specs.Plain.{Plain}
use Rattle.m386_base.specs.Segments.{ss}
use Rattle.m386_base.proofs.Plain.{plain_done, plain_faults, plain_if, plain_bind}
use Rattle.m386_opmap.specs.declared.op.Addr.{Addr}
use Rattle.m386_opmap.specs.declared.op.Op.{Op}
use Rattle.m386_state.specs.declared.proc.Proc.{Proc}
use Rattle.m386_state.specs.declared.segment.Seg.{Seg}
use Rattle.m386_state.specs.Start.{seg_at}
use Rattle.m386_access.specs.Address.{segment_number, offset_of, may_write, linear_of}
use Rattle.m386_access.specs.After.{register_at}
use Rattle.m386_access.specs.Operands.{operands_of}
use Rattle.m386_access.specs.Ordinary.{Ordinary, Keeps, PlainFrom}
use Rattle.m386_access.specs.declared.operands.Operands.{Operands}
use Rattle.m386_access.specs.declared.operands.Place.{Place}
use Rattle.m386_access.specs.declared.operands.Place.TheVariants.{Register, Number, Memory, Other}
use Rattle.m386_access.proofs.Phrases.{Stays, Anything, keeps_stays, stays_same, stays_register, stays_if, value_then, reads_then, writes_then, put_plain, on_register_plain, on_memory_plain, on_one_plain, on_two_plain}
use Rattle.m386_segload.specs.declared.wanted.Look.{Look}
use Rattle.m386_segload.specs.Arpl.{arpl_of}
use Rattle.m386_segload.specs.Segments.{with_segment}
use Rattle.m386_segload.specs.declared.pointer.FarPointer.{FarPointer}
use Rattle.m386_segload.proofs.Loads.{segment_then, look_then, pointer_then}
use Rattle.m386_segments.specs.Adjust.{with_adjusted, store_raised_phrase, adjust_memory_phrase, adjust_in_phrase, adjust_place_phrase, adjust_phrase}
use Rattle.m386_segments.specs.Exec.{work_phrase, named_phrase, exec_phrase}
use Rattle.m386_segments.specs.Found.{found_phrase, with_shown, show_into_phrase, show_phrase, verify_place_phrase, verify_phrase}
use Rattle.m386_segments.specs.Names.{segment_work_of, segment_move_of}
use Rattle.m386_segments.specs.Pointers.{load_both_phrase, load_pointer_phrase, pointer_phrase}
use Rattle.m386_segments.specs.Registers.{may_be_loaded, with_loaded, load_known_phrase, load_register_phrase, move_phrase}
use Rattle.m386_segments.specs.Zero.{with_zero}
use Rattle.m386_segments.specs.declared.names.SegmentMove.{SegmentMove}
use Rattle.m386_segments.specs.declared.names.SegmentMove.TheVariants.{To, From}
use Rattle.m386_segments.specs.declared.names.SegmentWork.{SegmentWork}
use Rattle.m386_segments.specs.declared.names.SegmentWork.TheVariants.{Move, Pointer, Show, Verify, Adjust}

-- ZF changed
stays_zero : (p : Proc) (zero : Bool) → Stays p (with_zero p zero)
unfolding with_flag put_bit
stays_zero p zero = record { tr = refl; gdtr = refl; nested = ap (λ n. n == 1) (go zero) }
  where
    go : (c : Bool) → (with_flag Zero c p.eflags).0 / 2 ^ 14 % 2 ≡ p.eflags.0 / 2 ^ 14 % 2
    go true = omega arith
    go false = omega arith

-- a segment register changed besides
stays_segment : (p q : Proc) (seg : ℕ) (value : Seg) → Stays p q → Stays p (with_segment q seg value)
unfolding with_segment
stays_segment p q seg value s = record { tr = s.tr; gdtr = s.gdtr; nested = s.nested }

-- and the shadow
stays_loaded : (p : Proc) (seg : ℕ) (value : Seg) → Stays p (with_loaded p seg value)
unfolding with_segment
stays_loaded p seg value = stays_if p (seg == ss) _ _ (record { tr = refl; gdtr = refl; nested = refl }) (record { tr = refl; gdtr = refl; nested = refl })

load_register_plain : (p : Proc) (seg : ℕ) (source : Place) → PlainFrom 9 p (load_register_phrase p seg source)
unfolding load_register_phrase load_known_phrase
load_register_plain p seg source =
    plain_if 9 (Ordinary p.gdtr) (Keeps p) [] (may_be_loaded seg) _ _
    (value_then p.gdtr 9 (Keeps p) [] W16 p source _ refl (λ us selector.
    segment_then p 7 (Keeps p) us seg _ _ refl (λ vs value.
    plain_done 2 (Ordinary p.gdtr) (Keeps p) vs _ (keeps_stays p vs _ (stays_loaded p seg value)))))
    (plain_faults 9 (Ordinary p.gdtr) (Keeps p) [] _)

move_plain : (moved : Option SegmentMove) (p : Proc) → PlainFrom 9 p (move_phrase moved p)
move_plain (Some (To seg source)) p = load_register_plain p seg source
move_plain (Some (From destination seg)) p = put_plain 9 W16 p p destination _ [] refl (stays_same p)
move_plain None p = plain_faults 9 (Ordinary p.gdtr) (Keeps p) [] _

load_both_plain : (p : Proc) (us : List Ask) (w : Width) (seg register : ℕ) (pointer : FarPointer) → Plain 5 (Ordinary p.gdtr) (Keeps p) us (load_both_phrase p w seg register pointer)
unfolding load_both_phrase
load_both_plain p us w seg register pointer =
    segment_then p 5 (Keeps p) us seg _ _ refl (λ vs value.
    plain_done 0 (Ordinary p.gdtr) (Keeps p) vs _ (keeps_stays p vs _ (stays_segment p _ seg value (stays_register w p p register _ (stays_same p)))))

load_pointer_plain : (p : Proc) (ts : List Ask) (w : Width) (seg register : ℕ) (a : Addr) → Plain 9 (Ordinary p.gdtr) (Keeps p) ts (load_pointer_phrase p w seg register a)
unfolding load_pointer_phrase
load_pointer_plain p ts w seg register a = pointer_then p.gdtr 9 (Keeps p) ts p w a _ refl (λ us pointer. load_both_plain p us w seg register pointer)

pointer_plain : (seg : ℕ) (w : Width) (operands : Operands) (p : Proc) → PlainFrom 9 p (pointer_phrase seg w operands p)
pointer_plain seg w operands p =
    on_two_plain p.gdtr 9 (Keeps p) [] operands _ (λ first second.
    on_register_plain p.gdtr 9 (Keeps p) [] first _ (λ register.
    on_memory_plain p.gdtr 9 (Keeps p) [] second _ (λ a. load_pointer_plain p [] w seg register a)))

-- what is found at the selector of an operand
found_plain : (p : Proc) (ts : List Ask) (what : Look) (operand : Place) → Plain 6 (Ordinary p.gdtr) Anything ts (found_phrase p what operand)
unfolding found_phrase
found_plain p ts what operand =
    value_then p.gdtr 6 Anything ts W16 p operand _ refl (λ us selector.
    look_then p 4 Anything us what (selector % 2 ^ 16) _ refl (λ vs found. plain_done 0 (Ordinary p.gdtr) Anything vs _ tt))

stays_shown : (w : Width) (p : Proc) (register : ℕ) (found : Option ℕ) → Stays p (with_shown w p register found)
stays_shown w p register (Some shown) = stays_register w p _ register shown (stays_zero p true)
stays_shown w p register None = stays_zero p false

show_into_plain : (p : Proc) (ts : List Ask) (what : Look) (w : Width) (register : ℕ) (operand : Place) → Plain 9 (Ordinary p.gdtr) (Keeps p) ts (show_into_phrase p what w register operand)
unfolding show_into_phrase
show_into_plain p ts what w register operand =
    plain_bind 6 9 (Ordinary p.gdtr) Anything (Keeps p) ts _ _ (omega arith) (found_plain p ts what operand)
    (λ us found o. plain_done 3 (Ordinary p.gdtr) (Keeps p) us _ (keeps_stays p us _ (stays_shown w p register found)))

show_plain : (what : Look) (w : Width) (operands : Operands) (p : Proc) → PlainFrom 9 p (show_phrase what w operands p)
show_plain what w operands p =
    on_two_plain p.gdtr 9 (Keeps p) [] operands _ (λ first second.
    on_register_plain p.gdtr 9 (Keeps p) [] first _ (λ register. show_into_plain p [] what w register second))

verify_place_plain : (p : Proc) (ts : List Ask) (what : Look) (operand : Place) → Plain 9 (Ordinary p.gdtr) (Keeps p) ts (verify_place_phrase p what operand)
unfolding verify_place_phrase
verify_place_plain p ts what operand =
    plain_bind 6 9 (Ordinary p.gdtr) Anything (Keeps p) ts _ _ (omega arith) (found_plain p ts what operand)
    (λ us found o. plain_done 3 (Ordinary p.gdtr) (Keeps p) us _ (keeps_stays p us _ (stays_zero p _)))

verify_plain : (what : Look) (operands : Operands) (p : Proc) → PlainFrom 9 p (verify_phrase what operands p)
verify_plain what operands p = on_one_plain p.gdtr 9 (Keeps p) [] operands _ (λ operand. verify_place_plain p [] what operand)

stays_adjusted : (p : Proc) (register source : ℕ) → Stays p (with_adjusted p register source)
stays_adjusted p register source =
    let adjusted = arpl_of (register_at W16 p register % 2 ^ 16) source in
    stays_if p adjusted.1 _ _ (stays_register W16 p _ register adjusted.0 (stays_zero p true)) (stays_zero p false)

store_raised_plain : (p : Proc) (ts : List Ask) (at selector : ℕ) (raised : Bool) → Plain 7 (Ordinary p.gdtr) (Keeps p) ts (store_raised_phrase p at selector raised)
unfolding store_raised_phrase
store_raised_plain p ts at selector raised =
    plain_if 7 (Ordinary p.gdtr) (Keeps p) ts raised _ _
    (writes_then p.gdtr 7 (Keeps p) ts roles.Operand at 2 selector _ refl refl (λ us u. plain_done 5 (Ordinary p.gdtr) (Keeps p) us _ (keeps_stays p us _ (stays_zero p true))))
    (plain_done 7 (Ordinary p.gdtr) (Keeps p) ts _ (keeps_stays p ts _ (stays_zero p false)))

adjust_memory_plain : (p : Proc) (ts : List Ask) (at source : ℕ) → Plain 9 (Ordinary p.gdtr) (Keeps p) ts (adjust_memory_phrase p at source)
unfolding adjust_memory_phrase
adjust_memory_plain p ts at source = reads_then p.gdtr 9 (Keeps p) ts roles.Operand at 2 0 _ refl refl (λ us found. store_raised_plain p us at _ _)

adjust_place_plain : (p : Proc) (ts : List Ask) (destination : Place) (source : ℕ) → Plain 9 (Ordinary p.gdtr) (Keeps p) ts (adjust_place_phrase p destination source)
unfolding adjust_in_phrase
adjust_place_plain p ts (Register register) source = plain_done 9 (Ordinary p.gdtr) (Keeps p) ts _ (keeps_stays p ts _ (stays_adjusted p register source))
adjust_place_plain p ts (Memory a) source =
    let s = seg_at p (segment_number a.seg a.base) in
    plain_if 9 (Ordinary p.gdtr) (Keeps p) ts (may_write s (offset_of p a) 2) _ _ (adjust_memory_plain p ts (linear_of s (offset_of p a)) source) (plain_faults 9 (Ordinary p.gdtr) (Keeps p) ts _)
adjust_place_plain p ts (Number number) source = plain_faults 9 (Ordinary p.gdtr) (Keeps p) ts _
adjust_place_plain p ts Other source = plain_faults 9 (Ordinary p.gdtr) (Keeps p) ts _

adjust_plain : (operands : Operands) (p : Proc) → PlainFrom 9 p (adjust_phrase operands p)
adjust_plain operands p =
    on_two_plain p.gdtr 9 (Keeps p) [] operands _ (λ first second.
    on_register_plain p.gdtr 9 (Keeps p) [] second _ (λ register. adjust_place_plain p [] first _))

-- each kind of work, one line
work_plain : (work : SegmentWork) (op : Op) (p : Proc) → PlainFrom 9 p (work_phrase work op p)
work_plain Move op p = move_plain (segment_move_of op.args.items) p
work_plain (Pointer seg) op p = pointer_plain seg op.width (operands_of op) p
work_plain (Show what) op p = show_plain what op.width (operands_of op) p
work_plain (Verify what) op p = verify_plain what (operands_of op) p
work_plain Adjust op p = adjust_plain (operands_of op) p

named_plain : (named : Option SegmentWork) (op : Op) (p : Proc) → PlainFrom 9 p (named_phrase named op p)
named_plain (Some work) op p = work_plain work op p
named_plain None op p = plain_faults 9 (Ordinary p.gdtr) (Keeps p) [] _

pub exec_plain : (op : Op) (p : Proc) → PlainFrom 9 p (exec_phrase op p)
unfolding exec_phrase
exec_plain op p = named_plain (segment_work_of op.name) op p
