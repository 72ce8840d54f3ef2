-- The law of each string operation.
use Rattle.std.proofs.Common.{◌≡◌, ℕ, ◌/◌, ◌%◌, ◌^◌, ◌==◌, refl, ◌∙◌, ap, arith, Option, Some, None, List, []}
use Rattle.m386_base.specs.declared.ask.Ask.{Ask}
use Rattle.m386_base.specs.declared.ask.Role.TheVariants as roles
use Rattle.m386_base.specs.declared.flags.Flag.TheVariants.{Direction}
use Rattle.m386_base.specs.declared.number.Width.{Width}
use Rattle.m386_base.specs.Flags.{has_flag}
use Rattle.m386_base.specs.Segments.{es}
use Rattle.m386_base.proofs.Plain.{plain_done, plain_faults, plain_if, plain_bind}
use Rattle.m386_alu.specs.Width.{bits}
use Rattle.m386_alu.specs.declared.arithmetic.AluOp.TheVariants.{Cmp}
use Rattle.m386_alu.proofs.Keeping.{alu_keeps}
use Rattle.m386_opmap.specs.declared.op.Addr.{Addr}
use Rattle.m386_opmap.specs.declared.op.Op.{Op}
use Rattle.m386_opmap.specs.declared.op.Rep.{Rep}
use Rattle.m386_opmap.specs.declared.op.Rep.TheVariants.{Once, Equal, NotEqual}
use Rattle.m386_state.specs.declared.proc.Proc.{Proc}
use Rattle.m386_access.specs.Address.{segment_number, offset_of}
use Rattle.m386_access.specs.After.{len_of, register_of, register_at, with_register}
use Rattle.m386_access.specs.Operands.{operands_of}
use Rattle.m386_access.specs.Ordinary.{Ordinary, Keeps, PlainFrom}
use Rattle.m386_access.specs.Registers.{eax, ecx, esi, edi}
use Rattle.m386_access.specs.declared.operands.Place.TheVariants.{Memory}
use Rattle.m386_access.specs.declared.operands.Operands.{Operands}
use Rattle.m386_access.specs.declared.operands.Operands.TheVariants.{Absent, One}
use Rattle.m386_access.proofs.Phrases.{Stays, keeps_stays, stays_same, stays_if, stays_register, read_then, write_then}
use Rattle.m386_string.specs.Element.{element_of, past_element, compared, move_element_phrase, compare_elements_phrase, store_element_phrase, load_element_phrase, scan_element_phrase, element_phrase}
use Rattle.m386_string.specs.Exec.{named_string_phrase, exec_phrase}
use Rattle.m386_string.specs.Repetition.{lowered, counted_phrase, repeated_phrase, string_phrase}
use Rattle.m386_string.specs.declared.element.Element.{Element}
use Rattle.m386_string.specs.declared.element.Element.TheVariants.{Move, Compare, Store, Load, Scan}

whole_register : (p q : Proc) (register value : ℕ) → Stays p q → Stays p (with_register q register value)
whole_register p q register value s = record { tr = s.tr; gdtr = s.gdtr; nested = s.nested }

stays_past_element : (w : Width) (index : ℕ) (p q : Proc) → Stays p q → Stays p (past_element w index q)
stays_past_element w index p q s = stays_if p (has_flag Direction q.eflags) _ _ (whole_register p q index _ s) (whole_register p q index _ s)

stays_compared : (w : Width) (a b : ℕ) (p q : Proc) → Stays p q → Stays p (compared w a b q)
stays_compared w a b p q s =
    let u : (compared w a b q).eflags.0 / 2 ^ 12 ≡ q.eflags.0 / 2 ^ 12 = (alu_keeps Cmp w (a % 2 ^ bits w) (b % 2 ^ bits w) q.eflags).upper in
    let e : (compared w a b q).eflags.0 / 2 ^ 14 % 2 ≡ q.eflags.0 / 2 ^ 14 % 2 = omega arith in
    record { tr = s.tr; gdtr = s.gdtr; nested = ap (λ n. n == 1) e ∙ s.nested }

stays_both : (w : Width) (p : Proc) → Stays p (past_element w edi (past_element w esi p))
stays_both w p = stays_past_element w edi p _ (stays_past_element w esi p p (stays_same p))

move_plain : (w : Width) (source : Addr) (p : Proc) → PlainFrom 4 p (move_element_phrase w source p)
unfolding move_element_phrase
move_plain w source p =
    read_then p.gdtr 4 (Keeps p) [] p roles.Operand (segment_number source.seg source.base) (offset_of p source) (len_of w) _ refl refl
    (λ us element. write_then p.gdtr 2 (Keeps p) us p roles.Operand es (register_of p edi) (len_of w) element _ refl refl
    (λ vs u. plain_done 0 (Ordinary p.gdtr) (Keeps p) vs _ (keeps_stays p vs _ (stays_both w p))))

compare_plain : (w : Width) (source : Addr) (p : Proc) → PlainFrom 4 p (compare_elements_phrase w source p)
unfolding compare_elements_phrase
compare_plain w source p =
    read_then p.gdtr 4 (Keeps p) [] p roles.Operand (segment_number source.seg source.base) (offset_of p source) (len_of w) _ refl refl
    (λ us first. read_then p.gdtr 2 (Keeps p) us p roles.Operand es (register_of p edi) (len_of w) _ refl refl
    (λ vs second. plain_done 0 (Ordinary p.gdtr) (Keeps p) vs _ (keeps_stays p vs _ (stays_compared w first second p _ (stays_both w p)))))

store_plain : (w : Width) (p : Proc) → PlainFrom 4 p (store_element_phrase w p)
unfolding store_element_phrase
store_plain w p =
    write_then p.gdtr 4 (Keeps p) [] p roles.Operand es (register_of p edi) (len_of w) (register_at w p eax) _ refl refl
    (λ us u. plain_done 2 (Ordinary p.gdtr) (Keeps p) us _ (keeps_stays p us _ (stays_past_element w edi p p (stays_same p))))

load_plain : (w : Width) (source : Addr) (p : Proc) → PlainFrom 4 p (load_element_phrase w source p)
unfolding load_element_phrase
load_plain w source p =
    read_then p.gdtr 4 (Keeps p) [] p roles.Operand (segment_number source.seg source.base) (offset_of p source) (len_of w) _ refl refl
    (λ us element. plain_done 2 (Ordinary p.gdtr) (Keeps p) us _ (keeps_stays p us _ (stays_register w p _ eax element (stays_past_element w esi p p (stays_same p)))))

scan_plain : (w : Width) (p : Proc) → PlainFrom 4 p (scan_element_phrase w p)
unfolding scan_element_phrase
scan_plain w p =
    read_then p.gdtr 4 (Keeps p) [] p roles.Operand es (register_of p edi) (len_of w) _ refl refl
    (λ us element. plain_done 2 (Ordinary p.gdtr) (Keeps p) us _ (keeps_stays p us _ (stays_compared w (register_at w p eax) element p _ (stays_past_element w edi p p (stays_same p)))))

element_plain : (element : Element) (w : Width) (operands : Operands) (p : Proc) → PlainFrom 4 p (element_phrase element w operands p)
element_plain Move w (One (Memory source)) p = move_plain w source p
element_plain Compare w (One (Memory source)) p = compare_plain w source p
element_plain Store w Absent p = store_plain w p
element_plain Load w (One (Memory source)) p = load_plain w source p
element_plain Scan w Absent p = scan_plain w p
element_plain _ w operands p = plain_faults 4 (Ordinary p.gdtr) (Keeps p) [] _

keeps_lowered : (count : ℕ) (p q : Proc) (ts : List Ask) → Keeps p ts q → Keeps p ts (lowered count q)
keeps_lowered count p q ts k = record { tr = k.tr; gdtr = k.gdtr; nested = k.nested }

counted_plain : (element : Element) (w : Width) (operands : Operands) (count : ℕ) (p : Proc) → PlainFrom 4 p (counted_phrase element w operands count p)
unfolding counted_phrase
counted_plain element w operands count p =
    plain_bind 4 4 (Ordinary p.gdtr) (Keeps p) (Keeps p) [] (element_phrase element w operands p) _ (omega arith) (element_plain element w operands p)
    (λ us after k. plain_done 0 (Ordinary p.gdtr) (Keeps p) us _ (keeps_lowered count p after us k))

repeated_plain : (element : Element) (w : Width) (operands : Operands) (p : Proc) → PlainFrom 4 p (repeated_phrase element w operands p)
unfolding repeated_phrase
repeated_plain element w operands p =
    plain_if 4 (Ordinary p.gdtr) (Keeps p) [] (register_of p ecx == 0) _ _
    (plain_done 4 (Ordinary p.gdtr) (Keeps p) [] p (keeps_stays p [] p (stays_same p)))
    (counted_plain element w operands (register_of p ecx) p)

string_plain : (element : Element) (rep : Rep) (w : Width) (operands : Operands) (p : Proc) → PlainFrom 4 p (string_phrase element rep w operands p)
string_plain element Once w operands p = element_plain element w operands p
string_plain element Equal w operands p = repeated_plain element w operands p
string_plain element NotEqual w operands p = repeated_plain element w operands p

named_plain : (element : Option Element) (op : Op) (p : Proc) → PlainFrom 4 p (named_string_phrase element op p)
named_plain (Some element) op p = string_plain element op.rep op.width (operands_of op) p
named_plain None op p = plain_faults 4 (Ordinary p.gdtr) (Keeps p) [] _

pub exec_plain : (op : Op) (p : Proc) → PlainFrom 4 p (exec_phrase op p)
unfolding exec_phrase
exec_plain op p = named_plain (element_of op.name) op p
