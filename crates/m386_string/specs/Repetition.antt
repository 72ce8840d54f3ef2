-- String operations that are repeated: one turn, and whether a further one follows.
use Rattle.std.specs.Prelude.{ℕ, ◌-◌, ◌==◌, ◌&&◌, Bool, true, false, not, Option, Some, None, if◌then◌else◌}
use Rattle.m386_base.specs.declared.flags.Flag.TheVariants.{Zero}
use Rattle.m386_base.specs.declared.number.Width.{Width}
use Rattle.m386_base.specs.Flags.{has_flag}
use Rattle.m386_base.specs.Phrase.{Phrase, Done, ◌>>=◌}
use Rattle.m386_opmap.specs.declared.op.Op.{Op}
use Rattle.m386_opmap.specs.declared.op.Rep.{Rep}
use Rattle.m386_opmap.specs.declared.op.Rep.TheVariants.{Once, Equal, NotEqual}
use Rattle.m386_state.specs.declared.proc.Proc.{Proc}
use Rattle.m386_access.specs.After.{at_eip, register_of, with_register}
use Rattle.m386_access.specs.Registers.{ecx}
use Rattle.m386_access.specs.declared.operands.Operands.{Operands}
use Rattle.m386_string.specs.Element.{element_of, element_phrase}
use Rattle.m386_string.specs.declared.element.Element.{Element}
use Rattle.m386_string.specs.declared.element.Element.TheVariants.{Move, Compare, Store, Load, Scan}

-- with ECX lowered by one element
abbrev pub lowered : ℕ → Proc → Proc
lowered count after = with_register after ecx (count - 1)

-- one element of a count that isn't used up
unfoldable pub counted_phrase : Element → Width → Operands → ℕ → Proc → Phrase Proc
counted_phrase element w operands count p = do
  after ← element_phrase element w operands p
  Done (lowered count after)

-- A turn of a repetition: one element, or none where ECX is 0.
-- Source: Intel 80386 PRM 3.6.1, 17.2.2.11, REP
unfoldable pub repeated_phrase : Element → Width → Operands → Proc → Phrase Proc
repeated_phrase element w operands p =
    if register_of p ecx == 0 then Done p else counted_phrase element w operands (register_of p ecx) p

-- one element, or a turn of a repetition
abbrev pub string_phrase : Element → Rep → Width → Operands → Proc → Phrase Proc
string_phrase element Once w operands p = element_phrase element w operands p
string_phrase element Equal w operands p = repeated_phrase element w operands p
string_phrase element NotEqual w operands p = repeated_phrase element w operands p

-- Whether a prefix goes on behind an element that left this ZF, where the operation compares.
-- Source: Intel 80386 PRM 3.6.1, 17.2.2.11, REP
abbrev pub goes_on_with : Rep → Bool → Bool
goes_on_with Once zero = false
goes_on_with Equal zero = zero
goes_on_with NotEqual zero = not zero

-- whether there is a prefix, which is all that MOVS, STOS and LODS ask
abbrev pub is_repeated : Rep → Bool
is_repeated Once = false
is_repeated Equal = true
is_repeated NotEqual = true

-- whether an operation goes on behind an element that left this ZF
abbrev pub goes_on : Element → Rep → Bool → Bool
goes_on Move rep zero = is_repeated rep
goes_on Compare rep zero = goes_on_with rep zero
goes_on Store rep zero = is_repeated rep
goes_on Load rep zero = is_repeated rep
goes_on Scan rep zero = goes_on_with rep zero

-- Whether a further turn follows one that led from a state to another: it did an element, and ZF doesn't end the repetition.
-- A further one comes behind the last element too, and finds ECX 0.
-- Own choice: docs/DECISIONS.md, "String operations"
abbrev pub is_followed : Option Element → Rep → Proc → Proc → Bool
is_followed (Some element) rep before after = not (register_of before ecx == 0) && goes_on element rep (has_flag Zero after.eflags)
is_followed None rep before after = false

-- The state behind an operation that led from a state at its instruction to another behind it: EIP is the instruction's again
-- where a further turn follows.
-- Source: Intel 80386 PRM 3.6.1, 9.2
unfoldable pub behind_turn : Op → Proc → Proc → Proc
behind_turn op before after = if is_followed (element_of op.name) op.rep before after then at_eip after before.eip else after
