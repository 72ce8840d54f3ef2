-- PUSHF and POPF, and what a popped image changes.
use Rattle.std.specs.Prelude.{ℕ, ◌-◌, ◌/◌, ◌%◌, ◌^◌, ◌==◌, nat_le, if◌then◌else◌, bit_and, bit_or}
use Rattle.m386_base.specs.declared.ask.Role.TheVariants as roles
use Rattle.m386_base.specs.declared.number.Flags.{Flags}
use Rattle.m386_base.specs.declared.number.Width.{Width}
use Rattle.m386_base.specs.Phrase.{Phrase, Done, ◌>>=◌}
use Rattle.m386_state.specs.declared.proc.Proc.{Proc}
use Rattle.m386_state.specs.Start.{cpl_of}
use Rattle.m386_access.specs.After.{with_flags}
use Rattle.m386_stack.specs.Names.{size_of}
use Rattle.m386_stack.specs.Stack.{own_stack, pop_phrase}
use Rattle.m386_stack.specs.Single.{behind_pop}

-- IOPL.
-- Source: Intel 80386 PRM 2.3.4.1
abbrev pub iopl_of : Proc → ℕ
iopl_of p = p.eflags.0 / 2 ^ 12 % 4

-- The bits that POPF and IRET change: CF, PF, AF, ZF, SF, TF, DF, OF and NT; IOPL at level 0 alone; IF where CPL is at most IOPL.
-- Source: Intel 80386 PRM 17.2.2.11, POPF, IRET; 8.3.1
abbrev pub changed_bits : Proc → ℕ
changed_bits p = if cpl_of p == 0 then 0x7fd5 else if nat_le (cpl_of p) (iopl_of p) then 0x4fd5 else 0x4dd5

-- The flags register with the bits of a mask as an image has them. Bit 1 is 1 always.
-- Source: Intel 80386 PRM 2.3.4.1
abbrev pub merged : ℕ → ℕ → ℕ → ℕ
merged mask flags image = bit_or (bit_or (bit_and flags (0xffffffff - mask)) (bit_and image mask)) 2

abbrev pub popped_flags : Proc → ℕ → Flags
popped_flags p image = record { 0 = merged (changed_bits p) p.eflags.0 image }

-- POPF.
-- Source: Intel 80386 PRM 17.2.2.11, POPF
unfoldable pub pop_flags_phrase : Proc → Width → Phrase Proc
pop_flags_phrase p w = do
  image ← pop_phrase roles.Flags (own_stack p) (size_of w)
  Done (with_flags (behind_pop p w) (popped_flags p image))
