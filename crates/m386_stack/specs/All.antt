-- PUSHA and POPA.
use Rattle.std.specs.Prelude.{ℕ, ◌-◌, ◌*◌, ◌%◌, List, [], ◌∷◌}
use Rattle.m386_base.specs.declared.ask.Role.TheVariants as roles
use Rattle.m386_base.specs.declared.number.Width.{Width}
use Rattle.m386_base.specs.Phrase.{Phrase, Done, ◌>>=◌}
use Rattle.m386_state.specs.declared.proc.Proc.{Proc}
use Rattle.m386_access.specs.After.{register_at, with_register_at}
use Rattle.m386_access.specs.Registers.{eax, ecx, edx, esp, ebp, esi, edi}
use Rattle.m386_stack.specs.declared.stack.Stack.{Stack}
use Rattle.m386_stack.specs.Names.{size_of}
use Rattle.m386_stack.specs.Stack.{own_stack, moved, pushes, pop_phrase, with_pointer}

-- EBX.
-- Source: Intel 80386 PRM 2.3.1, 17.2.1
abbrev pub ebx : ℕ
ebx = 3

-- What PUSHA pushes, in its order: ESP is the one before it.
-- Source: Intel 80386 PRM 17.2.2.11, PUSHA
abbrev pub pushed_registers : Proc → Width → List ℕ
pushed_registers p w =
    register_at w p eax ∷ register_at w p ecx ∷ register_at w p edx ∷ register_at w p ebx ∷ register_at w p esp ∷ register_at w p ebp ∷ register_at w p esi ∷ register_at w p edi ∷ []

-- PUSHA.
-- Source: Intel 80386 PRM 17.2.2.11, PUSHA
unfoldable pub push_registers_phrase : Proc → Width → Phrase Proc
push_registers_phrase p w = do
  st ← pushes (own_stack p) (size_of w) (pushed_registers p w)
  Done (with_pointer p st)

-- how many values lie below that of a register, where PUSHA has pushed all
abbrev pub depth_of : ℕ → ℕ
depth_of register = 7 - register % 8

-- a register popped from a stack that PUSHA pushed it on
unfoldable pub pop_register_phrase : Proc → Stack → Width → ℕ → Phrase Proc
pop_register_phrase p st w register = do
  value ← pop_phrase roles.Pop (moved st (depth_of register * size_of w)) (size_of w)
  Done (with_register_at w p register value)

-- Registers popped so, each tested when its turn comes.
-- Own choice: docs/DECISIONS.md, "Pushes and pops"
unfoldable pub pops : Proc → Stack → Width → List ℕ → Phrase Proc
pops p st w [] = Done p
pops p st w (r ∷ rs) = pop_register_phrase p st w r >>= (λ next. pops next st w rs)

-- What POPA pops, in its order: all but ESP.
-- Source: Intel 80386 PRM 17.2.2.11, POPA
abbrev pub popped_registers : List ℕ
popped_registers = edi ∷ esi ∷ ebp ∷ ebx ∷ edx ∷ ecx ∷ eax ∷ []

-- the pointer behind all eight places
abbrev pub behind_pops : Proc → Width → Proc → Proc
behind_pops p w popped = with_pointer popped (moved (own_stack p) (8 * size_of w))

-- POPA.
-- Source: Intel 80386 PRM 17.2.2.11, POPA
unfoldable pub pop_registers_phrase : Proc → Width → Phrase Proc
pop_registers_phrase p w = do
  popped ← pops p (own_stack p) w popped_registers
  Done (behind_pops p w popped)
