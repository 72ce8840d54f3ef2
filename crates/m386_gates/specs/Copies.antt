-- What a CALL through a gate carries to an inner stack.
use Rattle.std.specs.Prelude.{ℕ, zero, suc, [], ◌∷◌, ◌*◌, nat_lt, if◌then◌else◌}
use Rattle.m386_base.specs.declared.ask.Role.TheVariants.{Operand}
use Rattle.m386_base.specs.Phrase.{Phrase, Done, ◌>>=◌}
use Rattle.m386_base.specs.Segments.{ss}
use Rattle.m386_state.specs.declared.proc.Proc.{Proc}
use Rattle.m386_state.specs.Start.{cpl_of, seg_at}
use Rattle.m386_access.specs.After.{register_of}
use Rattle.m386_access.specs.Registers.{esp}
use Rattle.m386_stack.specs.declared.stack.Stack.{Stack}
use Rattle.m386_stack.specs.Stack.{own_stack, moved, push_phrase, pushes, pop_phrase}

-- a doubleword of the old stack, by its place from the top, pushed on the new one
unfoldable pub copy_phrase : Proc → ℕ → Stack → Phrase Stack
copy_phrase p place st = pop_phrase Operand (moved (own_stack p) (4 * place)) 4 >>= (λ value. push_phrase st 4 value)

-- so many of them, the farthest first
unfoldable pub copies_phrase : Proc → ℕ → Stack → Phrase Stack
copies_phrase p zero st = Done st
copies_phrase p (suc place) st = copy_phrase p place st >>= (λ next. copies_phrase p place next)

-- SS and ESP of the old stack, and so many of its doublewords
unfoldable pub carry_phrase : Proc → ℕ → Stack → Phrase Stack
carry_phrase p count st = pushes st 4 ((seg_at p ss).selector ∷ register_of p esp ∷ []) >>= (λ below. copies_phrase p count below)

-- What a change to this level carries to its stack.
-- Source: Intel 80386 PRM 6.3.4.1; the order: docs/DECISIONS.md, "Calls and returns"
unfoldable pub carried_phrase : Proc → ℕ → ℕ → Stack → Phrase Stack
carried_phrase p level count st = if nat_lt level (cpl_of p) then carry_phrase p count st else Done st
