-- A stack that is pushed on and popped from.
use Rattle.std.specs.Prelude.{ℕ, Bool, List, [], ◌∷◌, ◌+◌, ◌-◌, ◌*◌, ◌/◌, ◌%◌, ◌^◌, if◌then◌else◌}
use Rattle.m386_base.specs.declared.ask.Role.{Role}
use Rattle.m386_base.specs.declared.ask.Role.TheVariants.{Push}
use Rattle.m386_base.specs.declared.split.Piece.{Piece}
use Rattle.m386_base.specs.Phrase.{Phrase, Done, Faults, ◌>>=◌}
use Rattle.m386_base.specs.Segments.{ss}
use Rattle.m386_desc.specs.Access.{is_big}
use Rattle.m386_state.specs.declared.proc.Proc.{Proc}
use Rattle.m386_state.specs.declared.segment.Seg.{Seg}
use Rattle.m386_state.specs.Start.{seg_at}
use Rattle.m386_access.specs.Access.{memory_pieces, reads, writes}
use Rattle.m386_access.specs.Address.{may_read, may_write, linear_of, access_fault_of}
use Rattle.m386_access.specs.After.{register_of, with_register}
use Rattle.m386_access.specs.Registers.{esp}
use Rattle.m386_segload.specs.Segments.{with_segment}
use Rattle.m386_stack.specs.declared.stack.Stack.{Stack}

abbrev pub stack_of : Seg → ℕ → Stack
stack_of s pointer = record { ss = s; esp = pointer }

-- The stack that a processor is on.
-- Source: Intel 80386 PRM 2.3.3
abbrev pub own_stack : Proc → Stack
own_stack p = stack_of (seg_at p ss) (register_of p esp)

-- The offset of the top: ESP, or SP where B is 0.
-- Source: Intel 80386 PRM 6.3.1.2
abbrev pub top_of : Stack → ℕ
top_of st = if is_big st.ss.desc then st.esp else st.esp % 2 ^ 16

-- Another pointer: ESP, or SP alone where B is 0.
-- Source: Intel 80386 PRM 6.3.1.2
abbrev pub at_pointer : Stack → ℕ → Stack
at_pointer st pointer = stack_of st.ss (if is_big st.ss.desc then pointer else (st.esp / 2 ^ 16 * 2 ^ 16 + pointer % 2 ^ 16))

-- the top so many bytes higher
abbrev pub moved : Stack → ℕ → Stack
moved st by = at_pointer st ((st.esp + by) % 2 ^ 32)

-- room for so many bytes below the top
abbrev pub lowered : Stack → ℕ → Stack
lowered st len = moved st (2 ^ 32 - len)

-- Which tests a push and a pop pass: the rights of a write and of a read, and each byte is one of the offsets.
-- Source: Intel 80386 PRM 6.3.1
abbrev pub may_push : Stack → ℕ → Bool
may_push st len = may_write st.ss (top_of st) len

abbrev pub may_pop : Stack → ℕ → Bool
may_pop st len = may_read st.ss (top_of st) len

-- the groups of so many bytes at the top
abbrev pub top_pieces : Stack → ℕ → List Piece
top_pieces st len = memory_pieces (linear_of st.ss (top_of st)) len

-- A value at the top, where the stack has it; else #SS(0), with no cycle.
-- Source: Intel 80386 PRM 6.3.1, 9.8.12
unfoldable pub put_top_phrase : Stack → ℕ → ℕ → Phrase Stack
put_top_phrase st len value =
    if may_push st len then (writes Push value (top_pieces st len) >>= (λ _. Done st))
    else Faults (access_fault_of ss)

-- A value pushed below the top.
-- Source: Intel 80386 PRM 17.2.2.11, PUSH
unfoldable pub push_phrase : Stack → ℕ → ℕ → Phrase Stack
push_phrase st len value = put_top_phrase (lowered st len) len value

-- Values pushed in this order, each tested when its turn comes.
-- Own choice: docs/DECISIONS.md, "Pushes and pops"
unfoldable pub pushes : Stack → ℕ → List ℕ → Phrase Stack
pushes st len [] = Done st
pushes st len (v ∷ vs) = push_phrase st len v >>= (λ next. pushes next len vs)

-- A value from the top; the stack behind it is moved by its length.
-- Source: Intel 80386 PRM 6.3.1, 9.8.12; 17.2.2.11, POP
unfoldable pub pop_phrase : Role → Stack → ℕ → Phrase ℕ
pop_phrase role st len =
    if may_pop st len then reads role 0 (top_pieces st len)
    else Faults (access_fault_of ss)

-- the state with the pointer of a stack in ESP
abbrev pub with_pointer : Proc → Stack → Proc
with_pointer p st = with_register p esp st.esp

-- the state on a stack: SS and ESP
abbrev pub with_stack : Proc → Stack → Proc
with_stack p st = with_pointer (with_segment p ss st.ss) st
