use Rattle.std.proofs.Common.{ℕ, refl, slice_index_or, false}
use Rattle.m386_base.specs.declared.ask.Role.TheVariants as roles
use Rattle.m386_base.specs.declared.ask.Space.TheVariants as spaces
use Rattle.m386_memory.specs.Contents.{group_of}
use Rattle.m386_memory.proofs.Groups.{value_enabled, group_stands}
use Rattle.m386_memory.proofs.group.read.Goals as goal

pub returns-clause-value : goal.returns-clause-value
unfolding group_of
returns-clause-value c =
    rw (c.value.ensures, c.byte_at-byte_0.ensures, c.byte_at-byte_1.ensures, c.byte_at-byte_2.ensures, c.byte_at-byte_3.ensures) refl

pub returns-clause-enabled : goal.returns-clause-enabled
returns-clause-enabled c =
    rw c.value.ensures (value_enabled c.args.enables c.byte_at-byte_0.result c.byte_at-byte_1.result c.byte_at-byte_2.result c.byte_at-byte_3.result c.byte_at-byte_0.type_inv c.byte_at-byte_1.type_inv c.byte_at-byte_2.type_inv c.byte_at-byte_3.type_inv)

pub returns-clause-bytes : goal.returns-clause-bytes
unfolding group_of
returns-clause-bytes c =
    let byte : ℕ → ℕ = λ a. slice_index_or c.args.bytes.now a c.args.beyond in
    group_stands byte (record { space = spaces.Memory; write = false; joined = false; role = roles.Fetch; part = 0; addr = c.args.addr; enables = c.args.enables; value = c.value.result }) (rw (← c.byte_at-byte_0.ensures) c.byte_at-byte_0.type_inv) (rw (← c.byte_at-byte_1.ensures) c.byte_at-byte_1.type_inv) (rw (← c.byte_at-byte_2.ensures) c.byte_at-byte_2.type_inv) (rw (← c.byte_at-byte_3.ensures) c.byte_at-byte_3.type_inv) (rw (c.value.ensures, c.byte_at-byte_0.ensures, c.byte_at-byte_1.ensures, c.byte_at-byte_2.ensures, c.byte_at-byte_3.ensures) refl)
