-- The shortest spelling is the first.
use Rattle.std.proofs.Common.{◌≡◌, true, false, List, ℕ, subst}
use Rattle.m386_opmap.specs.declared.op.Op.{Op}
use Rattle.m386_opmap.specs.Spelling.{Spells}
use Rattle.m386_encode.specs.Shortest.{IsShortest}
use Rattle.m386_encode.specs.Wide.{IsShortestWide}
use Rattle.m386_lines.specs.Seen.{instruction_seen}
use Rattle.m386_asm.specs.Layout.{is_named}
use Rattle.m386_asm.proofs.Here.{first_wide, first_short, none_here}
use Rattle.m386_asm.proofs.spelling.encode_here.Goals as goal

pub returns-then-is_named-clause-some : goal.returns-then-is_named-clause-some
returns-then-is_named-clause-some c = λ ns bytes knows e.
    let P : Op → Type 0 = λ x. IsShortestWide x bytes.items in
    let named : is_named (instruction_seen c.args.instruction.now) ≡ true = cc in
    first_wide ns c.args.place (instruction_seen c.args.instruction.now) c.requires.here bytes.items named (subst P (c.op_at-op.ensures ns knows) (c.encode_wide.ensures.shortest bytes e))

pub returns-then-is_named-clause-none : goal.returns-then-is_named-clause-none
returns-then-is_named-clause-none c = λ ns knows e.
    let P : Op → Type 0 = λ x. (bytes : List ℕ) → Spells x bytes → ⊥ in
    none_here ns c.args.place (instruction_seen c.args.instruction.now) c.requires.here (subst P (c.op_at-op.ensures ns knows) (c.encode_wide.ensures.none.0 e))

pub returns-else-is_named-clause-some : goal.returns-else-is_named-clause-some
returns-else-is_named-clause-some c = λ ns bytes knows e.
    let P : Op → Type 0 = λ x. IsShortest x bytes.items in
    let unnamed : is_named (instruction_seen c.args.instruction.now) ≡ false = cc in
    first_short ns c.args.place (instruction_seen c.args.instruction.now) c.requires.here bytes.items unnamed (subst P (c.op_at-op.ensures ns knows) (c.encode.ensures.shortest bytes e))

pub returns-else-is_named-clause-none : goal.returns-else-is_named-clause-none
returns-else-is_named-clause-none c = λ ns knows e.
    let P : Op → Type 0 = λ x. (bytes : List ℕ) → Spells x bytes → ⊥ in
    none_here ns c.args.place (instruction_seen c.args.instruction.now) c.requires.here (subst P (c.op_at-op.ensures ns knows) (c.encode.ensures.none.0 e))
