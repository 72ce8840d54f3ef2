-- Operations that read operands for their flags, or look for a bit.
use Rattle.std.specs.Prelude.{◌≡◌, ℕ, ◌+◌, ◌-◌, ◌^◌, ◌<◌, ◌≤◌, ◌==◌, true, false, if◌then◌else◌, Option, Some, None}
use Rattle.std.specs.Int.Count.{count_leading_zeros, count_trailing_zeros}
use Rattle.m386_base.specs.declared.flags.Flag.TheVariants.{Zero}
use Rattle.m386_base.specs.declared.number.Width.{Width}
use Rattle.m386_base.specs.Flags.{has_bit, with_flag}
use Rattle.m386_base.specs.Phrase.{Phrase, Done, ◌>>=◌}
use Rattle.m386_state.specs.declared.proc.Proc.{Proc}
use Rattle.m386_alu.specs.declared.arithmetic.AluOp.{AluOp}
use Rattle.m386_access.specs.After.{with_flags, with_register_at}
use Rattle.m386_access.specs.Operands.{value_phrase, on_two, on_register}
use Rattle.m386_access.specs.declared.operands.Manner.{Manner}
use Rattle.m386_access.specs.declared.operands.Operands.{Operands}
use Rattle.m386_alu.specs.declared.arithmetic.AluOp.TheVariants as ops
use Rattle.m386_opmap.specs.declared.name.Name.{Name}
use Rattle.m386_opmap.specs.declared.name.Name.TheVariants as names
use Rattle.m386_data.specs.Bound.{bound_phrase}
use Rattle.m386_data.specs.declared.compare.Comparison.{Comparison}
use Rattle.m386_data.specs.declared.compare.Comparison.TheVariants as comparisons
use Rattle.m386_data.specs.declared.compare.Scan.TheVariants as scans
use Rattle.m386_data.specs.Change.{changed, low_of}
use Rattle.m386_data.specs.declared.change.Change.TheVariants.{Arithmetic}
use Rattle.m386_data.specs.declared.compare.Scan.{Scan}
use Rattle.m386_data.specs.declared.compare.Scan.TheVariants.{Forward, Reverse}

-- What the operation of a name does, where it is one of this group.
-- Source: Intel 80386 PRM 17.2.2.11, BOUND, BSF, BSR, CMP, TEST
abbrev pub comparison_of : Name → Option Comparison
comparison_of names.Cmp = Some (comparisons.Flags ops.Cmp)
comparison_of names.Test = Some (comparisons.Flags ops.And)
comparison_of names.Bsf = Some (comparisons.Search scans.Forward)
comparison_of names.Bsr = Some (comparisons.Search scans.Reverse)
comparison_of names.Bound = Some comparisons.Bound
comparison_of _ = None

-- CMP or TEST: the flags of arithmetic whose result isn't stored.
-- Source: Intel 80386 PRM 17.2.2.11, CMP, TEST
unfoldable pub compare_phrase : AluOp → Manner → Operands → Proc → Phrase Proc
compare_phrase op m operands p =
    on_two operands (λ first second. value_phrase m.width p second >>= (λ b. value_phrase m.width p first >>= (λ a. Done (with_flags p (changed (Arithmetic op b) m.width a p.eflags).1))))

-- the place of the lowest or highest bit that is 1 of a number below 2^32 that isn't 0
abbrev pub place_of_one : Scan → ℕ → ℕ
place_of_one Forward n = count_trailing_zeros 32 n
place_of_one Reverse n = 31 - count_leading_zeros 32 n

-- bit k is 1, and none below it
pub record IsLowestOne (n k : ℕ) : Type 0 where
  pub one : has_bit n k ≡ true
  pub below : (i : ℕ) → i < k → has_bit n i ≡ false

-- bit k is 1, and none above it: k + 1 bits are needed for the number
pub record IsHighestOne (n k : ℕ) : Type 0 where
  pub one : 2 ^ k ≤ n
  pub above : n < 2 ^ (k + 1)

-- The state after a scan of a number: ZF says whether it is 0, and then the register stays.
-- Source: Intel 80386 PRM 3.4.3
-- Own choice: docs/DECISIONS.md, "Flags that the manual leaves undefined"
abbrev pub scanned : Scan → Width → Proc → ℕ → ℕ → Proc
scanned scan w p register n =
    if n == 0 then with_flags p (with_flag Zero true p.eflags)
    else with_register_at w (with_flags p (with_flag Zero false p.eflags)) register (place_of_one scan n)

-- BSF or BSR.
-- Source: Intel 80386 PRM 17.2.2.11, BSF, BSR
unfoldable pub scan_phrase : Scan → Manner → Operands → Proc → Phrase Proc
scan_phrase scan m operands p =
    on_two operands (λ first second. on_register first (λ register. value_phrase m.width p second >>= (λ n. Done (scanned scan m.width p register (low_of m.width n)))))

-- an operation of this group
abbrev pub comparison_phrase : Comparison → Manner → Operands → Proc → Phrase Proc
comparison_phrase (comparisons.Flags op) m operands p = compare_phrase op m operands p
comparison_phrase (comparisons.Search scan) m operands p = scan_phrase scan m operands p
comparison_phrase comparisons.Bound m operands p = bound_phrase m operands p
