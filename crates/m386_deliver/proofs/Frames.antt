-- Frames and flags of handlers.
use Rattle.std.proofs.Common.{arith, ◌≡◌, ℕ, ◌+◌, ◌*◌, ◌/◌, ◌%◌, ◌^◌, ◌==◌, ◌++◌, ◌∙◌, refl, ap, Bool, true, false, if◌then◌else◌, [], ◌∷◌, length, nat_le, nat_lt, Option, Some, None}
use Rattle.m386_base.specs.declared.flags.Flag.TheVariants.{Trap, NestedTask}
use Rattle.m386_base.specs.declared.number.Flags.{Flags}
use Rattle.m386_base.specs.Flags.{put_bit, with_flag}
use Rattle.m386_base.specs.Segments.{cs, ss}
use Rattle.m386_desc.specs.declared.kind.Kind.{Kind}
use Rattle.m386_desc.specs.declared.kind.Kind.TheVariants as kinds
use Rattle.m386_state.specs.declared.proc.Proc.{Proc}
use Rattle.m386_state.specs.Start.{cpl_of, seg_at}
use Rattle.m386_access.specs.After.{register_of}
use Rattle.m386_access.specs.Ordinary.{has_nested}
use Rattle.m386_access.specs.Registers.{esp}
use Rattle.m386_deliver.specs.Deliver.{optional, frame_of, handler_flags}

-- A frame has at most six doublewords.
pub frame_is_short : (p : Proc) (level : ℕ) (code : Option ℕ) → nat_le (length (frame_of p level code) * 2) 12 ≡ true
frame_is_short p level code = go (nat_lt level (cpl_of p)) code
  where
    go : (b : Bool) (c : Option ℕ) → nat_le (length ((if b then (seg_at p ss).selector ∷ register_of p esp ∷ [] else []) ++ (p.eflags.0 ∷ (seg_at p cs).selector ∷ p.eip ∷ []) ++ optional c) * 2) 12 ≡ true
    go true None = refl
    go true (Some n) = refl
    go false None = refl
    go false (Some n) = refl

-- a bit below NT leaves it
below : (n : ℕ) → has_nested (put_bit n 8 false) ≡ has_nested n
unfolding put_bit
below n = let e : (n / 2 ^ 9 * 2 ^ 9 + 0 + n % 2 ^ 8) / 2 ^ 14 % 2 ≡ n / 2 ^ 14 % 2 = omega arith in ap (λ x. x == 1) e

below_too : (n : ℕ) → has_nested (put_bit n 9 false) ≡ has_nested n
unfolding put_bit
below_too n = let e : (n / 2 ^ 10 * 2 ^ 10 + 0 + n % 2 ^ 9) / 2 ^ 14 % 2 ≡ n / 2 ^ 14 % 2 = omega arith in ap (λ x. x == 1) e

cleared : (n : ℕ) → has_nested (put_bit n 14 false) ≡ false
unfolding put_bit
cleared n = let e : (n / 2 ^ 15 * 2 ^ 15 + 0 + n % 2 ^ 14) / 2 ^ 14 % 2 ≡ 0 = omega arith in ap (λ x. x == 1) e

quiet : (f : Flags) → has_nested (with_flag Trap false (with_flag NestedTask false f)).0 ≡ false
unfolding with_flag
quiet f = below (put_bit f.0 14 false) ∙ cleared f.0

-- NT is clear in a handler.
pub handler_nested : (k : Kind) (f : Flags) → has_nested (handler_flags k f).0 ≡ false
unfolding with_flag
handler_nested kinds.IntGate f = below_too (with_flag Trap false (with_flag NestedTask false f)).0 ∙ quiet f
handler_nested kinds.TaskGate f = quiet f
handler_nested (kinds.DataSeg down writable) f = quiet f
handler_nested (kinds.CodeSeg conforming readable) f = quiet f
handler_nested (kinds.Tss busy) f = quiet f
handler_nested kinds.Ldt f = quiet f
handler_nested kinds.CallGate f = quiet f
handler_nested kinds.TrapGate f = quiet f
handler_nested kinds.Wrong f = quiet f
