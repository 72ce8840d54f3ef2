-- The prefixes of an operation say what it has.
use Rattle.std.proofs.Common.{◌≡◌, ℕ, zero, suc, ◌<◌, Bool, true, false, List, ◌++◌, length, refl, arith}
use Rattle.std.specs.Prelude.{Option, Some, None, ◌&&◌, nat_lt, nat_le}
use Rattle.std.specs.List.{list_all}
use Rattle.m386_opmap.specs.declared.op.Rep.{Rep}
use Rattle.m386_opmap.specs.declared.op.Rep.TheVariants.{Once, Equal, NotEqual}
use Rattle.m386_opmap.specs.Prefix.{is_prefix, prefixes_of, segment_named}
use Rattle.m386_encode.specs.Candidates.{segment_prefix, rep_prefix, byte_if}

-- the prefixes of four marks, rising
abbrev pub marks : Option ℕ → Bool → Bool → Rep → List ℕ
marks seg narrow lock rep = ((segment_prefix seg ++ byte_if narrow 0x66) ++ byte_if lock 0xf0) ++ rep_prefix rep

-- a segment register or none
abbrev pub IsSegment : Option ℕ → Type 0
IsSegment None = Unit {0}
IsSegment (Some n) = n < 6

pub marks_say : (seg : Option ℕ) (narrow lock : Bool) (rep : Rep) → IsSegment seg → prefixes_of (marks seg narrow lock rep) ≡ record { seg = seg; narrow = narrow; lock = lock; rep = rep }
unfolding prefixes_of
marks_say None true true Once h = refl
marks_say None true true Equal h = refl
marks_say None true true NotEqual h = refl
marks_say None true false Once h = refl
marks_say None true false Equal h = refl
marks_say None true false NotEqual h = refl
marks_say None false true Once h = refl
marks_say None false true Equal h = refl
marks_say None false true NotEqual h = refl
marks_say None false false Once h = refl
marks_say None false false Equal h = refl
marks_say None false false NotEqual h = refl
marks_say (Some zero) true true Once h = refl
marks_say (Some zero) true true Equal h = refl
marks_say (Some zero) true true NotEqual h = refl
marks_say (Some zero) true false Once h = refl
marks_say (Some zero) true false Equal h = refl
marks_say (Some zero) true false NotEqual h = refl
marks_say (Some zero) false true Once h = refl
marks_say (Some zero) false true Equal h = refl
marks_say (Some zero) false true NotEqual h = refl
marks_say (Some zero) false false Once h = refl
marks_say (Some zero) false false Equal h = refl
marks_say (Some zero) false false NotEqual h = refl
marks_say (Some (suc zero)) true true Once h = refl
marks_say (Some (suc zero)) true true Equal h = refl
marks_say (Some (suc zero)) true true NotEqual h = refl
marks_say (Some (suc zero)) true false Once h = refl
marks_say (Some (suc zero)) true false Equal h = refl
marks_say (Some (suc zero)) true false NotEqual h = refl
marks_say (Some (suc zero)) false true Once h = refl
marks_say (Some (suc zero)) false true Equal h = refl
marks_say (Some (suc zero)) false true NotEqual h = refl
marks_say (Some (suc zero)) false false Once h = refl
marks_say (Some (suc zero)) false false Equal h = refl
marks_say (Some (suc zero)) false false NotEqual h = refl
marks_say (Some (suc (suc zero))) true true Once h = refl
marks_say (Some (suc (suc zero))) true true Equal h = refl
marks_say (Some (suc (suc zero))) true true NotEqual h = refl
marks_say (Some (suc (suc zero))) true false Once h = refl
marks_say (Some (suc (suc zero))) true false Equal h = refl
marks_say (Some (suc (suc zero))) true false NotEqual h = refl
marks_say (Some (suc (suc zero))) false true Once h = refl
marks_say (Some (suc (suc zero))) false true Equal h = refl
marks_say (Some (suc (suc zero))) false true NotEqual h = refl
marks_say (Some (suc (suc zero))) false false Once h = refl
marks_say (Some (suc (suc zero))) false false Equal h = refl
marks_say (Some (suc (suc zero))) false false NotEqual h = refl
marks_say (Some (suc (suc (suc zero)))) true true Once h = refl
marks_say (Some (suc (suc (suc zero)))) true true Equal h = refl
marks_say (Some (suc (suc (suc zero)))) true true NotEqual h = refl
marks_say (Some (suc (suc (suc zero)))) true false Once h = refl
marks_say (Some (suc (suc (suc zero)))) true false Equal h = refl
marks_say (Some (suc (suc (suc zero)))) true false NotEqual h = refl
marks_say (Some (suc (suc (suc zero)))) false true Once h = refl
marks_say (Some (suc (suc (suc zero)))) false true Equal h = refl
marks_say (Some (suc (suc (suc zero)))) false true NotEqual h = refl
marks_say (Some (suc (suc (suc zero)))) false false Once h = refl
marks_say (Some (suc (suc (suc zero)))) false false Equal h = refl
marks_say (Some (suc (suc (suc zero)))) false false NotEqual h = refl
marks_say (Some (suc (suc (suc (suc zero))))) true true Once h = refl
marks_say (Some (suc (suc (suc (suc zero))))) true true Equal h = refl
marks_say (Some (suc (suc (suc (suc zero))))) true true NotEqual h = refl
marks_say (Some (suc (suc (suc (suc zero))))) true false Once h = refl
marks_say (Some (suc (suc (suc (suc zero))))) true false Equal h = refl
marks_say (Some (suc (suc (suc (suc zero))))) true false NotEqual h = refl
marks_say (Some (suc (suc (suc (suc zero))))) false true Once h = refl
marks_say (Some (suc (suc (suc (suc zero))))) false true Equal h = refl
marks_say (Some (suc (suc (suc (suc zero))))) false true NotEqual h = refl
marks_say (Some (suc (suc (suc (suc zero))))) false false Once h = refl
marks_say (Some (suc (suc (suc (suc zero))))) false false Equal h = refl
marks_say (Some (suc (suc (suc (suc zero))))) false false NotEqual h = refl
marks_say (Some (suc (suc (suc (suc (suc zero)))))) true true Once h = refl
marks_say (Some (suc (suc (suc (suc (suc zero)))))) true true Equal h = refl
marks_say (Some (suc (suc (suc (suc (suc zero)))))) true true NotEqual h = refl
marks_say (Some (suc (suc (suc (suc (suc zero)))))) true false Once h = refl
marks_say (Some (suc (suc (suc (suc (suc zero)))))) true false Equal h = refl
marks_say (Some (suc (suc (suc (suc (suc zero)))))) true false NotEqual h = refl
marks_say (Some (suc (suc (suc (suc (suc zero)))))) false true Once h = refl
marks_say (Some (suc (suc (suc (suc (suc zero)))))) false true Equal h = refl
marks_say (Some (suc (suc (suc (suc (suc zero)))))) false true NotEqual h = refl
marks_say (Some (suc (suc (suc (suc (suc zero)))))) false false Once h = refl
marks_say (Some (suc (suc (suc (suc (suc zero)))))) false false Equal h = refl
marks_say (Some (suc (suc (suc (suc (suc zero)))))) false false NotEqual h = refl
marks_say (Some (suc (suc (suc (suc (suc (suc n))))))) narrow lock rep h = absurd (omega arith)

pub segment_is_named : (b : ℕ) → IsSegment (segment_named b)
segment_is_named b = grind (arith)

-- the prefixes are bytes that are prefixes, and at most four
pub marks_pass : (seg : Option ℕ) (narrow lock : Bool) (rep : Rep) → IsSegment seg →
    list_all (λ b. is_prefix b && nat_lt b 256) (marks seg narrow lock rep) && nat_le (length (marks seg narrow lock rep)) 4 ≡ true
unfolding is_prefix
marks_pass None true true Once h = refl
marks_pass None true true Equal h = refl
marks_pass None true true NotEqual h = refl
marks_pass None true false Once h = refl
marks_pass None true false Equal h = refl
marks_pass None true false NotEqual h = refl
marks_pass None false true Once h = refl
marks_pass None false true Equal h = refl
marks_pass None false true NotEqual h = refl
marks_pass None false false Once h = refl
marks_pass None false false Equal h = refl
marks_pass None false false NotEqual h = refl
marks_pass (Some zero) true true Once h = refl
marks_pass (Some zero) true true Equal h = refl
marks_pass (Some zero) true true NotEqual h = refl
marks_pass (Some zero) true false Once h = refl
marks_pass (Some zero) true false Equal h = refl
marks_pass (Some zero) true false NotEqual h = refl
marks_pass (Some zero) false true Once h = refl
marks_pass (Some zero) false true Equal h = refl
marks_pass (Some zero) false true NotEqual h = refl
marks_pass (Some zero) false false Once h = refl
marks_pass (Some zero) false false Equal h = refl
marks_pass (Some zero) false false NotEqual h = refl
marks_pass (Some (suc zero)) true true Once h = refl
marks_pass (Some (suc zero)) true true Equal h = refl
marks_pass (Some (suc zero)) true true NotEqual h = refl
marks_pass (Some (suc zero)) true false Once h = refl
marks_pass (Some (suc zero)) true false Equal h = refl
marks_pass (Some (suc zero)) true false NotEqual h = refl
marks_pass (Some (suc zero)) false true Once h = refl
marks_pass (Some (suc zero)) false true Equal h = refl
marks_pass (Some (suc zero)) false true NotEqual h = refl
marks_pass (Some (suc zero)) false false Once h = refl
marks_pass (Some (suc zero)) false false Equal h = refl
marks_pass (Some (suc zero)) false false NotEqual h = refl
marks_pass (Some (suc (suc zero))) true true Once h = refl
marks_pass (Some (suc (suc zero))) true true Equal h = refl
marks_pass (Some (suc (suc zero))) true true NotEqual h = refl
marks_pass (Some (suc (suc zero))) true false Once h = refl
marks_pass (Some (suc (suc zero))) true false Equal h = refl
marks_pass (Some (suc (suc zero))) true false NotEqual h = refl
marks_pass (Some (suc (suc zero))) false true Once h = refl
marks_pass (Some (suc (suc zero))) false true Equal h = refl
marks_pass (Some (suc (suc zero))) false true NotEqual h = refl
marks_pass (Some (suc (suc zero))) false false Once h = refl
marks_pass (Some (suc (suc zero))) false false Equal h = refl
marks_pass (Some (suc (suc zero))) false false NotEqual h = refl
marks_pass (Some (suc (suc (suc zero)))) true true Once h = refl
marks_pass (Some (suc (suc (suc zero)))) true true Equal h = refl
marks_pass (Some (suc (suc (suc zero)))) true true NotEqual h = refl
marks_pass (Some (suc (suc (suc zero)))) true false Once h = refl
marks_pass (Some (suc (suc (suc zero)))) true false Equal h = refl
marks_pass (Some (suc (suc (suc zero)))) true false NotEqual h = refl
marks_pass (Some (suc (suc (suc zero)))) false true Once h = refl
marks_pass (Some (suc (suc (suc zero)))) false true Equal h = refl
marks_pass (Some (suc (suc (suc zero)))) false true NotEqual h = refl
marks_pass (Some (suc (suc (suc zero)))) false false Once h = refl
marks_pass (Some (suc (suc (suc zero)))) false false Equal h = refl
marks_pass (Some (suc (suc (suc zero)))) false false NotEqual h = refl
marks_pass (Some (suc (suc (suc (suc zero))))) true true Once h = refl
marks_pass (Some (suc (suc (suc (suc zero))))) true true Equal h = refl
marks_pass (Some (suc (suc (suc (suc zero))))) true true NotEqual h = refl
marks_pass (Some (suc (suc (suc (suc zero))))) true false Once h = refl
marks_pass (Some (suc (suc (suc (suc zero))))) true false Equal h = refl
marks_pass (Some (suc (suc (suc (suc zero))))) true false NotEqual h = refl
marks_pass (Some (suc (suc (suc (suc zero))))) false true Once h = refl
marks_pass (Some (suc (suc (suc (suc zero))))) false true Equal h = refl
marks_pass (Some (suc (suc (suc (suc zero))))) false true NotEqual h = refl
marks_pass (Some (suc (suc (suc (suc zero))))) false false Once h = refl
marks_pass (Some (suc (suc (suc (suc zero))))) false false Equal h = refl
marks_pass (Some (suc (suc (suc (suc zero))))) false false NotEqual h = refl
marks_pass (Some (suc (suc (suc (suc (suc zero)))))) true true Once h = refl
marks_pass (Some (suc (suc (suc (suc (suc zero)))))) true true Equal h = refl
marks_pass (Some (suc (suc (suc (suc (suc zero)))))) true true NotEqual h = refl
marks_pass (Some (suc (suc (suc (suc (suc zero)))))) true false Once h = refl
marks_pass (Some (suc (suc (suc (suc (suc zero)))))) true false Equal h = refl
marks_pass (Some (suc (suc (suc (suc (suc zero)))))) true false NotEqual h = refl
marks_pass (Some (suc (suc (suc (suc (suc zero)))))) false true Once h = refl
marks_pass (Some (suc (suc (suc (suc (suc zero)))))) false true Equal h = refl
marks_pass (Some (suc (suc (suc (suc (suc zero)))))) false true NotEqual h = refl
marks_pass (Some (suc (suc (suc (suc (suc zero)))))) false false Once h = refl
marks_pass (Some (suc (suc (suc (suc (suc zero)))))) false false Equal h = refl
marks_pass (Some (suc (suc (suc (suc (suc zero)))))) false false NotEqual h = refl
marks_pass (Some (suc (suc (suc (suc (suc (suc n))))))) narrow lock rep h = absurd (omega arith)
