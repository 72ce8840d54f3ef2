-- A return to the same or an outer level, from the popped EIP and CS on.
use Rattle.std.specs.Prelude.{ℕ, Bool, false, [], ◌∷◌, ◌%◌, ◌^◌, ◌||◌, nat_le, nat_lt, if◌then◌else◌}
use Rattle.m386_base.specs.declared.ask.Role.TheVariants.{Pop}
use Rattle.m386_base.specs.declared.desc.Desc.{Desc}
use Rattle.m386_base.specs.Phrase.{Phrase, Done, ◌>>=◌}
use Rattle.m386_base.specs.Segments.{es, cs, ss, ds, fs, gs}
use Rattle.m386_desc.specs.Access.{dpl_of, is_conforming}
use Rattle.m386_desc.specs.Selector.{rpl_of}
use Rattle.m386_state.specs.declared.proc.Proc.{Proc}
use Rattle.m386_state.specs.declared.segment.Seg.{Seg}
use Rattle.m386_state.specs.Start.{cpl_of, seg_at, unusable_seg}
use Rattle.m386_segload.specs.Load.{take_phrase}
use Rattle.m386_segload.specs.Rules.{need, return_rules}
use Rattle.m386_segload.specs.Segments.{stack_segment_phrase}
use Rattle.m386_stack.specs.declared.stack.Stack.{Stack}
use Rattle.m386_stack.specs.Stack.{stack_of, moved, pop_phrase}
use Rattle.m386_transfer.specs.declared.place.Target.{Target}
use Rattle.m386_transfer.specs.Place.{target_fault, placed}

-- what a level may keep
abbrev pub is_kept_at : ℕ → Desc → Bool
is_kept_at level d = is_conforming d || nat_le level (dpl_of d)

abbrev pub kept_at : ℕ → Seg → Seg
kept_at level s = if is_kept_at level s.desc then s else unusable_seg 0

-- Each of ES, DS, FS and GS is null whose DPL is below the new level and that isn't conforming code.
-- Source: Intel 80386 PRM 6.3.4.2
unfoldable pub outer_segments : Proc → ℕ → Proc
outer_segments p level = record p {
  segs = kept_at level (seg_at p es) ∷ seg_at p cs ∷ seg_at p ss ∷ kept_at level (seg_at p ds) ∷ kept_at level (seg_at p fs) ∷ kept_at level (seg_at p gs) ∷ [];
}

-- the popped EIP lies in the code, and the return is made
abbrev pub back_phrase : Proc → Target → Stack → Phrase Proc
back_phrase p t st = need (target_fault t) (Done (placed p t st))

-- ESP and SS of an outer level, popped and tested
unfoldable pub outer_stack_phrase : Proc → ℕ → Stack → ℕ → Phrase Stack
outer_stack_phrase p level st len = do
  esp ← pop_phrase Pop st len
  selector ← pop_phrase Pop (moved st len) len
  seg ← stack_segment_phrase p level (selector % 2 ^ 16)
  Done (stack_of seg esp)

-- To an outer level. The bytes released are skipped on both stacks.
-- Source: Intel 80386 PRM 6.3.4.2; 17.2.2.11, RET
unfoldable pub outer_phrase : Proc → Target → Stack → ℕ → ℕ → Phrase Proc
outer_phrase p t st len released = do
  outer ← outer_stack_phrase p t.level (moved st released) len
  back_phrase (outer_segments p t.level) t (moved outer released)

-- where a return leads
abbrev pub return_target : ℕ → Desc → ℕ → Target
return_target selector d eip = record { selector = selector; desc = d; level = rpl_of selector; offset = eip }

-- by whether the level is an outer one
abbrev pub by_level_phrase : Proc → Target → Stack → ℕ → ℕ → Phrase Proc
by_level_phrase p t st len released =
    if nat_lt (cpl_of p) t.level then outer_phrase p t st len released
    else back_phrase p t (moved st released)

-- From the popped EIP and CS on, which had so many bytes each.
-- Source: Intel 80386 PRM 6.3.4.2; 17.2.2.11, RET
unfoldable pub return_phrase : Proc → ℕ → ℕ → Stack → ℕ → ℕ → Phrase Proc
return_phrase p selector eip st len released = do
  d ← take_phrase return_rules p (cpl_of p) false selector
  by_level_phrase p (return_target selector d eip) st len released
