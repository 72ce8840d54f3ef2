-- Loads of segment registers and of LDTR.
use Rattle.std.specs.Prelude.{ℕ, true, false, ◌==◌, if◌then◌else◌, [], ◌∷◌, Option, Some, None}
use Rattle.m386_base.specs.declared.ask.Role.TheVariants.{Gdt}
use Rattle.m386_base.specs.declared.desc.Desc.{Desc}
use Rattle.m386_base.specs.Descriptor.{no_descriptor}
use Rattle.m386_base.specs.Phrase.{Phrase, Done, ◌>>=◌}
use Rattle.m386_base.specs.Segments.{es, cs, ss, ds, fs, gs}
use Rattle.m386_desc.specs.Selector.{is_null_selector, code_of}
use Rattle.m386_state.specs.declared.proc.Proc.{Proc}
use Rattle.m386_state.specs.declared.segment.Seg.{Seg}
use Rattle.m386_state.specs.Start.{seg_at, cpl_of, unusable_seg}
use Rattle.m386_segload.specs.Load.{take_phrase, load_global_phrase, candidate_for}
use Rattle.m386_segload.specs.Rules.{stack_rules, data_rules, local_table_rules, first_broken, need}

-- a register that may be used
abbrev pub usable_seg : ℕ → Desc → Seg
usable_seg selector d = record { selector = selector; usable = true; desc = d }

-- a segment register where one is changed
abbrev pub changed_at : Proc → ℕ → Seg → ℕ → Seg
changed_at p seg value number = if number == seg then value else seg_at p number

-- the state with a segment register changed
unfoldable pub with_segment : Proc → ℕ → Seg → Proc
with_segment p seg value = record p {
  segs = changed_at p seg value es ∷ changed_at p seg value cs ∷ changed_at p seg value ss ∷ changed_at p seg value ds ∷ changed_at p seg value fs ∷ changed_at p seg value gs ∷ [];
}

-- SS for a level.
-- Source: Intel 80386 PRM 6.3.2, 17.2.2.11, MOV
unfoldable pub stack_segment_phrase : Proc → ℕ → ℕ → Phrase Seg
stack_segment_phrase p level selector = take_phrase stack_rules p level false selector >>= (λ d. Done (usable_seg selector d))

-- DS, ES, FS or GS. A null selector leaves it unusable.
-- Source: Intel 80386 PRM 6.3.2, 17.2.2.11, MOV
unfoldable pub data_segment_phrase : Proc → ℕ → Phrase Seg
data_segment_phrase p selector =
    if is_null_selector selector then Done (unusable_seg selector)
    else (take_phrase data_rules p (cpl_of p) false selector >>= (λ d. Done (usable_seg selector d)))

-- What a segment register but CS comes to.
-- Source: Intel 80386 PRM 6.3.2, 17.2.2.11, MOV
unfoldable pub segment_phrase : Proc → ℕ → ℕ → Phrase Seg
segment_phrase p seg selector = if seg == ss then stack_segment_phrase p (cpl_of p) selector else data_segment_phrase p selector

-- A segment register but CS loaded.
-- Source: Intel 80386 PRM 6.3.2, 17.2.2.11, MOV
unfoldable pub load_segment_phrase : Proc → ℕ → ℕ → Phrase Proc
load_segment_phrase p seg selector = segment_phrase p seg selector >>= (λ value. Done (with_segment p seg value))

-- a descriptor that isn't there counts as zeros
abbrev pub or_zeros : Option Desc → Desc
or_zeros None = no_descriptor
or_zeros (Some d) = d

-- What LDTR comes to. A null selector leaves it unusable.
-- Source: Intel 80386 PRM 17.2.2.11, LLDT
unfoldable pub local_table_phrase : Proc → ℕ → Phrase Seg
local_table_phrase p selector =
    if is_null_selector selector then Done (unusable_seg selector)
    else (load_global_phrase p selector Gdt >>= (λ found. need (first_broken local_table_rules (candidate_for 0 (code_of selector false) selector found)) (Done (usable_seg selector (or_zeros found)))))
