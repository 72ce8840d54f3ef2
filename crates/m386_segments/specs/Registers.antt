-- MOV from and to a segment register.
use Rattle.std.specs.Prelude.{ℕ, ◌%◌, ◌^◌, Bool, true, not, ◌&&◌, ◌==◌, nat_lt, if◌then◌else◌, Option, Some, None}
use Rattle.m386_base.specs.declared.number.Width.TheVariants.{W16}
use Rattle.m386_base.specs.Exceptions.{undefined_opcode_of}
use Rattle.m386_base.specs.Phrase.{Phrase, Done, Faults, ◌>>=◌}
use Rattle.m386_base.specs.Segments.{cs, ss}
use Rattle.m386_state.specs.declared.proc.Proc.{Proc}
use Rattle.m386_state.specs.declared.segment.Seg.{Seg}
use Rattle.m386_state.specs.Start.{seg_at}
use Rattle.m386_access.specs.Operands.{value_phrase, put_phrase}
use Rattle.m386_access.specs.declared.operands.Place.{Place}
use Rattle.m386_segments.specs.declared.names.SegmentMove.{SegmentMove}
use Rattle.m386_segments.specs.declared.names.SegmentMove.TheVariants.{To, From}
use Rattle.m386_segload.specs.Segments.{segment_phrase, with_segment}

-- Each segment register but CS.
-- Source: Intel 80386 PRM 17.2.2.11, MOV
abbrev pub may_be_loaded : ℕ → Bool
may_be_loaded seg = nat_lt seg 6 && not (seg == cs)

-- With a segment register loaded by MOV. A load of SS holds requests back until the next instruction has ended.
-- Source: Intel 80386 PRM 9.2.4, 17.2.2.11, MOV
abbrev pub with_loaded : Proc → ℕ → Seg → Proc
with_loaded p seg value = if seg == ss then record (with_segment p seg value) { shadow = true } else with_segment p seg value

-- a segment register loaded by the selector of an operand
unfoldable pub load_known_phrase : Proc → ℕ → Place → Phrase Proc
load_known_phrase p seg source = do
  selector ← value_phrase W16 p source
  value ← segment_phrase p seg (selector % 2 ^ 16)
  Done (with_loaded p seg value)

-- MOV to a segment register. CS is #UD.
-- Source: Intel 80386 PRM 17.2.2.11, MOV
unfoldable pub load_register_phrase : Proc → ℕ → Place → Phrase Proc
load_register_phrase p seg source = if may_be_loaded seg then load_known_phrase p seg source else Faults undefined_opcode_of

-- A move of a segment register. From one, 16 bits are written.
-- Source: Intel 80386 PRM 17.2.2.11, MOV
abbrev pub move_phrase : Option SegmentMove → Proc → Phrase Proc
move_phrase (Some (To seg source)) p = load_register_phrase p seg source
move_phrase (Some (From destination seg)) p = put_phrase W16 p destination (seg_at p seg).selector
move_phrase None p = Faults undefined_opcode_of
