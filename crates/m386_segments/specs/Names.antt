-- Which operations this crate has.
use Rattle.std.specs.Prelude.{Bool, true, false, List, [], ◌∷◌, is_some, Option, Some, None}
use Rattle.m386_base.specs.Segments.{es, ss, ds, fs, gs}
use Rattle.m386_opmap.specs.declared.name.Name.{Name}
use Rattle.m386_opmap.specs.declared.name.Name.TheVariants as names
use Rattle.m386_opmap.specs.declared.op.Arg.{Arg}
use Rattle.m386_opmap.specs.declared.op.Arg.TheVariants as args
use Rattle.m386_access.specs.declared.operands.Place.TheVariants.{Register, Memory}
use Rattle.m386_segload.specs.declared.wanted.Look.TheVariants as looks
use Rattle.m386_segments.specs.declared.names.SegmentMove.{SegmentMove}
use Rattle.m386_segments.specs.declared.names.SegmentMove.TheVariants.{To, From}
use Rattle.m386_segments.specs.declared.names.SegmentWork.{SegmentWork}
use Rattle.m386_segments.specs.declared.names.SegmentWork.TheVariants.{Move, Pointer, Show, Verify, Adjust}

-- What the operation of a name does, where this crate has it.
-- Source: Intel 80386 PRM 17.2.2.11, ARPL, LAR, LGS/LSS/LDS/LES/LFS, LSL, MOV, VERR
abbrev pub segment_work_of : Name → Option SegmentWork
segment_work_of names.Mov = Some Move
segment_work_of names.Les = Some (Pointer es)
segment_work_of names.Lss = Some (Pointer ss)
segment_work_of names.Lds = Some (Pointer ds)
segment_work_of names.Lfs = Some (Pointer fs)
segment_work_of names.Lgs = Some (Pointer gs)
segment_work_of names.Lar = Some (Show looks.Lar)
segment_work_of names.Lsl = Some (Show looks.Lsl)
segment_work_of names.Verr = Some (Verify looks.Verr)
segment_work_of names.Verw = Some (Verify looks.Verw)
segment_work_of names.Arpl = Some Adjust
segment_work_of _ = None

-- The move of a segment register that these operands make.
-- Source: Intel 80386 PRM 17.2.2.11, MOV
abbrev pub segment_move_of : List Arg → Option SegmentMove
segment_move_of (args.Seg seg ∷ args.Reg register ∷ []) = Some (To seg (Register register))
segment_move_of (args.Seg seg ∷ args.Mem a ∷ []) = Some (To seg (Memory a))
segment_move_of (args.Reg register ∷ args.Seg seg ∷ []) = Some (From (Register register) seg)
segment_move_of (args.Mem a ∷ args.Seg seg ∷ []) = Some (From (Memory a) seg)
segment_move_of _ = None

-- A MOV is this crate's only where an operand is a segment register.
abbrev pub is_own : Option SegmentWork → List Arg → Bool
is_own (Some Move) operands = is_some (segment_move_of operands)
is_own (Some (Pointer seg)) operands = true
is_own (Some (Show what)) operands = true
is_own (Some (Verify what)) operands = true
is_own (Some Adjust) operands = true
is_own None operands = false
