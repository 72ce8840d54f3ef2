-- How a processor begins, and what its state says of its privilege.
use Rattle.std.specs.Prelude.{ℕ, ◌%◌, [], ◌∷◌, true, false, Some, None, slice_index_or}
use Rattle.m386_base.specs.Descriptor.{descriptor, no_descriptor}
use Rattle.m386_base.specs.Segments.{cs}
use Rattle.m386_state.specs.declared.segment.Seg.{Seg}
use Rattle.m386_state.specs.declared.segment.TableReg.{TableReg}
use Rattle.m386_state.specs.declared.proc.Proc.{Proc}
use Rattle.m386_state.specs.declared.proc.Mode.TheVariants.{Running}

-- a segment that can't be used, with this selector
abbrev pub unusable_seg : ℕ → Seg
unusable_seg selector = record { selector = selector; usable = false; desc = no_descriptor }

-- a segment of the whole 4 GiB with this access byte
abbrev pub flat_seg : ℕ → ℕ → Seg
flat_seg selector access = record { selector = selector; usable = true; desc = descriptor 0 0xfffff access 0xc }

-- Segment register number i: ES, CS, SS, DS, FS, GS.
-- Source: Intel 80386 PRM 2.3.2
abbrev pub seg_at : Proc → ℕ → Seg
seg_at p i = slice_index_or p.segs i (unusable_seg 0)

-- The current privilege level: the RPL of CS.
-- Source: Intel 80386 PRM 6.3.1
abbrev pub cpl_of : Proc → ℕ
cpl_of p = (seg_at p cs).selector % 4

-- A processor that starts with no task, at this EIP, with flat segments and CPL 0.
-- Own choice: docs/DECISIONS.md, "Start"
abbrev pub bare : ℕ → TableReg → TableReg → Proc
bare eip gdtr idtr =
    let code = flat_seg 0x8 0x9b in
    let flat = flat_seg 0x10 0x93 in
    record {
      regs = 0 ∷ 0 ∷ 0 ∷ 0 ∷ 0 ∷ 0 ∷ 0 ∷ 0 ∷ [];
      eip = eip;
      eflags = record { 0 = 2 };
      segs = flat ∷ code ∷ flat ∷ flat ∷ flat ∷ flat ∷ [];
      ldtr = unusable_seg 0;
      tr = unusable_seg 0;
      gdtr = gdtr;
      idtr = idtr;
      cr0 = 1;
      mode = Running;
      pending = None;
      shadow = false;
      request = None;
      start = None;
    }

-- A processor whose first step starts the task of this TSS selector.
-- Own choice: docs/DECISIONS.md, "Start"
abbrev pub task : ℕ → TableReg → TableReg → Proc
task selector gdtr idtr =
    let none = unusable_seg 0 in
    record {
      regs = 0 ∷ 0 ∷ 0 ∷ 0 ∷ 0 ∷ 0 ∷ 0 ∷ 0 ∷ [];
      eip = 0;
      eflags = record { 0 = 2 };
      segs = none ∷ none ∷ none ∷ none ∷ none ∷ none ∷ [];
      ldtr = none;
      tr = none;
      gdtr = gdtr;
      idtr = idtr;
      cr0 = 1;
      mode = Running;
      pending = None;
      shadow = false;
      request = None;
      start = Some selector;
    }
