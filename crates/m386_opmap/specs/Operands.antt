-- What each operand of a row is, in the bytes and in the operation.
use Rattle.std.specs.Prelude.{ℕ, ◌+◌, ◌%◌, Bool, true, false, ◌&&◌, ◌||◌, not, List, ◌++◌, take, drop, Option, Some, None, option_to_list, if◌then◌else◌}
use Rattle.m386_base.specs.declared.number.Width.{Width}
use Rattle.m386_base.specs.declared.number.Width.TheVariants.{W8, W16, W32}
use Rattle.m386_opmap.specs.declared.name.Name.{Name}
use Rattle.m386_opmap.specs.declared.name.Name.TheVariants.{Movs, Cmps, Stos, Lods, Scas}
use Rattle.m386_opmap.specs.declared.op.Arg.{Arg}
use Rattle.m386_opmap.specs.declared.op.Arg.TheVariants.{Reg, Seg, Imm, Mem, Rel, Far}
use Rattle.m386_opmap.specs.declared.op.Arg.TheVariants as args
use Rattle.m386_opmap.specs.declared.op.Op.{Op}
use Rattle.m386_opmap.specs.declared.op.Rep.TheVariants.{Once}
use Rattle.m386_opmap.specs.declared.row.Operand.{Operand}
use Rattle.m386_opmap.specs.declared.row.Operand.TheVariants.{Absent, E, M, R, G, S, Low, I, Ib, Iw, SignedByte, Jb, J, O, A, X, Table, Eax, Cl, Dx, One, Es, Cs, Ss, Ds, Fs, Gs, Cr0}
use Rattle.m386_opmap.specs.declared.row.Row.{Row}
use Rattle.m386_opmap.specs.declared.row.Size.{Size}
use Rattle.m386_opmap.specs.declared.row.Size.TheVariants.{Byte, Word, Double, Either}
use Rattle.m386_opmap.specs.declared.fields.Fields.{Fields}
use Rattle.m386_opmap.specs.Forms.{width_bytes, number, extended}

-- how wide operands are, with 66h and without it
abbrev pub width_of : Size → Bool → Width
width_of Byte narrow = W8
width_of Word narrow = W16
width_of Double narrow = W32
width_of Either narrow = if narrow then W16 else W32

-- whether the operand stands in a ModRM byte
abbrev pub in_modrm : Operand → Bool
in_modrm E = true
in_modrm M = true
in_modrm R = true
in_modrm G = true
in_modrm S = true
in_modrm _ = false

-- whether the row has a ModRM byte
abbrev pub has_modrm : Row → Bool
has_modrm r = in_modrm r.first || in_modrm r.second || in_modrm r.third

-- whether the operand is memory alone
abbrev pub is_memory_alone : Operand → Bool
is_memory_alone M = true
is_memory_alone _ = false

-- whether the operand is a register alone
abbrev pub is_register_alone : Operand → Bool
is_register_alone R = true
is_register_alone _ = false

-- whether an operand of the row is memory alone
abbrev pub wants_memory : Row → Bool
wants_memory r = is_memory_alone r.first || is_memory_alone r.second || is_memory_alone r.third

-- whether an operand of the row is a register alone
abbrev pub wants_register : Row → Bool
wants_register r = is_register_alone r.first || is_register_alone r.second || is_register_alone r.third

-- whether a ModRM byte names memory
abbrev pub is_memory : Option Arg → Bool
is_memory (Some (Mem a)) = true
is_memory _ = false

-- Whether a row takes a LOCK, if there is one, and what the ModRM byte names, memory or not.
-- Source: Intel 80386 PRM 17.2.2.11 (LOCK)
abbrev pub suits : Row → Bool → Bool → Bool
suits r lock memory = (not lock || r.lock && memory) && (not (wants_memory r) || memory) && (not (wants_register r) || not memory)

-- how many bytes behind opcode and ModRM are an operand's
abbrev pub operand_length : Width → Operand → ℕ
operand_length w I = width_bytes w
operand_length w Ib = 1
operand_length w Iw = 2
operand_length w SignedByte = 1
operand_length w Jb = 1
operand_length w J = width_bytes w
operand_length w O = 4
operand_length w A = width_bytes w + 2
operand_length w _ = 0

-- how many bytes stand behind opcode and ModRM
unfoldable pub tail_length : Row → Bool → ℕ
tail_length r narrow =
    let w = width_of r.size narrow in operand_length w r.first + operand_length w r.second + operand_length w r.third

-- memory whose offset is a register, or a number alone
abbrev pub plain_memory : Option ℕ → Option ℕ → ℕ → Arg
plain_memory seg base disp = Mem (record { seg = seg; base = base; index = None; scale = 1; disp = disp })

-- An operand's value: from the fields of the instruction, its width, and the bytes behind opcode and ModRM.
-- Source: Intel 80386 PRM 17.2.2
abbrev pub operand_value : Fields → Width → List ℕ → Operand → Option Arg
operand_value f w tail Absent = None
operand_value f w tail E = f.place
operand_value f w tail M = f.place
operand_value f w tail R = f.place
operand_value f w tail G = Some (Reg f.middle)
operand_value f w tail S = Some (Seg f.middle)
operand_value f w tail Low = Some (Reg (f.opcode % 8))
operand_value f w tail I = Some (Imm (number (take (width_bytes w) tail)))
operand_value f w tail Ib = Some (Imm (number (take 1 tail)))
operand_value f w tail Iw = Some (Imm (number (take 2 tail)))
operand_value f w tail SignedByte = Some (Imm (extended W8 w (number (take 1 tail))))
operand_value f w tail Jb = Some (Rel (extended W8 W32 (number (take 1 tail))))
operand_value f w tail J = Some (Rel (extended w W32 (number (take (width_bytes w) tail))))
operand_value f w tail O = Some (plain_memory f.prefixes.seg None (number (take 4 tail)))
operand_value f w tail A = Some (Far (number (take 2 (drop (width_bytes w) tail))) (number (take (width_bytes w) tail)))
operand_value f w tail X = Some (plain_memory f.prefixes.seg (Some 6) 0)
operand_value f w tail Table = Some (plain_memory f.prefixes.seg (Some 3) 0)
operand_value f w tail Eax = Some (Reg 0)
operand_value f w tail Cl = Some (Reg 1)
operand_value f w tail Dx = Some (Reg 2)
operand_value f w tail One = Some (Imm 1)
operand_value f w tail Es = Some (Seg 0)
operand_value f w tail Cs = Some (Seg 1)
operand_value f w tail Ss = Some (Seg 2)
operand_value f w tail Ds = Some (Seg 3)
operand_value f w tail Fs = Some (Seg 4)
operand_value f w tail Gs = Some (Seg 5)
operand_value f w tail Cr0 = Some args.Cr0

-- whether the operation is one on strings
abbrev pub is_string : Name → Bool
is_string Movs = true
is_string Cmps = true
is_string Stos = true
is_string Lods = true
is_string Scas = true
is_string _ = false

-- The operation of a row, from the fields of the instruction and the bytes behind opcode and ModRM. A repetition counts for
-- a string operation alone.
-- Source: Intel 80386 PRM 17.2.2; the operands of string operations: docs/DECISIONS.md, "The operands of an operation"
unfoldable pub operation : Row → Fields → List ℕ → Op
operation r f tail =
    let w = width_of r.size f.prefixes.narrow in
    let value = operand_value f w tail in
    record {
      name = r.name;
      width = w;
      args = record { items = option_to_list (value r.first) ++ option_to_list (value r.second) ++ option_to_list (value r.third) };
      lock = f.prefixes.lock;
      rep = if is_string r.name then f.prefixes.rep else Once;
    }
