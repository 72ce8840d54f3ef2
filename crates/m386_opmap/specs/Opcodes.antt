-- The opcodes of the machine, in the order of the manual's opcode map.
use Rattle.std.specs.Prelude.{ℕ, ◌+◌, ◌*◌, Bool, true, false, List, [], ◌∷◌, ◌++◌, slice_index_or}
use Rattle.m386_opmap.specs.declared.name.Name.{Name}
use Rattle.m386_opmap.specs.declared.name.Name.TheVariants.{Add, Or, Adc, Sbb, And, Sub, Xor, Cmp, Test, Inc, Dec, Not, Neg, Mul, Imul, Div, Idiv, Rol, Ror, Rcl, Rcr, Shl, Shr, Sar, Shld, Shrd, Bt, Bts, Btr, Btc, Bsf, Bsr, Mov, Movzx8, Movzx16, Movsx8, Movsx16, Xchg, Lea, Cwde, Cdq, Xlat, Les, Lds, Lss, Lfs, Lgs, Push, Pop, Pusha, Popa, Pushf, Popf, Leave, Movs, Cmps, Stos, Lods, Scas, Jmp, Jmpf, Call, Callf, Ret, Retf, Iret, Int, Int3, Into, Loopnz, Loopz, Loop, Jecxz, Jo, Jno, Jb, Jae, Je, Jne, Jbe, Ja, Js, Jns, Jp, Jnp, Jl, Jge, Jle, Jg, Seto, Setno, Setb, Setae, Sete, Setne, Setbe, Seta, Sets, Setns, Setp, Setnp, Setl, Setge, Setle, Setg, In, Out, Clc, Stc, Cmc, Cld, Std, Cli, Sti, Sahf, Lahf, Arpl, Bound, Lar, Lsl, Verr, Verw, Sldt, Lldt, Str, Ltr, Sgdt, Lgdt, Sidt, Lidt, Smsw, Lmsw, Clts, Hlt, Nop, Wait, Esc}
use Rattle.m386_opmap.specs.declared.row.Row.{Row}
use Rattle.m386_opmap.specs.declared.row.Operand.{Operand}
use Rattle.m386_opmap.specs.declared.row.Operand.TheVariants as at
use Rattle.m386_opmap.specs.declared.row.Operand.TheVariants.{Absent, E, M, R, G, S, Low, I, Ib, Iw, SignedByte, J, O, A, X, Table, Eax, Cl, Dx, One, Es, Cs, Ss, Ds, Fs, Gs}
use Rattle.m386_opmap.specs.declared.row.Size.{Size}
use Rattle.m386_opmap.specs.declared.row.Size.TheVariants.{Byte, Word, Double, Either}

-- the jumps by the condition in the opcode's low four bits
abbrev pub jumps : List Name
jumps = Jo ∷ Jno ∷ Jb ∷ Jae ∷ Je ∷ Jne ∷ Jbe ∷ Ja ∷ Js ∷ Jns ∷ Jp ∷ Jnp ∷ Jl ∷ Jge ∷ Jle ∷ Jg ∷ []

-- the settings by the condition in the opcode's low four bits
abbrev pub settings : List Name
settings = Seto ∷ Setno ∷ Setb ∷ Setae ∷ Sete ∷ Setne ∷ Setbe ∷ Seta ∷ Sets ∷ Setns ∷ Setp ∷ Setnp ∷ Setl ∷ Setge ∷ Setle ∷ Setg ∷ []

-- the operand at a place, Absent behind the last
abbrev pub operand_at : ℕ → List Operand → Operand
operand_at i operands = slice_index_or operands i Absent

-- a row from one key to another, with or without LOCK
abbrev pub keys : ℕ → ℕ → Name → Size → List Operand → Bool → Row
keys low high name size operands lock =
    record {
      low = low;
      high = high;
      name = name;
      size = size;
      first = operand_at 0 operands;
      second = operand_at 1 operands;
      third = operand_at 2 operands;
      lock = lock;
      newer = false;
    }

-- the rows of the opcodes from one to another
abbrev pub span : ℕ → ℕ → Name → Size → List Operand → Row
span first last name size operands = keys (8 * first) (8 * last + 7) name size operands false

-- the row of one opcode
abbrev pub one_opcode : ℕ → Name → Size → List Operand → Row
one_opcode opcode name size operands = span opcode opcode name size operands

-- the row of one opcode, with LOCK
abbrev pub locked : ℕ → Name → Size → List Operand → Row
locked opcode name size operands = keys (8 * opcode) (8 * opcode + 7) name size operands true

-- the row of one opcode and one /n
abbrev pub slash : ℕ → ℕ → Name → Size → List Operand → Bool → Row
slash opcode n name size operands lock = keys (8 * opcode + n) (8 * opcode + n) name size operands lock

-- opcodes one after another that differ in the operation alone
abbrev pub each : ℕ → List Name → Size → List Operand → List Row
each opcode [] size operands = []
each opcode (n ∷ ns) size operands = one_opcode opcode n size operands ∷ each (opcode + 1) ns size operands

-- values of /n one after another that differ in the operation alone
abbrev pub group : ℕ → ℕ → List Name → Size → List Operand → Bool → List Row
group opcode n [] size operands lock = []
group opcode n (name ∷ names) size operands lock =
    slash opcode n name size operands lock ∷ group opcode (n + 1) names size operands lock

-- an opcode of bytes, and behind it the same of words or doublewords
abbrev pub both : ℕ → Name → List Operand → List Row
both opcode name operands = one_opcode opcode name Byte operands ∷ one_opcode (opcode + 1) name Either operands ∷ []

-- Eb,Gb; Ev,Gv, with LOCK where it has it; Gb,Eb; Gv,Ev; AL,Ib; eAX,Iv
abbrev pub arithmetic : ℕ → Name → Bool → List Row
arithmetic opcode name lock =
    keys (8 * opcode) (8 * opcode + 7) name Byte (E ∷ G ∷ []) lock
    ∷ keys (8 * opcode + 8) (8 * opcode + 15) name Either (E ∷ G ∷ []) lock
    ∷ both (opcode + 2) name (G ∷ E ∷ [])
    ++ both (opcode + 4) name (Eax ∷ I ∷ [])

-- an immediate group of the eight: all but CMP have LOCK
abbrev pub immediate : ℕ → Size → Operand → List Row
immediate opcode size operand =
    group opcode 0 (Add ∷ Or ∷ Adc ∷ Sbb ∷ And ∷ Sub ∷ Xor ∷ []) size (E ∷ operand ∷ []) true
    ++ slash opcode 7 Cmp size (E ∷ operand ∷ []) false ∷ []

-- shifts and rotates: /0 to /5 and /7
abbrev pub shifts : ℕ → Size → Operand → List Row
shifts opcode size count =
    group opcode 0 (Rol ∷ Ror ∷ Rcl ∷ Rcr ∷ Shl ∷ Shr ∷ []) size (E ∷ count ∷ []) false
    ++ slash opcode 7 Sar size (E ∷ count ∷ []) false ∷ []

-- the unary group: TEST /0, NOT and NEG with LOCK, and the products and quotients
abbrev pub unary : ℕ → Size → List Row
unary opcode size =
    slash opcode 0 Test size (E ∷ I ∷ []) false
    ∷ group opcode 2 (Not ∷ Neg ∷ []) size (E ∷ []) true
    ++ group opcode 4 (Mul ∷ Imul ∷ Div ∷ Idiv ∷ []) size (E ∷ []) false

-- the opcodes 00 to 3F
abbrev pub rows_00 : List Row
rows_00 =
    arithmetic 0x00 Add true ++ one_opcode 0x06 Push Either (Es ∷ []) ∷ one_opcode 0x07 Pop Either (Es ∷ []) ∷ []
    ++ arithmetic 0x08 Or true ++ one_opcode 0x0e Push Either (Cs ∷ []) ∷ []
    ++ arithmetic 0x10 Adc true ++ one_opcode 0x16 Push Either (Ss ∷ []) ∷ one_opcode 0x17 Pop Either (Ss ∷ []) ∷ []
    ++ arithmetic 0x18 Sbb true ++ one_opcode 0x1e Push Either (Ds ∷ []) ∷ one_opcode 0x1f Pop Either (Ds ∷ []) ∷ []
    ++ arithmetic 0x20 And true ++ arithmetic 0x28 Sub true ++ arithmetic 0x30 Xor true ++ arithmetic 0x38 Cmp false

-- the opcodes 40 to 7F
abbrev pub rows_40 : List Row
rows_40 =
    span 0x40 0x47 Inc Either (Low ∷ []) ∷ span 0x48 0x4f Dec Either (Low ∷ [])
    ∷ span 0x50 0x57 Push Either (Low ∷ []) ∷ span 0x58 0x5f Pop Either (Low ∷ [])
    ∷ one_opcode 0x60 Pusha Either [] ∷ one_opcode 0x61 Popa Either [] ∷ one_opcode 0x62 Bound Either (G ∷ M ∷ []) ∷ one_opcode 0x63 Arpl Word (E ∷ G ∷ [])
    ∷ one_opcode 0x68 Push Either (I ∷ []) ∷ one_opcode 0x69 Imul Either (G ∷ E ∷ I ∷ [])
    ∷ one_opcode 0x6a Push Either (SignedByte ∷ []) ∷ one_opcode 0x6b Imul Either (G ∷ E ∷ SignedByte ∷ [])
    ∷ each 0x70 jumps Either (at.Jb ∷ [])

-- the opcodes 80 to BF
abbrev pub rows_80 : List Row
rows_80 =
    immediate 0x80 Byte I ++ immediate 0x81 Either I ++ immediate 0x83 Either SignedByte
    ++ both 0x84 Test (E ∷ G ∷ [])
    ++ locked 0x86 Xchg Byte (E ∷ G ∷ []) ∷ locked 0x87 Xchg Either (E ∷ G ∷ [])
    ∷ both 0x88 Mov (E ∷ G ∷ []) ++ both 0x8a Mov (G ∷ E ∷ [])
    ++ keys (8 * 0x8c) (8 * 0x8c + 5) Mov Word (E ∷ S ∷ []) false
    ∷ one_opcode 0x8d Lea Either (G ∷ M ∷ [])
    ∷ slash 0x8e 0 Mov Word (S ∷ E ∷ []) false
    ∷ keys (8 * 0x8e + 2) (8 * 0x8e + 5) Mov Word (S ∷ E ∷ []) false
    ∷ slash 0x8f 0 Pop Either (E ∷ []) false
    ∷ one_opcode 0x90 Nop Double [] ∷ span 0x91 0x97 Xchg Either (Eax ∷ Low ∷ [])
    ∷ one_opcode 0x98 Cwde Either [] ∷ one_opcode 0x99 Cdq Either [] ∷ one_opcode 0x9a Callf Either (A ∷ []) ∷ one_opcode 0x9b Wait Double []
    ∷ one_opcode 0x9c Pushf Either [] ∷ one_opcode 0x9d Popf Either [] ∷ one_opcode 0x9e Sahf Double [] ∷ one_opcode 0x9f Lahf Double []
    ∷ both 0xa0 Mov (Eax ∷ O ∷ []) ++ both 0xa2 Mov (O ∷ Eax ∷ [])
    ++ both 0xa4 Movs (X ∷ []) ++ both 0xa6 Cmps (X ∷ []) ++ both 0xa8 Test (Eax ∷ I ∷ [])
    ++ both 0xaa Stos [] ++ both 0xac Lods (X ∷ []) ++ both 0xae Scas []
    ++ span 0xb0 0xb7 Mov Byte (Low ∷ I ∷ []) ∷ span 0xb8 0xbf Mov Either (Low ∷ I ∷ []) ∷ []

-- the opcodes C0 to FF
abbrev pub rows_c0 : List Row
rows_c0 =
    shifts 0xc0 Byte Ib ++ shifts 0xc1 Either Ib
    ++ one_opcode 0xc2 Ret Either (Iw ∷ []) ∷ one_opcode 0xc3 Ret Either []
    ∷ one_opcode 0xc4 Les Either (G ∷ M ∷ []) ∷ one_opcode 0xc5 Lds Either (G ∷ M ∷ [])
    ∷ slash 0xc6 0 Mov Byte (E ∷ I ∷ []) false ∷ slash 0xc7 0 Mov Either (E ∷ I ∷ []) false
    ∷ one_opcode 0xc9 Leave Either [] ∷ one_opcode 0xca Retf Either (Iw ∷ []) ∷ one_opcode 0xcb Retf Either []
    ∷ one_opcode 0xcc Int3 Double [] ∷ one_opcode 0xcd Int Double (Ib ∷ []) ∷ one_opcode 0xce Into Double [] ∷ one_opcode 0xcf Iret Either []
    ∷ shifts 0xd0 Byte One ++ shifts 0xd1 Either One ++ shifts 0xd2 Byte Cl ++ shifts 0xd3 Either Cl
    ++ one_opcode 0xd7 Xlat Byte (Table ∷ []) ∷ span 0xd8 0xdf Esc Double []
    ∷ each 0xe0 (Loopnz ∷ Loopz ∷ Loop ∷ Jecxz ∷ []) Either (at.Jb ∷ [])
    ++ both 0xe4 In (Eax ∷ Ib ∷ []) ++ both 0xe6 Out (Ib ∷ Eax ∷ [])
    ++ one_opcode 0xe8 Call Either (J ∷ []) ∷ one_opcode 0xe9 Jmp Either (J ∷ []) ∷ one_opcode 0xea Jmpf Either (A ∷ []) ∷ one_opcode 0xeb Jmp Either (at.Jb ∷ [])
    ∷ both 0xec In (Eax ∷ Dx ∷ []) ++ both 0xee Out (Dx ∷ Eax ∷ [])
    ++ each 0xf4 (Hlt ∷ Cmc ∷ []) Double []
    ++ unary 0xf6 Byte ++ unary 0xf7 Either
    ++ each 0xf8 (Clc ∷ Stc ∷ Cli ∷ Sti ∷ Cld ∷ Std ∷ []) Double []
    ++ group 0xfe 0 (Inc ∷ Dec ∷ []) Byte (E ∷ []) true
    ++ group 0xff 0 (Inc ∷ Dec ∷ []) Either (E ∷ []) true
    ++ slash 0xff 2 Call Either (E ∷ []) false ∷ slash 0xff 3 Callf Either (M ∷ []) false
    ∷ slash 0xff 4 Jmp Either (E ∷ []) false ∷ slash 0xff 5 Jmpf Either (M ∷ []) false
    ∷ slash 0xff 6 Push Either (E ∷ []) false ∷ []

-- the opcodes 0F 00 to 0F FF
abbrev pub rows_0f : List Row
rows_0f =
    group 0xf00 0 (Sldt ∷ Str ∷ Lldt ∷ Ltr ∷ Verr ∷ Verw ∷ []) Word (E ∷ []) false
    ++ group 0xf01 0 (Sgdt ∷ Sidt ∷ Lgdt ∷ Lidt ∷ []) Either (M ∷ []) false
    ++ slash 0xf01 4 Smsw Word (E ∷ []) false ∷ slash 0xf01 6 Lmsw Word (E ∷ []) false
    ∷ one_opcode 0xf02 Lar Either (G ∷ E ∷ []) ∷ one_opcode 0xf03 Lsl Either (G ∷ E ∷ []) ∷ one_opcode 0xf06 Clts Double []
    ∷ slash 0xf20 0 Mov Double (R ∷ at.Cr0 ∷ []) false ∷ slash 0xf22 0 Mov Double (at.Cr0 ∷ R ∷ []) false
    ∷ each 0xf80 jumps Either (J ∷ []) ++ each 0xf90 settings Byte (E ∷ [])
    ++ one_opcode 0xfa0 Push Either (Fs ∷ []) ∷ one_opcode 0xfa1 Pop Either (Fs ∷ [])
    ∷ locked 0xfa3 Bt Either (E ∷ G ∷ []) ∷ one_opcode 0xfa4 Shld Either (E ∷ G ∷ Ib ∷ []) ∷ one_opcode 0xfa5 Shld Either (E ∷ G ∷ Cl ∷ [])
    ∷ one_opcode 0xfa8 Push Either (Gs ∷ []) ∷ one_opcode 0xfa9 Pop Either (Gs ∷ [])
    ∷ locked 0xfab Bts Either (E ∷ G ∷ []) ∷ one_opcode 0xfac Shrd Either (E ∷ G ∷ Ib ∷ []) ∷ one_opcode 0xfad Shrd Either (E ∷ G ∷ Cl ∷ [])
    ∷ one_opcode 0xfaf Imul Either (G ∷ E ∷ []) ∷ one_opcode 0xfb2 Lss Either (G ∷ M ∷ [])
    ∷ locked 0xfb3 Btr Either (E ∷ G ∷ []) ∷ one_opcode 0xfb4 Lfs Either (G ∷ M ∷ []) ∷ one_opcode 0xfb5 Lgs Either (G ∷ M ∷ [])
    ∷ one_opcode 0xfb6 Movzx8 Either (G ∷ E ∷ []) ∷ one_opcode 0xfb7 Movzx16 Either (G ∷ E ∷ [])
    ∷ group 0xfba 4 (Bt ∷ Bts ∷ Btr ∷ Btc ∷ []) Either (E ∷ Ib ∷ []) true
    ++ locked 0xfbb Btc Either (E ∷ G ∷ [])
    ∷ each 0xfbc (Bsf ∷ Bsr ∷ Movsx8 ∷ Movsx16 ∷ []) Either (G ∷ E ∷ [])

-- The opcodes, rising: the bytes, the operation, its size and operands, and whether LOCK may stand before it.
-- Source: Intel 80386 PRM appendix A; what is left out: docs/DECISIONS.md, "The opcodes of the machine"
abbrev pub opcode_rows : List Row
opcode_rows = rows_00 ++ rows_40 ++ rows_80 ++ rows_c0 ++ rows_0f
