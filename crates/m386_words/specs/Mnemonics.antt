-- The word of each operation.
use Rattle.std.specs.Prelude.{ℕ, ◌==◌, Bool, true, false, ◌&&◌, ◌||◌, List, [], ◌∷◌, Option, Some, None, codes}
use Rattle.std.specs.List.{list_any}
use Rattle.m386_base.specs.declared.number.Width.{Width}
use Rattle.m386_base.specs.declared.number.Width.TheVariants.{W8, W16, W32}
use Rattle.m386_opmap.specs.declared.name.Name.{Name}
use Rattle.m386_opmap.specs.declared.name.Name.TheVariants.{Add, Or, Adc, Sbb, And, Sub, Xor, Cmp, Test, Inc, Dec, Not, Neg, Mul, Imul, Div, Idiv, Rol, Ror, Rcl, Rcr, Shl, Shr, Sar, Shld, Shrd, Bt, Bts, Btr, Btc, Bsf, Bsr, Mov, Movzx8, Movzx16, Movsx8, Movsx16, Xchg, Lea, Cwde, Cdq, Xlat, Les, Lds, Lss, Lfs, Lgs, Push, Pop, Pusha, Popa, Pushf, Popf, Leave, Movs, Cmps, Stos, Lods, Scas, Jmp, Jmpf, Call, Callf, Ret, Retf, Iret, Int, Int3, Into, Loopnz, Loopz, Loop, Jecxz, Jo, Jno, Jb, Jae, Je, Jne, Jbe, Ja, Js, Jns, Jp, Jnp, Jl, Jge, Jle, Jg, Seto, Setno, Setb, Setae, Sete, Setne, Setbe, Seta, Sets, Setns, Setp, Setnp, Setl, Setge, Setle, Setg, In, Out, Clc, Stc, Cmc, Cld, Std, Cli, Sti, Sahf, Lahf, Arpl, Bound, Lar, Lsl, Verr, Verw, Sldt, Lldt, Str, Ltr, Sgdt, Lgdt, Sidt, Lidt, Smsw, Lmsw, Clts, Hlt, Nop, Wait, Esc}
use Rattle.m386_opmap.specs.declared.row.Row.{Row}
use Rattle.m386_opmap.specs.Opcodes.{opcode_rows}
use Rattle.m386_opmap.specs.Operands.{width_of}
use Rattle.m386_words.specs.Options.{option_else}
use Rattle.m386_words.specs.Words.{same_word}

-- the one of three words that is of a width
abbrev pub by_width : Width → List ℕ → List ℕ → List ℕ → List ℕ
by_width W8 b w d = b
by_width W16 b w d = w
by_width W32 b w d = d

-- arithmetic, logic, shifts and bits
abbrev pub computing_word : Name → Option (List ℕ)
computing_word Add = Some (codes "add")
computing_word Or = Some (codes "or")
computing_word Adc = Some (codes "adc")
computing_word Sbb = Some (codes "sbb")
computing_word And = Some (codes "and")
computing_word Sub = Some (codes "sub")
computing_word Xor = Some (codes "xor")
computing_word Cmp = Some (codes "cmp")
computing_word Test = Some (codes "test")
computing_word Inc = Some (codes "inc")
computing_word Dec = Some (codes "dec")
computing_word Not = Some (codes "not")
computing_word Neg = Some (codes "neg")
computing_word Mul = Some (codes "mul")
computing_word Imul = Some (codes "imul")
computing_word Div = Some (codes "div")
computing_word Idiv = Some (codes "idiv")
computing_word Rol = Some (codes "rol")
computing_word Ror = Some (codes "ror")
computing_word Rcl = Some (codes "rcl")
computing_word Rcr = Some (codes "rcr")
computing_word Shl = Some (codes "shl")
computing_word Shr = Some (codes "shr")
computing_word Sar = Some (codes "sar")
computing_word Shld = Some (codes "shld")
computing_word Shrd = Some (codes "shrd")
computing_word Bt = Some (codes "bt")
computing_word Bts = Some (codes "bts")
computing_word Btr = Some (codes "btr")
computing_word Btc = Some (codes "btc")
computing_word Bsf = Some (codes "bsf")
computing_word Bsr = Some (codes "bsr")
computing_word _ = None

-- moves, stacks and ports
abbrev pub moving_word : Name → Option (List ℕ)
moving_word Mov = Some (codes "mov")
moving_word Movzx8 = Some (codes "movzx")
moving_word Movzx16 = Some (codes "movzx")
moving_word Movsx8 = Some (codes "movsx")
moving_word Movsx16 = Some (codes "movsx")
moving_word Xchg = Some (codes "xchg")
moving_word Lea = Some (codes "lea")
moving_word Cwde = Some (codes "cwde")
moving_word Cdq = Some (codes "cdq")
moving_word Xlat = Some (codes "xlat")
moving_word Les = Some (codes "les")
moving_word Lds = Some (codes "lds")
moving_word Lss = Some (codes "lss")
moving_word Lfs = Some (codes "lfs")
moving_word Lgs = Some (codes "lgs")
moving_word Push = Some (codes "push")
moving_word Pop = Some (codes "pop")
moving_word Pusha = Some (codes "pusha")
moving_word Popa = Some (codes "popa")
moving_word Pushf = Some (codes "pushf")
moving_word Popf = Some (codes "popf")
moving_word Leave = Some (codes "leave")
moving_word In = Some (codes "in")
moving_word Out = Some (codes "out")
moving_word _ = None

-- jumps, calls, returns, interrupts and loops
abbrev pub transfer_word : Name → Option (List ℕ)
transfer_word Jmp = Some (codes "jmp")
transfer_word Jmpf = Some (codes "jmp")
transfer_word Call = Some (codes "call")
transfer_word Callf = Some (codes "call")
transfer_word Ret = Some (codes "ret")
transfer_word Retf = Some (codes "retf")
transfer_word Iret = Some (codes "iret")
transfer_word Int = Some (codes "int")
transfer_word Int3 = Some (codes "int3")
transfer_word Into = Some (codes "into")
transfer_word Loopnz = Some (codes "loopnz")
transfer_word Loopz = Some (codes "loopz")
transfer_word Loop = Some (codes "loop")
transfer_word Jecxz = Some (codes "jecxz")
transfer_word _ = None

-- jumps and bytes by a condition
abbrev pub condition_word : Name → Option (List ℕ)
condition_word Jo = Some (codes "jo")
condition_word Jno = Some (codes "jno")
condition_word Jb = Some (codes "jb")
condition_word Jae = Some (codes "jae")
condition_word Je = Some (codes "je")
condition_word Jne = Some (codes "jne")
condition_word Jbe = Some (codes "jbe")
condition_word Ja = Some (codes "ja")
condition_word Js = Some (codes "js")
condition_word Jns = Some (codes "jns")
condition_word Jp = Some (codes "jp")
condition_word Jnp = Some (codes "jnp")
condition_word Jl = Some (codes "jl")
condition_word Jge = Some (codes "jge")
condition_word Jle = Some (codes "jle")
condition_word Jg = Some (codes "jg")
condition_word Seto = Some (codes "seto")
condition_word Setno = Some (codes "setno")
condition_word Setb = Some (codes "setb")
condition_word Setae = Some (codes "setae")
condition_word Sete = Some (codes "sete")
condition_word Setne = Some (codes "setne")
condition_word Setbe = Some (codes "setbe")
condition_word Seta = Some (codes "seta")
condition_word Sets = Some (codes "sets")
condition_word Setns = Some (codes "setns")
condition_word Setp = Some (codes "setp")
condition_word Setnp = Some (codes "setnp")
condition_word Setl = Some (codes "setl")
condition_word Setge = Some (codes "setge")
condition_word Setle = Some (codes "setle")
condition_word Setg = Some (codes "setg")
condition_word _ = None

-- flags, segments and the state of the processor
abbrev pub processor_word : Name → Option (List ℕ)
processor_word Clc = Some (codes "clc")
processor_word Stc = Some (codes "stc")
processor_word Cmc = Some (codes "cmc")
processor_word Cld = Some (codes "cld")
processor_word Std = Some (codes "std")
processor_word Cli = Some (codes "cli")
processor_word Sti = Some (codes "sti")
processor_word Sahf = Some (codes "sahf")
processor_word Lahf = Some (codes "lahf")
processor_word Arpl = Some (codes "arpl")
processor_word Bound = Some (codes "bound")
processor_word Lar = Some (codes "lar")
processor_word Lsl = Some (codes "lsl")
processor_word Verr = Some (codes "verr")
processor_word Verw = Some (codes "verw")
processor_word Sldt = Some (codes "sldt")
processor_word Lldt = Some (codes "lldt")
processor_word Str = Some (codes "str")
processor_word Ltr = Some (codes "ltr")
processor_word Sgdt = Some (codes "sgdt")
processor_word Lgdt = Some (codes "lgdt")
processor_word Sidt = Some (codes "sidt")
processor_word Lidt = Some (codes "lidt")
processor_word Smsw = Some (codes "smsw")
processor_word Lmsw = Some (codes "lmsw")
processor_word Clts = Some (codes "clts")
processor_word Hlt = Some (codes "hlt")
processor_word Nop = Some (codes "nop")
processor_word Wait = Some (codes "wait")
processor_word _ = None

-- the operations on strings, with a last letter for their width
abbrev pub string_word : Name → Width → Option (List ℕ)
string_word Movs w = Some (by_width w (codes "movsb") (codes "movsw") (codes "movsd"))
string_word Cmps w = Some (by_width w (codes "cmpsb") (codes "cmpsw") (codes "cmpsd"))
string_word Stos w = Some (by_width w (codes "stosb") (codes "stosw") (codes "stosd"))
string_word Lods w = Some (by_width w (codes "lodsb") (codes "lodsw") (codes "lodsd"))
string_word Scas w = Some (by_width w (codes "scasb") (codes "scasw") (codes "scasd"))
string_word _ w = None

-- The word of an operation of a width. Far jumps and calls have the words of near ones, and what begins a coprocessor's has none.
-- Source: Intel 80386 PRM 17.2.2; own choice: docs/DECISIONS.md, "The assembler's text"
abbrev pub word_of : Name → Width → Option (List ℕ)
word_of n w =
    option_else (computing_word n) (option_else (moving_word n) (option_else (transfer_word n)
    (option_else (condition_word n) (option_else (processor_word n) (string_word n w)))))

-- whether a word is the one of a name, if it has one
abbrev pub is_word : Option (List ℕ) → List ℕ → Bool
is_word None w = false
is_word (Some v) w = same_word v w

-- whether a word is the one of a row, with 66h or without
abbrev pub has_word : List ℕ → Row → Bool
has_word w r = is_word (word_of r.name (width_of r.size false)) w || is_word (word_of r.name (width_of r.size true)) w

-- whether a word begins with a letter, if there is one
abbrev pub begins_with : Option (List ℕ) → ℕ → Bool
begins_with None l = true
begins_with (Some []) l = false
begins_with (Some (b ∷ bs)) l = b == l

-- whether the word of a row begins with a letter, with 66h or without
abbrev pub is_letter_of : Row → ℕ → Bool
is_letter_of r l = begins_with (word_of r.name (width_of r.size false)) l && begins_with (word_of r.name (width_of r.size true)) l

-- whether each letter is that of its row
unfoldable pub are_letters_of : List Row → List ℕ → Bool
are_letters_of [] [] = true
are_letters_of (r ∷ rs) (l ∷ ls) = is_letter_of r l && are_letters_of rs ls
are_letters_of _ _ = false

-- Whether a word is a mnemonic: the word of a row of the opcode table.
unfoldable pub is_mnemonic : List ℕ → Bool
is_mnemonic w = list_any (has_word w) opcode_rows
