-- CR0 and the machine status word, and the words that any level may store.
use Rattle.std.specs.Prelude.{ℕ, Bool, not, ◌||◌, bit_and, bit_or, if◌then◌else◌}
use Rattle.m386_base.specs.declared.number.Width.TheVariants.{W16}
use Rattle.m386_base.specs.Exceptions.{general_protection_of}
use Rattle.m386_base.specs.Flags.{has_bit}
use Rattle.m386_base.specs.Phrase.{Phrase, Done, Faults, ◌>>=◌}
use Rattle.m386_state.specs.declared.proc.Proc.{Proc}
use Rattle.m386_access.specs.After.{register_of}
use Rattle.m386_access.specs.Operands.{value_phrase, put_phrase, on_one}
use Rattle.m386_access.specs.declared.operands.Operands.{Operands}
use Rattle.m386_access.specs.declared.operands.Place.{Place}
use Rattle.m386_system.specs.declared.work.SystemWord.{SystemWord}
use Rattle.m386_system.specs.declared.work.SystemWord.TheVariants.{LocalTable, Task, Status}

-- The places of PE, MP, EM, TS and PG in CR0.
-- Source: Intel 80386 PRM 4.1.3
abbrev pub protection_enable : ℕ
protection_enable = 0

abbrev pub monitor_coprocessor : ℕ
monitor_coprocessor = 1

abbrev pub emulation : ℕ
emulation = 2

abbrev pub task_switched : ℕ
task_switched = 3

abbrev pub paging : ℕ
paging = 31

-- a word that any level may store
abbrev pub word_of : Proc → SystemWord → ℕ
word_of p LocalTable = p.ldtr.selector
word_of p Task = p.tr.selector
word_of p Status = p.cr0

-- with CR0 changed
abbrev pub with_control : Proc → ℕ → Proc
with_control p cr0 = record p { cr0 = cr0 }

-- CLTS: of PE, MP, EM and TS the last goes.
-- Source: Intel 80386 PRM 17.2.2.11, CLTS
abbrev pub task_switched_cleared : Proc → Proc
task_switched_cleared p = with_control p (bit_and p.cr0 7)

-- CR0 behind LMSW: PE, MP, EM and TS are loaded, but PE stays where it is set.
-- Source: Intel 80386 PRM 17.2.2.11, LMSW
abbrev pub status_loaded : ℕ → ℕ → ℕ
status_loaded cr0 status = bit_or (bit_and status 15) (bit_and cr0 1)

-- Neither real mode nor paging is built.
-- Own choice: docs/DECISIONS.md, "Bits of CR0"
abbrev pub is_refused : ℕ → Bool
is_refused value = not (has_bit value protection_enable) || has_bit value paging

-- MOV to CR0, which keeps PE, MP, EM and TS.
-- Source: Intel 80386 PRM 17.2.2.11, MOV; docs/DECISIONS.md, "Bits of CR0"
unfoldable pub load_control_phrase : Proc → ℕ → Phrase Proc
load_control_phrase p register =
    if is_refused (register_of p register) then Faults general_protection_of
    else Done (with_control p (bit_and (register_of p register) 15))

-- the machine status word, loaded by an operand
unfoldable pub load_status_operand_phrase : Proc → Place → Phrase Proc
load_status_operand_phrase p operand = value_phrase W16 p operand >>= (λ status. Done (with_control p (status_loaded p.cr0 status)))

-- LMSW.
-- Source: Intel 80386 PRM 17.2.2.11, LMSW
unfoldable pub load_status_phrase : Proc → Operands → Phrase Proc
load_status_phrase p operands = on_one operands (load_status_operand_phrase p)

-- SLDT, STR, SMSW: 16 bits, also into a register.
-- Source: Intel 80386 PRM 17.2.2.11, SLDT, STR, SMSW; docs/DECISIONS.md, "Words in registers"
unfoldable pub store_word_phrase : Proc → SystemWord → Operands → Phrase Proc
store_word_phrase p word operands = on_one operands (λ first. put_phrase W16 p first (word_of p word))
