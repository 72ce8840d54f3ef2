-- What an ordinary operation may ask, and what it keeps.
use Rattle.std.specs.Prelude.{◌≡◌, ℕ, ◌+◌, ◌/◌, ◌%◌, ◌^◌, ◌==◌, ◌&&◌, ◌||◌, ◌⊎◌, bit_or, Bool, true, false, List, [], ◌∷◌, if◌then◌else◌}
use Rattle.m386_base.specs.declared.ask.Ask.{Ask}
use Rattle.m386_base.specs.declared.ask.Role.{Role}
use Rattle.m386_base.specs.declared.ask.Role.TheVariants as roles
use Rattle.m386_base.specs.declared.ask.Space.TheVariants.{Memory}
use Rattle.m386_base.specs.Bytes.{bytes_of, Has, heard, has_nt}
use Rattle.m386_base.specs.declared.flags.Flag.TheVariants.{NestedTask}
use Rattle.m386_base.specs.Flags.{has_bit, place}
use Rattle.m386_base.specs.Phrase.{Phrase, role_number}
use Rattle.m386_base.specs.Plain.{Plain}
use Rattle.m386_desc.specs.Selector.{is_null_selector, names_ldt, is_in_table, place_in}
use Rattle.m386_access.specs.declared.ran.Ran.{Ran}
use Rattle.m386_state.specs.declared.proc.Proc.{Proc}
use Rattle.m386_state.specs.declared.segment.TableReg.{TableReg}

-- what an ordinary operation reads
abbrev pub is_read_role : Role → Bool
is_read_role roles.Operand = true
is_read_role roles.Pop = true
is_read_role roles.Flags = true
is_read_role roles.Gdt = true
is_read_role roles.Ldt = true
is_read_role roles.Idt = true
is_read_role roles.Inner = true
is_read_role roles.Map = true
is_read_role roles.Lgdt = true
is_read_role roles.Lidt = true
is_read_role _ = false

-- What it writes with no look at a table, or in a place of the LDT.
-- Own choice: docs/DECISIONS.md, "What an operation owes"
abbrev pub is_write_role : Role → Bool
is_write_role roles.Operand = true
is_write_role roles.Push = true
is_write_role roles.LdtAcc = true
is_write_role _ = false

-- behind a cycle of the same operation
abbrev pub is_behind : List Ask → Bool
is_behind [] = false
is_behind (t ∷ ts) = true

-- A cycle is joined only to one of the same operation.
abbrev pub is_joinable : List Ask → Ask → Bool
is_joinable ts q = if q.joined then is_behind ts else true

-- A byte was read in memory at this place in the locked group that is open, and nothing was written in it since.
abbrev pub WasRead : List Ask → ℕ → ℕ → Type 0
WasRead [] place b = ⊥
WasRead (t ∷ ts) place b = (t.write ≡ false) × (Has (heard t) place b ⊎ ((t.joined ≡ true) × WasRead ts place b))

-- a selector of a descriptor in the GDT: not null, and inside its limit
pub record NamesGdt (gdt : TableReg) (selector : ℕ) : Type 0 where
  pub some : is_null_selector selector ≡ false
  pub table : names_ldt selector ≡ false
  pub inside : is_in_table selector gdt.limit ≡ true

-- the place of byte k of the descriptor that a selector names in the GDT
abbrev pub desc_byte : TableReg → ℕ → ℕ → ℕ
desc_byte gdt selector k = (place_in gdt.base selector + k) % 2 ^ 32

-- an access byte of code or data: S
abbrev pub IsSegmentByte : ℕ → Type 0
IsSegmentByte b = b / 2 ^ 4 % 2 ≡ 1

-- one byte is written in memory, in the locked group
pub record IsByteWritten (t : Ask) (what : Role) (place b : ℕ) : Type 0 where
  pub write : t.write ≡ true
  pub joined : t.joined ≡ true
  pub space : t.space ≡ Memory
  pub role : t.role ≡ what
  pub bytes : bytes_of t ≡ (place, b) ∷ []

-- An ask of an ordinary operation behind its own cycles: a read; a write where the program likes; or the accessed byte of a
-- segment's descriptor in the GDT, byte 5, written in one locked group with its read.
-- Own choice: docs/DECISIONS.md, "What an operation owes"
pub data Ordinary (gdt : TableReg) (ts : List Ask) (q : Ask) : Type 0 where
  Reads : q.write ≡ false → is_read_role q.role ≡ true → is_joinable ts q ≡ true → Ordinary gdt ts q
  Writes : q.write ≡ true → is_write_role q.role ≡ true → is_joinable ts q ≡ true → Ordinary gdt ts q
  Accesses : (selector b : ℕ) → NamesGdt gdt selector → WasRead ts (desc_byte gdt selector 5) b → IsSegmentByte b → IsByteWritten q roles.GdtAcc (desc_byte gdt selector 5) (bit_or b 1) → Ordinary gdt ts q

-- bit NT of a flags image
abbrev pub has_nested : ℕ → Bool
has_nested n = has_bit n (place NestedTask)

abbrev pub is_nested : Proc → Bool
is_nested p = has_nested p.eflags.0

-- a cycle of a role is among these
abbrev pub has_role : Role → List Ask → Bool
has_role role [] = false
has_role role (t ∷ ts) = (role_number t.role == role_number role) || has_role role ts

-- A flags cycle among these read NT set.
-- Source: Intel 80386 PRM 2.3.4.1
abbrev pub popped : List Ask → Bool
popped [] = false
popped (t ∷ ts) = ((role_number t.role == role_number roles.Flags) && has_nt t) || popped ts

-- What an ordinary operation keeps of the state it began in: TR; the GDT register but for a cycle of LGDT; and NT isn't set
-- where it wasn't, but behind a flags cycle that read it set.
-- Own choice: docs/DECISIONS.md, "What an operation owes"
pub record Keeps (p : Proc) (ts : List Ask) (after : Proc) : Type 0 where
  pub tr : after.tr ≡ p.tr
  pub gdtr : (after.gdtr ≡ p.gdtr) ⊎ (has_role roles.Lgdt ts ≡ true)
  pub nested : is_nested after ≡ true → (is_nested p ≡ true) ⊎ (popped ts ≡ true)

-- The law of an ordinary operation that begins in p: at most n cycles.
abbrev pub PlainFrom : ℕ → Proc → Phrase Proc → Type 0
PlainFrom n p t = Plain n (Ordinary p.gdtr) (Keeps p) [] t

-- what is kept of a state that an operation leaves, whatever is pending in it
abbrev pub KeepsRan : Proc → List Ask → Ran → Type 0
KeepsRan p ts r = Keeps p ts r.after

-- the law of an ordinary operation whose fault may be seen in the state that it leaves
abbrev pub PlainRanFrom : ℕ → Proc → Phrase Ran → Type 0
PlainRanFrom n p t = Plain n (Ordinary p.gdtr) (KeepsRan p) [] t
