-- Where a processor stands within a step: by what its cycles have read in the open locked group, and claimed, saved and released.
use Rattle.std.specs.Prelude.{◌≡◌, ◌≢◌, ℕ, ◌+◌, ◌*◌, ◌/◌, ◌%◌, ◌^◌, ◌<◌, ◌≤◌, Bool, true, false, List, [], ◌∷◌, ◌++◌, Option, Some, None, if◌then◌else◌, ◌||◌, bit_or, bit_and}
use Rattle.std.specs.List.{AllByRecursion}
use Rattle.m386_base.specs.declared.ask.Ask.{Ask}
use Rattle.m386_base.specs.declared.ask.Role.{Role}
use Rattle.m386_base.specs.declared.ask.Role.TheVariants as roles
use Rattle.m386_base.specs.declared.ask.Space.TheVariants.{Memory}
use Rattle.m386_base.specs.declared.kind.SwitchKind.{SwitchKind}
use Rattle.m386_base.specs.declared.kind.SwitchKind.TheVariants as switches
use Rattle.m386_base.specs.Bus.{cycle_of}
use Rattle.m386_base.specs.Bytes.{Has, bytes_of, has_nt, heard}
use Rattle.m386_base.specs.Flags.{has_bit}
use Rattle.m386_base.specs.Laws.{Turns}
use Rattle.m386_base.specs.Phrase.{Phrase}
use Rattle.m386_access.specs.Ordinary.{NamesGdt, IsSegmentByte, IsByteWritten, desc_byte, is_nested}
use Rattle.m386_checks.specs.declared.facts.Context.TheVariants as contexts
use Rattle.m386_checks.specs.declared.facts.Fail.{Fail}
use Rattle.m386_state.specs.declared.proc.Proc.{Proc}
use Rattle.m386_state.specs.declared.segment.Seg.{Seg}
use Rattle.m386_state.specs.declared.segment.TableReg.{TableReg}
use Rattle.m386_switch.specs.declared.outcome.Switched.{Switched}

-- a task by the selector that names it and the base of its segment
pub record Task : Type 0 where
  pub selector : ℕ
  pub base : ℕ

-- byte k of the segment at a base
abbrev pub segment_byte : ℕ → ℕ → ℕ
segment_byte base k = (base + k) % 2 ^ 32

-- NT in byte 1 of an image of the flags.
-- Source: Intel 80386 PRM 2.3.4.1
abbrev pub nt_set : ℕ → Bool
nt_set b = has_bit b 6

-- an access byte of an available TSS that is present: P, S, and type 9
abbrev pub IsFreeByte : ℕ → Type 0
IsFreeByte b = (b / 2 ^ 7 % 2 ≡ 1) × (b / 2 ^ 4 % 2 ≡ 0) × (b % 2 ^ 4 ≡ 9)

pub data Phase : Type 0 where
  -- in no switch, or before its claim; TR, and whether NT may be set
  Free : Option Task → Bool → Phase
  -- a task was claimed, by CALL or an event or else by JMP: the older one, the new one, the NT to be saved, and whether it was
  Turned : Bool → Task → Task → Bool → Bool → Phase
  -- a CALL that has written the first half of the link, and one that has written it
  Linking : Task → Task → Phase
  Called : Task → Phase
  -- a JMP that has released, or a start that has claimed
  Jumped : Task → Phase
  -- an LTR that has claimed
  Loaded : Task → Bool → Phase
  -- an IRET that has read these bytes of the link; one that has released; and one that has loaded NT
  Backing : Task → List (ℕ × ℕ) → Phase
  Returned : Task → Phase
  Ready : Task → Bool → Phase

pub record Stage : Type 0 where
  pub phase : Phase
  pub group : List (ℕ × ℕ)  -- bytes read in the open locked group
  pub seen : List (ℕ × ℕ)  -- bytes read in this step
  pub lgdt : Bool  -- a cycle of LGDT was made in it

abbrev pub is_lgdt : Role → Bool
is_lgdt roles.Lgdt = true
is_lgdt _ = false

-- the stage after a read, and after a write
abbrev pub hears : Stage → Ask → Phase → Stage
hears g t ph = record { phase = ph; group = heard t ++ (if t.joined then g.group else []); seen = heard t ++ g.seen; lgdt = is_lgdt t.role || g.lgdt }

abbrev pub shut : Stage → Phase → Stage
shut g ph = record { phase = ph; group = []; seen = g.seen; lgdt = g.lgdt }

-- a task's base was read
pub record IsBase (gdt : TableReg) (seen : List (ℕ × ℕ)) (t : Task) : Type 0 where
  pub b2 : ℕ
  pub b3 : ℕ
  pub b4 : ℕ
  pub b7 : ℕ
  pub h2 : Has seen (desc_byte gdt t.selector 2) b2
  pub h3 : Has seen (desc_byte gdt t.selector 3) b3
  pub h4 : Has seen (desc_byte gdt t.selector 4) b4
  pub h7 : Has seen (desc_byte gdt t.selector 7) b7
  pub base : t.base ≡ b2 + b3 * 2 ^ 8 + b4 * 2 ^ 16 + b7 * 2 ^ 24

-- bytes are written in memory, in no locked group
pub record IsWritten (t : Ask) (what : Role) : Type 0 where
  pub write : t.write ≡ true
  pub joined : t.joined ≡ false
  pub space : t.space ≡ Memory
  pub role : t.role ≡ what

-- a byte of the fields that are saved, other than that with NT
abbrev pub IsSaved : ℕ → ℕ → Type 0
IsSaved base place = (j : ℕ) × (32 ≤ j) × (j < 96) × (j ≢ 37) × (place ≡ segment_byte base j)

-- a byte of the fields that are saved
abbrev pub IsSavedAny : ℕ → ℕ → Type 0
IsSavedAny base place = (j : ℕ) × (32 ≤ j) × (j < 96) × (place ≡ segment_byte base j)

-- writes that a program makes where it likes
abbrev pub is_store : Role → Bool
is_store roles.Operand = true
is_store roles.Push = true
is_store roles.LdtAcc = true
is_store _ = false

abbrev pub claiming : Bool → Role
claiming true = roles.ClaimCall
claiming false = roles.ClaimJmp

-- What is claimed: a free TSS by its access byte, read in this locked group, with its base.
pub record IsClaim (gdt : TableReg) (g : Stage) (c : Ask) (role : Role) (t : Task) : Type 0 where
  pub b : ℕ
  pub names : NamesGdt gdt t.selector
  pub read : Has g.group (desc_byte gdt t.selector 5) b
  pub free : IsFreeByte b
  pub base : IsBase gdt g.seen t
  pub written : IsByteWritten c role (desc_byte gdt t.selector 5) (bit_or b 2)

-- a busy bit is cleared: the byte that this locked group has read, with bit 1 cleared
pub record IsRelease (gdt : TableReg) (g : Stage) (c : Ask) (role : Role) (t : Task) : Type 0 where
  pub b : ℕ
  pub read : Has g.group (desc_byte gdt t.selector 5) b
  pub written : IsByteWritten c role (desc_byte gdt t.selector 5) (bit_and b 0xfd)

-- A cycle leads from one stage to another.
pub data Turn (gdt : TableReg) (g : Stage) (c : Ask) (g2 : Stage) : Type 0 where
  Hears : c.write ≡ false → g2 ≡ hears g c g.phase → Turn gdt g c g2
  Stores : c.write ≡ true → is_store c.role ≡ true → g2 ≡ shut g g.phase → Turn gdt g c g2
  Touches : (selector b : ℕ) → NamesGdt gdt selector → Has g.group (desc_byte gdt selector 5) b → IsSegmentByte b → IsByteWritten c roles.GdtAcc (desc_byte gdt selector 5) (bit_or b 1) → g2 ≡ shut g g.phase → Turn gdt g c g2
  Pops_set : (tr : Option Task) (nt : Bool) → g.phase ≡ Free tr nt → c.write ≡ false → c.role ≡ roles.Flags → has_nt c ≡ true → g2 ≡ hears g c (Free tr true) → Turn gdt g c g2
  Claims : (k nt : Bool) (o t : Task) → g.phase ≡ Free (Some o) nt → IsClaim gdt g c (claiming k) t → g2 ≡ shut g (Turned k o t nt false) → Turn gdt g c g2
  Claims_start : (tr : Option Task) (nt : Bool) (t : Task) → g.phase ≡ Free tr nt → IsClaim gdt g c roles.ClaimStart t → g2 ≡ shut g (Jumped t) → Turn gdt g c g2
  Claims_ltr : (tr : Option Task) (nt : Bool) (t : Task) → g.phase ≡ Free tr nt → IsClaim gdt g c roles.ClaimLtr t → g2 ≡ shut g (Loaded t nt) → Turn gdt g c g2
  Saves : (k nt z : Bool) (o t : Task) → g.phase ≡ Turned k o t nt z → IsWritten c roles.Save → AllByRecursion (λ (b : ℕ × ℕ). IsSaved o.base b.0) (bytes_of c) → g2 ≡ shut g g.phase → Turn gdt g c g2
  Saves_flags : (k nt z : Bool) (o t : Task) (x : ℕ) → g.phase ≡ Turned k o t nt z → IsWritten c roles.Save → AllByRecursion (λ (b : ℕ × ℕ). IsSavedAny o.base b.0) (bytes_of c) → Has (bytes_of c) (segment_byte o.base 37) x → (nt_set x ≡ true → nt ≡ true) → g2 ≡ shut g (Turned k o t nt true) → Turn gdt g c g2
  Saves_back : (o : Task) (bs : List (ℕ × ℕ)) → g.phase ≡ Backing o bs → IsWritten c roles.Save → AllByRecursion (λ (b : ℕ × ℕ). IsSavedAny o.base b.0) (bytes_of c) → g2 ≡ shut g g.phase → Turn gdt g c g2
  Links_whole : (nt : Bool) (o t : Task) → g.phase ≡ Turned true o t nt true → IsWritten c roles.Link → bytes_of c ≡ (segment_byte t.base 0, o.selector % 256) ∷ (segment_byte t.base 1, o.selector / 256 % 256) ∷ [] → g2 ≡ shut g (Called t) → Turn gdt g c g2
  Links_low : (nt : Bool) (o t : Task) → g.phase ≡ Turned true o t nt true → IsWritten c roles.Link → bytes_of c ≡ (segment_byte t.base 0, o.selector % 256) ∷ [] → g2 ≡ shut g (Linking o t) → Turn gdt g c g2
  Links_high : (o t : Task) → g.phase ≡ Linking o t → IsWritten c roles.Link → bytes_of c ≡ (segment_byte t.base 1, o.selector / 256 % 256) ∷ [] → g2 ≡ shut g (Called t) → Turn gdt g c g2
  Releases : (nt : Bool) (o t : Task) → g.phase ≡ Turned false o t nt true → IsRelease gdt g c roles.RelJmp o → g2 ≡ shut g (Jumped t) → Turn gdt g c g2
  Backs : (o : Task) → g.phase ≡ Free (Some o) true → c.write ≡ false → c.role ≡ roles.Back → g2 ≡ hears g c (Backing o (heard c)) → Turn gdt g c g2
  Backs_on : (o : Task) (bs : List (ℕ × ℕ)) → g.phase ≡ Backing o bs → c.write ≡ false → c.role ≡ roles.Back → g2 ≡ hears g c (Backing o (heard c ++ bs)) → Turn gdt g c g2
  Returns : (o x : Task) (bs : List (ℕ × ℕ)) (lo hi : ℕ) → g.phase ≡ Backing o bs → Has bs (segment_byte o.base 0) lo → Has bs (segment_byte o.base 1) hi → x.selector ≡ lo + hi * 2 ^ 8 → NamesGdt gdt x.selector → IsBase gdt g.seen x → IsRelease gdt g c roles.RelRet o → g2 ≡ shut g (Returned x) → Turn gdt g c g2
  Loads_flags : (x : Task) (b : ℕ) → g.phase ≡ Returned x → c.write ≡ false → c.role ≡ roles.Load → Has (heard c) (segment_byte x.base 37) b → g2 ≡ hears g c (Ready x (nt_set b)) → Turn gdt g c g2

-- the turn that an ask with its answer makes
abbrev pub on : TableReg → Stage → Ask → ℕ → Stage → Type 0
on gdt g q v g2 = Turn gdt g (cycle_of q v) g2

-- A phrase keeps to the stages, ends in no fault, and P holds at its end.
unfoldable pub Keeps : {A : Type 0} → TableReg → (Stage → A → Type 0) → Stage → Phrase A → Type 0
Keeps gdt P g t = Turns (on gdt) P (λ s f. ⊥) g t

-- TR's task, where it is usable
abbrev pub task_of : Seg → Option Task
task_of s = if s.usable then Some (record { selector = s.selector; base = s.desc.base }) else None

-- NT is set in a state only where it may be
abbrev pub MayNest : Proc → Bool → Type 0
MayNest p nt = is_nested p ≡ true → nt ≡ true

-- where a state may stand at the end of a step
abbrev pub EndsIn : Proc → Phase → Type 0
EndsIn p (Free tr nt) = (task_of p.tr ≡ tr) × MayNest p nt
EndsIn p (Turned k o t nt z) = ⊥
EndsIn p (Linking o t) = ⊥
EndsIn p (Called t) = task_of p.tr ≡ Some t
EndsIn p (Jumped t) = (task_of p.tr ≡ Some t) × (is_nested p ≡ false)
EndsIn p (Loaded t nt) = (task_of p.tr ≡ Some t) × MayNest p nt
EndsIn p (Backing o bs) = task_of p.tr ≡ Some o
EndsIn p (Returned x) = ⊥
EndsIn p (Ready x nt) = (task_of p.tr ≡ Some x) × (is_nested p ≡ nt)

-- where a step begins
abbrev pub begins : Proc → Stage
begins p = record { phase = Free (task_of p.tr) (is_nested p); group = []; seen = []; lgdt = false }

-- the state and the stage at the end of a switch
pub record Left (p : Proc) (g : Stage) (r : Switched) : Type 0 where
  pub stands : EndsIn r.after g.phase
  pub gdtr : r.after.gdtr ≡ p.gdtr
  pub told : (x : Fail) → r.fail ≡ Some x → x.context ≡ contexts.Old → EndsIn p g.phase  -- a fault of the old task is told in its state

-- IRET makes a switch with NT set alone.
-- Source: Intel 80386 PRM 17.2.2.11, IRET
abbrev pub Allowed : Proc → SwitchKind → Type 0
Allowed p switches.Iret = is_nested p ≡ true
Allowed p _ = Unit {0}

-- cycles lead from one stage to another
unfoldable pub Path : TableReg → Stage → List Ask → Stage → Type 0
Path gdt g [] g2 = g2 ≡ g
Path gdt g (t ∷ ts) g2 = (g1 : Stage) × Turn gdt g t g1 × Path gdt g1 ts g2
