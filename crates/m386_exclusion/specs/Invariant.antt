-- The invariant of exclusion: what holds of memory, the book and the stages after each cycle of a clean history.
use Rattle.std.specs.Prelude.{◌≡◌, ℕ, ◌+◌, ◌/◌, ◌%◌, ◌<◌, ◌≤◌, ◌==◌, Bool, true, false, List, [], ◌∷◌, Some, if◌then◌else◌, ◌⊎◌}
use Rattle.m386_base.specs.Bytes.{Has}
use Rattle.m386_stages.specs.Stages.{Task, Phase, Free, Turned, Linking, Called, Jumped, Loaded, Backing, Returned, Ready, nt_set, segment_byte, begins}
use Rattle.m386_book.specs.Book.{Book, IsLive}
use Rattle.m386_exclusion.specs.Held.{holds, number_of}
use Rattle.m386_exclusion.specs.Table.{IsTable, HasRead, AreRight, at_cpu}
use Rattle.m386_exclusion.specs.World.{Setting, World, IsTask, mem, seg, flag, IsBusy, book, stands, gdt_reg}
use Rattle.m386_state.specs.declared.proc.Proc.{Proc}

-- how often a task waits by another, and how many wait by it
unfoldable pub entries : List (ℕ × ℕ) → ℕ → ℕ → ℕ
entries [] x t = 0
entries (e ∷ es) x t = (if e.0 == x then (if e.1 == t then 1 else 0) else 0) + entries es x t

unfoldable pub bys : List (ℕ × ℕ) → ℕ → ℕ
bys [] t = 0
bys (e ∷ es) t = (if e.1 == t then 1 else 0) + bys es t

-- the number of a task
abbrev pub num : Task → ℕ
num t = t.selector / 8

-- the link bytes that were read are those of the one that waits by the held task
pub record IsLinkRead (b : Book) (o : Task) (bs : List (ℕ × ℕ)) : Type 0 where
  pub older : ℕ
  pub entry : 1 ≤ entries b.waiting older (num o)
  pub low : (y : ℕ) → Has bs (segment_byte o.base 0) y → y / 8 ≡ older % 32
  pub high : (y : ℕ) → Has bs (segment_byte o.base 1) y → y ≡ older / 32 % 256

-- who is to wait by the held task
abbrev pub Owes : Book → Phase → Type 0
Owes b (Free tr nt) = Unit {0}
Owes b (Turned k o t nt z) = 1 ≤ entries b.waiting (num o) (num t)
Owes b (Linking o t) = 1 ≤ entries b.waiting (num o) (num t)
Owes b (Called t) = Unit {0}
Owes b (Jumped t) = Unit {0}
Owes b (Loaded t nt) = Unit {0}
Owes b (Backing o bs) = IsLinkRead b o bs
Owes b (Returned x) = Unit {0}
Owes b (Ready x nt) = Unit {0}

-- the saved flags of a task have NT set only where its link is live
abbrev pub FlagsOk : Setting → World → ℕ → Type 0
FlagsOk I G x = (nt_set (mem I G (seg I x 37)) ≡ false) ⊎ ((book I G).live x ≡ true)

-- which links are live
abbrev pub Lives : Setting → World → Phase → Type 0
Lives I G (Free tr nt) = nt ≡ true → IsLive (book I G) (number_of tr)
Lives I G (Turned k o t nt z) = (nt ≡ true → (book I G).live (num o) ≡ true) × ((book I G).live (num t) ≡ false)
Lives I G (Linking o t) = (book I G).live (num t) ≡ true
Lives I G (Called t) = (book I G).live (num t) ≡ true
Lives I G (Jumped t) = Unit {0}
Lives I G (Loaded t nt) = nt ≡ false
Lives I G (Backing o bs) = (book I G).live (num o) ≡ true
Lives I G (Returned x) = FlagsOk I G (num x)
Lives I G (Ready x nt) = nt ≡ true → (book I G).live (num x) ≡ true

-- the flags of the older task are yet to be saved; the second half of the link is yet to be written
abbrev pub unsaved_of : Phase → Bool
unsaved_of (Turned k o t nt true) = false
unsaved_of (Turned k o t nt false) = true
unsaved_of (Free tr nt) = false
unsaved_of (Linking o t) = false
unsaved_of (Called t) = false
unsaved_of (Jumped t) = false
unsaved_of (Loaded t nt) = false
unsaved_of (Backing o bs) = false
unsaved_of (Returned x) = false
unsaved_of (Ready x nt) = false

abbrev pub pending_of : Phase → Bool
pending_of (Linking o t) = true
pending_of (Turned k o t nt z) = false
pending_of (Free tr nt) = false
pending_of (Called t) = false
pending_of (Jumped t) = false
pending_of (Loaded t nt) = false
pending_of (Backing o bs) = false
pending_of (Returned x) = false
pending_of (Ready x nt) = false

abbrev pub unsaved : World → ℕ → Bool
unsaved G p = unsaved_of (G.at p).phase

abbrev pub pending : World → ℕ → Bool
pending G p = pending_of (G.at p).phase

-- a processor's stage and the world agree
pub record Good (I : Setting) (p : ℕ) (G : World) : Type 0 where
  pub holds : (book I G).held p ≡ holds (G.at p).phase
  pub right : AreRight I.first (gdt_reg I) (G.at p).phase
  pub read : HasRead I.first (gdt_reg I) p (G.at p) G.cycles
  pub owes : Owes (book I G) (G.at p).phase
  pub lives : Lives I G (G.at p).phase

-- No task stands twice, each that stands is a busy task of the image, and the GDT is the image's but for busy and accessed bits.
pub record Gdt (I : Setting) (n : ℕ) (G : World) : Type 0 where
  pub once : (x : ℕ) → stands n (book I G) x ≤ 1
  pub busy : (x : ℕ) → 1 ≤ stands n (book I G) x → IsBusy (mem I G (flag I x))
  pub inside : (x : ℕ) → 1 ≤ stands n (book I G) x → IsTask I x
  pub kin : IsTable I.first (gdt_reg I) G.cycles

-- some processor has yet to save the flags of the task that it came from
pub record Exempt (I : Setting) (n : ℕ) (G : World) (t : ℕ) : Type 0 where
  pub who : ℕ
  pub below : who < n
  pub holds : (book I G).held who ≡ Some t
  pub unsaved : unsaved G who ≡ true

-- some processor is between the two halves of the link of the task that it holds
pub record Pending (I : Setting) (n : ℕ) (G : World) (t : ℕ) : Type 0 where
  pub who : ℕ
  pub below : who < n
  pub holds : (book I G).held who ≡ Some t
  pub pending : pending G who ≡ true

-- the link of a task names the one that waits by it
pub record Linked (I : Setting) (n : ℕ) (G : World) (t : ℕ) : Type 0 where
  pub older : ℕ
  pub entry : 1 ≤ entries (book I G).waiting older t
  pub low : mem I G (seg I t 0) / 8 ≡ older % 32
  pub high : Pending I n G t ⊎ (mem I G (seg I t 1) ≡ older / 32 % 256)

-- Who waits, whose link is live, and what the link and the saved flags of a task say.
pub record Links (I : Setting) (n : ℕ) (G : World) : Type 0 where
  pub single : (t : ℕ) → bys (book I G).waiting t ≤ 1
  pub alive : (t : ℕ) → (book I G).live t ≡ true → IsTask I t
  pub linked : (t : ℕ) → (book I G).live t ≡ true → Linked I n G t
  pub saved : (x t : ℕ) → 1 ≤ entries (book I G).waiting x t → Exempt I n G t ⊎ FlagsOk I G x

-- all of it
pub record Invariant (I : Setting) (n : ℕ) (G : World) : Type 0 where
  pub gdt : Gdt I n G
  pub links : Links I n G
  pub good : (p : ℕ) → p < n → Good I p G

-- one processor's step has ended in a state, and its next one begins
abbrev pub rested : World → ℕ → Proc → World
rested G p s = record { cycles = G.cycles; at = at_cpu G.at p (begins s) }
