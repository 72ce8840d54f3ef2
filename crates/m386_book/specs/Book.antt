-- The book of a history: which task each processor holds, which tasks wait, and whose links are live. It is a fold over the
-- cycles, and looks at no descriptor and no flag. A task is named by the number of its descriptor in the GDT.
use Rattle.std.specs.Prelude.{◌≡◌, ℕ, ◌+◌, ◌-◌, ◌*◌, ◌/◌, ◌%◌, ◌^◌, ◌==◌, ◌&&◌, Bool, true, false, nat_le, List, [], ◌∷◌, Option, Some, None, if◌then◌else◌}
use Rattle.m386_base.specs.declared.ask.Cycle.{Cycle}
use Rattle.m386_base.specs.declared.ask.Role.{Role}
use Rattle.m386_base.specs.declared.ask.Role.TheVariants as roles
use Rattle.m386_base.specs.Bytes.{bytes_of}
use Rattle.m386_image.specs.declared.image.Image.{Image}
use Rattle.m386_image.specs.declared.image.TableAt.{TableAt}
use Rattle.m386_book.specs.declared.moves.Move.{Move}
use Rattle.m386_book.specs.declared.moves.Move.TheVariants.{Claim, Link, Release, Return, Stay}

-- How far a place lies above the access byte of a table's first descriptor, modulo 2 ^ 32.
abbrev pub above_access : TableAt → ℕ → ℕ
above_access table place = (place + 2 ^ 32 - (table.base + 5) % 2 ^ 32) % 2 ^ 32

-- the task whose access byte lies so far above that of the first descriptor
abbrev pub task_above : TableAt → ℕ → Option ℕ
task_above table above = if (above % 8 == 0) && (nat_le 8 above && nat_le (above + 7) table.limit) then Some (above / 8) else None

-- The task that a cycle speaks of by the one byte that it enables: the one whose access byte it is. A cycle of more bytes
-- speaks of none.
-- Own choice: docs/DECISIONS.md, "The book"
unfoldable pub task_at : TableAt → List (ℕ × ℕ) → Option ℕ
task_at table [] = None
task_at table (b ∷ []) = task_above table (above_access table b.0)
task_at table (b ∷ (c ∷ bs)) = None

-- What each processor holds, who waits by whom, and whose link is live. An entry (x, t) says that x waits by t: the
-- processor that now holds t, or passed it on, came from x.
pub record Book : Type 0 where
  pub held : ℕ → Option ℕ
  pub waiting : List (ℕ × ℕ)
  pub live : ℕ → Bool

-- a function with one value put to another
unfoldable pub put : (ℕ → Option ℕ) → ℕ → Option ℕ → ℕ → Option ℕ
put f p v q = if q == p then v else f q

unfoldable pub set : (ℕ → Bool) → ℕ → Bool → ℕ → Bool
set f t v x = if x == t then v else f x

-- the entries but those by a task, and but those of a task
unfoldable pub without_by : ℕ → List (ℕ × ℕ) → List (ℕ × ℕ)
without_by t [] = []
without_by t (e ∷ es) = if e.1 == t then without_by t es else e ∷ without_by t es

unfoldable pub without_of : ℕ → List (ℕ × ℕ) → List (ℕ × ℕ)
without_of t [] = []
without_of t (e ∷ es) = if e.0 == t then without_of t es else e ∷ without_of t es

-- the entries with that of an older task, if there is one and it waits
unfoldable pub added : Bool → Option ℕ → ℕ → List (ℕ × ℕ) → List (ℕ × ℕ)
added true (Some o) t es = (o, t) ∷ es
added true None t es = es
added false o t es = es

-- the task that waits by t
unfoldable pub waiter : ℕ → List (ℕ × ℕ) → Option ℕ
waiter t [] = None
waiter t (e ∷ es) = if e.1 == t then Some e.0 else waiter t es

-- A claim of t: entries by t and the life of its link end, and the processor holds t. Its older task waits by t at a switch
-- of a JMP, a CALL or an event; at a start there is none, and at LTR it is dropped.
-- Own choice: docs/DECISIONS.md, "The book"
unfoldable pub claimed : Bool → ℕ → ℕ → Book → Book
claimed waits p t b = record { held = put b.held p (Some t); waiting = added waits (b.held p) t (without_by t b.waiting); live = set b.live t false }

-- The link that a switch writes is that of the task that its processor holds by then, and it is live.
-- Own choice: docs/DECISIONS.md, "The book"
unfoldable pub linked : Option ℕ → Book → Book
linked None b = b
linked (Some t) b = record { held = b.held; waiting = b.waiting; live = set b.live t true }

-- A release of o by a JMP: entries of o and by o and the life of its link end.
-- Own choice: docs/DECISIONS.md, "The book"
unfoldable pub released : ℕ → Book → Book
released o b = record { held = b.held; waiting = without_by o (without_of o b.waiting); live = set b.live o false }

-- A release of o by IRET: the processor holds the task that waited by o, or none; entries by o and the life of its link end.
-- Own choice: docs/DECISIONS.md, "The book"
unfoldable pub returned : ℕ → ℕ → Book → Book
returned p o b = record { held = put b.held p (waiter o b.waiting); waiting = without_by o b.waiting; live = set b.live o false }

-- What a write moves in the book, by its role.
-- Own choice: docs/DECISIONS.md, "The book"
abbrev pub move_of : Role → Move
move_of roles.ClaimJmp = Claim true
move_of roles.ClaimCall = Claim true
move_of roles.ClaimStart = Claim false
move_of roles.ClaimLtr = Claim false
move_of roles.Link = Link
move_of roles.RelJmp = Release
move_of roles.RelRet = Return
move_of _ = Stay

-- the book after a move of this task
unfoldable pub moved : ℕ → Move → Option ℕ → Book → Book
moved p (Claim waits) (Some t) b = claimed waits p t b
moved p (Claim waits) None b = b
moved p Link t b = linked (b.held p) b
moved p Release (Some t) b = released t b
moved p Release None b = b
moved p Return (Some t) b = returned p t b
moved p Return None b = b
moved p Stay t b = b

-- what a write of a role does
abbrev pub effect : ℕ → Role → Option ℕ → Book → Book
effect p role t b = moved p (move_of role) t b

-- the book after one more cycle
abbrev pub book_next : Image → Cycle → Book → Book
book_next image x b = if x.ask.write then effect x.cpu x.ask.role (task_at image.gdt (bytes_of x.ask)) b else b

-- nobody holds a task
abbrev pub empty_book : Book
empty_book = record { held = λ p. None; waiting = []; live = λ t. false }

-- The book after these cycles, the newest first.
-- Own choice: docs/DECISIONS.md, "The book"
unfoldable pub book_after : Image → List Cycle → Book
book_after image [] = empty_book
book_after image (x ∷ older) = book_next image x (book_after image older)

-- the link of the task is live, where there is one
abbrev pub IsLive : Book → Option ℕ → Type 0
IsLive b None = ⊥
IsLive b (Some t) = b.live t ≡ true
