-- The orders in which processors are named, and the histories that they give.
use Rattle.std.specs.Prelude.{◌≡◌, ℕ, zero, suc, ◌+◌, ◌*◌, ◌/◌, ◌%◌, ◌^◌, ◌⊎◌, nat_lt, List, [], ◌∷◌, ◌++◌, filter}
use Rattle.m386_base.specs.declared.ask.Cycle.{Cycle}
use Rattle.m386_image.specs.declared.image.Image.{Image}
use Rattle.m386_core.specs.declared.order.Order.{Order}
use Rattle.m386_core.specs.declared.order.Order.TheVariants as orders
use Rattle.m386_core.specs.Place.{IsPassedOver}

-- Where an order stands, which decides whom it names from there on. Turns n: the processor n modulo the count. Listed p ps:
-- the processor p, and then those of ps. Drawn x k: the processor that the number x stands for, k places on.
pub data Naming : Type 0 where
  Turns : ℕ → Naming
  Listed : ℕ → List ℕ → Naming
  Drawn : ℕ → ℕ → Naming

-- these processors are named, and then all in turn from 0
abbrev pub listed : List ℕ → Naming
listed [] = Turns 0
listed (p ∷ ps) = Listed p ps

-- The next number drawn from a seed.
-- Own choice: docs/DECISIONS.md, "Orders"
unfoldable pub draw_of : ℕ → ℕ
draw_of x = (x * 6364136223846793005 + 1442695040888963407) % 2 ^ 64

-- Where an order of c processors begins: a list names its members below c.
-- Own choice: docs/DECISIONS.md, "Orders"
abbrev pub beginning : ℕ → Order → Naming
beginning c orders.Round = Turns 0
beginning c (orders.Seed x) = Drawn (draw_of x) 0
beginning c (orders.List ps) = listed (filter (λ p. nat_lt p c) ps)

-- the processor that is named
abbrev pub named : ℕ → Naming → ℕ
named c (Turns n) = n % c
named c (Listed p ps) = p
named c (Drawn x k) = (x / 2 ^ 33 + k) % c

-- where the order stands once the processor that it named was passed over
abbrev pub passed : Naming → Naming
passed (Turns n) = Turns (n + 1)
passed (Listed p ps) = listed ps
passed (Drawn x k) = Drawn x (k + 1)

-- Where the order stands once the processor that it named has made a cycle: a number is drawn for each cycle.
abbrev pub followed : Naming → Naming
followed (Turns n) = Turns (n + 1)
followed (Listed p ps) = listed ps
followed (Drawn x k) = Drawn (draw_of x) 0

-- The order has named k processors, one after another: each that is passed over makes no cycle, and each other the next
-- cycle. These are the cycles of H, and the order stands at s.
-- Own choice: docs/DECISIONS.md, "Orders"
unfoldable pub NamesTo : Image → ℕ → ℕ → Order → ℕ → List Cycle → Naming → Type 0
NamesTo I c n order zero H s = (H ≡ []) × (s ≡ beginning c order)
NamesTo I c n order (suc k) H s = (before : Naming) × (
    (IsPassedOver I c n H (named c before) × (s ≡ passed before) × NamesTo I c n order k H before)
    ⊎ ((G : List Cycle) × (x : Cycle) × (H ≡ G ++ x ∷ []) × (¬ IsPassedOver I c n G (named c before)) × (x.cpu ≡ named c before)
    × (s ≡ followed before) × NamesTo I c n order k G before))

-- the order has named some processors, which gave the cycles of H, and stands at s
abbrev pub StandsAt : Image → ℕ → ℕ → Order → List Cycle → Naming → Type 0
StandsAt I c n order H s = (k : ℕ) × NamesTo I c n order k H s

-- Each cycle of H is by the first processor that the order names from there and that isn't passed over.
-- Own choice: docs/DECISIONS.md, "Orders"
abbrev pub InOrder : Image → ℕ → ℕ → Order → List Cycle → Type 0
InOrder I c n order H = (s : Naming) × StandsAt I c n order H s
