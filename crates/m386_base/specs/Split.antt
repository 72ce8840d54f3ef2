-- The aligned groups of an access.
use Rattle.std.specs.Prelude.{ℕ, ◌+◌, ◌-◌, ◌*◌, ◌%◌, ◌^◌, List, [], ◌∷◌, ◌++◌, ◌/◌, ◌<◌, ◌≡◌, ◌⊎◌, if◌then◌else◌, nat_le, ◌==◌, eqb, map, bit_and, bit_or}
use Rattle.std.specs.List.{AllByRecursion, IsDistinct, Contains, flat_map, fold, range_with_len}
use Rattle.m386_base.specs.declared.ask.Space.{Space}
use Rattle.m386_base.specs.declared.ask.Space.TheVariants.{Memory, Port}
use Rattle.m386_base.specs.declared.split.Piece.{Piece}
use Rattle.m386_base.specs.Bus.{mask, IsInSpace}

-- an address modulo the size of its space
abbrev pub wrapped : Space → ℕ → ℕ
wrapped Memory addr = addr % 2 ^ 32
wrapped Port addr = addr % 2 ^ 16

-- the enables of n bytes of a group, from byte `at` on
abbrev pub ones_at : ℕ → ℕ → ℕ
ones_at at n = (2 ^ n - 1) * 2 ^ at

-- the groups of the access whose first byte stands there, that of the first byte first
abbrev pub pieces_from : Space → ℕ → ℕ → List Piece
pieces_from space first len =
    let at = first % 4 in
    if nat_le (at + len) 4 then record { addr = first - at; enables = ones_at at len; place = 0 } ∷ []
    else record { addr = first - at; enables = ones_at at (4 - at); place = 0 }
    ∷ record { addr = wrapped space (first - at + 4); enables = ones_at 0 (at + len - 4); place = 4 - at } ∷ []

-- The aligned groups that hold the bytes addr to addr + len - 1, modulo the size of the space.
-- Source: Intel 80386 PRM 2.1; the form of a group: docs/DECISIONS.md, "The form of a bus cycle"
unfoldable pub pieces : Space → ℕ → ℕ → List Piece
pieces space addr len = pieces_from space (wrapped space addr) len

-- what each group of an access is
pub record IsGroup (space : Space) (p : Piece) : Type 0 where
  pub aligned : p.addr % 4 ≡ 0
  pub inside : IsInSpace space p.addr
  pub some : 0 < p.enables
  pub group : p.enables < 16
  pub place : p.place < 4

-- each of these is a group
abbrev pub AreGroups : Space → List Piece → Type 0
AreGroups space ps = AllByRecursion (IsGroup space) ps

-- the lengths of an access
abbrev pub IsLength : ℕ → Type 0
IsLength len = (len ≡ 1) ⊎ (len ≡ 2) ⊎ (len ≡ 4)

-- the place in the group of its first enabled byte
abbrev pub lowest : ℕ → ℕ
lowest enables =
    if bit_and enables 1 == 1 then 0 else if bit_and enables 2 == 2 then 1 else if bit_and enables 4 == 4 then 2 else 3

-- the bytes of an access that stand in a group, put there
unfoldable pub spread_of : Piece → ℕ → ℕ
spread_of p value = bit_and (if p.place == 0 then value * 2 ^ (8 * lowest p.enables) % 2 ^ 32 else value / 2 ^ (8 * p.place)) (mask p.enables)

-- the bytes of a group, put at their places in the access
unfoldable pub gather_of : Piece → ℕ → ℕ
gather_of p value =
    let bytes = bit_and value (mask p.enables) in
    if p.place == 0 then bytes / 2 ^ (8 * lowest p.enables) else bytes * 2 ^ (8 * p.place) % 2 ^ 32

-- The bytes of an access, rising: each one's place in the access, and its place in the space.
-- Source: Intel 80386 PRM 2.1
unfoldable pub access_bytes : Space → ℕ → ℕ → List (ℕ × ℕ)
access_bytes space addr len = map (λ k. (k, wrapped space (addr + k))) (range_with_len 0 len)

-- byte l of a group, where it belongs to the access: its place in the access, and its place in the group
abbrev pub lane : Piece → ℕ → List (ℕ × ℕ)
lane p l = if bit_and p.enables (2 ^ l) == 0 then [] else (p.place + l - lowest p.enables, l) ∷ []

-- the bytes of a group that belong to the access, rising: each one's place in the access, and its place in the group
unfoldable pub lanes : Piece → List (ℕ × ℕ)
lanes p = lane p 0 ++ lane p 1 ++ lane p 2 ++ lane p 3

-- the same bytes, each with its place in the space
abbrev pub piece_bytes : Piece → List (ℕ × ℕ)
piece_bytes p = map (λ b. (b.0, p.addr + b.1)) (lanes p)

-- These are the groups of the access: no group stands twice, and each byte of the access stands in just one of them, at
-- its own place, the first byte in the first group.
-- Source: Intel 80386 PRM 2.1; the form of a group: docs/DECISIONS.md, "The form of a bus cycle"
pub record IsAccess (space : Space) (addr len : ℕ) (ps : List Piece) : Type 0 where
  pub groups : AreGroups space ps
  pub apart : IsDistinct eqb (map (λ (p : Piece). p.addr) ps)
  pub bytes : flat_map piece_bytes ps ≡ access_bytes space addr len

-- byte k of a number, the lowest first
abbrev pub byte : ℕ → ℕ → ℕ
byte value k = value / 2 ^ (8 * k) % 256

-- the number that has for each of these pairs byte b.0 of a value as its byte b.1, and 0 elsewhere
abbrev pub moved : List (ℕ × ℕ) → ℕ → ℕ
moved [] value = 0
moved (b ∷ bs) value = byte value b.0 * 2 ^ (8 * b.1) + moved bs value

-- the same pairs the other way round
abbrev pub swapped : List (ℕ × ℕ) → List (ℕ × ℕ)
swapped bs = map (λ (b : ℕ × ℕ). (b.1, b.0)) bs

-- a group of some access
pub record IsPiece (p : Piece) : Type 0 where
  pub space : Space
  pub addr : ℕ
  pub len : ℕ
  pub length : IsLength len
  pub stands : Contains (pieces space addr len) p

-- the values of the groups of an access, taken together to the value of the access
abbrev pub gathered : (Piece → ℕ) → List Piece → ℕ
gathered read ps = fold (λ value p. bit_or value (gather_of p (read p))) 0 ps

-- the number whose byte b.0 is what stands at place b.1, for each of these pairs
abbrev pub placed : (ℕ → ℕ) → List (ℕ × ℕ) → ℕ
placed stands [] = 0
placed stands (b ∷ bs) = stands b.1 * 2 ^ (8 * b.0) + placed stands bs

-- what is read of each of these groups are the bytes that stand at its places
abbrev pub AreRead : (ℕ → ℕ) → (Piece → ℕ) → List Piece → Type 0
AreRead stands read ps = AllByRecursion (λ p. AllByRecursion (λ (b : ℕ × ℕ). byte (read p) b.1 ≡ stands (p.addr + b.1)) (lanes p)) ps

-- the bytes of a value at their places: what a write of it puts there
abbrev pub written : ℕ → List (ℕ × ℕ) → List (ℕ × ℕ)
written value bs = map (λ (b : ℕ × ℕ). (b.1, byte value b.0)) bs
