-- What the code keeps of the TSSs of an image.
use Rattle.std.specs.Prelude.{◌≡◌, ℕ, ◌+◌, ◌*◌, ◌/◌, ◌%◌, ◌^◌, ◌<◌, ◌≤◌, ◌==◌, ◌↔◌, ◌⊎◌, Bool, IsTrue, List, length, Option, Some, None, if◌then◌else◌, Contains}
use Rattle.std.specs.List.Sorted.{IsNonDecreasing}
use Rattle.m386_image.specs.declared.image.Image.{Image}
use Rattle.m386_book.specs.declared.segments.Tss.{Tss}
use Rattle.m386_book.specs.declared.segments.Segments.{Segments}
use Rattle.m386_book.specs.Tss.{IsTss, IsBusyTss, IsOfTss, tss_base, entry_byte, is_tss_access, base_from}

-- the TSS whose descriptor has this number among the bytes of a table, where it is one
abbrev pub tss_in : List ℕ → ℕ → Option Tss
tss_in table number =
    if is_tss_access (entry_byte table number 5) then
    Some (record { base = base_from (entry_byte table number 2) (entry_byte table number 3) (entry_byte table number 4) (entry_byte table number 7); busy = entry_byte table number 5 % 2 ^ 5 == 11 })
    else None

-- one of these segments has a place from low to last
abbrev pub Meets : List ℕ → ℕ → ℕ → Type 0
Meets bases low last = (base : ℕ) × Contains bases base × (base ≤ last) × (low < base + 104)

-- one of these segments ends behind a place
abbrev pub EndsBehind : List ℕ → ℕ → Type 0
EndsBehind bases place = (base : ℕ) × Contains bases base × (place < base + 104)

-- These are the TSSs with numbers below count: their bases, rising; whether two of them share a byte; whether one is busy.
pub record AreBelow (image : Image) (count : ℕ) (bases : List ℕ) (shared busy : Bool) : Type 0 where
  pub rises : IsNonDecreasing bases
  pub are : (base : ℕ) → Contains bases base → (number : ℕ) × (number < count) × IsTss image number × (tss_base image number ≡ base)
  pub all : (number : ℕ) → number < count → IsTss image number → Contains bases (tss_base image number)
  pub shared_is : IsTrue shared ↔ ((one other place : ℕ) × (one < other) × (other < count) × IsOfTss image one place × IsOfTss image other place)
  pub busy_is : IsTrue busy ↔ ((number : ℕ) × (number < count) × IsBusyTss image number)

-- these are the TSSs of an image
abbrev pub AreSegments : Image → Segments → Type 0
AreSegments image s = AreBelow image ((image.gdt.limit + 1) / 8) s.bases.items s.shared s.busy

-- one more segment among these, which rise
pub record IsAdded (bases : List ℕ) (base : ℕ) (new : List ℕ) : Type 0 where
  pub rises : IsNonDecreasing new
  pub are : (other : ℕ) → Contains new other → (base ≡ other) ⊎ Contains bases other
  pub old : (other : ℕ) → Contains bases other → Contains new other
  pub one : Contains new base
