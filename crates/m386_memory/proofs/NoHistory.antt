use Rattle.std.proofs.Common.{ℕ, ◌≡◌, ◌<◌, Bool, true, false, refl, [], ◌∷◌, length, arith, sym, true≢false}
use Rattle.std.proofs.lemmas.Option.{same_Some}
use Rattle.m386_base.specs.declared.ask.Cycle.{Cycle}
use Rattle.m386_base.specs.declared.ask.Space.{Space}
use Rattle.m386_base.specs.declared.ask.Space.TheVariants.{Memory, Port}
use Rattle.m386_base.specs.Bytes.{bytes_of}
use Rattle.m386_base.specs.Bus.{IsAsk}
use Rattle.m386_memory.specs.Contents.{Contents, space_in, Stand}
use Rattle.m386_memory.specs.History.{byte_after, Consistent, Unsplit, WellFormed}
use Rattle.m386_memory.specs.NoHistory.{at_8, IsSplit, IsOtherRead, IsLastRead}

pub split_by_another : (first : Contents) (x y : Cycle) → IsSplit first x y
unfolding Unsplit
split_by_another first x y joined other h = other (same_Some _ _ (h.unsplit.0 joined))

pub other_read : (first : Contents) (s : Space) (p q : ℕ) → IsOtherRead first s p q
unfolding Consistent byte_after bytes_of Stand
other_read first Memory p q inside h = let e = (h.consistent.0 refl).0 in grind arith
other_read first Port p q inside h = let e = (h.consistent.0 refl).0 in grind arith

asked : (s : Space) (p : ℕ) (write : Bool) → IsAsk (at_8 p s write 5).ask
asked Memory p write = record { aligned = refl; inside = tt; some = grind arith; group = grind arith; part = grind arith; value = refl }
asked Port p write = record { aligned = refl; inside = grind arith; some = grind arith; group = grind arith; part = grind arith; value = refl }

stands : (first : Contents) (s : Space) (p q : ℕ) → 8 < length (space_in first s) → byte_after first (at_8 p s true 5 ∷ []) s 8 ≡ 5
unfolding byte_after bytes_of
stands first Memory p q inside = grind arith
stands first Port p q inside = grind arith

pub last_read : (first : Contents) (s : Space) (p q : ℕ) → IsLastRead first s p q
unfolding Consistent bytes_of Stand Unsplit WellFormed
last_read first s p q inside = record {
  formed = (asked s q false, (asked s p true, tt));
  consistent = ((λ r. (stands first s p q inside, tt)), ((λ r. absurd (true≢false r)), tt));
  unsplit = ((λ r. absurd (true≢false (sym r))), ((λ r. absurd (true≢false (sym r))), tt));
}
