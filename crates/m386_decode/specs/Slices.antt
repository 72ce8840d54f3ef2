-- What a source over listed bytes does.
use Rattle.std.specs.Prelude.{ℕ, ◌≡◌, List, [], ◌++◌}
use Rattle.std.proofs.Common.{append_assoc, ap, sym, ◌∙◌}
use Rattle.m386_base.specs.declared.fault.Break.{Break}
use Rattle.m386_base.specs.declared.fault.Break.TheVariants as breaks
use Rattle.m386_base.specs.declared.fault.Stop.TheVariants as stops

-- What it answers where no byte is left.
-- Own choice: docs/DECISIONS.md, "A source over listed bytes"
abbrev pub paused : Break
paused = breaks.Stop stops.Paused

-- It pauses where no byte is left.
-- Own choice: docs/DECISIONS.md, "A source over listed bytes"
abbrev pub SliceBroke : List ℕ → List ℕ → Break → Type 0
SliceBroke old new b = (old ≡ []) × (new ≡ []) × (b ≡ paused)

-- bytes from the front, and then further ones
pub slice_gave_more : (s t u bytes more : List ℕ) → s ≡ bytes ++ t → t ≡ more ++ u → s ≡ (bytes ++ more) ++ u
slice_gave_more s t u bytes more first then = first ∙ ap (λ rest. bytes ++ rest) then ∙ sym (append_assoc bytes more u)
