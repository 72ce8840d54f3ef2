-- What is proved of the image file beside the calls' own clauses.
use Rattle.std.specs.Prelude.{◌≡◌, List, ℕ}
use Rattle.m386_image.specs.declared.fault.ImageFault.{ImageFault}
use Rattle.m386_image.specs.declared.image.Image.{Image}
use Rattle.m386_image.specs.Fault.{Stands}
use Rattle.m386_image.specs.Format.{ImageOf}

-- Where no fault stands the bytes are one image and no other.
abbrev pub IsOneImage : List ℕ → Type 0
IsOneImage bytes = ((f : ImageFault) → ¬ Stands bytes f) → (image : Image) × ImageOf bytes image × ((other : Image) → ImageOf bytes other → other ≡ image)

-- Where a fault stands the bytes are no image.
abbrev pub IsNoImage : List ℕ → Type 0
IsNoImage bytes = (f : ImageFault) → Stands bytes f → (image : Image) → ¬ ImageOf bytes image
