-- What the code's names know.
use Rattle.std.specs.Prelude.{ℕ, ◌≡◌, List, map, Option, Some, is_some, if◌then◌else◌}
use Rattle.std.specs.Option.{option_map}
use Rattle.std.specs.Borrow.{Bor}
use Rattle.std.specs.BTreeMap.{get_by}
use Rattle.std.specs.Ordering.{nat_cmp}
use Rattle.std.specs.Cmp.Lexicographic.{slice_cmp}
use Rattle.m386_words.specs.Words.{same_word}
use Rattle.m386_asm.specs.declared.named.Named.{Named}
use Rattle.m386_asm.specs.declared.value.Names.{Names as SeenNames}
use Rattle.m386_asm.specs.Layout.{Names, named}

-- what the code has for a name
abbrev pub found : SeenNames → List ℕ → Option Named
found names w = get_by (λ (k : Bor (List ℕ)). slice_cmp nat_cmp w k.now) names.map

-- what is found where a name is given to what a line defines, unless an earlier line did
abbrev pub first_kept : Option Named → List ℕ → Named → List ℕ → Option Named
first_kept old word n w = if is_some old then old else if same_word word w then Some n else old

-- the values of the code's names, in their order
abbrev pub own_names : SeenNames → Names
own_names names = map (λ (e : Bor (List ℕ) × Named). (e.0.now, e.1.value)) names.map.entries

-- The code's names have the values of these.
abbrev pub Knows : SeenNames → Names → Type 0
Knows names ns = (w : List ℕ) → option_map (λ (n : Named). n.value) (found names w) ≡ named ns w
