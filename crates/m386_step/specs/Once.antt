-- That no aligned group is fetched twice, said of a phrase, whatever is answered, and of cycles.
use Rattle.std.specs.Prelude.{◌≡◌, ℕ, ◌==◌, eqb, Bool, true, List, ◌∷◌, map, if◌then◌else◌}
use Rattle.std.specs.List.{Contains, IsDistinct, filter}
use Rattle.m386_base.specs.declared.ask.Ask.{Ask}
use Rattle.m386_base.specs.declared.ask.Role.TheVariants.{Fetch}
use Rattle.m386_base.specs.Laws.{Obeys}
use Rattle.m386_base.specs.Phrase.{Phrase, role_number}

-- a cycle that fetches code
abbrev pub is_fetch : Ask → Bool
is_fetch t = role_number t.role == role_number Fetch

-- these groups were fetched before, and a cycle fetches none of them
abbrev pub IsAnew : List ℕ → Ask → Type 0
IsAnew groups t = is_fetch t ≡ true → ¬ (Contains groups t.addr)

-- the groups that were fetched up to a cycle, the last one first
abbrev pub with_fetched : List ℕ → Ask → List ℕ
with_fetched groups t = if is_fetch t then t.addr ∷ groups else groups

-- Where these groups were fetched before, each way through a phrase fetches none of them, and none twice.
-- Own choice: docs/DECISIONS.md, "Fetches"
unfoldable pub FetchesOnce : {A : Type 0} → List ℕ → Phrase A → Type 0
FetchesOnce groups t = Obeys IsAnew with_fetched (λ later a. Unit {0}) (λ later f. Unit {0}) groups t

-- the groups that cycles fetch, in their order
abbrev pub groups_fetched : List Ask → List ℕ
groups_fetched ts = map (λ (t : Ask). t.addr) (filter is_fetch ts)

-- no two of these cycles fetch one group
-- Own choice: docs/DECISIONS.md, "Fetches"
abbrev pub FetchesDiffer : List Ask → Type 0
FetchesDiffer ts = IsDistinct eqb (groups_fetched ts)
