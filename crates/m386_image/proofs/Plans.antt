-- Entries of the plan, one after the other.
use Rattle.std.proofs.Common.{◌≡◌, ℕ, zero, suc, ◌+◌, ◌-◌, ◌*◌, ◌^◌, ◌<◌, List, [], ◌∷◌, ◌++◌, length, drop, refl, sym, ap, ◌∙◌, append_assoc, arith, nat_le, nat_lt, ◌&&◌}
use Rattle.std.specs.List.{flat_map, AllByRecursion}
use Rattle.std.proofs.lemmas.List.{length-append}
use Rattle.m386_image.specs.declared.image.Planned.{Planned}
use Rattle.m386_image.specs.Format.{AreBytes, u32_at, u32_bytes, entry_at, entries, entry_text, place_in_order, are_ordered}
use Rattle.m386_image.proofs.Numbers.{AreBytes-drop, u32_at_lt, u32_at-bytes}

pub entries_next : (n : ℕ) (bytes : List ℕ) → 0 < n → entries n bytes ≡ entry_at bytes ∷ entries (n - 1) (drop 8 bytes)
unfolding entries
entries_next zero bytes h = absurd (omega arith)
entries_next (suc n) bytes h = let e : suc n - 1 ≡ n = omega arith in rw e refl

pub ordered_next : (cpus place : ℕ) (e : Planned) (es : List Planned) → are_ordered cpus place (e ∷ es) ≡ (nat_lt e.cpu cpus && (nat_le place (place_in_order e) && are_ordered cpus (place_in_order e + 1) es))
unfolding are_ordered
ordered_next cpus place e es = refl

-- one more entry behind those that were read
pub entries_more : (n m : ℕ) (bytes : List ℕ) (done : List Planned) → n ≡ m + 1 → done ++ entries n bytes ≡ (done ++ entry_at bytes ∷ []) ++ entries m (drop 8 bytes)
unfolding entries
entries_more zero m bytes done e = absurd (omega arith)
entries_more (suc n) m bytes done e = let k : n ≡ m = omega arith in rw k (sym (append_assoc done (entry_at bytes ∷ []) (entries m (drop 8 bytes))))

pub length-entries : (n : ℕ) (bytes : List ℕ) → length (entries n bytes) ≡ n
unfolding entries
length-entries zero bytes = refl
length-entries (suc n) bytes = ap suc (length-entries n (drop 8 bytes))

-- the steps of entries have four bytes
abbrev pub StepsFit : List Planned → Type 0
StepsFit es = AllByRecursion (λ (e : Planned). e.step < 2 ^ 32) es

pub entries_fit : (n : ℕ) (bytes : List ℕ) → AreBytes bytes → StepsFit (entries n bytes)
unfolding entries
entries_fit zero bytes h = tt
entries_fit (suc n) bytes h = (u32_at_lt 0 bytes h, entries_fit n (drop 8 bytes) (AreBytes-drop 8 bytes h))

pub length-plan_text : (es : List Planned) → length (flat_map entry_text es) ≡ 8 * length es
unfolding u32_bytes
length-plan_text [] = refl
length-plan_text (e ∷ es) = omega (arith, length-append (entry_text e) (flat_map entry_text es), length-plan_text es)

one_entry : (e : Planned) (rest : List ℕ) → e.step < 2 ^ 32 → entry_at (entry_text e ++ rest) ≡ e
unfolding u32_bytes
one_entry e rest h =
    let s : u32_at 0 (entry_text e ++ rest) ≡ e.step = u32_at-bytes e.step _ h in
    λ t. record { step = s t; cpu = e.cpu; vector = e.vector }

behind_entry : (e : Planned) (rest : List ℕ) → drop 8 (entry_text e ++ rest) ≡ rest
unfolding u32_bytes
behind_entry e rest = refl

-- the entries that stand in their own text
pub entries-plan_text : (es : List Planned) (rest : List ℕ) → StepsFit es → entries (length es) (flat_map entry_text es ++ rest) ≡ es
unfolding entries
entries-plan_text [] rest h = refl
entries-plan_text (e ∷ es) rest h =
    let all = flat_map entry_text es ++ rest in
    let text : flat_map entry_text (e ∷ es) ++ rest ≡ entry_text e ++ all = append_assoc (entry_text e) (flat_map entry_text es) rest in
    let first : entry_at (entry_text e ++ all) ≡ e = one_entry e all h.0 in
    let others : entries (length es) (drop 8 (entry_text e ++ all)) ≡ es = ap (entries (length es)) (behind_entry e all) ∙ entries-plan_text es rest h.1 in
    ap (λ (bytes : List ℕ). entry_at bytes ∷ entries (length es) (drop 8 bytes)) text ∙ (λ t. first t ∷ others t)
