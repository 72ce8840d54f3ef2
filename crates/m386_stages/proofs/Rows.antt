-- The rows of the segment registers, in the order of the reads: where they hold, the descriptor is one of a segment.
use Rattle.std.proofs.Common.{◌≡◌, ◌≢◌, ℕ, ◌/◌, ◌%◌, ◌^◌, ◌<◌, ◌==◌, ◌∙◌, refl, sym, ap, subst, List, [], ◌∷◌, ◌++◌, Bool, true, false, if◌then◌else◌, not, ◌||◌, Option, Some, None, eqb, eq-eqb, slice_index_or}
use Rattle.std.specs.List.{AllByRecursion}
use Rattle.m386_base.specs.declared.desc.Desc.{Desc}
use Rattle.m386_base.proofs.Finite.{all_below, each_below}
use Rattle.m386_checks.specs.declared.facts.Facts.{Facts}
use Rattle.m386_checks.specs.declared.facts.Fail.{Fail}
use Rattle.m386_checks.specs.declared.facts.Context.TheVariants.{Old, New}
use Rattle.m386_checks.specs.declared.table.Raises.TheVariants as raises
use Rattle.m386_checks.specs.declared.table.Check.{Check}
use Rattle.m386_checks.specs.declared.table.Subject.TheVariants as names
use Rattle.m386_checks.specs.declared.table.Test.TheVariants as tests
use Rattle.m386_checks.specs.First.{first_fail_of, first_false, for_segments}
use Rattle.m386_checks.specs.Holds.{test_holds, selector_at, descriptor_at}
use Rattle.m386_checks.specs.Table.{fail_of, row}
use Rattle.m386_checks.proofs.Order.{first_now, first_later}
use Rattle.m386_desc.specs.Access.{kind_of, is_code_kind, is_code_32, is_readable, is_writable}
use Rattle.m386_desc.specs.Kind.{is_readable_kind, is_writable_kind}
use Rattle.m386_desc.specs.Selector.{is_null_selector}
use Rattle.m386_switch.specs.Later.{stops_at, stops_at_ldt, segment_order}
use Rattle.m386_stages.proofs.Claimed.{holds_first, kind_by, and-l, and-r, same_number}
use Rattle.m386_checks.specs.Descriptor.{given}
use Rattle.m386_access.specs.Ordinary.{IsSegmentByte}

-- the rows of one segment register
abbrev pub block : ℕ → List (Check × ℕ)
block s =
    if s == 1 then (row 10 tests.CsCode raises.Ts names.Cs New, 0) ∷ (row 11 tests.CsPrivilege raises.Ts names.Cs New, 0) ∷ (row 12 tests.CsPresent raises.Np names.Cs New, 0) ∷ []
    else if s == 2 then (row 13 tests.SsWritable raises.Ts names.Ss New, 0) ∷ (row 14 tests.SsPrivilege raises.Ts names.Ss New, 0) ∷ (row 15 tests.SsPresent raises.Ss names.Ss New, 0) ∷ []
    else (row 16 tests.DataReadable raises.Ts names.Data New, s) ∷ (row 17 tests.DataPrivilege raises.Ts names.Data New, s) ∷ (row 18 tests.DataPresent raises.Np names.Data New, s) ∷ []

-- the rows of these registers, and the last row
unfoldable pub blocks : List ℕ → List (Check × ℕ)
blocks [] = (row 19 tests.EipInLimit raises.Gp names.Nothing New, 0) ∷ []
blocks (s ∷ segs) = block s ++ blocks segs

-- the rows before them
abbrev early : List (Check × ℕ)
early =
    (row 1 tests.TrUsable raises.Gp names.Nothing Old, 0) ∷ (row 2 tests.TssInGdt raises.ByKind names.Tss Old, 0) ∷ (row 3 tests.TssOf386 raises.ByKind names.Tss Old, 0)
    ∷ (row 4 tests.TssPrivilege raises.ByKind names.Tss Old, 0) ∷ (row 5 tests.TssState raises.ByKind names.Tss Old, 0) ∷ (row 6 tests.TssPresent raises.Np names.Tss Old, 0)
    ∷ (row 7 tests.TssLimit raises.Ts names.Tss Old, 0) ∷ (row 8 tests.LdtInGdt raises.Ts names.Ldt New, 0) ∷ (row 9 tests.LdtPresent raises.Ts names.Ldt New, 0) ∷ []

all_rows : (f : Facts) → first_fail_of f ≡ first_false f (early ++ blocks segment_order)
unfolding first_fail_of blocks for_segments
all_rows f = refl

-- what is true of each fail that rows may give is true of the first
each_fail : (P : Fail → Type 0) (f : Facts) (cs : List (Check × ℕ)) (x : Fail) → AllByRecursion (λ (c : Check × ℕ). P (fail_of f c.0 c.1)) cs → first_false f cs ≡ Some x → P x
unfolding first_false
each_fail P f [] x h e = absurd cc
each_fail P f (c ∷ cs) x h e = go (test_holds c.0.test f c.1) refl (each_fail P f cs x h.1)
  where
    go : (b : Bool) → test_holds c.0.test f c.1 ≡ b → (first_false f cs ≡ Some x → P x) → P x
    go true q ih = ih (rw q at e)
    go false q ih = let d : Some (fail_of f c.0 c.1) ≡ Some x = rw q at e in let i : fail_of f c.0 c.1 ≡ x = cc in subst P i h.0

abbrev data_rows : ℕ → List (Check × ℕ)
data_rows s = (row 16 tests.DataReadable raises.Ts names.Data New, s) ∷ (row 17 tests.DataPrivilege raises.Ts names.Data New, s) ∷ (row 18 tests.DataPresent raises.Np names.Data New, s) ∷ []

stops : ℕ → Fail → Type 0
stops s x = stops_at s (Some x) ≡ true

block_fails : (f : Facts) (s : ℕ) (x : Fail) → first_false f (block s) ≡ Some x → stops_at s (Some x) ≡ true
unfolding stops
block_fails f s x h = go (s == 1) refl (s == 2) refl
  where
    go : (b : Bool) → (s == 1) ≡ b → (c : Bool) → (s == 2) ≡ c → stops_at s (Some x) ≡ true
    go true e c q = let i : s ≡ 1 = same_number s 1 e in let k : first_false f (block 1) ≡ Some x = subst (λ n. first_false f (block n) ≡ Some x) i h in subst (λ n. stops_at n (Some x) ≡ true) (sym i) (each_fail (stops 1) f (block 1) x (refl, (refl, (refl, tt))) k)
    go false e true q = let i : s ≡ 2 = same_number s 2 q in let k : first_false f (block 2) ≡ Some x = subst (λ n. first_false f (block n) ≡ Some x) i h in subst (λ n. stops_at n (Some x) ≡ true) (sym i) (each_fail (stops 2) f (block 2) x (refl, (refl, (refl, tt))) k)
    go false e false q =
        let k : eqb s s ≡ true = eq-eqb s s refl in
        let m : first_false f (data_rows s) ≡ Some x = rw (e, q) at h in
        each_fail (stops s) f (data_rows s) x (rw k refl, (rw k refl, (rw k refl, tt))) m

rows_of_cs : (f : Facts) (ds : List (Option Desc)) → slice_index_or ds 1 None ≡ descriptor_at f 1 → first_false (record f { seg_descs = ds }) (block 1) ≡ first_false f (block 1)
unfolding first_false test_holds
rows_of_cs f ds h = rw h refl

rows_of_ss : (f : Facts) (ds : List (Option Desc)) → slice_index_or ds 2 None ≡ descriptor_at f 2 → first_false (record f { seg_descs = ds }) (block 2) ≡ first_false f (block 2)
unfolding first_false test_holds
rows_of_ss f ds h = rw h refl

rows_of_data : (f : Facts) (ds : List (Option Desc)) (s : ℕ) → slice_index_or ds s None ≡ descriptor_at f s → first_false (record f { seg_descs = ds }) (data_rows s) ≡ first_false f (data_rows s)
unfolding first_false test_holds
rows_of_data f ds s h = rw h refl

-- the rows of a register look at its own descriptor alone
block_same : (f : Facts) (ds : List (Option Desc)) (s : ℕ) → slice_index_or ds s None ≡ descriptor_at f s → first_false (record f { seg_descs = ds }) (block s) ≡ first_false f (block s)
block_same f ds s h = go (s == 1) refl (s == 2) refl
  where
    go : (b : Bool) → (s == 1) ≡ b → (c : Bool) → (s == 2) ≡ c → first_false (record f { seg_descs = ds }) (block s) ≡ first_false f (block s)
    go true e c q = let i : s ≡ 1 = same_number s 1 e in rw i (rows_of_cs f ds (rw i at h))
    go false e true q = let i : s ≡ 2 = same_number s 2 q in rw i (rows_of_ss f ds (rw i at h))
    go false e false q = rw (e, q) (rows_of_data f ds s h)

-- a register that isn't among these
abbrev pub NotIn : ℕ → List ℕ → Type 0
NotIn s [] = Unit {0}
NotIn s (x ∷ xs) = (s ≢ x) × NotIn s xs

-- all rows before those of these registers hold, and go on to hold while the descriptors of the registers before stay
unfoldable pub Held : Facts → List ℕ → Type 0
Held f segs = (ds : List (Option Desc)) → ((s : ℕ) → NotIn s segs → slice_index_or ds s None ≡ descriptor_at f s) → first_fail_of (record f { seg_descs = ds }) ≡ first_false (record f { seg_descs = ds }) (blocks segs)

low_rows : (f : Facts) (x : Fail) → first_false f early ≡ Some x → stops_at_ldt (Some x) ≡ true
low_rows f x h = each_fail (λ y. stops_at_ldt (Some y) ≡ true) f early x (refl, (refl, (refl, (refl, (refl, (refl, (refl, (refl, (refl, tt))))))))) h

same_early : (f : Facts) (ds : List (Option Desc)) → first_false (record f { seg_descs = ds }) early ≡ first_false f early
unfolding first_false test_holds
same_early f ds = refl

pub held_first : (f : Facts) → stops_at_ldt (first_fail_of f) ≡ false → Held f segment_order
unfolding Held
held_first f h = λ ds a. all_rows (record f { seg_descs = ds }) ∙ first_later (record f { seg_descs = ds }) early (blocks segment_order) (same_early f ds ∙ go (first_false f early) refl)
  where
    go : (o : Option Fail) → first_false f early ≡ o → first_false f early ≡ None
    go None e = e
    go (Some x) e = let k : first_fail_of f ≡ Some x = all_rows f ∙ first_now f early (blocks segment_order) x e in let c : true ≡ false = sym (low_rows f x e) ∙ ap stops_at_ldt (sym k) ∙ h in absurd cc

-- where the work isn't stopped at a register, its rows hold
pub rows_hold : (f : Facts) (s : ℕ) (segs : List ℕ) → first_fail_of f ≡ first_false f (blocks (s ∷ segs)) → stops_at s (first_fail_of f) ≡ false → first_false f (block s) ≡ None
unfolding blocks
rows_hold f s segs h n = go (first_false f (block s)) refl
  where
    go : (o : Option Fail) → first_false f (block s) ≡ o → first_false f (block s) ≡ None
    go None e = e
    go (Some x) e = let k : first_fail_of f ≡ Some x = h ∙ first_now f (block s) (blocks segs) x e in let c : true ≡ false = sym (block_fails f s x e) ∙ ap (stops_at s) (sym k) ∙ n in absurd cc

-- a register's descriptor is there or isn't, and its rows hold
pub held_next : (f f2 : Facts) (s : ℕ) (segs : List ℕ) → NotIn s segs → f2 ≡ record f { seg_descs = f2.seg_descs } → ((x : ℕ) → x ≢ s → descriptor_at f2 x ≡ descriptor_at f x) → stops_at s (first_fail_of f2) ≡ false → Held f (s ∷ segs) → Held f2 segs
unfolding Held blocks
held_next f f2 s segs out e same n h = λ ds a.
    let g : Facts = record f { seg_descs = ds } in
    let h2 : first_fail_of f2 ≡ first_false f2 (blocks (s ∷ segs)) = subst (λ z. first_fail_of z ≡ first_false z (blocks (s ∷ segs))) (sym e) (h f2.seg_descs (λ x o. same x o.0)) in
    let b : first_false f2 (block s) ≡ None = rows_hold f2 s segs h2 n in
    let g2 : record f2 { seg_descs = ds } ≡ g = ap (λ (z : Facts). record z { seg_descs = ds }) e in
    let bg : first_false (record f2 { seg_descs = ds }) (block s) ≡ None = block_same f2 ds s (a s out) ∙ b in
    let all : first_fail_of g ≡ first_false g (block s ++ blocks segs) = h ds (λ x o. a x o.1 ∙ same x o.0) in
    subst (λ z. first_fail_of z ≡ first_false z (blocks segs)) (sym g2) (all ∙ first_later g (block s) (blocks segs) (subst (λ z. first_false z (block s) ≡ None) g2 bg))

segment : ℕ → Bool
segment b = not (is_code_kind (kind_by b) || (is_readable_kind (kind_by b) || is_writable_kind (kind_by b))) || eqb (b / 2 ^ 4 % 2) 1

all_segment : (b : ℕ) → b < 256 → segment b ≡ true
unfolding all_below segment is_readable_kind is_writable_kind
all_segment b l = each_below 256 segment refl b l

or-1 : (a b c d : Bool) → not (a || (b || c)) || d ≡ true → a ≡ true → d ≡ true
or-1 true b c d h e = h
or-1 false b c d h e = absurd cc

or-2 : (a b c d : Bool) → not (a || (b || c)) || d ≡ true → b ≡ true → d ≡ true
or-2 true b c d h e = h
or-2 false true c d h e = h
or-2 false false c d h e = absurd cc

or-3 : (a b c d : Bool) → not (a || (b || c)) || d ≡ true → c ≡ true → d ≡ true
or-3 true b c d h e = h
or-3 false true c d h e = h
or-3 false false true d h e = h
or-3 false false false d h e = absurd cc

code_byte : (d : Desc) → d.access < 256 → is_code_32 d ≡ true → IsSegmentByte d.access
unfolding segment kind_of is_code_32
code_byte d l h = same_number _ _ (or-1 (is_code_kind (kind_by d.access)) (is_readable_kind (kind_by d.access)) (is_writable_kind (kind_by d.access)) (eqb (d.access / 2 ^ 4 % 2) 1) (all_segment d.access l) (and-l _ _ h))

read_byte : (d : Desc) → d.access < 256 → is_readable d ≡ true → IsSegmentByte d.access
unfolding segment kind_of
read_byte d l h = same_number _ _ (or-2 (is_code_kind (kind_by d.access)) (is_readable_kind (kind_by d.access)) (is_writable_kind (kind_by d.access)) (eqb (d.access / 2 ^ 4 % 2) 1) (all_segment d.access l) h)

write_byte : (d : Desc) → d.access < 256 → is_writable d ≡ true → IsSegmentByte d.access
unfolding segment kind_of
write_byte d l h = same_number _ _ (or-3 (is_code_kind (kind_by d.access)) (is_readable_kind (kind_by d.access)) (is_writable_kind (kind_by d.access)) (eqb (d.access / 2 ^ 4 % 2) 1) (all_segment d.access l) h)

given_some : (o : Option Desc) (d : Desc) (t : Desc → Bool) → o ≡ Some d → given o t ≡ true → t d ≡ true
given_some o d t e h = let k : given (Some d) t ≡ true = subst (λ z. given z t ≡ true) e h in k

or-left : (a b : Bool) → a || b ≡ true → a ≡ false → b ≡ true
or-left true b h e = absurd cc
or-left false b h e = h

-- Where the rows of a register hold of a descriptor, it is one of a segment.
pub segment_read : (f : Facts) (s : ℕ) (d : Desc) → descriptor_at f s ≡ Some d → d.access < 256 → is_null_selector (selector_at f s) ≡ false → first_false f (block s) ≡ None → IsSegmentByte d.access
unfolding test_holds
segment_read f s d e l z h = go (s == 1) refl (s == 2) refl
  where
    go : (b : Bool) → (s == 1) ≡ b → (c : Bool) → (s == 2) ≡ c → IsSegmentByte d.access
    go true p c q =
        let i : s ≡ 1 = same_number s 1 p in
        let k : first_false f (block 1) ≡ None = subst (λ n. first_false f (block n) ≡ None) i h in
        let e1 : descriptor_at f 1 ≡ Some d = subst (λ n. descriptor_at f n ≡ Some d) i e in
        let r = holds_first f _ _ k in
        code_byte d l (given_some (descriptor_at f 1) d is_code_32 e1 (and-r (not (is_null_selector (selector_at f 1))) _ r.0))
    go false p true q =
        let i : s ≡ 2 = same_number s 2 q in
        let k : first_false f (block 2) ≡ None = subst (λ n. first_false f (block n) ≡ None) i h in
        let e1 : descriptor_at f 2 ≡ Some d = subst (λ n. descriptor_at f n ≡ Some d) i e in
        let r = holds_first f _ _ k in
        write_byte d l (given_some (descriptor_at f 2) d is_writable e1 (and-r (not (is_null_selector (selector_at f 2))) _ r.0))
    go false p false q =
        let k : first_false f (data_rows s) ≡ None = rw (p, q) at h in
        let r = holds_first f _ _ k in
        read_byte d l (given_some (descriptor_at f s) d is_readable e (or-left (is_null_selector (selector_at f s)) _ r.0 z))
