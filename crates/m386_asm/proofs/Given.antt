-- A header is among others, or the new one.
use Rattle.std.proofs.Common.{◌≡◌, ℕ, ◌==◌, Bool, true, false, ◌&&◌, ◌||◌, not, cond, refl, sym, ◌∙◌, ap}
use Rattle.std.specs.Prelude.{Option, Some, None, int_lt, ℤ}
use Rattle.std.specs.BTreeSet.{BTreeSet, contains, Updates}
use Rattle.std.specs.Cmp.{unsigned_tied}
use Rattle.std.specs.declared.cmp.Ordering.{Ordering}
use Rattle.std.specs.declared.cmp.Ordering.TheVariants.{Less, Equal, Greater}
use Rattle.std.specs.Ordering.{is_eq, nat_cmp, int_cmp, ordering_then}
use Rattle.m386_lines.specs.Lines.{Statement}
use Rattle.m386_asm.specs.Layout.{Names, header, same_header}
use Rattle.m386_asm.specs.Walks.{header_cmp, is_given}

tied : (x y : Ordering) → is_eq (ordering_then x y) ≡ (is_eq x && is_eq y)
tied Less y = refl
tied Equal y = refl
tied Greater y = refl

by_tests : (p q : Bool) → is_eq (cond p Less (cond q Greater Equal)) ≡ (not p && not q)
by_tests true q = refl
by_tests false true = refl
by_tests false false = refl

same_key : (a b : ℕ × ℤ) → is_eq (header_cmp a b) ≡ same_header (Some a) (Some b)
same_key a b = tied (nat_cmp a.0 b.0) (int_cmp a.1 b.1) ∙ ap (λ x. x && is_eq (int_cmp a.1 b.1)) (unsigned_tied a.0 b.0) ∙ ap (λ x. (a.0 == b.0) && x) (by_tests (int_lt a.1 b.1) (int_lt b.1 a.1))

given : (ns : Names) (hs : BTreeSet (ℕ × ℤ)) (s : Statement) (h : Option (ℕ × ℤ)) → h ≡ header ns s → is_given ns hs s ≡ elim h [ None ↦ false | Some k ↦ contains header_cmp hs k ]
given ns hs s h e = ap (λ x. elim x [ None ↦ false | Some k ↦ contains header_cmp hs k ]) (sym e)

pub is_there : (ns : Names) (hs : BTreeSet (ℕ × ℤ)) (s : Statement) (k : ℕ × ℤ) (new : Bool) → Some k ≡ header ns s → new ≡ not (contains header_cmp hs k) → not new ≡ is_given ns hs s
is_there ns hs s k new e h = ap not h ∙ twice (contains header_cmp hs k) ∙ sym (given ns hs s (Some k) e)
  where
    twice : (b : Bool) → not (not b) ≡ b
    twice true = refl
    twice false = refl

pub is_none : (ns : Names) (hs : BTreeSet (ℕ × ℤ)) (s : Statement) → None ≡ header ns s → false ≡ is_given ns hs s
is_none ns hs s e = sym (given ns hs s None e)

or_true : (b c : Bool) → cond c true b ≡ (b || c)
or_true true true = refl
or_true true false = refl
or_true false true = refl
or_true false false = refl

-- what is given behind a new header, by the other's
abbrev behind : BTreeSet (ℕ × ℤ) → Option (ℕ × ℤ) → Option (ℕ × ℤ) → Bool
behind old h other = elim other [ None ↦ false | Some q ↦ contains header_cmp old q ] || same_header h other

by_other : (old new : BTreeSet (ℕ × ℤ)) (k : ℕ × ℤ) (o : Option (ℕ × ℤ)) → Updates header_cmp old new k true → elim o [ None ↦ false | Some q ↦ contains header_cmp new q ] ≡ behind old (Some k) o
by_other old new k None u = refl
by_other old new k (Some q) u = u.0 q ∙ ap (λ c. cond c true (contains header_cmp old q)) (same_key k q) ∙ or_true (contains header_cmp old q) (same_header (Some k) (Some q))

pub is_added : (ns : Names) (old new : BTreeSet (ℕ × ℤ)) (s t : Statement) (k : ℕ × ℤ) → Some k ≡ header ns s → Updates header_cmp old new k true → is_given ns new t ≡ (is_given ns old t || same_header (header ns s) (header ns t))
is_added ns old new s t k e u = by_other old new k (header ns t) u ∙ ap (λ h. behind old h (header ns t)) e

or_false : (b : Bool) → b ≡ (b || false)
or_false true = refl
or_false false = refl

pub none_added : (ns : Names) (hs : BTreeSet (ℕ × ℤ)) (s t : Statement) → None ≡ header ns s → is_given ns hs t ≡ (is_given ns hs t || same_header (header ns s) (header ns t))
none_added ns hs s t e = or_false (is_given ns hs t) ∙ ap (λ h. behind hs h (header ns t)) e

pub ruleset given_rules = (is_there, is_none, is_added, none_added)
