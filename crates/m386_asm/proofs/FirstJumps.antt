-- The shortest spelling in two bytes, or else the shortest in full, is the first spelling of a jump or a call to a target.
use Rattle.std.proofs.Common.{◌≡◌, ◌≢◌, ℕ, ◌+◌, ◌<◌, ◌≤◌, ◌⊎◌, inl, inr, Bool, true, false, List, [], ◌∷◌, map, length, refl, sym, arith, subst, ◌||◌}
use Rattle.std.specs.List.{list_any}
use Rattle.std.proofs.lemmas.Bool.{cases_Bool, cases_lt, both_ways}
use Rattle.m386_base.specs.declared.number.Width.{Width}
use Rattle.m386_base.specs.declared.number.Width.TheVariants.{W8, W16, W32}
use Rattle.m386_opmap.specs.declared.op.Op.{Op}
use Rattle.m386_opmap.specs.Spelling.{Spells}
use Rattle.m386_encode.specs.Order.{is_before}
use Rattle.m386_encode.specs.Shortest.{IsShortest}
use Rattle.m386_encode.specs.Wide.{IsWide, IsShortestWide}
use Rattle.m386_lines.specs.Instructions.{Argument, Fixed, Immediate, Target, Far, At, Instruction}
use Rattle.m386_asm.specs.Jumps.{is_distance, full_length, near, far, IsShort, HasNoShort, IsFull, HasNoFull}
use Rattle.m386_asm.specs.Layout.{Names, arg_at, is_target, has_target, is_named, op_at, IsSpelledBy, IsSpelling, IsFirstSpelling, IsOutOfReach}
use Rattle.m386_asm.proofs.Jumps.{full_long, bare_width, bare_length_is, bare_full, bare_least, bare_wide}

pub not_wide : (w : Width) → (w ≡ W8) ⊎ (w ≡ W16) → w ≢ W32
not_wide w (inl e) h = cc
not_wide w (inr e) h = cc

-- ---- the order

longer_after : (xs ys : List ℕ) → length ys < length xs → is_before xs ys ≡ false
unfolding is_before
longer_after xs ys h = grind (arith, h)

not_after : (xs ys : List ℕ) → is_before xs ys ≡ false → length ys ≤ length xs
unfolding is_before
not_after xs ys h = grind (arith, h)

-- ---- the operands

arg_reaches : (ns : Names) (end : ℕ) (a : Argument) → is_target a ≡ true → is_distance (arg_at ns end a) ≡ true
arg_reaches ns end (Fixed a) h = cc
arg_reaches ns end (Immediate w e) h = cc
arg_reaches ns end (Target e) h = refl
arg_reaches ns end (Far s o) h = cc
arg_reaches ns end (At p) h = cc

or_one : (a b c d : Bool) → (a ≡ true → c ≡ true) → (b ≡ true → d ≡ true) → a || b ≡ true → c || d ≡ true
or_one true b c d f g h = rw (f refl) refl
or_one false b true d f g h = refl
or_one false b false d f g h = g h

-- an operand that is a target is a distance
reaching : (ns : Names) (end : ℕ) (as_ : List Argument) → list_any is_target as_ ≡ true → list_any is_distance (map (arg_at ns end) as_) ≡ true
reaching ns end [] h = cc
reaching ns end (a ∷ as_) h = or_one (is_target a) (list_any is_target as_) (is_distance (arg_at ns end a)) (list_any is_distance (map (arg_at ns end) as_)) (arg_reaches ns end a) (reaching ns end as_) h

-- ---- a jump or a call of 32 bits

pub spells_by : (named : Bool) (op : Op) (bytes : List ℕ) → IsSpelledBy named op bytes → Spells op bytes
spells_by true op bytes s = s.spells
spells_by false op bytes s = s

pub wide_by : (named : Bool) (op : Op) (bytes : List ℕ) → named ≡ true → IsSpelledBy named op bytes → IsWide op bytes
wide_by true op bytes e s = s
wide_by false op bytes e s = cc

pub spelled_by : (named : Bool) (op : Op) (bytes : List ℕ) → IsWide op bytes → IsSpelledBy named op bytes
spelled_by true op bytes w = w
spelled_by false op bytes w = w.spells

pub unnamed_by : (named : Bool) (op : Op) (bytes : List ℕ) → named ≡ false → Spells op bytes → IsSpelledBy named op bytes
unnamed_by true op bytes e s = cc
unnamed_by false op bytes e s = s

module _ (ns : Names) (place : ℕ) (i : Instruction) (target : has_target i ≡ true) where
  reached : (end : ℕ) → list_any is_distance (op_at ns end i).args.items ≡ true
  reached end = reaching ns end i.args target

  abbrev At_ : ℕ → Op
  At_ n = op_at ns (place + n) i

  -- a spelling of two bytes, or a wide one in full
  data Way (bytes : List ℕ) : Type 0 where
    short : is_named i ≡ false → length bytes ≡ 2 → Spells (near ns place i) bytes → Way bytes
    full : length bytes ≡ full_length i.name → IsWide (far ns place i) bytes → Way bytes

  way : (bytes : List ℕ) → IsSpelling ns place i bytes → Way bytes
  way bytes s =
      let spells = spells_by (is_named i) (At_ (length bytes)) bytes s.spelled in
      let bare = s.bare target in
      let W : ℕ → Type 0 = λ n. IsWide (At_ n) bytes in
      let S : ℕ → Type 0 = λ n. Spells (At_ n) bytes in
      elim (cases_Bool (is_named i)) [
        | inl e ↦ (let wide = wide_by (is_named i) (At_ (length bytes)) bytes e s.spelled in
            let size = bare_full (At_ (length bytes)) bytes wide.spells (reached (place + length bytes)) bare wide.full in
            full size (subst W size wide))
        | inr e ↦ elim (bare_length_is (At_ (length bytes)) bytes spells (reached (place + length bytes)) bare) [
          | inl two ↦ short e two (subst S two spells)
          | inr is ↦ full is.0 (subst W is.0 is.1)
        ]
      ]

  -- a spelling that isn't of 32 bits has a prefix
  pub narrow_out : i.width ≢ W32 → IsOutOfReach ns place i
  narrow_out other bytes s = other (bare_width (At_ (length bytes)) bytes (spells_by (is_named i) (At_ (length bytes)) bytes s.spelled) (reached (place + length bytes)) (s.bare target))

  module _ (w : i.width ≡ W32) where
    -- two bytes come first
    pub short_first : (bytes : List ℕ) → IsShort ns place i bytes → IsFirstSpelling ns place i bytes
    short_first bytes s =
        let S : ℕ → Type 0 = λ n. Spells (At_ n) bytes in
        let after : (other : List ℕ) → Way other → is_before other bytes ≡ false = λ other t. elim t [
          | short e two spells ↦ s.shortest.first other spells
          | full size wide ↦ longer_or other size wide
        ] in
        record {
          spelling = record {
            spelled = unnamed_by (is_named i) (At_ (length bytes)) bytes s.unnamed (subst S (sym s.sized) s.shortest.spells);
            bare = λ t. (bare_least (near ns place i) bytes s.shortest.spells (reached (place + 2)) w (omega (arith, s.sized))).1;
          };
          first = λ other o. after other (way other o);
        }
      where
        longer_or : (other : List ℕ) → length other ≡ full_length i.name → IsWide (far ns place i) other → is_before other bytes ≡ false
        longer_or other size wide =
            elim (cases_lt 2 (full_length i.name)) [
              | inl l ↦ longer_after other bytes (omega (arith, l, size, s.sized))
              | inr g ↦ (let S : ℕ → Type 0 = λ n. Spells (At_ n) other in
                  let least = full_long i.name in
                  let two : full_length i.name ≡ 2 = omega (arith, g, least) in
                  s.shortest.first other (subst S two wide.spells))
            ]

    -- no spelling of two bytes, where none was found
    no_short : HasNoShort ns place i → is_named i ≡ false → (other : List ℕ) → length other ≡ 2 → Spells (near ns place i) other → ⊥
    no_short none e other two spells =
        let o = none.other e other spells in
        let few = not_after other o.bytes (o.shortest.first other spells) in
        o.sized (bare_least (near ns place i) o.bytes o.shortest.spells (reached (place + 2)) w (omega (arith, few, two))).0

    -- in full, where there are no two bytes
    pub full_first : (bytes : List ℕ) → HasNoShort ns place i → IsFull ns place i bytes → IsFirstSpelling ns place i bytes
    full_first bytes none s =
        let W : ℕ → Type 0 = λ n. IsWide (At_ n) bytes in
        let after : (other : List ℕ) → Way other → is_before other bytes ≡ false = λ other t. elim t [
          | short e two spells ↦ absurd (no_short none e other two spells)
          | full size wide ↦ s.shortest.first other wide
        ] in
        record {
          spelling = record {
            spelled = spelled_by (is_named i) (At_ (length bytes)) bytes (subst W (sym s.sized) s.shortest.wide);
            bare = λ t. (bare_wide (far ns place i) bytes s.shortest.wide.spells (reached (place + full_length i.name)) w s.shortest.wide.full (omega (arith, s.sized))).1;
          };
          first = λ other o. after other (way other o);
        }

    -- none at all
    pub none_out : HasNoShort ns place i → HasNoFull ns place i → IsOutOfReach ns place i
    none_out none nor other s =
        elim (way other s) [
          | short e two spells ↦ no_short none e other two spells
          | full size wide ↦ (let o = nor.other other wide.spells in
              let few = not_after other o.bytes (o.shortest.first other wide) in
              o.sized (bare_wide (far ns place i) o.bytes o.shortest.wide.spells (reached (place + full_length i.name)) w o.shortest.wide.full (omega (arith, few, size))).0)
        ]

-- ---- what an encoder's answers say

module _ (ns : Names) (place : ℕ) (i : Instruction) (op : Op) where
  pub short_found : op ≡ near ns place i → is_named i ≡ false → (bytes : List ℕ) → IsShortest op bytes → length bytes ≡ 2 → IsShort ns place i bytes
  short_found e named bytes s two = let P : Op → Type 0 = λ x. IsShortest x bytes in record { unnamed = named; shortest = subst P e s; sized = two }

  pub other_short : op ≡ near ns place i → (bytes : List ℕ) → IsShortest op bytes → length bytes ≢ 2 → HasNoShort ns place i
  other_short e bytes s not_two = let P : Op → Type 0 = λ x. IsShortest x bytes in record { other = λ named other t. record { bytes = bytes; shortest = subst P e s; sized = not_two } }

  pub none_short : op ≡ near ns place i → ((bytes : List ℕ) → Spells op bytes → ⊥) → HasNoShort ns place i
  none_short e none = let P : Op → Type 0 = λ x. (bytes : List ℕ) → Spells x bytes → ⊥ in record { other = λ named other t. absurd (subst P e none other t) }

  pub full_found : op ≡ far ns place i → (bytes : List ℕ) → IsShortestWide op bytes → length bytes ≡ full_length i.name → IsFull ns place i bytes
  full_found e bytes s size = let P : Op → Type 0 = λ x. IsShortestWide x bytes in record { shortest = subst P e s; sized = size }

  pub other_full : op ≡ far ns place i → (bytes : List ℕ) → IsShortestWide op bytes → length bytes ≢ full_length i.name → HasNoFull ns place i
  other_full e bytes s other_size = let P : Op → Type 0 = λ x. IsShortestWide x bytes in record { other = λ other t. record { bytes = bytes; shortest = subst P e s; sized = other_size } }

  pub none_full : op ≡ far ns place i → ((bytes : List ℕ) → Spells op bytes → ⊥) → HasNoFull ns place i
  none_full e none = let P : Op → Type 0 = λ x. (bytes : List ℕ) → Spells x bytes → ⊥ in record { other = λ other t. absurd (subst P e none other t) }

pub named_short : (ns : Names) (place : ℕ) (i : Instruction) → is_named i ≡ true → HasNoShort ns place i
named_short ns place i e = record { other = λ named other t. absurd (both_ways (is_named i) named e) }
