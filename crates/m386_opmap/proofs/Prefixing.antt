-- What prefixes say, one after another and all together.
use Rattle.std.specs.Prelude.{◌==◌}
use Rattle.std.proofs.Common.{◌≡◌, ℕ, ◌+◌, List, [], ◌∷◌, ◌++◌, length, refl, sym, ◌∙◌, ap, Bool, true, false, ◌||◌, Option, Some, None, unwrap_or, arith, add-zero}
use Rattle.std.specs.List.{list_any, All}
use Rattle.std.proofs.lemmas.List.Elements.{All-head, All-tail}
use Rattle.m386_opmap.specs.declared.fields.Prefixes.{Prefixes}
use Rattle.m386_opmap.specs.declared.op.Rep.{Rep}
use Rattle.m386_opmap.specs.declared.row.Row.{Row}
use Rattle.m386_opmap.specs.Prefix.{is_prefix, with_prefix, no_prefixes, prefixes_of, later, last_of, segment_named, rep_named}
use Rattle.m386_opmap.specs.Readings.{prefixed_reading, reading_by}

-- what is said after these bytes
unfoldable pub said_after : Prefixes → List ℕ → Prefixes
said_after said [] = said
said_after said (b ∷ bs) = said_after (with_prefix said b) bs

prefixed_step : (rs : List Row) (said : Prefixes) (at b : ℕ) (bs : List ℕ) → is_prefix b ≡ true →
    prefixed_reading rs said at (b ∷ bs) ≡ prefixed_reading rs (with_prefix said b) (at + 1) bs
unfolding prefixed_reading
prefixed_step rs said at b bs h = rw h refl

-- a reader goes over prefixes
pub prefixed_walk : (rs : List Row) (said : Prefixes) (at end : ℕ) (ps bs : List ℕ) → All (λ p. is_prefix p ≡ true) ps → end ≡ at + length ps →
    prefixed_reading rs said at (ps ++ bs) ≡ prefixed_reading rs (said_after said ps) end bs
unfolding said_after
prefixed_walk rs said at end [] bs h e = rw (e ∙ add-zero at) refl
prefixed_walk rs said at end (p ∷ ps) bs h e =
    prefixed_step rs said at p (ps ++ bs) (All-head (λ p. is_prefix p ≡ true) p ps h)
    ∙ prefixed_walk rs (with_prefix said p) (at + 1) end ps bs (All-tail (λ p. is_prefix p ≡ true) p ps h) (omega (arith, e))

later_assoc : {X : Type 0} (a b c : Option X) → later (later a b) c ≡ later a (later b c)
later_assoc a b None = refl
later_assoc a b (Some x) = refl

or_assoc : (a b c : Bool) → (a || b) || c ≡ a || (b || c)
or_assoc true b c = refl
or_assoc false b c = refl

or_false : (a : Bool) → a || false ≡ a
or_false true = refl
or_false false = refl

unwrap_later : {X : Type 0} (a b : Option X) (d : X) → unwrap_or (later a b) d ≡ unwrap_or b (unwrap_or a d)
unwrap_later a None d = refl
unwrap_later a (Some x) d = refl

-- what is said, and then by these bytes
joined : Prefixes → List ℕ → Prefixes
joined said bs =
    record {
      seg = later said.seg (last_of segment_named bs);
      narrow = said.narrow || list_any (λ b. b == 0x66) bs;
      lock = said.lock || list_any (λ b. b == 0xf0) bs;
      rep = unwrap_or (last_of rep_named bs) said.rep;
    }

same_prefixes : (s s' : Option ℕ) (n n' l l' : Bool) (r r' : Rep) → s ≡ s' → n ≡ n' → l ≡ l' → r ≡ r' →
    ◌≡◌ {A = Prefixes} (record { seg = s; narrow = n; lock = l; rep = r }) (record { seg = s'; narrow = n'; lock = l'; rep = r' })
same_prefixes s s' n n' l l' r r' hs hn hl hr = rw (hs, hn, hl, hr) refl

joined-step : (said : Prefixes) (b : ℕ) (bs : List ℕ) → joined (with_prefix said b) bs ≡ joined said (b ∷ bs)
unfolding joined with_prefix
joined-step said b bs = same_prefixes _ _ _ _ _ _ _ _
    (later_assoc said.seg (segment_named b) (last_of segment_named bs))
    (or_assoc said.narrow (b == 0x66) (list_any (λ c. c == 0x66) bs))
    (or_assoc said.lock (b == 0xf0) (list_any (λ c. c == 0xf0) bs))
    (sym (unwrap_later (rep_named b) (last_of rep_named bs) said.rep))

joined-none : (said : Prefixes) → said ≡ joined said []
unfolding joined
joined-none said = same_prefixes _ _ _ _ _ _ _ _ refl (sym (or_false said.narrow)) (sym (or_false said.lock)) refl

said_after-joined : (said : Prefixes) (bs : List ℕ) → said_after said bs ≡ joined said bs
unfolding said_after
said_after-joined said [] = joined-none said
said_after-joined said (b ∷ bs) = said_after-joined (with_prefix said b) bs ∙ joined-step said b bs

later_none : {X : Type 0} (o : Option X) → later None o ≡ o
later_none None = refl
later_none (Some x) = refl

joined-prefixes : (bs : List ℕ) → joined no_prefixes bs ≡ prefixes_of bs
unfolding joined prefixes_of
joined-prefixes bs = same_prefixes _ _ _ _ _ _ _ _ (later_none (last_of segment_named bs)) refl refl refl

-- what is said after prefixes is what they say
pub said_after-none : (bs : List ℕ) → said_after no_prefixes bs ≡ prefixes_of bs
said_after-none bs = said_after-joined no_prefixes bs ∙ joined-prefixes bs

said_after-push : (said : Prefixes) (bs : List ℕ) (b : ℕ) → said_after said (bs ++ b ∷ []) ≡ with_prefix (said_after said bs) b
unfolding said_after
said_after-push said [] b = refl
said_after-push said (c ∷ bs) b = said_after-push (with_prefix said c) bs b

-- one more prefix
pub prefixes_of-push : (bs : List ℕ) (b : ℕ) → prefixes_of (bs ++ b ∷ []) ≡ with_prefix (prefixes_of bs) b
prefixes_of-push bs b =
    sym (said_after-none (bs ++ b ∷ [])) ∙ said_after-push no_prefixes bs b ∙ ap (λ s. with_prefix s b) (said_after-none bs)

-- what bytes behind prefixes read as
pub walk : (rs : List Row) (ps bs : List ℕ) → All (λ p. is_prefix p ≡ true) ps → reading_by rs (ps ++ bs) ≡ prefixed_reading rs (prefixes_of ps) (length ps) bs
unfolding reading_by
walk rs ps bs h =
    prefixed_walk rs no_prefixes 0 (length ps) ps bs h (omega arith) ∙ ap (λ s. prefixed_reading rs s (length ps) bs) (said_after-none ps)
