-- What reads and writes of TSS fields show.
use Rattle.std.proofs.Common.{◌≡◌, ℕ, ◌+◌, ◌-◌, ◌%◌, ◌<◌, Bool, true, false, List, [], ◌∷◌, ◌++◌, refl, sym, ◌∙◌, ap, subst, cond, eqb, ◌&&◌, ◌==◌, arith, bit_or, append_assoc, append-nil, nat_le, eq-eqb, map}
use Rattle.m386_base.specs.declared.ask.Ask.{Ask}
use Rattle.m386_base.specs.declared.ask.Role.{Role}
use Rattle.m386_base.specs.declared.ask.Role.TheVariants as roles
use Rattle.m386_base.specs.declared.ask.Space.TheVariants.{Memory}
use Rattle.m386_base.specs.declared.split.Piece.{Piece}
use Rattle.m386_base.specs.Split.{pieces, pieces_from, wrapped, ones_at, gather_of}
use Rattle.m386_base.specs.Phrase.{Phrase, ◌>>=◌}
use Rattle.m386_base.proofs.Finite.{all_below, each_below}
use Rattle.m386_tss.specs.Fields.{field_at}
use Rattle.m386_base.specs.Bus.{cycle_of}
use Rattle.m386_switch.specs.Fields.{field_ask, field_write_ask, field_pieces, field_reads, field_writes, field_phrase, field_write_phrase}
use Rattle.m386_switch.specs.Seen.{Seen, Part, nothing, note, more, at_number, bit_count}
use Rattle.m386_switch.specs.Ends.{field_written}
use Rattle.m386_switch.proofs.Shows.{Shows, shows_ask}

at_same : {A : Type 0} (h : ℕ → A) (n : ℕ) (a : A) → at_number h n a n ≡ a
at_same h n a = rw (eq-eqb n n refl) refl

twice : {A : Type 0} (b : Bool) (x y z : A) → cond b x (cond b y z) ≡ cond b x z
twice true x y z = refl
twice false x y z = refl

at_twice : {A : Type 0} (h : ℕ → A) (n : ℕ) (a b : A) → at_number (at_number h n a) n b ≡ at_number h n b
at_twice h n a b = λ i m. twice (m == n) b a (h m) i

-- the bytes of the groups of an access are counted right
counted : ℕ → ℕ → Bool
counted at len =
    cond (nat_le (at + len) 4) (bit_count (ones_at at len) == len)
    (bit_count (ones_at at (4 - at)) == 4 - at && bit_count (ones_at at (4 - at)) + bit_count (ones_at 0 (at + len - 4)) == len)

all_counted : (at len : ℕ) → at < 4 → len < 5 → counted at len ≡ true
unfolding all_below counted
all_counted at len h k = each_below 5 (counted at) (each_below 4 (λ a. all_below 5 (counted a)) refl at h) len k

and-l : (a b : Bool) → a && b ≡ true → a ≡ true
and-l true b h = refl
and-l false b h = h

and-r : (a b : Bool) → a && b ≡ true → b ≡ true
and-r true b h = h
and-r false b h = absurd cc

same-number : (a b : ℕ) → eqb a b ≡ true → a ≡ b
same-number a b k = grind (arith, k)

count_one : (at len : ℕ) → at < 4 → len < 5 → nat_le (at + len) 4 ≡ true → bit_count (ones_at at len) ≡ len
unfolding counted
count_one at len h k e = let c : counted at len ≡ true = all_counted at len h k in same-number _ _ (rw e at c)

count_two : (at len : ℕ) → at < 4 → len < 5 → nat_le (at + len) 4 ≡ false → (bit_count (ones_at at (4 - at)) ≡ 4 - at) × (bit_count (ones_at at (4 - at)) + bit_count (ones_at 0 (at + len - 4)) ≡ len)
unfolding counted
count_two at len h k e =
    let c : counted at len ≡ true = all_counted at len h k in
    let d : (bit_count (ones_at at (4 - at)) == 4 - at && bit_count (ones_at at (4 - at)) + bit_count (ones_at 0 (at + len - 4)) == len) ≡ true = rw e at c in
    (same-number _ _ (and-l _ _ d), same-number _ _ (and-r _ _ d))

-- a number of so many bytes
abbrev pub whole_part : ℕ → ℕ → Part
whole_part len v = record { count = len; number = v }

-- what a group of a field adds, from nothing on, and the next one
abbrev ask_read : Role → ℕ → ℕ → ℕ → ℕ → ℕ → Ask
ask_read role n addr enables place v = record (field_ask role n (record { addr = addr; enables = enables; place = place })) { value = v }

z0 : (x : ℕ) → 0 + x ≡ x
z0 x = omega arith

more_one : (role : Role) (n addr at len v : ℕ) → at < 4 → len < 5 → nat_le (at + len) 4 ≡ true → more nothing (ask_read role n addr (ones_at at len) 0 v) ≡ whole_part len (bit_or 0 (gather_of (record { addr = addr; enables = ones_at at len; place = 0 }) v))
unfolding more
more_one role n addr at len v h k e = ap (λ c. whole_part c (bit_or 0 (gather_of (record { addr = addr; enables = ones_at at len; place = 0 }) v))) (z0 (bit_count (ones_at at len)) ∙ count_one at len h k e)

more_two : (role : Role) (n addr addr2 at len v u : ℕ) → at < 4 → len < 5 → nat_le (at + len) 4 ≡ false
    → more (more nothing (ask_read role n addr (ones_at at (4 - at)) 0 v)) (ask_read role n addr2 (ones_at 0 (at + len - 4)) (4 - at) u)
    ≡ whole_part len (bit_or (bit_or 0 (gather_of (record { addr = addr; enables = ones_at at (4 - at); place = 0 }) v)) (gather_of (record { addr = addr2; enables = ones_at 0 (at + len - 4); place = 4 - at }) u))
unfolding more
more_two role n addr addr2 at len v u h k e =
    let c : (bit_count (ones_at at (4 - at)) ≡ 4 - at) × (bit_count (ones_at at (4 - at)) + bit_count (ones_at 0 (at + len - 4)) ≡ len) = count_two at len h k e in
    let count : 0 + bit_count (ones_at at (4 - at)) + bit_count (ones_at 0 (at + len - 4)) ≡ len = ap (λ x. x + bit_count (ones_at 0 (at + len - 4))) (z0 (bit_count (ones_at at (4 - at)))) ∙ c.1 in
    let place : 0 + bit_count (ones_at at (4 - at)) ≡ 4 - at = z0 (bit_count (ones_at at (4 - at))) ∙ c.0 in
    λ i. record {
      count = count i;
      number = bit_or (bit_or 0 (gather_of (record { addr = addr; enables = ones_at at (4 - at); place = 0 }) v)) (gather_of (record { addr = addr2; enables = ones_at 0 (at + len - 4); place = place i }) u);
    }

abbrev low : ℕ → ℕ → Piece
low first len = record { addr = first - first % 4; enables = ones_at (first % 4) len; place = 0 }

abbrev high : ℕ → ℕ → Piece
high first len = record { addr = wrapped Memory (first - first % 4 + 4); enables = ones_at 0 (first % 4 + len - 4); place = 4 - first % 4 }

-- A field that is loaded.
pub shows_load_from : {A : Type 0} (P : Seen → A → Type 0) (g : Seen) (n first len : ℕ) (k : ℕ → Phrase A) → len < 5 → g.loads n ≡ nothing
    → ((v : ℕ) → Shows P (record g { loads = at_number g.loads n (whole_part len v) }) (k v))
    → Shows P g (field_reads roles.Load n 0 (pieces_from Memory first len) >>= k)
unfolding field_reads ◌>>=◌ note cycle_of
shows_load_from P g n first len k l z h = go (nat_le (first % 4 + len) 4) refl
  where
    go : (b : Bool) → nat_le (first % 4 + len) 4 ≡ b → Shows P g (field_reads roles.Load n 0 (pieces_from Memory first len) >>= k)
    go true e = rw e (shows_ask P g (field_ask roles.Load n (low first len)) _ (λ v.
        let m : more (g.loads n) (ask_read roles.Load n (first - first % 4) (ones_at (first % 4) len) 0 v) ≡ whole_part len (bit_or 0 (gather_of (low first len) v)) = rw z (more_one roles.Load n (first - first % 4) (first % 4) len v (omega arith) l e) in
        subst (λ w. Shows P (record g { loads = at_number g.loads n (w) }) (k (bit_or 0 (gather_of (low first len) v)))) (sym m) (h _)))
    go false e = rw e (shows_ask P g (field_ask roles.Load n (low first (4 - first % 4))) _ (λ v. shows_ask P _ (field_ask roles.Load n (high first len)) _ (λ u.
        let value : ℕ = bit_or (bit_or 0 (gather_of (low first (4 - first % 4)) v)) (gather_of (high first len) u) in
        let lo : Part = more (g.loads n) (ask_read roles.Load n (first - first % 4) (ones_at (first % 4) (4 - first % 4)) 0 v) in
        let m : more lo (ask_read roles.Load n (wrapped Memory (first - first % 4 + 4)) (ones_at 0 (first % 4 + len - 4)) (4 - first % 4) u) ≡ whole_part len value = rw z (more_two roles.Load n (first - first % 4) (wrapped Memory (first - first % 4 + 4)) (first % 4) len v u (omega arith) l e) in
        let s : at_number (at_number g.loads n lo) n (more (at_number g.loads n lo n) (ask_read roles.Load n (wrapped Memory (first - first % 4 + 4)) (ones_at 0 (first % 4 + len - 4)) (4 - first % 4) u)) ≡ at_number g.loads n (whole_part len value) = at_twice g.loads n lo _ ∙ ap (λ x. at_number g.loads n (more x (ask_read roles.Load n (wrapped Memory (first - first % 4 + 4)) (ones_at 0 (first % 4 + len - 4)) (4 - first % 4) u))) (at_same g.loads n lo) ∙ ap (at_number g.loads n) m in
        subst (λ w. Shows P (record g { loads = w }) (k value)) (sym s) (h value))))

-- The back link, read.
pub shows_back_from : {A : Type 0} (P : Seen → A → Type 0) (g : Seen) (first len : ℕ) (k : ℕ → Phrase A) → len < 5 → g.link ≡ nothing
    → ((v : ℕ) → Shows P (record g { link = whole_part len v }) (k v))
    → Shows P g (field_reads roles.Back 0 0 (pieces_from Memory first len) >>= k)
unfolding field_reads ◌>>=◌ note cycle_of
shows_back_from P g first len k l z h = go (nat_le (first % 4 + len) 4) refl
  where
    go : (b : Bool) → nat_le (first % 4 + len) 4 ≡ b → Shows P g (field_reads roles.Back 0 0 (pieces_from Memory first len) >>= k)
    go true e = rw e (shows_ask P g (field_ask roles.Back 0 (low first len)) _ (λ v.
        let m : more (g.link) (ask_read roles.Back 0 (first - first % 4) (ones_at (first % 4) len) 0 v) ≡ whole_part len (bit_or 0 (gather_of (low first len) v)) = rw z (more_one roles.Back 0 (first - first % 4) (first % 4) len v (omega arith) l e) in
        subst (λ w. Shows P (record g { link = w }) (k (bit_or 0 (gather_of (low first len) v)))) (sym m) (h _)))
    go false e = rw e (shows_ask P g (field_ask roles.Back 0 (low first (4 - first % 4))) _ (λ v. shows_ask P _ (field_ask roles.Back 0 (high first len)) _ (λ u.
        let value : ℕ = bit_or (bit_or 0 (gather_of (low first (4 - first % 4)) v)) (gather_of (high first len) u) in
        let lo : Part = more (g.link) (ask_read roles.Back 0 (first - first % 4) (ones_at (first % 4) (4 - first % 4)) 0 v) in
        let m : more lo (ask_read roles.Back 0 (wrapped Memory (first - first % 4 + 4)) (ones_at 0 (first % 4 + len - 4)) (4 - first % 4) u) ≡ whole_part len value = rw z (more_two roles.Back 0 (first - first % 4) (wrapped Memory (first - first % 4 + 4)) (first % 4) len v u (omega arith) l e) in
        subst (λ w. Shows P (record g { link = w }) (k value)) (sym m) (h value))))

pub shows_load : {A : Type 0} (P : Seen → A → Type 0) (g : Seen) (base n : ℕ) (k : ℕ → Phrase A) → (field_at n).len < 5 → g.loads n ≡ nothing
    → ((v : ℕ) → Shows P (record g { loads = at_number g.loads n (whole_part (field_at n).len v) }) (k v))
    → Shows P g (field_phrase roles.Load base n >>= k)
unfolding field_phrase pieces
shows_load P g base n k l z h = shows_load_from P g n _ (field_at n).len k l z h

pub shows_back : {A : Type 0} (P : Seen → A → Type 0) (g : Seen) (base : ℕ) (k : ℕ → Phrase A) → g.link ≡ nothing
    → ((v : ℕ) → Shows P (record g { link = whole_part 2 v }) (k v))
    → Shows P g (field_phrase roles.Back base 0 >>= k)
unfolding field_phrase pieces field_at
shows_back P g base k z h = shows_back_from P g _ 2 k (omega arith) z h

abbrev saving : ℕ → ℕ → List Piece → List Ask
saving n value ps = map (λ p. field_write_ask roles.Save n p value) ps

unchanged : {A : Type 0} (h : ℕ → List A) (n m : ℕ) (b : Bool) → (m == n) ≡ b → cond b (h n ++ []) (h m) ≡ h m
unchanged h n m true e = append-nil (h n) ∙ ap h (sym (same-number m n e))
unchanged h n m false e = refl

-- groups that are saved
shows_saves : {A : Type 0} (P : Seen → A → Type 0) (g : Seen) (n value : ℕ) (ps : List Piece) (k : Unit {0} → Phrase A)
    → ((w : Bool) → Shows P (record g { wrote = w; saves = at_number g.saves n (g.saves n ++ saving n value ps) }) (k tt))
    → Shows P g (field_writes roles.Save n value ps >>= k)
unfolding field_writes ◌>>=◌ note cycle_of
shows_saves P g n value [] k h =
    let e : at_number g.saves n (g.saves n ++ []) ≡ g.saves = λ i m. unchanged g.saves n m (m == n) refl i in
    subst (λ w. Shows P (record g { saves = w }) (k tt)) e (h g.wrote)
shows_saves P g n value (p ∷ ps) k h =
    let t : Ask = field_write_ask roles.Save n p value in
    let g2 : Seen = record g { wrote = true; saves = at_number g.saves n (g.saves n ++ t ∷ []) } in
    let e : at_number g.saves n (g.saves n ++ saving n value (p ∷ ps)) ≡ at_number g2.saves n (g2.saves n ++ saving n value ps) =
    sym (at_twice g.saves n (g.saves n ++ t ∷ []) (g2.saves n ++ saving n value ps) ∙ ap (at_number g.saves n) (ap (λ x. x ++ saving n value ps) (at_same g.saves n (g.saves n ++ t ∷ [])) ∙ append_assoc (g.saves n) (t ∷ []) (saving n value ps))) in
    shows_ask P g t _ (λ v. shows_saves P g2 n value ps k (λ w. subst (λ s. Shows P (record g { wrote = w; saves = s }) (k tt)) e (h w)))

-- A field that is saved.
pub shows_save : {A : Type 0} (P : Seen → A → Type 0) (g : Seen) (base n value : ℕ) (k : Unit {0} → Phrase A) → g.saves n ≡ []
    → ((w : Bool) → Shows P (record g { wrote = w; saves = at_number g.saves n (field_written roles.Save base n value) }) (k tt))
    → Shows P g (field_write_phrase roles.Save base n value >>= k)
unfolding field_write_phrase
shows_save P g base n value k z h = shows_saves P g n value (field_pieces base n) k (λ w. rw z (h w))

abbrev linking : ℕ → List Piece → List Ask
linking value ps = map (λ p. field_write_ask roles.Link 0 p value) ps

shows_links : {A : Type 0} (P : Seen → A → Type 0) (g : Seen) (value : ℕ) (ps : List Piece) (k : Unit {0} → Phrase A)
    → ((w : Bool) → Shows P (record g { wrote = w; links = g.links ++ linking value ps }) (k tt))
    → Shows P g (field_writes roles.Link 0 value ps >>= k)
unfolding field_writes ◌>>=◌ note cycle_of
shows_links P g value [] k h = subst (λ w. Shows P (record g { links = w }) (k tt)) (append-nil g.links) (h g.wrote)
shows_links P g value (p ∷ ps) k h =
    let t : Ask = field_write_ask roles.Link 0 p value in
    let g2 : Seen = record g { wrote = true; links = g.links ++ t ∷ [] } in
    shows_ask P g t _ (λ v. shows_links P g2 value ps k (λ w. subst (λ s. Shows P (record g { wrote = w; links = s }) (k tt)) (sym (append_assoc g.links (t ∷ []) (linking value ps))) (h w)))

-- The back link, written.
pub shows_link : {A : Type 0} (P : Seen → A → Type 0) (g : Seen) (base value : ℕ) (k : Unit {0} → Phrase A) → g.links ≡ []
    → ((w : Bool) → Shows P (record g { wrote = w; links = field_written roles.Link base 0 value }) (k tt))
    → Shows P g (field_write_phrase roles.Link base 0 value >>= k)
unfolding field_write_phrase
shows_link P g base value k z h = shows_links P g value (field_pieces base 0) k (λ w. rw z (h w))
