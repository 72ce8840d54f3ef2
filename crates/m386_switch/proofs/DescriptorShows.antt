-- What the reads of descriptors show.
use Rattle.std.proofs.Common.{◌≡◌, ℕ, ◌+◌, ◌-◌, ◌%◌, ◌^◌, Bool, true, false, List, [], ◌∷◌, ◌++◌, refl, sym, ap, subst, cond, ◌==◌, arith, bit_or, append_assoc, nat_le, ne_eqb, ◌≢◌}
use Rattle.m386_base.specs.declared.ask.Role.TheVariants as roles
use Rattle.m386_base.specs.declared.ask.Space.TheVariants.{Memory}
use Rattle.m386_base.specs.declared.desc.Desc.{Desc}
use Rattle.m386_base.specs.Split.{pieces, pieces_from, wrapped, gather_of}
use Rattle.m386_base.specs.Phrase.{Phrase, ◌>>=◌}
use Rattle.m386_desc.specs.Bytes.{descriptor_in, two_doublewords}
use Rattle.m386_access.specs.Access.{read_ask}
use Rattle.m386_segload.specs.Descriptors.{word_reads, descriptor_phrase}
use Rattle.m386_base.specs.Bus.{cycle_of}
use Rattle.m386_switch.specs.Seen.{Seen, note, with_word, or_last}
use Rattle.m386_switch.proofs.Shows.{Shows, shows_ask, shows_later, shows_bind}

or_last-end : (ws : List ℕ) (w v : ℕ) → or_last (ws ++ w ∷ []) v ≡ ws ++ bit_or w v ∷ []
unfolding or_last
or_last-end [] w v = refl
or_last-end (x ∷ []) w v = refl
or_last-end (x ∷ y ∷ ws) w v = ap (λ l. x ∷ l) (or_last-end (y ∷ ws) w v)

not_zero : (a : ℕ) → (4 - a % 4 == 0) ≡ false
not_zero a = let l : 4 - a % 4 ≢ 0 = omega arith in ne_eqb _ _ l

tss_one : {A : Type 0} (P : Seen → A → Type 0) (g : Seen) (joined : Bool) (addr enables : ℕ) (k : ℕ → Phrase A)
    → ((w : ℕ) → Shows P (record g { tss = g.tss ++ w ∷ [] }) (k w))
    → Shows P g (word_reads roles.Tss joined 0 (record { addr = addr; enables = enables; place = 0 } ∷ []) >>= k)
unfolding word_reads ◌>>=◌ note with_word cycle_of
tss_one P g joined addr enables k h = shows_ask P g (read_ask roles.Tss joined (record { addr = addr; enables = enables; place = 0 })) _ (λ v. h (bit_or 0 (gather_of (record { addr = addr; enables = enables; place = 0 }) v)))

tss_two : {A : Type 0} (P : Seen → A → Type 0) (g : Seen) (joined : Bool) (addr enables addr2 enables2 place : ℕ) (k : ℕ → Phrase A)
    → (place == 0) ≡ false
    → ((w : ℕ) → Shows P (record g { tss = g.tss ++ w ∷ [] }) (k w))
    → Shows P g (word_reads roles.Tss joined 0 (record { addr = addr; enables = enables; place = 0 } ∷ record { addr = addr2; enables = enables2; place = place } ∷ []) >>= k)
unfolding word_reads ◌>>=◌ note with_word cycle_of
tss_two P g joined addr enables addr2 enables2 place k z h =
    shows_ask P g (read_ask roles.Tss joined (record { addr = addr; enables = enables; place = 0 })) _ (λ v.
    shows_ask P _ (read_ask roles.Tss true (record { addr = addr2; enables = enables2; place = place })) _ (λ u.
    let lo : ℕ = bit_or 0 (gather_of (record { addr = addr; enables = enables; place = 0 }) v) in
    let hi : ℕ = gather_of (record { addr = addr2; enables = enables2; place = place }) u in
    let e : cond (place == 0) ((g.tss ++ lo ∷ []) ++ bit_or 0 hi ∷ []) (or_last (g.tss ++ lo ∷ []) hi) ≡ g.tss ++ bit_or lo hi ∷ [] = rw z (or_last-end g.tss lo hi) in
    subst (λ ws. Shows P (record g { tss = ws }) (k (bit_or lo hi))) (sym e) (h (bit_or lo hi))))

pub shows_tss_word : {A : Type 0} (P : Seen → A → Type 0) (g : Seen) (joined : Bool) (address : ℕ) (k : ℕ → Phrase A)
    → ((w : ℕ) → Shows P (record g { tss = g.tss ++ w ∷ [] }) (k w)) → Shows P g (word_reads roles.Tss joined 0 (pieces Memory address 4) >>= k)
unfolding pieces
shows_tss_word {A = A} P g joined address k h = go (nat_le (wrapped Memory address % 4 + 4) 4) refl
  where
    go : (b : Bool) → nat_le (wrapped Memory address % 4 + 4) 4 ≡ b → Shows P g (word_reads roles.Tss joined 0 (pieces_from Memory (wrapped Memory address) 4) >>= k)
    go true e = rw e (tss_one P g joined _ _ k h)
    go false e = rw e (tss_two P g joined _ _ _ _ (4 - wrapped Memory address % 4) k (not_zero (wrapped Memory address)) h)

gdt_one : {A : Type 0} (P : Seen → A → Type 0) (g : Seen) (joined : Bool) (addr enables : ℕ) (k : ℕ → Phrase A)
    → ((w : ℕ) → Shows P (record g { words = g.words ++ w ∷ [] }) (k w))
    → Shows P g (word_reads roles.Gdt joined 0 (record { addr = addr; enables = enables; place = 0 } ∷ []) >>= k)
unfolding word_reads ◌>>=◌ note with_word cycle_of
gdt_one P g joined addr enables k h = shows_ask P g (read_ask roles.Gdt joined (record { addr = addr; enables = enables; place = 0 })) _ (λ v. h (bit_or 0 (gather_of (record { addr = addr; enables = enables; place = 0 }) v)))

gdt_two : {A : Type 0} (P : Seen → A → Type 0) (g : Seen) (joined : Bool) (addr enables addr2 enables2 place : ℕ) (k : ℕ → Phrase A)
    → (place == 0) ≡ false
    → ((w : ℕ) → Shows P (record g { words = g.words ++ w ∷ [] }) (k w))
    → Shows P g (word_reads roles.Gdt joined 0 (record { addr = addr; enables = enables; place = 0 } ∷ record { addr = addr2; enables = enables2; place = place } ∷ []) >>= k)
unfolding word_reads ◌>>=◌ note with_word cycle_of
gdt_two P g joined addr enables addr2 enables2 place k z h =
    shows_ask P g (read_ask roles.Gdt joined (record { addr = addr; enables = enables; place = 0 })) _ (λ v.
    shows_ask P _ (read_ask roles.Gdt true (record { addr = addr2; enables = enables2; place = place })) _ (λ u.
    let lo : ℕ = bit_or 0 (gather_of (record { addr = addr; enables = enables; place = 0 }) v) in
    let hi : ℕ = gather_of (record { addr = addr2; enables = enables2; place = place }) u in
    let e : cond (place == 0) ((g.words ++ lo ∷ []) ++ bit_or 0 hi ∷ []) (or_last (g.words ++ lo ∷ []) hi) ≡ g.words ++ bit_or lo hi ∷ [] = rw z (or_last-end g.words lo hi) in
    subst (λ ws. Shows P (record g { words = ws }) (k (bit_or lo hi))) (sym e) (h (bit_or lo hi))))

pub shows_gdt_word : {A : Type 0} (P : Seen → A → Type 0) (g : Seen) (joined : Bool) (address : ℕ) (k : ℕ → Phrase A)
    → ((w : ℕ) → Shows P (record g { words = g.words ++ w ∷ [] }) (k w)) → Shows P g (word_reads roles.Gdt joined 0 (pieces Memory address 4) >>= k)
unfolding pieces
shows_gdt_word {A = A} P g joined address k h = go (nat_le (wrapped Memory address % 4 + 4) 4) refl
  where
    go : (b : Bool) → nat_le (wrapped Memory address % 4 + 4) 4 ≡ b → Shows P g (word_reads roles.Gdt joined 0 (pieces_from Memory (wrapped Memory address) 4) >>= k)
    go true e = rw e (gdt_one P g joined _ _ k h)
    go false e = rw e (gdt_two P g joined _ _ _ _ (4 - wrapped Memory address % 4) k (not_zero (wrapped Memory address)) h)

ldt_one : {A : Type 0} (P : Seen → A → Type 0) (g : Seen) (joined : Bool) (addr enables : ℕ) (k : ℕ → Phrase A)
    → ((w : ℕ) → Shows P (record g { words = g.words ++ w ∷ [] }) (k w))
    → Shows P g (word_reads roles.Ldt joined 0 (record { addr = addr; enables = enables; place = 0 } ∷ []) >>= k)
unfolding word_reads ◌>>=◌ note with_word cycle_of
ldt_one P g joined addr enables k h = shows_ask P g (read_ask roles.Ldt joined (record { addr = addr; enables = enables; place = 0 })) _ (λ v. h (bit_or 0 (gather_of (record { addr = addr; enables = enables; place = 0 }) v)))

ldt_two : {A : Type 0} (P : Seen → A → Type 0) (g : Seen) (joined : Bool) (addr enables addr2 enables2 place : ℕ) (k : ℕ → Phrase A)
    → (place == 0) ≡ false
    → ((w : ℕ) → Shows P (record g { words = g.words ++ w ∷ [] }) (k w))
    → Shows P g (word_reads roles.Ldt joined 0 (record { addr = addr; enables = enables; place = 0 } ∷ record { addr = addr2; enables = enables2; place = place } ∷ []) >>= k)
unfolding word_reads ◌>>=◌ note with_word cycle_of
ldt_two P g joined addr enables addr2 enables2 place k z h =
    shows_ask P g (read_ask roles.Ldt joined (record { addr = addr; enables = enables; place = 0 })) _ (λ v.
    shows_ask P _ (read_ask roles.Ldt true (record { addr = addr2; enables = enables2; place = place })) _ (λ u.
    let lo : ℕ = bit_or 0 (gather_of (record { addr = addr; enables = enables; place = 0 }) v) in
    let hi : ℕ = gather_of (record { addr = addr2; enables = enables2; place = place }) u in
    let e : cond (place == 0) ((g.words ++ lo ∷ []) ++ bit_or 0 hi ∷ []) (or_last (g.words ++ lo ∷ []) hi) ≡ g.words ++ bit_or lo hi ∷ [] = rw z (or_last-end g.words lo hi) in
    subst (λ ws. Shows P (record g { words = ws }) (k (bit_or lo hi))) (sym e) (h (bit_or lo hi))))

pub shows_ldt_word : {A : Type 0} (P : Seen → A → Type 0) (g : Seen) (joined : Bool) (address : ℕ) (k : ℕ → Phrase A)
    → ((w : ℕ) → Shows P (record g { words = g.words ++ w ∷ [] }) (k w)) → Shows P g (word_reads roles.Ldt joined 0 (pieces Memory address 4) >>= k)
unfolding pieces
shows_ldt_word {A = A} P g joined address k h = go (nat_le (wrapped Memory address % 4 + 4) 4) refl
  where
    go : (b : Bool) → nat_le (wrapped Memory address % 4 + 4) 4 ≡ b → Shows P g (word_reads roles.Ldt joined 0 (pieces_from Memory (wrapped Memory address) 4) >>= k)
    go true e = rw e (ldt_one P g joined _ _ k h)
    go false e = rw e (ldt_two P g joined _ _ _ _ (4 - wrapped Memory address % 4) k (not_zero (wrapped Memory address)) h)

-- A TSS descriptor that is read.
pub shows_tss : {A : Type 0} (P : Seen → A → Type 0) (g : Seen) (address : ℕ) (k : Desc → Phrase A) → g.tss ≡ []
    → ((lo hi : ℕ) → Shows P (record g { tss = lo ∷ hi ∷ [] }) (k (descriptor_in (two_doublewords lo hi))))
    → Shows P g (descriptor_phrase roles.Tss address >>= k)
unfolding descriptor_phrase
shows_tss P g address k z h =
    shows_later P g _ _ k (shows_tss_word P g false address _ (λ lo.
    shows_later P _ _ _ k (shows_tss_word P _ true ((address + 4) % 2 ^ 32) _ (λ hi.
    shows_bind P _ _ k (rw z (h lo hi))))))

-- A descriptor of the GDT that is read.
pub shows_gdt : {A : Type 0} (P : Seen → A → Type 0) (g : Seen) (address : ℕ) (k : Desc → Phrase A)
    → ((lo hi : ℕ) → Shows P (record g { words = g.words ++ lo ∷ hi ∷ [] }) (k (descriptor_in (two_doublewords lo hi))))
    → Shows P g (descriptor_phrase roles.Gdt address >>= k)
unfolding descriptor_phrase
shows_gdt P g address k h =
    shows_later P g _ _ k (shows_gdt_word P g false address _ (λ lo.
    shows_later P _ _ _ k (shows_gdt_word P _ true ((address + 4) % 2 ^ 32) _ (λ hi.
    shows_bind P _ _ k (subst (λ ws. Shows P (record g { words = ws }) (k (descriptor_in (two_doublewords lo hi)))) (sym (append_assoc g.words (lo ∷ []) (hi ∷ []))) (h lo hi))))))

-- A descriptor of an LDT that is read.
pub shows_ldt : {A : Type 0} (P : Seen → A → Type 0) (g : Seen) (address : ℕ) (k : Desc → Phrase A)
    → ((lo hi : ℕ) → Shows P (record g { words = g.words ++ lo ∷ hi ∷ [] }) (k (descriptor_in (two_doublewords lo hi))))
    → Shows P g (descriptor_phrase roles.Ldt address >>= k)
unfolding descriptor_phrase
shows_ldt P g address k h =
    shows_later P g _ _ k (shows_ldt_word P g false address _ (λ lo.
    shows_later P _ _ _ k (shows_ldt_word P _ true ((address + 4) % 2 ^ 32) _ (λ hi.
    shows_bind P _ _ k (subst (λ ws. Shows P (record g { words = ws }) (k (descriptor_in (two_doublewords lo hi)))) (sym (append_assoc g.words (lo ∷ []) (hi ∷ []))) (h lo hi))))))
