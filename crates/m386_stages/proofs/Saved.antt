-- The old task's fields are saved.
use Rattle.std.proofs.Common.{arith, ◌≡◌, ℕ, zero, suc, ◌+◌, ◌-◌, ◌%◌, ◌^◌, ◌<◌, ◌≤◌, ◌∙◌, ◌⊎◌, inl, inr, refl, sym, ap, subst, List, [], ◌∷◌, Bool, true, false}
use Rattle.std.specs.List.{AllByRecursion}
use Rattle.m386_base.specs.declared.ask.Role.TheVariants as roles
use Rattle.m386_base.specs.declared.ask.Space.TheVariants.{Memory}
use Rattle.m386_base.specs.declared.split.Piece.{Piece}
use Rattle.m386_base.specs.Bus.{cycle_of}
use Rattle.m386_base.specs.Bytes.{bytes_of}
use Rattle.m386_base.specs.Split.{pieces, byte}
use Rattle.m386_base.specs.Phrase.{◌>>=◌}
use Rattle.m386_base.proofs.Access.{pieces_at}
use Rattle.m386_base.proofs.Lanes.{byte_0_12_3, byte_0_14_2, byte_0_15_1, byte_1_7_0}
use Rattle.m386_state.specs.declared.segment.TableReg.{TableReg}
use Rattle.m386_tss.specs.Fields.{field_at}
use Rattle.m386_stages.specs.Stages.{Stage, Phase, Turned, Backing, Task, Saves, Saves_flags, Saves_back, Keeps, shut, IsSaved, IsSavedAny, IsWritten, nt_set}
use Rattle.m386_switch.specs.Fields.{field_write_ask, field_writes, field_write_phrase}
use Rattle.m386_base.specs.Laws.{Turns}

-- the phase is this one, and what was read is as it was
abbrev pub Stays : Phase → Stage → Stage → Unit {0} → Type 0
Stays ph g g2 u = (g2.phase ≡ ph) × (g2.seen ≡ g.seen)

-- each byte of each group stands where it may
abbrev pub AllIn : (ℕ → Type 0) → ℕ → ℕ → List Piece → Type 0
AllIn P n value ps = AllByRecursion (λ p. AllByRecursion (λ (b : ℕ × ℕ). P b.0) (bytes_of (field_write_ask roles.Save n p value))) ps

save_written : (n value : ℕ) (p : Piece) → IsWritten (field_write_ask roles.Save n p value) roles.Save
save_written n value p = record { write = refl; joined = refl; space = refl; role = refl }

-- the groups of a field without NT
pub keeps_saves : (gdt : TableReg) (k nt z : Bool) (o t : Task) (n value : ℕ) (ps : List Piece) (g : Stage) → g.phase ≡ Turned k o t nt z → AllIn (IsSaved o.base) n value ps → Keeps gdt (Stays (Turned k o t nt z) g) g (field_writes roles.Save n value ps)
unfolding Keeps Turns field_writes ◌>>=◌ cycle_of
keeps_saves gdt k nt z o t n value [] g e h = (e, refl)
keeps_saves gdt k nt z o t n value (p ∷ ps) g e h = λ v. (shut g g.phase, Saves k nt z o t e (save_written n value p) h.0 refl, keeps_saves gdt k nt z o t n value ps (shut g g.phase) e h.1)

-- the groups of any field, by IRET
pub keeps_saves_back : (gdt : TableReg) (o : Task) (bs : List (ℕ × ℕ)) (n value : ℕ) (ps : List Piece) (g : Stage) → g.phase ≡ Backing o bs → AllIn (IsSavedAny o.base) n value ps → Keeps gdt (Stays (Backing o bs) g) g (field_writes roles.Save n value ps)
unfolding Keeps Turns field_writes ◌>>=◌ cycle_of
keeps_saves_back gdt o bs n value [] g e h = (e, refl)
keeps_saves_back gdt o bs n value (p ∷ ps) g e h = λ v. (shut g g.phase, Saves_back o bs e (save_written n value p) h.0 refl, keeps_saves_back gdt o bs n value ps (shut g g.phase) e h.1)

-- Byte k of a field.
abbrev Each : (ℕ → Type 0) → ℕ → ℕ → ℕ → Type 0
Each P base off len = (k place : ℕ) → k < len → place ≡ (base + off + k) % 2 ^ 32 → P place

in_2 : (P : ℕ → Type 0) (base off n value first at : ℕ) → Each P base off 2 → first ≡ (base + off) % 2 ^ 32 % 2 ^ 32 → first % 4 ≡ at → AllIn P n value (pieces_at Memory first at 2)
unfolding bytes_of
in_2 P base off n value first zero h e m = ((h 0 _ (omega arith) (omega arith), (h 1 _ (omega arith) (omega arith), tt)), tt)
in_2 P base off n value first (suc zero) h e m = ((h 0 _ (omega arith) (omega arith), (h 1 _ (omega arith) (omega arith), tt)), tt)
in_2 P base off n value first (suc (suc zero)) h e m = ((h 0 _ (omega arith) (omega arith), (h 1 _ (omega arith) (omega arith), tt)), tt)
in_2 P base off n value first (suc (suc (suc zero))) h e m = ((h 0 _ (omega arith) (omega arith), tt), ((h 1 _ (omega arith) (omega arith), tt), tt))
in_2 P base off n value first (suc (suc (suc (suc at)))) h e m = absurd (omega arith)

in_4 : (P : ℕ → Type 0) (base off n value first at : ℕ) → Each P base off 4 → first ≡ (base + off) % 2 ^ 32 % 2 ^ 32 → first % 4 ≡ at → AllIn P n value (pieces_at Memory first at 4)
unfolding bytes_of
in_4 P base off n value first zero h e m = ((h 0 _ (omega arith) (omega arith), (h 1 _ (omega arith) (omega arith), (h 2 _ (omega arith) (omega arith), (h 3 _ (omega arith) (omega arith), tt)))), tt)
in_4 P base off n value first (suc zero) h e m = ((h 0 _ (omega arith) (omega arith), (h 1 _ (omega arith) (omega arith), (h 2 _ (omega arith) (omega arith), tt))), ((h 3 _ (omega arith) (omega arith), tt), tt))
in_4 P base off n value first (suc (suc zero)) h e m = ((h 0 _ (omega arith) (omega arith), (h 1 _ (omega arith) (omega arith), tt)), ((h 2 _ (omega arith) (omega arith), (h 3 _ (omega arith) (omega arith), tt)), tt))
in_4 P base off n value first (suc (suc (suc zero))) h e m = ((h 0 _ (omega arith) (omega arith), tt), ((h 1 _ (omega arith) (omega arith), (h 2 _ (omega arith) (omega arith), (h 3 _ (omega arith) (omega arith), tt))), tt))
in_4 P base off n value first (suc (suc (suc (suc at)))) h e m = absurd (omega arith)

-- the groups of a field of two or four bytes
pub field_in : (P : ℕ → Type 0) (base off len n value : ℕ) → (len ≡ 2) ⊎ (len ≡ 4) → Each P base off len → AllIn P n value (pieces Memory ((base + off) % 2 ^ 32) len)
unfolding pieces
field_in P base off len n value (inl l) h =
    let Q : ℕ → Type 0 = λ x. Each P base off x → AllIn P n value (pieces_at Memory ((base + off) % 2 ^ 32 % 2 ^ 32) ((base + off) % 2 ^ 32 % 2 ^ 32 % 4) x) in
    subst Q (sym l) (λ j. in_2 P base off n value _ _ j refl refl) h
field_in P base off len n value (inr l) h =
    let Q : ℕ → Type 0 = λ x. Each P base off x → AllIn P n value (pieces_at Memory ((base + off) % 2 ^ 32 % 2 ^ 32) ((base + off) % 2 ^ 32 % 2 ^ 32 % 4) x) in
    subst Q (sym l) (λ j. in_4 P base off n value _ _ j refl refl) h

-- a field among those that are saved
pub record IsPart (off len : ℕ) : Type 0 where
  pub some : (len ≡ 2) ⊎ (len ≡ 4)
  pub low : 32 ≤ off
  pub high : off + len ≤ 96

each_saved : (base off len : ℕ) → IsPart off len → 38 ≤ off → Each (IsSaved base) base off len
each_saved base off len p l k place m e = (let h : off + len ≤ 96 = p.high in (off + k, omega arith, omega arith, λ x. omega arith, e ∙ ap (λ s. s % 2 ^ 32) (omega arith)))

each_saved_low : (base off len : ℕ) → IsPart off len → off + len ≤ 37 → Each (IsSaved base) base off len
each_saved_low base off len p l k place m e = (let h : 32 ≤ off = p.low in (off + k, omega arith, omega arith, λ x. omega arith, e ∙ ap (λ s. s % 2 ^ 32) (omega arith)))

each_saved_any : (base off len : ℕ) → IsPart off len → Each (IsSavedAny base) base off len
each_saved_any base off len p k place m e = (let h : 32 ≤ off = p.low in let i : off + len ≤ 96 = p.high in (off + k, omega arith, omega arith, e ∙ ap (λ s. s % 2 ^ 32) (omega arith)))

-- a field behind the flags is saved
pub keeps_save : (gdt : TableReg) (k nt z : Bool) (o t : Task) (n value : ℕ) (g : Stage) → g.phase ≡ Turned k o t nt z → IsPart (field_at n).offset (field_at n).len → 38 ≤ (field_at n).offset → Keeps gdt (Stays (Turned k o t nt z) g) g (field_write_phrase roles.Save o.base n value)
unfolding field_write_phrase
keeps_save gdt k nt z o t n value g e p l = keeps_saves gdt k nt z o t n value _ g e (field_in (IsSaved o.base) o.base (field_at n).offset (field_at n).len n value p.some (each_saved o.base _ _ p l))

pub keeps_save_low : (gdt : TableReg) (k nt z : Bool) (o t : Task) (n value : ℕ) (g : Stage) → g.phase ≡ Turned k o t nt z → IsPart (field_at n).offset (field_at n).len → (field_at n).offset + (field_at n).len ≤ 37 → Keeps gdt (Stays (Turned k o t nt z) g) g (field_write_phrase roles.Save o.base n value)
unfolding field_write_phrase
keeps_save_low gdt k nt z o t n value g e p l = keeps_saves gdt k nt z o t n value _ g e (field_in (IsSaved o.base) o.base (field_at n).offset (field_at n).len n value p.some (each_saved_low o.base _ _ p l))

pub keeps_save_back : (gdt : TableReg) (o : Task) (bs : List (ℕ × ℕ)) (n value : ℕ) (g : Stage) → g.phase ≡ Backing o bs → IsPart (field_at n).offset (field_at n).len → Keeps gdt (Stays (Backing o bs) g) g (field_write_phrase roles.Save o.base n value)
unfolding field_write_phrase
keeps_save_back gdt o bs n value g e p = keeps_saves_back gdt o bs n value _ g e (field_in (IsSavedAny o.base) o.base (field_at n).offset (field_at n).len n value p.some (each_saved_any o.base _ _ p))

-- The flags are saved: in one group, or in two.
flags_at : (gdt : TableReg) (k nt : Bool) (o t : Task) (n value first at : ℕ) (g : Stage) → g.phase ≡ Turned k o t nt false → (nt_set (byte value 1) ≡ true → nt ≡ true) → first ≡ (o.base + 36) % 2 ^ 32 % 2 ^ 32 → first % 4 ≡ at
    → AllIn (IsSavedAny o.base) n value (pieces_at Memory first at 4) → Keeps gdt (Stays (Turned k o t nt true) g) g (field_writes roles.Save n value (pieces_at Memory first at 4))
unfolding Keeps Turns field_writes ◌>>=◌ cycle_of bytes_of
flags_at gdt k nt o t n value first zero g e f a m all = λ v.
    (shut g (Turned k o t nt true), Saves_flags k nt false o t (byte value 1) e (save_written n value _) all.0 (inr (inl (omega arith, byte_0_15_1 (first - 0) value))) f refl, (refl, refl))
flags_at gdt k nt o t n value first (suc zero) g e f a m all = λ v.
    let g1 : Stage = shut g (Turned k o t nt true) in (
      g1,
      Saves_flags k nt false o t (byte value 1) e (save_written n value _) all.0 (inr (inl (omega arith, byte_0_14_2 (first - 1) value))) f refl,
      λ w.
          (g1, Saves k nt true o t refl (save_written n value _) ((39, omega arith, omega arith, λ x. omega arith, omega arith), tt) refl, (refl, refl)),
    )
flags_at gdt k nt o t n value first (suc (suc zero)) g e f a m all = λ v.
    let g1 : Stage = shut g (Turned k o t nt true) in (
      g1,
      Saves_flags k nt false o t (byte value 1) e (save_written n value _) all.0 (inr (inl (omega arith, byte_0_12_3 (first - 2) value))) f refl,
      λ w.
          (g1, Saves k nt true o t refl (save_written n value _) ((38, omega arith, omega arith, λ x. omega arith, omega arith), ((39, omega arith, omega arith, λ x. omega arith, omega arith), tt)) refl, (refl, refl)),
    )
flags_at gdt k nt o t n value first (suc (suc (suc zero))) g e f a m all = λ v.
    let g1 : Stage = shut g g.phase in (
      g1,
      Saves k nt false o t e (save_written n value _) ((36, omega arith, omega arith, λ x. omega arith, omega arith), tt) refl,
      λ w.
          (shut g1 (Turned k o t nt true), Saves_flags k nt false o t (byte value 1) e (save_written n value _) all.1.0 (inl (omega arith, byte_1_7_0 ((first - 3 + 4) % 2 ^ 32) value)) f refl, (refl, refl)),
    )
flags_at gdt k nt o t n value first (suc (suc (suc (suc at)))) g e f a m all = absurd (omega arith)

pub keeps_save_flags : (gdt : TableReg) (k nt : Bool) (o t : Task) (value : ℕ) (g : Stage) → g.phase ≡ Turned k o t nt false → (nt_set (byte value 1) ≡ true → nt ≡ true) → Keeps gdt (Stays (Turned k o t nt true) g) g (field_write_phrase roles.Save o.base 9 value)
unfolding field_write_phrase pieces field_at
keeps_save_flags gdt k nt o t value g e f =
    flags_at gdt k nt o t 9 value _ _ g e f refl refl (in_4 (IsSavedAny o.base) o.base 36 9 value _ _ (each_saved_any o.base 36 4 (record { some = inr refl; low = omega arith; high = omega arith })) refl refl)
