-- Fields are saved and loaded one after another.
use Rattle.std.proofs.Common.{arith, ◌≡◌, ℕ, ◌+◌, ◌-◌, ◌≤◌, ◌∙◌, inl, inr, refl, subst, List, [], ◌∷◌, Bool, true, false, slice_set}
use Rattle.std.specs.List.{AllByRecursion}
use Rattle.m386_base.specs.declared.ask.Role.TheVariants as roles
use Rattle.m386_base.specs.Split.{byte}
use Rattle.m386_base.specs.declared.kind.SwitchKind.{SwitchKind}
use Rattle.m386_state.specs.declared.proc.Proc.{Proc}
use Rattle.m386_state.specs.declared.segment.TableReg.{TableReg}
use Rattle.m386_tss.specs.Fields.{field_at}
use Rattle.m386_tss.specs.Orders.{saved_fields, loaded_fields}
use Rattle.m386_switch.specs.Parts.{saves, loads, load_phrase, no_fields, saved_value, saved_flags}
use Rattle.m386_stages.specs.Stages.{Stage, Phase, Turned, Backing, Task, Keeps, nt_set}
use Rattle.m386_stages.proofs.Chains.{keeps_then, keeps_done, keeps_weaken}
use Rattle.m386_stages.proofs.Saved.{Stays, IsPart, keeps_save, keeps_save_low, keeps_save_back, keeps_save_flags}
use Rattle.m386_stages.proofs.Linked.{In, keeps_reads}
use Rattle.m386_switch.specs.Fields.{field_reads, field_phrase, field_pieces, field_write_phrase}

save_step : (gdt : TableReg) (ph1 ph2 : Phase) (g : Stage) (kind : SwitchKind) (p : Proc) (n : ℕ) (ns : List ℕ) → Keeps gdt (Stays ph1 g) g (field_write_phrase roles.Save p.tr.desc.base n (saved_value kind p n))
    → ((g1 : Stage) → g1.phase ≡ ph1 → Keeps gdt (Stays ph2 g1) g1 (saves kind p ns)) → Keeps gdt (Stays ph2 g) g (saves kind p (n ∷ ns))
unfolding saves
save_step gdt ph1 ph2 g kind p n ns h k =
    keeps_then gdt (Stays ph1 g) (Stays ph2 g) g (field_write_phrase roles.Save p.tr.desc.base n (saved_value kind p n)) _ h
    (λ u g1 e. keeps_weaken gdt (Stays ph2 g1) (Stays ph2 g) g1 (saves kind p ns) (λ a g2 f. (f.0, f.1 ∙ e.1)) (k g1 e.0))

-- a field behind the flags
abbrev IsBehind : ℕ → Type 0
IsBehind n = IsPart (field_at n).offset (field_at n).len × (38 ≤ (field_at n).offset)

saves_rest : (gdt : TableReg) (k nt z : Bool) (o t : Task) (kind : SwitchKind) (p : Proc) (ns : List ℕ) (g : Stage) → o.base ≡ p.tr.desc.base → AllByRecursion IsBehind ns → g.phase ≡ Turned k o t nt z → Keeps gdt (Stays (Turned k o t nt z) g) g (saves kind p ns)
unfolding saves
saves_rest gdt k nt z o t kind p [] g b h e = keeps_done gdt (Stays (Turned k o t nt z) g) g tt (e, refl)
saves_rest gdt k nt z o t kind p (n ∷ ns) g b h e =
    save_step gdt (Turned k o t nt z) (Turned k o t nt z) g kind p n ns (subst (λ x. Keeps gdt (Stays (Turned k o t nt z) g) g (field_write_phrase roles.Save x n (saved_value kind p n))) b (keeps_save gdt k nt z o t n (saved_value kind p n) g e h.0.0 h.0.1))
    (λ g1 e1. saves_rest gdt k nt z o t kind p ns g1 b h.1 e1)

part_2 : (off len : ℕ) → 32 ≤ off → off + len ≤ 96 → len ≡ 2 → IsPart off len
part_2 off len l h e = record { some = inl e; low = l; high = h }

part_4 : (off len : ℕ) → 32 ≤ off → off + len ≤ 96 → len ≡ 4 → IsPart off len
part_4 off len l h e = record { some = inr e; low = l; high = h }

behind_4 : (off : ℕ) → 38 ≤ off → off + 4 ≤ 96 → IsPart off 4 × (38 ≤ off)
behind_4 off l h = (record { some = inr refl; low = omega arith; high = h }, l)

behind_2 : (off : ℕ) → 38 ≤ off → off + 2 ≤ 96 → IsPart off 2 × (38 ≤ off)
behind_2 off l h = (record { some = inl refl; low = omega arith; high = h }, l)

abbrev fields_behind : List ℕ
fields_behind = 10 ∷ 11 ∷ 12 ∷ 13 ∷ 14 ∷ 15 ∷ 16 ∷ 17 ∷ 18 ∷ 19 ∷ 20 ∷ 21 ∷ 22 ∷ 23 ∷ []

all_behind : AllByRecursion IsBehind fields_behind
unfolding field_at
all_behind = (
  behind_4 40 (omega arith) (omega arith),
  (
    behind_4 44 (omega arith) (omega arith),
    (
      behind_4 48 (omega arith) (omega arith),
      (
        behind_4 52 (omega arith) (omega arith),
        (
          behind_4 56 (omega arith) (omega arith),
          (
            behind_4 60 (omega arith) (omega arith),
            (
              behind_4 64 (omega arith) (omega arith),
              (
                behind_4 68 (omega arith) (omega arith),
                (behind_2 72 (omega arith) (omega arith), (behind_2 76 (omega arith) (omega arith), (behind_2 80 (omega arith) (omega arith), (behind_2 84 (omega arith) (omega arith), (behind_2 88 (omega arith) (omega arith), (behind_2 92 (omega arith) (omega arith), tt)))))),
              ),
            ),
          ),
        ),
      ),
    ),
  ),
)

-- The old task's fields, from EIP on; NT is saved with the flags.
pub keeps_all_saves : (gdt : TableReg) (k nt : Bool) (o t : Task) (kind : SwitchKind) (p : Proc) (g : Stage) → o.base ≡ p.tr.desc.base → (nt_set (byte (saved_flags kind p.eflags).0 1) ≡ true → nt ≡ true) → g.phase ≡ Turned k o t nt false → Keeps gdt (Stays (Turned k o t nt true) g) g (saves kind p saved_fields)
unfolding saved_fields field_at
keeps_all_saves gdt k nt o t kind p g b f e =
    let at : (ph : Phase) (g1 : Stage) (n : ℕ) → Keeps gdt (Stays ph g1) g1 (field_write_phrase roles.Save o.base n (saved_value kind p n)) → Keeps gdt (Stays ph g1) g1 (field_write_phrase roles.Save p.tr.desc.base n (saved_value kind p n)) = λ ph g1 n h. subst (λ x. Keeps gdt (Stays ph g1) g1 (field_write_phrase roles.Save x n (saved_value kind p n))) b h in
    save_step gdt (Turned k o t nt false) (Turned k o t nt true) g kind p 8 _ (at (Turned k o t nt false) g 8 (keeps_save_low gdt k nt false o t 8 (saved_value kind p 8) g e (record { some = inr refl; low = omega arith; high = omega arith }) (omega arith))) (λ g1 e1.
    save_step gdt (Turned k o t nt true) (Turned k o t nt true) g1 kind p 9 _ (at (Turned k o t nt true) g1 9 (keeps_save_flags gdt k nt o t (saved_flags kind p.eflags).0 g1 e1 f)) (λ g2 e2.
    saves_rest gdt k nt true o t kind p _ g2 b all_behind e2))

-- The same by IRET, before its release.
saves_back : (gdt : TableReg) (o : Task) (bs : List (ℕ × ℕ)) (kind : SwitchKind) (p : Proc) (ns : List ℕ) (g : Stage) → o.base ≡ p.tr.desc.base → AllByRecursion (λ n. IsPart (field_at n).offset (field_at n).len) ns → g.phase ≡ Backing o bs → Keeps gdt (Stays (Backing o bs) g) g (saves kind p ns)
unfolding saves
saves_back gdt o bs kind p [] g b h e = keeps_done gdt (Stays (Backing o bs) g) g tt (e, refl)
saves_back gdt o bs kind p (n ∷ ns) g b h e =
    save_step gdt (Backing o bs) (Backing o bs) g kind p n ns (subst (λ x. Keeps gdt (Stays (Backing o bs) g) g (field_write_phrase roles.Save x n (saved_value kind p n))) b (keeps_save_back gdt o bs n (saved_value kind p n) g e h.0))
    (λ g1 e1. saves_back gdt o bs kind p ns g1 b h.1 e1)

parts_of : (ns : List ℕ) → AllByRecursion IsBehind ns → AllByRecursion (λ n. IsPart (field_at n).offset (field_at n).len) ns
parts_of [] h = tt
parts_of (n ∷ ns) h = (h.0.0, parts_of ns h.1)

pub keeps_all_back : (gdt : TableReg) (o : Task) (bs : List (ℕ × ℕ)) (kind : SwitchKind) (p : Proc) (g : Stage) → o.base ≡ p.tr.desc.base → g.phase ≡ Backing o bs → Keeps gdt (Stays (Backing o bs) g) g (saves kind p saved_fields)
unfolding saved_fields field_at
keeps_all_back gdt o bs kind p g b e =
    saves_back gdt o bs kind p _ g b (part_4 32 4 (omega arith) (omega arith) refl, (part_4 36 4 (omega arith) (omega arith) refl, parts_of fields_behind all_behind)) e

-- fields are loaded in a phase that no load changes
loads_rest : (gdt : TableReg) (base : ℕ) (ns l : List ℕ) (ph : Phase) (g : Stage) → g.phase ≡ ph → Keeps gdt (In ph g) g (loads base l ns)
unfolding loads field_phrase
loads_rest gdt base [] l ph g e = keeps_done gdt (In ph g) g l (e, λ x y h. h)
loads_rest gdt base (n ∷ ns) l ph g e =
    keeps_then gdt (In ph g) (In ph g) g (field_reads roles.Load n 0 (field_pieces base n)) _ (keeps_reads gdt roles.Load n (field_pieces base n) 0 ph g e)
    (λ v g1 h. keeps_weaken gdt (In ph g1) (In ph g) g1 (loads base (slice_set l (n - 8) v) ns) (λ a g2 k. (k.0, λ x y i. k.1 x y (h.1 x y i))) (loads_rest gdt base ns _ ph g1 h.0))

pub keeps_loads : (gdt : TableReg) (base : ℕ) (ph : Phase) (g : Stage) → g.phase ≡ ph → Keeps gdt (In ph g) g (load_phrase base)
unfolding load_phrase
keeps_loads gdt base ph g e = loads_rest gdt base loaded_fields no_fields ph g e
