-- The new task is entered: the phase and the state at the end.
use Rattle.std.proofs.Common.{arith, ◌≡◌, ℕ, zero, suc, ◌+◌, ◌-◌, ◌*◌, ◌/◌, ◌%◌, ◌^◌, ◌<◌, ◌≤◌, ◌==◌, ◌∙◌, inl, inr, refl, sym, ap, subst, List, [], ◌∷◌, Bool, false, None, slice_set, slice_index}
use Rattle.std.specs.List.{AllByRecursion}
use Rattle.m386_base.specs.declared.ask.Ask.{Ask}
use Rattle.m386_base.specs.declared.ask.Role.TheVariants as roles
use Rattle.m386_base.specs.declared.ask.Space.TheVariants.{Memory}
use Rattle.m386_base.specs.declared.desc.Desc.{Desc}
use Rattle.m386_base.specs.Bus.{cycle_of}
use Rattle.m386_base.specs.Bytes.{bytes_of}
use Rattle.m386_base.specs.Split.{pieces, byte}
use Rattle.m386_base.specs.Phrase.{◌>>=◌}
use Rattle.m386_base.proofs.Access.{pieces_at}
use Rattle.m386_checks.specs.declared.facts.Context.{Context}
use Rattle.m386_checks.specs.declared.facts.Context.TheVariants as contexts
use Rattle.m386_checks.specs.declared.facts.Facts.{Facts}
use Rattle.m386_checks.specs.First.{old_fail_of, first_false}
use Rattle.m386_checks.specs.Holds.{test_holds}
use Rattle.m386_switch.proofs.Rows.{new_told}
use Rattle.m386_state.specs.declared.proc.Proc.{Proc}
use Rattle.m386_state.specs.declared.segment.TableReg.{TableReg}
use Rattle.m386_tss.specs.Fields.{field_at}
use Rattle.m386_tss.specs.Orders.{loaded_fields}
use Rattle.m386_switch.specs.Parts.{loads, load_phrase}
use Rattle.m386_switch.specs.Later.{later_phrase}
use Rattle.m386_switch.specs.Switch.{entered, arrived, with_fields, arrive_phrase, enter_phrase}
use Rattle.m386_stages.specs.Stages.{Stage, Phase, Returned, Ready, Task, Hears, Loads_flags, Keeps, hears, nt_set, EndsIn, Left}
use Rattle.m386_stages.proofs.Chains.{keeps_then, keeps_done, keeps_weaken}
use Rattle.m386_stages.proofs.Words.{word_0, word_1, word_2, word_3, below}
use Rattle.m386_stages.proofs.Linked.{In, keeps_reads}
use Rattle.m386_stages.proofs.Moved.{keeps_loads}
use Rattle.m386_stages.proofs.Described.{keeps_later, Six, Same, Kept}
use Rattle.m386_switch.specs.Fields.{field_reads, field_phrase, field_pieces}
use Rattle.m386_base.specs.Laws.{Turns}

-- NT of flags
abbrev pub nt14 : ℕ → Bool
nt14 n = n / 2 ^ 14 % 2 == 1

in_phase : (p : Proc) (g : Stage) (ph : Phase) → g.phase ≡ ph → EndsIn p ph → EndsIn p g.phase
in_phase p g ph e h = subst (EndsIn p) (sym e) h

old_fields : (f : Facts) (l : List ℕ) → old_fail_of (with_fields f l) ≡ old_fail_of f
unfolding old_fail_of first_false test_holds
old_fields f l = refl

new_is_not_old : (c : Context) → c ≡ contexts.New → c ≡ contexts.Old → ⊥
new_is_not_old c n o = let x : contexts.New ≡ contexts.Old = sym n ∙ o in absurd cc

-- what a switch that has entered the new task leaves
left_entered : (p : Proc) (d : Desc) (l : List ℕ) (f f2 : Facts) (ph : Phase) (g : Stage) → g.phase ≡ ph → old_fail_of f ≡ None → Same (with_fields f l) f2 → EndsIn (entered p d l f2) ph → Left p g (arrived p d l f2)
left_entered p d l f f2 ph g e o s h = record {
  stands = in_phase (entered p d l f2) g ph e h;
  gdtr = refl;
  told = λ x q c. absurd (new_is_not_old x.context (new_told f2 x (s.2 ∙ old_fields f l ∙ o) q) c);
}

-- A switch that ends in a phase which no load changes.
pub keeps_enter : (p : Proc) (d : Desc) (f : Facts) (ph : Phase) (g : Stage) → g.phase ≡ ph → Six f → old_fail_of f ≡ None → ((l : List ℕ) (f2 : Facts) → Same (with_fields f l) f2 → EndsIn (entered p d l f2) ph) → Keeps p.gdtr (Left p) g (enter_phrase p d f)
unfolding enter_phrase arrive_phrase
keeps_enter p d f ph g e n o h =
    keeps_then p.gdtr (In ph g) (Left p) g (load_phrase d.base) _ (keeps_loads p.gdtr d.base ph g e) (λ l g1 a.
    keeps_then p.gdtr (Kept ph (with_fields f l) g1) (Left p) g1 (later_phrase p.gdtr (with_fields f l)) _ (keeps_later p.gdtr ph (with_fields f l) g1 a.0 n) (λ f2 g2 b.
    keeps_done p.gdtr (Left p) g2 (arrived p d l f2) (left_entered p d l f f2 ph g2 b.0 o b.2 (h l f2 b.2))))

-- the flags are loaded by IRET
abbrev LoadedNt : Task → Stage → ℕ → Type 0
LoadedNt x g2 w = g2.phase ≡ Ready x (nt14 w)

nt_of_sum : (a b c d w : ℕ) → a < 256 → b < 256 → c < 256 → d < 256 → w ≡ a + b * 2 ^ 8 + c * 2 ^ 16 + d * 2 ^ 24 → nt_set b ≡ nt14 w
nt_of_sum a b c d w la lb lc ld e = let z : b / 2 ^ 6 % 2 ≡ w / 2 ^ 14 % 2 = omega arith in ap (λ x. x == 1) z

flags_at : (gdt : TableReg) (x : Task) (first at : ℕ) (g : Stage) → g.phase ≡ Returned x → first ≡ (x.base + 36) % 2 ^ 32 % 2 ^ 32 → first % 4 ≡ at → Keeps gdt (LoadedNt x) g (field_reads roles.Load 9 0 (pieces_at Memory first at 4))
unfolding Keeps Turns field_reads ◌>>=◌ cycle_of bytes_of
flags_at gdt x first zero g e f m = λ v.
    let A : ℕ = first - 0 in
    let c : Ask = record { space = Memory; write = false; joined = false; role = roles.Load; part = 9; addr = A; enables = 15; value = v } in
    let r = ap (Ready x) (nt_of_sum _ _ _ _ _ (below v 0) (below v 1) (below v 2) (below v 3) (word_0 A v)) in
    (hears g c (Ready x (nt_set (byte v 1))), Loads_flags x (byte v 1) e refl refl (inr (inl (omega arith, refl))) refl, r)
flags_at gdt x first (suc zero) g e f m = λ v.
    let A : ℕ = first - 1 in
    let B : ℕ = (first - 1 + 4) % 2 ^ 32 in
    let c : Ask = record { space = Memory; write = false; joined = false; role = roles.Load; part = 9; addr = A; enables = 14; value = v } in
    let g1 : Stage = hears g c (Ready x (nt_set (byte v 2))) in (
      g1,
      Loads_flags x (byte v 2) e refl refl (inr (inl (omega arith, refl))) refl,
      λ u.
          let d : Ask = record { space = Memory; write = false; joined = false; role = roles.Load; part = 9; addr = B; enables = 1; value = u } in
          let r = ap (Ready x) (nt_of_sum _ _ _ _ _ (below v 1) (below v 2) (below v 3) (below u 0) (word_1 A B v u)) in
          (hears g1 d g1.phase, Hears refl refl, r),
    )
flags_at gdt x first (suc (suc zero)) g e f m = λ v.
    let A : ℕ = first - 2 in
    let B : ℕ = (first - 2 + 4) % 2 ^ 32 in
    let c : Ask = record { space = Memory; write = false; joined = false; role = roles.Load; part = 9; addr = A; enables = 12; value = v } in
    let g1 : Stage = hears g c (Ready x (nt_set (byte v 3))) in (
      g1,
      Loads_flags x (byte v 3) e refl refl (inr (inl (omega arith, refl))) refl,
      λ u.
          let d : Ask = record { space = Memory; write = false; joined = false; role = roles.Load; part = 9; addr = B; enables = 3; value = u } in
          let r = ap (Ready x) (nt_of_sum _ _ _ _ _ (below v 2) (below v 3) (below u 0) (below u 1) (word_2 A B v u)) in
          (hears g1 d g1.phase, Hears refl refl, r),
    )
flags_at gdt x first (suc (suc (suc zero))) g e f m = λ v.
    let A : ℕ = first - 3 in
    let B : ℕ = (first - 3 + 4) % 2 ^ 32 in
    let c : Ask = record { space = Memory; write = false; joined = false; role = roles.Load; part = 9; addr = A; enables = 8; value = v } in
    let g1 : Stage = hears g c g.phase in (
      g1,
      Hears refl refl,
      λ u.
          let d : Ask = record { space = Memory; write = false; joined = false; role = roles.Load; part = 9; addr = B; enables = 7; value = u } in
          let r = ap (Ready x) (nt_of_sum _ _ _ _ _ (below v 3) (below u 0) (below u 1) (below u 2) (word_3 A B v u)) in
          (hears g1 d (Ready x (nt_set (byte u 0))), Loads_flags x (byte u 0) e refl refl (inl (omega arith, refl)) refl, r),
    )
flags_at gdt x first (suc (suc (suc (suc at)))) g e f m = absurd (omega arith)

load_flags : (gdt : TableReg) (x : Task) (g : Stage) → g.phase ≡ Returned x → Keeps gdt (LoadedNt x) g (field_phrase roles.Load x.base 9)
unfolding field_phrase pieces field_at
load_flags gdt x g e = flags_at gdt x _ _ g e refl refl

-- fields behind the flags
loads_tail : (gdt : TableReg) (base a b : ℕ) (rest ns : List ℕ) (ph : Phase) (g : Stage) → AllByRecursion (λ n. 10 ≤ n) ns → g.phase ≡ ph → Keeps gdt (λ g2 l. (g2.phase ≡ ph) × (slice_index l 1 ≡ b)) g (loads base (a ∷ b ∷ rest) ns)
unfolding loads field_phrase
loads_tail gdt base a b rest [] ph g h e = keeps_done gdt (λ g2 l. (g2.phase ≡ ph) × (slice_index l 1 ≡ b)) g (a ∷ b ∷ rest) (e, refl)
loads_tail gdt base a b rest (n ∷ ns) ph g h e =
    keeps_then gdt (In ph g) (λ g2 l. (g2.phase ≡ ph) × (slice_index l 1 ≡ b)) g (field_reads roles.Load n 0 (field_pieces base n)) _ (keeps_reads gdt roles.Load n (field_pieces base n) 0 ph g e)
    (λ v g1 k. let m : n - 8 ≡ suc (suc (n - 10)) = (let q : 10 ≤ n = h.0 in omega (arith, q)) in
    subst (λ i. Keeps gdt (λ g2 l. (g2.phase ≡ ph) × (slice_index l 1 ≡ b)) g1 (loads base (slice_set (a ∷ b ∷ rest) i v) ns)) (sym m) (loads_tail gdt base a b (slice_set rest (n - 10) v) ns ph g1 h.1 k.0))

abbrev tail_fields : List ℕ
tail_fields = 10 ∷ 11 ∷ 12 ∷ 13 ∷ 14 ∷ 15 ∷ 16 ∷ 17 ∷ 18 ∷ 19 ∷ 20 ∷ 21 ∷ 22 ∷ 23 ∷ 24 ∷ 25 ∷ []

-- The new task's fields, by IRET: NT is that of the flags that were loaded.
pub keeps_loads_flags : (gdt : TableReg) (x : Task) (g : Stage) → g.phase ≡ Returned x → Keeps gdt (λ g2 l. g2.phase ≡ Ready x (nt14 (slice_index l 1))) g (load_phrase x.base)
unfolding load_phrase loaded_fields loads field_phrase
keeps_loads_flags gdt x g e =
    keeps_then gdt (In (Returned x) g) (λ g2 l. g2.phase ≡ Ready x (nt14 (slice_index l 1))) g (field_reads roles.Load 8 0 (field_pieces x.base 8)) _ (keeps_reads gdt roles.Load 8 (field_pieces x.base 8) 0 (Returned x) g e) (λ v8 g1 a.
    keeps_then gdt (LoadedNt x) (λ g2 l. g2.phase ≡ Ready x (nt14 (slice_index l 1))) g1 (field_phrase roles.Load x.base 9) _ (load_flags gdt x g1 a.0) (λ v9 g2 b.
    keeps_weaken gdt (λ g3 l. (g3.phase ≡ Ready x (nt14 v9)) × (slice_index l 1 ≡ v9)) (λ g3 l. g3.phase ≡ Ready x (nt14 (slice_index l 1))) g2 _ (λ l g3 k. k.0 ∙ ap (λ n. Ready x (nt14 n)) (sym k.1))
    (loads_tail gdt x.base v8 v9 (0 ∷ 0 ∷ 0 ∷ 0 ∷ 0 ∷ 0 ∷ 0 ∷ 0 ∷ 0 ∷ 0 ∷ 0 ∷ 0 ∷ 0 ∷ 0 ∷ 0 ∷ 0 ∷ []) tail_fields (Ready x (nt14 v9)) g2 (omega arith, (omega arith, (omega arith, (omega arith, (omega arith, (omega arith, (omega arith, (omega arith, (omega arith, (omega arith, (omega arith, (omega arith, (omega arith, (omega arith, (omega arith, (omega arith, tt)))))))))))))))) b)))

-- A switch that ends by a load of NT.
pub keeps_enter_flags : (p : Proc) (d : Desc) (f : Facts) (x : Task) (g : Stage) → g.phase ≡ Returned x → x.base ≡ d.base → Six f → old_fail_of f ≡ None → ((l : List ℕ) (f2 : Facts) → Same (with_fields f l) f2 → EndsIn (entered p d l f2) (Ready x (nt14 (slice_index l 1)))) → Keeps p.gdtr (Left p) g (enter_phrase p d f)
unfolding enter_phrase arrive_phrase
keeps_enter_flags p d f x g e b n o h =
    keeps_then p.gdtr (λ g2 l. g2.phase ≡ Ready x (nt14 (slice_index l 1))) (Left p) g (load_phrase d.base) _ (subst (λ y. Keeps p.gdtr (λ g2 l. g2.phase ≡ Ready x (nt14 (slice_index l 1))) g (load_phrase y)) b (keeps_loads_flags p.gdtr x g e)) (λ l g1 a.
    let ph : Phase = Ready x (nt14 (slice_index l 1)) in
    keeps_then p.gdtr (Kept ph (with_fields f l) g1) (Left p) g1 (later_phrase p.gdtr (with_fields f l)) _ (keeps_later p.gdtr ph (with_fields f l) g1 a n) (λ f2 g2 c.
    keeps_done p.gdtr (Left p) g2 (arrived p d l f2) (left_entered p d l f f2 ph g2 c.0 o c.2 (h l f2 c.2))))
