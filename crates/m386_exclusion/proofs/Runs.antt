-- The table and the tasks of stages along a history: all processors, one cycle after another, one step after another.
use Rattle.std.proofs.Common.{◌≡◌, ℕ, ◌==◌, ◌∙◌, refl, sym, subst, List, ◌∷◌, Bool, true, false, Option, Some, None, eq-eqb, if◌then◌else◌}
use Rattle.m386_base.specs.declared.ask.Cycle.{Cycle}
use Rattle.m386_base.specs.declared.ask.Role.TheVariants as roles
use Rattle.m386_memory.specs.Contents.{Contents}
use Rattle.m386_memory.specs.History.{Consistent, Unsplit}
use Rattle.m386_access.specs.Ordinary.{is_nested}
use Rattle.m386_stages.specs.Stages.{Task, Stage, Phase, Free, Turned, Linking, Called, Jumped, Loaded, Backing, Returned, Ready, Turn, task_of, EndsIn, begins}
use Rattle.m386_exclusion.proofs.Kept.{sound_next}
use Rattle.m386_exclusion.proofs.Table.{same_number}
use Rattle.m386_exclusion.specs.Table.{HasRead, KeepsOff, IsTidyTable, IsRight, AreRight, IsSound, AreSound, at_cpu}
use Rattle.m386_state.specs.declared.proc.Proc.{Proc}
use Rattle.m386_state.specs.declared.segment.TableReg.{TableReg}

-- a cycle of another processor takes nothing away: what was seen is kin for ever, and its group isn't the last one any more
pub other_read : (first : Contents) (gdt : TableReg) (q : ℕ) (x : Cycle) (g : Stage) (older : List Cycle) → (x.cpu ≡ q → ⊥) → HasRead first gdt q g older → HasRead first gdt q g (x ∷ older)
other_read first gdt q x g older n r = record { seen = r.seen; group = λ l a b h. (let i : x.cpu ≡ q = some_same x.cpu q l in absurd (n i)) }
  where
    some_same : (a b : ℕ) → Some a ≡ Some b → a ≡ b
    some_same a b e = cc

-- The table and the tasks of stages, of every processor, are kept by each cycle but the release of IRET.
pub all_sound_next : (first : Contents) (gdt : TableReg) (x : Cycle) (at : ℕ → Stage) (g2 : Stage) (older : List Cycle) → IsTidyTable first gdt → Consistent first (x ∷ older) → Unsplit (x ∷ older) → KeepsOff gdt x.ask → (x.ask.role ≡ roles.RelRet → ⊥) → Turn gdt (at x.cpu) x.ask g2 → AreSound first gdt at older → AreSound first gdt (at_cpu at x.cpu g2) (x ∷ older)
all_sound_next first gdt x at g2 older tidy c u off nr t s = record {
  table = own.table;
  read = λ q. read q (q == x.cpu) refl;
  right = λ q. right q (q == x.cpu) refl;
}
  where
    own : IsSound first gdt x.cpu g2 (x ∷ older)
    own = sound_next first gdt x (at x.cpu) g2 older tidy c u off nr t (record { table = s.table; read = s.read x.cpu; right = s.right x.cpu })

    read : (q : ℕ) (b : Bool) → (q == x.cpu) ≡ b → HasRead first gdt q (if q == x.cpu then g2 else at q) (x ∷ older)
    read q true e = rw e (subst (λ p. HasRead first gdt p g2 (x ∷ older)) (sym (same_number q x.cpu e)) own.read)
    read q false e = rw e (other_read first gdt q x (at q) older (λ i. let f : true ≡ false = sym (eq-eqb q x.cpu (sym i)) ∙ e in absurd cc) (s.read q))

    right : (q : ℕ) (b : Bool) → (q == x.cpu) ≡ b → AreRight first gdt (if q == x.cpu then g2 else at q).phase
    right q true e = rw e own.right
    right q false e = rw e (s.right q)

right_option : (first : Contents) (gdt : TableReg) (o : Option Task) (t : Task) (nt : Bool) → o ≡ Some t → IsRight first gdt t → AreRight first gdt (Free o nt)
right_option first gdt o t nt e r = subst (λ x. AreRight first gdt (Free x nt)) (sym e) r

right_free : (first : Contents) (gdt : TableReg) (o tr : Option Task) (n nt : Bool) → o ≡ tr → AreRight first gdt (Free tr n) → AreRight first gdt (Free o nt)
right_free first gdt o None n nt e r = subst (λ x. AreRight first gdt (Free x nt)) (sym e) tt
right_free first gdt o (Some t) n nt e r = right_option first gdt o t nt e r

-- Where a step ends the next one may begin.
pub next_step : (first : Contents) (gdt : TableReg) (q : ℕ) (after : Proc) (ph : Phase) (older : List Cycle) → EndsIn after ph → AreRight first gdt ph → HasRead first gdt q (begins after) older × AreRight first gdt (begins after).phase
next_step first gdt q after ph older e r = (record { seen = λ a b i h. absurd h; group = λ l a b h. absurd h }, go ph e r)
  where
    go : (ph : Phase) → EndsIn after ph → AreRight first gdt ph → AreRight first gdt (Free (task_of after.tr) (is_nested after))
    go (Free tr nt) e r = right_free first gdt (task_of after.tr) tr nt (is_nested after) e.0 r
    go (Turned k o t nt z) e r = absurd e
    go (Linking o t) e r = absurd e
    go (Called t) e r = right_option first gdt _ t _ e r
    go (Jumped t) e r = right_option first gdt _ t _ e.0 r
    go (Loaded t nt) e r = right_option first gdt _ t _ e.0 r
    go (Backing o bs) e r = right_option first gdt _ o _ e r
    go (Returned x) e r = absurd e
    go (Ready x nt) e r = right_option first gdt _ x _ e.0 r
