-- The whole invariant is kept by each cycle and by each end of a step.
use Rattle.std.proofs.Common.{◌≡◌, ℕ, zero, suc, ◌/◌, ◌<◌, Bool, true, false, [], ◌∷◌, Option, Some, None, refl, sym, ap, ◌∙◌, subst, arith, inl, inr}
use Rattle.m386_base.specs.declared.ask.Cycle.{Cycle}
use Rattle.m386_memory.specs.History.{byte_after, Consistent, Unsplit}
use Rattle.m386_access.specs.Ordinary.{is_nested}
use Rattle.m386_stages.specs.Stages.{Phase, Free, Turned, Linking, Called, Jumped, Loaded, Backing, Returned, Ready, Stage, Turn, EndsIn, begins, task_of}
use Rattle.m386_book.specs.Book.{IsLive, Book, book_after}
use Rattle.m386_exclusion.proofs.After.{at_here, at_others}
use Rattle.m386_exclusion.proofs.Changed.{gdt_next}
use Rattle.m386_exclusion.proofs.Counts.{test, test-true, test-false}
use Rattle.m386_exclusion.proofs.Frames.{frame}
use Rattle.m386_exclusion.proofs.Keepers.{links_next}
use Rattle.m386_exclusion.proofs.Kept.{sound_with}
use Rattle.m386_exclusion.proofs.Moves.{move, back_right}
use Rattle.m386_exclusion.proofs.Runs.{other_read, next_step}
use Rattle.m386_exclusion.specs.Change.{Others, Change, Silent, after, Known, Move}
use Rattle.m386_exclusion.specs.Held.{holds, number_of}
use Rattle.m386_exclusion.specs.Histories.{IsStart}
use Rattle.m386_exclusion.specs.Invariant.{entries, bys, Owes, Lives, unsaved_of, pending_of, Good, Invariant, rested}
use Rattle.m386_exclusion.specs.Table.{HasRead, AreRight, IsSound, Same as SameByte}
use Rattle.m386_exclusion.specs.World.{Setting, World, IsTidy, IsClean, book, stands, holders, waits, gdt_reg}
use Rattle.m386_state.specs.declared.proc.Proc.{Proc}

-- One more cycle.
pub cycle_next : (I : Setting) (n : ℕ) (x : Cycle) (G : World) (g2 : Stage) → IsTidy I → x.cpu < n → Consistent I.first (x ∷ G.cycles) → Unsplit (x ∷ G.cycles) → IsClean I x.cpu (book I G) x.ask → Turn (gdt_reg I) (G.at x.cpu) x.ask g2 → Invariant I n G → Invariant I n (after G x g2)
cycle_next I n x G g2 tidy below c u clean t v =
    let kn : Known I n x G = record { below = below; tidy = tidy; gdt = v.gdt; links = v.links; good = v.good x.cpu below; consistent = c; unsplit = u; clean = clean } in
    let m : Move I x G g2 = move I n x G g2 kn t in
    let s : IsSound I.first (gdt_reg I) x.cpu g2 (x ∷ G.cycles) = sound_with I.first (gdt_reg I) x (G.at x.cpu) g2 G.cycles tidy.table c u clean.table (λ o y bs lo hi p l h q nm b r. back_right I n x G o y bs lo hi kn p l h q nm b) t (record { table = v.gdt.kin; read = kn.good.read; right = kn.good.right }) in
    let e : g2 ≡ (after G x g2).at x.cpu = sym (at_here G x g2) in
    let own : Good I x.cpu (after G x g2) = record {
      holds = m.held ∙ ap (λ (g : Stage). holds g.phase) e;
      right = subst (λ (g : Stage). AreRight I.first (gdt_reg I) g.phase) e s.right;
      read = subst (λ (g : Stage). HasRead I.first (gdt_reg I) x.cpu g (x ∷ G.cycles)) e s.read;
      owes = subst (λ (g : Stage). Owes (book I (after G x g2)) g.phase) e m.owes;
      lives = subst (λ (g : Stage). Lives I (after G x g2) g.phase) e m.lives;
    } in
    record {
      gdt = gdt_next I n x.cpu (after G x g2) G tidy below v.gdt s.table m.change;
      links = links_next I n x.cpu (after G x g2) G (at_others G x g2) tidy below v.gdt v.links m.change;
      good = λ q hq. elim (test q x.cpu) [
        | inl d ↦ subst (λ y. Good I y (after G x g2)) (sym d.0) own
        | inr d ↦ frame I n x.cpu q (after G x g2) G tidy below hq d.0 (at_others G x g2) v.gdt m.change (other_read I.first (gdt_reg I) q x (G.at q) G.cycles (λ f. d.0 (sym f)) (v.good q hq).read) (v.good q hq)
      ];
    }

-- The end of a step.
pub rest_here : (G : World) (p : ℕ) (s : Proc) → (rested G p s).at p ≡ begins s
rest_here G p s = rw (test-true p p refl) refl

pub rest_others : (G : World) (p : ℕ) (s : Proc) → Others p (rested G p s) G
rest_others G p s q d = rw (test-false q p d) refl

no_marks : (s : Proc) (ph : Phase) → EndsIn s ph → (unsaved_of ph ≡ false) × (pending_of ph ≡ false)
no_marks s (Free tr nt) e = (refl, refl)
no_marks s (Turned k o t nt z) e = absurd e
no_marks s (Linking o t) e = absurd e
no_marks s (Called t) e = (refl, refl)
no_marks s (Jumped t) e = (refl, refl)
no_marks s (Loaded t nt) e = (refl, refl)
no_marks s (Backing o bs) e = (refl, refl)
no_marks s (Returned x) e = absurd e
no_marks s (Ready x nt) e = (refl, refl)

held_end : (s : Proc) (ph : Phase) → EndsIn s ph → holds ph ≡ number_of (task_of s.tr)
held_end s (Free tr nt) e = ap number_of (sym e.0)
held_end s (Turned k o t nt z) e = absurd e
held_end s (Linking o t) e = absurd e
held_end s (Called t) e = ap number_of (sym e)
held_end s (Jumped t) e = ap number_of (sym e.0)
held_end s (Loaded t nt) e = ap number_of (sym e.0)
held_end s (Backing o bs) e = ap number_of (sym e)
held_end s (Returned x) e = absurd e
held_end s (Ready x nt) e = ap number_of (sym e.0)

clash : {A : Type 0} (b : Bool) → b ≡ false → b ≡ true → A
clash b f t = absurd (let k : false ≡ true = sym f ∙ t in cc)

live_end : (b : Book) (o : Option ℕ) (x : ℕ) → o ≡ Some x → b.live x ≡ true → IsLive b o
live_end b o x e l = subst (IsLive b) (sym e) l

lives_end : (I : Setting) (G : World) (s : Proc) (ph : Phase) → EndsIn s ph → Lives I G ph → is_nested s ≡ true → IsLive (book I G) (number_of (task_of s.tr))
lives_end I G s (Free tr nt) e l h = subst (λ o. IsLive (book I G) (number_of o)) (sym e.0) (l (e.1 h))
lives_end I G s (Turned k o t nt z) e l h = absurd e
lives_end I G s (Linking o t) e l h = absurd e
lives_end I G s (Called t) e l h = live_end (book I G) (number_of (task_of s.tr)) (t.selector / 8) (ap number_of e) l
lives_end I G s (Jumped t) e l h = clash (is_nested s) e.1 h
lives_end I G s (Loaded t nt) e l h = clash nt l (e.1 h)
lives_end I G s (Backing o bs) e l h = live_end (book I G) (number_of (task_of s.tr)) (o.selector / 8) (ap number_of e) l
lives_end I G s (Returned x) e l h = absurd e
lives_end I G s (Ready x nt) e l h = live_end (book I G) (number_of (task_of s.tr)) (x.selector / 8) (ap number_of e.0) (l (sym e.1 ∙ h))

pub step_next : (I : Setting) (n p : ℕ) (G : World) (s : Proc) → IsTidy I → p < n → EndsIn s (G.at p).phase → Invariant I n G → Invariant I n (rested G p s)
step_next I n p G s tidy below e v =
    let good = v.good p below in
    let H = rested G p s in
    let at : begins s ≡ H.at p = sym (rest_here G p s) in
    let marks = no_marks s (G.at p).phase e in
    let ch : Change I p H G = Silent refl (record { flags = λ t h b. b; nts = λ t h. refl; links = λ t h. refl; highs = λ t h. refl }) (ap (λ (g : Stage). unsaved_of g.phase) (sym at) ∙ sym marks.0, ap (λ (g : Stage). pending_of g.phase) (sym at) ∙ sym marks.1) in
    let r = next_step I.first (gdt_reg I) p s (G.at p).phase G.cycles e good.right in
    let own : Good I p H = record {
      holds = good.holds ∙ held_end s (G.at p).phase e ∙ ap (λ (g : Stage). holds g.phase) at;
      right = subst (λ (g : Stage). AreRight I.first (gdt_reg I) g.phase) at r.1;
      read = subst (λ (g : Stage). HasRead I.first (gdt_reg I) p g G.cycles) at r.0;
      owes = subst (λ (g : Stage). Owes (book I H) g.phase) at tt;
      lives = subst (λ (g : Stage). Lives I H g.phase) at (lives_end I G s (G.at p).phase e good.lives);
    } in
    record {
      gdt = gdt_next I n p H G tidy below v.gdt v.gdt.kin ch;
      links = links_next I n p H G (rest_others G p s) tidy below v.gdt v.links ch;
      good = λ q hq. elim (test q p) [
        | inl d ↦ subst (λ y. Good I y H) (sym d.0) own
        | inr d ↦ frame I n p q H G tidy below hq d.0 (rest_others G p s) v.gdt ch (v.good q hq).read (v.good q hq)
      ];
    }

-- The start.
nothing-held : (n x : ℕ) → holders n (λ p. None) x ≡ 0
unfolding holders
nothing-held zero x = refl
nothing-held (suc n) x = rw (nothing-held n x) refl

pub starts : (I : Setting) (n : ℕ) (start : ℕ → Proc) → ((p : ℕ) → IsStart I (start p)) → Invariant I n (record { cycles = []; at = λ p. begins (start p) })
unfolding book_after byte_after waits entries bys
starts I n start st =
    let G : World = record { cycles = []; at = λ p. begins (start p) } in
    let none : (x : ℕ) → stands n (book I G) x ≡ 0 = λ x. rw (nothing-held n x) refl in
    record {
      gdt = record {
        once = λ x. omega (arith, none x);
        busy = λ x h. absurd (omega (arith, none x, h));
        inside = λ x h. absurd (omega (arith, none x, h));
        kin = λ a i. SameByte refl;
      };
      links = record { single = λ t. omega arith; alive = λ t (h : false ≡ true). absurd cc; linked = λ t (h : false ≡ true). absurd cc; saved = λ x t e. absurd (omega (arith, e)) };
      good = λ p hp. record {
        holds = ap number_of (sym (st p).none);
        right = right p (st p).none;
        read = record { seen = λ a b i h. absurd h; group = λ l a b h. absurd h };
        owes = tt;
        lives = λ h. clash (is_nested (start p)) (st p).nested h;
      };
    }
  where
    right : (p : ℕ) → task_of (start p).tr ≡ None → AreRight I.first (gdt_reg I) (Free (task_of (start p).tr) (is_nested (start p)))
    right p e = subst (λ o. AreRight I.first (gdt_reg I) (Free o (is_nested (start p)))) (sym e) tt
