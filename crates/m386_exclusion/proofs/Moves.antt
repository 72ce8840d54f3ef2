-- What each kind of cycle does to the world: one case for each.
use Rattle.std.proofs.Common.{◌≡◌, ◌≢◌, ℕ, ◌+◌, ◌*◌, ◌/◌, ◌%◌, ◌^◌, ◌<◌, ◌≤◌, Bool, true, false, List, [], ◌∷◌, ◌++◌, Option, Some, refl, sym, ap, ◌∙◌, subst, arith, inl, inr, bit_or, bit_and}
use Rattle.std.specs.List.{AllByRecursion}
use Rattle.m386_base.specs.declared.ask.Ask.{Ask}
use Rattle.m386_base.specs.declared.ask.Cycle.{Cycle}
use Rattle.m386_base.specs.declared.ask.Role.{Role}
use Rattle.m386_base.specs.declared.ask.Role.TheVariants as roles
use Rattle.m386_base.specs.declared.ask.Space.TheVariants as spaces
use Rattle.m386_base.specs.Bytes.{bytes_of, has_nt, Has, heard}
use Rattle.m386_memory.specs.Contents.{byte_in}
use Rattle.m386_memory.specs.History.{Consistent, Unsplit}
use Rattle.m386_access.specs.Ordinary.{desc_byte, NamesGdt, IsByteWritten}
use Rattle.m386_stages.specs.Stages.{Task, Phase, Free, Turned, Linking, Called, Jumped, Loaded, Backing, Returned, Ready, Stage, nt_set, segment_byte, IsBase, IsFreeByte, IsWritten, IsSaved, IsSavedAny, IsClaim, IsRelease, is_store, claiming, Turn, Hears, Stores, Touches, Pops_set, Claims, Claims_start, Claims_ltr, Saves, Saves_flags, Saves_back, Links_whole, Links_low, Links_high, Releases, Backs, Backs_on, Returns, Loads_flags}
use Rattle.m386_book.specs.Book.{moved, waiter, claimed, released, returned, linked, effect, Book, task_at, IsLive}
use Rattle.m386_exclusion.proofs.After.{unsaved_at, pending_at, mem_read, mem_off, mem_found, mem_missed, found_one, missed_one, found_second, found_first, missed_two, heard_found, book_read, book_write, book_flag, effect_store, effect_none, kin_small, busy_set, busy_touched}
use Rattle.m386_exclusion.proofs.Counts.{test, put-here, entries-new, entries-bys-two, waiter-is}
use Rattle.m386_exclusion.proofs.Frames.{held-stands, held-apart, waits-apart, waits-stands, stands-apart, set-here, set-there, flags-kept}
use Rattle.m386_exclusion.proofs.Kept.{all_has, heard_memory, claim_right, base_right}
use Rattle.m386_exclusion.proofs.Places.{named_in, flag-apart, flag-in, tss-flag, tss-table, tss-part, area-out, area-table, seg_number, flag_number, task_number, desc_same, task_limit}
use Rattle.m386_exclusion.proofs.Table.{heard_stands, either_has}
use Rattle.m386_exclusion.specs.Change.{But, Area, Same, Calm, Change, Silent, Saved, Spoilt, Claim, Link, LinkOn, Release, Return, after, Known, Move}
use Rattle.m386_exclusion.specs.Held.{holds, number_of}
use Rattle.m386_exclusion.specs.Invariant.{entries, bys, num, IsLinkRead, Owes, FlagsOk, Lives, unsaved_of, pending_of, unsaved, pending, Gdt, Linked, Links}
use Rattle.m386_exclusion.specs.Table.{InGdt, IsTssByte, AreRight, IsRight, Kin}
use Rattle.m386_exclusion.specs.World.{Setting, World, IsTask, IsBusy, IsIdle, mem, flag, seg, book, IsTidy, gdt_reg}

phase_is : (g2 h : Stage) → g2 ≡ h → g2.phase ≡ h.phase
phase_is g2 h e = ap (λ (s : Stage). s.phase) e

-- what is shown at the phase that a stage has
moves_at : (I : Setting) (x : Cycle) (G : World) (g2 : Stage) (ph : Phase) → g2.phase ≡ ph → Change I x.cpu (after G x g2) G → (book I (after G x g2)).held x.cpu ≡ holds ph → Owes (book I (after G x g2)) ph → Lives I (after G x g2) ph → Move I x G g2
moves_at I x G g2 ph e c h o l = record { change = c; held = h ∙ ap holds (sym e); owes = subst (Owes (book I (after G x g2))) (sym e) o; lives = subst (Lives I (after G x g2)) (sym e) l }

flags_same : (I : Setting) (H G : World) (x : ℕ) → book I H ≡ book I G → mem I H (seg I x 37) ≡ mem I G (seg I x 37) → FlagsOk I G x → FlagsOk I H x
flags_same I H G x eb em ok = flags-kept I H G x em (λ h. ap (λ b. b.live x) eb ∙ h) ok

lives_same : (I : Setting) (H G : World) (ph : Phase) → book I H ≡ book I G → ((x : ℕ) → IsTask I x → mem I H (seg I x 37) ≡ mem I G (seg I x 37)) → AreRight I.first (gdt_reg I) ph → Lives I G ph → Lives I H ph
lives_same I H G (Free tr nt) eb em r l = λ e. subst (λ b. IsLive b (number_of tr)) (sym eb) (l e)
lives_same I H G (Turned k o t nt s) eb em r l = (λ e. ap (λ b. b.live (num o)) eb ∙ l.0 e, ap (λ b. b.live (num t)) eb ∙ l.1)
lives_same I H G (Linking o t) eb em r l = ap (λ b. b.live (num t)) eb ∙ l
lives_same I H G (Called t) eb em r l = ap (λ b. b.live (num t)) eb ∙ l
lives_same I H G (Jumped t) eb em r l = tt
lives_same I H G (Loaded t nt) eb em r l = l
lives_same I H G (Backing o bs) eb em r l = ap (λ b. b.live (num o)) eb ∙ l
lives_same I H G (Returned x) eb em r l = flags_same I H G (num x) eb (em (num x) (task_number I x.selector r.0)) l
lives_same I H G (Ready x nt) eb em r l = λ e. ap (λ b. b.live (num x)) eb ∙ l e

marks_same : (G : World) (x : Cycle) (g2 : Stage) → g2.phase ≡ (G.at x.cpu).phase → (unsaved (after G x g2) x.cpu ≡ unsaved G x.cpu) × (pending (after G x g2) x.cpu ≡ pending G x.cpu)
marks_same G x g2 e = (unsaved_at G x g2 (G.at x.cpu).phase e, pending_at G x g2 (G.at x.cpu).phase e)

-- a cycle that the invariant doesn't see
unseen : (I : Setting) (n : ℕ) (x : Cycle) (G : World) (g2 : Stage) → Known I n x G → g2.phase ≡ (G.at x.cpu).phase → book I (after G x g2) ≡ book I G → Same I (after G x g2) G → Move I x G g2
unseen I n x G g2 k e eb em = moves_at I x G g2 (G.at x.cpu).phase e (Silent eb em (marks_same G x g2 e)) (ap (λ b. b.held x.cpu) eb ∙ k.good.holds) (subst (λ b. Owes b (G.at x.cpu).phase) (sym eb) k.good.owes) (lives_same I (after G x g2) G (G.at x.cpu).phase eb em.nts k.good.right k.good.lives)

same_read : (I : Setting) (x : Cycle) (G : World) (g2 : Stage) → x.ask.write ≡ false → Same I (after G x g2) G
same_read I x G g2 w = record { flags = λ t h b. subst IsBusy (sym (mem_read I x G g2 (flag I t) w)) b; nts = λ t h. mem_read I x G g2 (seg I t 37) w; links = λ t h. mem_read I x G g2 (seg I t 0) w; highs = λ t h. mem_read I x G g2 (seg I t 1) w }

hears_move : (I : Setting) (n : ℕ) (x : Cycle) (G : World) (g2 : Stage) → Known I n x G → x.ask.write ≡ false → g2.phase ≡ (G.at x.cpu).phase → Move I x G g2
hears_move I n x G g2 k w e = unseen I n x G g2 k e (book_read I x G g2 w) (same_read I x G g2 w)

stores_move : (I : Setting) (n : ℕ) (x : Cycle) (G : World) (g2 : Stage) → Known I n x G → x.ask.write ≡ true → is_store x.ask.role ≡ true → g2.phase ≡ (G.at x.cpu).phase → Move I x G g2
stores_move I n x G g2 k w r e =
    let tss : (t i : ℕ) → IsTask I t → i < 104 → mem I (after G x g2) (seg I t i) ≡ mem I G (seg I t i) = λ t i ht hi. mem_off I x G g2 (seg I t i) (λ b h. k.clean.segments w r t i ht hi b h) in
    unseen I n x G g2 k e (book_write I x G g2 x.ask.role w refl ∙ effect_store x.cpu x.ask.role (task_at I.image.gdt (bytes_of x.ask)) (book I G) r) (record {
      flags = λ t h b. subst IsBusy (sym (mem_off I x G g2 (flag I t) (λ v i. k.clean.table w r (flag I t) (flag-in I t h) v i))) b;
      nts = λ t h. tss t 37 h (omega arith);
      links = λ t h. tss t 0 h (omega arith);
      highs = λ t h. tss t 1 h (omega arith);
    })

-- a byte written in the GDT
but_one : (I : Setting) (x : Cycle) (G : World) (g2 : Stage) (p v : ℕ) → bytes_of x.ask ≡ (p, v) ∷ [] → But I (after G x g2) G p
but_one I x G g2 p v e a d = mem_missed I x G g2 a (missed_one (bytes_of x.ask) a p v e d)

-- the byte that was read in the locked group stands there
group_stands : (I : Setting) (n : ℕ) (x : Cycle) (G : World) (a b : ℕ) → Known I n x G → x.ask.joined ≡ true → Has (G.at x.cpu).group a b → mem I G a ≡ b
unfolding Unsplit
group_stands I n x G a b k j h = k.good.read.group (k.unsplit.0 j) a b h

at_flag : (I : Setting) (s v : ℕ) (c : Ask) (r : Role) → IsTidy I → NamesGdt (gdt_reg I) s → IsByteWritten c r (desc_byte (gdt_reg I) s 5) v → bytes_of c ≡ (flag I (s / 8), v) ∷ []
at_flag I s v c r tidy n w = w.bytes ∙ ap (λ p. (p, v) ∷ []) (flag_number I s tidy.table.fits n)

in_flag : (I : Setting) (s : ℕ) → IsTidy I → NamesGdt (gdt_reg I) s → InGdt (gdt_reg I) (flag I (s / 8)) → InGdt (gdt_reg I) (desc_byte (gdt_reg I) s 5)
in_flag I s tidy n i = subst (InGdt (gdt_reg I)) (sym (flag_number I s tidy.table.fits n)) i

touches_move : (I : Setting) (n : ℕ) (x : Cycle) (G : World) (g2 : Stage) (s b : ℕ) → Known I n x G → NamesGdt (gdt_reg I) s → Has (G.at x.cpu).group (desc_byte (gdt_reg I) s 5) b → IsByteWritten x.ask roles.GdtAcc (desc_byte (gdt_reg I) s 5) (bit_or b 1) → g2.phase ≡ (G.at x.cpu).phase → Move I x G g2
touches_move I n x G g2 s b k nm h w e =
    let by = at_flag I s (bit_or b 1) x.ask roles.GdtAcc k.tidy nm w in
    let rest = but_one I x G g2 (flag I (s / 8)) (bit_or b 1) by in
    let was : mem I G (flag I (s / 8)) ≡ b = ap (mem I G) (sym (flag_number I s k.tidy.table.fits nm)) ∙ group_stands I n x G (desc_byte (gdt_reg I) s 5) b k w.joined h in
    let eb : book I (after G x g2) ≡ book I G = book_write I x G g2 roles.GdtAcc w.write w.role ∙ (effect_none x.cpu (task_at I.image.gdt (bytes_of x.ask)) (book I G)).1 in
    let apart : (t i : ℕ) → IsTask I t → i < 104 → seg I t i ≢ flag I (s / 8) = λ t i ht hi f. tss-table I k.tidy t i (flag I (s / 8)) ht hi (named_in I s k.tidy nm) (sym f) in
    unseen I n x G g2 k e eb (record {
      flags = λ t ht bz. elim (test t (s / 8)) [
        | inl q ↦
            (let place : InGdt (gdt_reg I) (flag I (s / 8)) = subst (λ y. InGdt (gdt_reg I) (flag I y)) q.0 (flag-in I t ht) in
            let small : b < 256 = kin_small I.first (gdt_reg I) (flag I (s / 8)) b k.tidy.table.small (subst (Kin I.first (gdt_reg I) (flag I (s / 8))) was (k.gdt.kin (flag I (s / 8)) place)) in
            let now : mem I (after G x g2) (flag I (s / 8)) ≡ bit_or b 1 = mem_found I x G g2 (flag I (s / 8)) (bit_or b 1) w.write w.space (k.tidy.inside (flag I (s / 8)) place) (found_one (bytes_of x.ask) (flag I (s / 8)) (bit_or b 1) by) in
            let bz2 : IsBusy b = ap (λ y. y / 2 % 2) (sym was) ∙ subst (λ y. IsBusy (mem I G (flag I y))) q.0 bz in
            subst (λ y. IsBusy (mem I (after G x g2) (flag I y))) (sym q.0) (ap (λ y. y / 2 % 2) now ∙ busy_touched b small ∙ bz2))
        | inr q ↦ subst IsBusy (sym (rest (flag I t) (flag-apart I t (s / 8) q.0))) bz
      ];
      nts = λ t ht. rest (seg I t 37) (apart t 37 ht (omega arith));
      links = λ t ht. rest (seg I t 0) (apart t 0 ht (omega arith));
      highs = λ t ht. rest (seg I t 1) (apart t 1 ht (omega arith));
    })

pops_move : (I : Setting) (n : ℕ) (x : Cycle) (G : World) (g2 : Stage) (tr : Option Task) (nt : Bool) → Known I n x G → (G.at x.cpu).phase ≡ Free tr nt → x.ask.write ≡ false → x.ask.role ≡ roles.Flags → has_nt x.ask ≡ true → g2.phase ≡ Free tr true → Move I x G g2
pops_move I n x G g2 tr nt k p w r f e =
    let held : (book I G).held x.cpu ≡ number_of tr = k.good.holds ∙ ap holds p in
    let eb = book_read I x G g2 w in
    let l : IsLive (book I G) (number_of tr) = subst (IsLive (book I G)) held (k.clean.flags w r f) in
    moves_at I x G g2 (Free tr true) e (Silent eb (same_read I x G g2 w) (unsaved_at G x g2 (Free tr true) e ∙ sym (ap unsaved_of p), pending_at G x g2 (Free tr true) e ∙ sym (ap pending_of p))) (ap (λ b. b.held x.cpu) eb ∙ held) tt (λ h. subst (λ b. IsLive b (number_of tr)) (sym eb) l)

claimed-holds : (w : Bool) (p t : ℕ) (b : Book) → (claimed w p t b).held p ≡ Some t
unfolding claimed
claimed-holds w p t b = put-here b.held p (Some t)

claimed-owes : (p o t : ℕ) (b : Book) → b.held p ≡ Some o → 1 ≤ entries (claimed true p t b).waiting o t
unfolding claimed
claimed-owes p o t b e = rw e (entries-new o t _)

claimed-dead : (w : Bool) (p t : ℕ) (b : Book) → (claimed w p t b).live t ≡ false
unfolding claimed
claimed-dead w p t b = set-here b.live t false

claimed-live : (w : Bool) (p t x : ℕ) (b : Book) → x ≢ t → (claimed w p t b).live x ≡ b.live x
unfolding claimed
claimed-live w p t x b d = set-there b.live t x false d

free_idle : (b : ℕ) → IsFreeByte b → IsIdle b
free_idle b f = let h : b % 2 ^ 4 ≡ 9 = f.2 in omega (arith, h)

-- a claim, right after the access byte was read available
claim_change : (I : Setting) (n : ℕ) (x : Cycle) (G : World) (g2 : Stage) (w : Bool) (role : Role) (t : Task) → Known I n x G → IsClaim (gdt_reg I) (G.at x.cpu) x.ask role t → ((b : Book) → effect x.cpu role (Some (num t)) b ≡ claimed w x.cpu (num t) b) → Calm G x.cpu → (w ≡ true → unsaved (after G x g2) x.cpu ≡ true)
    → Change I x.cpu (after G x g2) G × (book I (after G x g2) ≡ claimed w x.cpu (num t) (book I G)) × IsIdle (mem I G (flag I (num t)))
claim_change I n x G g2 w role t k c ef calm mk =
    let right : IsRight I.first (gdt_reg I) t = claim_right I.first (gdt_reg I) x (G.at x.cpu) G.cycles role t k.tidy.table k.unsplit k.gdt.kin k.good.read c in
    let task : IsTask I (num t) = task_number I t.selector right.0 in
    let v : ℕ = bit_or c.b 2 in
    let by = at_flag I t.selector v x.ask role k.tidy c.names c.written in
    let place = flag-in I (num t) task in
    let was : mem I G (flag I (num t)) ≡ c.b = ap (mem I G) (sym (flag_number I t.selector k.tidy.table.fits c.names)) ∙ group_stands I n x G (desc_byte (gdt_reg I) t.selector 5) c.b k c.written.joined c.read in
    let idle : IsIdle (mem I G (flag I (num t))) = subst IsIdle (sym was) (free_idle c.b c.free) in
    let small : c.b < 256 = kin_small I.first (gdt_reg I) (flag I (num t)) c.b k.tidy.table.small (subst (Kin I.first (gdt_reg I) (flag I (num t))) was (k.gdt.kin (flag I (num t)) place)) in
    let now : mem I (after G x g2) (flag I (num t)) ≡ v = mem_found I x G g2 (flag I (num t)) v c.written.write c.written.space (k.tidy.inside (flag I (num t)) place) (found_one (bytes_of x.ask) (flag I (num t)) v by) in
    let eb = book_flag I x G g2 role (num t) v k.tidy task c.written.write c.written.role by ∙ ef (book I G) in
    (Claim w (num t) task calm mk idle (subst IsBusy (sym now) (busy_set c.b small)) (but_one I x G g2 (flag I (num t)) v by) eb, eb, idle)

calm_at : (G : World) (p : ℕ) (ph : Phase) → (G.at p).phase ≡ ph → unsaved_of ph ≡ false → pending_of ph ≡ false → Calm G p
calm_at G p ph e u v = (ap unsaved_of e ∙ u, ap pending_of e ∙ v)

claims_effect : (k : Bool) (p t : ℕ) (b : Book) → effect p (claiming k) (Some t) b ≡ claimed true p t b
unfolding moved
claims_effect true p t b = refl
claims_effect false p t b = refl

other_effect : (p t : ℕ) (b : Book) → (effect p roles.ClaimStart (Some t) b ≡ claimed false p t b) × (effect p roles.ClaimLtr (Some t) b ≡ claimed false p t b)
unfolding moved
other_effect p t b = (refl, refl)

release_effect : (p t : ℕ) (b : Book) → (effect p roles.RelJmp (Some t) b ≡ released t b) × (effect p roles.RelRet (Some t) b ≡ returned p t b)
unfolding moved
release_effect p t b = (refl, refl)

link_effect : (p : ℕ) (o : Option ℕ) (b : Book) → effect p roles.Link o b ≡ linked (b.held p) b
unfolding moved
link_effect p o b = refl

claims_move : (I : Setting) (n : ℕ) (x : Cycle) (G : World) (g2 : Stage) (k nt : Bool) (o t : Task) → Known I n x G → (G.at x.cpu).phase ≡ Free (Some o) nt → IsClaim (gdt_reg I) (G.at x.cpu) x.ask (claiming k) t → g2.phase ≡ Turned k o t nt false → Move I x G g2
claims_move I n x G g2 k nt o t kn p c e =
    let held : (book I G).held x.cpu ≡ Some (num o) = kn.good.holds ∙ ap holds p in
    let r = claim_change I n x G g2 true (claiming k) t kn c (claims_effect k x.cpu (num t)) (calm_at G x.cpu (Free (Some o) nt) p refl refl) (λ h. unsaved_at G x g2 (Turned k o t nt false) e) in
    let ot : num o ≢ num t = stands-apart I n (num o) (num t) G kn.gdt (held-stands I n x.cpu (num o) G kn.below held) r.2 in
    let lv : nt ≡ true → (book I G).live (num o) ≡ true = subst (Lives I G) p kn.good.lives in
    moves_at I x G g2 (Turned k o t nt false) e r.0 (ap (λ b. b.held x.cpu) r.1 ∙ claimed-holds true x.cpu (num t) (book I G))
    (subst (λ (b : Book). 1 ≤ entries b.waiting (num o) (num t)) (sym r.1) (claimed-owes x.cpu (num o) (num t) (book I G) held))
    (λ h. ap (λ b. b.live (num o)) r.1 ∙ claimed-live true x.cpu (num t) (num o) (book I G) ot ∙ lv h, ap (λ b. b.live (num t)) r.1 ∙ claimed-dead true x.cpu (num t) (book I G))

no_true : {A : Type 0} → false ≡ true → A
no_true e = absurd cc

claims_start_move : (I : Setting) (n : ℕ) (x : Cycle) (G : World) (g2 : Stage) (tr : Option Task) (nt : Bool) (t : Task) → Known I n x G → (G.at x.cpu).phase ≡ Free tr nt → IsClaim (gdt_reg I) (G.at x.cpu) x.ask roles.ClaimStart t → g2.phase ≡ Jumped t → Move I x G g2
claims_start_move I n x G g2 tr nt t kn p c e =
    let r = claim_change I n x G g2 false roles.ClaimStart t kn c (λ b. (other_effect x.cpu (num t) b).0) (calm_at G x.cpu (Free tr nt) p refl refl) (λ h. no_true h) in
    moves_at I x G g2 (Jumped t) e r.0 (ap (λ b. b.held x.cpu) r.1 ∙ claimed-holds false x.cpu (num t) (book I G)) tt tt

never : (b : Bool) → (b ≡ true → ⊥) → b ≡ false
never true h = absurd (h refl)
never false h = refl

claims_ltr_move : (I : Setting) (n : ℕ) (x : Cycle) (G : World) (g2 : Stage) (tr : Option Task) (nt : Bool) (t : Task) → Known I n x G → (G.at x.cpu).phase ≡ Free tr nt → IsClaim (gdt_reg I) (G.at x.cpu) x.ask roles.ClaimLtr t → g2.phase ≡ Loaded t nt → Move I x G g2
claims_ltr_move I n x G g2 tr nt t kn p c e =
    let held : (book I G).held x.cpu ≡ number_of tr = kn.good.holds ∙ ap holds p in
    let no : IsLive (book I G) (number_of tr) → ⊥ = λ l. kn.clean.ltr c.written.write c.written.role (subst (IsLive (book I G)) (sym held) l) in
    let lv : nt ≡ true → IsLive (book I G) (number_of tr) = subst (Lives I G) p kn.good.lives in
    let r = claim_change I n x G g2 false roles.ClaimLtr t kn c (λ b. (other_effect x.cpu (num t) b).1) (calm_at G x.cpu (Free tr nt) p refl refl) (λ h. no_true h) in
    moves_at I x G g2 (Loaded t nt) e r.0 (ap (λ b. b.held x.cpu) r.1 ∙ claimed-holds false x.cpu (num t) (book I G)) tt (never nt (λ h. no (lv h)))

-- a save into a task reaches its own fields alone
save_area : (I : Setting) (x : Cycle) (G : World) (g2 : Stage) (o : Task) → IsRight I.first (gdt_reg I) o → IsWritten x.ask roles.Save → AllByRecursion (λ (b : ℕ × ℕ). IsSavedAny o.base b.0) (bytes_of x.ask) → Area I (after G x g2) G (num o)
save_area I x G g2 o r w all a out = mem_off I x G g2 a (λ b h.
    let s : IsSavedAny o.base a = all_has (IsSavedAny o.base) (bytes_of x.ask) a b all (heard_memory x.ask roles.Save a b w h) in
    out s.0 s.1 s.2 (s.3 ∙ seg_number I o s.0 r))

any_saved : (base : ℕ) (bs : List (ℕ × ℕ)) → AllByRecursion (λ (b : ℕ × ℕ). IsSaved base b.0) bs → AllByRecursion (λ (b : ℕ × ℕ). IsSavedAny base b.0) bs
any_saved base [] h = h
any_saved base (b ∷ bs) h = (let s : IsSaved base b.0 = h.0 in (s.0, s.1, s.2, s.4), any_saved base bs h.1)

save_book : (I : Setting) (x : Cycle) (G : World) (g2 : Stage) → IsWritten x.ask roles.Save → book I (after G x g2) ≡ book I G
save_book I x G g2 w = book_write I x G g2 roles.Save w.write w.role ∙ (effect_none x.cpu (task_at I.image.gdt (bytes_of x.ask)) (book I G)).0

saves_move : (I : Setting) (n : ℕ) (x : Cycle) (G : World) (g2 : Stage) (k nt z : Bool) (o t : Task) → Known I n x G → (G.at x.cpu).phase ≡ Turned k o t nt z → IsWritten x.ask roles.Save → AllByRecursion (λ (b : ℕ × ℕ). IsSaved o.base b.0) (bytes_of x.ask) → g2.phase ≡ (G.at x.cpu).phase → Move I x G g2
saves_move I n x G g2 k nt z o t kn p w all e =
    let rr : IsRight I.first (gdt_reg I) o × IsRight I.first (gdt_reg I) t = subst (AreRight I.first (gdt_reg I)) p kn.good.right in
    let ho : IsTask I (num o) = task_number I o.selector rr.0.0 in
    let rest = save_area I x G g2 o rr.0 w (any_saved o.base (bytes_of x.ask) all) in
    unseen I n x G g2 kn e (save_book I x G g2 w) (record {
      flags = λ u hu b. subst IsBusy (sym (rest (flag I u) (area-table I kn.tidy u (num o) hu ho))) b;
      nts = λ u hu. mem_off I x G g2 (seg I u 37) (λ b h.
          let s : IsSaved o.base (seg I u 37) = all_has (IsSaved o.base) (bytes_of x.ask) (seg I u 37) b all (heard_memory x.ask roles.Save (seg I u 37) b w h) in
          let l : s.0 < 96 = s.2 in
          tss-part I kn.tidy u 37 (num o) s.0 hu (omega arith) ho (omega (arith, l)) (λ f. s.3 (sym f)) (s.4 ∙ seg_number I o s.0 rr.0));
      links = λ u hu. rest (seg I u 0) (area-out I kn.tidy u 0 (num o) hu (omega arith) ho (inr (inl (omega arith))));
      highs = λ u hu. rest (seg I u 1) (area-out I kn.tidy u 1 (num o) hu (omega arith) ho (inr (inl (omega arith))));
    })

saves_flags_move : (I : Setting) (n : ℕ) (x : Cycle) (G : World) (g2 : Stage) (k nt z : Bool) (o t : Task) (v : ℕ) → Known I n x G → (G.at x.cpu).phase ≡ Turned k o t nt z → IsWritten x.ask roles.Save → AllByRecursion (λ (b : ℕ × ℕ). IsSavedAny o.base b.0) (bytes_of x.ask) → Has (bytes_of x.ask) (segment_byte o.base 37) v → (nt_set v ≡ true → nt ≡ true) → g2.phase ≡ Turned k o t nt true → Move I x G g2
saves_flags_move I n x G g2 k nt z o t v kn p w all h hn e =
    let rr : IsRight I.first (gdt_reg I) o × IsRight I.first (gdt_reg I) t = subst (AreRight I.first (gdt_reg I)) p kn.good.right in
    let ho : IsTask I (num o) = task_number I o.selector rr.0.0 in
    let rest = save_area I x G g2 o rr.0 w all in
    let eb = save_book I x G g2 w in
    let held : (book I G).held x.cpu ≡ Some (num t) = kn.good.holds ∙ ap holds p in
    let ow : 1 ≤ entries (book I G).waiting (num o) (num t) = subst (Owes (book I G)) p kn.good.owes in
    let lv : Lives I G (Turned k o t nt z) = subst (Lives I G) p kn.good.lives in
    let here : Has (bytes_of x.ask) (seg I (num o) 37) v = subst (λ a. Has (bytes_of x.ask) a v) (seg_number I o 37 rr.0) h in
    let now : mem I (after G x g2) (seg I (num o) 37) ≡ v = mem_found I x G g2 (seg I (num o) 37) v w.write w.space (kn.tidy.segments (num o) 37 ho (omega arith)) (heard_found x.ask (seg I (num o) 37) v here) in
    let ok : FlagsOk I (after G x g2) (num o) = saved (nt_set v) refl now lv eb in
    moves_at I x G g2 (Turned k o t nt true) e (Saved (num o) (num t) ho held ow rest eb (ok, ap pending_of p)) (ap (λ b. b.held x.cpu) eb ∙ held) (subst (λ (b : Book). 1 ≤ entries b.waiting (num o) (num t)) (sym eb) ow)
    (λ i. ap (λ b. b.live (num o)) eb ∙ lv.0 i, ap (λ b. b.live (num t)) eb ∙ lv.1)
  where
    saved : (b : Bool) → nt_set v ≡ b → mem I (after G x g2) (seg I (num o) 37) ≡ v → Lives I G (Turned k o t nt z) → book I (after G x g2) ≡ book I G → FlagsOk I (after G x g2) (num o)
    saved false q now lv eb = inl (ap nt_set now ∙ q)
    saved true q now lv eb = inr (ap (λ b. b.live (num o)) eb ∙ lv.0 (hn q))

saves_back_move : (I : Setting) (n : ℕ) (x : Cycle) (G : World) (g2 : Stage) (o : Task) (bs : List (ℕ × ℕ)) → Known I n x G → (G.at x.cpu).phase ≡ Backing o bs → IsWritten x.ask roles.Save → AllByRecursion (λ (b : ℕ × ℕ). IsSavedAny o.base b.0) (bytes_of x.ask) → g2.phase ≡ (G.at x.cpu).phase → Move I x G g2
saves_back_move I n x G g2 o bs kn p w all e =
    let r : IsRight I.first (gdt_reg I) o = subst (AreRight I.first (gdt_reg I)) p kn.good.right in
    let ho : IsTask I (num o) = task_number I o.selector r.0 in
    let eb = save_book I x G g2 w in
    let held : (book I G).held x.cpu ≡ Some (num o) = kn.good.holds ∙ ap holds p in
    moves_at I x G g2 (Backing o bs) (e ∙ p) (Spoilt (num o) ho held (calm_at G x.cpu (Backing o bs) p refl refl) (save_area I x G g2 o r w all) eb) (ap (λ b. b.held x.cpu) eb ∙ held) (subst (λ b. IsLinkRead b o bs) (sym eb) (subst (Owes (book I G)) p kn.good.owes))
    (ap (λ b. b.live (num o)) eb ∙ subst (Lives I G) p kn.good.lives)

linked-alive : (t : ℕ) (b : Book) → (linked (Some t) b).live t ≡ true
unfolding linked
linked-alive t b = set-here b.live t true

linked-rest : (t : ℕ) (b : Book) → ((linked (Some t) b).held ≡ b.held) × ((linked (Some t) b).waiting ≡ b.waiting)
unfolding linked
linked-rest t b = (refl, refl)

low_number : (s : ℕ) → s % 256 / 8 ≡ s / 8 % 32
low_number s = omega arith

high_number : (s : ℕ) → s / 256 % 256 ≡ s / 8 / 32 % 256
high_number s = omega arith

-- what a link write does to the book
link_book : (I : Setting) (x : Cycle) (G : World) (g2 : Stage) (t : ℕ) → IsWritten x.ask roles.Link → (book I G).held x.cpu ≡ Some t → book I (after G x g2) ≡ linked (Some t) (book I G)
link_book I x G g2 t w held = book_write I x G g2 roles.Link w.write w.role ∙ link_effect x.cpu (task_at I.image.gdt (bytes_of x.ask)) (book I G) ∙ ap (λ h. linked h (book I G)) held

link_holds : (I : Setting) (x : Cycle) (G : World) (g2 : Stage) (t : ℕ) → book I (after G x g2) ≡ linked (Some t) (book I G) → (book I G).held x.cpu ≡ Some t → (book I (after G x g2)).held x.cpu ≡ Some t
link_holds I x G g2 t eb held = ap (λ b. b.held x.cpu) eb ∙ ap (λ f. f x.cpu) (linked-rest t (book I G)).0 ∙ held

link_lives : (I : Setting) (x : Cycle) (G : World) (g2 : Stage) (t : ℕ) → book I (after G x g2) ≡ linked (Some t) (book I G) → (book I (after G x g2)).live t ≡ true
link_lives I x G g2 t eb = ap (λ (b : Book). b.live t) eb ∙ linked-alive t (book I G)

links_whole_move : (I : Setting) (n : ℕ) (x : Cycle) (G : World) (g2 : Stage) (nt : Bool) (o t : Task) → Known I n x G → (G.at x.cpu).phase ≡ Turned true o t nt true → IsWritten x.ask roles.Link → bytes_of x.ask ≡ (segment_byte t.base 0, o.selector % 256) ∷ (segment_byte t.base 1, o.selector / 256 % 256) ∷ [] → g2.phase ≡ Called t → Move I x G g2
links_whole_move I n x G g2 nt o t kn p w by0 e =
    let rr : IsRight I.first (gdt_reg I) o × IsRight I.first (gdt_reg I) t = subst (AreRight I.first (gdt_reg I)) p kn.good.right in
    let ht : IsTask I (num t) = task_number I t.selector rr.1.0 in
    let s0 = seg I (num t) 0 in
    let s1 = seg I (num t) 1 in
    let lo = o.selector % 256 in
    let hi = o.selector / 256 % 256 in
    let by : bytes_of x.ask ≡ (s0, lo) ∷ (s1, hi) ∷ [] = by0 ∙ (λ i. (seg_number I t 0 rr.1 i, lo) ∷ (seg_number I t 1 rr.1 i, hi) ∷ []) in
    let held : (book I G).held x.cpu ≡ Some (num t) = kn.good.holds ∙ ap holds p in
    let ow : 1 ≤ entries (book I G).waiting (num o) (num t) = subst (Owes (book I G)) p kn.good.owes in
    let eb = link_book I x G g2 (num t) w held in
    let apart : s1 ≢ s0 = tss-part I kn.tidy (num t) 1 (num t) 0 ht (omega arith) ht (omega arith) (omega arith) in
    let low : mem I (after G x g2) s0 ≡ lo = mem_found I x G g2 s0 lo w.write w.space (kn.tidy.segments (num t) 0 ht (omega arith)) (found_first (bytes_of x.ask) s0 s1 lo hi by) in
    let high : mem I (after G x g2) s1 ≡ hi = mem_found I x G g2 s1 hi w.write w.space (kn.tidy.segments (num t) 1 ht (omega arith)) (found_second (bytes_of x.ask) s1 s0 lo hi by apart) in
    moves_at I x G g2 (Called t) e
    (Link (num o) (num t) ht held (calm_at G x.cpu (Turned true o t nt true) p refl refl) ow (ap (λ y. y / 8) low ∙ low_number o.selector, inr (high ∙ high_number o.selector)) (λ a d f. mem_missed I x G g2 a (missed_two (bytes_of x.ask) a s0 s1 lo hi by d f)) eb)
    (link_holds I x G g2 (num t) eb held) tt (link_lives I x G g2 (num t) eb)

links_low_move : (I : Setting) (n : ℕ) (x : Cycle) (G : World) (g2 : Stage) (nt : Bool) (o t : Task) → Known I n x G → (G.at x.cpu).phase ≡ Turned true o t nt true → IsWritten x.ask roles.Link → bytes_of x.ask ≡ (segment_byte t.base 0, o.selector % 256) ∷ [] → g2.phase ≡ Linking o t → Move I x G g2
links_low_move I n x G g2 nt o t kn p w by0 e =
    let rr : IsRight I.first (gdt_reg I) o × IsRight I.first (gdt_reg I) t = subst (AreRight I.first (gdt_reg I)) p kn.good.right in
    let ht : IsTask I (num t) = task_number I t.selector rr.1.0 in
    let s0 = seg I (num t) 0 in
    let lo = o.selector % 256 in
    let by : bytes_of x.ask ≡ (s0, lo) ∷ [] = by0 ∙ (λ i. (seg_number I t 0 rr.1 i, lo) ∷ []) in
    let held : (book I G).held x.cpu ≡ Some (num t) = kn.good.holds ∙ ap holds p in
    let ow : 1 ≤ entries (book I G).waiting (num o) (num t) = subst (Owes (book I G)) p kn.good.owes in
    let eb = link_book I x G g2 (num t) w held in
    let low : mem I (after G x g2) s0 ≡ lo = mem_found I x G g2 s0 lo w.write w.space (kn.tidy.segments (num t) 0 ht (omega arith)) (found_one (bytes_of x.ask) s0 lo by) in
    moves_at I x G g2 (Linking o t) e
    (Link (num o) (num t) ht held (calm_at G x.cpu (Turned true o t nt true) p refl refl) ow (ap (λ y. y / 8) low ∙ low_number o.selector, inl (pending_at G x g2 (Linking o t) e)) (λ a d f. mem_missed I x G g2 a (missed_one (bytes_of x.ask) a s0 lo by d)) eb)
    (link_holds I x G g2 (num t) eb held) (subst (λ (b : Book). 1 ≤ entries b.waiting (num o) (num t)) (sym eb) (subst (λ es. 1 ≤ entries es (num o) (num t)) (sym (linked-rest (num t) (book I G)).1) ow)) (link_lives I x G g2 (num t) eb)

links_high_move : (I : Setting) (n : ℕ) (x : Cycle) (G : World) (g2 : Stage) (o t : Task) → Known I n x G → (G.at x.cpu).phase ≡ Linking o t → IsWritten x.ask roles.Link → bytes_of x.ask ≡ (segment_byte t.base 1, o.selector / 256 % 256) ∷ [] → g2.phase ≡ Called t → Move I x G g2
links_high_move I n x G g2 o t kn p w by0 e =
    let rr : IsRight I.first (gdt_reg I) o × IsRight I.first (gdt_reg I) t = subst (AreRight I.first (gdt_reg I)) p kn.good.right in
    let ht : IsTask I (num t) = task_number I t.selector rr.1.0 in
    let s1 = seg I (num t) 1 in
    let hi = o.selector / 256 % 256 in
    let by : bytes_of x.ask ≡ (s1, hi) ∷ [] = by0 ∙ (λ i. (seg_number I t 1 rr.1 i, hi) ∷ []) in
    let held : (book I G).held x.cpu ≡ Some (num t) = kn.good.holds ∙ ap holds p in
    let ow : 1 ≤ entries (book I G).waiting (num o) (num t) = subst (Owes (book I G)) p kn.good.owes in
    let live : (book I G).live (num t) ≡ true = subst (Lives I G) p kn.good.lives in
    let eb = link_book I x G g2 (num t) w held in
    let high : mem I (after G x g2) s1 ≡ hi = mem_found I x G g2 s1 hi w.write w.space (kn.tidy.segments (num t) 1 ht (omega arith)) (found_one (bytes_of x.ask) s1 hi by) in
    moves_at I x G g2 (Called t) e
    (LinkOn (num o) (num t) ht held (ap unsaved_of p) ow live (high ∙ high_number o.selector) (λ a d. mem_missed I x G g2 a (missed_one (bytes_of x.ask) a s1 hi by d)) eb)
    (link_holds I x G g2 (num t) eb held) tt (link_lives I x G g2 (num t) eb)

released-holds : (o : ℕ) (b : Book) (p : ℕ) → (released o b).held p ≡ b.held p
unfolding released
released-holds o b p = refl

returned-holds : (p o x : ℕ) (b : Book) → bys b.waiting o ≤ 1 → 1 ≤ entries b.waiting x o → (returned p o b).held p ≡ Some x
unfolding returned
returned-holds p o x b one en = put-here b.held p (waiter o b.waiting) ∙ waiter-is b.waiting x o one en

returned-live : (p o x : ℕ) (b : Book) → x ≢ o → (returned p o b).live x ≡ b.live x
unfolding returned
returned-live p o x b d = set-there b.live o x false d

releases_move : (I : Setting) (n : ℕ) (x : Cycle) (G : World) (g2 : Stage) (nt : Bool) (o t : Task) → Known I n x G → (G.at x.cpu).phase ≡ Turned false o t nt true → IsRelease (gdt_reg I) (G.at x.cpu) x.ask roles.RelJmp o → g2.phase ≡ Jumped t → Move I x G g2
releases_move I n x G g2 nt o t kn p q e =
    let rr : IsRight I.first (gdt_reg I) o × IsRight I.first (gdt_reg I) t = subst (AreRight I.first (gdt_reg I)) p kn.good.right in
    let ho : IsTask I (num o) = task_number I o.selector rr.0.0 in
    let v = bit_and q.b 0xfd in
    let by = at_flag I o.selector v x.ask roles.RelJmp kn.tidy rr.0.0.0 q.written in
    let held : (book I G).held x.cpu ≡ Some (num t) = kn.good.holds ∙ ap holds p in
    let ow : 1 ≤ entries (book I G).waiting (num o) (num t) = subst (Owes (book I G)) p kn.good.owes in
    let lv : Lives I G (Turned false o t nt true) = subst (Lives I G) p kn.good.lives in
    let eb = book_flag I x G g2 roles.RelJmp (num o) v kn.tidy ho q.written.write q.written.role by ∙ (release_effect x.cpu (num o) (book I G)).0 in
    moves_at I x G g2 (Jumped t) e (Release (num o) (num t) ho held (calm_at G x.cpu (Turned false o t nt true) p refl refl) ow lv.1 (but_one I x G g2 (flag I (num o)) v by) eb)
    (ap (λ (b : Book). b.held x.cpu) eb ∙ released-holds (num o) (book I G) x.cpu ∙ held) tt tt

-- what a read hears stands there
fresh : (I : Setting) (n : ℕ) (x : Cycle) (G : World) (a b : ℕ) → Known I n x G → x.ask.write ≡ false → Has (heard x.ask) a b → mem I G a ≡ b
unfolding Consistent
fresh I n x G a b kn w h = heard_stands I.first G.cycles x.ask x.ask.space refl (kn.consistent.0 w) a b h

linked-high : (I : Setting) (n p : ℕ) (G : World) (t : ℕ) → p < n → Gdt I n G → (book I G).held p ≡ Some t → pending G p ≡ false → (l : Linked I n G t) → mem I G (seg I t 1) ≡ l.older / 32 % 256
linked-high I n p G t hp gl held pd l = elim l.high [
  | inl ex ↦ absurd (elim (test ex.who p) [
    | inl s ↦ (let f = sym ex.pending ∙ ap (pending G) s.0 ∙ pd in cc)
    | inr s ↦ held-apart I n ex.who p t t G gl ex.below hp s.0 ex.holds held refl
  ])
  | inr m ↦ m
]

one-older : (I : Setting) (n : ℕ) (G : World) (x y t : ℕ) → Links I n G → 1 ≤ entries (book I G).waiting x t → 1 ≤ entries (book I G).waiting y t → x ≡ y
one-older I n G x y t ls ex ey = elim (test x y) [
  | inl s ↦ s.0
  | inr s ↦ absurd (let f = entries-bys-two (book I G).waiting x y t s.0 in let g = ls.single t in omega (arith, f, g, ex, ey))
]

-- the halves of the link that stand in memory are those of the one that waits
link_low : (I : Setting) (n : ℕ) (x : Cycle) (G : World) (o : Task) (y : ℕ) → Known I n x G → x.ask.write ≡ false → IsRight I.first (gdt_reg I) o → (l : Linked I n G (num o)) → Has (heard x.ask) (segment_byte o.base 0) y → y / 8 ≡ l.older % 32
link_low I n x G o y kn w r l h = ap (λ z. z / 8) (sym (fresh I n x G (segment_byte o.base 0) y kn w h) ∙ ap (mem I G) (seg_number I o 0 r)) ∙ l.low

link_high : (I : Setting) (n : ℕ) (x : Cycle) (G : World) (o : Task) (y older : ℕ) → Known I n x G → x.ask.write ≡ false → IsRight I.first (gdt_reg I) o → mem I G (seg I (num o) 1) ≡ older / 32 % 256 → Has (heard x.ask) (segment_byte o.base 1) y → y ≡ older / 32 % 256
link_high I n x G o y older kn w r m h = sym (fresh I n x G (segment_byte o.base 1) y kn w h) ∙ ap (mem I G) (seg_number I o 1 r) ∙ m

backs_move : (I : Setting) (n : ℕ) (x : Cycle) (G : World) (g2 : Stage) (o : Task) → Known I n x G → (G.at x.cpu).phase ≡ Free (Some o) true → x.ask.write ≡ false → g2.phase ≡ Backing o (heard x.ask) → Move I x G g2
backs_move I n x G g2 o kn p w e =
    let held : (book I G).held x.cpu ≡ Some (num o) = kn.good.holds ∙ ap holds p in
    let right : IsRight I.first (gdt_reg I) o = subst (AreRight I.first (gdt_reg I)) p kn.good.right in
    let lives : Lives I G (Free (Some o) true) = subst (Lives I G) p kn.good.lives in
    let live : (book I G).live (num o) ≡ true = lives refl in
    let l = kn.links.linked (num o) live in
    let high = linked-high I n x.cpu G (num o) kn.below kn.gdt held (ap pending_of p) l in
    let eb = book_read I x G g2 w in
    moves_at I x G g2 (Backing o (heard x.ask)) e (Silent eb (same_read I x G g2 w) (unsaved_at G x g2 (Backing o (heard x.ask)) e ∙ sym (ap unsaved_of p), pending_at G x g2 (Backing o (heard x.ask)) e ∙ sym (ap pending_of p))) (ap (λ b. b.held x.cpu) eb ∙ held)
    (subst (λ b. IsLinkRead b o (heard x.ask)) (sym eb) (record { older = l.older; entry = l.entry; low = λ y h. link_low I n x G o y kn w right l h; high = λ y h. link_high I n x G o y l.older kn w right high h }))
    (ap (λ b. b.live (num o)) eb ∙ live)

backs_on_move : (I : Setting) (n : ℕ) (x : Cycle) (G : World) (g2 : Stage) (o : Task) (bs : List (ℕ × ℕ)) → Known I n x G → (G.at x.cpu).phase ≡ Backing o bs → x.ask.write ≡ false → g2.phase ≡ Backing o (heard x.ask ++ bs) → Move I x G g2
backs_on_move I n x G g2 o bs kn p w e =
    let held : (book I G).held x.cpu ≡ Some (num o) = kn.good.holds ∙ ap holds p in
    let right : IsRight I.first (gdt_reg I) o = subst (AreRight I.first (gdt_reg I)) p kn.good.right in
    let live : (book I G).live (num o) ≡ true = subst (Lives I G) p kn.good.lives in
    let old : IsLinkRead (book I G) o bs = subst (Owes (book I G)) p kn.good.owes in
    let l = kn.links.linked (num o) live in
    let same : l.older ≡ old.older = one-older I n G l.older old.older (num o) kn.links l.entry old.entry in
    let high : mem I G (seg I (num o) 1) ≡ old.older / 32 % 256 = linked-high I n x.cpu G (num o) kn.below kn.gdt held (ap pending_of p) l ∙ ap (λ z. z / 32 % 256) same in
    let eb = book_read I x G g2 w in
    moves_at I x G g2 (Backing o (heard x.ask ++ bs)) e (Silent eb (same_read I x G g2 w) (unsaved_at G x g2 (Backing o (heard x.ask ++ bs)) e ∙ sym (ap unsaved_of p), pending_at G x g2 (Backing o (heard x.ask ++ bs)) e ∙ sym (ap pending_of p))) (ap (λ b. b.held x.cpu) eb ∙ held)
    (subst (λ b. IsLinkRead b o (heard x.ask ++ bs)) (sym eb) (record {
      older = old.older;
      entry = old.entry;
      low = λ y h. elim (either_has (heard x.ask) bs (segment_byte o.base 0) y h) [ inl k ↦ link_low I n x G o y kn w right l k ∙ ap (λ z. z % 32) same | inr k ↦ old.low y k ];
      high = λ y h. elim (either_has (heard x.ask) bs (segment_byte o.base 1) y h) [ inl k ↦ link_high I n x G o y old.older kn w right high k | inr k ↦ old.high y k ];
    }))
    (ap (λ b. b.live (num o)) eb ∙ live)

loads_move : (I : Setting) (n : ℕ) (x : Cycle) (G : World) (g2 : Stage) (t : Task) (b : ℕ) → Known I n x G → (G.at x.cpu).phase ≡ Returned t → x.ask.write ≡ false → Has (heard x.ask) (segment_byte t.base 37) b → g2.phase ≡ Ready t (nt_set b) → Move I x G g2
loads_move I n x G g2 t b kn p w h e =
    let right : IsRight I.first (gdt_reg I) t = subst (AreRight I.first (gdt_reg I)) p kn.good.right in
    let ok : FlagsOk I G (num t) = subst (Lives I G) p kn.good.lives in
    let value : mem I G (seg I (num t) 37) ≡ b = ap (mem I G) (sym (seg_number I t 37 right)) ∙ fresh I n x G (segment_byte t.base 37) b kn w h in
    let eb = book_read I x G g2 w in
    moves_at I x G g2 (Ready t (nt_set b)) e (Silent eb (same_read I x G g2 w) (unsaved_at G x g2 (Ready t (nt_set b)) e ∙ sym (ap unsaved_of p), pending_at G x g2 (Ready t (nt_set b)) e ∙ sym (ap pending_of p))) (ap (λ d. d.held x.cpu) eb ∙ kn.good.holds ∙ ap holds p) tt
    (λ k. ap (λ d. d.live (num t)) eb ∙ elim ok [ inl z ↦ absurd (let f : true ≡ false = sym k ∙ ap nt_set (sym value) ∙ z in cc) | inr l ↦ l ])

-- the number of the selector that the link names
halves : (older lo hi s : ℕ) → older < 8192 → lo / 8 ≡ older % 32 → hi ≡ older / 32 % 256 → s ≡ lo + hi * 2 ^ 8 → older ≡ s / 8
halves older lo hi s m a b c = omega (arith, m, a, b, c)

-- the task that IRET returns to is one, and waits by the one that it leaves
pub record Back (I : Setting) (G : World) (o y : Task) : Type 0 where
  pub entry : 1 ≤ entries (book I G).waiting (num y) (num o)
  pub task : IsTask I (num y)

back_is : (I : Setting) (n : ℕ) (x : Cycle) (G : World) (o y : Task) (bs : List (ℕ × ℕ)) (lo hi : ℕ) → Known I n x G → (G.at x.cpu).phase ≡ Backing o bs → Has bs (segment_byte o.base 0) lo → Has bs (segment_byte o.base 1) hi → y.selector ≡ lo + hi * 2 ^ 8 → Back I G o y
back_is I n x G o y bs lo hi kn p hl hh s =
    let old : IsLinkRead (book I G) o bs = subst (Owes (book I G)) p kn.good.owes in
    let ht : IsTask I old.older = kn.gdt.inside old.older (waits-stands I n old.older (num o) G old.entry) in
    let lim = task_limit I old.older ht in
    let most = kn.tidy.limit in
    let e : old.older ≡ num y = halves old.older lo hi y.selector (omega (arith, lim, most)) (old.low lo hl) (old.high hi hh) s in
    record { entry = subst (λ k. 1 ≤ entries (book I G).waiting k (num o)) e old.entry; task = subst (IsTask I) e ht }

pub back_right : (I : Setting) (n : ℕ) (x : Cycle) (G : World) (o y : Task) (bs : List (ℕ × ℕ)) (lo hi : ℕ) → Known I n x G → (G.at x.cpu).phase ≡ Backing o bs → Has bs (segment_byte o.base 0) lo → Has bs (segment_byte o.base 1) hi → y.selector ≡ lo + hi * 2 ^ 8 → NamesGdt (gdt_reg I) y.selector → IsBase (gdt_reg I) (G.at x.cpu).seen y → IsRight I.first (gdt_reg I) y
back_right I n x G o y bs lo hi kn p hl hh s nm b =
    ((nm, subst (λ a. IsTssByte (byte_in I.first spaces.Memory a)) (desc_same (gdt_reg I) y.selector 5) (back_is I n x G o y bs lo hi kn p hl hh s).task.1), base_right I.first (gdt_reg I) x.cpu (G.at x.cpu) G.cycles y kn.tidy.table kn.good.read nm b)

returns_move : (I : Setting) (n : ℕ) (x : Cycle) (G : World) (g2 : Stage) (o y : Task) (bs : List (ℕ × ℕ)) (lo hi : ℕ) → Known I n x G → (G.at x.cpu).phase ≡ Backing o bs → Has bs (segment_byte o.base 0) lo → Has bs (segment_byte o.base 1) hi → y.selector ≡ lo + hi * 2 ^ 8 → IsRelease (gdt_reg I) (G.at x.cpu) x.ask roles.RelRet o → g2.phase ≡ Returned y → Move I x G g2
returns_move I n x G g2 o y bs lo hi kn p hl hh s q e =
    let bk = book I G in
    let ro : IsRight I.first (gdt_reg I) o = subst (AreRight I.first (gdt_reg I)) p kn.good.right in
    let ho : IsTask I (num o) = task_number I o.selector ro.0 in
    let back = back_is I n x G o y bs lo hi kn p hl hh s in
    let held : bk.held x.cpu ≡ Some (num o) = kn.good.holds ∙ ap holds p in
    let calm = calm_at G x.cpu (Backing o bs) p refl refl in
    let one = kn.links.single (num o) in
    let v = bit_and q.b 0xfd in
    let by = at_flag I o.selector v x.ask roles.RelRet kn.tidy ro.0.0 q.written in
    let rest = but_one I x G g2 (flag I (num o)) v by in
    let eb = book_flag I x G g2 roles.RelRet (num o) v kn.tidy ho q.written.write q.written.role by ∙ (release_effect x.cpu (num o) bk).1 in
    let yo : num y ≢ num o = waits-apart I n x.cpu (num y) (num o) (num o) G kn.gdt kn.below held back.entry in
    moves_at I x G g2 (Returned y) e (Return (num o) (num y) ho held calm back.entry one rest eb) (ap (λ (d : Book). d.held x.cpu) eb ∙ returned-holds x.cpu (num o) (num y) bk one back.entry) tt
    (elim (kn.links.saved (num y) (num o) back.entry) [
      | inl z ↦ elim (test z.who x.cpu) [
        | inl w ↦ absurd (let f : true ≡ false = sym z.unsaved ∙ ap (unsaved G) w.0 ∙ calm.0 in cc)
        | inr w ↦ absurd (held-apart I n z.who x.cpu (num o) (num o) G kn.gdt z.below kn.below w.0 z.holds held refl)
      ]
      | inr ok ↦ flags-kept I (after G x g2) G (num y) (rest (seg I (num y) 37) (tss-flag I kn.tidy (num y) 37 (num o) back.task (omega arith) ho)) (λ h. ap (λ (d : Book). d.live (num y)) eb ∙ returned-live x.cpu (num o) (num y) bk yo ∙ h) ok
    ])

-- Each kind of cycle, from where its processor stands.
pub move : (I : Setting) (n : ℕ) (x : Cycle) (G : World) (g2 : Stage) → Known I n x G → Turn (gdt_reg I) (G.at x.cpu) x.ask g2 → Move I x G g2
move I n x G g2 k (Hears w e) = hears_move I n x G g2 k w (phase_is g2 _ e)
move I n x G g2 k (Stores w r e) = stores_move I n x G g2 k w r (phase_is g2 _ e)
move I n x G g2 k (Touches s b m h i w e) = touches_move I n x G g2 s b k m h w (phase_is g2 _ e)
move I n x G g2 k (Pops_set tr nt p w r q e) = pops_move I n x G g2 tr nt k p w r q (phase_is g2 _ e)
move I n x G g2 k (Claims c nt o t p q e) = claims_move I n x G g2 c nt o t k p q (phase_is g2 _ e)
move I n x G g2 k (Claims_start tr nt t p q e) = claims_start_move I n x G g2 tr nt t k p q (phase_is g2 _ e)
move I n x G g2 k (Claims_ltr tr nt t p q e) = claims_ltr_move I n x G g2 tr nt t k p q (phase_is g2 _ e)
move I n x G g2 k (Saves c nt z o t p w h e) = saves_move I n x G g2 c nt z o t k p w h (phase_is g2 _ e)
move I n x G g2 k (Saves_flags c nt z o t b p w h i f e) = saves_flags_move I n x G g2 c nt z o t b k p w h i f (phase_is g2 _ e)
move I n x G g2 k (Saves_back o bs p w h e) = saves_back_move I n x G g2 o bs k p w h (phase_is g2 _ e)
move I n x G g2 k (Links_whole nt o t p w b e) = links_whole_move I n x G g2 nt o t k p w b (phase_is g2 _ e)
move I n x G g2 k (Links_low nt o t p w b e) = links_low_move I n x G g2 nt o t k p w b (phase_is g2 _ e)
move I n x G g2 k (Links_high o t p w b e) = links_high_move I n x G g2 o t k p w b (phase_is g2 _ e)
move I n x G g2 k (Releases nt o t p q e) = releases_move I n x G g2 nt o t k p q (phase_is g2 _ e)
move I n x G g2 k (Backs o p w r e) = backs_move I n x G g2 o k p w (phase_is g2 _ e)
move I n x G g2 k (Backs_on o bs p w r e) = backs_on_move I n x G g2 o bs k p w (phase_is g2 _ e)
move I n x G g2 k (Returns o t bs lo hi p l h q m b r e) = returns_move I n x G g2 o t bs lo hi k p l h q r (phase_is g2 _ e)
move I n x G g2 k (Loads_flags t b p w r h e) = loads_move I n x G g2 t b k p w h (phase_is g2 _ e)
