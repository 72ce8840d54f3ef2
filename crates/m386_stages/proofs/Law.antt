-- Each kind of switch keeps to the stages.
use Rattle.std.proofs.Common.{arith, ◌≡◌, ℕ, ◌+◌, ◌*◌, ◌/◌, ◌%◌, ◌^◌, ◌==◌, ◌∙◌, refl, sym, ap, subst, List, Bool, true, false, not, ◌&&◌, Some, None, slice_index}
use Rattle.m386_base.specs.declared.ask.Ask.{Ask}
use Rattle.m386_base.specs.declared.ask.Role.{Role}
use Rattle.m386_base.specs.declared.ask.Role.TheVariants as roles
use Rattle.m386_base.specs.declared.desc.Desc.{Desc}
use Rattle.m386_base.specs.declared.number.Flags.{Flags}
use Rattle.m386_base.specs.Split.{byte}
use Rattle.m386_base.specs.Phrase.{Done, ◌>>=◌}
use Rattle.m386_checks.specs.declared.facts.Facts.{Facts}
use Rattle.m386_base.specs.declared.kind.SwitchKind.{SwitchKind}
use Rattle.m386_base.specs.declared.kind.SwitchKind.TheVariants as switches
use Rattle.m386_checks.specs.First.{old_fail_of}
use Rattle.m386_checks.specs.Holds.{mark_wanted}
use Rattle.m386_desc.specs.Selector.{is_null_selector, names_ldt, is_in_table, place_in}
use Rattle.m386_state.specs.declared.proc.Proc.{Proc}
use Rattle.m386_state.specs.declared.segment.Seg.{Seg}
use Rattle.m386_state.specs.declared.segment.TableReg.{TableReg}
use Rattle.m386_tss.specs.Orders.{saved_fields}
use Rattle.m386_switch.specs.Parts.{is_admitted, is_iret, link_phrase, with_tss, claim_phrase, claim_role, saves, saved_flags, save_phrase, relink_phrase, release_phrase, clear_phrase}
use Rattle.m386_switch.specs.Switch.{entered, entered_flags, facts_at_first, stayed, leave_phrase, enter_phrase, claimed_phrase, named_phrase, work_phrase, switch_phrase}
use Rattle.m386_stages.specs.Stages.{Stage, Phase, Free, Turned, Called, Jumped, Backing, Returned, Ready, Task, Turn, Claims, Claims_start, Releases, Returns, Keeps, shut, IsBase, IsClaim, nt_set, task_of, EndsIn, begins, segment_byte, Left, Allowed, MayNest}
use Rattle.m386_stages.proofs.Chains.{keeps_then, keeps_done, keeps_if}
use Rattle.m386_stages.proofs.OneByte.{keeps_clear}
use Rattle.m386_stages.proofs.Saved.{Stays}
use Rattle.m386_stages.proofs.Moved.{keeps_all_saves, keeps_all_back}
use Rattle.m386_stages.proofs.Linked.{Grows, GotLink, keeps_link, keeps_back}
use Rattle.m386_stages.proofs.Claimed.{Claimed, Looked, task_in, keeps_claim, keeps_look, and-l, and-r, is_none_none}
use Rattle.m386_stages.proofs.Described.{Six}
use Rattle.m386_stages.proofs.Entered.{nt14, keeps_enter, keeps_enter_flags}
use Rattle.m386_switch.proofs.Nested.{entered_nested}
use Rattle.m386_switch.specs.Fields.{field_phrase}
use Rattle.m386_base.specs.Bytes.{Has}
use Rattle.m386_base.specs.Laws.{Turns}
use Rattle.m386_access.specs.Ordinary.{NamesGdt, is_nested}

not_false : (b : Bool) → not b ≡ true → b ≡ false
not_false true h = absurd cc
not_false false h = refl

-- the same kind and selector
abbrev Alike : Facts → Facts → Type 0
Alike f f2 = (f2.kind ≡ f.kind) × (f2.selector ≡ f.selector)

-- the task that a usable TR names
abbrev pub tr_task : Proc → Task
tr_task p = record { selector = p.tr.selector; base = p.tr.desc.base }

has_task : (s : Seg) → s.usable ≡ true → task_of s ≡ Some (record { selector = s.selector; base = s.desc.base })
has_task s h = rw h refl

no_task : (s : Seg) → s.usable ≡ false → task_of s ≡ None
no_task s h = rw h refl

nt_saved : (v : ℕ) → nt_set (byte v 1) ≡ true → nt14 v ≡ true
nt_saved v h = let z : v / 2 ^ 14 % 2 ≡ byte v 1 / 2 ^ 6 % 2 = omega arith in ap (λ x. x == 1) z ∙ h

-- the state before is left, in the phase before
stays : (p : Proc) (f : Facts) (g : Stage) (ph : Phase) → g.phase ≡ ph → EndsIn p ph → Left p g (stayed p f)
stays p f g ph e h = record { stands = subst (EndsIn p) (sym e) h; gdtr = refl; told = λ x q c. subst (EndsIn p) (sym e) h }

-- from the claim on, of a kind that claims
claimed_keeps : (p : Proc) (f : Facts) (d : Desc) (ph0 : Phase) (ph ph_end : Task → Phase) (g : Stage) → Six f → EndsIn p ph0 → (is_admitted (with_tss f d) ≡ true → g.phase ≡ ph (task_in f.selector d)) → (is_admitted (with_tss f d) ≡ false → g.phase ≡ ph0)
    → ((g1 : Stage) → g1.phase ≡ ph (task_in f.selector d) → Keeps p.gdtr (λ g2 u. g2.phase ≡ ph_end (task_in f.selector d)) g1 (leave_phrase p f.kind d.base))
    → ((l : List ℕ) (f2 : Facts) → Alike f f2 → EndsIn (entered p d l f2) (ph_end (task_in f.selector d)))
    → Keeps p.gdtr (Left p) g (claimed_phrase p f d)
unfolding claimed_phrase is_admitted
claimed_keeps p f d ph0 ph ph_end g n s done not leave ends =
    keeps_if p.gdtr (Left p) g (is_admitted (with_tss f d)) (leave_phrase p f.kind d.base >>= (λ _. enter_phrase p d (with_tss f d))) (Done (stayed p (with_tss f d)))
    (λ q. keeps_then p.gdtr (λ g2 u. g2.phase ≡ ph_end (task_in f.selector d)) (Left p) g (leave_phrase p f.kind d.base) _ (leave g (done q)) (λ u g2 e. keeps_enter p d (with_tss f d) (ph_end (task_in f.selector d)) g2 e n (is_none_none (old_fail_of (with_tss f d)) q) (λ l f2 s. ends l f2 (s.0, s.1))))
    (λ q. keeps_done p.gdtr (Left p) g _ (stays p (with_tss f d) g ph0 (not q) s))

-- the names test
named : (gdt : TableReg) (f : Facts) → f.in_gdt ≡ is_in_table f.selector gdt.limit → (not (is_null_selector f.selector) && not (names_ldt f.selector) && f.in_gdt) ≡ true → NamesGdt gdt f.selector
named gdt f i q =
    let r : (not (is_null_selector f.selector) && not (names_ldt f.selector)) ≡ true = and-l (not (is_null_selector f.selector) && not (names_ldt f.selector)) f.in_gdt q in
    let l : f.in_gdt ≡ true = and-r (not (is_null_selector f.selector) && not (names_ldt f.selector)) f.in_gdt q in
    record { some = not_false _ (and-l _ _ r); table = not_false _ (and-r (not (is_null_selector f.selector)) _ r); inside = sym i ∙ l }

-- a link that was read, by its bytes
record Linked (p : Proc) (s : ℕ) (g2 : Stage) : Type 0 where
  bs : List (ℕ × ℕ)
  lo : ℕ
  hi : ℕ
  phase : g2.phase ≡ Backing (tr_task p) bs
  low : Has bs (segment_byte p.tr.desc.base 0) lo
  high : Has bs (segment_byte p.tr.desc.base 1) hi
  sum : s ≡ lo + hi * 2 ^ 8

base_more : (gdt : TableReg) (g g2 : Stage) (t : Task) → Grows g g2 → IsBase gdt g.seen t → IsBase gdt g2.seen t
base_more gdt g g2 t m b = record { b2 = b.b2; b3 = b.b3; b4 = b.b4; b7 = b.b7; h2 = m _ _ b.h2; h3 = m _ _ b.h3; h4 = m _ _ b.h4; h7 = m _ _ b.h7; base = b.base }

-- from the selector on
named_keeps : (p : Proc) (f : Facts) (role : Role) (ph0 : Phase) (ph ph_end : Task → Phase) (g : Stage) → f.in_gdt ≡ is_in_table f.selector p.gdtr.limit → claim_role f.kind ≡ role → is_iret f.kind ≡ false → mark_wanted f.kind ≡ false → Six f → g.phase ≡ ph0 → EndsIn p ph0
    → ((g1 : Stage) (c : Ask) (t : Task) → g1.phase ≡ ph0 → IsClaim p.gdtr g1 c role t → Turn p.gdtr g1 c (shut g1 (ph t)))
    → ((d : Desc) (g1 : Stage) → g1.phase ≡ ph (task_in f.selector d) → Keeps p.gdtr (λ g2 u. g2.phase ≡ ph_end (task_in f.selector d)) g1 (leave_phrase p f.kind d.base))
    → ((d : Desc) (l : List ℕ) (f2 : Facts) → Alike f f2 → EndsIn (entered p d l f2) (ph_end (task_in f.selector d)))
    → Keeps p.gdtr (Left p) g (named_phrase p f)
unfolding named_phrase
named_keeps p f role ph0 ph ph_end g i er ei em n e s turn leave ends =
    keeps_if p.gdtr (Left p) g (not (is_null_selector f.selector) && not (names_ldt f.selector) && f.in_gdt) (claim_phrase (place_in p.gdtr.base f.selector) f >>= (λ d. claimed_phrase p f d)) (Done (stayed p f))
    (λ q. keeps_then p.gdtr (Claimed p.gdtr f ph g) (Left p) g (claim_phrase (place_in p.gdtr.base f.selector) f) _ (keeps_claim p.gdtr f role ph g er ei em (named p.gdtr f i q) (λ g1 c t h. turn g1 c t (h ∙ e)))
    (λ d g1 c. claimed_keeps p f d ph0 ph ph_end g1 n s c.done (λ x. c.not x ∙ e) (leave d) (ends d)))
    (λ q. keeps_done p.gdtr (Left p) g _ (stays p f g ph0 e s))

-- where TR is usable
free_named : (p : Proc) (nt : Bool) → p.tr.usable ≡ true → Free (task_of p.tr) nt ≡ Free (Some (tr_task p)) nt
free_named p nt u = ap (λ t. Free t nt) (has_task p.tr u)

free_ends : (p : Proc) (nt : Bool) → MayNest p nt → p.tr.usable ≡ true → EndsIn p (Free (Some (tr_task p)) nt)
free_ends p nt m u = (has_task p.tr u, m)

-- JMP and CALL and events save NT as it is
turned_saves : (p : Proc) (nt : Bool) (kind : SwitchKind) (k : Bool) (t : Task) (g : Stage) → MayNest p nt → saved_flags kind p.eflags ≡ p.eflags → g.phase ≡ Turned k (tr_task p) t nt false → Keeps p.gdtr (Stays (Turned k (tr_task p) t nt true) g) g (saves kind p saved_fields)
turned_saves p nt kind k t g m same e = keeps_all_saves p.gdtr k nt (tr_task p) t kind p g refl (λ h. m (nt_saved p.eflags.0 (subst (λ (v : Flags). nt_set (byte v.0 1) ≡ true) same h))) e

jmp_leave : (p : Proc) (nt : Bool) (t : Task) (base : ℕ) (g : Stage) → MayNest p nt → g.phase ≡ Turned false (tr_task p) t nt false → Keeps p.gdtr (λ g2 u. g2.phase ≡ Jumped t) g (leave_phrase p switches.Jmp base)
unfolding leave_phrase save_phrase relink_phrase release_phrase ◌>>=◌
jmp_leave p nt t base g m e =
    keeps_then p.gdtr (Stays (Turned false (tr_task p) t nt true) g) (λ g2 u. g2.phase ≡ Jumped t) g (saves switches.Jmp p saved_fields) _ (turned_saves p nt switches.Jmp false t g m refl e) (λ u g1 a.
    keeps_clear p.gdtr g1 roles.RelJmp (tr_task p) (Jumped t) (λ g2 c h m r. Releases nt (tr_task p) t (h ∙ a.0) r refl))

jmp_ends : (p : Proc) (f : Facts) (d : Desc) (l : List ℕ) (f2 : Facts) → f.kind ≡ switches.Jmp → Alike f f2 → EndsIn (entered p d l f2) (Jumped (task_in f.selector d))
jmp_ends p f d l f2 k s = (ap (λ x. Some (task_in x d)) s.1, (let q : f2.kind ≡ switches.Jmp = s.0 ∙ k in ap (λ x. nt14 (entered_flags x (slice_index l 1)).0) q ∙ entered_nested switches.Jmp (slice_index l 1)))

jmp_named : (p : Proc) (nt : Bool) (g : Stage) (selector : ℕ) (direct ext : Bool) → MayNest p nt → g.phase ≡ Free (task_of p.tr) nt → p.tr.usable ≡ true → Keeps p.gdtr (Left p) g (named_phrase p (facts_at_first p switches.Jmp selector direct ext))
jmp_named p nt g selector direct ext m e u =
    named_keeps p (facts_at_first p switches.Jmp selector direct ext) roles.ClaimJmp (Free (Some (tr_task p)) nt) (λ t. Turned false (tr_task p) t nt false) Jumped g refl refl refl refl refl (e ∙ free_named p nt u) (free_ends p nt m u)
    (λ g1 c t h q. Claims false nt (tr_task p) t h q refl)
    (λ d g1 e. jmp_leave p nt (task_in selector d) d.base g1 m e)
    (λ d l f2 s. jmp_ends p (facts_at_first p switches.Jmp selector direct ext) d l f2 refl s)

-- A JMP keeps to the stages.
jmp_keeps : (p : Proc) (nt : Bool) (g : Stage) (selector : ℕ) (direct ext : Bool) → MayNest p nt → g.phase ≡ Free (task_of p.tr) nt → Keeps p.gdtr (Left p) g (work_phrase p switches.Jmp selector direct ext)
unfolding work_phrase link_phrase ◌>>=◌
jmp_keeps p nt g selector direct ext m e =
    keeps_if p.gdtr (Left p) g p.tr.usable (named_phrase p (facts_at_first p switches.Jmp selector direct ext)) (Done (stayed p (facts_at_first p switches.Jmp selector direct ext)))
    (λ u. jmp_named p nt g selector direct ext m e u)
    (λ u. keeps_done p.gdtr (Left p) g _ (stays p (facts_at_first p switches.Jmp selector direct ext) g (Free (task_of p.tr) nt) e (refl, m)))

call_leave : (p : Proc) (nt : Bool) (t : Task) (g : Stage) → MayNest p nt → g.phase ≡ Turned true (tr_task p) t nt false → Keeps p.gdtr (λ g2 u. g2.phase ≡ Called t) g (leave_phrase p switches.Call t.base)
unfolding leave_phrase save_phrase relink_phrase release_phrase
call_leave p nt t g m e =
    keeps_then p.gdtr (Stays (Turned true (tr_task p) t nt true) g) (λ g2 u. g2.phase ≡ Called t) g (saves switches.Call p saved_fields) _ (turned_saves p nt switches.Call true t g m refl e) (λ u g1 a.
    keeps_then p.gdtr (λ g2 u. g2.phase ≡ Called t) (λ g2 u. g2.phase ≡ Called t) g1 _ _ (keeps_link p.gdtr nt (tr_task p) t g1 a.0) (λ w g2 h. keeps_done p.gdtr (λ g2 u. g2.phase ≡ Called t) g2 tt h))

call_keeps : (p : Proc) (nt : Bool) (g : Stage) (selector : ℕ) (direct ext : Bool) → MayNest p nt → g.phase ≡ Free (task_of p.tr) nt → Keeps p.gdtr (Left p) g (work_phrase p switches.Call selector direct ext)
unfolding work_phrase link_phrase ◌>>=◌
call_keeps p nt g selector direct ext m e =
    keeps_if p.gdtr (Left p) g p.tr.usable (named_phrase p (facts_at_first p switches.Call selector direct ext)) (Done (stayed p (facts_at_first p switches.Call selector direct ext)))
    (λ u. named_keeps p (facts_at_first p switches.Call selector direct ext) roles.ClaimCall (Free (Some (tr_task p)) nt) (λ t. Turned true (tr_task p) t nt false) Called g refl refl refl refl refl (e ∙ free_named p nt u) (free_ends p nt m u)
    (λ g1 c t h q. Claims true nt (tr_task p) t h q refl)
    (λ d g1 e. call_leave p nt (task_in selector d) g1 m e)
    (λ d l f2 s. ap (λ x. Some (task_in x d)) s.1))
    (λ u. keeps_done p.gdtr (Left p) g _ (stays p (facts_at_first p switches.Call selector direct ext) g (Free (task_of p.tr) nt) e (refl, m)))

event_leave : (p : Proc) (nt : Bool) (t : Task) (g : Stage) → MayNest p nt → g.phase ≡ Turned true (tr_task p) t nt false → Keeps p.gdtr (λ g2 u. g2.phase ≡ Called t) g (leave_phrase p switches.Event t.base)
unfolding leave_phrase save_phrase relink_phrase release_phrase
event_leave p nt t g m e =
    keeps_then p.gdtr (Stays (Turned true (tr_task p) t nt true) g) (λ g2 u. g2.phase ≡ Called t) g (saves switches.Event p saved_fields) _ (turned_saves p nt switches.Event true t g m refl e) (λ u g1 a.
    keeps_then p.gdtr (λ g2 u. g2.phase ≡ Called t) (λ g2 u. g2.phase ≡ Called t) g1 _ _ (keeps_link p.gdtr nt (tr_task p) t g1 a.0) (λ w g2 h. keeps_done p.gdtr (λ g2 u. g2.phase ≡ Called t) g2 tt h))

event_keeps : (p : Proc) (nt : Bool) (g : Stage) (selector : ℕ) (direct ext : Bool) → MayNest p nt → g.phase ≡ Free (task_of p.tr) nt → Keeps p.gdtr (Left p) g (work_phrase p switches.Event selector direct ext)
unfolding work_phrase link_phrase ◌>>=◌
event_keeps p nt g selector direct ext m e =
    keeps_if p.gdtr (Left p) g p.tr.usable (named_phrase p (facts_at_first p switches.Event selector direct ext)) (Done (stayed p (facts_at_first p switches.Event selector direct ext)))
    (λ u. named_keeps p (facts_at_first p switches.Event selector direct ext) roles.ClaimCall (Free (Some (tr_task p)) nt) (λ t. Turned true (tr_task p) t nt false) Called g refl refl refl refl refl (e ∙ free_named p nt u) (free_ends p nt m u)
    (λ g1 c t h q. Claims true nt (tr_task p) t h q refl)
    (λ d g1 e. event_leave p nt (task_in selector d) g1 m e)
    (λ d l f2 s. ap (λ x. Some (task_in x d)) s.1))
    (λ u. keeps_done p.gdtr (Left p) g _ (stays p (facts_at_first p switches.Event selector direct ext) g (Free (task_of p.tr) nt) e (refl, m)))

start_leave : (p : Proc) (t : Task) (base : ℕ) (g : Stage) → g.phase ≡ Jumped t → Keeps p.gdtr (λ g2 u. g2.phase ≡ Jumped t) g (leave_phrase p switches.Start base)
unfolding leave_phrase save_phrase relink_phrase release_phrase ◌>>=◌
start_leave p t base g e = keeps_done p.gdtr (λ g2 u. g2.phase ≡ Jumped t) g tt e

start_ends : (p : Proc) (f : Facts) (d : Desc) (l : List ℕ) (f2 : Facts) → f.kind ≡ switches.Start → Alike f f2 → EndsIn (entered p d l f2) (Jumped (task_in f.selector d))
start_ends p f d l f2 k s = (ap (λ x. Some (task_in x d)) s.1, (let q : f2.kind ≡ switches.Start = s.0 ∙ k in ap (λ x. nt14 (entered_flags x (slice_index l 1)).0) q ∙ entered_nested switches.Start (slice_index l 1)))

-- A start keeps to the stages, whatever TR is.
start_keeps : (p : Proc) (nt : Bool) (g : Stage) (selector : ℕ) (direct ext : Bool) → MayNest p nt → g.phase ≡ Free (task_of p.tr) nt → Keeps p.gdtr (Left p) g (work_phrase p switches.Start selector direct ext)
unfolding work_phrase link_phrase ◌>>=◌
start_keeps p nt g selector direct ext m e =
    named_keeps p (facts_at_first p switches.Start selector direct ext) roles.ClaimStart (Free (task_of p.tr) nt) Jumped Jumped g refl refl refl refl refl e (refl, m)
    (λ g1 c t h q. Claims_start (task_of p.tr) nt t h q refl)
    (λ d g1 e. start_leave p (task_in selector d) d.base g1 e)
    (λ d l f2 s. start_ends p (facts_at_first p switches.Start selector direct ext) d l f2 refl s)

release_iret : (p : Proc) (x : Task) (bs : List (ℕ × ℕ)) (lo hi : ℕ) (g : Stage) → g.phase ≡ Backing (tr_task p) bs → Has bs (segment_byte p.tr.desc.base 0) lo → Has bs (segment_byte p.tr.desc.base 1) hi → x.selector ≡ lo + hi * 2 ^ 8 → NamesGdt p.gdtr x.selector → IsBase p.gdtr g.seen x
    → Keeps p.gdtr (λ g2 u. g2.phase ≡ Returned x) g (clear_phrase roles.RelRet (place_in p.gdtr.base p.tr.selector))
release_iret p x bs lo hi g e hl hh s n b =
    keeps_clear p.gdtr g roles.RelRet (tr_task p) (Returned x) (λ g2 c h m r. Returns (tr_task p) x bs lo hi (h ∙ e) hl hh s n (base_more p.gdtr g g2 x m b) r refl)

iret_leave : (p : Proc) (x : Task) (bs : List (ℕ × ℕ)) (lo hi base : ℕ) (g : Stage) → g.phase ≡ Backing (tr_task p) bs → Has bs (segment_byte p.tr.desc.base 0) lo → Has bs (segment_byte p.tr.desc.base 1) hi → x.selector ≡ lo + hi * 2 ^ 8 → NamesGdt p.gdtr x.selector → IsBase p.gdtr g.seen x
    → Keeps p.gdtr (λ g2 u. g2.phase ≡ Returned x) g (leave_phrase p switches.Iret base)
unfolding leave_phrase save_phrase relink_phrase release_phrase ◌>>=◌
iret_leave p x bs lo hi base g e hl hh s n b =
    keeps_then p.gdtr (Stays (Backing (tr_task p) bs) g) (λ g2 u. g2.phase ≡ Returned x) g (saves switches.Iret p saved_fields) _ (keeps_all_back p.gdtr (tr_task p) bs switches.Iret p g refl e) (λ u g1 a.
    release_iret p x bs lo hi g1 a.0 hl hh s n (subst (λ z. IsBase p.gdtr z x) (sym a.1) b))

iret_ends : (p : Proc) (f : Facts) (d : Desc) (l : List ℕ) (f2 : Facts) → f.kind ≡ switches.Iret → Alike f f2 → EndsIn (entered p d l f2) (Ready (task_in f.selector d) (nt14 (slice_index l 1)))
iret_ends p f d l f2 k s = (ap (λ x. Some (task_in x d)) s.1, (let q : f2.kind ≡ switches.Iret = s.0 ∙ k in ap (λ x. nt14 (entered_flags x (slice_index l 1)).0) q ∙ entered_nested switches.Iret (slice_index l 1)))

iret_claimed : (p : Proc) (f : Facts) (d : Desc) (bs : List (ℕ × ℕ)) (lo hi : ℕ) (g : Stage) → f.kind ≡ switches.Iret → Six f → p.tr.usable ≡ true → g.phase ≡ Backing (tr_task p) bs → Has bs (segment_byte p.tr.desc.base 0) lo → Has bs (segment_byte p.tr.desc.base 1) hi → f.selector ≡ lo + hi * 2 ^ 8 → NamesGdt p.gdtr f.selector → IsBase p.gdtr g.seen (task_in f.selector d)
    → Keeps p.gdtr (Left p) g (claimed_phrase p f d)
unfolding claimed_phrase is_admitted
iret_claimed p f d bs lo hi g k n u e hl hh s names b =
    keeps_if p.gdtr (Left p) g (is_admitted (with_tss f d)) (leave_phrase p f.kind d.base >>= (λ _. enter_phrase p d (with_tss f d))) (Done (stayed p (with_tss f d)))
    (λ q. keeps_then p.gdtr (λ g2 w. g2.phase ≡ Returned (task_in f.selector d)) (Left p) g (leave_phrase p f.kind d.base) _
    (subst (λ z. Keeps p.gdtr (λ g2 w. g2.phase ≡ Returned (task_in f.selector d)) g (leave_phrase p z d.base)) (sym k) (iret_leave p (task_in f.selector d) bs lo hi d.base g e hl hh s names b))
    (λ w g2 h. keeps_enter_flags p d (with_tss f d) (task_in f.selector d) g2 h refl n (is_none_none (old_fail_of (with_tss f d)) q) (λ l f2 same. iret_ends p f d l f2 k (same.0, same.1))))
    (λ q. keeps_done p.gdtr (Left p) g _ (stays p (with_tss f d) g (Backing (tr_task p) bs) e (has_task p.tr u)))

iret_named : (p : Proc) (selector : ℕ) (direct ext : Bool) (bs : List (ℕ × ℕ)) (lo hi : ℕ) (g : Stage) → p.tr.usable ≡ true → g.phase ≡ Backing (tr_task p) bs → Has bs (segment_byte p.tr.desc.base 0) lo → Has bs (segment_byte p.tr.desc.base 1) hi → selector ≡ lo + hi * 2 ^ 8
    → Keeps p.gdtr (Left p) g (named_phrase p (facts_at_first p switches.Iret selector direct ext))
unfolding named_phrase
iret_named p selector direct ext bs lo hi g u e hl hh s =
    keeps_if p.gdtr (Left p) g (not (is_null_selector f.selector) && not (names_ldt f.selector) && f.in_gdt) (claim_phrase (place_in p.gdtr.base f.selector) f >>= (λ d. claimed_phrase p f d)) (Done (stayed p f))
    (λ q. keeps_then p.gdtr (Looked p.gdtr f.selector g) (Left p) g (claim_phrase (place_in p.gdtr.base f.selector) f) _ (keeps_look p.gdtr f g refl)
    (λ d g1 c. iret_claimed p f d bs lo hi g1 refl refl u (c.phase ∙ e) hl hh s (named p.gdtr f refl q) c.base))
    (λ q. keeps_done p.gdtr (Left p) g _ (stays p f g (Backing (tr_task p) bs) e (has_task p.tr u)))
  where
    f : Facts
    f = facts_at_first p switches.Iret selector direct ext

-- An IRET keeps to the stages where NT is 1.
iret_keeps : (p : Proc) (nt : Bool) (g : Stage) (selector : ℕ) (direct ext : Bool) → MayNest p nt → g.phase ≡ Free (task_of p.tr) nt → is_nested p ≡ true → Keeps p.gdtr (Left p) g (work_phrase p switches.Iret selector direct ext)
unfolding work_phrase link_phrase
iret_keeps p nt g selector direct ext m e is =
    keeps_if p.gdtr (Left p) g p.tr.usable ((field_phrase roles.Back p.tr.desc.base 0 >>= (λ v. Done (v % 2 ^ 16))) >>= (λ named. named_phrase p (facts_at_first p switches.Iret named direct ext))) (Done (stayed p (facts_at_first p switches.Iret selector direct ext)))
    (λ u. keeps_then p.gdtr (λ g2 s. Linked p s g2) (Left p) g (field_phrase roles.Back p.tr.desc.base 0 >>= (λ v. Done (v % 2 ^ 16))) _
    (keeps_then p.gdtr (GotLink (tr_task p) g) (λ g2 s. Linked p s g2) g (field_phrase roles.Back p.tr.desc.base 0) _ (keeps_back p.gdtr (tr_task p) g (e ∙ ap (λ t. Free t nt) (has_task p.tr u) ∙ ap (Free (Some (tr_task p))) (m is)))
    (λ v g1 h. keeps_done p.gdtr (λ g2 s. Linked p s g2) g1 (v % 2 ^ 16) (record { bs = h.bs; lo = v % 2 ^ 8; hi = v / 2 ^ 8 % 2 ^ 8; phase = h.phase; low = h.low; high = h.high; sum = (let l = h.short in omega (arith, l)) })))
    (λ s g2 h. iret_named p s direct ext h.bs h.lo h.hi g2 u h.phase h.low h.high h.sum))
    (λ u. keeps_done p.gdtr (Left p) g _ (stays p (facts_at_first p switches.Iret selector direct ext) g (Free (task_of p.tr) nt) e (refl, m)))

-- Each kind of switch keeps to the stages from any stage before a claim, and ends in the state that its stage says.
pub switch_keeps_from : (p : Proc) (nt : Bool) (g : Stage) (kind : SwitchKind) (selector : ℕ) (direct ext : Bool) → MayNest p nt → g.phase ≡ Free (task_of p.tr) nt → Allowed p kind → Keeps p.gdtr (Left p) g (work_phrase p kind selector direct ext)
switch_keeps_from p nt g switches.Jmp selector direct ext m e h = jmp_keeps p nt g selector direct ext m e
switch_keeps_from p nt g switches.Call selector direct ext m e h = call_keeps p nt g selector direct ext m e
switch_keeps_from p nt g switches.Event selector direct ext m e h = event_keeps p nt g selector direct ext m e
switch_keeps_from p nt g switches.Iret selector direct ext m e h = iret_keeps p nt g selector direct ext m e h
switch_keeps_from p nt g switches.Start selector direct ext m e h = start_keeps p nt g selector direct ext m e

pub switch_keeps : (p : Proc) (kind : SwitchKind) (selector : ℕ) (direct ext : Bool) → Allowed p kind → Keeps p.gdtr (Left p) (begins p) (switch_phrase p kind selector direct ext)
unfolding Keeps Turns switch_phrase
switch_keeps p kind selector direct ext h = switch_keeps_from p (is_nested p) (begins p) kind selector direct ext (λ n. n) refl h
