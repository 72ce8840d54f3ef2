-- Each switch ends whole or at its first failing row.
use Rattle.std.proofs.Common.{zero, suc, ◌≡◌, ℕ, ◌<◌, Bool, true, false, List, [], ◌∷◌, ◌++◌, refl, sym, ◌∙◌, subst, ◌&&◌, ◌||◌, not, arith, bit_and, bit_or, Option, Some, None, IsSome, slice_index}
use Rattle.std.proofs.lemmas.Bool.{and_parts}
use Rattle.m386_base.specs.declared.ask.Ask.{Ask}
use Rattle.m386_base.specs.declared.ask.Role.TheVariants as roles
use Rattle.m386_base.specs.declared.desc.Desc.{Desc}
use Rattle.m386_base.specs.declared.kind.SwitchKind.{SwitchKind}
use Rattle.m386_base.specs.declared.kind.SwitchKind.TheVariants as switches
use Rattle.m386_base.specs.Bus.{cycle_of}
use Rattle.m386_base.specs.Split.{gather_of}
use Rattle.m386_base.specs.Phrase.{Phrase, Done, Attempt, ◌>>=◌}
use Rattle.m386_access.specs.Access.{read_ask, write_ask}
use Rattle.m386_checks.specs.declared.facts.Facts.{Facts}
use Rattle.m386_checks.specs.declared.facts.Fail.{Fail}
use Rattle.m386_checks.specs.First.{first_fail_of, old_fail_of, first_false}
use Rattle.m386_checks.specs.Holds.{test_holds, is_start, selector_at, descriptor_at}
use Rattle.m386_desc.specs.Bytes.{descriptor_in, two_doublewords}
use Rattle.m386_desc.specs.Selector.{is_null_selector, place_in}
use Rattle.m386_segload.specs.Descriptors.{descriptor_phrase, access_byte_phrase}
use Rattle.m386_state.specs.declared.proc.Proc.{Proc}
use Rattle.m386_state.specs.Start.{seg_at}
use Rattle.m386_tss.specs.Fields.{field_at}
use Rattle.m386_tss.specs.Orders.{saved_fields, loaded_fields}
use Rattle.m386_switch.specs.declared.outcome.Switched.{Switched}
use Rattle.m386_switch.specs.Ends.{EndsAs, EndsBy, IsReadFor, AreSaved, AreReleased, claims_of, links_of, all_marks_of, before_segments}
use Rattle.m386_switch.specs.Later.{names_place, names_local_table, stops_at}
use Rattle.m386_switch.specs.Parts.{access_piece, is_admitted, is_passed, is_iret, link_phrase, claim_phrase, claim_rest, claim_role, save_phrase, relink_phrase, release_phrase, clear_phrase}
use Rattle.m386_switch.specs.Seen.{Seen, Part, nothing, nothing_seen, note, facts_of, desc_read, next_desc, after_desc, descs_read, named_selector, loaded_ldt}
use Rattle.m386_switch.specs.Switch.{attempt_of, facts_at_first, is_named, seg_by, entered_seg, entered, arrived, stayed, leave_phrase, enter_phrase, arrive_phrase, claimed_phrase, named_phrase, work_phrase}
use Rattle.m386_switch.proofs.Shows.{Shows, shows_ask, shows_if, shows_if_then, shows_done, shows_later, shows_bind}
use Rattle.m386_switch.proofs.DescriptorShows.{shows_tss}
use Rattle.m386_switch.proofs.FieldShows.{whole_part, shows_back, shows_link}
use Rattle.m386_switch.proofs.LaterRows.{shows_all_later}
use Rattle.m386_switch.proofs.Moves.{shows_loads, loaded_parts, shows_all_saves, saved_parts}
use Rattle.m386_switch.proofs.Nested.{entered_nested, saved_nested}
use Rattle.m386_switch.proofs.Rows.{fails_first, fails_second, first_is_low, second_is_low, passed_none, old_told, new_told}

-- how an attempt ends, as what its phrase shows
abbrev Ends : Attempt → Proc → Seen → Switched → Type 0
Ends m p g r = EndsAs m g p r

no_selector : (s : ℕ) → s < 6 → slice_index (0 ∷ 0 ∷ 0 ∷ 0 ∷ 0 ∷ 0 ∷ []) s ≡ 0
no_selector zero l = refl
no_selector (suc zero) l = refl
no_selector (suc (suc zero)) l = refl
no_selector (suc (suc (suc zero))) l = refl
no_selector (suc (suc (suc (suc zero)))) l = refl
no_selector (suc (suc (suc (suc (suc zero))))) l = refl
no_selector (suc (suc (suc (suc (suc (suc n)))))) l = absurd (omega arith)

null_is_nowhere : (limit : ℕ) (ldt : Option Desc) (s : ℕ) → s ≡ 0 → names_place limit ldt s ≡ false
unfolding is_null_selector
null_is_nowhere limit ldt s e = rw e refl

-- nothing of the new task was loaded, so no row speaks of a descriptor that it names
nothing_later : (limit : ℕ) (f : Facts) (o : Option Fail) → f.ldt ≡ 0 → f.segs ≡ 0 ∷ 0 ∷ 0 ∷ 0 ∷ 0 ∷ 0 ∷ [] → IsReadFor limit f o
unfolding is_null_selector
nothing_later limit f None z zs = tt
nothing_later limit f (Some x) z zs =
    (λ r t. let c : false ≡ true = rw z at t in absurd cc, λ l u i t. let e : selector_at f x.seg ≡ 0 = rw zs (no_selector x.seg i) in let c : true ≡ false = sym t ∙ null_is_nowhere limit f.ldt_desc (selector_at f x.seg) e in absurd cc)

usable_means : (selector : ℕ) (o : Option Desc) (failed : Bool) → (seg_by selector o failed).usable ≡ true → IsSome o × (failed ≡ false)
usable_means selector None failed e = let c : false ≡ true = e in absurd cc
usable_means selector (Some d) true e = let c : false ≡ true = e in absurd cc
usable_means selector (Some d) false e = (refl, refl)

entered_segs : (p : Proc) (d : Desc) (l : List ℕ) (f : Facts) (s : ℕ) → s < 6 → seg_at (entered p d l f) s ≡ entered_seg f s
entered_segs p d l f zero h = refl
entered_segs p d l f (suc zero) h = refl
entered_segs p d l f (suc (suc zero)) h = refl
entered_segs p d l f (suc (suc (suc zero))) h = refl
entered_segs p d l f (suc (suc (suc (suc zero)))) h = refl
entered_segs p d l f (suc (suc (suc (suc (suc zero))))) h = refl
entered_segs p d l f (suc (suc (suc (suc (suc (suc n)))))) h = absurd (omega arith)

entered_usable : (p : Proc) (d : Desc) (l : List ℕ) (f : Facts) (s : ℕ) → s < 6 → (seg_at (entered p d l f) s).usable ≡ true → IsSome (descriptor_at f s) × (stops_at s (first_fail_of f) ≡ false)
entered_usable p d l f s h u = usable_means (selector_at f s) (descriptor_at f s) (stops_at s (first_fail_of f)) (rw (entered_segs p d l f s h) at u)

-- what is seen once the back link was read, or wasn't
abbrev linked : Part → Seen
linked l = record nothing_seen { link = l }

-- and the descriptor of the new TSS
abbrev described : Part → ℕ → ℕ → Seen
described l lo hi = record nothing_seen { link = l; tss = lo ∷ hi ∷ [] }

abbrev tss_of : ℕ → ℕ → Desc
tss_of lo hi = descriptor_in (two_doublewords lo hi)

-- and what follows the claim
abbrev since : Bool → Part → ℕ → ℕ → List Ask → (ℕ → List Ask) → List Ask → List Ask → (ℕ → Part) → List ℕ → List Ask → Seen
since w l lo hi cl sv ls rl ld ws mk = record { wrote = w; link = l; tss = lo ∷ hi ∷ []; claims = cl; saves = sv; links = ls; releases = rl; loads = ld; words = ws; marks = mk }

-- the facts where the new TSS was named, and where its descriptor was read
abbrev named_facts : Attempt → Part → Facts
named_facts m l = facts_of m (linked l)

abbrev read_facts : Attempt → Part → ℕ → ℕ → Facts
read_facts m l lo hi = facts_of m (described l lo hi)

-- the back link of an IRET was read whole
abbrev IsLinked : Attempt → Part → Type 0
IsLinked m l = is_iret m.kind ≡ true → m.tr_usable ≡ true → l.count ≡ 2

ends_entered : (p : Proc) (kind : SwitchKind) (selector : ℕ) (direct ext : Bool) (l : Part) (lo hi : ℕ) (cl : List Ask) (sv : ℕ → List Ask) (ls rl : List Ask)
    → IsLinked (attempt_of p kind selector direct ext) l → old_fail_of (read_facts (attempt_of p kind selector direct ext) l lo hi) ≡ None → cl ≡ claims_of (attempt_of p kind selector direct ext) kind (named_selector (attempt_of p kind selector direct ext) (linked l)) (tss_of lo hi) → AreSaved kind p sv
    → ls ≡ links_of kind (tss_of lo hi).base p.tr.selector → AreReleased kind (place_in p.gdtr.base p.tr.selector) rl
    → (w : Bool) (ws : List ℕ) (mk : List Ask) (v8 v9 v10 v11 v12 v13 v14 v15 v16 v17 v18 v19 v20 v21 v22 v23 v24 v25 : ℕ) → IsReadFor p.gdtr.limit (facts_of (attempt_of p kind selector direct ext) (since w l lo hi cl sv ls rl (loaded_parts v8 v9 v10 v11 v12 v13 v14 v15 v16 v17 v18 v19 v20 v21 v22 v23 v24 v25) ws mk)) (first_fail_of (facts_of (attempt_of p kind selector direct ext) (since w l lo hi cl sv ls rl (loaded_parts v8 v9 v10 v11 v12 v13 v14 v15 v16 v17 v18 v19 v20 v21 v22 v23 v24 v25) ws mk)))
    → mk ≡ all_marks_of (attempt_of p kind selector direct ext) (before_segments (facts_of (attempt_of p kind selector direct ext) (since w l lo hi cl sv ls rl (loaded_parts v8 v9 v10 v11 v12 v13 v14 v15 v16 v17 v18 v19 v20 v21 v22 v23 v24 v25) ws mk))) (after_desc ws (names_local_table p.gdtr.limit (loaded_ldt (since w l lo hi cl sv ls rl (loaded_parts v8 v9 v10 v11 v12 v13 v14 v15 v16 v17 v18 v19 v20 v21 v22 v23 v24 v25) ws mk))))
    → EndsAs (attempt_of p kind selector direct ext) (since w l lo hi cl sv ls rl (loaded_parts v8 v9 v10 v11 v12 v13 v14 v15 v16 v17 v18 v19 v20 v21 v22 v23 v24 v25) ws mk) p (arrived p (tss_of lo hi) (v8 ∷ v9 ∷ v10 ∷ v11 ∷ v12 ∷ v13 ∷ v14 ∷ v15 ∷ v16 ∷ v17 ∷ v18 ∷ v19 ∷ v20 ∷ v21 ∷ v22 ∷ v23 ∷ v24 ∷ v25 ∷ []) (facts_of (attempt_of p kind selector direct ext) (since w l lo hi cl sv ls rl (loaded_parts v8 v9 v10 v11 v12 v13 v14 v15 v16 v17 v18 v19 v20 v21 v22 v23 v24 v25) ws mk)))
unfolding facts_of desc_read old_fail_of first_false test_holds field_at loaded_fields nothing_seen
ends_entered p kind selector direct ext l lo hi cl sv ls rl lk ok hc hs hl hr w ws mk v8 v9 v10 v11 v12 v13 v14 v15 v16 v17 v18 v19 v20 v21 v22 v23 v24 v25 rd hm =
    let f : Facts = (facts_of (attempt_of p kind selector direct ext) (since w l lo hi cl sv ls rl (loaded_parts v8 v9 v10 v11 v12 v13 v14 v15 v16 v17 v18 v19 v20 v21 v22 v23 v24 v25) ws mk)) in
    let none : old_fail_of f ≡ None = ok in
    record {
      first = refl;
      told = record { link = lk; tss = λ x e r. refl; later = rd };
      ends = subst (λ o. EndsBy (attempt_of p kind selector direct ext) (since w l lo hi cl sv ls rl (loaded_parts v8 v9 v10 v11 v12 v13 v14 v15 v16 v17 v18 v19 v20 v21 v22 v23 v24 v25) ws mk) f p (entered p (tss_of lo hi) (v8 ∷ v9 ∷ v10 ∷ v11 ∷ v12 ∷ v13 ∷ v14 ∷ v15 ∷ v16 ∷ v17 ∷ v18 ∷ v19 ∷ v20 ∷ v21 ∷ v22 ∷ v23 ∷ v24 ∷ v25 ∷ []) f) o) (sym none) (record {
        desc = tss_of lo hi;
        found = refl;
        claimed = hc;
        saved = hs;
        old_nt = saved_nested kind p.eflags;
        linked = hl;
        released = hr;
        marked = hm;
        loaded = (refl, (refl, (refl, (refl, (refl, (refl, (refl, (refl, (refl, (refl, (refl, (refl, (refl, (refl, (refl, (refl, (refl, (refl, tt))))))))))))))))));
        tr = refl;
        regs = refl;
        eip = refl;
        eflags = refl;
        segs = entered_segs p (tss_of lo hi) (v8 ∷ v9 ∷ v10 ∷ v11 ∷ v12 ∷ v13 ∷ v14 ∷ v15 ∷ v16 ∷ v17 ∷ v18 ∷ v19 ∷ v20 ∷ v21 ∷ v22 ∷ v23 ∷ v24 ∷ v25 ∷ []) f;
        usable = entered_usable p (tss_of lo hi) (v8 ∷ v9 ∷ v10 ∷ v11 ∷ v12 ∷ v13 ∷ v14 ∷ v15 ∷ v16 ∷ v17 ∷ v18 ∷ v19 ∷ v20 ∷ v21 ∷ v22 ∷ v23 ∷ v24 ∷ v25 ∷ []) f;
        ldtr = refl;
        cr0 = refl;
        gdtr = refl;
        trap = refl;
        nt = entered_nested kind v9;
        told = λ x e. new_told f x none e;
      });
    }

enter_ends : (p : Proc) (kind : SwitchKind) (selector : ℕ) (direct ext : Bool) (l : Part) (lo hi : ℕ) (cl : List Ask) (sv : ℕ → List Ask) (ls rl : List Ask)
    → IsLinked (attempt_of p kind selector direct ext) l → old_fail_of (read_facts (attempt_of p kind selector direct ext) l lo hi) ≡ None → cl ≡ claims_of (attempt_of p kind selector direct ext) kind (named_selector (attempt_of p kind selector direct ext) (linked l)) (tss_of lo hi) → AreSaved kind p sv
    → ls ≡ links_of kind (tss_of lo hi).base p.tr.selector → AreReleased kind (place_in p.gdtr.base p.tr.selector) rl
    → (w : Bool) → Shows (Ends (attempt_of p kind selector direct ext) p) (since w l lo hi cl sv ls rl (λ n. nothing) [] []) (enter_phrase p (tss_of lo hi) (read_facts (attempt_of p kind selector direct ext) l lo hi))
unfolding enter_phrase arrive_phrase facts_of desc_read next_desc after_desc descs_read nothing_seen
enter_ends p kind selector direct ext l lo hi cl sv ls rl lk ok hc hs hl hr w =
    let P : Seen → Switched → Type 0 = Ends (attempt_of p kind selector direct ext) p in
    shows_loads P (since w l lo hi cl sv ls rl (λ n. nothing) [] []) _ _ (λ v8 v9 v10 v11 v12 v13 v14 v15 v16 v17 v18 v19 v20 v21 v22 v23 v24 v25.
    shows_all_later P (attempt_of p kind selector direct ext) (since w l lo hi cl sv ls rl (loaded_parts v8 v9 v10 v11 v12 v13 v14 v15 v16 v17 v18 v19 v20 v21 v22 v23 v24 v25) [] []) w _ (λ w2 ws mk f2 e rd hm.
    let Q : Facts → Type 0 = λ f. IsReadFor p.gdtr.limit f (first_fail_of f) → mk ≡ all_marks_of (attempt_of p kind selector direct ext) (before_segments f) (after_desc ws (names_local_table p.gdtr.limit (loaded_ldt (since w l lo hi cl sv ls rl (loaded_parts v8 v9 v10 v11 v12 v13 v14 v15 v16 v17 v18 v19 v20 v21 v22 v23 v24 v25) [] [])))) → Shows P (since w2 l lo hi cl sv ls rl (loaded_parts v8 v9 v10 v11 v12 v13 v14 v15 v16 v17 v18 v19 v20 v21 v22 v23 v24 v25) ws mk) (Done (arrived p (tss_of lo hi) (v8 ∷ v9 ∷ v10 ∷ v11 ∷ v12 ∷ v13 ∷ v14 ∷ v15 ∷ v16 ∷ v17 ∷ v18 ∷ v19 ∷ v20 ∷ v21 ∷ v22 ∷ v23 ∷ v24 ∷ v25 ∷ []) f)) in
    subst Q e (λ r t. shows_done P _ _ (ends_entered p kind selector direct ext l lo hi cl sv ls rl lk ok hc hs hl hr w2 ws mk v8 v9 v10 v11 v12 v13 v14 v15 v16 v17 v18 v19 v20 v21 v22 v23 v24 v25 r t)) rd hm))

shows_clear_reljmp : {A : Type 0} (P : Seen → A → Type 0) (g : Seen) (address : ℕ) (k : Unit {0} → Phrase A) → g.releases ≡ []
    → ((v : ℕ) → Shows P (record g { wrote = true; releases = record (read_ask roles.RelJmp false (access_piece address)) { value = v } ∷ write_ask roles.RelJmp true (access_piece address) (bit_and (gather_of (access_piece address) v) 0xfd) ∷ [] }) (k tt))
    → Shows P g (clear_phrase roles.RelJmp address >>= k)
unfolding clear_phrase access_byte_phrase ◌>>=◌ note cycle_of
shows_clear_reljmp P g address k z h =
    shows_ask P g (read_ask roles.RelJmp false (access_piece address)) _ (λ v.
    shows_ask P _ (write_ask roles.RelJmp true (access_piece address) (bit_and (gather_of (access_piece address) v) 0xfd)) _ (λ u. rw z (h v)))

shows_clear_relret : {A : Type 0} (P : Seen → A → Type 0) (g : Seen) (address : ℕ) (k : Unit {0} → Phrase A) → g.releases ≡ []
    → ((v : ℕ) → Shows P (record g { wrote = true; releases = record (read_ask roles.RelRet false (access_piece address)) { value = v } ∷ write_ask roles.RelRet true (access_piece address) (bit_and (gather_of (access_piece address) v) 0xfd) ∷ [] }) (k tt))
    → Shows P g (clear_phrase roles.RelRet address >>= k)
unfolding clear_phrase access_byte_phrase ◌>>=◌ note cycle_of
shows_clear_relret P g address k z h =
    shows_ask P g (read_ask roles.RelRet false (access_piece address)) _ (λ v.
    shows_ask P _ (write_ask roles.RelRet true (access_piece address) (bit_and (gather_of (access_piece address) v) 0xfd)) _ (λ u. rw z (h v)))

leave_ends : (p : Proc) (kind : SwitchKind) (selector : ℕ) (direct ext : Bool) (l : Part) (lo hi : ℕ) → IsLinked (attempt_of p kind selector direct ext) l → old_fail_of (read_facts (attempt_of p kind selector direct ext) l lo hi) ≡ None
    → (w : Bool) → Shows (Ends (attempt_of p kind selector direct ext) p) (since w l lo hi (claims_of (attempt_of p kind selector direct ext) kind (named_selector (attempt_of p kind selector direct ext) (linked l)) (tss_of lo hi)) (λ n. []) [] [] (λ n. nothing) [] []) (leave_phrase p kind (tss_of lo hi).base >>= (λ _. enter_phrase p (tss_of lo hi) (read_facts (attempt_of p kind selector direct ext) l lo hi)))
unfolding leave_phrase save_phrase relink_phrase release_phrase saved_fields cycle_of
leave_ends p switches.Jmp selector direct ext l lo hi lk ok w =
    let P : Seen → Switched → Type 0 = Ends (attempt_of p switches.Jmp selector direct ext) p in
    shows_later P _ (save_phrase switches.Jmp p) _ _ (shows_all_saves P (since w l lo hi (claims_of (attempt_of p switches.Jmp selector direct ext) switches.Jmp (named_selector (attempt_of p switches.Jmp selector direct ext) (linked l)) (tss_of lo hi)) (λ n. []) [] [] (λ n. nothing) [] []) switches.Jmp p _ (λ w2.
    shows_later P _ (relink_phrase switches.Jmp (tss_of lo hi).base p.tr.selector) _ _ (shows_bind P _ tt _ (let w3 : Bool = w2 in
    shows_clear_reljmp P _ (place_in p.gdtr.base p.tr.selector) _ refl (λ v. enter_ends p switches.Jmp selector direct ext l lo hi (claims_of (attempt_of p switches.Jmp selector direct ext) switches.Jmp (named_selector (attempt_of p switches.Jmp selector direct ext) (linked l)) (tss_of lo hi)) (saved_parts switches.Jmp p) (links_of switches.Jmp (tss_of lo hi).base p.tr.selector) _ lk ok refl (refl, (refl, (refl, (refl, (refl, (refl, (refl, (refl, (refl, (refl, (refl, (refl, (refl, (refl, (refl, (refl, tt)))))))))))))))) refl (v, refl) true)))))
leave_ends p switches.Call selector direct ext l lo hi lk ok w =
    let P : Seen → Switched → Type 0 = Ends (attempt_of p switches.Call selector direct ext) p in
    shows_later P _ (save_phrase switches.Call p) _ _ (shows_all_saves P (since w l lo hi (claims_of (attempt_of p switches.Call selector direct ext) switches.Call (named_selector (attempt_of p switches.Call selector direct ext) (linked l)) (tss_of lo hi)) (λ n. []) [] [] (λ n. nothing) [] []) switches.Call p _ (λ w2.
    shows_later P _ (relink_phrase switches.Call (tss_of lo hi).base p.tr.selector) _ _ (shows_link P _ _ _ _ refl (λ w3.
    shows_bind P _ tt _ (enter_ends p switches.Call selector direct ext l lo hi (claims_of (attempt_of p switches.Call selector direct ext) switches.Call (named_selector (attempt_of p switches.Call selector direct ext) (linked l)) (tss_of lo hi)) (saved_parts switches.Call p) (links_of switches.Call (tss_of lo hi).base p.tr.selector) [] lk ok refl (refl, (refl, (refl, (refl, (refl, (refl, (refl, (refl, (refl, (refl, (refl, (refl, (refl, (refl, (refl, (refl, tt)))))))))))))))) refl refl w3)))))
leave_ends p switches.Event selector direct ext l lo hi lk ok w =
    let P : Seen → Switched → Type 0 = Ends (attempt_of p switches.Event selector direct ext) p in
    shows_later P _ (save_phrase switches.Event p) _ _ (shows_all_saves P (since w l lo hi (claims_of (attempt_of p switches.Event selector direct ext) switches.Event (named_selector (attempt_of p switches.Event selector direct ext) (linked l)) (tss_of lo hi)) (λ n. []) [] [] (λ n. nothing) [] []) switches.Event p _ (λ w2.
    shows_later P _ (relink_phrase switches.Event (tss_of lo hi).base p.tr.selector) _ _ (shows_link P _ _ _ _ refl (λ w3.
    shows_bind P _ tt _ (enter_ends p switches.Event selector direct ext l lo hi (claims_of (attempt_of p switches.Event selector direct ext) switches.Event (named_selector (attempt_of p switches.Event selector direct ext) (linked l)) (tss_of lo hi)) (saved_parts switches.Event p) (links_of switches.Event (tss_of lo hi).base p.tr.selector) [] lk ok refl (refl, (refl, (refl, (refl, (refl, (refl, (refl, (refl, (refl, (refl, (refl, (refl, (refl, (refl, (refl, (refl, tt)))))))))))))))) refl refl w3)))))
leave_ends p switches.Iret selector direct ext l lo hi lk ok w =
    let P : Seen → Switched → Type 0 = Ends (attempt_of p switches.Iret selector direct ext) p in
    shows_later P _ (save_phrase switches.Iret p) _ _ (shows_all_saves P (since w l lo hi (claims_of (attempt_of p switches.Iret selector direct ext) switches.Iret (named_selector (attempt_of p switches.Iret selector direct ext) (linked l)) (tss_of lo hi)) (λ n. []) [] [] (λ n. nothing) [] []) switches.Iret p _ (λ w2.
    shows_later P _ (relink_phrase switches.Iret (tss_of lo hi).base p.tr.selector) _ _ (shows_bind P _ tt _ (let w3 : Bool = w2 in
    shows_clear_relret P _ (place_in p.gdtr.base p.tr.selector) _ refl (λ v. enter_ends p switches.Iret selector direct ext l lo hi (claims_of (attempt_of p switches.Iret selector direct ext) switches.Iret (named_selector (attempt_of p switches.Iret selector direct ext) (linked l)) (tss_of lo hi)) (saved_parts switches.Iret p) (links_of switches.Iret (tss_of lo hi).base p.tr.selector) _ lk ok refl (refl, (refl, (refl, (refl, (refl, (refl, (refl, (refl, (refl, (refl, (refl, (refl, (refl, (refl, (refl, (refl, tt)))))))))))))))) refl (v, refl) true)))))
leave_ends p switches.Start selector direct ext l lo hi lk ok w =
    let P : Seen → Switched → Type 0 = Ends (attempt_of p switches.Start selector direct ext) p in
    shows_later P _ (save_phrase switches.Start p) _ _ (shows_bind P _ tt _ (let w2 : Bool = w in
    shows_later P _ (relink_phrase switches.Start (tss_of lo hi).base p.tr.selector) _ _ (shows_bind P _ tt _ (let w3 : Bool = w2 in
    shows_bind P _ tt _ (enter_ends p switches.Start selector direct ext l lo hi (claims_of (attempt_of p switches.Start selector direct ext) switches.Start (named_selector (attempt_of p switches.Start selector direct ext) (linked l)) (tss_of lo hi)) (λ n. []) (links_of switches.Start (tss_of lo hi).base p.tr.selector) [] lk ok refl (λ n. refl) refl refl w3)))))

-- rows 3 to 7
kept_ends : (p : Proc) (kind : SwitchKind) (selector : ℕ) (direct ext : Bool) (l : Part) (lo hi : ℕ) → IsLinked (attempt_of p kind selector direct ext) l → is_passed (old_fail_of (read_facts (attempt_of p kind selector direct ext) l lo hi)) ≡ false
    → EndsAs (attempt_of p kind selector direct ext) (described l lo hi) p (stayed p (read_facts (attempt_of p kind selector direct ext) l lo hi))
unfolding facts_of desc_read descs_read next_desc after_desc nothing_seen
kept_ends p kind selector direct ext l lo hi lk e = record {
  first = refl;
  told = record { link = lk; tss = λ x q r. refl; later = nothing_later p.gdtr.limit (read_facts (attempt_of p kind selector direct ext) l lo hi) _ refl refl };
  ends = go (old_fail_of (read_facts (attempt_of p kind selector direct ext) l lo hi)) refl e;
}
  where
    go : (o : Option Fail) → old_fail_of (read_facts (attempt_of p kind selector direct ext) l lo hi) ≡ o → is_passed o ≡ false → EndsBy (attempt_of p kind selector direct ext) (described l lo hi) (read_facts (attempt_of p kind selector direct ext) l lo hi) p p o
    go None q h = absurd cc
    go (Some x) q h = record { read = refl; same = refl; told = old_told _ x q }

claim_noted : (g : Seen) (kind : SwitchKind) (a value v : ℕ) → note g (cycle_of (write_ask (claim_role kind) true (access_piece a) value) v) ≡ record g { wrote = true; claims = g.claims ++ write_ask (claim_role kind) true (access_piece a) value ∷ [] }
unfolding note cycle_of
claim_noted g switches.Jmp a value v = refl
claim_noted g switches.Call a value v = refl
claim_noted g switches.Event a value v = refl
claim_noted g switches.Iret a value v = refl
claim_noted g switches.Start a value v = refl

claims_one : (m : Attempt) (kind : SwitchKind) (s : ℕ) (d : Desc) → is_iret kind ≡ false → write_ask (claim_role kind) true (access_piece (place_in m.gdt_base s)) (bit_or d.access 2) ∷ [] ≡ claims_of m kind s d
claims_one m switches.Jmp s d e = refl
claims_one m switches.Call s d e = refl
claims_one m switches.Event s d e = refl
claims_one m switches.Iret s d e = absurd cc
claims_one m switches.Start s d e = refl

claims_none : (m : Attempt) (kind : SwitchKind) (s : ℕ) (d : Desc) → is_iret kind ≡ true → [] ≡ claims_of m kind s d
claims_none m switches.Jmp s d e = absurd cc
claims_none m switches.Call s d e = absurd cc
claims_none m switches.Event s d e = absurd cc
claims_none m switches.Iret s d e = refl
claims_none m switches.Start s d e = absurd cc

not_true : (b : Bool) → not b ≡ true → b ≡ false
not_true true h = absurd cc
not_true false h = refl

not_false : (b : Bool) → not b ≡ false → b ≡ true
not_false true h = refl
not_false false h = absurd cc

claim_ends : (p : Proc) (kind : SwitchKind) (selector : ℕ) (direct ext : Bool) (l : Part) (lo hi : ℕ) → IsLinked (attempt_of p kind selector direct ext) l → Shows (Ends (attempt_of p kind selector direct ext) p) (described l lo hi) (claim_rest (named_facts (attempt_of p kind selector direct ext) l) (place_in p.gdtr.base (named_selector (attempt_of p kind selector direct ext) (linked l))) (tss_of lo hi) >>= (λ d. claimed_phrase p (named_facts (attempt_of p kind selector direct ext) l) d))
unfolding claim_rest claimed_phrase is_admitted access_byte_phrase ◌>>=◌ facts_of desc_read descs_read next_desc after_desc nothing_seen
claim_ends p kind selector direct ext l lo hi lk =
    shows_if_then P (described l lo hi) (passed && not (is_iret kind)) (access_byte_phrase (claim_role kind) (place_in p.gdtr.base s) (bit_or (tss_of lo hi).access 2) >>= (λ _. Done (tss_of lo hi))) (Done (tss_of lo hi)) (λ d. claimed_phrase p (named_facts (attempt_of p kind selector direct ext) l) d)
    made (λ e. shows_bind P (described l lo hi) (tss_of lo hi) (λ d. claimed_phrase p (named_facts (attempt_of p kind selector direct ext) l) d) (none passed refl e))
  where
    P : Seen → Switched → Type 0
    P = Ends (attempt_of p kind selector direct ext) p

    s : ℕ
    s = named_selector (attempt_of p kind selector direct ext) (linked l)

    on : (w : Bool) (cl : List Ask) → cl ≡ claims_of (attempt_of p kind selector direct ext) kind s (tss_of lo hi) → old_fail_of (read_facts (attempt_of p kind selector direct ext) l lo hi) ≡ None → Shows P (since w l lo hi cl (λ n. []) [] [] (λ n. nothing) [] []) (leave_phrase p kind (tss_of lo hi).base >>= (λ _. enter_phrase p (tss_of lo hi) (read_facts (attempt_of p kind selector direct ext) l lo hi)))
    on w cl e ok = subst (λ c. Shows P (since w l lo hi c (λ n. []) [] [] (λ n. nothing) [] []) (leave_phrase p kind (tss_of lo hi).base >>= (λ _. enter_phrase p (tss_of lo hi) (read_facts (attempt_of p kind selector direct ext) l lo hi)))) (sym e) (leave_ends p kind selector direct ext l lo hi lk ok w)

    passed : Bool
    passed = is_passed (old_fail_of (read_facts (attempt_of p kind selector direct ext) l lo hi))

    claimed : (w : Bool) (cl : List Ask) → cl ≡ claims_of (attempt_of p kind selector direct ext) kind s (tss_of lo hi) → passed ≡ true → Shows P (since w l lo hi cl (λ n. []) [] [] (λ n. nothing) [] []) (claimed_phrase p (named_facts (attempt_of p kind selector direct ext) l) (tss_of lo hi))
    claimed w cl c e = shows_if P (since w l lo hi cl (λ n. []) [] [] (λ n. nothing) [] []) passed _ _ (λ i. on w cl c (passed_none _ e)) (λ i. let d : true ≡ false = sym e ∙ i in absurd cc)

    made : (passed && not (is_iret kind)) ≡ true → Shows P (described l lo hi) ((access_byte_phrase (claim_role kind) (place_in p.gdtr.base s) (bit_or (tss_of lo hi).access 2) >>= (λ _. Done (tss_of lo hi))) >>= (λ d. claimed_phrase p (named_facts (attempt_of p kind selector direct ext) l) d))
    made e =
        let q : Ask = write_ask (claim_role kind) true (access_piece (place_in p.gdtr.base s)) (bit_or (tss_of lo hi).access 2) in
        let parts = and_parts passed (not (is_iret kind)) e in
        shows_ask P (described l lo hi) q _ (λ v. subst (λ g. Shows P g (claimed_phrase p (named_facts (attempt_of p kind selector direct ext) l) (tss_of lo hi))) (sym (claim_noted (described l lo hi) kind (place_in p.gdtr.base s) (bit_or (tss_of lo hi).access 2) v)) (claimed true (q ∷ []) (claims_one (attempt_of p kind selector direct ext) kind s (tss_of lo hi) (not_true (is_iret kind) parts.1)) parts.0))

    none : (b : Bool) → passed ≡ b → (b && not (is_iret kind)) ≡ false → Shows P (described l lo hi) (claimed_phrase p (named_facts (attempt_of p kind selector direct ext) l) (tss_of lo hi))
    none true e i = claimed false [] (claims_none (attempt_of p kind selector direct ext) kind s (tss_of lo hi) (not_false (is_iret kind) i)) e
    none false e i = shows_if P (described l lo hi) passed _ _ (λ j. let d : true ≡ false = sym j ∙ e in absurd cc) (λ j. shows_done P (described l lo hi) (stayed p (read_facts (attempt_of p kind selector direct ext) l lo hi)) (kept_ends p kind selector direct ext l lo hi lk e))

-- from the selector of the new TSS on
named_ends : (p : Proc) (kind : SwitchKind) (selector : ℕ) (direct ext : Bool) (l : Part) → IsLinked (attempt_of p kind selector direct ext) l → (is_start kind || p.tr.usable) ≡ true → Shows (Ends (attempt_of p kind selector direct ext) p) (linked l) (named_phrase p (named_facts (attempt_of p kind selector direct ext) l))
unfolding named_phrase claim_phrase facts_of desc_read descs_read next_desc after_desc nothing_seen
named_ends p kind selector direct ext l lk u =
    let P : Seen → Switched → Type 0 = Ends (attempt_of p kind selector direct ext) p in
    let f : Facts = named_facts (attempt_of p kind selector direct ext) l in
    shows_if P _ (is_named f) _ _
    (λ e. shows_later P _ (descriptor_phrase roles.Tss (place_in p.gdtr.base f.selector)) _ _ (shows_tss P (linked l) _ _ refl (λ lo hi. claim_ends p kind selector direct ext l lo hi lk)))
    (λ e. shows_done P _ _ (record {
      first = refl;
      told = record { link = lk; tss = λ x q r. absurd (second_is_low f x u e q r); later = nothing_later p.gdtr.limit f _ refl refl };
      ends = subst (λ o. EndsBy (attempt_of p kind selector direct ext) (linked l) f p p o) (sym (fails_second f u e).1) (record { read = refl; same = refl; told = refl });
    }))

-- the back link is read by IRET alone
begun_ends : (p : Proc) (kind : SwitchKind) (selector : ℕ) (direct ext : Bool) → (is_start kind || p.tr.usable) ≡ true → Shows (Ends (attempt_of p kind selector direct ext) p) nothing_seen (link_phrase kind p.tr.desc.base selector >>= (λ named. named_phrase p (facts_at_first p kind named direct ext)))
unfolding link_phrase facts_of desc_read descs_read next_desc after_desc nothing_seen
begun_ends p switches.Jmp selector direct ext u = shows_bind (Ends (attempt_of p switches.Jmp selector direct ext) p) _ _ _ (named_ends p switches.Jmp selector direct ext nothing (λ i t. absurd cc) u)
begun_ends p switches.Call selector direct ext u = shows_bind (Ends (attempt_of p switches.Call selector direct ext) p) _ _ _ (named_ends p switches.Call selector direct ext nothing (λ i t. absurd cc) u)
begun_ends p switches.Event selector direct ext u = shows_bind (Ends (attempt_of p switches.Event selector direct ext) p) _ _ _ (named_ends p switches.Event selector direct ext nothing (λ i t. absurd cc) u)
begun_ends p switches.Iret selector direct ext u =
    let P : Seen → Switched → Type 0 = Ends (attempt_of p switches.Iret selector direct ext) p in
    shows_later P _ _ _ _ (shows_back P nothing_seen _ _ refl (λ named. shows_bind P _ _ _ (named_ends p switches.Iret selector direct ext (whole_part 2 named) (λ i t. refl) u)))
begun_ends p switches.Start selector direct ext u = shows_bind (Ends (attempt_of p switches.Start selector direct ext) p) _ _ _ (named_ends p switches.Start selector direct ext nothing (λ i t. absurd cc) u)

-- row 1 fails
never_ends : (p : Proc) (kind : SwitchKind) (selector : ℕ) (direct ext : Bool) → (is_start kind || p.tr.usable) ≡ false → EndsAs (attempt_of p kind selector direct ext) nothing_seen p (stayed p (facts_at_first p kind selector direct ext))
unfolding facts_of desc_read descs_read next_desc after_desc nothing_seen
never_ends p kind selector direct ext u =
    let f : Facts = facts_of (attempt_of p kind selector direct ext) nothing_seen in
    record {
      first = (fails_first (facts_at_first p kind selector direct ext) u).0 ∙ sym (fails_first f u).0;
      told = record { link = λ i t. let c : (is_start kind || true) ≡ false = rw t at u in let d : true ≡ false = or_true (is_start kind) c in absurd cc; tss = λ x q r. absurd (first_is_low f x u q r); later = nothing_later p.gdtr.limit f _ refl refl };
      ends = subst (λ o. EndsBy (attempt_of p kind selector direct ext) nothing_seen f p p o) (sym (fails_first f u).1) (record { read = refl; same = refl; told = refl });
    }
  where
    or_true : (b : Bool) → (b || true) ≡ false → true ≡ false
    or_true true h = h
    or_true false h = h

pub work_shows : (p : Proc) (kind : SwitchKind) (selector : ℕ) (direct ext : Bool) → Shows (Ends (attempt_of p kind selector direct ext) p) nothing_seen (work_phrase p kind selector direct ext)
unfolding work_phrase
work_shows p kind selector direct ext =
    shows_if (Ends (attempt_of p kind selector direct ext) p) _ (is_start kind || p.tr.usable) _ _ (begun_ends p kind selector direct ext) (λ u. shows_done (Ends (attempt_of p kind selector direct ext) p) _ _ (never_ends p kind selector direct ext u))
