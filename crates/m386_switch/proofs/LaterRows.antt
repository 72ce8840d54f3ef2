-- What the reads of the new task's descriptors show.
use Rattle.std.proofs.Common.{zero, suc, ◌≡◌, ◌≢◌, ℕ, ◌<◌, ◌≤◌, ◌⊎◌, inl, inr, Bool, true, false, List, [], ◌∷◌, ◌++◌, refl, sym, ◌∙◌, ap, subst, eqb, ◌&&◌, if◌then◌else◌, arith, bit_or, append_assoc, append-nil, Option, Some, None, IsSome, length, slice_set, slice_index_or, eqb-true}
use Rattle.std.proofs.lemmas.List.{get_or-set_other, length-set}
use Rattle.std.proofs.lemmas.Grind.{get_or-set_at}
use Rattle.m386_base.specs.declared.ask.Role.TheVariants as roles
use Rattle.m386_base.specs.declared.desc.Desc.{Desc}
use Rattle.m386_base.specs.Phrase.{Phrase, Done, Attempt, ◌>>=◌}
use Rattle.m386_checks.specs.declared.facts.Facts.{Facts}
use Rattle.m386_checks.specs.declared.facts.Fail.{Fail}
use Rattle.m386_checks.specs.First.{first_fail_of}
use Rattle.m386_checks.specs.Holds.{selector_at, descriptor_at}
use Rattle.m386_desc.specs.Bytes.{descriptor_in, two_doublewords}
use Rattle.m386_desc.specs.Selector.{names_ldt}
use Rattle.m386_base.specs.Bus.{cycle_of}
use Rattle.m386_segload.specs.Descriptors.{descriptor_phrase, access_byte_phrase}
use Rattle.m386_segload.specs.Tables.{table_role, accessed_role}
use Rattle.m386_switch.specs.Later.{names_place, names_local_table, stops_at, stops_at_ldt, is_to_mark, with_ldt, with_desc, ldt_phrase, described_phrase, mark_phrase, segment_phrase, segments, later_phrase, segment_order}
use Rattle.m386_desc.specs.Selector.{place_in}
use Rattle.m386_switch.specs.Seen.{Seen, note, facts_of, descs_read, next_desc, after_desc, loaded_ldt}
use Rattle.m386_base.specs.declared.ask.Ask.{Ask}
use Rattle.m386_access.specs.Access.{write_ask}
use Rattle.m386_switch.specs.Ends.{IsReadFor, marks_of, mark_of, all_marks_of, before_segments}
use Rattle.m386_switch.specs.Parts.{access_piece}
use Rattle.m386_switch.proofs.Shows.{Shows, shows_ask, shows_if_then, shows_later, shows_bind}
use Rattle.m386_switch.proofs.DescriptorShows.{shows_gdt, shows_ldt}

abbrev pub there_by : ℕ → Facts → ℕ → Bool
there_by limit f seg = names_place limit f.ldt_desc (selector_at f seg)

descs_none : (there : ℕ → Bool) (segs : List ℕ) (ds : List (Option Desc)) → descs_read there segs [] ds ≡ ds
unfolding descs_read
descs_none there [] ds = refl
descs_none there (s ∷ ss) ds = refl

descs_end : (there : ℕ → Bool) (ws : List ℕ) (ds : List (Option Desc)) → descs_read there [] ws ds ≡ ds
unfolding descs_read
descs_end there [] ds = refl
descs_end there (w ∷ ws) ds = refl

descs_skip : (there : ℕ → Bool) (s : ℕ) (ss ws : List ℕ) (ds : List (Option Desc)) → there s ≡ false → descs_read there (s ∷ ss) ws ds ≡ descs_read there ss ws ds
unfolding descs_read
descs_skip there s ss [] ds e = sym (descs_none there ss ds)
descs_skip there s [] (lo ∷ []) ds e = refl
descs_skip there s (x ∷ ss) (lo ∷ []) ds e = refl
descs_skip there s ss (lo ∷ hi ∷ ws) ds e = rw e refl

-- With further doublewords the facts of the attempt are these, with the descriptors of the segment registers that are left.
abbrev pub Goes : Attempt → Seen → List ℕ → Facts → List ℕ → Type 0
Goes m g segs f words = (ws : List ℕ) → facts_of m (record g { words = words ++ ws }) ≡ record f { seg_descs = descs_read (there_by m.gdt_limit f) segs ws f.seg_descs }

now_facts : (m : Attempt) (g : Seen) (segs : List ℕ) (f : Facts) (words : List ℕ) → Goes m g segs f words → facts_of m (record g { words = words }) ≡ f
now_facts m g segs f words h =
    ap (λ ws. facts_of m (record g { words = ws })) (sym (append-nil words)) ∙ h [] ∙ ap (λ ds. record f { seg_descs = ds }) (descs_none (there_by m.gdt_limit f) segs f.seg_descs)

goes_skip : (m : Attempt) (g : Seen) (s : ℕ) (segs : List ℕ) (f : Facts) (words : List ℕ) → there_by m.gdt_limit f s ≡ false → Goes m g (s ∷ segs) f words → Goes m g segs f words
goes_skip m g s segs f words e h = λ ws. h ws ∙ ap (λ ds. record f { seg_descs = ds }) (descs_skip (there_by m.gdt_limit f) s segs ws f.seg_descs e)

goes_read : (m : Attempt) (g : Seen) (s : ℕ) (segs : List ℕ) (f : Facts) (words : List ℕ) (lo hi : ℕ) → there_by m.gdt_limit f s ≡ true → Goes m g (s ∷ segs) f words
    → Goes m g segs (with_desc f s (descriptor_in (two_doublewords lo hi))) (words ++ lo ∷ hi ∷ [])
unfolding descs_read
goes_read m g s segs f words lo hi e h = λ ws.
    let d : Desc = descriptor_in (two_doublewords lo hi) in
    let step : descs_read (there_by m.gdt_limit f) (s ∷ segs) (lo ∷ hi ∷ ws) f.seg_descs ≡ descs_read (there_by m.gdt_limit f) segs ws (slice_set f.seg_descs s (Some d)) = rw e refl in
    ap (λ w. facts_of m (record g { words = w })) (append_assoc words (lo ∷ hi ∷ []) ws) ∙ h (lo ∷ hi ∷ ws) ∙ ap (λ ds. record f { seg_descs = ds }) step

-- the register is among those that are left
Left : ℕ → List ℕ → Type 0
Left s [] = ⊥
Left s (x ∷ xs) = (s ≡ x) ⊎ Left s xs

-- Where the reads of the new task's descriptors have come: M are the accessed bytes of an attempt by all doublewords that it reads,
-- f0 the facts before them, and rest the accessed bytes that are left by those that come.
record Stage (M : List ℕ → List Ask) (f0 : Facts) (m : Attempt) (g : Seen) (segs : List ℕ) (f : Facts) (words : List ℕ) (marks : List Ask) (rest : List ℕ → List Ask) : Type 0 where
  goes : Goes m g segs f words
  six : length f.seg_descs ≡ 6
  read : (s : ℕ) → s < 6 → Left s segs ⊎ (there_by m.gdt_limit f s ≡ true → IsSome (descriptor_at f s))
  ldt : names_local_table m.gdt_limit f.ldt ≡ true → IsSome f.ldt_desc
  base : before_segments f ≡ f0
  marked : (ws : List ℕ) → M (words ++ ws) ≡ marks ++ rest ws

-- the accessed bytes that are left behind a register
abbrev rest_of : Attempt → Facts → ℕ → List ℕ → List ℕ → List Ask
rest_of m f s segs ws = if stops_at s (first_fail_of f) then [] else marks_of m f segs ws

abbrev no_marks : List Ask
no_marks = []

either_none : (b : Bool) → (if b then no_marks else no_marks) ≡ no_marks
either_none true = refl
either_none false = refl

marks_none : (m : Attempt) (f : Facts) (segs : List ℕ) → marks_of m f segs [] ≡ []
unfolding marks_of
marks_none m f [] = refl
marks_none m f (s ∷ segs) = refl

marks_half : (m : Attempt) (f : Facts) (segs : List ℕ) (lo : ℕ) → marks_of m f segs (lo ∷ []) ≡ []
unfolding marks_of
marks_half m f [] lo = refl
marks_half m f (s ∷ segs) lo = refl

marks_skip : (m : Attempt) (f : Facts) (s : ℕ) (segs ws : List ℕ) → there_by m.gdt_limit f s ≡ false → marks_of m f (s ∷ segs) ws ≡ rest_of m f s segs ws
unfolding marks_of
marks_skip m f s segs [] e = rw (marks_none m f segs) (sym (either_none (stops_at s (first_fail_of f))))
marks_skip m f s segs (lo ∷ []) e = rw (marks_half m f segs lo) (sym (either_none (stops_at s (first_fail_of f))))
marks_skip m f s segs (lo ∷ hi ∷ ws) e = rw e refl

marks_read : (m : Attempt) (f : Facts) (s : ℕ) (segs ws : List ℕ) (lo hi : ℕ) → there_by m.gdt_limit f s ≡ true
    → marks_of m f (s ∷ segs) (lo ∷ hi ∷ ws) ≡ mark_of m f s (descriptor_in (two_doublewords lo hi)) ++ rest_of m (with_desc f s (descriptor_in (two_doublewords lo hi))) s segs ws
unfolding marks_of
marks_read m f s segs ws lo hi e = rw e refl

stage_skip : (M : List ℕ → List Ask) (f0 : Facts) (m : Attempt) (g : Seen) (s : ℕ) (segs : List ℕ) (f : Facts) (words : List ℕ) (marks : List Ask) → there_by m.gdt_limit f s ≡ false
    → Stage M f0 m g (s ∷ segs) f words marks (marks_of m f (s ∷ segs)) → Stage M f0 m g segs f words marks (rest_of m f s segs)
unfolding Left
stage_skip M f0 m g s segs f words marks e st = record {
  goes = goes_skip m g s segs f words e st.goes;
  six = st.six;
  read = λ x l. go x (st.read x l);
  ldt = st.ldt;
  base = st.base;
  marked = λ ws. st.marked ws ∙ ap (λ x. marks ++ x) (marks_skip m f s segs ws e);
}
  where
    go : (x : ℕ) → Left x (s ∷ segs) ⊎ (there_by m.gdt_limit f x ≡ true → IsSome (descriptor_at f x)) → Left x segs ⊎ (there_by m.gdt_limit f x ≡ true → IsSome (descriptor_at f x))
    go x (inl (inl q)) = inr (λ t. let c : true ≡ false = sym t ∙ ap (there_by m.gdt_limit f) q ∙ e in absurd cc)
    go x (inl (inr l)) = inl l
    go x (inr r) = inr r

is_there_some : (o : Option Desc) (d : Desc) → o ≡ Some d → IsSome o
is_there_some o d e = rw e refl

set_some : (ds : List (Option Desc)) (s x : ℕ) (d : Desc) → x ≡ s → s < length ds → IsSome (slice_index_or (slice_set ds s (Some d)) x None)
set_some ds s x d q l = is_there_some _ d (get_or-set_at ds s x (Some d) None q l)

set_other : (ds : List (Option Desc)) (s x : ℕ) (d : Desc) → s < length ds → IsSome (slice_index_or ds x None) → IsSome (slice_index_or (slice_set ds s (Some d)) x None)
set_other ds s x d l h = go (eqb x s) refl
  where
    go : (b : Bool) → eqb x s ≡ b → IsSome (slice_index_or (slice_set ds s (Some d)) x None)
    go true e = set_some ds s x d (eqb-true x s e) l
    go false e = let n : x ≢ s = grind (arith, e) in rw (get_or-set_other ds s x (Some d) None n) h

stage_read : (M : List ℕ → List Ask) (f0 : Facts) (m : Attempt) (g : Seen) (s : ℕ) (segs : List ℕ) (f : Facts) (words : List ℕ) (marks : List Ask) (lo hi : ℕ) → s < 6 → there_by m.gdt_limit f s ≡ true
    → Stage M f0 m g (s ∷ segs) f words marks (marks_of m f (s ∷ segs))
    → Stage M f0 m g segs (with_desc f s (descriptor_in (two_doublewords lo hi))) (words ++ lo ∷ hi ∷ []) (marks ++ mark_of m f s (descriptor_in (two_doublewords lo hi))) (rest_of m (with_desc f s (descriptor_in (two_doublewords lo hi))) s segs)
unfolding Left
stage_read M f0 m g s segs f words marks lo hi i e st = record {
  goes = goes_read m g s segs f words lo hi e st.goes;
  six = length-set f.seg_descs s (Some d) ∙ st.six;
  read = λ x l. go x (st.read x l);
  ldt = st.ldt;
  base = st.base;
  marked = λ ws. ap M (append_assoc words (lo ∷ hi ∷ []) ws) ∙ st.marked (lo ∷ hi ∷ ws) ∙ ap (λ x. marks ++ x) (marks_read m f s segs ws lo hi e) ∙ sym (append_assoc marks (mark_of m f s d) (rest_of m (with_desc f s d) s segs ws));
}
  where
    d : Desc
    d = descriptor_in (two_doublewords lo hi)

    inside : s < length f.seg_descs
    inside = rw st.six i

    go : (x : ℕ) → Left x (s ∷ segs) ⊎ (there_by m.gdt_limit f x ≡ true → IsSome (descriptor_at f x)) → Left x segs ⊎ (there_by m.gdt_limit f x ≡ true → IsSome (descriptor_at (with_desc f s d) x))
    go x (inl (inl q)) = inr (λ t. set_some f.seg_descs s x d q inside)
    go x (inl (inr l)) = inl l
    go x (inr r) = inr (λ t. set_other f.seg_descs s x d inside (r t))

-- behind a register of which a row fails no accessed byte is left; behind another one those of the registers that are left
stage_stops : (M : List ℕ → List Ask) (f0 : Facts) (m : Attempt) (g : Seen) (s : ℕ) (segs : List ℕ) (f : Facts) (words : List ℕ) (marks : List Ask) → stops_at s (first_fail_of f) ≡ true
    → Stage M f0 m g segs f words marks (rest_of m f s segs) → Stage M f0 m g segs f words marks (λ ws. [])
stage_stops M f0 m g s segs f words marks e st = record { goes = st.goes; six = st.six; read = st.read; ldt = st.ldt; base = st.base; marked = λ ws. st.marked ws ∙ ap (λ b. marks ++ (if b then [] else marks_of m f segs ws)) e }

stage_goes : (M : List ℕ → List Ask) (f0 : Facts) (m : Attempt) (g : Seen) (s : ℕ) (segs : List ℕ) (f : Facts) (words : List ℕ) (marks : List Ask) → stops_at s (first_fail_of f) ≡ false
    → Stage M f0 m g segs f words marks (rest_of m f s segs) → Stage M f0 m g segs f words marks (marks_of m f segs)
stage_goes M f0 m g s segs f words marks e st = record { goes = st.goes; six = st.six; read = st.read; ldt = st.ldt; base = st.base; marked = λ ws. st.marked ws ∙ ap (λ b. marks ++ (if b then [] else marks_of m f segs ws)) e }

-- all accessed bytes have been written
all_marked : (M : List ℕ → List Ask) (f0 : Facts) (m : Attempt) (g : Seen) (segs : List ℕ) (f : Facts) (words : List ℕ) (marks : List Ask) (rest : List ℕ → List Ask) → rest [] ≡ []
    → Stage M f0 m g segs f words marks rest → M words ≡ marks
all_marked M f0 m g segs f words marks rest e st = ap M (sym (append-nil words)) ∙ st.marked [] ∙ ap (λ x. marks ++ x) e ∙ append-nil marks

shows_table : {A : Type 0} (P : Seen → A → Type 0) (g : Seen) (selector address : ℕ) (k : Desc → Phrase A)
    → ((lo hi : ℕ) → Shows P (record g { words = g.words ++ lo ∷ hi ∷ [] }) (k (descriptor_in (two_doublewords lo hi))))
    → Shows P g (descriptor_phrase (table_role selector) address >>= k)
shows_table P g selector address k h = go (names_ldt selector)
  where
    go : (b : Bool) → Shows P g (descriptor_phrase (if b then roles.Ldt else roles.Gdt) address >>= k)
    go true = shows_ldt P g address k h
    go false = shows_gdt P g address k h

shows_accessed : {A : Type 0} (P : Seen → A → Type 0) (g : Seen) (selector address value : ℕ) (f : Facts) (k : Facts → Phrase A)
    → Shows P (record g { wrote = true; marks = g.marks ++ write_ask (accessed_role selector) true (access_piece address) value ∷ [] }) (k f) → Shows P g ((access_byte_phrase (accessed_role selector) address value >>= (λ _. Done f)) >>= k)
unfolding note ◌>>=◌ cycle_of access_byte_phrase
shows_accessed {A = A} P g selector address value f k h = go (names_ldt selector) h
  where
    go : (b : Bool) → Shows P (record g { wrote = true; marks = g.marks ++ write_ask (if b then roles.LdtAcc else roles.GdtAcc) true (access_piece address) value ∷ [] }) (k f) → Shows P g ((access_byte_phrase (if b then roles.LdtAcc else roles.GdtAcc) address value >>= (λ _. Done f)) >>= k)
    go true h = shows_ask P g _ _ (λ v. h)
    go false h = shows_ask P g _ _ (λ v. h)

abbrev at : Seen → Bool → List ℕ → List Ask → Seen
at g w words marks = record g { wrote = w; words = words; marks = marks }

-- the accessed byte, where it is to be written
abbrev marking : ℕ → ℕ → Facts → ℕ → Desc → List Ask
marking address selector f seg d = if is_to_mark f seg d then write_ask (accessed_role selector) true (access_piece address) (bit_or d.access 1) ∷ [] else []

shows_described : {A : Type 0} (P : Seen → A → Type 0) (g : Seen) (w : Bool) (words : List ℕ) (marks : List Ask) (address selector : ℕ) (f : Facts) (seg : ℕ) (k : Facts → Phrase A)
    → ((w2 : Bool) (lo hi : ℕ) → Shows P (at g w2 (words ++ lo ∷ hi ∷ []) (marks ++ marking address selector f seg (descriptor_in (two_doublewords lo hi)))) (k (with_desc f seg (descriptor_in (two_doublewords lo hi)))))
    → Shows P (at g w words marks) (described_phrase address selector f seg >>= k)
unfolding described_phrase mark_phrase
shows_described P g w words marks address selector f seg k h =
    shows_later P _ _ _ k (shows_table P (at g w words marks) selector address _ (λ lo hi.
    let d : Desc = descriptor_in (two_doublewords lo hi) in
    let t : Ask = write_ask (accessed_role selector) true (access_piece address) (bit_or d.access 1) in
    shows_if_then P _ (is_to_mark f seg d) (access_byte_phrase (accessed_role selector) address (bit_or d.access 1) >>= (λ _. Done (with_desc f seg d))) (Done (with_desc f seg d)) k
    (λ e. shows_accessed P (at g w (words ++ lo ∷ hi ∷ []) marks) selector address (bit_or d.access 1) (with_desc f seg d) k
    (subst (λ b. Shows P (at g true (words ++ lo ∷ hi ∷ []) (marks ++ (if b then t ∷ [] else []))) (k (with_desc f seg d))) e (h true lo hi)))
    (λ e. shows_bind P _ _ k
    (subst (λ x. Shows P (at g w (words ++ lo ∷ hi ∷ []) x) (k (with_desc f seg d))) (ap (λ b. marks ++ (if b then t ∷ [] else [])) e ∙ append-nil marks) (h w lo hi)))))

shows_segment : {A : Type 0} (P : Seen → A → Type 0) (M : List ℕ → List Ask) (f0 : Facts) (m : Attempt) (g : Seen) (w : Bool) (s : ℕ) (segs : List ℕ) (f : Facts) (words : List ℕ) (marks : List Ask) (k : Facts → Phrase A) → s < 6
    → Stage M f0 m g (s ∷ segs) f words marks (marks_of m f (s ∷ segs))
    → ((w2 : Bool) (words2 : List ℕ) (marks2 : List Ask) (f2 : Facts) → Stage M f0 m g segs f2 words2 marks2 (rest_of m f2 s segs) → (there_by m.gdt_limit f2 s ≡ true → IsSome (descriptor_at f2 s)) → Shows P (at g w2 words2 marks2) (k f2))
    → Shows P (at g w words marks) (segment_phrase (record { base = m.gdt_base; limit = m.gdt_limit }) f s >>= k)
unfolding segment_phrase
shows_segment P M f0 m g w s segs f words marks k i st h =
    shows_if_then P _ (there_by m.gdt_limit f s) _ _ k
    (λ e. shows_described P g w words marks _ _ f s k (λ w2 lo hi. h w2 _ _ _ (stage_read M f0 m g s segs f words marks lo hi i e st) (λ t. set_some f.seg_descs s s _ refl (let n : length f.seg_descs ≡ 6 = st.six in rw n i))))
    (λ e. shows_bind P _ f k (h w words marks f (stage_skip M f0 m g s segs f words marks e st) (λ t. let c : true ≡ false = sym t ∙ e in absurd cc)))

same_facts : (m : Attempt) (g : Seen) (w : Bool) (words : List ℕ) (marks : List Ask) → facts_of m (at g w words marks) ≡ facts_of m (record g { words = words })
unfolding facts_of
same_facts m g w words marks = refl

below_six : List ℕ → Type 0
below_six [] = Unit {0}
below_six (s ∷ segs) = (s < 6) × below_six segs

-- what the failing row speaks of was read
read_at_end : (M : List ℕ → List Ask) (f0 : Facts) (m : Attempt) (g : Seen) (f : Facts) (words : List ℕ) (marks : List Ask) (rest : List ℕ → List Ask) (o : Option Fail) → Stage M f0 m g [] f words marks rest → IsReadFor m.gdt_limit f o
unfolding Left
read_at_end M f0 m g f words marks rest None st = tt
read_at_end M f0 m g f words marks rest (Some x) st = (λ r t. st.ldt t, λ l u i t. go (st.read x.seg i) t)
  where
    go : ⊥ ⊎ (there_by m.gdt_limit f x.seg ≡ true → IsSome (descriptor_at f x.seg)) → there_by m.gdt_limit f x.seg ≡ true → IsSome (descriptor_at f x.seg)
    go (inl q) t = absurd q
    go (inr r) t = r t

and-l : (a b : Bool) → a && b ≡ true → a ≡ true
and-l true b h = refl
and-l false b h = h

read_at_stop : (M : List ℕ → List Ask) (f0 : Facts) (m : Attempt) (g : Seen) (s : ℕ) (segs : List ℕ) (f : Facts) (words : List ℕ) (marks : List Ask) (rest : List ℕ → List Ask) (o : Option Fail) → Stage M f0 m g segs f words marks rest → (there_by m.gdt_limit f s ≡ true → IsSome (descriptor_at f s)) → stops_at s o ≡ true → IsReadFor m.gdt_limit f o
read_at_stop M f0 m g s segs f words marks rest None st r e = tt
read_at_stop M f0 m g s segs f words marks rest (Some x) st r e =
    let q : x.seg ≡ s = eqb-true x.seg s (and-l _ _ e) in
    (λ y t. st.ldt t, λ l u i. subst (λ y. there_by m.gdt_limit f y ≡ true → IsSome (descriptor_at f y)) (sym q) r)

-- what is shown where the descriptors have been read
abbrev Finished : {A : Type 0} → (Seen → A → Type 0) → (List ℕ → List Ask) → Facts → Attempt → Seen → (Facts → Phrase A) → Type 0
Finished P M f0 m g k =
    (w2 : Bool) (words2 : List ℕ) (marks2 : List Ask) (f2 : Facts) → facts_of m (at g w2 words2 marks2) ≡ f2 → IsReadFor m.gdt_limit f2 (first_fail_of f2) → before_segments f2 ≡ f0 → M words2 ≡ marks2 → Shows P (at g w2 words2 marks2) (k f2)

-- The descriptors of the segment registers, up to the first row that fails.
shows_segments : {A : Type 0} (P : Seen → A → Type 0) (M : List ℕ → List Ask) (f0 : Facts) (m : Attempt) (g : Seen) (w : Bool) (segs : List ℕ) (f : Facts) (words : List ℕ) (marks : List Ask) (k : Facts → Phrase A) → below_six segs
    → Stage M f0 m g segs f words marks (marks_of m f segs) → Finished P M f0 m g k
    → Shows P (at g w words marks) (segments (record { base = m.gdt_base; limit = m.gdt_limit }) f segs >>= k)
unfolding segments below_six
shows_segments P M f0 m g w [] f words marks k i st h = shows_bind P _ f k (h w words marks f (same_facts m g w words marks ∙ now_facts m g [] f words st.goes) (read_at_end M f0 m g f words marks _ (first_fail_of f) st) st.base (all_marked M f0 m g [] f words marks (marks_of m f []) (marks_none m f []) st))
shows_segments P M f0 m g w (s ∷ segs) f words marks k i st h =
    shows_later P _ _ _ k (shows_segment P M f0 m g w s segs f words marks _ i.0 st (λ w2 words2 marks2 f2 st2 r.
    shows_if_then P _ (stops_at s (first_fail_of f2)) _ _ k
    (λ e. shows_bind P _ f2 k (h w2 words2 marks2 f2 (same_facts m g w2 words2 marks2 ∙ now_facts m g segs f2 words2 st2.goes) (read_at_stop M f0 m g s segs f2 words2 marks2 _ (first_fail_of f2) st2 r e) st2.base (all_marked M f0 m g segs f2 words2 marks2 (λ ws. []) refl (stage_stops M f0 m g s segs f2 words2 marks2 e st2))))
    (λ e. shows_segments P M f0 m g w2 segs f2 words2 marks2 k i.1 (stage_goes M f0 m g s segs f2 words2 marks2 e st2) h)))

left_all : (s : ℕ) → s < 6 → Left s segment_order
unfolding Left
left_all zero l = inr (inr (inr (inl refl)))
left_all (suc zero) l = inl refl
left_all (suc (suc zero)) l = inr (inl refl)
left_all (suc (suc (suc zero))) l = inr (inr (inl refl))
left_all (suc (suc (suc (suc zero)))) l = inr (inr (inr (inr (inl refl))))
left_all (suc (suc (suc (suc (suc zero))))) l = inr (inr (inr (inr (inr (inl refl)))))
left_all (suc (suc (suc (suc (suc (suc n)))))) l = absurd (omega arith)

abbrev before : Attempt → Seen → Facts
before m g = facts_of m (record g { words = [] })

-- the accessed bytes by all doublewords of an attempt
abbrev by_words : Attempt → Seen → Facts → List ℕ → List Ask
by_words m g f words = marks_of m f segment_order (after_desc words (names_local_table m.gdt_limit (loaded_ldt g)))

first_stage_there : (m : Attempt) (g : Seen) (lo hi : ℕ) → names_local_table m.gdt_limit (loaded_ldt g) ≡ true
    → let f : Facts = with_ldt (before m g) (descriptor_in (two_doublewords lo hi)) in Stage (by_words m g f) f m g segment_order f (lo ∷ hi ∷ []) [] (marks_of m f segment_order)
unfolding facts_of descs_read next_desc after_desc
first_stage_there m g lo hi e = record { goes = λ ws. rw e refl; six = refl; read = λ s l. inl (left_all s l); ldt = λ t. refl; base = refl; marked = λ ws. rw e refl }

none_there : (ws : List ℕ) → next_desc ws false ≡ None
unfolding next_desc
none_there [] = refl
none_there (lo ∷ []) = refl
none_there (lo ∷ hi ∷ ws) = refl

all_after : (ws : List ℕ) → after_desc ws false ≡ ws
unfolding after_desc
all_after [] = refl
all_after (lo ∷ []) = refl
all_after (lo ∷ hi ∷ ws) = refl

first_stage_none : (m : Attempt) (g : Seen) → names_local_table m.gdt_limit (loaded_ldt g) ≡ false → Stage (by_words m g (before m g)) (before m g) m g segment_order (before m g) [] [] (marks_of m (before m g) segment_order)
unfolding facts_of descs_read next_desc after_desc
first_stage_none m g e = record { goes = λ ws. rw (e, none_there ws, all_after ws) refl; six = refl; read = λ s l. inl (left_all s l); ldt = λ t. let c : true ≡ false = sym t ∙ e in absurd cc; base = refl; marked = λ ws. rw (e, all_after ws) refl }

read_at_ldt : (M : List ℕ → List Ask) (f0 : Facts) (m : Attempt) (g : Seen) (segs : List ℕ) (f : Facts) (words : List ℕ) (marks : List Ask) (rest : List ℕ → List Ask) (o : Option Fail) → Stage M f0 m g segs f words marks rest → stops_at_ldt o ≡ true → IsReadFor m.gdt_limit f o
read_at_ldt M f0 m g segs f words marks rest None st e = tt
read_at_ldt M f0 m g segs f words marks rest (Some x) st e = let l : x.row ≤ 9 = grind (arith, e) in (λ y t. st.ldt t, λ a b i t. absurd (omega (arith, l, a)))

abbrev ldt_of : Attempt → Seen → Bool
ldt_of m g = names_local_table m.gdt_limit (before m g).ldt

shows_ldt_part : {A : Type 0} (P : Seen → A → Type 0) (m : Attempt) (g : Seen) (w : Bool) (k : Facts → Phrase A)
    → ((words : List ℕ) (f : Facts) → Stage (by_words m g f) f m g segment_order f words [] (marks_of m f segment_order) → Shows P (at g w words []) (k f))
    → Shows P (at g w [] []) (ldt_phrase (record { base = m.gdt_base; limit = m.gdt_limit }) (before m g) >>= k)
unfolding ldt_phrase facts_of
shows_ldt_part P m g w k h =
    shows_if_then P _ (ldt_of m g) (descriptor_phrase roles.Gdt (place_in m.gdt_base (before m g).ldt) >>= (λ d. Done (with_ldt (before m g) d))) (Done (before m g)) k
    (λ e. shows_later P _ _ _ k (shows_gdt P _ _ _ (λ lo hi. shows_bind P _ _ k (h _ _ (first_stage_there m g lo hi e)))))
    (λ e. shows_bind P _ _ k (h _ _ (first_stage_none m g e)))

order_below : below_six segment_order
unfolding below_six
order_below = (omega arith, (omega arith, (omega arith, (omega arith, (omega arith, (omega arith, tt))))))

-- the accessed bytes of an attempt, where row 8 or 9 fails or doesn't
none_at_ldt : (m : Attempt) (f : Facts) (ws : List ℕ) → stops_at_ldt (first_fail_of f) ≡ true → [] ≡ all_marks_of m f ws
none_at_ldt m f ws e = rw e refl

some_behind : (m : Attempt) (f : Facts) (ws : List ℕ) → stops_at_ldt (first_fail_of f) ≡ false → marks_of m f segment_order ws ≡ all_marks_of m f ws
some_behind m f ws e = rw e refl

-- The descriptors of the new task, up to the first row that fails.
pub shows_all_later : {A : Type 0} (P : Seen → A → Type 0) (m : Attempt) (g : Seen) (w : Bool) (k : Facts → Phrase A)
    → ((w2 : Bool) (words2 : List ℕ) (marks2 : List Ask) (f2 : Facts) → facts_of m (at g w2 words2 marks2) ≡ f2 → IsReadFor m.gdt_limit f2 (first_fail_of f2)
    → marks2 ≡ all_marks_of m (before_segments f2) (after_desc words2 (names_local_table m.gdt_limit (loaded_ldt g))) → Shows P (at g w2 words2 marks2) (k f2))
    → Shows P (at g w [] []) (later_phrase (record { base = m.gdt_base; limit = m.gdt_limit }) (before m g) >>= k)
unfolding later_phrase
shows_all_later P m g w k h =
    let there : Bool = names_local_table m.gdt_limit (loaded_ldt g) in
    shows_later P _ (ldt_phrase (record { base = m.gdt_base; limit = m.gdt_limit }) (before m g)) _ k (shows_ldt_part P m g w _ (λ words f st.
    shows_if_then P _ (stops_at_ldt (first_fail_of f)) (Done f) (segments (record { base = m.gdt_base; limit = m.gdt_limit }) f segment_order) k
    (λ e. shows_bind P _ f k (h w words [] f (same_facts m g w words [] ∙ now_facts m g segment_order f words st.goes) (read_at_ldt _ f m g segment_order f words [] _ (first_fail_of f) st e)
    (none_at_ldt m f (after_desc words there) e ∙ ap (λ x. all_marks_of m x (after_desc words there)) (sym st.base))))
    (λ e. shows_segments P (by_words m g f) f m g w segment_order f words [] k order_below st (λ w2 words2 marks2 f2 same told base all.
    h w2 words2 marks2 f2 same told (sym all ∙ some_behind m f (after_desc words2 there) e ∙ ap (λ x. all_marks_of m x (after_desc words2 there)) (sym base))))))
