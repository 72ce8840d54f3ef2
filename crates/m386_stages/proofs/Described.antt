-- The later descriptors: reads, and accessed bytes of segments alone.
use Rattle.std.proofs.Common.{arith, ◌≡◌, ◌≢◌, ℕ, ◌+◌, ◌%◌, ◌^◌, ◌<◌, ◌∙◌, refl, sym, ap, subst, List, [], ◌∷◌, length, Bool, true, false, bit_or, if◌then◌else◌, not, Option, Some, None}
use Rattle.std.proofs.lemmas.List.{get_or-set_other, length-set}
use Rattle.std.proofs.lemmas.Grind.{get_or-set_at}
use Rattle.m386_base.specs.declared.ask.Role.TheVariants as roles
use Rattle.m386_base.specs.declared.desc.Desc.{Desc}
use Rattle.m386_base.specs.Bus.{cycle_of}
use Rattle.m386_base.specs.Phrase.{Done, ◌>>=◌}
use Rattle.m386_checks.specs.declared.facts.Facts.{Facts}
use Rattle.m386_checks.specs.First.{first_fail_of, first_false, old_fail_of}
use Rattle.m386_checks.specs.Holds.{selector_at, descriptor_at, test_holds}
use Rattle.m386_desc.specs.Selector.{is_null_selector, names_ldt, is_in_table, place_in}
use Rattle.m386_state.specs.declared.segment.TableReg.{TableReg}
use Rattle.m386_switch.specs.Later.{names_place, names_local_table, new_place, stops_at, stops_at_ldt, with_ldt, with_desc, is_to_mark, ldt_phrase, mark_phrase, described_phrase, segment_phrase, segments, segment_order, later_phrase}
use Rattle.m386_stages.specs.Stages.{Stage, Phase, Turn, Stores, Touches, Keeps, shut}
use Rattle.m386_stages.proofs.Chains.{keeps_then, keeps_done, keeps_if, keeps_weaken}
use Rattle.m386_stages.proofs.Words.{GotDesc, keeps_descriptor}
use Rattle.m386_stages.proofs.OneByte.{byte_written, set_accessed}
use Rattle.m386_stages.proofs.Linked.{Grows}
use Rattle.m386_stages.proofs.Claimed.{Looked, looked, and-l, and-r}
use Rattle.m386_stages.proofs.Rows.{blocks, NotIn, Held, held_first, held_next, rows_hold, segment_read}
use Rattle.m386_access.specs.Access.{write_ask}
use Rattle.m386_switch.specs.Parts.{access_piece}
use Rattle.m386_segload.specs.Descriptors.{descriptor_phrase, access_byte_phrase}
use Rattle.m386_segload.specs.Tables.{is_in_ldt, base_of_ldt, table_role, accessed_role}
use Rattle.m386_base.specs.Bytes.{Has}
use Rattle.m386_base.specs.Laws.{Turns}
use Rattle.m386_access.specs.Ordinary.{desc_byte, NamesGdt, IsSegmentByte}

not_false : (b : Bool) → not b ≡ true → b ≡ false
not_false true h = absurd cc
not_false false h = refl

-- facts with six descriptors
abbrev pub Six : Facts → Type 0
Six f = length f.seg_descs ≡ 6

set_here : (f : Facts) (s : ℕ) (d : Desc) → Six f → s < 6 → descriptor_at (with_desc f s d) s ≡ Some d
set_here f s d n l = get_or-set_at f.seg_descs s s (Some d) None refl (rw n l)

set_there : (f : Facts) (s x : ℕ) (d : Desc) → x ≢ s → descriptor_at (with_desc f s d) x ≡ descriptor_at f x
set_there f s x d n = get_or-set_other f.seg_descs s x (Some d) None n

-- the same kind and the same selector of the new task, and the same of rows 1 to 7
abbrev pub Same : Facts → Facts → Type 0
Same f f2 = (f2.kind ≡ f.kind) × (f2.selector ≡ f.selector) × (old_fail_of f2 ≡ old_fail_of f)

old_desc : (f : Facts) (s : ℕ) (d : Desc) → old_fail_of (with_desc f s d) ≡ old_fail_of f
unfolding old_fail_of first_false test_holds
old_desc f s d = refl

old_ldt : (f : Facts) (d : Desc) → old_fail_of (with_ldt f d) ≡ old_fail_of f
unfolding old_fail_of first_false test_holds
old_ldt f d = refl

-- the facts and the stage behind the work on one register
record After (segs : List ℕ) (s : ℕ) (ph : Phase) (g g2 : Stage) (f f2 : Facts) : Type 0 where
  phase : g2.phase ≡ ph
  more : Grows g g2
  six : Six f2
  same : Same f f2
  held : stops_at s (first_fail_of f2) ≡ false → Held f2 segs

-- the descriptor read belongs to a segment where it is marked
marked : (f : Facts) (s : ℕ) (segs : List ℕ) (d : Desc) → Six f → s < 6 → d.access < 256 → NotIn s segs → is_null_selector (selector_at f s) ≡ false → Held f (s ∷ segs) → stops_at s (first_fail_of (with_desc f s d)) ≡ false → IsSegmentByte d.access
unfolding Held
marked f s segs d n l b out z h e =
    let f2 : Facts = with_desc f s d in
    let k : first_fail_of f2 ≡ first_false f2 (blocks (s ∷ segs)) = h f2.seg_descs (λ x o. set_there f s x d o.0) in
    segment_read f2 s d (set_here f s d n l) b z (rows_hold f2 s segs k e)

mark_one : (gdt : TableReg) (ph : Phase) (g g1 : Stage) (f : Facts) (s : ℕ) (segs : List ℕ) (selector address : ℕ) (d : Desc) → g1.phase ≡ ph → Grows g g1 → After segs s ph g g1 f (with_desc f s d)
    → (names_ldt selector ≡ false → (address ≡ place_in gdt.base selector) × NamesGdt gdt selector × Has g1.group (desc_byte gdt selector 5) d.access × (d.access < 256)) → IsSegmentByte d.access
    → Keeps gdt (λ g2 f2. After segs s ph g g2 f f2) g1 (access_byte_phrase (accessed_role selector) address (bit_or d.access 1) >>= (λ _. Done (with_desc f s d)))
unfolding Keeps Turns ◌>>=◌ cycle_of access_byte_phrase
mark_one gdt ph g g1 f s segs selector address d e m a read b = λ v. go (names_ldt selector) refl
  where
    g2 : Stage
    g2 = shut g1 g1.phase

    end : After segs s ph g g2 f (with_desc f s d)
    end = record { phase = e; more = m; six = a.six; same = a.same; held = a.held }

    go : (c : Bool) → names_ldt selector ≡ c → (g2 : Stage) × Turn gdt g1 (write_ask (accessed_role selector) true (access_piece address) (bit_or d.access 1)) g2 × After segs s ph g g2 f (with_desc f s d)
    go true q = (g2, Stores refl (rw q refl) refl, end)
    go false q =
        let r = read q in
        let w = byte_written gdt roles.GdtAcc selector (bit_or d.access 1) (bit_or d.access 1) (set_accessed d.access r.3) in
        let t : Turn gdt g1 (write_ask roles.GdtAcc true (access_piece (place_in gdt.base selector)) (bit_or d.access 1)) g2 = Touches selector d.access r.1 r.2 b w refl in
        let t2 : Turn gdt g1 (write_ask roles.GdtAcc true (access_piece address) (bit_or d.access 1)) g2 = subst (λ x. Turn gdt g1 (write_ask roles.GdtAcc true (access_piece x) (bit_or d.access 1)) g2) (sym r.0) t in
        (g2, rw q t2, end)

mark_next : (gdt : TableReg) (ph : Phase) (g g1 : Stage) (f : Facts) (s : ℕ) (segs : List ℕ) (selector address : ℕ) (d : Desc) → g1.phase ≡ ph → Grows g g1 → Six f → s < 6 → NotIn s segs → is_null_selector (selector_at f s) ≡ false → d.access < 256 → Held f (s ∷ segs)
    → (names_ldt selector ≡ false → (address ≡ place_in gdt.base selector) × NamesGdt gdt selector × Has g1.group (desc_byte gdt selector 5) d.access × (d.access < 256))
    → Keeps gdt (λ g2 f2. After segs s ph g g2 f f2) g1 (mark_phrase address selector f s d)
unfolding mark_phrase
mark_next gdt ph g g1 f s segs selector address d e m n l out z b h read =
    keeps_if gdt (λ g2 f2. After segs s ph g g2 f f2) g1 (is_to_mark f s d) (access_byte_phrase (accessed_role selector) address (bit_or d.access 1) >>= (λ _. Done (with_desc f s d))) (Done (with_desc f s d))
    (λ q. mark_one gdt ph g g1 f s segs selector address d e m a read (marked f s segs d n l b out z h (not_false _ (and-l _ _ q))))
    (λ q. keeps_done gdt (λ g2 f2. After segs s ph g g2 f f2) g1 (with_desc f s d) a)
  where
    a : After segs s ph g g1 f (with_desc f s d)
    a = record { phase = e; more = m; six = length-set f.seg_descs s (Some d) ∙ n; same = (refl, refl, old_desc f s d); held = λ q. held_next f (with_desc f s d) s segs out refl (λ x o. set_there f s x d o) q h }

there_parts : (gdt : TableReg) (ldt : Option Desc) (s : ℕ) → names_place gdt.limit ldt s ≡ true → names_ldt s ≡ false → NamesGdt gdt s
there_parts gdt ldt s h e =
    let k : (if names_ldt s then is_in_ldt ldt s else is_in_table s gdt.limit) ≡ true = and-r (not (is_null_selector s)) _ h in
    record { some = not_false _ (and-l _ _ h); table = e; inside = (let j : is_in_table s gdt.limit ≡ true = rw e at k in j) }

one_segment : (gdt : TableReg) (ph : Phase) (f : Facts) (s : ℕ) (segs : List ℕ) (g : Stage) → g.phase ≡ ph → Six f → s < 6 → NotIn s segs → Held f (s ∷ segs) → Keeps gdt (λ g2 f2. After segs s ph g g2 f f2) g (segment_phrase gdt f s)
unfolding segment_phrase described_phrase
one_segment gdt ph f s segs g e n l out h =
    keeps_if gdt (λ g2 f2. After segs s ph g g2 f f2) g (names_place gdt.limit f.ldt_desc (selector_at f s)) (descriptor_phrase (table_role x) a >>= mark_phrase a x f s) (Done f)
    (λ q. keeps_then gdt (GotDesc g a) (λ g2 f2. After segs s ph g g2 f f2) g (descriptor_phrase (table_role x) a) (mark_phrase a x f s) (keeps_descriptor gdt g (table_role x) a) (λ d g1 t.
    let k : Looked (record { base = tb; limit = gdt.limit }) x g g1 d = looked (record { base = tb; limit = gdt.limit }) x g g1 d t in
    mark_next gdt ph g g1 f s segs x a d (t.phase ∙ e) t.more n l out (not_false _ (and-l _ _ q)) k.small h
    (λ c. let p : tb ≡ gdt.base = rw c refl in (ap (λ b. place_in b x) p, there_parts gdt f.ldt_desc x q c, subst (λ b. Has g1.group ((place_in b x + 5) % 2 ^ 32) d.access) p k.byte, k.small))))
    (λ q. keeps_done gdt (λ g2 f2. After segs s ph g g2 f f2) g f (record { phase = e; more = λ y z i. i; six = n; same = (refl, refl, refl); held = λ c. held_next f f s segs out refl (λ y o. refl) c h }))
  where
    x : ℕ
    x = selector_at f s

    tb : ℕ
    tb = if names_ldt x then base_of_ldt f.ldt_desc else gdt.base

    a : ℕ
    a = new_place gdt.base f.ldt_desc x

-- registers in turn, each once
abbrev InTurn : List ℕ → Type 0
InTurn [] = Unit {0}
InTurn (s ∷ segs) = (s < 6) × NotIn s segs × InTurn segs

-- what the later descriptors keep
abbrev pub Kept : Phase → Facts → Stage → Stage → Facts → Type 0
Kept ph f g g2 f2 = (g2.phase ≡ ph) × Grows g g2 × Same f f2

all_segments : (gdt : TableReg) (ph : Phase) (segs : List ℕ) (f : Facts) (g : Stage) → g.phase ≡ ph → Six f → InTurn segs → Held f segs → Keeps gdt (Kept ph f g) g (segments gdt f segs)
unfolding segments
all_segments gdt ph [] f g e n t h = keeps_done gdt (Kept ph f g) g f (e, λ x y i. i, (refl, refl, refl))
all_segments gdt ph (s ∷ segs) f g e n t h =
    keeps_then gdt (λ g2 f2. After segs s ph g g2 f f2) (Kept ph f g) g (segment_phrase gdt f s) _ (one_segment gdt ph f s segs g e n t.0 t.1 h) (λ f2 g2 a.
    keeps_if gdt (Kept ph f g) g2 (stops_at s (first_fail_of f2)) (Done f2) (segments gdt f2 segs)
    (λ q. keeps_done gdt (Kept ph f g) g2 f2 (a.phase, a.more, a.same))
    (λ q. keeps_weaken gdt (Kept ph f2 g2) (Kept ph f g) g2 (segments gdt f2 segs) (λ x g3 k. (k.0, λ y z i. k.1 y z (a.more y z i), (k.2.0 ∙ a.same.0, k.2.1 ∙ a.same.1, k.2.2 ∙ a.same.2))) (all_segments gdt ph segs f2 g2 a.phase a.six t.2 (a.held q))))

in_turn : InTurn segment_order
in_turn = (omega arith, (λ e. omega arith, (λ e. omega arith, (λ e. omega arith, (λ e. omega arith, (λ e. omega arith, tt))))), (omega arith, (λ e. omega arith, (λ e. omega arith, (λ e. omega arith, (λ e. omega arith, tt)))), (omega arith, (λ e. omega arith, (λ e. omega arith, (λ e. omega arith, tt))), (omega arith, (λ e. omega arith, (λ e. omega arith, tt)), (omega arith, (λ e. omega arith, tt), (omega arith, tt, tt))))))

-- The later descriptors change no phase.
pub keeps_later : (gdt : TableReg) (ph : Phase) (f : Facts) (g : Stage) → g.phase ≡ ph → Six f → Keeps gdt (Kept ph f g) g (later_phrase gdt f)
unfolding later_phrase ldt_phrase
keeps_later gdt ph f g e n =
    keeps_then gdt (λ g2 f2. Kept ph f g g2 f2 × Six f2) (Kept ph f g) g (ldt_phrase gdt f) _ ldt (λ f2 g2 a.
    keeps_if gdt (Kept ph f g) g2 (stops_at_ldt (first_fail_of f2)) (Done f2) (segments gdt f2 segment_order)
    (λ q. keeps_done gdt (Kept ph f g) g2 f2 a.0)
    (λ q. keeps_weaken gdt (Kept ph f2 g2) (Kept ph f g) g2 (segments gdt f2 segment_order) (λ x g3 k. (k.0, λ y z i. k.1 y z (a.0.1 y z i), (k.2.0 ∙ a.0.2.0, k.2.1 ∙ a.0.2.1, k.2.2 ∙ a.0.2.2))) (all_segments gdt ph segment_order f2 g2 a.0.0 a.1 in_turn (held_first f2 q))))
  where
    ldt : Keeps gdt (λ g2 f2. Kept ph f g g2 f2 × Six f2) g (ldt_phrase gdt f)
    ldt = keeps_if gdt (λ g2 f2. Kept ph f g g2 f2 × Six f2) g (names_local_table gdt.limit f.ldt) (descriptor_phrase roles.Gdt (place_in gdt.base f.ldt) >>= (λ d. Done (with_ldt f d))) (Done f)
        (λ q. keeps_then gdt (GotDesc g (place_in gdt.base f.ldt)) (λ g2 f2. Kept ph f g g2 f2 × Six f2) g (descriptor_phrase roles.Gdt (place_in gdt.base f.ldt)) _ (keeps_descriptor gdt g roles.Gdt (place_in gdt.base f.ldt)) (λ d g1 t. keeps_done gdt (λ g2 f2. Kept ph f g g2 f2 × Six f2) g1 (with_ldt f d) ((t.phase ∙ e, t.more, (refl, refl, old_ldt f d)), n)))
        (λ q. keeps_done gdt (λ g2 f2. Kept ph f g g2 f2 × Six f2) g f ((e, λ x y i. i, (refl, refl, refl)), n))
