-- The work of a task switch: at most 113 cycles, none of which fetches code.
use Rattle.std.proofs.Common.{◌≡◌, ℕ, zero, suc, ◌+◌, ◌-◌, ◌*◌, ◌%◌, ◌^◌, ◌≤◌, ◌==◌, List, [], ◌∷◌, length, refl, arith, Bool, true, false, cond, not, ◌&&◌, bit_or, bit_and}
use Rattle.m386_base.specs.declared.ask.Ask.{Ask}
use Rattle.m386_base.specs.declared.ask.Role.{Role}
use Rattle.m386_base.specs.declared.ask.Role.TheVariants as roles
use Rattle.m386_base.specs.declared.desc.Desc.{Desc}
use Rattle.m386_base.specs.declared.kind.SwitchKind.{SwitchKind}
use Rattle.m386_base.specs.declared.kind.SwitchKind.TheVariants as switches
use Rattle.m386_base.specs.declared.split.Piece.{Piece}
use Rattle.m386_base.specs.Phrase.{Phrase, Done, ◌>>=◌, role_number}
use Rattle.m386_base.specs.Plain.{Plain}
use Rattle.m386_base.specs.Laws.{AtMost}
use Rattle.m386_base.proofs.Plain.{plain_at_most, plain_bind, plain_done, plain_if, plain_within}
use Rattle.m386_access.specs.Access.{memory_pieces, read_ask}
use Rattle.m386_access.proofs.Phrases.{Anything, few_pieces}
use Rattle.m386_checks.specs.declared.facts.Facts.{Facts}
use Rattle.m386_checks.specs.First.{first_fail_of}
use Rattle.m386_checks.specs.Holds.{selector_at}
use Rattle.m386_desc.specs.Selector.{names_ldt, place_in}
use Rattle.m386_segload.specs.Descriptors.{word_reads, descriptor_phrase, access_byte_phrase}
use Rattle.m386_segload.specs.Tables.{table_role, accessed_role}
use Rattle.m386_state.specs.declared.proc.Proc.{Proc}
use Rattle.m386_state.specs.declared.segment.TableReg.{TableReg}
use Rattle.m386_tss.specs.Fields.{field_at}
use Rattle.m386_tss.specs.Orders.{saved_fields, loaded_fields}
use Rattle.m386_switch.specs.Fields.{field_reads, field_writes, field_phrase, field_write_phrase}
use Rattle.m386_switch.specs.Later.{names_local_table, names_place, new_place, stops_at, stops_at_ldt, is_to_mark, with_desc, ldt_phrase, mark_phrase, described_phrase, segment_phrase, segments, segment_order, later_phrase}
use Rattle.m386_switch.specs.Parts.{claim_role, is_iret, is_admitted, link_phrase, with_tss, claim_rest, claim_phrase, saved_value, saves, save_phrase, relink_phrase, access_piece, clear_phrase, release_phrase, loads, load_phrase}
use Rattle.m386_switch.specs.declared.outcome.Switched.{Switched}
use Rattle.m386_switch.specs.Switch.{facts_at_first, with_fields, may_begin, is_named, arrived, stayed, leave_phrase, arrive_phrase, enter_phrase, claimed_phrase, named_phrase, work_phrase}

-- not a fetch of code
abbrev pub NoCode : List Ask → Ask → Type 0
NoCode ts q = (role_number q.role == role_number roles.Fetch) ≡ false

abbrev IsNoFetch : Role → Type 0
IsNoFetch role = (role_number role == role_number roles.Fetch) ≡ false

-- at most n cycles, none of which fetches code
abbrev Works : {A : Type 0} → ℕ → List Ask → Phrase A → Type 0
Works n ts t = Plain n NoCode Anything ts t

works_then : {A B : Type 0} (m n : ℕ) (ts : List Ask) (t : Phrase A) (f : A → Phrase B) → m ≤ n → Works m ts t → ((us : List Ask) (a : A) → Works (n - m) us (f a)) → Works n ts (t >>= f)
works_then m n ts t f l h k = plain_bind m n NoCode Anything Anything ts t f l h (λ us a o. k us a)

works_done : {A : Type 0} (n : ℕ) (ts : List Ask) (a : A) → Works n ts (Done a)
works_done n ts a = plain_done n NoCode Anything ts a tt

works_if : {A : Type 0} (n : ℕ) (ts : List Ask) (b : Bool) (t u : Phrase A) → Works n ts t → Works n ts u → Works n ts (cond b t u)
works_if n ts b t u h k = plain_if n NoCode Anything ts b t u h k

works_within : {A : Type 0} (m n : ℕ) (ts : List Ask) (t : Phrase A) → m ≤ n → Works m ts t → Works n ts t
works_within m n ts t l h = plain_within m n NoCode Anything ts t l h

-- fields
all_reads : (role : Role) (number : ℕ) (ps : List Piece) (value : ℕ) (ts : List Ask) → IsNoFetch role → Works (length ps) ts (field_reads role number value ps)
unfolding field_reads ◌>>=◌ Plain
all_reads role number [] value ts h = tt
all_reads role number (p ∷ ps) value ts h = (h, λ v. all_reads role number ps _ _ h)

all_writes : (role : Role) (number : ℕ) (ps : List Piece) (value : ℕ) (ts : List Ask) → IsNoFetch role → Works (length ps) ts (field_writes role number value ps)
unfolding field_writes ◌>>=◌ Plain
all_writes role number [] value ts h = tt
all_writes role number (p ∷ ps) value ts h = (h, λ v. all_writes role number ps value _ h)

two_field : (role : Role) (base number : ℕ) (ts : List Ask) → IsNoFetch role → Works 2 ts (field_phrase role base number)
unfolding field_phrase
two_field role base number ts h =
    let at = (base + (field_at number).offset) % 2 ^ 32 in
    let ps = memory_pieces at (field_at number).len in
    works_within (length ps) 2 ts (field_reads role number 0 ps) (few_pieces at (field_at number).len) (all_reads role number ps 0 ts h)

two_written : (role : Role) (base number value : ℕ) (ts : List Ask) → IsNoFetch role → Works 2 ts (field_write_phrase role base number value)
unfolding field_write_phrase
two_written role base number value ts h =
    let at = (base + (field_at number).offset) % 2 ^ 32 in
    let ps = memory_pieces at (field_at number).len in
    works_within (length ps) 2 ts (field_writes role number value ps) (few_pieces at (field_at number).len) (all_writes role number ps value ts h)

-- descriptors
all_words : (role : Role) (ps : List Piece) (joined : Bool) (value : ℕ) (ts : List Ask) → IsNoFetch role → Works (length ps) ts (word_reads role joined value ps)
unfolding word_reads ◌>>=◌ Plain
all_words role [] joined value ts h = tt
all_words role (p ∷ ps) joined value ts h = (h, λ v. all_words role ps true _ _ h)

two_words : (role : Role) (joined : Bool) (at : ℕ) (ts : List Ask) → IsNoFetch role → Works 2 ts (word_reads role joined 0 (memory_pieces at 4))
two_words role joined at ts h = works_within (length (memory_pieces at 4)) 2 ts (word_reads role joined 0 (memory_pieces at 4)) (few_pieces at 4) (all_words role (memory_pieces at 4) joined 0 ts h)

four_descriptor : (role : Role) (at : ℕ) (ts : List Ask) → IsNoFetch role → Works 4 ts (descriptor_phrase role at)
unfolding descriptor_phrase
four_descriptor role at ts h =
    works_then 2 4 ts (word_reads role false 0 (memory_pieces at 4)) _ (omega arith) (two_words role false at ts h) (λ us lo.
    works_then 2 2 us (word_reads role true 0 (memory_pieces ((at + 4) % 2 ^ 32) 4)) _ (omega arith) (two_words role true ((at + 4) % 2 ^ 32) us h) (λ vs hi.
    works_done 0 vs _))

one_byte : (role : Role) (at value : ℕ) (ts : List Ask) → IsNoFetch role → Works 1 ts (access_byte_phrase role at value)
unfolding access_byte_phrase Plain
one_byte role at value ts h = (h, λ v. tt)

-- the parts up to the load
two_link : (kind : SwitchKind) (base selector : ℕ) (ts : List Ask) → Works 2 ts (link_phrase kind base selector)
unfolding link_phrase
two_link switches.Iret base selector ts = works_then 2 2 ts (field_phrase roles.Back base 0) _ (omega arith) (two_field roles.Back base 0 ts refl) (λ us v. works_done 0 us _)
two_link switches.Jmp base selector ts = works_done 2 ts selector
two_link switches.Call base selector ts = works_done 2 ts selector
two_link switches.Event base selector ts = works_done 2 ts selector
two_link switches.Start base selector ts = works_done 2 ts selector

claim_no_fetch : (kind : SwitchKind) → IsNoFetch (claim_role kind)
claim_no_fetch switches.Jmp = refl
claim_no_fetch switches.Call = refl
claim_no_fetch switches.Event = refl
claim_no_fetch switches.Iret = refl
claim_no_fetch switches.Start = refl

one_claim : (f : Facts) (at : ℕ) (d : Desc) (ts : List Ask) → Works 1 ts (claim_rest f at d)
unfolding claim_rest
one_claim f at d ts =
    works_if 1 ts (is_admitted (with_tss f d) && not (is_iret f.kind)) _ _
    (works_then 1 1 ts (access_byte_phrase (claim_role f.kind) at (bit_or d.access 2)) _ (omega arith) (one_byte (claim_role f.kind) at (bit_or d.access 2) ts (claim_no_fetch f.kind)) (λ us v. works_done 0 us d))
    (works_done 1 ts d)

five_claim : (at : ℕ) (f : Facts) (ts : List Ask) → Works 5 ts (claim_phrase at f)
unfolding claim_phrase
five_claim at f ts = works_then 4 5 ts (descriptor_phrase roles.Tss at) _ (omega arith) (four_descriptor roles.Tss at ts refl) (λ us d. one_claim f at d us)

all_saves : (kind : SwitchKind) (p : Proc) (numbers : List ℕ) (ts : List Ask) → Works (length numbers * 2) ts (saves kind p numbers)
unfolding saves
all_saves kind p [] ts = works_done 0 ts tt
all_saves kind p (number ∷ numbers) ts =
    let e : length (number ∷ numbers) * 2 - 2 ≡ length numbers * 2 = omega arith in
    works_then 2 (length (number ∷ numbers) * 2) ts (field_write_phrase roles.Save p.tr.desc.base number (saved_value kind p number)) _ (omega arith) (two_written roles.Save p.tr.desc.base number (saved_value kind p number) ts refl) (λ us v. rw e (all_saves kind p numbers us))

some_saves : (kind : SwitchKind) (p : Proc) (ts : List Ask) → Works 32 ts (save_phrase kind p)
unfolding save_phrase saved_fields
some_saves switches.Start p ts = works_done 32 ts tt
some_saves switches.Jmp p ts = all_saves switches.Jmp p saved_fields ts
some_saves switches.Call p ts = all_saves switches.Call p saved_fields ts
some_saves switches.Event p ts = all_saves switches.Event p saved_fields ts
some_saves switches.Iret p ts = all_saves switches.Iret p saved_fields ts

two_relink : (kind : SwitchKind) (base selector : ℕ) (ts : List Ask) → Works 2 ts (relink_phrase kind base selector)
unfolding relink_phrase
two_relink switches.Call base selector ts = two_written roles.Link base 0 selector ts refl
two_relink switches.Event base selector ts = two_written roles.Link base 0 selector ts refl
two_relink switches.Jmp base selector ts = works_done 2 ts tt
two_relink switches.Iret base selector ts = works_done 2 ts tt
two_relink switches.Start base selector ts = works_done 2 ts tt

two_cleared : (role : Role) (at : ℕ) (ts : List Ask) → IsNoFetch role → Works 2 ts (clear_phrase role at)
unfolding clear_phrase access_byte_phrase ◌>>=◌ Plain
two_cleared role at ts h = (h, λ v. (h, λ w. tt))

two_release : (kind : SwitchKind) (at : ℕ) (ts : List Ask) → Works 2 ts (release_phrase kind at)
unfolding release_phrase
two_release switches.Jmp at ts = two_cleared roles.RelJmp at ts refl
two_release switches.Iret at ts = two_cleared roles.RelRet at ts refl
two_release switches.Call at ts = works_done 2 ts tt
two_release switches.Event at ts = works_done 2 ts tt
two_release switches.Start at ts = works_done 2 ts tt

all_loads : (base : ℕ) (numbers loaded : List ℕ) (ts : List Ask) → Works (length numbers * 2) ts (loads base loaded numbers)
unfolding loads
all_loads base [] loaded ts = works_done 0 ts loaded
all_loads base (number ∷ numbers) loaded ts =
    let e : length (number ∷ numbers) * 2 - 2 ≡ length numbers * 2 = omega arith in
    works_then 2 (length (number ∷ numbers) * 2) ts (field_phrase roles.Load base number) _ (omega arith) (two_field roles.Load base number ts refl) (λ us v. rw e (all_loads base numbers _ us))

some_loads : (base : ℕ) (ts : List Ask) → Works 36 ts (load_phrase base)
unfolding load_phrase loaded_fields
some_loads base ts = all_loads base loaded_fields _ ts

-- the later descriptors
four_ldt : (gdt : TableReg) (f : Facts) (ts : List Ask) → Works 4 ts (ldt_phrase gdt f)
unfolding ldt_phrase
four_ldt gdt f ts =
    works_if 4 ts (names_local_table gdt.limit f.ldt) _ _
    (works_then 4 4 ts (descriptor_phrase roles.Gdt (place_in gdt.base f.ldt)) _ (omega arith) (four_descriptor roles.Gdt (place_in gdt.base f.ldt) ts refl) (λ us d. works_done 0 us _))
    (works_done 4 ts f)

accessed_no_fetch : (selector : ℕ) → IsNoFetch (accessed_role selector)
accessed_no_fetch selector = go (names_ldt selector)
  where
    go : (b : Bool) → IsNoFetch (cond b roles.LdtAcc roles.GdtAcc)
    go true = refl
    go false = refl

table_no_fetch : (selector : ℕ) → IsNoFetch (table_role selector)
table_no_fetch selector = go (names_ldt selector)
  where
    go : (b : Bool) → IsNoFetch (cond b roles.Ldt roles.Gdt)
    go true = refl
    go false = refl

one_mark : (at selector : ℕ) (f : Facts) (seg : ℕ) (d : Desc) (ts : List Ask) → Works 1 ts (mark_phrase at selector f seg d)
unfolding mark_phrase
one_mark at selector f seg d ts =
    works_if 1 ts (is_to_mark f seg d) _ _
    (works_then 1 1 ts (access_byte_phrase (accessed_role selector) at (bit_or d.access 1)) _ (omega arith) (one_byte (accessed_role selector) at (bit_or d.access 1) ts (accessed_no_fetch selector)) (λ us v. works_done 0 us _))
    (works_done 1 ts _)

five_described : (at selector : ℕ) (f : Facts) (seg : ℕ) (ts : List Ask) → Works 5 ts (described_phrase at selector f seg)
unfolding described_phrase
five_described at selector f seg ts = works_then 4 5 ts (descriptor_phrase (table_role selector) at) _ (omega arith) (four_descriptor (table_role selector) at ts (table_no_fetch selector)) (λ us d. one_mark at selector f seg d us)

five_segment : (gdt : TableReg) (f : Facts) (seg : ℕ) (ts : List Ask) → Works 5 ts (segment_phrase gdt f seg)
unfolding segment_phrase
five_segment gdt f seg ts =
    works_if 5 ts (names_place gdt.limit f.ldt_desc (selector_at f seg)) _ _ (five_described (new_place gdt.base f.ldt_desc (selector_at f seg)) (selector_at f seg) f seg ts) (works_done 5 ts f)

all_segments : (gdt : TableReg) (f : Facts) (segs : List ℕ) (ts : List Ask) → Works (length segs * 5) ts (segments gdt f segs)
unfolding segments
all_segments gdt f [] ts = works_done 0 ts f
all_segments gdt f (seg ∷ segs) ts =
    let e : length (seg ∷ segs) * 5 - 5 ≡ length segs * 5 = omega arith in
    works_then 5 (length (seg ∷ segs) * 5) ts (segment_phrase gdt f seg) _ (omega arith) (five_segment gdt f seg ts) (λ us f2.
    works_if (length (seg ∷ segs) * 5 - 5) us (stops_at seg (first_fail_of f2)) _ _ (works_done (length (seg ∷ segs) * 5 - 5) us f2) (rw e (all_segments gdt f2 segs us)))

some_later : (gdt : TableReg) (f : Facts) (ts : List Ask) → Works 34 ts (later_phrase gdt f)
unfolding later_phrase
some_later gdt f ts =
    works_then 4 34 ts (ldt_phrase gdt f) _ (omega arith) (four_ldt gdt f ts) (λ us f2.
    works_if 30 us (stops_at_ldt (first_fail_of f2)) _ _ (works_done 30 us f2) (all_segments gdt f2 segment_order us))

-- the whole
leave_works : (p : Proc) (kind : SwitchKind) (base : ℕ) (ts : List Ask) → Works 36 ts (leave_phrase p kind base)
unfolding leave_phrase
leave_works p kind base ts =
    works_then 32 36 ts (save_phrase kind p) _ (omega arith) (some_saves kind p ts) (λ us u.
    works_then 2 4 us (relink_phrase kind base p.tr.selector) _ (omega arith) (two_relink kind base p.tr.selector us) (λ vs v.
    two_release kind (place_in p.gdtr.base p.tr.selector) vs))

arrive_works : (p : Proc) (d : Desc) (loaded : List ℕ) (f : Facts) (ts : List Ask) → Works 34 ts (arrive_phrase p d loaded f)
unfolding arrive_phrase
arrive_works p d loaded f ts = works_then 34 34 ts (later_phrase p.gdtr f) _ (omega arith) (some_later p.gdtr f ts) (λ us finished. works_done 0 us _)

enter_works : (p : Proc) (d : Desc) (f : Facts) (ts : List Ask) → Works 70 ts (enter_phrase p d f)
unfolding enter_phrase
enter_works p d f ts = works_then 36 70 ts (load_phrase d.base) _ (omega arith) (some_loads d.base ts) (λ us loaded. arrive_works p d loaded (with_fields f loaded) us)

claimed_works : (p : Proc) (f : Facts) (d : Desc) (ts : List Ask) → Works 106 ts (claimed_phrase p f d)
unfolding claimed_phrase
claimed_works p f d ts =
    works_if 106 ts (is_admitted (with_tss f d)) _ _
    (works_then 36 106 ts (leave_phrase p f.kind d.base) _ (omega arith) (leave_works p f.kind d.base ts) (λ us u. enter_works p d (with_tss f d) us))
    (works_done 106 ts _)

named_works : (p : Proc) (f : Facts) (ts : List Ask) → Works 111 ts (named_phrase p f)
unfolding named_phrase
named_works p f ts =
    works_if 111 ts (is_named f) _ _
    (works_then 5 111 ts (claim_phrase (place_in p.gdtr.base f.selector) f) _ (omega arith) (five_claim (place_in p.gdtr.base f.selector) f ts) (λ us d. claimed_works p f d us))
    (works_done 111 ts _)

-- The work of a switch.
pub work_works : (p : Proc) (kind : SwitchKind) (selector : ℕ) (direct ext : Bool) (ts : List Ask) → Plain 113 NoCode Anything ts (work_phrase p kind selector direct ext)
unfolding work_phrase
work_works p kind selector direct ext ts =
    works_if 113 ts (may_begin p kind) _ _
    (works_then 2 113 ts (link_phrase kind p.tr.desc.base selector) _ (omega arith) (two_link kind p.tr.desc.base selector ts) (λ us named. named_works p (facts_at_first p kind named direct ext) us))
    (works_done 113 ts _)

-- and with what is found at its end
pub came_works : {A : Type 0} (p : Proc) (kind : SwitchKind) (selector : ℕ) (direct ext : Bool) (w : Switched → A) (ts : List Ask) → Plain 113 NoCode Anything ts (work_phrase p kind selector direct ext >>= (λ r. Done (w r)))
came_works p kind selector direct ext w ts = works_then 113 113 ts (work_phrase p kind selector direct ext) (λ r. Done (w r)) (omega arith) (work_works p kind selector direct ext ts) (λ us r. works_done 0 us (w r))

pub work_short : (p : Proc) (kind : SwitchKind) (selector : ℕ) (direct ext : Bool) → AtMost 113 (work_phrase p kind selector direct ext)
work_short p kind selector direct ext = plain_at_most 113 NoCode Anything [] (work_phrase p kind selector direct ext) (work_works p kind selector direct ext [])
