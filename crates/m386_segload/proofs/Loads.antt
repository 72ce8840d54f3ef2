-- What loads owe: at most so many cycles, each an ordinary one.
use Rattle.std.proofs.Common.{arith, ◌≡◌, ℕ, zero, suc, ◌+◌, ◌-◌, ◌/◌, ◌%◌, ◌^◌, ◌<◌, ◌∙◌, refl, subst, sym, ap, bit_or, bit_and, List, [], ◌∷◌, Bool, true, false, not, if◌then◌else◌, ◌==◌, ◌&&◌, ◌||◌, eqb, Some, None, Option, nat_le}
use Rattle.m386_base.specs.declared.ask.Ask.{Ask}
use Rattle.m386_base.specs.declared.ask.Role.{Role}
use Rattle.m386_base.specs.declared.ask.Role.TheVariants as roles
use Rattle.m386_base.specs.declared.desc.Desc.{Desc}
use Rattle.m386_base.specs.declared.fault.Fault.{Fault}
use Rattle.m386_base.specs.Bytes.{bytes_of}
use Rattle.m386_base.specs.Phrase.{Phrase, Done, ◌>>=◌}
use Rattle.m386_base.specs.Plain.{Plain}
use Rattle.m386_base.specs.Segments.{ss}
use Rattle.m386_base.proofs.Finite.{all_below, each_below}
use Rattle.m386_base.proofs.Lanes.{byte_0_1_0, byte_0_2_1, byte_0_4_2, byte_0_8_3}
use Rattle.m386_base.proofs.Plain.{plain_done, plain_faults, plain_if, plain_bind, plain_then}
use Rattle.m386_desc.specs.declared.kind.Kind.{Kind}
use Rattle.m386_desc.specs.Access.{kind_of, is_code_32, is_code_kind, is_readable, is_writable, system_kind_of}
use Rattle.m386_base.specs.Flags.{has_bit}
use Rattle.m386_desc.specs.Bytes.{descriptor_in, two_doublewords}
use Rattle.m386_desc.specs.Kind.{is_readable_kind, is_writable_kind}
use Rattle.m386_desc.specs.Selector.{is_null_selector, names_ldt, is_in_table, code_of}
use Rattle.m386_state.specs.declared.proc.Proc.{Proc}
use Rattle.m386_state.specs.declared.segment.Seg.{Seg}
use Rattle.m386_state.specs.declared.segment.TableReg.{TableReg}
use Rattle.m386_state.specs.Start.{cpl_of}
use Rattle.m386_access.specs.Access.{memory_pieces, write_ask}
use Rattle.m386_access.specs.Ordinary.{Ordinary, Writes, Accesses, WasRead, IsSegmentByte, desc_byte, is_read_role, is_behind}
use Rattle.m386_access.specs.Address.{segment_number, offset_of}
use Rattle.m386_access.specs.After.{len_of}
use Rattle.m386_access.proofs.Phrases.{Anything, read_then}
use Rattle.m386_base.specs.declared.number.Width.{Width}
use Rattle.m386_opmap.specs.declared.op.Addr.{Addr}
use Rattle.m386_segload.specs.declared.pointer.FarPointer.{FarPointer}
use Rattle.m386_segload.specs.Pointer.{read_pointer_phrase}
use Rattle.m386_segload.specs.declared.rules.Candidate.{Candidate}
use Rattle.m386_segload.specs.declared.rules.Requirement.{Requirement}
use Rattle.m386_segload.specs.declared.rules.Requirement.TheVariants as requirements
use Rattle.m386_segload.specs.declared.rules.Rule.{Rule}
use Rattle.m386_segload.specs.declared.wanted.Look.{Look}
use Rattle.m386_segload.specs.Descriptors.{word_reads, descriptor_phrase, byte_piece, access_byte_phrase}
use Rattle.m386_segload.specs.Load.{load_desc_phrase, load_global_phrase, candidate_for, mark_phrase, mark_found, mark_or_fault, judge_phrase, take_phrase}
use Rattle.m386_segload.specs.Look.{look_phrase}
use Rattle.m386_segload.specs.Requirements.{is_met}
use Rattle.m386_segload.specs.Rules.{broken, first_broken, need, stack_rules, data_rules}
use Rattle.m386_segload.specs.Segments.{stack_segment_phrase, data_segment_phrase, segment_phrase, local_table_phrase}
use Rattle.m386_segload.specs.Tables.{held, is_in_ldt, is_there, is_in_gdt, place_for, table_role, accessed_role}
use Rattle.m386_segload.proofs.Words.{GotHigh, plain_word}

-- a descriptor was read at this place, in the locked group that is open
pub record GotDesc (a : ℕ) (us : List Ask) (d : Desc) : Type 0 where
  pub byte : WasRead us ((a + 5) % 2 ^ 32) d.access
  pub small : d.access < 256

pub plain_descriptor : (gdt : TableReg) (ts : List Ask) (role : Role) (a : ℕ) → is_read_role role ≡ true → Plain 4 (Ordinary gdt) (GotDesc a) ts (descriptor_phrase role a)
unfolding descriptor_phrase descriptor_in two_doublewords
plain_descriptor gdt ts role a r =
    plain_then 2 2 (Ordinary gdt) (GotHigh a) (GotDesc a) ts (word_reads role false 0 (memory_pieces a 4)) _ (plain_word gdt ts role false a r (λ x. cc)) (λ us lo h.
    plain_then 2 0 (Ordinary gdt) (GotHigh ((a + 4) % 2 ^ 32)) (GotDesc a) us (word_reads role true 0 (memory_pieces ((a + 4) % 2 ^ 32) 4)) _ (plain_word gdt us role true ((a + 4) % 2 ^ 32) r (λ x. h.behind)) (λ vs hi k.
    plain_done 0 (Ordinary gdt) (GotDesc a) vs _ (record {
      byte = let e : ((a + 4) % 2 ^ 32 + 1) % 2 ^ 32 ≡ (a + 5) % 2 ^ 32 = omega arith in subst (λ x. WasRead vs x (hi / 2 ^ 8 % 2 ^ 8)) e k.byte;
      small = omega arith;
    })))

-- a byte that is written is one byte
abbrev single : ℕ → ℕ → List (ℕ × ℕ)
single a b = (a, b) ∷ []

entry : (a b c d : ℕ) → a ≡ b → c ≡ d → single a c ≡ single b d
entry a b c d e f = λ i. single (e i) (f i)

written_at : (role : Role) (a at value : ℕ) → a % 4 ≡ at → bytes_of (write_ask role true (record { addr = a - at; enables = 2 ^ at; place = 0 }) value) ≡ single a (value % 256)
unfolding bytes_of
written_at role a zero value e = entry _ a _ _ (omega arith) (byte_0_1_0 (a - 0) value ∙ omega arith)
written_at role a (suc zero) value e = entry _ a _ _ (omega arith) (byte_0_2_1 (a - 1) value ∙ omega arith)
written_at role a (suc (suc zero)) value e = entry _ a _ _ (omega arith) (byte_0_4_2 (a - 2) value ∙ omega arith)
written_at role a (suc (suc (suc zero))) value e = entry _ a _ _ (omega arith) (byte_0_8_3 (a - 3) value ∙ omega arith)
written_at role a (suc (suc (suc (suc at)))) value e = absurd (omega arith)

same_number : (a b : ℕ) → eqb a b ≡ true → a ≡ b
same_number a b k = grind (arith, k)

marked : (b : ℕ) → b < 256 → bit_or b 1 % 256 ≡ bit_or b 1
unfolding all_below
marked b l = same_number _ _ (each_below 256 (λ x. eqb (bit_or x 1 % 256) (bit_or x 1)) refl b l)

table_role_reads : (s : ℕ) → is_read_role (table_role s) ≡ true
table_role_reads s = go (names_ldt s)
  where
    go : (b : Bool) → is_read_role (if b then roles.Ldt else roles.Gdt) ≡ true
    go true = refl
    go false = refl

was_behind : (us : List Ask) (place b : ℕ) → WasRead us place b → is_behind us ≡ true
was_behind [] place b h = absurd h
was_behind (t ∷ ts) place b h = refl

first-and : (a b : Bool) → a && b ≡ true → a ≡ true
first-and true b h = refl
first-and false b h = h

second-and : (a b : Bool) → a && b ≡ true → b ≡ true
second-and true b h = h
second-and false b h = absurd cc

is_not : (b : Bool) → not b ≡ true → b ≡ false
is_not true h = absurd cc
is_not false h = refl

-- the accessed byte of a segment's descriptor that was read
plain_mark : (p : Proc) (ts : List Ask) (s : ℕ) (d : Desc) → is_there p s ≡ true → GotDesc (place_for p s) ts d → IsSegmentByte d.access → Plain 1 (Ordinary p.gdtr) Anything ts (mark_phrase (place_for p s) s d)
unfolding mark_phrase access_byte_phrase Plain ◌>>=◌
plain_mark p ts s d t g h = plain_if 1 (Ordinary p.gdtr) Anything ts (bit_and d.access 1 == 0) _ _ (by_table (names_ldt s) refl, λ v. tt) tt
  where
    value : ℕ
    value = bit_or d.access 1

    by_table : (b : Bool) → names_ldt s ≡ b → Ordinary p.gdtr ts (write_ask (accessed_role s) true (byte_piece ((place_for p s + 5) % 2 ^ 32)) value)
    by_table true e = rw e (Writes refl refl (was_behind ts _ _ g.byte))
    by_table false e =
        let k : (if names_ldt s then is_in_ldt (held p.ldtr) s else is_in_table s p.gdtr.limit) ≡ true = second-and _ _ t in
        let i : is_in_table s p.gdtr.limit ≡ true = rw e at k in
        let r : WasRead ts ((place_for p s + 5) % 2 ^ 32) d.access = g.byte in
        let b : WasRead ts (desc_byte p.gdtr s 5) d.access = rw e at r in
        rw e (Accesses s d.access
        (record { some = is_not _ (first-and _ _ t); table = e; inside = i })
        b h
        (record { write = refl; joined = refl; space = refl; role = refl; bytes = written_at roles.GdtAcc (desc_byte p.gdtr s 5) (desc_byte p.gdtr s 5 % 4) value refl ∙ ap (single (desc_byte p.gdtr s 5)) (marked d.access g.small) }))

-- the requirements that only a segment's descriptor meets
abbrev is_of_segment : Requirement → Bool
is_of_segment requirements.Writable = true
is_of_segment requirements.Readable = true
is_of_segment requirements.Code = true
is_of_segment _ = false

-- one of the rules requires such
abbrev pub names_segment : List Rule → Bool
names_segment [] = false
names_segment (r ∷ rs) = is_of_segment r.requirement || names_segment rs

-- what no system type is
none_of_system : (P : Kind → Bool) → all_below 16 (λ x. not (P (system_kind_of x))) ≡ true → (n : ℕ) → n < 16 → P (system_kind_of n) ≡ false
unfolding all_below
none_of_system P h n l = is_not _ (each_below 16 (λ x. not (P (system_kind_of x))) h n l)

bit_4 : (n : ℕ) → has_bit n 4 ≡ true → n / 2 ^ 4 % 2 ≡ 1
bit_4 n h = same_number _ _ h

by_kind_of : (P : Kind → Bool) (d : Desc) → ((n : ℕ) → n < 16 → P (system_kind_of n) ≡ false) → P (kind_of d) ≡ true → IsSegmentByte d.access
unfolding kind_of
by_kind_of P d s h = go (has_bit d.access 4) refl
  where
    go : (b : Bool) → has_bit d.access 4 ≡ b → IsSegmentByte d.access
    go true e = bit_4 d.access e
    go false e = let w : P (system_kind_of (d.access % 2 ^ 4)) ≡ true = rw e at h in let k : P (system_kind_of (d.access % 2 ^ 4)) ≡ false = s (d.access % 2 ^ 4) (omega arith) in let x : true ≡ false = sym w ∙ k in cc

writable_segment : (d : Desc) → is_writable d ≡ true → IsSegmentByte d.access
unfolding is_writable_kind all_below
writable_segment d h = by_kind_of is_writable_kind d (none_of_system is_writable_kind refl) h

readable_segment : (d : Desc) → is_readable d ≡ true → IsSegmentByte d.access
unfolding is_readable_kind all_below
readable_segment d h = by_kind_of is_readable_kind d (none_of_system is_readable_kind refl) h

code_segment : (d : Desc) → is_code_32 d ≡ true → IsSegmentByte d.access
unfolding is_code_32 all_below
code_segment d h = by_kind_of is_code_kind d (none_of_system is_code_kind refl) (first-and _ _ h)

of_segment : (r : Requirement) (c : Candidate) (d : Desc) → c.desc ≡ Some d → is_of_segment r ≡ true → is_met r c ≡ true → IsSegmentByte d.access
unfolding is_met
of_segment requirements.Writable c d e q h = writable_segment d (rw e at h)
of_segment requirements.Readable c d e q h = readable_segment d (rw e at h)
of_segment requirements.Code c d e q h = code_segment d (rw e at h)
of_segment _ c d e q h = cc

-- a descriptor with which no rule of such a table is broken is a segment's
segment_found : (rules : List Rule) (c : Candidate) (d : Desc) → c.desc ≡ Some d → names_segment rules ≡ true → first_broken rules c ≡ None → IsSegmentByte d.access
unfolding first_broken
segment_found [] c d e n h = cc
segment_found (r ∷ rs) c d e n h = go (segment_found rs c d e) (is_met r.requirement c) refl (is_of_segment r.requirement) refl
  where
    go : (names_segment rs ≡ true → first_broken rs c ≡ None → IsSegmentByte d.access) → (b : Bool) → is_met r.requirement c ≡ b → (o : Bool) → is_of_segment r.requirement ≡ o → IsSegmentByte d.access
    go ih true p true q = of_segment r.requirement c d e q p
    go ih true p false q = ih (rw q at n) (rw p at h)
    go ih false p o q = let w : Some (broken r c) ≡ None = rw p at h in cc

-- a descriptor that was found was read, in its table
pub record Found (p : Proc) (s : ℕ) (us : List Ask) (found : Option Desc) : Type 0 where
  pub got : (d : Desc) → found ≡ Some d → GotDesc (place_for p s) us d
  pub there : (d : Desc) → found ≡ Some d → is_there p s ≡ true

pub plain_load_desc : (p : Proc) (ts : List Ask) (s : ℕ) (role : Role) → is_read_role role ≡ true → Plain 4 (Ordinary p.gdtr) (Found p s) ts (load_desc_phrase p s role)
unfolding load_desc_phrase
plain_load_desc p ts s role r = go (is_there p s) refl
  where
    go : (b : Bool) → is_there p s ≡ b → Plain 4 (Ordinary p.gdtr) (Found p s) ts (if b then (descriptor_phrase role (place_for p s) >>= (λ d. Done (Some d))) else Done None)
    go true e =
        plain_then 4 0 (Ordinary p.gdtr) (GotDesc (place_for p s)) (Found p s) ts (descriptor_phrase role (place_for p s)) _ (plain_descriptor p.gdtr ts role (place_for p s) r)
        (λ us d h. plain_done 0 (Ordinary p.gdtr) (Found p s) us (Some d) (record { got = λ x i. let k : d ≡ x = cc in subst (GotDesc (place_for p s) us) k h; there = λ x i. e }))
    go false e = plain_done 4 (Ordinary p.gdtr) (Found p s) ts None (record { got = λ x i. cc; there = λ x i. cc })

plain_judge : (p : Proc) (ts : List Ask) (rules : List Rule) (c : Candidate) → names_segment rules ≡ true → Found p c.selector ts c.desc → Plain 1 (Ordinary p.gdtr) Anything ts (judge_phrase rules (place_for p c.selector) c)
unfolding judge_phrase
plain_judge p ts rules c n g = go (first_broken rules c) refl
  where
    found : (o : Option Desc) → c.desc ≡ o → first_broken rules c ≡ None → Plain 1 (Ordinary p.gdtr) Anything ts (mark_found (place_for p c.selector) c.selector o)
    found None e h = plain_done 1 (Ordinary p.gdtr) Anything ts _ tt
    found (Some d) e h = plain_mark p ts c.selector d (g.there d e) (g.got d e) (segment_found rules c d e n h)

    go : (o : Option Fault) → first_broken rules c ≡ o → Plain 1 (Ordinary p.gdtr) Anything ts (mark_or_fault o (place_for p c.selector) c)
    go (Some x) e = plain_faults 1 (Ordinary p.gdtr) Anything ts x
    go None e = found c.desc refl e

plain_take : (p : Proc) (ts : List Ask) (rules : List Rule) (level : ℕ) (ext : Bool) (s : ℕ) → names_segment rules ≡ true → Plain 5 (Ordinary p.gdtr) Anything ts (take_phrase rules p level ext s)
unfolding take_phrase
plain_take p ts rules level ext s n =
    plain_then 4 1 (Ordinary p.gdtr) (Found p s) Anything ts (load_desc_phrase p s (table_role s)) _ (plain_load_desc p ts s (table_role s) (table_role_reads s))
    (λ us found h. plain_judge p us rules (candidate_for level (code_of s ext) s found) n h)

-- A segment taken by a table that only a segment passes, at most five cycles, and what follows.
pub take_then : (p : Proc) → {B : Type 0} (n : ℕ) (ends : List Ask → B → Type 0) (ts : List Ask) (rules : List Rule) (level : ℕ) (ext : Bool) (s : ℕ) (f : Desc → Phrase B) → nat_le 5 n ≡ true → names_segment rules ≡ true → ((us : List Ask) (d : Desc) → Plain (n - 5) (Ordinary p.gdtr) ends us (f d)) → Plain n (Ordinary p.gdtr) ends ts (take_phrase rules p level ext s >>= f)
take_then p n ends ts rules level ext s f l h k = plain_bind 5 n (Ordinary p.gdtr) Anything ends ts _ f (grind (arith, l)) (plain_take p ts rules level ext s h) (λ us d o. k us d)

plain_stack_segment : (p : Proc) (ts : List Ask) (level s : ℕ) → Plain 5 (Ordinary p.gdtr) Anything ts (stack_segment_phrase p level s)
unfolding stack_segment_phrase
plain_stack_segment p ts level s = take_then p 5 Anything ts stack_rules level false s _ refl refl (λ us d. plain_done 0 (Ordinary p.gdtr) Anything us _ tt)

-- SS for a level, and what follows.
pub stack_segment_then : (p : Proc) → {B : Type 0} (n : ℕ) (ends : List Ask → B → Type 0) (ts : List Ask) (level s : ℕ) (f : Seg → Phrase B) → nat_le 5 n ≡ true → ((us : List Ask) (g : Seg) → Plain (n - 5) (Ordinary p.gdtr) ends us (f g)) → Plain n (Ordinary p.gdtr) ends ts (stack_segment_phrase p level s >>= f)
stack_segment_then p n ends ts level s f l k = plain_bind 5 n (Ordinary p.gdtr) Anything ends ts _ f (grind (arith, l)) (plain_stack_segment p ts level s) (λ us g o. k us g)

pub plain_segment : (p : Proc) (ts : List Ask) (seg s : ℕ) → Plain 5 (Ordinary p.gdtr) Anything ts (segment_phrase p seg s)
unfolding segment_phrase data_segment_phrase
plain_segment p ts seg s =
    plain_if 5 (Ordinary p.gdtr) Anything ts (seg == ss) _ _ (plain_stack_segment p ts (cpl_of p) s)
    (plain_if 5 (Ordinary p.gdtr) Anything ts (is_null_selector s) _ _ (plain_done 5 (Ordinary p.gdtr) Anything ts _ tt)
    (take_then p 5 Anything ts data_rules (cpl_of p) false s _ refl refl (λ us d. plain_done 0 (Ordinary p.gdtr) Anything us _ tt)))

-- What a segment register comes to, at most five cycles, and what follows.
pub segment_then : (p : Proc) → {B : Type 0} (n : ℕ) (ends : List Ask → B → Type 0) (ts : List Ask) (seg s : ℕ) (f : Seg → Phrase B) → nat_le 5 n ≡ true → ((us : List Ask) (g : Seg) → Plain (n - 5) (Ordinary p.gdtr) ends us (f g)) → Plain n (Ordinary p.gdtr) ends ts (segment_phrase p seg s >>= f)
segment_then p n ends ts seg s f l k = plain_bind 5 n (Ordinary p.gdtr) Anything ends ts _ f (grind (arith, l)) (plain_segment p ts seg s) (λ us g o. k us g)

-- a fault, or what follows
pub plain_need : {A : Type 0} (gdt : TableReg) (n : ℕ) (ends : List Ask → A → Type 0) (ts : List Ask) (o : Option Fault) (t : Phrase A) → Plain n (Ordinary gdt) ends ts t → Plain n (Ordinary gdt) ends ts (need o t)
plain_need gdt n ends ts (Some x) t h = plain_faults n (Ordinary gdt) ends ts x
plain_need gdt n ends ts None t h = h

-- The descriptor of a selector, at most four cycles, and what follows.
pub load_desc_then : (p : Proc) → {B : Type 0} (n : ℕ) (ends : List Ask → B → Type 0) (ts : List Ask) (s : ℕ) (role : Role) (f : Option Desc → Phrase B) → nat_le 4 n ≡ true → is_read_role role ≡ true → ((us : List Ask) (o : Option Desc) → Found p s us o → Plain (n - 4) (Ordinary p.gdtr) ends us (f o)) → Plain n (Ordinary p.gdtr) ends ts (load_desc_phrase p s role >>= f)
load_desc_then p n ends ts s role f l r k = plain_bind 4 n (Ordinary p.gdtr) (Found p s) ends ts _ f (grind (arith, l)) (plain_load_desc p ts s role r) k

-- The rules of a table over a descriptor that was read, at most one cycle, and what follows.
pub judge_then : (p : Proc) → {B : Type 0} (n : ℕ) (ends : List Ask → B → Type 0) (ts : List Ask) (rules : List Rule) (c : Candidate) (f : Desc → Phrase B) → nat_le 1 n ≡ true → names_segment rules ≡ true → Found p c.selector ts c.desc → ((us : List Ask) (d : Desc) → Plain (n - 1) (Ordinary p.gdtr) ends us (f d)) → Plain n (Ordinary p.gdtr) ends ts (judge_phrase rules (place_for p c.selector) c >>= f)
judge_then p n ends ts rules c f l h g k = plain_bind 1 n (Ordinary p.gdtr) Anything ends ts _ f (grind (arith, l)) (plain_judge p ts rules c h g) (λ us d o. k us d)

plain_load_global : (p : Proc) (ts : List Ask) (s : ℕ) (role : Role) → is_read_role role ≡ true → Plain 4 (Ordinary p.gdtr) Anything ts (load_global_phrase p s role)
unfolding load_global_phrase
plain_load_global p ts s role r =
    plain_if 4 (Ordinary p.gdtr) Anything ts (is_in_gdt p s) _ _
    (plain_then 4 0 (Ordinary p.gdtr) (GotDesc (place_for p s)) Anything ts (descriptor_phrase role (place_for p s)) _ (plain_descriptor p.gdtr ts role (place_for p s) r) (λ us d h. plain_done 0 (Ordinary p.gdtr) Anything us _ tt))
    (plain_done 4 (Ordinary p.gdtr) Anything ts None tt)

plain_local_table : (p : Proc) (ts : List Ask) (s : ℕ) → Plain 4 (Ordinary p.gdtr) Anything ts (local_table_phrase p s)
unfolding local_table_phrase
plain_local_table p ts s =
    plain_if 4 (Ordinary p.gdtr) Anything ts (is_null_selector s) _ _ (plain_done 4 (Ordinary p.gdtr) Anything ts _ tt)
    (plain_then 4 0 (Ordinary p.gdtr) Anything Anything ts (load_global_phrase p s roles.Gdt) _ (plain_load_global p ts s roles.Gdt refl) (λ us found o. plain_need p.gdtr 0 Anything us _ _ (plain_done 0 (Ordinary p.gdtr) Anything us _ tt)))

-- What LDTR comes to, at most four cycles, and what follows.
pub local_table_then : (p : Proc) → {B : Type 0} (n : ℕ) (ends : List Ask → B → Type 0) (ts : List Ask) (s : ℕ) (f : Seg → Phrase B) → nat_le 4 n ≡ true → ((us : List Ask) (g : Seg) → Plain (n - 4) (Ordinary p.gdtr) ends us (f g)) → Plain n (Ordinary p.gdtr) ends ts (local_table_phrase p s >>= f)
local_table_then p n ends ts s f l k = plain_bind 4 n (Ordinary p.gdtr) Anything ends ts _ f (grind (arith, l)) (plain_local_table p ts s) (λ us g o. k us g)

plain_look : (p : Proc) (ts : List Ask) (what : Look) (s : ℕ) → Plain 4 (Ordinary p.gdtr) Anything ts (look_phrase p what s)
unfolding look_phrase
plain_look p ts what s = load_desc_then p 4 Anything ts s (table_role s) _ refl (table_role_reads s) (λ us o h. plain_done 0 (Ordinary p.gdtr) Anything us _ tt)

-- A look at a descriptor, at most four cycles, and what follows.
pub look_then : (p : Proc) → {B : Type 0} (n : ℕ) (ends : List Ask → B → Type 0) (ts : List Ask) (what : Look) (s : ℕ) (f : Option ℕ → Phrase B) → nat_le 4 n ≡ true → ((us : List Ask) (o : Option ℕ) → Plain (n - 4) (Ordinary p.gdtr) ends us (f o)) → Plain n (Ordinary p.gdtr) ends ts (look_phrase p what s >>= f)
look_then p n ends ts what s f l k = plain_bind 4 n (Ordinary p.gdtr) Anything ends ts _ f (grind (arith, l)) (plain_look p ts what s) (λ us v o. k us v)

pub plain_pointer : (gdt : TableReg) (p : Proc) (ts : List Ask) (w : Width) (a : Addr) → Plain 4 (Ordinary gdt) Anything ts (read_pointer_phrase p w a)
unfolding read_pointer_phrase
plain_pointer gdt p ts w a =
    read_then gdt 4 Anything ts p roles.Operand (segment_number a.seg a.base) (offset_of p a) (len_of w) _ refl refl (λ us offset.
    read_then gdt 2 Anything us p roles.Operand (segment_number a.seg a.base) ((offset_of p a + len_of w) % 2 ^ 32) 2 _ refl refl (λ vs selector. plain_done 0 (Ordinary gdt) Anything vs _ tt))

-- A far pointer in memory, at most four cycles, and what follows.
pub pointer_then : (gdt : TableReg) → {B : Type 0} (n : ℕ) (ends : List Ask → B → Type 0) (ts : List Ask) (p : Proc) (w : Width) (a : Addr) (f : FarPointer → Phrase B) → nat_le 4 n ≡ true → ((us : List Ask) (to : FarPointer) → Plain (n - 4) (Ordinary gdt) ends us (f to)) → Plain n (Ordinary gdt) ends ts (read_pointer_phrase p w a >>= f)
pointer_then gdt n ends ts p w a f l k = plain_bind 4 n (Ordinary gdt) Anything ends ts _ f (grind (arith, l)) (plain_pointer gdt p ts w a) (λ us v o. k us v)

-- how the phrase of an operation is made of loads
pub ruleset loads = (take_then, stack_segment_then, segment_then, local_table_then, look_then, pointer_then)
