-- The new task is looked at, and claimed.
use Rattle.std.proofs.Common.{arith, ◌≡◌, ℕ, ◌+◌, ◌/◌, ◌%◌, ◌^◌, ◌<◌, ◌∙◌, refl, sym, ap, subst, List, ◌∷◌, Bool, true, false, bit_or, if◌then◌else◌, not, ◌&&◌, ◌||◌, Option, Some, None, eqb}
use Rattle.m386_base.specs.declared.ask.Ask.{Ask}
use Rattle.m386_base.specs.declared.ask.Role.{Role}
use Rattle.m386_base.specs.declared.ask.Role.TheVariants as roles
use Rattle.m386_base.specs.declared.desc.Desc.{Desc}
use Rattle.m386_base.specs.Bus.{cycle_of}
use Rattle.m386_base.specs.Phrase.{Done, ◌>>=◌}
use Rattle.m386_base.proofs.Finite.{all_below, each_below}
use Rattle.m386_checks.specs.declared.facts.Facts.{Facts}
use Rattle.m386_checks.specs.declared.facts.Fail.{Fail}
use Rattle.m386_checks.specs.declared.table.Check.{Check}
use Rattle.m386_checks.specs.First.{old_fail_of, first_false}
use Rattle.m386_checks.specs.Holds.{test_holds, mark_wanted}
use Rattle.m386_checks.specs.Table.{fail_of}
use Rattle.m386_desc.specs.declared.kind.Kind.{Kind}
use Rattle.m386_desc.specs.declared.kind.Kind.TheVariants as dkinds
use Rattle.m386_base.specs.Flags.{has_bit}
use Rattle.m386_desc.specs.Access.{is_present, kind_of, system_kind_of}
use Rattle.m386_desc.specs.Bytes.{descriptor_in, two_doublewords}
use Rattle.m386_state.specs.declared.segment.TableReg.{TableReg}
use Rattle.m386_switch.specs.Parts.{claim_role, is_iret, is_passed, is_admitted, with_tss, claim_rest, claim_phrase, access_piece}
use Rattle.m386_stages.specs.Stages.{Stage, Phase, Task, Turn, Keeps, shut, IsBase, IsClaim, IsFreeByte}
use Rattle.m386_stages.proofs.Chains.{keeps_then, keeps_done, keeps_if}
use Rattle.m386_stages.proofs.Words.{GotDesc, Covers, keeps_descriptor}
use Rattle.m386_stages.proofs.OneByte.{byte_written, set_busy}
use Rattle.m386_stages.proofs.Linked.{Grows}
use Rattle.m386_checks.specs.Descriptor.{is_marked, is_marked_kind}
use Rattle.m386_access.specs.Access.{write_ask}
use Rattle.m386_segload.specs.Descriptors.{descriptor_phrase, access_byte_phrase}
use Rattle.m386_desc.specs.Selector.{place_in}
use Rattle.m386_base.specs.Bytes.{Has}
use Rattle.m386_base.specs.Laws.{Turns}
use Rattle.m386_access.specs.Ordinary.{desc_byte, NamesGdt, IsByteWritten}

-- the first row holds where none fails
pub holds_first : (f : Facts) (c : Check × ℕ) (rest : List (Check × ℕ)) → first_false f (c ∷ rest) ≡ None → (test_holds c.0.test f c.1 ≡ true) × (first_false f rest ≡ None)
unfolding first_false
holds_first f c rest h = go (test_holds c.0.test f c.1) refl
  where
    go : (b : Bool) → test_holds c.0.test f c.1 ≡ b → (test_holds c.0.test f c.1 ≡ true) × (first_false f rest ≡ None)
    go true e = (e, rw e at h)
    go false e = let d : Some (fail_of f c.0 c.1) ≡ None = rw e at h in absurd cc

pub is_none_none : (o : Option Fail) → is_passed o ≡ true → o ≡ None
is_none_none None e = refl
is_none_none (Some x) e = let c : false ≡ true = e in absurd cc

-- where rows 1 to 7 hold, the new TSS has the mark that is wanted, and is present
pub admitted_rows : (f : Facts) (d : Desc) → is_admitted (with_tss f d) ≡ true → (is_marked (mark_wanted f.kind) d ≡ true) × (is_present d ≡ true)
unfolding is_admitted old_fail_of test_holds
admitted_rows f d h =
    let n : old_fail_of (with_tss f d) ≡ None = is_none_none (old_fail_of (with_tss f d)) h in
    let r1 = holds_first (with_tss f d) _ _ n in
    let r2 = holds_first (with_tss f d) _ _ r1.1 in
    let r3 = holds_first (with_tss f d) _ _ r2.1 in
    let r4 = holds_first (with_tss f d) _ _ r3.1 in
    let r5 = holds_first (with_tss f d) _ _ r4.1 in
    let r6 = holds_first (with_tss f d) _ _ r5.1 in
    (r5.0, r6.0)

-- what an access byte describes
abbrev pub kind_by : ℕ → Kind
kind_by a =
    if has_bit a 4 then
    (if has_bit a 3 then dkinds.CodeSeg (has_bit a 2) (has_bit a 1)
    else dkinds.DataSeg (has_bit a 2) (has_bit a 1))
    else system_kind_of (a % 2 ^ 4)

free : ℕ → Bool
free b = not (is_marked_kind false (kind_by b) && has_bit b 7) || (eqb (b / 2 ^ 7 % 2) 1 && (eqb (b / 2 ^ 4 % 2) 0 && eqb (b % 2 ^ 4) 9))

all_free : (b : ℕ) → b < 256 → free b ≡ true
unfolding all_below free
all_free b l = each_below 256 free refl b l

pub and-l : (a b : Bool) → a && b ≡ true → a ≡ true
and-l true b h = refl
and-l false b h = h

pub and-r : (a b : Bool) → a && b ≡ true → b ≡ true
and-r true b h = h
and-r false b h = absurd cc

pub same_number : (a b : ℕ) → eqb a b ≡ true → a ≡ b
same_number a b k = grind (arith, k)

follows : (a b c : Bool) → not (a && b) || c ≡ true → a ≡ true → b ≡ true → c ≡ true
follows true true c h e f = h
follows true false c h e f = absurd cc
follows false b c h e f = absurd cc

-- an available TSS that is present, by its access byte
pub free_byte : (d : Desc) → d.access < 256 → is_marked false d ≡ true → is_present d ≡ true → IsFreeByte d.access
unfolding free kind_of is_present
free_byte d l m p =
    let h : free d.access ≡ true = all_free d.access l in
    let r : (eqb (d.access / 2 ^ 7 % 2) 1 && (eqb (d.access / 2 ^ 4 % 2) 0 && eqb (d.access % 2 ^ 4) 9)) ≡ true = follows (is_marked_kind false (kind_by d.access)) (has_bit d.access 7) _ h m p in
    (same_number _ _ (and-l _ _ r), same_number _ _ (and-l _ _ (and-r (eqb (d.access / 2 ^ 7 % 2) 1) _ r)), same_number _ _ (and-r _ _ (and-r (eqb (d.access / 2 ^ 7 % 2) 1) _ r)))

-- the task that a descriptor describes
abbrev pub task_in : ℕ → Desc → Task
task_in selector d = record { selector = selector; base = d.base }

-- what was read of a TSS descriptor
pub record Looked (gdt : TableReg) (selector : ℕ) (g g2 : Stage) (d : Desc) : Type 0 where
  pub phase : g2.phase ≡ g.phase
  pub byte : Has g2.group (desc_byte gdt selector 5) d.access
  pub small : d.access < 256
  pub base : IsBase gdt g2.seen (task_in selector d)
  pub more : Grows g g2

looked_at : (gdt : TableReg) (selector : ℕ) (g g2 : Stage) (lo hi : ℕ) → g2.phase ≡ g.phase → Grows g g2 → Covers g2.group (place_in gdt.base selector + 4) hi → Covers g2.seen (place_in gdt.base selector) lo → Covers g2.seen (place_in gdt.base selector + 4) hi
    → Looked gdt selector g g2 (descriptor_in (two_doublewords lo hi))
unfolding descriptor_in two_doublewords
looked_at gdt selector g g2 lo hi e m gh sl sh =
    let a : ℕ = place_in gdt.base selector in
    let p5 : (a + 4 + 1) % 2 ^ 32 ≡ (a + 5) % 2 ^ 32 = ap (λ s. s % 2 ^ 32) (omega arith) in
    let p7 : (a + 4 + 3) % 2 ^ 32 ≡ (a + 7) % 2 ^ 32 = ap (λ s. s % 2 ^ 32) (omega arith) in
    record {
      phase = e;
      byte = subst (λ x. Has g2.group x (hi / 2 ^ 8 % 2 ^ 8)) p5 gh.c1;
      small = omega arith;
      base = record {
        b2 = lo / 2 ^ 16 % 2 ^ 8;
        b3 = lo / 2 ^ 24 % 2 ^ 8;
        b4 = hi % 2 ^ 8;
        b7 = hi / 2 ^ 24 % 2 ^ 8;
        h2 = sl.c2;
        h3 = sl.c3;
        h4 = sh.c0;
        h7 = subst (λ x. Has g2.seen x (hi / 2 ^ 24 % 2 ^ 8)) p7 sh.c3;
        base = refl;
      };
      more = m;
    }

pub looked : (gdt : TableReg) (selector : ℕ) (g g2 : Stage) (d : Desc) → GotDesc g (place_in gdt.base selector) g2 d → Looked gdt selector g g2 d
looked gdt selector g g2 d h = subst (Looked gdt selector g g2) (sym h.is) (looked_at gdt selector g g2 h.lo h.hi h.phase h.more h.high h.seen_low h.seen_high)

-- the stage behind the claim, by whether rows 1 to 7 hold
pub record Claimed (gdt : TableReg) (f : Facts) (ph : Task → Phase) (g g2 : Stage) (d : Desc) : Type 0 where
  pub done : is_admitted (with_tss f d) ≡ true → g2.phase ≡ ph (task_in f.selector d)
  pub not : is_admitted (with_tss f d) ≡ false → g2.phase ≡ g.phase
  pub more : Grows g g2

not_both : (a b : Bool) → a && not b ≡ false → b ≡ false → a ≡ false
not_both true b h e = let c : not b ≡ true = ap not e in sym c ∙ h
not_both false b h e = refl

claim_one : (gdt : TableReg) (f : Facts) (role : Role) (ph : Task → Phase) (g g1 : Stage) (d : Desc) → claim_role f.kind ≡ role → mark_wanted f.kind ≡ false → NamesGdt gdt f.selector → is_admitted (with_tss f d) ≡ true → Looked gdt f.selector g g1 d
    → ((g1 : Stage) (c : Ask) (t : Task) → g1.phase ≡ g.phase → IsClaim gdt g1 c role t → Turn gdt g1 c (shut g1 (ph t)))
    → Keeps gdt (Claimed gdt f ph g) g1 (access_byte_phrase (claim_role f.kind) (place_in gdt.base f.selector) (bit_or d.access 2) >>= (λ _. Done d))
unfolding Keeps Turns ◌>>=◌ cycle_of access_byte_phrase
claim_one gdt f role ph g g1 d er em names e h turn = λ v.
    let r = admitted_rows f d e in
    let m : is_marked false d ≡ true = subst (λ b. is_marked b d ≡ true) em r.0 in
    let t : Task = task_in f.selector d in
    let c : Ask = write_ask (claim_role f.kind) true (access_piece (place_in gdt.base f.selector)) (bit_or d.access 2) in
    let w : IsByteWritten c role (desc_byte gdt f.selector 5) (bit_or d.access 2) = subst (λ x. IsByteWritten c x (desc_byte gdt f.selector 5) (bit_or d.access 2)) er (byte_written gdt (claim_role f.kind) f.selector (bit_or d.access 2) (bit_or d.access 2) (set_busy d.access h.small)) in
    (shut g1 (ph t), turn g1 c t h.phase (record { b = d.access; names = names; read = h.byte; free = free_byte d h.small m r.1; base = h.base; written = w }), record { done = λ x. refl; not = λ x. (let y : true ≡ false = sym e ∙ x in absurd cc); more = h.more })

claim_next : (gdt : TableReg) (f : Facts) (role : Role) (ph : Task → Phase) (g g1 : Stage) (d : Desc) → claim_role f.kind ≡ role → is_iret f.kind ≡ false → mark_wanted f.kind ≡ false → NamesGdt gdt f.selector → Looked gdt f.selector g g1 d
    → ((g1 : Stage) (c : Ask) (t : Task) → g1.phase ≡ g.phase → IsClaim gdt g1 c role t → Turn gdt g1 c (shut g1 (ph t)))
    → Keeps gdt (Claimed gdt f ph g) g1 (claim_rest f (place_in gdt.base f.selector) d)
unfolding claim_rest
claim_next gdt f role ph g g1 d er ei em names h turn =
    keeps_if gdt (Claimed gdt f ph g) g1 (is_admitted (with_tss f d) && not (is_iret f.kind)) (access_byte_phrase (claim_role f.kind) (place_in gdt.base f.selector) (bit_or d.access 2) >>= (λ _. Done d)) (Done d)
    (λ e. claim_one gdt f role ph g g1 d er em names (and-l _ _ e) h turn)
    (λ e. keeps_done gdt (Claimed gdt f ph g) g1 d (let n : is_admitted (with_tss f d) ≡ false = not_both _ _ e ei in record { done = λ x. (let c : true ≡ false = sym x ∙ n in absurd cc); not = λ x. h.phase; more = h.more }))

-- The claim, as the turn that it makes. It is made of a free TSS alone.
pub keeps_claim : (gdt : TableReg) (f : Facts) (role : Role) (ph : Task → Phase) (g : Stage) → claim_role f.kind ≡ role → is_iret f.kind ≡ false → mark_wanted f.kind ≡ false → NamesGdt gdt f.selector
    → ((g1 : Stage) (c : Ask) (t : Task) → g1.phase ≡ g.phase → IsClaim gdt g1 c role t → Turn gdt g1 c (shut g1 (ph t)))
    → Keeps gdt (Claimed gdt f ph g) g (claim_phrase (place_in gdt.base f.selector) f)
unfolding claim_phrase
keeps_claim gdt f role ph g er ei em names turn =
    keeps_then gdt (GotDesc g (place_in gdt.base f.selector)) (Claimed gdt f ph g) g (descriptor_phrase roles.Tss (place_in gdt.base f.selector)) _ (keeps_descriptor gdt g roles.Tss (place_in gdt.base f.selector))
    (λ d g1 h. claim_next gdt f role ph g g1 d er ei em names (looked gdt f.selector g g1 d h) turn)

-- IRET claims nothing, and has read the base of the task that it returns to.
claim_none : (gdt : TableReg) (f : Facts) (g g1 : Stage) (d : Desc) → is_iret f.kind ≡ true → Looked gdt f.selector g g1 d → Keeps gdt (Looked gdt f.selector g) g1 (claim_rest f (place_in gdt.base f.selector) d)
unfolding claim_rest
claim_none gdt f g g1 d ei h =
    keeps_if gdt (Looked gdt f.selector g) g1 (is_admitted (with_tss f d) && not (is_iret f.kind)) (access_byte_phrase (claim_role f.kind) (place_in gdt.base f.selector) (bit_or d.access 2) >>= (λ _. Done d)) (Done d)
    (λ e. let n : not (is_iret f.kind) ≡ true = and-r (is_admitted (with_tss f d)) _ e in let m : not (is_iret f.kind) ≡ false = ap not ei in let c : true ≡ false = sym n ∙ m in absurd cc)
    (λ e. keeps_done gdt (Looked gdt f.selector g) g1 d h)

pub keeps_look : (gdt : TableReg) (f : Facts) (g : Stage) → is_iret f.kind ≡ true → Keeps gdt (Looked gdt f.selector g) g (claim_phrase (place_in gdt.base f.selector) f)
unfolding claim_phrase
keeps_look gdt f g ei =
    keeps_then gdt (GotDesc g (place_in gdt.base f.selector)) (Looked gdt f.selector g) g (descriptor_phrase roles.Tss (place_in gdt.base f.selector)) _ (keeps_descriptor gdt g roles.Tss (place_in gdt.base f.selector))
    (λ d g1 h. claim_none gdt f g g1 d ei (looked gdt f.selector g g1 d h))
