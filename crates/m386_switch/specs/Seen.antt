-- What the cycles of an attempt at a task switch have read and written, and the facts that they tell.
use Rattle.std.specs.Prelude.{ℕ, Bool, false, List, [], ◌∷◌, ◌++◌, ◌+◌, ◌%◌, ◌^◌, if◌then◌else◌, bit_or, bit_and, Option, Some, None, slice_set, ◌==◌, ◌||◌}
use Rattle.m386_base.specs.declared.ask.Ask.{Ask}
use Rattle.m386_base.specs.declared.ask.Role.{Role}
use Rattle.m386_base.specs.declared.ask.Role.TheVariants as roles
use Rattle.m386_base.specs.declared.desc.Desc.{Desc}
use Rattle.m386_base.specs.Split.{gather_of}
use Rattle.m386_base.specs.Phrase.{Attempt}
use Rattle.m386_checks.specs.declared.facts.Facts.{Facts}
use Rattle.m386_desc.specs.Bytes.{descriptor_in, two_doublewords}
use Rattle.m386_desc.specs.Selector.{rpl_of, is_in_table}
use Rattle.m386_switch.specs.Later.{names_place, names_local_table, segment_order}
use Rattle.m386_switch.specs.Parts.{is_iret}
use Rattle.m386_switch.specs.Switch.{no_descs}

-- Bytes of a field that were read so far: how many, and the number that they make.
pub record Part : Type 0 where
  pub count : ℕ
  pub number : ℕ

abbrev pub nothing : Part
nothing = record { count = 0; number = 0 }

-- What cycles have read and written, by their roles: whether one was a write; the back link read; the doublewords of the TSS
-- descriptor; the busy bit set; the old task's fields written, by their numbers; the back link written; the old busy bit cleared,
-- its read and its write; the new task's fields read, by their numbers; the doublewords of the descriptors that the new task names; the accessed
-- bytes written.
pub record Seen : Type 0 where
  pub wrote : Bool
  pub link : Part
  pub tss : List ℕ
  pub claims : List Ask
  pub saves : ℕ → List Ask
  pub links : List Ask
  pub releases : List Ask
  pub loads : ℕ → Part
  pub words : List ℕ
  pub marks : List Ask

unfoldable pub nothing_seen : Seen
nothing_seen = record { wrote = false; link = nothing; tss = []; claims = []; saves = λ n. []; links = []; releases = []; loads = λ n. nothing; words = []; marks = [] }

-- how many bytes of a group are enabled
abbrev pub bit_count : ℕ → ℕ
bit_count enables =
    (if bit_and enables 1 == 0 then 0 else 1) + (if bit_and enables 2 == 0 then 0 else 1) + (if bit_and enables 4 == 0 then 0 else 1)
    + (if bit_and enables 8 == 0 then 0 else 1)

-- the bytes of a cycle put behind those before
unfoldable pub more : Part → Ask → Part
more b t = record {
  count = b.count + bit_count t.enables;
  number = bit_or b.number (gather_of (record { addr = t.addr; enables = t.enables; place = b.count }) t.value);
}

-- a cycle's bytes at its place in the doubleword that it belongs to
abbrev pub bytes_at_part : Ask → ℕ
bytes_at_part t = gather_of (record { addr = t.addr; enables = t.enables; place = t.part }) t.value

unfoldable pub or_last : List ℕ → ℕ → List ℕ
or_last [] v = v ∷ []
or_last (w ∷ []) v = bit_or w v ∷ []
or_last (w ∷ x ∷ ws) v = w ∷ or_last (x ∷ ws) v

-- Doublewords with those bytes: a cycle of part 0 begins one, and another goes on with the last.
unfoldable pub with_word : List ℕ → Ask → List ℕ
with_word ws t = if t.part == 0 then ws ++ bit_or 0 (bytes_at_part t) ∷ [] else or_last ws (bytes_at_part t)

abbrev pub at_number : {A : Type 0} → (ℕ → A) → ℕ → A → ℕ → A
at_number h n a = λ m. if m == n then a else h m

-- what is seen of a cycle, by its role
abbrev pub by_role : Role → Ask → Seen → Seen
by_role roles.Back t g = record g { link = more g.link t }
by_role roles.Tss t g = record g { tss = with_word g.tss t }
by_role roles.ClaimJmp t g = record g { claims = g.claims ++ t ∷ [] }
by_role roles.ClaimCall t g = record g { claims = g.claims ++ t ∷ [] }
by_role roles.ClaimStart t g = record g { claims = g.claims ++ t ∷ [] }
by_role roles.Save t g = record g { saves = at_number g.saves t.part (g.saves t.part ++ t ∷ []) }
by_role roles.Link t g = record g { links = g.links ++ t ∷ [] }
by_role roles.RelJmp t g = record g { releases = g.releases ++ t ∷ [] }
by_role roles.RelRet t g = record g { releases = g.releases ++ t ∷ [] }
by_role roles.Load t g = record g { loads = at_number g.loads t.part (more (g.loads t.part) t) }
by_role roles.Gdt t g = record g { words = with_word g.words t }
by_role roles.Ldt t g = record g { words = with_word g.words t }
by_role roles.GdtAcc t g = record g { marks = g.marks ++ t ∷ [] }
by_role roles.LdtAcc t g = record g { marks = g.marks ++ t ∷ [] }
by_role _ t g = g

-- what is seen once a cycle was made
unfoldable pub note : Seen → Ask → Seen
note g t = by_role t.role t (record g { wrote = t.write || g.wrote })

unfoldable pub seen_from : Seen → List Ask → Seen
seen_from g [] = g
seen_from g (t ∷ ts) = seen_from (note g t) ts

-- What the cycles of an attempt, from its begin on, have read and written.
unfoldable pub seen : List Ask → Seen
seen ts = seen_from nothing_seen ts

-- the descriptor that was read
unfoldable pub desc_read : List ℕ → Option Desc
desc_read [] = None
desc_read (lo ∷ []) = None
desc_read (lo ∷ hi ∷ ws) = Some (descriptor_in (two_doublewords lo hi))

-- the descriptor in the next two doublewords, where its selector names one
unfoldable pub next_desc : List ℕ → Bool → Option Desc
next_desc [] there = None
next_desc (lo ∷ []) there = None
next_desc (lo ∷ hi ∷ ws) there = if there then Some (descriptor_in (two_doublewords lo hi)) else None

-- and the doublewords behind it
unfoldable pub after_desc : List ℕ → Bool → List ℕ
after_desc [] there = []
after_desc (lo ∷ []) there = lo ∷ []
after_desc (lo ∷ hi ∷ ws) there = if there then ws else lo ∷ hi ∷ ws

-- The descriptors of segment registers in turn: each selector that names one takes the next two doublewords.
unfoldable pub descs_read : (ℕ → Bool) → List ℕ → List ℕ → List (Option Desc) → List (Option Desc)
descs_read there [] ws ds = ds
descs_read there (seg ∷ segs) [] ds = ds
descs_read there (seg ∷ segs) (lo ∷ []) ds = ds
descs_read there (seg ∷ segs) (lo ∷ hi ∷ ws) ds =
    if there seg then descs_read there segs ws (slice_set ds seg (Some (descriptor_in (two_doublewords lo hi))))
    else descs_read there segs (lo ∷ hi ∷ ws) ds

-- the selector of a segment register that was loaded
abbrev pub loaded_selector : Seen → ℕ → ℕ
loaded_selector g seg = (g.loads (18 + seg)).number % 2 ^ 16

abbrev pub loaded_ldt : Seen → ℕ
loaded_ldt g = (g.loads 24).number % 2 ^ 16

-- the selector of the new TSS: for IRET the back link that was read
abbrev pub named_selector : Attempt → Seen → ℕ
named_selector m g = if is_iret m.kind then g.link.number % 2 ^ 16 else m.selector

abbrev pub ldt_read : Attempt → Seen → Option Desc
ldt_read m g = next_desc g.words (names_local_table m.gdt_limit (loaded_ldt g))

abbrev pub words_after_ldt : Attempt → Seen → List ℕ
words_after_ldt m g = after_desc g.words (names_local_table m.gdt_limit (loaded_ldt g))

-- The facts of an attempt: what was known at its begin, and what its own cycles read.
-- Source: Intel 80386 PRM 7.5
unfoldable pub facts_of : Attempt → Seen → Facts
facts_of m g = record {
  kind = m.kind;
  direct = m.direct;
  cpl = m.cpl;
  rpl = rpl_of (named_selector m g);
  ext = m.ext;
  tr_usable = m.tr_usable;
  selector = named_selector m g;
  in_gdt = is_in_table (named_selector m g) m.gdt_limit;
  tss = desc_read g.tss;
  ldt = loaded_ldt g;
  ldt_desc = ldt_read m g;
  segs = loaded_selector g 0 ∷ loaded_selector g 1 ∷ loaded_selector g 2 ∷ loaded_selector g 3 ∷ loaded_selector g 4 ∷ loaded_selector g 5 ∷ [];
  seg_descs = descs_read (λ seg. names_place m.gdt_limit (ldt_read m g) (loaded_selector g seg)) segment_order (words_after_ldt m g) no_descs;
  eip = (g.loads 8).number;
}
