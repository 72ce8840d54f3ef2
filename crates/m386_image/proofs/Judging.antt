-- Which bytes are an image, and which fault the others have.
use Rattle.std.proofs.Common.{◌≡◌, ◌≢◌, ℕ, true, false, ◌-◌, ◌<◌, ◌≤◌, List, [], length, get_or, take, drop, refl, sym, subst, ◌∙◌, arith}
use Rattle.std.proofs.lemmas.List.{take_rest}
use Rattle.std.proofs.lemmas.List.FromFn.{fill_by_all}
use Rattle.m386_image.specs.declared.image.Image.{Image}
use Rattle.m386_image.specs.declared.image.Planned.{Planned}
use Rattle.m386_image.specs.declared.image.Section.{Section}
use Rattle.m386_image.specs.declared.fault.ImageFault.{ImageFault}
use Rattle.m386_image.specs.declared.fault.ImageFault.TheVariants as faults
use Rattle.m386_image.specs.Fault.{Stands, NoneBelow, FirstFault}
use Rattle.m386_image.specs.Format.{AreBytes, memory_of, cpus_of, flags_of, gdt_of, idt_of, starts_of, start_word, plan_in, are_ordered, plan_end, section_count, TakesAll, HasSections, ArePlaced, HasHeader, ImageOf}
use Rattle.m386_image.proofs.Sections.{AreSame, takes_all_same}

-- the image of a header and sections
abbrev pub image_with : List ℕ → List Section → Image
image_with bytes ss = record {
  memory = memory_of bytes;
  cpus = cpus_of bytes;
  flags = flags_of bytes;
  gdt = gdt_of bytes;
  idt = idt_of bytes;
  starts = starts_of bytes;
  plan = plan_in bytes;
  sections = ss;
}

pub is_image : (bytes : List ℕ) (ss : List Section) → AreBytes bytes → HasHeader bytes → are_ordered (cpus_of bytes) 0 (plan_in bytes) ≡ true → HasSections bytes ss [] → ArePlaced 0 (memory_of bytes) ss → ImageOf bytes (image_with bytes ss)
is_image bytes ss b h o s p = record {
  are_bytes = b;
  header = h;
  memory = refl;
  cpus = refl;
  flags = refl;
  gdt = refl;
  idt = refl;
  starts = refl;
  plan = refl;
  ordered = o;
  sections = s;
  placed = p;
}

-- sections that stand behind the plan, as a reader cuts the bytes
pub has_sections : (bytes : List ℕ) (place n : ℕ) (ss : List Section) (rest : List ℕ) → place ≡ plan_end bytes → n ≡ section_count bytes → place ≤ length bytes
    → TakesAll n (take (length bytes - place) (drop place bytes)) ss rest → HasSections bytes ss rest
has_sections bytes place n ss rest place-is n-is room t =
    let whole = subst (λ (x : List ℕ). TakesAll n x ss rest) (take_rest bytes place) t in
    let counted = subst (λ (m : ℕ). TakesAll m (drop place bytes) ss rest) n-is whole in
    record { plan = omega (arith, place-is, room); sections = subst (λ (k : ℕ). TakesAll (section_count bytes) (drop k bytes) ss rest) place-is counted }

-- sections stand in bytes in one way
pub sections_same : (bytes : List ℕ) (ss us : List Section) (after rest : List ℕ) → HasSections bytes ss after → HasSections bytes us rest → AreSame ss us after rest
sections_same bytes ss us after rest s u = takes_all_same (section_count bytes) (drop (plan_end bytes) bytes) ss us after rest s.sections u.sections

pub trailing : (bytes : List ℕ) (ss : List Section) (rest : List ℕ) → HasHeader bytes → are_ordered (cpus_of bytes) 0 (plan_in bytes) ≡ true → HasSections bytes ss rest → ArePlaced 0 (memory_of bytes) ss → rest ≢ [] → FirstFault bytes faults.Trailing
trailing bytes ss rest h o s p more = record { stands = (ss, rest, s, more); none_before = before }
  where
    before : NoneBelow 10 bytes
    before faults.ShortHeader lt f = omega (arith, h.long)
    before faults.Magic lt f = f h.magic
    before faults.Version lt f = f h.version
    before faults.MemorySize lt f = f h.memory
    before faults.Processors lt f = f h.cpus
    before faults.Flags lt f = f h.flags
    before faults.Truncated lt f = f ss rest s
    before faults.PlanOrder lt f = let e : true ≡ false = sym o ∙ f in absurd cc
    before faults.Section lt f = f.3 (subst (ArePlaced 0 (memory_of bytes)) ((sections_same bytes ss f.0 rest f.1 s f.2).sections) p)
    before faults.Trailing lt f = absurd (omega arith)

pub unordered : (bytes : List ℕ) (ss : List Section) (rest : List ℕ) → HasHeader bytes → are_ordered (cpus_of bytes) 0 (plan_in bytes) ≡ false → HasSections bytes ss rest → FirstFault bytes faults.PlanOrder
unordered bytes ss rest h o s = record { stands = o; none_before = before }
  where
    before : NoneBelow 8 bytes
    before faults.ShortHeader lt f = omega (arith, h.long)
    before faults.Magic lt f = f h.magic
    before faults.Version lt f = f h.version
    before faults.MemorySize lt f = f h.memory
    before faults.Processors lt f = f h.cpus
    before faults.Flags lt f = f h.flags
    before faults.Truncated lt f = f ss rest s
    before faults.PlanOrder lt f = absurd (omega arith)
    before faults.Section lt f = absurd (omega arith)
    before faults.Trailing lt f = absurd (omega arith)

pub displaced : (bytes : List ℕ) (ss : List Section) (rest : List ℕ) → HasHeader bytes → are_ordered (cpus_of bytes) 0 (plan_in bytes) ≡ true → HasSections bytes ss rest → ¬ ArePlaced 0 (memory_of bytes) ss → FirstFault bytes faults.Section
displaced bytes ss rest h o s p = record { stands = (ss, rest, s, p); none_before = before }
  where
    before : NoneBelow 9 bytes
    before faults.ShortHeader lt f = omega (arith, h.long)
    before faults.Magic lt f = f h.magic
    before faults.Version lt f = f h.version
    before faults.MemorySize lt f = f h.memory
    before faults.Processors lt f = f h.cpus
    before faults.Flags lt f = f h.flags
    before faults.Truncated lt f = f ss rest s
    before faults.PlanOrder lt f = let e : true ≡ false = sym o ∙ f in absurd cc
    before faults.Section lt f = absurd (omega arith)
    before faults.Trailing lt f = absurd (omega arith)

-- ---- an image is one, and has no fault

pub image_same : (bytes : List ℕ) (i j : Image) → ImageOf bytes i → ImageOf bytes j → i ≡ j
image_same bytes i j p q =
    let memory : i.memory ≡ j.memory = p.memory ∙ sym q.memory in
    let cpus : i.cpus ≡ j.cpus = p.cpus ∙ sym q.cpus in
    let flags : i.flags ≡ j.flags = p.flags ∙ sym q.flags in
    let gdt : i.gdt ≡ j.gdt = p.gdt ∙ sym q.gdt in
    let idt : i.idt ≡ j.idt = p.idt ∙ sym q.idt in
    let starts : i.starts ≡ j.starts = p.starts ∙ sym q.starts in
    let plan : i.plan ≡ j.plan = p.plan ∙ sym q.plan in
    let sections : i.sections ≡ j.sections = (sections_same bytes i.sections j.sections [] [] p.sections q.sections).sections in
    λ t. record { memory = memory t; cpus = cpus t; flags = flags t; gdt = gdt t; idt = idt t; starts = starts t; plan = plan t; sections = sections t }

-- the plan of an image's bytes is ordered
ordered_plan : (bytes : List ℕ) (image : Image) → ImageOf bytes image → are_ordered (cpus_of bytes) 0 (plan_in bytes) ≡ true
ordered_plan bytes image p = subst (λ (n : ℕ). are_ordered n 0 (plan_in bytes) ≡ true) p.cpus (subst (λ (es : List Planned). are_ordered image.cpus 0 es ≡ true) p.plan p.ordered)

pub image_no_fault : (bytes : List ℕ) (image : Image) → ImageOf bytes image → (f : ImageFault) → ¬ Stands bytes f
image_no_fault bytes image p faults.ShortHeader f = omega (arith, p.header.long)
image_no_fault bytes image p faults.Magic f = f p.header.magic
image_no_fault bytes image p faults.Version f = f p.header.version
image_no_fault bytes image p faults.MemorySize f = f p.header.memory
image_no_fault bytes image p faults.Processors f = f p.header.cpus
image_no_fault bytes image p faults.Flags f = f p.header.flags
image_no_fault bytes image p faults.Truncated f = f image.sections [] p.sections
image_no_fault bytes image p faults.PlanOrder f = let e : true ≡ false = sym (ordered_plan bytes image p) ∙ f in absurd cc
image_no_fault bytes image p faults.Section f =
    let e = (sections_same bytes image.sections f.0 [] f.1 p.sections f.2).sections in
    f.3 (subst (λ (n : ℕ). ArePlaced 0 n f.0) p.memory (subst (ArePlaced 0 image.memory) e p.placed))
image_no_fault bytes image p faults.Trailing f = f.3 (sym (sections_same bytes image.sections f.0 [] f.1 p.sections f.2).rest)

-- the image of bytes that are one, by the sections that stand there
pub image_read : (bytes : List ℕ) (image : Image) (ss : List Section) (rest : List ℕ) → ImageOf bytes image → HasSections bytes ss rest → ImageOf bytes (image_with bytes ss)
image_read bytes image ss rest p h =
    let e = sections_same bytes image.sections ss [] rest p.sections h in
    is_image bytes ss p.are_bytes p.header (ordered_plan bytes image p) (subst (λ (x : List Section). HasSections bytes x []) e.sections p.sections)
    (subst (λ (n : ℕ). ArePlaced 0 n ss) p.memory (subst (ArePlaced 0 image.memory) e.sections p.placed))

-- ---- the starts

-- the starts of the processors below p were read, and the others are 0
pub record Started (bytes starts : List ℕ) (p : ℕ) : Type 0 where
  pub read : (k : ℕ) → k < p → get_or starts k 0 ≡ start_word bytes k
  pub unread : (k : ℕ) → p ≤ k → get_or starts k 0 ≡ 0

pub all_started : (bytes starts : List ℕ) (p : ℕ) → length starts ≡ 8 → 8 ≤ p → Started bytes starts p → starts ≡ starts_of bytes
unfolding starts_of
all_started bytes starts p len all s = fill_by_all (start_word bytes) starts 8 0 len (λ k lt. s.read k (omega arith))
