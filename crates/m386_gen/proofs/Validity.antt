-- That each image which is made from a number is valid: there are twelve, and each is compared with its bytes.
use Rattle.std.proofs.Common.{◌≡◌, ℕ, zero, suc, ◌+◌, ◌*◌, ◌/◌, ◌%◌, ◌^◌, ◌<◌, ◌≤◌, Bool, true, false, List, [], ◌∷◌, ◌++◌, length, get_or, take, drop, refl, sym, ap, subst, ◌∙◌, arith}
use Rattle.std.specs.Prelude.{nat_lt, nat_le, nat_eq, ◌&&◌, codes}
use Rattle.std.specs.List.{flat_map, AllByRecursion}
use Rattle.std.proofs.lemmas.Bool.{ltb-true, leb-true, eqb-true, and_parts}
use Rattle.m386_desc.specs.Bytes.{descriptor_bytes}
use Rattle.m386_image.specs.declared.image.Image.{Image}
use Rattle.m386_image.specs.declared.image.Section.{Section}
use Rattle.m386_image.specs.Format.{AreBytes, u16_at, u32_at, u16_bytes, u32_bytes, version_of, cpus_of, flags_of, memory_of, gdt_of, idt_of, starts_of, entries, plan_in, plan_end, section_count, are_ordered, section_text, HasText, ArePlaced, IsMemorySize, IsCpuCount, AreFlags, ImageOf, IsValid, image_text}
use Rattle.m386_gen.specs.Generated.{gate_bytes, image_with, generated}

-- ---- tests that compute

abbrev are_bytes : List ℕ → Bool
are_bytes [] = true
are_bytes (b ∷ bytes) = nat_lt b 256 && are_bytes bytes

abbrev fit : List Section → Bool
fit [] = true
fit (s ∷ ss) = nat_lt s.addr (2 ^ 32) && (nat_lt (length s.bytes) (2 ^ 32) && fit ss)

abbrev placed : ℕ → ℕ → List Section → Bool
placed place memory [] = true
placed place memory (s ∷ ss) = nat_le place s.addr && (nat_le (s.addr + length s.bytes) memory && placed (s.addr + length s.bytes) memory ss)

bytes_pass : (bytes : List ℕ) → are_bytes bytes ≡ true → AreBytes bytes
bytes_pass [] e i = omega arith
bytes_pass (b ∷ bytes) e zero = ltb-true b 256 (and_parts _ _ e).0
bytes_pass (b ∷ bytes) e (suc i) = bytes_pass bytes (and_parts _ _ e).1 i

fit_pass : (ss : List Section) → fit ss ≡ true → AllByRecursion HasText ss
fit_pass [] e = tt
fit_pass (s ∷ ss) e =
    let parts = and_parts _ _ e in
    let others = and_parts _ _ parts.1 in
    ((ltb-true s.addr (2 ^ 32) parts.0, ltb-true (length s.bytes) (2 ^ 32) others.0), fit_pass ss others.1)

placed_pass : (place memory : ℕ) (ss : List Section) → placed place memory ss ≡ true → ArePlaced place memory ss
placed_pass place memory [] e = tt
placed_pass place memory (s ∷ ss) e =
    let parts = and_parts _ _ e in
    let others = and_parts _ _ parts.1 in
    (leb-true place s.addr parts.0, leb-true (s.addr + length s.bytes) memory others.0, placed_pass (s.addr + length s.bytes) memory ss others.1)

-- ---- an image and its text, each part of which computes

record Agrees (image : Image) (text : List ℕ) : Type 0 where
  bytes : are_bytes text ≡ true
  long : nat_le 64 (length text) ≡ true
  magic : take 4 text ≡ codes "M386"
  version : version_of text ≡ 1
  memory : image.memory ≡ memory_of text
  size : nat_le 4096 image.memory && (nat_le image.memory 16777216 && nat_eq (image.memory % 4096) 0) ≡ true
  cpus : image.cpus ≡ cpus_of text
  count : nat_le 1 image.cpus && nat_le image.cpus 8 ≡ true
  flags : image.flags ≡ flags_of text
  flags_fit : image.flags / 2 ^ image.cpus ≡ 0
  gdt : image.gdt ≡ gdt_of text
  idt : image.idt ≡ idt_of text
  starts : image.starts ≡ starts_of text
  plan : image.plan ≡ plan_in text
  ordered : are_ordered image.cpus 0 image.plan ≡ true
  planned : nat_le (plan_end text) (length text) ≡ true
  counted : length image.sections ≡ section_count text
  sections : drop (plan_end text) text ≡ flat_map section_text image.sections ++ []
  fit : fit image.sections ≡ true
  placed : placed 0 image.memory image.sections ≡ true

agreed : (image : Image) → Agrees image (image_text image) → IsValid image
agreed image a =
    let size = and_parts _ _ a.size in
    let size_end = and_parts _ _ size.1 in
    let count = and_parts _ _ a.count in
    let memory_size : IsMemorySize image.memory = (leb-true _ _ size.0, leb-true _ _ size_end.0, eqb-true _ _ size_end.1) in
    let cpu_count : IsCpuCount image.cpus = (leb-true _ _ count.0, leb-true _ _ count.1) in
    let flags_fit : AreFlags image.cpus image.flags = a.flags_fit in (
      image_text image,
      record {
        are_bytes = bytes_pass _ a.bytes;
        header = record {
          long = leb-true _ _ a.long;
          magic = a.magic;
          version = a.version;
          memory = subst IsMemorySize a.memory memory_size;
          cpus = subst IsCpuCount a.cpus cpu_count;
          flags = subst (λ (n : ℕ). AreFlags n (flags_of (image_text image))) a.cpus (subst (AreFlags image.cpus) a.flags flags_fit);
        };
        memory = a.memory;
        cpus = a.cpus;
        flags = a.flags;
        gdt = a.gdt;
        idt = a.idt;
        starts = a.starts;
        plan = a.plan;
        ordered = a.ordered;
        sections = record { plan = leb-true _ _ a.planned; sections = record { count = a.counted; text = fit_pass _ a.fit; parts = a.sections } };
        placed = placed_pass _ _ _ a.placed;
      },
    )

-- ---- the twelve

agrees_2_1 : Agrees (image_with 2 1) (image_text (image_with 2 1))
unfolding image_with image_text u16_bytes u32_bytes u16_at u32_at starts_of entries plan_in are_ordered descriptor_bytes gate_bytes
agrees_2_1 = record {
  bytes = refl;
  long = refl;
  magic = refl;
  version = refl;
  memory = refl;
  size = refl;
  cpus = refl;
  count = refl;
  flags = refl;
  flags_fit = refl;
  gdt = refl;
  idt = refl;
  starts = refl;
  plan = refl;
  ordered = refl;
  planned = refl;
  counted = refl;
  sections = refl;
  fit = refl;
  placed = refl;
}

agrees_3_1 : Agrees (image_with 3 1) (image_text (image_with 3 1))
unfolding image_with image_text u16_bytes u32_bytes u16_at u32_at starts_of entries plan_in are_ordered descriptor_bytes gate_bytes
agrees_3_1 = record {
  bytes = refl;
  long = refl;
  magic = refl;
  version = refl;
  memory = refl;
  size = refl;
  cpus = refl;
  count = refl;
  flags = refl;
  flags_fit = refl;
  gdt = refl;
  idt = refl;
  starts = refl;
  plan = refl;
  ordered = refl;
  planned = refl;
  counted = refl;
  sections = refl;
  fit = refl;
  placed = refl;
}

agrees_4_1 : Agrees (image_with 4 1) (image_text (image_with 4 1))
unfolding image_with image_text u16_bytes u32_bytes u16_at u32_at starts_of entries plan_in are_ordered descriptor_bytes gate_bytes
agrees_4_1 = record {
  bytes = refl;
  long = refl;
  magic = refl;
  version = refl;
  memory = refl;
  size = refl;
  cpus = refl;
  count = refl;
  flags = refl;
  flags_fit = refl;
  gdt = refl;
  idt = refl;
  starts = refl;
  plan = refl;
  ordered = refl;
  planned = refl;
  counted = refl;
  sections = refl;
  fit = refl;
  placed = refl;
}

agrees_2_2 : Agrees (image_with 2 2) (image_text (image_with 2 2))
unfolding image_with image_text u16_bytes u32_bytes u16_at u32_at starts_of entries plan_in are_ordered descriptor_bytes gate_bytes
agrees_2_2 = record {
  bytes = refl;
  long = refl;
  magic = refl;
  version = refl;
  memory = refl;
  size = refl;
  cpus = refl;
  count = refl;
  flags = refl;
  flags_fit = refl;
  gdt = refl;
  idt = refl;
  starts = refl;
  plan = refl;
  ordered = refl;
  planned = refl;
  counted = refl;
  sections = refl;
  fit = refl;
  placed = refl;
}

agrees_3_2 : Agrees (image_with 3 2) (image_text (image_with 3 2))
unfolding image_with image_text u16_bytes u32_bytes u16_at u32_at starts_of entries plan_in are_ordered descriptor_bytes gate_bytes
agrees_3_2 = record {
  bytes = refl;
  long = refl;
  magic = refl;
  version = refl;
  memory = refl;
  size = refl;
  cpus = refl;
  count = refl;
  flags = refl;
  flags_fit = refl;
  gdt = refl;
  idt = refl;
  starts = refl;
  plan = refl;
  ordered = refl;
  planned = refl;
  counted = refl;
  sections = refl;
  fit = refl;
  placed = refl;
}

agrees_4_2 : Agrees (image_with 4 2) (image_text (image_with 4 2))
unfolding image_with image_text u16_bytes u32_bytes u16_at u32_at starts_of entries plan_in are_ordered descriptor_bytes gate_bytes
agrees_4_2 = record {
  bytes = refl;
  long = refl;
  magic = refl;
  version = refl;
  memory = refl;
  size = refl;
  cpus = refl;
  count = refl;
  flags = refl;
  flags_fit = refl;
  gdt = refl;
  idt = refl;
  starts = refl;
  plan = refl;
  ordered = refl;
  planned = refl;
  counted = refl;
  sections = refl;
  fit = refl;
  placed = refl;
}

agrees_2_3 : Agrees (image_with 2 3) (image_text (image_with 2 3))
unfolding image_with image_text u16_bytes u32_bytes u16_at u32_at starts_of entries plan_in are_ordered descriptor_bytes gate_bytes
agrees_2_3 = record {
  bytes = refl;
  long = refl;
  magic = refl;
  version = refl;
  memory = refl;
  size = refl;
  cpus = refl;
  count = refl;
  flags = refl;
  flags_fit = refl;
  gdt = refl;
  idt = refl;
  starts = refl;
  plan = refl;
  ordered = refl;
  planned = refl;
  counted = refl;
  sections = refl;
  fit = refl;
  placed = refl;
}

agrees_3_3 : Agrees (image_with 3 3) (image_text (image_with 3 3))
unfolding image_with image_text u16_bytes u32_bytes u16_at u32_at starts_of entries plan_in are_ordered descriptor_bytes gate_bytes
agrees_3_3 = record {
  bytes = refl;
  long = refl;
  magic = refl;
  version = refl;
  memory = refl;
  size = refl;
  cpus = refl;
  count = refl;
  flags = refl;
  flags_fit = refl;
  gdt = refl;
  idt = refl;
  starts = refl;
  plan = refl;
  ordered = refl;
  planned = refl;
  counted = refl;
  sections = refl;
  fit = refl;
  placed = refl;
}

agrees_4_3 : Agrees (image_with 4 3) (image_text (image_with 4 3))
unfolding image_with image_text u16_bytes u32_bytes u16_at u32_at starts_of entries plan_in are_ordered descriptor_bytes gate_bytes
agrees_4_3 = record {
  bytes = refl;
  long = refl;
  magic = refl;
  version = refl;
  memory = refl;
  size = refl;
  cpus = refl;
  count = refl;
  flags = refl;
  flags_fit = refl;
  gdt = refl;
  idt = refl;
  starts = refl;
  plan = refl;
  ordered = refl;
  planned = refl;
  counted = refl;
  sections = refl;
  fit = refl;
  placed = refl;
}

agrees_2_4 : Agrees (image_with 2 4) (image_text (image_with 2 4))
unfolding image_with image_text u16_bytes u32_bytes u16_at u32_at starts_of entries plan_in are_ordered descriptor_bytes gate_bytes
agrees_2_4 = record {
  bytes = refl;
  long = refl;
  magic = refl;
  version = refl;
  memory = refl;
  size = refl;
  cpus = refl;
  count = refl;
  flags = refl;
  flags_fit = refl;
  gdt = refl;
  idt = refl;
  starts = refl;
  plan = refl;
  ordered = refl;
  planned = refl;
  counted = refl;
  sections = refl;
  fit = refl;
  placed = refl;
}

agrees_3_4 : Agrees (image_with 3 4) (image_text (image_with 3 4))
unfolding image_with image_text u16_bytes u32_bytes u16_at u32_at starts_of entries plan_in are_ordered descriptor_bytes gate_bytes
agrees_3_4 = record {
  bytes = refl;
  long = refl;
  magic = refl;
  version = refl;
  memory = refl;
  size = refl;
  cpus = refl;
  count = refl;
  flags = refl;
  flags_fit = refl;
  gdt = refl;
  idt = refl;
  starts = refl;
  plan = refl;
  ordered = refl;
  planned = refl;
  counted = refl;
  sections = refl;
  fit = refl;
  placed = refl;
}

agrees_4_4 : Agrees (image_with 4 4) (image_text (image_with 4 4))
unfolding image_with image_text u16_bytes u32_bytes u16_at u32_at starts_of entries plan_in are_ordered descriptor_bytes gate_bytes
agrees_4_4 = record {
  bytes = refl;
  long = refl;
  magic = refl;
  version = refl;
  memory = refl;
  size = refl;
  cpus = refl;
  count = refl;
  flags = refl;
  flags_fit = refl;
  gdt = refl;
  idt = refl;
  starts = refl;
  plan = refl;
  ordered = refl;
  planned = refl;
  counted = refl;
  sections = refl;
  fit = refl;
  placed = refl;
}

valid_with : (a b : ℕ) → a < 3 → b < 4 → IsValid (image_with (2 + a) (1 + b))
valid_with zero zero l m = agreed (image_with 2 1) agrees_2_1
valid_with (suc zero) zero l m = agreed (image_with 3 1) agrees_3_1
valid_with (suc (suc zero)) zero l m = agreed (image_with 4 1) agrees_4_1
valid_with zero (suc zero) l m = agreed (image_with 2 2) agrees_2_2
valid_with (suc zero) (suc zero) l m = agreed (image_with 3 2) agrees_3_2
valid_with (suc (suc zero)) (suc zero) l m = agreed (image_with 4 2) agrees_4_2
valid_with zero (suc (suc zero)) l m = agreed (image_with 2 3) agrees_2_3
valid_with (suc zero) (suc (suc zero)) l m = agreed (image_with 3 3) agrees_3_3
valid_with (suc (suc zero)) (suc (suc zero)) l m = agreed (image_with 4 3) agrees_4_3
valid_with zero (suc (suc (suc zero))) l m = agreed (image_with 2 4) agrees_2_4
valid_with (suc zero) (suc (suc (suc zero))) l m = agreed (image_with 3 4) agrees_3_4
valid_with (suc (suc zero)) (suc (suc (suc zero))) l m = agreed (image_with 4 4) agrees_4_4
valid_with (suc (suc (suc a))) b l m = absurd (omega (arith, l))
valid_with zero (suc (suc (suc (suc b)))) l m = absurd (omega (arith, m))
valid_with (suc zero) (suc (suc (suc (suc b)))) l m = absurd (omega (arith, m))
valid_with (suc (suc zero)) (suc (suc (suc (suc b)))) l m = absurd (omega (arith, m))

pub valid_generated : (number : ℕ) → IsValid (generated number)
valid_generated number = valid_with (number % 3) (number / 3 % 4) (omega arith) (omega arith)
