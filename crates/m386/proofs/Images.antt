-- Images that are the same in each part.
use Rattle.std.proofs.Common.{◌≡◌}
use Rattle.m386_image.specs.declared.image.Image.{Image}

pub same_image : (a b : Image) → a.memory ≡ b.memory → a.cpus ≡ b.cpus → a.flags ≡ b.flags → a.gdt ≡ b.gdt → a.idt ≡ b.idt → a.starts ≡ b.starts → a.plan ≡ b.plan → a.sections ≡ b.sections → a ≡ b
same_image a b memory cpus flags gdt idt starts plan sections = λ i. record {
  memory = memory i;
  cpus = cpus i;
  flags = flags i;
  gdt = gdt i;
  idt = idt i;
  starts = starts i;
  plan = plan i;
  sections = sections i;
}
