-- The sections of an image, put into the memory that it begins with.
use Rattle.std.proofs.Common.{◌≡◌, ℕ, ◌+◌, ◌<◌, ◌≤◌, List, [], ◌∷◌, ◌++◌, length, get_or, take, sym, ap, subst, ◌∙◌, arith}
use Rattle.std.proofs.lemmas.List.{take_all, take_more}
use Rattle.m386_image.specs.declared.image.Image.{Image}
use Rattle.m386_image.specs.declared.image.Section.{Section}
use Rattle.m386_image.specs.Format.{IsValid}
use Rattle.m386_image.specs.Memory.{blank_memory, fill, fill_all}
use Rattle.m386_image.proofs.Filling.{filled_image, fill_all-push, section_inside}
use Rattle.m386_memory.specs.Contents.{Contents, zeros, filled}
use Rattle.m386_memory.proofs.Sizes.{length-zeros, length-filled}
use Rattle.m386_step.specs.Run.{BeginsWith}

-- the first i sections of an image have been put into zeros
pub record HasFilled (I : Image) (sections : List Section) (i : ℕ) (now : Contents) : Type 0 where
  pub same : sections ≡ I.sections
  pub within : i ≤ length sections
  pub memory : now.memory ≡ fill_all (take i sections) (blank_memory I.memory)
  pub size : length now.memory ≡ I.memory
  pub ports : now.ports ≡ zeros 65536

pub fills_none : (I : Image) (sections : List Section) (now : Contents) → sections ≡ I.sections → now.memory ≡ zeros I.memory → now.ports ≡ zeros 65536 → HasFilled I sections 0 now
unfolding zeros
fills_none I sections now same m p = record { same = same; within = omega arith; memory = m; size = ap length m ∙ length-zeros I.memory; ports = p }

pub fits_next : (I : Image) (sections : List Section) (i : ℕ) (now : Contents) (s : Section) → IsValid I → HasFilled I sections i now → i < length sections → s ≡ get_or sections i s → s.addr + length s.bytes ≤ length now.memory
fits_next I sections i now s v h lt e =
    let same : s ≡ get_or I.sections i s = e ∙ ap (λ (xs : List Section). get_or xs i s) h.same in
    let inside : (get_or I.sections i s).addr + length (get_or I.sections i s).bytes ≤ I.memory = section_inside I i s v (subst (λ (xs : List Section). i < length xs) h.same lt) in
    rw h.size (subst (λ (t : Section). t.addr + length t.bytes ≤ I.memory) (sym same) inside)

pub fills_next : (I : Image) (sections : List Section) (i : ℕ) (now new : Contents) (s : Section) → IsValid I → HasFilled I sections i now → i < length sections → s ≡ get_or sections i s → new ≡ record now { memory = filled now.memory s.addr s.bytes } → HasFilled I sections (i + 1) new
fills_next I sections i now new s v h lt e n =
    let fits = fits_next I sections i now s v h lt e in
    let more : take (i + 1) sections ≡ take i sections ++ s ∷ [] = (take_more sections i s lt ∙ ap (λ (t : Section). take i sections ++ t ∷ []) (sym e)) in
    rw n (record {
      same = h.same;
      within = omega arith;
      memory = ap (λ (m : List ℕ). fill s.addr s.bytes m) h.memory ∙ sym (fill_all-push (take i sections) s (blank_memory I.memory)) ∙ sym (ap (λ (ss : List Section). fill_all ss (blank_memory I.memory)) more);
      size = length-filled now.memory s.addr s.bytes fits ∙ h.size;
      ports = h.ports;
    })

pub fills_all : (I : Image) (sections : List Section) (i : ℕ) (now : Contents) → IsValid I → HasFilled I sections i now → length sections ≤ i → BeginsWith I now
fills_all I sections i now v h le =
    let whole : now.memory ≡ fill_all I.sections (blank_memory I.memory) = h.memory ∙ ap (λ (ss : List Section). fill_all ss (blank_memory I.memory)) (take_all i sections le ∙ h.same) in
    record {
      size = h.size;
      bytes = λ a lt. ap (λ (m : List ℕ). get_or m a 0) whole ∙ filled_image I a v;
      ports = h.ports;
    }
