-- A flags image that was popped: NT is set behind it only where a cycle that read it had it set.
use Rattle.std.proofs.Common.{arith, ◌≡◌, ℕ, ◌-◌, ◌*◌, ◌/◌, ◌%◌, ◌^◌, ◌==◌, ◌∙◌, sym, ap, refl, List, Bool, true, false, cond, nat_le, bit_or, bit_and, inr, inl}
use Rattle.std.proofs.lemmas.Nat.{and_assoc, and_mask, and_or_apart, or_comm}
use Rattle.std.proofs.lemmas.Nat.Bits.{and_high}
use Rattle.m386_base.specs.declared.ask.Ask.{Ask}
use Rattle.m386_base.specs.declared.ask.Role.TheVariants.{Flags}
use Rattle.m386_base.specs.declared.number.Width.{Width}
use Rattle.m386_base.specs.declared.number.Width.TheVariants.{W8, W16, W32}
use Rattle.m386_base.specs.Phrase.{Phrase, Faults, ◌>>=◌}
use Rattle.m386_base.specs.Plain.{Plain}
use Rattle.m386_base.specs.Split.{IsLength}
use Rattle.m386_base.proofs.Plain.{plain_faults}
use Rattle.m386_state.specs.declared.proc.Proc.{Proc}
use Rattle.m386_state.specs.declared.segment.TableReg.{TableReg}
use Rattle.m386_state.specs.Start.{cpl_of}
use Rattle.m386_access.specs.Access.{reads}
use Rattle.m386_access.specs.Address.{linear_of, access_fault_of}
use Rattle.m386_access.specs.Ordinary.{Ordinary, has_nested}
use Rattle.m386_access.proofs.Popped.{Popped, flags_then}
use Rattle.m386_base.specs.Segments.{ss}
use Rattle.m386_stack.specs.declared.stack.Stack.{Stack}
use Rattle.m386_stack.specs.Flags.{iopl_of, merged, popped_flags}
use Rattle.m386_stack.specs.Names.{size_of}
use Rattle.m386_stack.specs.Stack.{top_of, top_pieces, may_pop, pop_phrase}

-- A flags image popped, and what follows.
pub pop_flags_then : {B : Type 0} (gdt : TableReg) (n : ℕ) (ends : List Ask → B → Type 0) (ts : List Ask) (st : Stack) (len : ℕ) (f : ℕ → Phrase B) → nat_le 2 n ≡ true → IsLength len → ((us : List Ask) (v : ℕ) → Popped us v → Plain (n - 2) (Ordinary gdt) ends us (f v)) → Plain n (Ordinary gdt) ends ts (pop_phrase Flags st len >>= f)
unfolding pop_phrase ◌>>=◌
pop_flags_then {B = B} gdt n ends ts st len f l i k = go (may_pop st len)
  where
    go : (b : Bool) → Plain n (Ordinary gdt) ends ts (cond b (reads Flags 0 (top_pieces st len)) (Faults (access_fault_of ss)) >>= f)
    go true = flags_then gdt n ends ts (linear_of st.ss (top_of st)) len f l i k
    go false = plain_faults n (Ordinary gdt) ends ts _

pub is_length : (w : Width) → IsLength (size_of w)
is_length W8 = inr (inr refl)
is_length W16 = inr (inl refl)
is_length W32 = inr (inr refl)

bit_14 : (n : ℕ) → bit_and n 0x4000 ≡ n / 2 ^ 14 % 2 * 2 ^ 14
bit_14 n = and_high n 1 14

same_nested : (n m : ℕ) → bit_and n 0x4000 ≡ bit_and m 0x4000 → has_nested n ≡ has_nested m
same_nested n m h = let k : n / 2 ^ 14 % 2 * 2 ^ 14 ≡ m / 2 ^ 14 % 2 * 2 ^ 14 = sym (bit_14 n) ∙ h ∙ bit_14 m in let z : n / 2 ^ 14 % 2 ≡ m / 2 ^ 14 % 2 = omega (arith, k) in ap (λ x. x == 1) z

zero_right : (n : ℕ) → bit_and n 0 ≡ 0
zero_right n = let a : bit_and n 0 ≡ n % 1 = and_mask n 0 in let b : n % 1 ≡ 0 = omega arith in a ∙ b

-- of a mask with bit 14 the image has it
image_bit : (mask rest flags image : ℕ) → bit_and mask 0x4000 ≡ 0x4000 → bit_and rest 0x4000 ≡ 0 → has_nested (bit_or (bit_or (bit_and flags rest) (bit_and image mask)) 2) ≡ has_nested image
image_bit mask rest flags image h k =
    let kept : ℕ = bit_and flags rest in
    let new : ℕ = bit_and image mask in
    let a : bit_and (bit_or (bit_or kept new) 2) 0x4000 ≡ bit_and (bit_or kept new) 0x4000 = and_or_apart 0x4000 (bit_or kept new) 2 refl in
    let b : bit_and (bit_or kept new) 0x4000 ≡ bit_and (bit_or new kept) 0x4000 = ap (λ x. bit_and x 0x4000) (or_comm kept new) in
    let none : bit_and kept 0x4000 ≡ 0 = and_assoc 0x4000 flags rest ∙ ap (bit_and flags) k ∙ zero_right flags in
    let c : bit_and (bit_or new kept) 0x4000 ≡ bit_and new 0x4000 = and_or_apart 0x4000 new kept none in
    let d : bit_and new 0x4000 ≡ bit_and image 0x4000 = and_assoc 0x4000 image mask ∙ ap (bit_and image) h in
    same_nested (bit_or (bit_or kept new) 2) image (a ∙ b ∙ c ∙ d)

-- NT is behind POPF and IRET as the image has it.
pub popped_nested : (p : Proc) (image : ℕ) → has_nested (popped_flags p image).0 ≡ has_nested image
popped_nested p image = go (cpl_of p == 0) (nat_le (cpl_of p) (iopl_of p))
  where
    go : (a b : Bool) → has_nested (merged (cond a 0x7fd5 (cond b 0x4fd5 0x4dd5)) p.eflags.0 image) ≡ has_nested image
    go true b = image_bit 0x7fd5 (0xffffffff - 0x7fd5) p.eflags.0 image refl refl
    go false true = image_bit 0x4fd5 (0xffffffff - 0x4fd5) p.eflags.0 image refl refl
    go false false = image_bit 0x4dd5 (0xffffffff - 0x4dd5) p.eflags.0 image refl refl
