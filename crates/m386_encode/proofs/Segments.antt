-- The segment register of an operation is that of its memory operands.
use Rattle.std.proofs.Common.{◌≡◌, ℕ, Bool, true, false, List, [], ◌∷◌, ◌++◌, refl, sym, ◌∙◌, ap, append_assoc, subst}
use Rattle.std.specs.Prelude.{Option, Some, None, option_to_list}
use Rattle.m386_base.specs.declared.number.Width.{Width}
use Rattle.m386_opmap.specs.declared.fields.Fields.{Fields}
use Rattle.m386_opmap.specs.declared.op.Arg.{Arg}
use Rattle.m386_opmap.specs.declared.op.Arg.TheVariants.{Reg, Seg, Imm, Mem, Rel, Far}
use Rattle.m386_opmap.specs.declared.op.Arg.TheVariants as args
use Rattle.m386_opmap.specs.declared.row.Operand.{Operand}
use Rattle.m386_opmap.specs.declared.row.Operand.TheVariants.{Absent, E, M, R, G, S, Low, I, Ib, Iw, SignedByte, Jb, J, O, A, X, Table, Eax, Cl, Dx, One, Es, Cs, Ss, Ds, Fs, Gs, Cr0}
use Rattle.m386_opmap.specs.Forms.{Form, absent, register, based, indexed}
use Rattle.m386_opmap.specs.Operands.{operand_value, is_memory}
use Rattle.m386_opmap.specs.Prefix.{last_of, later, segment_named}
use Rattle.m386_encode.specs.Candidates.{named_segment}
use Rattle.m386_encode.proofs.Values.{is_plain}
use Rattle.m386_encode.proofs.Marks.{IsSegment, segment_is_named}
use Rattle.m386_encode.proofs.RowParts.{Names}
use Rattle.m386_encode.proofs.Tails.{items}

seg_first : (seg : Option ℕ) (a : Option Arg) (rest : List Arg) → Names seg a → is_memory a ≡ true → named_segment (option_to_list a ++ rest) ≡ seg
unfolding named_segment
seg_first seg None rest n h = cc
seg_first seg (Some (Reg x)) rest n h = cc
seg_first seg (Some (Seg x)) rest n h = cc
seg_first seg (Some args.Cr0) rest n h = cc
seg_first seg (Some (Imm x)) rest n h = cc
seg_first seg (Some (Mem a)) rest n h = n
seg_first seg (Some (Rel x)) rest n h = cc
seg_first seg (Some (Far x y)) rest n h = cc

seg_next : (P : Option ℕ → Type 0) (seg : Option ℕ) (a : Option Arg) (rest : List Arg) → Names seg a → P seg → P (named_segment rest) → P (named_segment (option_to_list a ++ rest))
unfolding named_segment
seg_next P seg None rest n s e = e
seg_next P seg (Some (Reg x)) rest n s e = e
seg_next P seg (Some (Seg x)) rest n s e = e
seg_next P seg (Some args.Cr0) rest n s e = e
seg_next P seg (Some (Imm x)) rest n s e = e
seg_next P seg (Some (Mem a)) rest n s e = subst P (sym n) s
seg_next P seg (Some (Rel x)) rest n s e = e
seg_next P seg (Some (Far x y)) rest n s e = e

right : (a b c : Option Arg) → items a b c ≡ option_to_list a ++ (option_to_list b ++ option_to_list c)
right a b c = append_assoc (option_to_list a) (option_to_list b) (option_to_list c)

pub seg_of_first : (seg : Option ℕ) (a b c : Option Arg) → Names seg a → is_memory a ≡ true → named_segment (items a b c) ≡ seg
seg_of_first seg a b c n h = ap named_segment (right a b c) ∙ seg_first seg a (option_to_list b ++ option_to_list c) n h

pub seg_of_second : (seg : Option ℕ) (a b c : Option Arg) → Names seg a → Names seg b → is_memory b ≡ true → named_segment (items a b c) ≡ seg
seg_of_second seg a b c n m h =
    let P : Option ℕ → Type 0 = λ s. s ≡ seg in
    ap named_segment (right a b c) ∙ seg_next P seg a (option_to_list b ++ option_to_list c) n refl (seg_first seg b (option_to_list c) m h)

seg_last : (P : Option ℕ → Type 0) (seg : Option ℕ) (c : Option Arg) → Names seg c → P None → P seg → P (named_segment (option_to_list c))
unfolding named_segment
seg_last P seg None n e s = e
seg_last P seg (Some (Reg x)) n e s = e
seg_last P seg (Some (Seg x)) n e s = e
seg_last P seg (Some args.Cr0) n e s = e
seg_last P seg (Some (Imm x)) n e s = e
seg_last P seg (Some (Mem a)) n e s = subst P (sym n) s
seg_last P seg (Some (Rel x)) n e s = e
seg_last P seg (Some (Far x y)) n e s = e

-- it is none, or the one that they name
pub seg_is : (P : Option ℕ → Type 0) (seg : Option ℕ) (a b c : Option Arg) → Names seg a → Names seg b → Names seg c → P None → P seg → P (named_segment (items a b c))
seg_is P seg a b c n m k e s =
    subst P (sym (ap named_segment (right a b c))) (seg_next P seg a (option_to_list b ++ option_to_list c) n s (seg_next P seg b (option_to_list c) m s (seg_last P seg c k e s)))

later_is : (x y : Option ℕ) → IsSegment x → IsSegment y → IsSegment (later x y)
later_is x None a b = a
later_is x (Some n) a b = b

pub last_is : (ps : List ℕ) → IsSegment (last_of segment_named ps)
last_is [] = tt
last_is (p ∷ ps) = later_is (segment_named p) (last_of segment_named ps) (segment_is_named p) (last_is ps)

-- the same of all that a ModRM byte names, under the same segment register or of no memory
pub form_under : (seg other : Option ℕ) (bs : List ℕ) (mid : ℕ) (place : Option Arg) (memory : Bool) → is_memory place ≡ memory → Form seg bs mid place → (memory ≡ true → seg ≡ other) → Form other bs mid place
form_under seg other bs mid place true m f e = let P : Option ℕ → Type 0 = λ s. Form s bs mid place in subst P (e refl) f
form_under seg other _ _ _ false m absent e = absent
form_under seg other _ _ _ false m (register n t) e = register n t
form_under seg other _ _ _ false m (based n ds t k h) e = cc
form_under seg other _ _ _ false m (indexed n s ds t l h) e = cc

pub form_names : (seg : Option ℕ) (bs : List ℕ) (mid : ℕ) (place : Option Arg) → Form seg bs mid place → Names seg place
form_names seg _ _ _ absent = tt
form_names seg _ _ _ (register m t) = tt
form_names seg _ _ _ (based m ds t n h) = refl
form_names seg _ _ _ (indexed m s ds t l h) = refl

pub plain_memory_value : (f : Fields) (w : Width) (bs : List ℕ) (x : Operand) → is_plain x ≡ true → is_memory (operand_value f w bs x) ≡ true
plain_memory_value f w bs Absent h = cc
plain_memory_value f w bs E h = cc
plain_memory_value f w bs M h = cc
plain_memory_value f w bs R h = cc
plain_memory_value f w bs G h = cc
plain_memory_value f w bs S h = cc
plain_memory_value f w bs Low h = cc
plain_memory_value f w bs I h = cc
plain_memory_value f w bs Ib h = cc
plain_memory_value f w bs Iw h = cc
plain_memory_value f w bs SignedByte h = cc
plain_memory_value f w bs Jb h = cc
plain_memory_value f w bs J h = cc
plain_memory_value f w bs O h = refl
plain_memory_value f w bs A h = cc
plain_memory_value f w bs X h = refl
plain_memory_value f w bs Table h = refl
plain_memory_value f w bs Eax h = cc
plain_memory_value f w bs Cl h = cc
plain_memory_value f w bs Dx h = cc
plain_memory_value f w bs One h = cc
plain_memory_value f w bs Es h = cc
plain_memory_value f w bs Cs h = cc
plain_memory_value f w bs Ss h = cc
plain_memory_value f w bs Ds h = cc
plain_memory_value f w bs Fs h = cc
plain_memory_value f w bs Gs h = cc
plain_memory_value f w bs Cr0 h = cc
