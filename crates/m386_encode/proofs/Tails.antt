-- The bytes behind opcode and ModRM are those of the operand that has them.
use Rattle.std.proofs.Common.{◌≡◌, ℕ, zero, suc, ◌+◌, ◌<◌, List, [], ◌∷◌, ◌++◌, length, take, drop, get_or, refl, sym, ◌∙◌, ap, arith, subst}
use Rattle.std.specs.Prelude.{Option, Some, None, option_to_list}
use Rattle.std.proofs.lemmas.List.{take_all, take-append-drop, length-take, length-drop}
use Rattle.m386_base.specs.declared.number.Width.{Width}
use Rattle.m386_base.specs.declared.number.Width.TheVariants.{W8, W16, W32}
use Rattle.m386_opmap.specs.declared.fields.Fields.{Fields}
use Rattle.m386_opmap.specs.declared.op.Arg.{Arg}
use Rattle.m386_opmap.specs.declared.op.Arg.TheVariants.{Reg, Seg, Imm, Mem, Rel, Far}
use Rattle.m386_opmap.specs.declared.op.Arg.TheVariants as args
use Rattle.m386_opmap.specs.declared.row.Operand.{Operand}
use Rattle.m386_opmap.specs.declared.row.Operand.TheVariants.{Absent, E, M, R, G, S, Low, I, Ib, Iw, SignedByte, Jb, J, O, A, X, Table, Eax, Cl, Dx, One, Es, Cs, Ss, Ds, Fs, Gs, Cr0}
use Rattle.m386_opmap.specs.Forms.{width_bytes, number, extended}
use Rattle.m386_opmap.specs.Operands.{operand_value, operand_length}
use Rattle.m386_opmap.proofs.Numbers.{extended_whole}
use Rattle.m386_encode.specs.Candidates.{low_bytes, operand_bytes}
use Rattle.m386_encode.proofs.Values.{later_bytes, Bytes, lowest_number, lowest_signed}

pub bytes_front : (xs ys : List ℕ) → Bytes (xs ++ ys) → Bytes xs
bytes_front [] ys f k h = absurd (omega arith)
bytes_front (x ∷ xs) ys f zero h = f 0 (omega arith)
bytes_front (x ∷ xs) ys f (suc k) h = bytes_front xs ys (later_bytes x (xs ++ ys) f) k (omega arith)

pub bytes_back : (xs ys : List ℕ) → Bytes (xs ++ ys) → Bytes ys
bytes_back [] ys f = f
bytes_back (x ∷ xs) ys f = bytes_back xs ys (later_bytes x (xs ++ ys) f)

-- all the bytes of a number
pub lowest_all : (n : ℕ) (bs : List ℕ) → length bs ≡ n → Bytes bs → low_bytes n (number (take n bs)) ≡ bs
lowest_all n bs h f =
    let whole : take n bs ≡ bs = take_all n bs (omega (arith, h)) in
    let P : ℕ → Type 0 = λ m. low_bytes m (number bs) ≡ bs in
    rw whole (subst P h (lowest_number bs f))

pub signed_all : (w : Width) (bs : List ℕ) → length bs ≡ 1 → Bytes bs → low_bytes 1 (extended W8 w (number (take 1 bs))) ≡ bs
signed_all w [] h f = absurd (omega arith)
signed_all w (b ∷ []) h f = lowest_signed w b (f 0 (omega arith))
signed_all w (b ∷ c ∷ bs) h f = absurd (omega arith)

signed_two : (b c : ℕ) → b < 256 → c < 256 → low_bytes 2 (extended W16 W32 (number (b ∷ c ∷ []))) ≡ b ∷ c ∷ []
unfolding low_bytes number extended
signed_two b c h k = grind (arith)

signed_word : (bs : List ℕ) → length bs ≡ 2 → Bytes bs → low_bytes 2 (extended W16 W32 (number (take 2 bs))) ≡ bs
signed_word [] h f = absurd (omega arith)
signed_word (b ∷ []) h f = absurd (omega arith)
signed_word (b ∷ c ∷ []) h f = signed_two b c (f 0 (omega arith)) (f 1 (omega arith))
signed_word (b ∷ c ∷ d ∷ bs) h f = absurd (omega arith)

distance_all : (w : Width) (bs : List ℕ) → length bs ≡ width_bytes w → Bytes bs → low_bytes (width_bytes w) (extended w W32 (number (take (width_bytes w) bs))) ≡ bs
distance_all W8 bs h f = signed_all W32 bs h f
distance_all W16 bs h f = signed_word bs h f
distance_all W32 bs h f = rw (extended_whole (number (take 4 bs))) (lowest_all 4 bs h f)

far_all : (n : ℕ) (bs : List ℕ) → length bs ≡ n + 2 → Bytes bs → low_bytes n (number (take n bs)) ++ low_bytes 2 (number (take 2 (drop n bs))) ≡ bs
far_all n bs h f =
    let P : List ℕ → Type 0 = Bytes in
    let both : Bytes (take n bs ++ drop n bs) = subst P (sym (take-append-drop n bs)) f in
    let front : length (take n bs) ≡ n = simp length-take (omega arith) in
    let back : length (drop n bs) ≡ 2 = simp length-drop (omega arith) in
    let a : low_bytes n (number (take n (take n bs))) ≡ take n bs = lowest_all n (take n bs) front (bytes_front (take n bs) (drop n bs) both) in
    let twice : take n (take n bs) ≡ take n bs = take_all n (take n bs) (omega (arith, front)) in
    let b : low_bytes 2 (number (take 2 (drop n bs))) ≡ drop n bs = lowest_all 2 (drop n bs) back (bytes_back (take n bs) (drop n bs) both) in
    let c : low_bytes n (number (take n bs)) ≡ take n bs = sym (ap (λ x. low_bytes n (number x)) twice) ∙ a in
    rw (c, b) (take-append-drop n bs)

pub no_bytes : (v : Arg) → operand_bytes 0 v ≡ []
unfolding operand_bytes low_bytes
no_bytes (Reg n) = refl
no_bytes (Seg n) = refl
no_bytes args.Cr0 = refl
no_bytes (Imm n) = refl
no_bytes (Mem a) = refl
no_bytes (Rel n) = refl
no_bytes (Far s o) = refl

-- so many bytes of an operand are these
abbrev pub IsBytes : ℕ → Option Arg → List ℕ → Type 0
IsBytes n None bs = Unit {0}
IsBytes n (Some v) bs = operand_bytes n v ≡ bs

nothing : (o : Option Arg) (bs : List ℕ) → length bs ≡ 0 → IsBytes 0 o bs
nothing None bs h = tt
nothing (Some v) [] h = no_bytes v
nothing (Some v) (b ∷ bs) h = absurd (omega arith)

far_bytes : (w : Width) (bs : List ℕ) → length bs ≡ width_bytes w + 2 → Bytes bs → IsBytes (width_bytes w + 2) (Some (Far (number (take 2 (drop (width_bytes w) bs))) (number (take (width_bytes w) bs)))) bs
unfolding operand_bytes
far_bytes W8 bs h f = far_all 1 bs h f
far_bytes W16 bs h f = far_all 2 bs h f
far_bytes W32 bs h f = far_all 4 bs h f

-- the bytes behind opcode and ModRM, where one operand has them all
pub tail_same : (f : Fields) (w : Width) (bs : List ℕ) (x : Operand) → length bs ≡ operand_length w x → Bytes bs → IsBytes (operand_length w x) (operand_value f w bs x) bs
unfolding operand_bytes
tail_same f w bs Absent h b = nothing (operand_value f w bs Absent) bs h
tail_same f w bs E h b = nothing (operand_value f w bs E) bs h
tail_same f w bs M h b = nothing (operand_value f w bs M) bs h
tail_same f w bs R h b = nothing (operand_value f w bs R) bs h
tail_same f w bs G h b = nothing (operand_value f w bs G) bs h
tail_same f w bs S h b = nothing (operand_value f w bs S) bs h
tail_same f w bs Low h b = nothing (operand_value f w bs Low) bs h
tail_same f w bs I h b = lowest_all (width_bytes w) bs h b
tail_same f w bs Ib h b = lowest_all 1 bs h b
tail_same f w bs Iw h b = lowest_all 2 bs h b
tail_same f w bs SignedByte h b = signed_all w bs h b
tail_same f w bs Jb h b = signed_all W32 bs h b
tail_same f w bs J h b = distance_all w bs h b
tail_same f w bs O h b = lowest_all 4 bs h b
tail_same f w bs A h b = far_bytes w bs h b
tail_same f w bs X h b = nothing (operand_value f w bs X) bs h
tail_same f w bs Table h b = nothing (operand_value f w bs Table) bs h
tail_same f w bs Eax h b = nothing (operand_value f w bs Eax) bs h
tail_same f w bs Cl h b = nothing (operand_value f w bs Cl) bs h
tail_same f w bs Dx h b = nothing (operand_value f w bs Dx) bs h
tail_same f w bs One h b = nothing (operand_value f w bs One) bs h
tail_same f w bs Es h b = nothing (operand_value f w bs Es) bs h
tail_same f w bs Cs h b = nothing (operand_value f w bs Cs) bs h
tail_same f w bs Ss h b = nothing (operand_value f w bs Ss) bs h
tail_same f w bs Ds h b = nothing (operand_value f w bs Ds) bs h
tail_same f w bs Fs h b = nothing (operand_value f w bs Fs) bs h
tail_same f w bs Gs h b = nothing (operand_value f w bs Gs) bs h
tail_same f w bs Cr0 h b = nothing (operand_value f w bs Cr0) bs h

-- three operands, as far as they are there
abbrev pub items : Option Arg → Option Arg → Option Arg → List Arg
items a b c = option_to_list a ++ option_to_list b ++ option_to_list c

pub item_first : (a b c : Option Arg) (x : Arg) → a ≡ Some x → get_or (items a b c) 0 args.Cr0 ≡ x
item_first None b c x e = cc
item_first (Some y) b c x e = cc

pub item_second : (a b c : Option Arg) (x y : Arg) → a ≡ Some x → b ≡ Some y → get_or (items a b c) 1 args.Cr0 ≡ y
item_second None b c x y e f = cc
item_second (Some z) None c x y e f = cc
item_second (Some z) (Some u) c x y e f = cc

pub item_third : (a b c : Option Arg) (x y z : Arg) → a ≡ Some x → b ≡ Some y → c ≡ Some z → get_or (items a b c) 2 args.Cr0 ≡ z
item_third None b c x y z e f g = cc
item_third (Some t) None c x y z e f g = cc
item_third (Some t) (Some u) None x y z e f g = cc
item_third (Some t) (Some u) (Some v) x y z e f g = cc
