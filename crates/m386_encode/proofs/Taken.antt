-- What a candidate takes from the operands of an operation, by a row that spells it.
use Rattle.std.proofs.Common.{◌≡◌, ℕ, ◌+◌, ◌/◌, ◌%◌, ◌<◌, inl, inr, Bool, true, false, cond, List, [], ◌∷◌, length, get_or, refl, sym, ◌∙◌, ap, arith, subst, ◌&&◌, ◌||◌, not}
use Rattle.std.specs.Prelude.{Option, Some, None, ◌==◌, is_some, if◌then◌else◌}
use Rattle.std.proofs.lemmas.Bool.{cases_Bool, and_parts, eqb-true, not-true}
use Rattle.m386_base.specs.declared.number.Width.{Width}
use Rattle.m386_opmap.specs.declared.fields.Fields.{Fields}
use Rattle.m386_opmap.specs.declared.op.Arg.{Arg}
use Rattle.m386_opmap.specs.declared.op.Arg.TheVariants.{Reg, Seg, Imm, Mem, Rel, Far}
use Rattle.m386_opmap.specs.declared.op.Arg.TheVariants as args
use Rattle.m386_opmap.specs.declared.row.Operand.{Operand}
use Rattle.m386_opmap.specs.declared.row.Operand.TheVariants.{Absent, E, M, R, G, S, Low, I, Ib, Iw, SignedByte, Jb, J, O, A, X, Table, Eax, Cl, Dx, One, Es, Cs, Ss, Ds, Fs, Gs, Cr0}
use Rattle.m386_opmap.specs.declared.row.Row.{Row}
use Rattle.m386_opmap.specs.Operands.{operand_value, operand_length, has_modrm}
use Rattle.m386_encode.specs.Candidates.{register, is_middle, is_low, is_place, opcode, middle_of, place_bytes, form_bytes, operand_bytes, tail_bytes}
use Rattle.m386_encode.proofs.Values.{is_plain, Bytes}
use Rattle.m386_encode.proofs.Tails.{items, item_first, item_second, item_third, IsBytes, tail_same, no_bytes}
use Rattle.m386_encode.proofs.RowParts.{is_absent, is_tail, is_placed, has_one_tail, Present, present_operand, middle_said, low_said, place_said}

-- what is there is an operand
not_absent : (t : Operand → Bool) → t Absent ≡ false → (x : Operand) → t x ≡ true → is_absent x ≡ false
not_absent t e Absent h = cc
not_absent t e E h = refl
not_absent t e M h = refl
not_absent t e R h = refl
not_absent t e G h = refl
not_absent t e S h = refl
not_absent t e Low h = refl
not_absent t e I h = refl
not_absent t e Ib h = refl
not_absent t e Iw h = refl
not_absent t e SignedByte h = refl
not_absent t e Jb h = refl
not_absent t e J h = refl
not_absent t e O h = refl
not_absent t e A h = refl
not_absent t e X h = refl
not_absent t e Table h = refl
not_absent t e Eax h = refl
not_absent t e Cl h = refl
not_absent t e Dx h = refl
not_absent t e One h = refl
not_absent t e Es h = refl
not_absent t e Cs h = refl
not_absent t e Ss h = refl
not_absent t e Ds h = refl
not_absent t e Fs h = refl
not_absent t e Gs h = refl
not_absent t e Cr0 h = refl

no_tail : (w : Width) (x : Operand) → is_tail x ≡ false → operand_length w x ≡ 0
no_tail w Absent h = refl
no_tail w E h = refl
no_tail w M h = refl
no_tail w R h = refl
no_tail w G h = refl
no_tail w S h = refl
no_tail w Low h = refl
no_tail w I h = cc
no_tail w Ib h = cc
no_tail w Iw h = cc
no_tail w SignedByte h = cc
no_tail w Jb h = cc
no_tail w J h = cc
no_tail w O h = cc
no_tail w A h = cc
no_tail w X h = refl
no_tail w Table h = refl
no_tail w Eax h = refl
no_tail w Cl h = refl
no_tail w Dx h = refl
no_tail w One h = refl
no_tail w Es h = refl
no_tail w Cs h = refl
no_tail w Ss h = refl
no_tail w Ds h = refl
no_tail w Fs h = refl
no_tail w Gs h = refl
no_tail w Cr0 h = refl

before : (a b : Bool) → not a || b ≡ true → b ≡ false → a ≡ false
before true true h e = cc
before true false h e = cc
before false b h e = refl

holds_first : (h p q : Bool) → cond h (p || q) (not (p || q)) ≡ true → p ≡ true → h ≡ true
holds_first true p q e f = refl
holds_first false true q e f = cc
holds_first false false q e f = cc

holds_second : (h p q : Bool) → cond h (p || q) (not (p || q)) ≡ true → q ≡ true → h ≡ true
holds_second true p q e f = refl
holds_second false true true e f = cc
holds_second false true false e f = cc
holds_second false false true e f = cc
holds_second false false false e f = cc

pub some_place : (o : Option Arg) → is_some o ≡ true → Present o
some_place None h = cc
some_place (Some p) h = (p, refl)

pub pick : {X : Type 0} (p q : Bool) (x y z m : X) → (p ≡ true → x ≡ m) → (q ≡ true → y ≡ m) → p || q ≡ true → cond p x (cond q y z) ≡ m
pick true q x y z m f g h = f refl
pick false true x y z m f g h = g refl
pick false false x y z m f g h = cc

pub pick_none : {X : Type 0} (p q : Bool) (x y z : X) → p || q ≡ false → cond p x (cond q y z) ≡ z
pick_none true q x y z h = cc
pick_none false true x y z h = cc
pick_none false false x y z h = refl

pick_tail : {X : Type 0} (p q : Bool) (x y z m : X) → (p ≡ true → q ≡ true → x ≡ m) → (p ≡ true → q ≡ false → y ≡ m) → (p ≡ false → z ≡ m) → cond p (cond q x y) z ≡ m
pick_tail true true x y z m f g h = f refl refl
pick_tail true false x y z m f g h = g refl refl
pick_tail false q x y z m f g h = h refl

either : (a b c : Bool) → (not a || not (b || c)) && (not b || not c) ≡ true → a ≡ true → (b ≡ false) × (c ≡ false)
either true true c h e = cc
either true false true h e = cc
either true false false h e = (refl, refl)
either false b c h e = cc

either_second : (a b c : Bool) → (not a || not (b || c)) && (not b || not c) ≡ true → b ≡ true → c ≡ false
either_second a b false h e = refl
either_second true true true h e = cc
either_second false true true h e = cc
either_second a false true h e = cc

has_tail : (w : Width) (x : Operand) → (operand_length w x == 0) ≡ false → is_tail x ≡ true
has_tail w x h = elim (cases_Bool (is_tail x)) [ inl e ↦ e | inr e ↦ (let z : (operand_length w x == 0) ≡ true = rw (no_tail w x e) refl in cc) ]

empty : (bs : List ℕ) → length bs ≡ 0 → bs ≡ []
empty [] h = refl
empty (b ∷ bs) h = absurd (omega arith)

module _ (f : Fields) (w : Width) (bs : List ℕ) (r : Row) (sh : is_placed r ≡ true) (wanted : has_modrm r ≡ is_some f.place) where
  abbrev pub its : List Arg
  its = items (operand_value f w bs r.first) (operand_value f w bs r.second) (operand_value f w bs r.third)

  abbrev TA : Bool
  TA = not (is_absent r.first) || is_absent r.second

  abbrev TB : Bool
  TB = not (is_absent r.second) || is_absent r.third

  abbrev TC : Bool
  TC = not (is_place r.third) && not (is_middle r.third) && not (is_low r.third) && not (is_plain r.third)

  abbrev TD : Bool
  TD = if has_modrm r then is_place r.first || is_place r.second else not (is_place r.first || is_place r.second)

  last : TD ≡ true
  last = (and_parts ((TA && TB) && TC) TD sh).1

  third : TC ≡ true
  third = (and_parts (TA && TB) TC (and_parts ((TA && TB) && TC) TD sh).0).1

  there_first : is_place r.first ≡ true → Present f.place
  there_first h = some_place f.place (sym wanted ∙ holds_first (has_modrm r) (is_place r.first) (is_place r.second) last h)

  there_second : is_place r.second ≡ true → Present f.place
  there_second h = some_place f.place (sym wanted ∙ holds_second (has_modrm r) (is_place r.first) (is_place r.second) last h)

  value_first : is_absent r.first ≡ false → Present (operand_value f w bs r.first)
  value_first h = present_operand f w bs r.first h there_first

  value_second : is_absent r.second ≡ false → Present (operand_value f w bs r.second)
  value_second h = present_operand f w bs r.second h there_second

  at_first : (v : Arg) → operand_value f w bs r.first ≡ Some v → get_or its 0 args.Cr0 ≡ v
  at_first v e = item_first _ _ _ v e

  at_second : is_absent r.first ≡ false → (v : Arg) → operand_value f w bs r.second ≡ Some v → get_or its 1 args.Cr0 ≡ v
  at_second h v e = let u = value_first h in item_second _ _ _ u.0 v u.1 e

  order : is_absent r.second ≡ false → is_absent r.first ≡ false
  order h = before (is_absent r.first) (is_absent r.second) (and_parts TA TB (and_parts (TA && TB) TC (and_parts ((TA && TB) && TC) TD sh).0).0).0 h

  order_third : is_absent r.third ≡ false → is_absent r.second ≡ false
  order_third h = before (is_absent r.second) (is_absent r.third) (and_parts TA TB (and_parts (TA && TB) TC (and_parts ((TA && TB) && TC) TD sh).0).0).1 h

  -- the middle bits, where an operand has them
  pub middle_taken : f.middle < 8 → is_middle r.first || is_middle r.second ≡ true → middle_of r its ≡ f.middle
  unfolding middle_of
  middle_taken k h =
      pick (is_middle r.first) (is_middle r.second) _ _ _ f.middle
      (λ e. let v = value_first (not_absent is_middle refl r.first e) in ap register (at_first v.0 v.1) ∙ middle_said f w bs r.first v.0 e k v.1)
      (λ e. let n = not_absent is_middle refl r.second e in let v = value_second n in ap register (at_second (order n) v.0 v.1) ∙ middle_said f w bs r.second v.0 e k v.1)
      h

  pub middle_free : is_middle r.first || is_middle r.second ≡ false → middle_of r its ≡ r.low % 8
  unfolding middle_of
  middle_free h = pick_none (is_middle r.first) (is_middle r.second) _ _ _ h

  -- the opcode, where an operand has its low bits
  pub opcode_taken : r.low / 64 ≡ f.opcode / 8 → is_low r.first || is_low r.second ≡ true → opcode r its ≡ f.opcode
  unfolding opcode
  opcode_taken k h =
      pick (is_low r.first) (is_low r.second) _ _ _ f.opcode
      (λ e. let v = value_first (not_absent is_low refl r.first e) in
      let s : register (get_or its 0 args.Cr0) ≡ f.opcode % 8 = ap register (at_first v.0 v.1) ∙ low_said f w bs r.first v.0 e v.1 in omega (arith, s, k))
      (λ e. let n = not_absent is_low refl r.second e in let v = value_second n in
      let s : register (get_or its 1 args.Cr0) ≡ f.opcode % 8 = ap register (at_second (order n) v.0 v.1) ∙ low_said f w bs r.second v.0 e v.1 in omega (arith, s, k))
      h

  pub opcode_free : is_low r.first || is_low r.second ≡ false → opcode r its ≡ r.low / 8
  unfolding opcode
  opcode_free h = pick_none (is_low r.first) (is_low r.second) _ _ _ h

  pub place_stands : has_modrm r ≡ true → is_place r.first || is_place r.second ≡ true
  place_stands h = sym (ap (λ b. cond b (is_place r.first || is_place r.second) (not (is_place r.first || is_place r.second))) h) ∙ last

  place_lacks : has_modrm r ≡ false → is_place r.first || is_place r.second ≡ false
  place_lacks h = not-true (is_place r.first || is_place r.second) (sym (ap (λ b. cond b (is_place r.first || is_place r.second) (not (is_place r.first || is_place r.second))) h) ∙ last)

  -- the bytes of what the ModRM byte names
  pub form_taken : (mode : ℕ) (p : Arg) → f.place ≡ Some p → has_modrm r ≡ true → form_bytes r mode its ≡ place_bytes (middle_of r its) mode p
  unfolding form_bytes
  form_taken mode p is h =
      pick (is_place r.first) (is_place r.second) _ _ _ (place_bytes (middle_of r its) mode p)
      (λ e. ap (λ x. place_bytes (middle_of r its) mode x) (at_first p (place_said f w bs r.first e ∙ is)))
      (λ e. let n = not_absent is_place refl r.second e in ap (λ x. place_bytes (middle_of r its) mode x) (at_second (order n) p (place_said f w bs r.second e ∙ is)))
      (place_stands h)

  pub form_free : (mode : ℕ) → has_modrm r ≡ false → form_bytes r mode its ≡ []
  unfolding form_bytes
  form_free mode h = pick_none (is_place r.first) (is_place r.second) _ _ _ (place_lacks h)

  value_third : is_absent r.third ≡ false → Present (operand_value f w bs r.third)
  value_third h = present_operand f w bs r.third h (λ e. let n : not (is_place r.third) ≡ true = (and_parts _ _ (and_parts _ _ (and_parts _ _ third).0).0).0 in cc)

  tail_by : (x : Operand) (v : Arg) → length bs ≡ operand_length w x → Bytes bs → operand_value f w bs x ≡ Some v → operand_bytes (operand_length w x) v ≡ bs
  tail_by x v h b e = let P : Option Arg → Type 0 = λ o. IsBytes (operand_length w x) o bs in subst P e (tail_same f w bs x h b)

  tail_nothing : (v : Arg) → length bs ≡ 0 → operand_bytes 0 v ≡ bs
  tail_nothing v h = no_bytes v ∙ sym (empty bs h)

  -- the bytes behind opcode and ModRM
  pub tail_taken : has_one_tail r ≡ true → length bs ≡ operand_length w r.first + operand_length w r.second + operand_length w r.third → Bytes bs → tail_bytes r w its ≡ bs
  unfolding tail_bytes
  tail_taken single h b =
      pick_tail (operand_length w r.first == 0) (operand_length w r.second == 0) _ _ _ bs
      (λ p q. let z : operand_length w r.first ≡ 0 = eqb-true _ 0 p in let y : operand_length w r.second ≡ 0 = eqb-true _ 0 q in
      elim (cases_Bool (is_tail r.third)) [
        | inl t ↦ (let n = not_absent is_tail refl r.third t in let v = value_third n in let u = value_second (order_third n) in let x = value_first (order (order_third n)) in
            ap (λ i. operand_bytes (operand_length w r.third) i) (item_third _ _ _ x.0 u.0 v.0 x.1 u.1 v.1) ∙ tail_by r.third v.0 (omega (arith, h, z, y)) b v.1)
        | inr t ↦ (let e : operand_length w r.third ≡ 0 = no_tail w r.third t in ap (λ n. operand_bytes n (get_or its 2 args.Cr0)) e ∙ tail_nothing (get_or its 2 args.Cr0) (omega (arith, h, z, y, e)))
      ])
      (λ p q. let z : operand_length w r.first ≡ 0 = eqb-true _ 0 p in
      let t = has_tail w r.second q in let e : operand_length w r.third ≡ 0 = no_tail w r.third (either_second (is_tail r.first) (is_tail r.second) (is_tail r.third) single t) in
      let n = not_absent is_tail refl r.second t in let v = value_second n in
      ap (λ i. operand_bytes (operand_length w r.second) i) (at_second (order n) v.0 v.1) ∙ tail_by r.second v.0 (omega (arith, h, z, e)) b v.1)
      (λ p. let t = has_tail w r.first p in let o = either (is_tail r.first) (is_tail r.second) (is_tail r.third) single t in
      let y : operand_length w r.second ≡ 0 = no_tail w r.second o.0 in let e : operand_length w r.third ≡ 0 = no_tail w r.third o.1 in
      let v = value_first (not_absent is_tail refl r.first t) in
      ap (λ i. operand_bytes (operand_length w r.first) i) (at_first v.0 v.1) ∙ tail_by r.first v.0 (omega (arith, h, y, e)) b v.1)

  -- what is made of the operand that the ModRM byte names
  pub place_taken : {X : Type 0} (of : Arg → X) (none : X) (p : Arg) → f.place ≡ Some p → has_modrm r ≡ true →
      cond (is_place r.first) (of (get_or its 0 args.Cr0)) (cond (is_place r.second) (of (get_or its 1 args.Cr0)) none) ≡ of p
  place_taken of none p is h =
      pick (is_place r.first) (is_place r.second) _ _ _ (of p)
      (λ e. ap of (at_first p (place_said f w bs r.first e ∙ is)))
      (λ e. let n = not_absent is_place refl r.second e in ap of (at_second (order n) p (place_said f w bs r.second e ∙ is)))
      (place_stands h)
