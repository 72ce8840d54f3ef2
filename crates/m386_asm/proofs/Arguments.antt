-- What stands at an operand of a row holds numbers that the operand has.
use Rattle.std.proofs.Common.{◌≡◌, ℕ, ◌^◌, ◌<◌, Bool, true, false, cond, List, [], ◌∷◌, ◌++◌, take, refl, sym, ◌∙◌, ap, arith, subst, ◌||◌}
use Rattle.std.specs.Prelude.{Option, Some, None, ◌==◌, ℤ, pos, negsuc}
use Rattle.std.specs.List.{All}
use Rattle.std.proofs.lemmas.List.Elements.{All-nil, All-cons, All-head, All-tail}
use Rattle.std.proofs.lemmas.Nat.{mod_below, pow_pos}
use Rattle.m386_base.specs.declared.number.Width.{Width}
use Rattle.m386_base.specs.declared.number.Width.TheVariants.{W8, W16, W32}
use Rattle.m386_opmap.specs.declared.fields.Fields.{Fields}
use Rattle.m386_opmap.specs.declared.op.Arg.{Arg}
use Rattle.m386_opmap.specs.declared.op.Arg.TheVariants as args
use Rattle.m386_opmap.specs.declared.row.Operand.{Operand}
use Rattle.m386_opmap.specs.declared.row.Operand.TheVariants.{E, M, R, G, S, Low, I, Ib, Iw, Jb, J, A, X, Table, Eax, Cl, Dx, Es, Cs, Ss, Ds, Fs, Gs, Cr0}
use Rattle.m386_opmap.specs.declared.row.Row.{Row}
use Rattle.m386_opmap.specs.Forms.{width_bits, width_bytes, number, extended}
use Rattle.m386_opmap.specs.Operands.{plain_memory}
use Rattle.m386_opmap.specs.Prefix.{no_prefixes}
use Rattle.m386_opmap.proofs.Numbers.{extended_whole}
use Rattle.m386_encode.specs.Candidates.{low_bytes}
use Rattle.m386_encode.proofs.AlikeRows.{IsAmong, kind_of, may_be}
use Rattle.m386_encode.proofs.AlikeTails.{Draws, IsSmall, sort}
use Rattle.m386_encode.proofs.InFull.{number_again}
use Rattle.m386_encode.proofs.Octets.{bytes_append, lowest_are, lowest_size}
use Rattle.m386_lines.specs.declared.matching.Slot.{Slot}
use Rattle.m386_lines.specs.declared.matching.Slot.TheVariants as slots
use Rattle.m386_lines.specs.Instructions.{Argument, Fixed, Immediate, Target, Far, At, argument, matched, with_argument, slot_of}
use Rattle.m386_words.specs.declared.name.SizeWord.{SizeWord}
use Rattle.m386_words.specs.Expressions.{Expression}
use Rattle.m386_words.specs.Operands.{Place, Written, General, Segment, Control, Number, Pointer, Memory}
use Rattle.m386_asm.specs.Layout.{Names, value, wrapped, field_value, arg_at, is_target}

-- a distance of a byte
abbrev pub is_near : Operand → Bool
is_near Jb = true
is_near _ = false

-- an operand whose numbers have 32 bits where it is 32 bits wide
abbrev pub is_wide : Operand → Bool
is_wide J = true
is_wide A = true
is_wide _ = false

-- What is known of what stands at an operand of so many bits, by any names and from any place on.
pub record StandsAt (w : Width) (q : Operand) (a : Argument) : Type 0 where
  pub kind : (ns : Names) (end : ℕ) → (sort (arg_at ns end a) == 0) || (may_be q == sort (arg_at ns end a)) ≡ true
  pub small : (ns : Names) (end : ℕ) → IsSmall (Some (arg_at ns end a))
  pub near : is_near q ≡ true → is_target a ≡ true
  pub draws : (ns : Names) (end : ℕ) → is_near q ≡ false → (is_wide q ≡ true → w ≡ W32) → 0 < kind_of q → Draws w q (Some (arg_at ns end a))

-- ---- numbers

wrapped_small : (w : ℕ) (v : ℤ) → wrapped w v < 2 ^ w
wrapped_small w (pos n) = mod_below n (2 ^ w) (pow_pos w)
wrapped_small w (negsuc n) = omega (arith, pow_pos w)

-- fields without prefixes
abbrev bare : Fields
bare = record { prefixes = no_prefixes; opcode = 0; middle = 0; place = None }

draws_immediate : (w : Width) (n : ℕ) → n < 2 ^ width_bits w → Draws w I (Some (args.Imm n))
draws_immediate w n h = record { fields = bare; tail = low_bytes (width_bytes w) n; are = lowest_are (width_bytes w) n; size = λ t. lowest_size (width_bytes w) n; value = ap (λ m. Some (args.Imm m)) (number_again w n h) }

draws_byte : (w : Width) (n : ℕ) → n < 2 ^ 8 → Draws w Ib (Some (args.Imm n))
draws_byte w n h = record { fields = bare; tail = low_bytes 1 n; are = lowest_are 1 n; size = λ t. lowest_size 1 n; value = ap (λ m. Some (args.Imm m)) (number_again W8 n h) }

draws_word : (w : Width) (n : ℕ) → n < 2 ^ 16 → Draws w Iw (Some (args.Imm n))
draws_word w n h = record { fields = bare; tail = low_bytes 2 n; are = lowest_are 2 n; size = λ t. lowest_size 2 n; value = ap (λ m. Some (args.Imm m)) (number_again W16 n h) }

draws_distance : (n : ℕ) → n < 2 ^ 32 → Draws W32 J (Some (args.Rel n))
draws_distance n h = record { fields = bare; tail = low_bytes 4 n; are = lowest_are 4 n; size = λ t. lowest_size 4 n; value = ap (λ m. Some (args.Rel m)) (ap (extended W32 W32) (number_again W32 n h) ∙ extended_whole n) }

draws_pointer : (s o : ℕ) → s < 2 ^ 16 → o < 2 ^ 32 → Draws W32 A (Some (args.Far s o))
unfolding low_bytes
draws_pointer s o h k =
    let os : List ℕ = low_bytes 4 o in
    let ss : List ℕ = low_bytes 2 s in
    let offset : number (take 4 os) ≡ o = number_again W32 o k in
    let selector : number (take 2 ss) ≡ s = number_again W16 s h in
    record { fields = bare; tail = os ++ ss; are = bytes_append os ss (lowest_are 4 o) (lowest_are 2 s); size = λ t. refl; value = ap (λ m. Some (args.Far m (number (take 4 os)))) selector ∙ ap (λ m. Some (args.Far s m)) offset }

-- ---- what is written at an operand

-- a register, or another operand without a number
fixed : (w : Width) (q : Operand) (x : Arg) (a : Argument) → kind_of q ≡ 0 → is_near q ≡ false → sort x ≡ 0 → IsSmall (Some x) → Fixed x ≡ a → StandsAt w q a
fixed w q x a none apart plain small e =
    let P : Argument → Type 0 = StandsAt w q in
    subst P e (record { kind = λ ns end. rw plain refl; small = λ ns end. small; near = λ t. cc; draws = λ ns end n t more. absurd (omega (arith, none, more)) })

memory_at : (w : Width) (q : Operand) (p : Place) (a : Argument) → may_be q ≡ 4 → kind_of q ≡ 0 → is_near q ≡ false → At p ≡ a → StandsAt w q a
memory_at w q p a may none apart e =
    let P : Argument → Type 0 = StandsAt w q in
    subst P e (record { kind = λ ns end. rw may refl; small = λ ns end. wrapped_small 32 (value ns p.offset); near = λ t. cc; draws = λ ns end n t more. absurd (omega (arith, none, more)) })

immediate : (w : Width) (q : Operand) (bits : ℕ) (n : Expression) (a : Argument) → may_be q ≡ 1 → is_near q ≡ false → ((v : ℕ) → v < 2 ^ bits → Draws w q (Some (args.Imm v))) → Immediate bits n ≡ a → StandsAt w q a
immediate w q bits n a may apart draws e =
    let P : Argument → Type 0 = StandsAt w q in
    subst P e (record { kind = λ ns end. rw may refl; small = λ ns end. tt; near = λ t. cc; draws = λ ns end m t more. draws (field_value ns bits n) (wrapped_small bits (value ns n)) })

near_target : (w : Width) (n : Expression) (a : Argument) → Target n ≡ a → StandsAt w Jb a
near_target w n a e =
    let P : Argument → Type 0 = StandsAt w Jb in
    subst P e (record { kind = λ ns end. refl; small = λ ns end. tt; near = λ t. refl; draws = λ ns end m t more. cc })

whole_target : (w : Width) (n : Expression) (a : Argument) → Target n ≡ a → StandsAt w J a
whole_target w n a e =
    let P : Argument → Type 0 = StandsAt w J in
    let D : Arg → Width → Type 0 = λ x v. Draws v J (Some x) in
    subst P e (record { kind = λ ns end. refl; small = λ ns end. tt; near = λ t. refl; draws = λ ns end m t more. (let W : Width → Type 0 = D (arg_at ns end (Target n)) in subst W (sym (t refl)) (draws_distance _ (wrapped_small 32 _))) })

far_pointer : (w : Width) (s o : Expression) (a : Argument) → Far s o ≡ a → StandsAt w A a
far_pointer w s o a e =
    let P : Argument → Type 0 = StandsAt w A in
    let D : Arg → Width → Type 0 = λ x v. Draws v A (Some x) in
    subst P e (record { kind = λ ns end. refl; small = λ ns end. tt; near = λ t. cc; draws = λ ns end m t more. (let W : Width → Type 0 = D (arg_at ns end (Far s o)) in subst W (sym (t refl)) (draws_pointer _ _ (wrapped_small 16 _) (wrapped_small 32 _))) })

given : (c : Bool) (x a : Argument) → cond c (Some x) None ≡ Some a → x ≡ a
given true x a e = cc
given false x a e = cc

-- what is written at an operand stands there
written_at : (r : Row) (w : Width) (size : Option SizeWord) (q : Operand) (o : Written) (a : Argument) → argument r w size q o ≡ Some a → StandsAt w q a
unfolding argument
written_at r w size E (General v n) a e = fixed w E (args.Reg n) a refl refl refl tt (given _ _ a e)
written_at r w size E (Memory s p) a e = memory_at w E p a refl refl refl (given _ _ a e)
written_at r w size M (Memory s p) a e = memory_at w M p a refl refl refl (given _ _ a e)
written_at r w size R (General v n) a e = fixed w R (args.Reg n) a refl refl refl tt (given _ _ a e)
written_at r w size G (General v n) a e = fixed w G (args.Reg n) a refl refl refl tt (given _ _ a e)
written_at r w size Low (General v n) a e = fixed w Low (args.Reg n) a refl refl refl tt (given _ _ a e)
written_at r w size Eax (General v n) a e = fixed w Eax (args.Reg n) a refl refl refl tt (given _ _ a e)
written_at r w size Cl (General v n) a e = fixed w Cl (args.Reg n) a refl refl refl tt (given _ _ a e)
written_at r w size Dx (General v n) a e = fixed w Dx (args.Reg n) a refl refl refl tt (given _ _ a e)
written_at r w size S (Segment s) a e = fixed w S (args.Seg s) a refl refl refl tt (given _ _ a e)
written_at r w size Es (Segment s) a e = fixed w Es (args.Seg s) a refl refl refl tt (given _ _ a e)
written_at r w size Cs (Segment s) a e = fixed w Cs (args.Seg s) a refl refl refl tt (given _ _ a e)
written_at r w size Ss (Segment s) a e = fixed w Ss (args.Seg s) a refl refl refl tt (given _ _ a e)
written_at r w size Ds (Segment s) a e = fixed w Ds (args.Seg s) a refl refl refl tt (given _ _ a e)
written_at r w size Fs (Segment s) a e = fixed w Fs (args.Seg s) a refl refl refl tt (given _ _ a e)
written_at r w size Gs (Segment s) a e = fixed w Gs (args.Seg s) a refl refl refl tt (given _ _ a e)
written_at r w size Cr0 Control a e = fixed w Cr0 args.Cr0 a refl refl refl tt cc
written_at r w size I (Number n) a e = immediate w I (width_bits w) n a refl refl (draws_immediate w) cc
written_at r w size Ib (Number n) a e = immediate w Ib 8 n a refl refl (draws_byte w) cc
written_at r w size Iw (Number n) a e = immediate w Iw 16 n a refl refl (draws_word w) cc
written_at r w size Jb (Number n) a e = near_target w n a cc
written_at r w size J (Number n) a e = whole_target w n a cc
written_at r w size A (Pointer s o) a e = far_pointer w s o a cc
written_at r w size q o a e = cc

-- memory that an operation reads by a register of its own
memory_of : (b : ℕ) (q : Operand) (w : Width) → is_near q ≡ false → may_be q ≡ 4 → Draws w q (Some (plain_memory None (Some b) 0)) → StandsAt w q (Fixed (plain_memory None (Some b) 0))
memory_of b q w apart may draws = record { kind = λ ns end. rw may refl; small = λ ns end. omega arith; near = λ t. cc; draws = λ ns end n t more. draws }

read_at : (w : Width) (q : Operand) (b : ℕ) → slot_of q ≡ slots.Read b → StandsAt w q (Fixed (plain_memory None (Some b) 0))
read_at w X b e = (let same : 6 ≡ b = cc in let P : ℕ → Type 0 = λ n. StandsAt w X (Fixed (plain_memory None (Some n) 0)) in subst P same (memory_of 6 X w refl refl (record { fields = bare; tail = []; are = λ k h. absurd (omega (arith, h)); size = λ t. cc; value = refl })))
read_at w Table b e = (let same : 3 ≡ b = cc in let P : ℕ → Type 0 = λ n. StandsAt w Table (Fixed (plain_memory None (Some n) 0)) in subst P same (memory_of 3 Table w refl refl (record { fields = bare; tail = []; are = λ k h. absurd (omega (arith, h)); size = λ t. cc; value = refl })))
read_at w q b e = cc

-- ---- all operands of a row

-- what stands at an operand of a row
pub record Comes (r : Row) (w : Width) (a : Argument) : Type 0 where
  pub operand : Operand
  pub among : IsAmong r operand
  pub stands : StandsAt w operand a

record Pushed (a : Option Argument) (rest : Option (List Argument)) (xs : List Argument) : Type 0 where
  pub first : Argument
  pub later : List Argument
  pub is : a ≡ Some first
  pub are : rest ≡ Some later
  pub all : first ∷ later ≡ xs

pushed : (a : Option Argument) (rest : Option (List Argument)) (xs : List Argument) → with_argument a rest ≡ Some xs → Pushed a rest xs
pushed None rest xs e = cc
pushed (Some a) None xs e = cc
pushed (Some a) (Some later) xs e = record { first = a; later = later; is = refl; are = refl; all = cc }

module _ (r t : Row) (w : Width) (size : Operand → Option SizeWord) where
  abbrev AllCome : List Argument → Type 0
  AllCome = All (Comes t w)

  come_next : (p : Operand) (a : Option Argument) (rest : Option (List Argument)) (xs : List Argument) → IsAmong t p → ((x : Argument) → a ≡ Some x → StandsAt w p x) → ((ys : List Argument) → rest ≡ Some ys → AllCome ys) →
      with_argument a rest ≡ Some xs → AllCome xs
  come_next p a rest xs among stands more e =
      let q = pushed a rest xs e in
      let x : Comes t w q.first = record { operand = p; among = among; stands = stands q.first q.is } in
      subst AllCome q.all (All-cons (Comes t w) q.first q.later x (more q.later q.are))

  come_taken : (p : Operand) (ps : List Operand) (os : List Written) (xs : List Argument) → IsAmong t p → ((us : List Written) (ys : List Argument) → matched r w size ps us ≡ Some ys → AllCome ys) →
      elim os [ [] ↦ None | o ∷ more ↦ with_argument (argument r w (size p) p o) (matched r w size ps more) ] ≡ Some xs → AllCome xs
  come_taken p ps [] xs among more e = cc
  come_taken p ps (o ∷ os) xs among more e = come_next p (argument r w (size p) p o) (matched r w size ps os) xs among (written_at r w (size p) p o) (more os) e

  come_by : (p : Operand) (ps : List Operand) (os : List Written) (xs : List Argument) (s : Slot) → slot_of p ≡ s → IsAmong t p → ((us : List Written) (ys : List Argument) → matched r w size ps us ≡ Some ys → AllCome ys) →
      elim s [
        | slots.Left ↦ matched r w size ps os
        | slots.Read b ↦ with_argument (Some (Fixed (plain_memory None (Some b) 0))) (matched r w size ps os)
        | slots.Taken ↦ elim os [ [] ↦ None | o ∷ more ↦ with_argument (argument r w (size p) p o) (matched r w size ps more) ]
      ] ≡ Some xs → AllCome xs
  come_by p ps os xs slots.Left s among more e = more os xs e
  come_by p ps os xs (slots.Read b) s among more e =
      let A : Argument → Type 0 = StandsAt w p in
      come_next p (Some (Fixed (plain_memory None (Some b) 0))) (matched r w size ps os) xs among (λ x is. (let same : Fixed (plain_memory None (Some b) 0) ≡ x = cc in subst A same (read_at w p b s))) (more os) e
  come_by p ps os xs slots.Taken s among more e = come_taken p ps os xs among more e

  pub come_all : (ps : List Operand) (os : List Written) (xs : List Argument) → All (IsAmong t) ps → matched r w size ps os ≡ Some xs → AllCome xs
  unfolding matched
  come_all [] [] xs among e = (let same : [] ≡ xs = cc in subst AllCome same (All-nil (Comes t w)))
  come_all [] (o ∷ os) xs among e = cc
  come_all (p ∷ ps) os xs among e = come_by p ps os xs (slot_of p) refl (All-head (IsAmong t) p ps among) (λ us ys f. come_all ps us ys (All-tail (IsAmong t) p ps among) f) e
