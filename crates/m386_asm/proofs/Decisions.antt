-- Whether bytes spell an operation can be decided.
use Rattle.std.proofs.Common.{◌≡◌, ℕ, zero, suc, ◌<◌, inl, inr, Bool, true, false, List, [], ◌∷◌, length, refl, sym, ◌∙◌, ap, arith, rules, nat_lt}
use Rattle.std.specs.Prelude.{Option, Some, None, ◌==◌, if◌then◌else◌}
use Rattle.std.proofs.lemmas.Bool.{cases_Bool, ltb-true, ltb-false, eqb-true, eqb-false}
use Rattle.std.proofs.lemmas.List.Elements.{All-nil, All-cons, All-head, All-tail}
use denote.Enum.Bare.{sameb, same_true, same_false}
use Rattle.m386_base.specs.contracts.number.Width.{the_type as widths}
use Rattle.m386_base.specs.declared.number.Width.{Width}
use Rattle.m386_opmap.specs.contracts.name.Name.{the_type as names}
use Rattle.m386_opmap.specs.contracts.op.Rep.{the_type as reps}
use Rattle.m386_opmap.specs.declared.name.Name.{Name}
use Rattle.m386_opmap.specs.declared.op.Arg.{Arg}
use Rattle.m386_opmap.specs.declared.op.Arg.TheVariants.{Reg, Seg, Imm, Mem, Rel, Far}
use Rattle.m386_opmap.specs.declared.op.Arg.TheVariants as args
use Rattle.m386_opmap.specs.declared.op.Op.{Op}
use Rattle.m386_opmap.specs.declared.op.Rep.{Rep}
use Rattle.m386_opmap.specs.declared.outcome.Reading.{Reading}
use Rattle.m386_opmap.specs.declared.outcome.Reading.TheVariants.{Spelled, More, Refused}
use Rattle.m386_opmap.specs.Readings.{reading_of}
use Rattle.m386_opmap.specs.Spelling.{Spells, IsReadingOf}
use Rattle.m386_opmap.proofs.Laws.{spelled_reads_alone, reading_is}
use Rattle.m386_opmap.proofs.Sound.{AllAreBytes}
use Rattle.m386_encode.proofs.Read.{same_fields, whole_is_spelling}
use Rattle.m386_asm.proofs.Search.{Decided}

-- ---- values

number_decided : (m n : ℕ) → Decided (m ≡ n)
number_decided m n = elim (cases_Bool (m == n)) [ inl e ↦ inl (eqb-true m n e) | inr e ↦ inr (eqb-false m n e) ]

name_decided : (a b : Name) → Decided (a ≡ b)
name_decided a b = elim (cases_Bool (sameb names a b)) [ inl e ↦ inl (same_true names (search rules) a b e) | inr e ↦ inr (same_false names a b e) ]

width_decided : (a b : Width) → Decided (a ≡ b)
width_decided a b = elim (cases_Bool (sameb widths a b)) [ inl e ↦ inl (same_true widths (search rules) a b e) | inr e ↦ inr (same_false widths a b e) ]

rep_decided : (a b : Rep) → Decided (a ≡ b)
rep_decided a b = elim (cases_Bool (sameb reps a b)) [ inl e ↦ inl (same_true reps (search rules) a b e) | inr e ↦ inr (same_false reps a b e) ]

flag_decided : (a b : Bool) → Decided (a ≡ b)
flag_decided true true = inl refl
flag_decided true false = inr (λ e. cc)
flag_decided false true = inr (λ e. cc)
flag_decided false false = inl refl

list_decided : {A : Type 0} → ((x y : A) → Decided (x ≡ y)) → (xs ys : List A) → Decided (xs ≡ ys)
list_decided d [] [] = inl refl
list_decided d [] (y ∷ ys) = inr (λ e. cc)
list_decided d (x ∷ xs) [] = inr (λ e. cc)
list_decided d (x ∷ xs) (y ∷ ys) =
    elim (d x y) [
      | inl e ↦ elim (list_decided d xs ys) [ inl f ↦ inl (rw (e, f) refl) | inr f ↦ inr (λ h. f cc) ]
      | inr e ↦ inr (λ h. e cc)
    ]

-- an operand as six numbers, and back
code_of : Option ℕ → ℕ
code_of None = 0
code_of (Some n) = suc n

option_of : ℕ → Option ℕ
option_of zero = None
option_of (suc n) = Some n

option_back : (o : Option ℕ) → option_of (code_of o) ≡ o
unfolding option_of code_of
option_back None = refl
option_back (Some n) = refl

codes : Arg → List ℕ
codes (Reg n) = 0 ∷ n ∷ 0 ∷ 0 ∷ 0 ∷ 0 ∷ []
codes (Seg n) = 1 ∷ n ∷ 0 ∷ 0 ∷ 0 ∷ 0 ∷ []
codes args.Cr0 = 2 ∷ 0 ∷ 0 ∷ 0 ∷ 0 ∷ 0 ∷ []
codes (Imm n) = 3 ∷ n ∷ 0 ∷ 0 ∷ 0 ∷ 0 ∷ []
codes (Rel n) = 4 ∷ n ∷ 0 ∷ 0 ∷ 0 ∷ 0 ∷ []
codes (Far s o) = 5 ∷ s ∷ o ∷ 0 ∷ 0 ∷ 0 ∷ []
codes (Mem a) = 6 ∷ code_of a.seg ∷ code_of a.base ∷ code_of a.index ∷ a.scale ∷ a.disp ∷ []

operand_of : List ℕ → Arg
operand_of (k ∷ a ∷ b ∷ c ∷ d ∷ e ∷ []) =
    if k == 0 then Reg a else if k == 1 then Seg a else if k == 2 then args.Cr0 else if k == 3 then Imm a else if k == 4 then Rel a else if k == 5 then Far a b
    else Mem (record { seg = option_of a; base = option_of b; index = option_of c; scale = d; disp = e })
operand_of _ = args.Cr0

operand_back : (a : Arg) → operand_of (codes a) ≡ a
unfolding operand_of codes
operand_back (Reg n) = refl
operand_back (Seg n) = refl
operand_back args.Cr0 = refl
operand_back (Imm n) = refl
operand_back (Rel n) = refl
operand_back (Far s o) = refl
operand_back (Mem a) = rw (option_back a.seg, option_back a.base, option_back a.index) refl

arg_decided : (a b : Arg) → Decided (a ≡ b)
arg_decided a b =
    elim (list_decided number_decided (codes a) (codes b)) [
      | inl e ↦ inl (sym (operand_back a) ∙ (ap operand_of e ∙ operand_back b))
      | inr f ↦ inr (λ e. f (ap codes e))
    ]

-- both, where each can be decided
pub both_decided : {A B : Type 0} → Decided A → Decided B → Decided (A × B)
both_decided (inl a) (inl b) = inl (a, b)
both_decided (inl a) (inr g) = inr (λ p. g p.1)
both_decided (inr f) d = inr (λ p. f p.0)

-- one for another that says the same
pub by_either : {A B : Type 0} → (A → B) → (B → A) → Decided A → Decided B
by_either f g (inl a) = inl (f a)
by_either f g (inr h) = inr (λ b. h (g b))

pub op_decided : (op other : Op) → Decided (op ≡ other)
op_decided op other =
    by_either (λ p. same_fields op other p.0 p.1.0 p.1.1.0 p.1.1.1.0 p.1.1.1.1)
    (λ e. (ap (λ (o : Op). o.name) e, (ap (λ (o : Op). o.width) e, (ap (λ (o : Op). o.lock) e, (ap (λ (o : Op). o.rep) e, ap (λ (o : Op). o.args.items) e)))))
    (both_decided (name_decided op.name other.name) (both_decided (width_decided op.width other.width) (both_decided (flag_decided op.lock other.lock)
    (both_decided (rep_decided op.rep other.rep) (list_decided arg_decided op.args.items other.args.items)))))

-- ---- spellings

bytes_decided : (bytes : List ℕ) → Decided (AllAreBytes bytes)
bytes_decided [] = inl (All-nil (λ b. b < 256))
bytes_decided (b ∷ bs) =
    by_either (λ p. All-cons (λ b. b < 256) b bs p.0 p.1) (λ a. (All-head (λ b. b < 256) b bs a, All-tail (λ b. b < 256) b bs a))
    (both_decided (elim (cases_Bool (nat_lt b 256)) [ inl e ↦ inl (ltb-true b 256 e) | inr e ↦ (let k = ltb-false b 256 e in inr (λ h. omega (arith, h, k))) ]) (bytes_decided bs))

by_reading : (op : Op) (bytes : List ℕ) (x : Reading) → reading_of bytes ≡ x → IsReadingOf bytes x → Decided (Spells op bytes)
by_reading op bytes (Spelled read len) e is =
    by_either (λ p. (whole_is_spelling op read bytes len is p.1 p.0).spells)
    (λ s. (let f : Spelled op (length bytes) ≡ Spelled read len = sym (spelled_reads_alone op bytes s) ∙ e in (cc, cc)))
    (both_decided (op_decided read op) (number_decided len (length bytes)))
by_reading op bytes More e is = inr (λ s. (let f : Spelled op (length bytes) ≡ More = sym (spelled_reads_alone op bytes s) ∙ e in cc))
by_reading op bytes (Refused at) e is = inr (λ s. (let f : Spelled op (length bytes) ≡ Refused at = sym (spelled_reads_alone op bytes s) ∙ e in cc))

-- Whether bytes spell an operation can be decided.
pub spells_decided : (op : Op) (bytes : List ℕ) → Decided (Spells op bytes)
spells_decided op bytes =
    elim (bytes_decided bytes) [ inl are ↦ by_reading op bytes (reading_of bytes) refl (reading_is bytes are) | inr f ↦ inr (λ s. f s.are_bytes) ]
