-- A candidate spells the operation, where a spelling by the same row does.
use Rattle.std.proofs.Common.{◌≡◌, ℕ, ◌+◌, ◌-◌, ◌*◌, ◌/◌, ◌%◌, ◌<◌, ◌≤◌, ◌⊎◌, inl, inr, Bool, true, false, cond, List, [], ◌∷◌, refl, ◌∙◌, arith, ◌||◌, nat_lt}
use Rattle.std.specs.Prelude.{is_some}
use Rattle.std.proofs.lemmas.Bool.{cases_Bool, ltb-true, ltb-false, lt-ltb}
use Rattle.m386_opmap.specs.declared.fields.Fields.{Fields}
use Rattle.m386_opmap.specs.declared.op.Rep.{Rep}
use Rattle.m386_opmap.specs.declared.op.Rep.TheVariants.{Once}
use Rattle.m386_opmap.specs.declared.row.Row.{Row}
use Rattle.m386_opmap.specs.Operands.{operand_value, has_modrm, width_of, operation, is_string}
use Rattle.m386_opmap.specs.Rows.{Covers}
use Rattle.m386_encode.specs.Candidates.{is_middle, is_low, opcode, middle_of}
use Rattle.m386_encode.specs.Candidates.{key_bytes}
use Rattle.m386_opmap.specs.Spelling.{opcode_bytes}
use Rattle.m386_encode.specs.Order.{is_before, is_less}
use Rattle.m386_encode.proofs.Ordered.{less_step, not_before, not_before_longer}
use Rattle.m386_encode.proofs.RowParts.{is_placed}
use Rattle.m386_encode.proofs.Taken.{its, middle_taken, middle_free, opcode_taken, opcode_free}

-- the same operation from other fields that agree where they count
pub same_operation : (r : Row) (f g : Fields) (tail : List ℕ) → g.prefixes.narrow ≡ f.prefixes.narrow → g.prefixes.lock ≡ f.prefixes.lock →
    cond (is_string r.name) g.prefixes.rep Once ≡ cond (is_string r.name) f.prefixes.rep Once →
    operand_value g (width_of r.size f.prefixes.narrow) tail r.first ≡ operand_value f (width_of r.size f.prefixes.narrow) tail r.first →
    operand_value g (width_of r.size f.prefixes.narrow) tail r.second ≡ operand_value f (width_of r.size f.prefixes.narrow) tail r.second →
    operand_value g (width_of r.size f.prefixes.narrow) tail r.third ≡ operand_value f (width_of r.size f.prefixes.narrow) tail r.third →
    operation r g tail ≡ operation r f tail
unfolding operation
same_operation r f g tail n l p a b c = rw (n, l, p, a, b, c) refl

-- a repetition that counts for a string operation alone
pub same_rep : (string : Bool) (rep : Rep) → cond string (cond string rep Once) Once ≡ cond string rep Once
same_rep true rep = refl
same_rep false rep = refl

-- the candidate's key with a ModRM byte
pub key_selected : (f : Fields) (w : _) (bs : List ℕ) (r : Row) (sh : is_placed r ≡ true) (wanted : has_modrm r ≡ is_some f.place) → r.low / 8 ≡ r.high / 8 → r.low ≤ r.high → f.middle < 8 →
    is_low r.first || is_low r.second ≡ false → Covers r (8 * f.opcode + f.middle) →
    (opcode r (its f w bs r sh wanted) ≡ f.opcode) × (middle_of r (its f w bs r sh wanted) ≤ f.middle) × (middle_of r (its f w bs r sh wanted) < 8) × Covers r (8 * opcode r (its f w bs r sh wanted) + middle_of r (its f w bs r sh wanted))
key_selected f w bs r sh wanted same rise k n c =
    let o : opcode r (its f w bs r sh wanted) ≡ r.low / 8 = opcode_free f w bs r sh wanted n in
    let is : r.low / 8 ≡ f.opcode = omega (arith, c.0, c.1, same) in
    elim (cases_Bool (is_middle r.first || is_middle r.second)) [
      | inl e ↦ (let m : middle_of r (its f w bs r sh wanted) ≡ f.middle = middle_taken f w bs r sh wanted k e in
          (o ∙ is, omega (arith, m), omega (arith, m, k), (omega (arith, o, is, m, c.0), omega (arith, o, is, m, c.1))))
      | inr e ↦ (let m : middle_of r (its f w bs r sh wanted) ≡ r.low % 8 = middle_free f w bs r sh wanted e in
          (o ∙ is, omega (arith, m, is, c.0), omega (arith, m), (omega (arith, o, m), omega (arith, o, m, rise))))
    ]

-- the candidate's key without one
pub key_whole : (f : Fields) (w : _) (bs : List ℕ) (r : Row) (sh : is_placed r ≡ true) (wanted : has_modrm r ≡ is_some f.place) → r.low % 8 ≡ 0 → r.low ≤ r.high →
    (is_low r.first || is_low r.second ≡ true → r.low / 64 ≡ r.high / 64) → Covers r (8 * f.opcode) →
    (opcode r (its f w bs r sh wanted) ≤ f.opcode) × (is_low r.first || is_low r.second ≡ true → opcode r (its f w bs r sh wanted) ≡ f.opcode) × Covers r (8 * opcode r (its f w bs r sh wanted))
key_whole f w bs r sh wanted from rise span c =
    elim (cases_Bool (is_low r.first || is_low r.second)) [
      | inl e ↦ (let s = span e in let o : opcode r (its f w bs r sh wanted) ≡ f.opcode = opcode_taken f w bs r sh wanted (omega (arith, s, c.0, c.1)) e in
          (omega (arith, o), (λ x. o), (omega (arith, o, c.0), omega (arith, o, c.1))))
      | inr e ↦ (let o : opcode r (its f w bs r sh wanted) ≡ r.low / 8 = opcode_free f w bs r sh wanted e in
          (omega (arith, o, c.0), (λ x. cc), (omega (arith, o, from), omega (arith, o, from, rise))))
    ]

key_by : (o : ℕ) (one : Bool) → (one ≡ false → o % 256 ≡ o - 3840) → cond one (o ∷ []) (15 ∷ (o % 256) ∷ []) ≡ cond one (o ∷ []) (15 ∷ (o - 3840) ∷ [])
key_by o true f = refl
key_by o false f = rw (f refl) refl

-- the bytes of an opcode of the table
pub key_bytes_are : (o : ℕ) → (o < 256) ⊎ ((3840 ≤ o) × (o < 4096)) → key_bytes o ≡ opcode_bytes o
key_bytes_are o h = key_by o (nat_lt o 256) (λ e. elim h [ inl l ↦ absurd (omega (arith, ltb-false o 256 e, l)) | inr l ↦ omega (arith, l.0, l.1) ])

key_first_by : (one other : Bool) (o p : ℕ) → p ≤ o → (one ≡ true → other ≡ true) → is_before (cond one (o ∷ []) (15 ∷ (o - 3840) ∷ [])) (cond other (p ∷ []) (15 ∷ (p - 3840) ∷ [])) ≡ false
unfolding is_less
key_first_by true true o p h f = not_before (o ∷ []) (p ∷ []) refl (less_step o p [] [] h refl)
key_first_by true false o p h f = (let e : false ≡ true = f refl in cc)
key_first_by false true o p h f = not_before_longer (15 ∷ (o - 3840) ∷ []) (p ∷ []) (omega arith)
key_first_by false false o p h f = not_before (15 ∷ (o - 3840) ∷ []) (15 ∷ (p - 3840) ∷ []) refl (less_step 15 15 ((o - 3840) ∷ []) ((p - 3840) ∷ []) (omega arith) (less_step (o - 3840) (p - 3840) [] [] (omega arith) refl))

-- an opcode comes not before a smaller one
pub key_first : (o p : ℕ) → p ≤ o → is_before (opcode_bytes o) (opcode_bytes p) ≡ false
key_first o p h = key_first_by (nat_lt o 256) (nat_lt p 256) o p h (λ e. let l : o < 256 = ltb-true o 256 e in lt-ltb p 256 (omega arith))
