-- What the operands of an operation say of the bytes that spell it.
use Rattle.std.proofs.Common.{◌≡◌, ℕ, suc, ◌+◌, ◌*◌, ◌/◌, ◌%◌, ◌<◌, Bool, true, false, List, [], ◌∷◌, length, get_or, refl, arith}
use Rattle.m386_base.specs.declared.number.Width.{Width}
use Rattle.m386_base.specs.declared.number.Width.TheVariants.{W8, W16, W32}
use Rattle.m386_opmap.specs.declared.fields.Fields.{Fields}
use Rattle.m386_opmap.specs.declared.row.Operand.{Operand}
use Rattle.m386_opmap.specs.declared.row.Operand.TheVariants.{Absent, E, M, R, G, S, Low, I, Ib, Iw, SignedByte, Jb, J, O, A, X, Table, Eax, Cl, Dx, One, Es, Cs, Ss, Ds, Fs, Gs, Cr0}
use Rattle.m386_opmap.specs.Forms.{number, extended}
use Rattle.m386_opmap.specs.Operands.{operand_value}
use Rattle.m386_encode.specs.Candidates.{low_bytes, is_middle, is_low}

-- whether an operand is memory that no ModRM byte names
abbrev pub is_plain : Operand → Bool
is_plain O = true
is_plain X = true
is_plain Table = true
is_plain _ = false

-- an operand's value by other fields that agree where they count
pub value_same : (f g : Fields) (w : Width) (tail : List ℕ) (x : Operand) → f.place ≡ g.place → (is_middle x ≡ true → f.middle ≡ g.middle) → (is_low x ≡ true → f.opcode % 8 ≡ g.opcode % 8) →
    (is_plain x ≡ true → f.prefixes.seg ≡ g.prefixes.seg) → operand_value f w tail x ≡ operand_value g w tail x
value_same f g w tail Absent p m o s = refl
value_same f g w tail E p m o s = p
value_same f g w tail M p m o s = p
value_same f g w tail R p m o s = p
value_same f g w tail G p m o s = rw (m refl) refl
value_same f g w tail S p m o s = rw (m refl) refl
value_same f g w tail Low p m o s = rw (o refl) refl
value_same f g w tail I p m o s = refl
value_same f g w tail Ib p m o s = refl
value_same f g w tail Iw p m o s = refl
value_same f g w tail SignedByte p m o s = refl
value_same f g w tail Jb p m o s = refl
value_same f g w tail J p m o s = refl
value_same f g w tail O p m o s = rw (s refl) refl
value_same f g w tail A p m o s = refl
value_same f g w tail X p m o s = rw (s refl) refl
value_same f g w tail Table p m o s = rw (s refl) refl
value_same f g w tail Eax p m o s = refl
value_same f g w tail Cl p m o s = refl
value_same f g w tail Dx p m o s = refl
value_same f g w tail One p m o s = refl
value_same f g w tail Es p m o s = refl
value_same f g w tail Cs p m o s = refl
value_same f g w tail Ss p m o s = refl
value_same f g w tail Ds p m o s = refl
value_same f g w tail Fs p m o s = refl
value_same f g w tail Gs p m o s = refl
value_same f g w tail Cr0 p m o s = refl

-- each is a byte
abbrev pub Bytes : List ℕ → Type 0
Bytes bs = (k : ℕ) → k < length bs → get_or bs k 0 < 256

pub later_bytes : (b : ℕ) (bs : List ℕ) → Bytes (b ∷ bs) → Bytes bs
later_bytes b bs f k h = f (suc k) (omega arith)

-- the lowest bytes of the number that bytes make are these bytes
pub lowest_number : (bs : List ℕ) → Bytes bs → low_bytes (length bs) (number bs) ≡ bs
unfolding low_bytes number
lowest_number [] f = refl
lowest_number (b ∷ bs) f =
    let byte : b < 256 = f 0 (omega arith) in
    let first : (b + 256 * number bs) % 256 ≡ b = omega arith in
    let rest : (b + 256 * number bs) / 256 ≡ number bs = omega arith in
    rw (first, rest, lowest_number bs (later_bytes b bs f)) refl

-- a byte with a sign above it
pub lowest_signed : (w : Width) (b : ℕ) → b < 256 → low_bytes 1 (extended W8 w (number (b ∷ []))) ≡ b ∷ []
unfolding low_bytes number extended
lowest_signed W8 b h = grind (arith)
lowest_signed W16 b h = grind (arith)
lowest_signed W32 b h = grind (arith)
