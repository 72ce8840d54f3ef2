-- What is read from bytes as a whole.
use Rattle.std.proofs.Common.{◌≡◌, ℕ, List, [], ◌++◌, length, take, sym, subst, arith, ap, Bool}
use Rattle.arrayvec.specs.ArrayVec.{ArrayVec}
use Rattle.m386_base.specs.declared.number.Width.{Width}
use Rattle.m386_opmap.specs.declared.name.Name.{Name}
use Rattle.m386_opmap.specs.declared.op.Arg.{Arg}
use Rattle.m386_opmap.specs.declared.op.Rep.{Rep}
use Rattle.std.proofs.lemmas.List.{append-nil, take_all}
use Rattle.m386_opmap.specs.declared.op.Op.{Op}
use Rattle.m386_opmap.specs.declared.outcome.Reading.{Reading}
use Rattle.m386_opmap.specs.declared.outcome.Reading.TheVariants.{Spelled}
use Rattle.m386_opmap.specs.Spelling.{Spells, IsReadingOf}
use Rattle.m386_encode.specs.Shortest.{IsSpelling}

pub whole_is_spelling : (op read : Op) (bytes : List ℕ) (len : ℕ) → IsReadingOf bytes (Spelled read len) → len ≡ length bytes → read ≡ op → IsSpelling op bytes
whole_is_spelling op read bytes len s e same =
    let whole : take len bytes ≡ bytes = rw e (take_all (length bytes) bytes (omega arith)) in
    let P : List ℕ → Type 0 = λ bs. Spells op bs in
    let Q : Op → Type 0 = λ o. Spells o (take len bytes) in
    record { spells = subst P whole (subst Q same s.1) }

pub whole_read : (op : Op) (bytes : List ℕ) (r : Reading) → ((op : Op) (front rest : List ℕ) → bytes ≡ front ++ rest → Spells op front → r ≡ Spelled op (length front)) →
    IsSpelling op bytes → r ≡ Spelled op (length bytes)
whole_read op bytes r f s = f op bytes [] (sym (append-nil bytes)) s.spells

abbrev op_of : Name → Width → ArrayVec Arg → Bool → Rep → Op
op_of n w a l r = record { name = n; width = w; args = a; lock = l; rep = r }

made : (n m : Name) (w v : Width) (a b : ArrayVec Arg) (l k : Bool) (r s : Rep) → n ≡ m → w ≡ v → a ≡ b → l ≡ k → r ≡ s → op_of n w a l r ≡ op_of m v b k s
made n m w v a b l k r s p q t u x = cc

-- operations with the same fields are the same
pub same_fields : (op other : Op) → op.name ≡ other.name → op.width ≡ other.width → op.lock ≡ other.lock → op.rep ≡ other.rep → op.args.items ≡ other.args.items → op ≡ other
same_fields op other n w l r a =
    let args : op.args ≡ other.args = ap (λ (xs : List Arg). record { items = xs }) a in
    made op.name other.name op.width other.width op.args other.args op.lock other.lock op.rep other.rep n w args l r
