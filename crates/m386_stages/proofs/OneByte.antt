-- The cycles of one byte: a claim, a release, an accessed byte.
use Rattle.std.proofs.Common.{arith, ◌≡◌, ℕ, zero, suc, ◌-◌, ◌%◌, ◌^◌, ◌<◌, ◌∙◌, inl, inr, refl, sym, ap, subst, bit_or, bit_and, List, [], ◌∷◌, ◌++◌, Bool, true, false, eqb}
use Rattle.m386_base.specs.declared.ask.Ask.{Ask}
use Rattle.m386_base.specs.declared.ask.Role.{Role}
use Rattle.m386_base.specs.Bus.{cycle_of}
use Rattle.m386_base.specs.Bytes.{bytes_of, Has}
use Rattle.m386_base.specs.Split.{gather_of, lanes}
use Rattle.m386_base.specs.Phrase.{◌>>=◌}
use Rattle.m386_base.proofs.Finite.{all_below, each_below}
use Rattle.m386_base.proofs.Moved.{gather_0_1, gather_0_2, gather_0_4, gather_0_8}
use Rattle.m386_base.proofs.Lanes.{byte_0_1_0, byte_0_2_1, byte_0_4_2, byte_0_8_3}
use Rattle.m386_state.specs.declared.segment.TableReg.{TableReg}
use Rattle.m386_switch.specs.Parts.{clear_phrase, access_piece}
use Rattle.m386_stages.specs.Stages.{Stage, Phase, Task, Turn, Hears, Keeps, hears, shut, IsRelease}
use Rattle.m386_access.specs.Access.{read_ask, write_ask}
use Rattle.m386_segload.specs.Descriptors.{byte_piece, access_byte_phrase}
use Rattle.m386_desc.specs.Selector.{place_in}
use Rattle.m386_base.specs.Laws.{Turns}
use Rattle.m386_access.specs.Ordinary.{desc_byte, IsByteWritten}

-- one entry at a place
abbrev single : ℕ → ℕ → List (ℕ × ℕ)
single a b = (a, b) ∷ []

entry : (a b c d : ℕ) → a ≡ b → c ≡ d → single a c ≡ single b d
entry a b c d e f = λ i. single (e i) (f i)

written_at : (role : Role) (joined : Bool) (a at value : ℕ) → a % 4 ≡ at → bytes_of (write_ask role joined (record { addr = a - at; enables = 2 ^ at; place = 0 }) value) ≡ (a, value % 256) ∷ []
unfolding bytes_of
written_at role joined a zero value e = entry _ a _ _ (omega arith) (byte_0_1_0 (a - 0) value ∙ omega arith)
written_at role joined a (suc zero) value e = entry _ a _ _ (omega arith) (byte_0_2_1 (a - 1) value ∙ omega arith)
written_at role joined a (suc (suc zero)) value e = entry _ a _ _ (omega arith) (byte_0_4_2 (a - 2) value ∙ omega arith)
written_at role joined a (suc (suc (suc zero))) value e = entry _ a _ _ (omega arith) (byte_0_8_3 (a - 3) value ∙ omega arith)
written_at role joined a (suc (suc (suc (suc at)))) value e = absurd (omega arith)

-- a byte that is written is one byte
pub written_byte : (role : Role) (joined : Bool) (a value : ℕ) → bytes_of (write_ask role joined (byte_piece a) value) ≡ (a, value % 256) ∷ []
written_byte role joined a value = written_at role joined a (a % 4) value refl

read_at : (role : Role) (joined : Bool) (a at v : ℕ) → a % 4 ≡ at → bytes_of (record (read_ask role joined (record { addr = a - at; enables = 2 ^ at; place = 0 })) { value = v }) ≡ (a, gather_of (record { addr = a - at; enables = 2 ^ at; place = 0 }) v) ∷ []
unfolding bytes_of lanes
read_at role joined a zero v e = entry _ a _ _ (omega arith) (sym (gather_0_1 (a - 0) v ∙ omega arith))
read_at role joined a (suc zero) v e = entry _ a _ _ (omega arith) (sym (gather_0_2 (a - 1) v ∙ omega arith))
read_at role joined a (suc (suc zero)) v e = entry _ a _ _ (omega arith) (sym (gather_0_4 (a - 2) v ∙ omega arith))
read_at role joined a (suc (suc (suc zero))) v e = entry _ a _ _ (omega arith) (sym (gather_0_8 (a - 3) v ∙ omega arith))
read_at role joined a (suc (suc (suc (suc at)))) v e = absurd (omega arith)

pub read_byte : (role : Role) (joined : Bool) (a v : ℕ) → bytes_of (record (read_ask role joined (byte_piece a)) { value = v }) ≡ (a, gather_of (byte_piece a) v) ∷ []
read_byte role joined a v = read_at role joined a (a % 4) v refl

small_at : (a at v : ℕ) → a % 4 ≡ at → gather_of (record { addr = a - at; enables = 2 ^ at; place = 0 }) v < 256
unfolding lanes
small_at a zero v e = rw (gather_0_1 (a - 0) v) (omega arith)
small_at a (suc zero) v e = rw (gather_0_2 (a - 1) v) (omega arith)
small_at a (suc (suc zero)) v e = rw (gather_0_4 (a - 2) v) (omega arith)
small_at a (suc (suc (suc zero))) v e = rw (gather_0_8 (a - 3) v) (omega arith)
small_at a (suc (suc (suc (suc at)))) v e = absurd (omega arith)

pub small_byte : (a v : ℕ) → gather_of (byte_piece a) v < 256
small_byte a v = small_at a (a % 4) v refl

same_number : (a b : ℕ) → eqb a b ≡ true → a ≡ b
same_number a b k = grind (arith, k)

-- changes of a byte are bytes
pub set_busy : (b : ℕ) → b < 256 → bit_or b 2 % 256 ≡ bit_or b 2
unfolding all_below
set_busy b l = same_number _ _ (each_below 256 (λ x. eqb (bit_or x 2 % 256) (bit_or x 2)) refl b l)

pub set_accessed : (b : ℕ) → b < 256 → bit_or b 1 % 256 ≡ bit_or b 1
unfolding all_below
set_accessed b l = same_number _ _ (each_below 256 (λ x. eqb (bit_or x 1 % 256) (bit_or x 1)) refl b l)

pub clear_busy : (b : ℕ) → b < 256 → bit_and b 0xfd % 256 ≡ bit_and b 0xfd
unfolding all_below
clear_busy b l = same_number _ _ (each_below 256 (λ x. eqb (bit_and x 0xfd % 256) (bit_and x 0xfd)) refl b l)

-- a byte of the GDT's descriptor is written with this value
pub byte_written : (gdt : TableReg) (role : Role) (selector value b : ℕ) → value % 256 ≡ b → IsByteWritten (write_ask role true (access_piece (place_in gdt.base selector)) value) role (desc_byte gdt selector 5) b
byte_written gdt role selector value b e = record {
  write = refl;
  joined = refl;
  space = refl;
  role = refl;
  bytes = written_byte role true (desc_byte gdt selector 5) value ∙ ap (single (desc_byte gdt selector 5)) e;
}

has_one : (xs ys : List (ℕ × ℕ)) (a b : ℕ) → xs ≡ (a, b) ∷ [] → Has (xs ++ ys) a b
has_one xs ys a b e = let P : List (ℕ × ℕ) → Type 0 = λ z. Has (z ++ ys) a b in subst P (sym e) (inl (refl, refl))

-- A byte's bit 1 cleared: any turn that a release makes from there on.
pub keeps_clear : (gdt : TableReg) (g : Stage) (role : Role) (t : Task) (ph : Phase) → ((g1 : Stage) (c : Ask) → g1.phase ≡ g.phase → ((x y : ℕ) → Has g.seen x y → Has g1.seen x y) → IsRelease gdt g1 c role t → Turn gdt g1 c (shut g1 ph))
    → Keeps gdt (λ g2 u. g2.phase ≡ ph) g (clear_phrase role (place_in gdt.base t.selector))
unfolding Keeps Turns clear_phrase access_byte_phrase ◌>>=◌ cycle_of
keeps_clear gdt g role t ph turn = λ v.
    let a : ℕ = desc_byte gdt t.selector 5 in
    let c : Ask = record (read_ask role false (byte_piece a)) { value = v } in
    let g1 : Stage = hears g c g.phase in
    let b : ℕ = gather_of (byte_piece a) v in (
      g1,
      Hears refl refl,
      λ u. (
        shut g1 ph,
        turn g1 _ refl (λ x y h. seen_more (bytes_of c) g.seen x y h) (record {
          b = b;
          read = has_one (bytes_of c) [] a b (read_byte role false a v);
          written = byte_written gdt role t.selector (bit_and b 0xfd) (bit_and b 0xfd) (clear_busy b (small_byte a v));
        }),
        refl,
      ),
    )
  where
    seen_more : (xs ys : List (ℕ × ℕ)) (x y : ℕ) → Has ys x y → Has (xs ++ ys) x y
    seen_more [] ys x y h = h
    seen_more (z ∷ xs) ys x y h = inr (seen_more xs ys x y h)
