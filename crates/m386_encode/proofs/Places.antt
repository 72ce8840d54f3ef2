-- What the ModRM byte names is named by the candidate too.
use Rattle.std.proofs.Common.{◌≡◌, ◌≢◌, ℕ, zero, suc, ◌+◌, ◌-◌, ◌*◌, ◌%◌, ◌^◌, ◌<◌, ◌≤◌, Bool, true, false, cond, List, [], ◌∷◌, length, refl, sym, ◌∙◌, ap, arith, subst, ◌&&◌}
use Rattle.std.specs.Prelude.{Option, Some, None, ◌==◌, if◌then◌else◌}
use Rattle.std.proofs.lemmas.Bool.{and_parts, eqb-true, eq-eqb, ne_eqb}
use Rattle.std.proofs.lemmas.Bool.Decides.{nat_tests}
use Rattle.m386_base.specs.declared.number.Width.TheVariants.{W32}
use Rattle.m386_opmap.specs.declared.op.Arg.{Arg}
use Rattle.m386_opmap.specs.declared.op.Arg.TheVariants.{Reg, Mem}
use Rattle.m386_opmap.specs.Forms.{Form, absent, register, based, indexed, top_bits, middle_bits, low, displacement, displacement_length, base_of, index_of, scale_of}
use Rattle.m386_opmap.specs.Operands.{is_memory}
use Rattle.m386_encode.specs.Candidates.{low_bytes, base, mode_of, scale, address_bytes, place_bytes}
use Rattle.m386_encode.specs.Order.{is_before, is_less}
use Rattle.m386_encode.proofs.Ordered.{less_self, less_step, not_before, not_before_longer}
use Rattle.m386_encode.proofs.Values.{later_bytes, Bytes, lowest_number, lowest_signed}

-- an address from its parts
abbrev pub memory : Option ℕ → Option ℕ → Option ℕ → ℕ → ℕ → Arg
memory seg b i k disp = Mem (record { seg = seg; base = b; index = i; scale = k; disp = disp })

register_at : (seg : Option ℕ) (mid n : ℕ) → mid < 8 → n < 8 → Form seg ((192 + 8 * mid + n) ∷ []) mid (Some (Reg n))
register_at seg mid n hm hn =
    let m : ℕ = 192 + 8 * mid + n in
    let em : middle_bits m ≡ mid = omega arith in
    let en : low m ≡ n = omega arith in
    let P : ℕ → Type 0 = λ y. Form seg (m ∷ []) y (Some (Reg n)) in
    let Q : ℕ → Type 0 = λ z. Form seg (m ∷ []) (middle_bits m) (Some (Reg z)) in
    subst P em (subst Q en (register m (omega arith)))

based_at : (seg : Option ℕ) (t mid b : ℕ) (ds : List ℕ) → t < 3 → mid < 8 → b < 8 → b ≢ 4 → length ds ≡ displacement_length t b →
    Form seg ((64 * t + 8 * mid + b) ∷ ds) mid (Some (memory seg (base_of t b) None 1 (displacement ds)))
based_at seg t mid b ds ht hm hb n h =
    let m : ℕ = 64 * t + 8 * mid + b in
    let et : top_bits m ≡ t = omega arith in
    let em : middle_bits m ≡ mid = omega arith in
    let eb : low m ≡ b = omega arith in
    let size : length ds ≡ displacement_length (top_bits m) (low m) = h ∙ ap (λ x. displacement_length x b) (sym et) ∙ ap (λ x. displacement_length (top_bits m) x) (sym eb) in
    let P : ℕ → Type 0 = λ x. Form seg (m ∷ ds) mid (Some (memory seg (base_of x b) None 1 (displacement ds))) in
    let Q : ℕ → Type 0 = λ y. Form seg (m ∷ ds) y (Some (memory seg (base_of (top_bits m) b) None 1 (displacement ds))) in
    let R : ℕ → Type 0 = λ z. Form seg (m ∷ ds) (middle_bits m) (Some (memory seg (base_of (top_bits m) z) None 1 (displacement ds))) in
    let f : R (low m) = based m ds (omega (arith, et)) (λ e. n (sym eb ∙ e)) size in
    subst P et (subst Q em (subst R eb f))

indexed_at : (seg : Option ℕ) (t mid s : ℕ) (ds : List ℕ) → t < 3 → mid < 8 → length ds ≡ displacement_length t (low s) →
    Form seg ((64 * t + 8 * mid + 4) ∷ s ∷ ds) mid (Some (memory seg (base_of t (low s)) (index_of s) (scale_of s) (displacement ds)))
indexed_at seg t mid s ds ht hm h =
    let m : ℕ = 64 * t + 8 * mid + 4 in
    let et : top_bits m ≡ t = omega arith in
    let em : middle_bits m ≡ mid = omega arith in
    let P : ℕ → Type 0 = λ x. Form seg (m ∷ s ∷ ds) mid (Some (memory seg (base_of x (low s)) (index_of s) (scale_of s) (displacement ds))) in
    let Q : ℕ → Type 0 = λ y. Form seg (m ∷ s ∷ ds) y (Some (memory seg (base_of (top_bits m) (low s)) (index_of s) (scale_of s) (displacement ds))) in
    subst P et (subst Q em (indexed m s ds (omega (arith, et)) (omega arith) (h ∙ ap (λ x. displacement_length x (low s)) (sym et))))

base_by : (c : Bool) (b : ℕ) → (c ≡ true → b ≡ 5) → b < 8 → base (cond c None (Some b)) ≡ b
base_by true b f h = sym (f refl)
base_by false b f h = omega arith

base_back : (t b : ℕ) → b < 8 → base (base_of t b) ≡ b
base_back t b h = base_by ((t == 0) && (b == 5)) b (λ e. eqb-true b 5 (and_parts (t == 0) (b == 5) e).1) h

-- the mode that so many bytes of displacement have, where there is a base
abbrev pub mode_for : ℕ → ℕ
mode_for n = if n == 0 then 0 else if n == 1 then 1 else 2

mode_zero : (c : Bool) (b : ℕ) → mode_of (cond c None (Some b)) (mode_for (cond c 4 0)) ≡ 0
mode_zero true b = refl
mode_zero false b = refl

mode_back : (t b : ℕ) → t < 3 → mode_of (base_of t b) (mode_for (displacement_length t b)) ≡ t
mode_back zero b h = mode_zero (b == 5) b
mode_back (suc zero) b h = refl
mode_back (suc (suc zero)) b h = refl
mode_back (suc (suc (suc t))) b h = absurd (omega arith)

-- how many bytes of displacement stand behind a ModRM byte with its SIB byte
unfoldable pub displacement_size : List ℕ → ℕ
displacement_size [] = 0
displacement_size (m ∷ ms) = if top_bits m == 3 then 0 else if low m == 4 then length ms - 1 else length ms

pub size_based : (m : ℕ) (ds : List ℕ) → top_bits m ≢ 3 → low m ≢ 4 → displacement_size (m ∷ ds) ≡ length ds
unfolding displacement_size
size_based m ds h k = rw (ne_eqb (top_bits m) 3 h) (rw (ne_eqb (low m) 4 k) refl)

pub size_indexed : (m s : ℕ) (ds : List ℕ) → top_bits m ≢ 3 → low m ≡ 4 → displacement_size (m ∷ s ∷ ds) ≡ length ds
unfolding displacement_size
size_indexed m s ds h k = rw (ne_eqb (top_bits m) 3 h) (rw (eq-eqb (low m) 4 k) (omega arith))

scale_back : (k : ℕ) → k < 4 → scale (2 ^ k) ≡ k
scale_back zero h = refl
scale_back (suc zero) h = refl
scale_back (suc (suc zero)) h = refl
scale_back (suc (suc (suc zero))) h = refl
scale_back (suc (suc (suc (suc k)))) h = absurd (omega arith)

displaced : (ds : List ℕ) → Bytes ds → low_bytes (length ds) (displacement ds) ≡ ds
unfolding displacement low_bytes
displaced [] f = refl
displaced (d ∷ []) f = lowest_signed W32 d (f 0 (omega arith))
displaced (d ∷ e ∷ ds) f = let one : (length (d ∷ e ∷ ds) == 1) ≡ false = grind (arith, nat_tests) in rw one (lowest_number (d ∷ e ∷ ds) f)

displaced_by : (n : ℕ) (ds : List ℕ) → length ds ≡ n → Bytes ds → low_bytes n (displacement ds) ≡ ds
displaced_by n ds h f = let P : ℕ → Type 0 = λ x. low_bytes x (displacement ds) ≡ ds in subst P h (displaced ds f)

-- the bytes of an address without a SIB byte
based_bytes : (seg : Option ℕ) (t mid mode b : ℕ) (ds : List ℕ) → mode_of (base_of t b) mode ≡ t → b < 8 → b ≢ 4 → length ds ≡ displacement_length t b → Bytes ds →
    place_bytes mid mode (memory seg (base_of t b) None 1 (displacement ds)) ≡ (64 * t + 8 * mid + b) ∷ ds
unfolding place_bytes address_bytes
based_bytes seg t mid mode b ds e hb n h f =
    let four : (b == 4) ≡ false = grind (arith, nat_tests) in
    rw (base_back t b hb, e, four, displaced_by (displacement_length t b) ds h f) refl

-- the bytes of an address with one
indexed_bytes : (seg : Option ℕ) (t mid mode b i k : ℕ) (ds : List ℕ) → mode_of (base_of t b) mode ≡ t → b < 8 → i < 8 → i ≢ 4 → k < 4 → length ds ≡ displacement_length t b → Bytes ds →
    place_bytes mid mode (memory seg (base_of t b) (Some i) (2 ^ k) (displacement ds)) ≡ (64 * t + 8 * mid + 4) ∷ (64 * k + 8 * i + b) ∷ ds
unfolding place_bytes address_bytes
indexed_bytes seg t mid mode b i k ds e hb hi n hk h f =
    let whole : i % 8 ≡ i = omega arith in
    let four : (i == 4) ≡ false = grind (arith, nat_tests) in
    rw (base_back t b hb, e, whole, four, scale_back k hk, displaced_by (displacement_length t b) ds h f) refl

-- the bytes of an address whose base is ESP
stack_bytes : (seg : Option ℕ) (t mid mode : ℕ) (ds : List ℕ) → mode_of (base_of t 4) mode ≡ t → length ds ≡ displacement_length t 4 → Bytes ds →
    place_bytes mid mode (memory seg (base_of t 4) None 1 (displacement ds)) ≡ (64 * t + 8 * mid + 4) ∷ 36 ∷ ds
unfolding place_bytes address_bytes
stack_bytes seg t mid mode ds e h f =
    rw (base_back t 4 (omega arith), e, displaced_by (displacement_length t 4) ds h f) refl

size_register : (m : ℕ) → top_bits m ≡ 3 → displacement_size (m ∷ []) ≡ 0
unfolding displacement_size
size_register m h = rw (eq-eqb (top_bits m) 3 h) refl

size_based_at : (t mid b : ℕ) (ds : List ℕ) → t < 3 → mid < 8 → b < 8 → b ≢ 4 → displacement_size ((64 * t + 8 * mid + b) ∷ ds) ≡ length ds
size_based_at t mid b ds ht hm hb n =
    let m : ℕ = 64 * t + 8 * mid + b in
    let et : top_bits m ≡ t = omega arith in
    let eb : low m ≡ b = omega arith in
    size_based m ds (omega (arith, et)) (λ e. n (sym eb ∙ e))

size_indexed_at : (t mid s : ℕ) (ds : List ℕ) → t < 3 → mid < 8 → displacement_size ((64 * t + 8 * mid + 4) ∷ s ∷ ds) ≡ length ds
size_indexed_at t mid s ds ht hm =
    let m : ℕ = 64 * t + 8 * mid + 4 in
    let et : top_bits m ≡ t = omega arith in
    size_indexed m s ds (omega (arith, et)) (omega arith)

-- What the ModRM byte names, named by the candidate by a mode, in bytes that come not after these, with as many of displacement.
pub record Again (seg : Option ℕ) (mid mode : ℕ) (p : Arg) (bs : List ℕ) : Type 0 where
  pub form : Form seg (place_bytes mid mode p) mid (Some p)
  pub first : is_before bs (place_bytes mid mode p) ≡ false
  pub sized : displacement_size (place_bytes mid mode p) ≡ displacement_size bs

again : (seg : Option ℕ) (mid mode : ℕ) (p : Arg) (bs new : List ℕ) → place_bytes mid mode p ≡ new → Form seg new mid (Some p) → is_before bs new ≡ false → displacement_size new ≡ displacement_size bs → Again seg mid mode p bs
again seg mid mode p bs new e f g k =
    let P : List ℕ → Type 0 = λ x. Form seg x mid (Some p) in
    let Q : List ℕ → Type 0 = λ x. is_before bs x ≡ false in
    record { form = subst P (sym e) f; first = subst Q (sym e) g; sized = ap displacement_size e ∙ k }

again_register : (seg : Option ℕ) (m mid mode : ℕ) → mid < 8 → mid ≤ middle_bits m → m < 256 → top_bits m ≡ 3 → Again seg mid mode (Reg (low m)) (m ∷ [])
unfolding place_bytes is_less
again_register seg m mid mode hm le b t =
    let whole : low m % 8 ≡ low m = omega arith in
    again seg mid mode (Reg (low m)) (m ∷ []) ((192 + 8 * mid + low m) ∷ []) (rw whole refl) (register_at seg mid (low m) hm (omega arith))
    (not_before (m ∷ []) ((192 + 8 * mid + low m) ∷ []) refl (less_step m (192 + 8 * mid + low m) [] [] (omega arith) refl))
    (size_register (192 + 8 * mid + low m) (omega arith) ∙ sym (size_register m t))

again_based : (seg : Option ℕ) (m mid mode : ℕ) (ds : List ℕ) → mode_of (base_of (top_bits m) (low m)) mode ≡ top_bits m → mid < 8 → mid ≤ middle_bits m → Bytes (m ∷ ds) → top_bits m ≢ 3 → low m ≢ 4 → length ds ≡ displacement_length (top_bits m) (low m) →
    Again seg mid mode (memory seg (base_of (top_bits m) (low m)) None 1 (displacement ds)) (m ∷ ds)
again_based seg m mid mode ds o hm le f t n h =
    let byte : m < 256 = f 0 (omega arith) in
    let small : top_bits m < 3 = omega (arith, t) in
    again seg mid mode (memory seg (base_of (top_bits m) (low m)) None 1 (displacement ds)) (m ∷ ds) ((64 * top_bits m + 8 * mid + low m) ∷ ds)
    (based_bytes seg (top_bits m) mid mode (low m) ds o (omega arith) n h (later_bytes m ds f)) (based_at seg (top_bits m) mid (low m) ds small hm (omega arith) n h)
    (not_before (m ∷ ds) ((64 * top_bits m + 8 * mid + low m) ∷ ds) refl (less_step m (64 * top_bits m + 8 * mid + low m) ds ds (omega arith) (less_self ds)))
    (size_based_at (top_bits m) mid (low m) ds small hm (omega arith) n ∙ sym (size_based m ds t n))

indexed_by : (seg : Option ℕ) (m s mid mode : ℕ) (ds : List ℕ) (four low4 : Bool) → (middle_bits s == 4) ≡ four → (low s == 4) ≡ low4 → mode_of (base_of (top_bits m) (low s)) mode ≡ top_bits m → mid < 8 → mid ≤ middle_bits m → Bytes (m ∷ s ∷ ds) →
    top_bits m ≢ 3 → low m ≡ 4 → length ds ≡ displacement_length (top_bits m) (low s) →
    Again seg mid mode (memory seg (base_of (top_bits m) (low s)) (cond four None (Some (middle_bits s))) (cond four 1 (2 ^ top_bits s)) (displacement ds)) (m ∷ s ∷ ds)
indexed_by seg m s mid mode ds true false e e' o hm le f t l h =
    let byte : m < 256 = f 0 (omega arith) in
    let small : top_bits m < 3 = omega (arith, t) in
    let n : low s ≢ 4 = λ z. (let y : (low s == 4) ≡ true = rw z refl in cc) in
    again seg mid mode (memory seg (base_of (top_bits m) (low s)) None 1 (displacement ds)) (m ∷ s ∷ ds) ((64 * top_bits m + 8 * mid + low s) ∷ ds)
    (based_bytes seg (top_bits m) mid mode (low s) ds o (omega arith) n h (later_bytes s ds (later_bytes m (s ∷ ds) f))) (based_at seg (top_bits m) mid (low s) ds small hm (omega arith) n h)
    (not_before_longer (m ∷ s ∷ ds) ((64 * top_bits m + 8 * mid + low s) ∷ ds) (omega arith))
    (size_based_at (top_bits m) mid (low s) ds small hm (omega arith) n ∙ sym (size_indexed m s ds t l))
indexed_by seg m s mid mode ds true true e e' o hm le f t l h =
    let byte : m < 256 = f 0 (omega arith) in
    let small : top_bits m < 3 = omega (arith, t) in
    let z : low s ≡ 4 = eqb-true (low s) 4 e' in
    let i : middle_bits s ≡ 4 = eqb-true (middle_bits s) 4 e in
    let h4 : length ds ≡ displacement_length (top_bits m) 4 = h ∙ ap (λ x. displacement_length (top_bits m) x) z in
    let o4 : mode_of (base_of (top_bits m) 4) mode ≡ top_bits m = ap (λ x. mode_of (base_of (top_bits m) x) mode) (sym z) ∙ o in
    let P : ℕ → Type 0 = λ x. Again seg mid mode (memory seg (base_of (top_bits m) x) None 1 (displacement ds)) (m ∷ s ∷ ds) in
    subst P (sym z) (again seg mid mode (memory seg (base_of (top_bits m) 4) None 1 (displacement ds)) (m ∷ s ∷ ds) ((64 * top_bits m + 8 * mid + 4) ∷ 36 ∷ ds)
    (stack_bytes seg (top_bits m) mid mode ds o4 h4 (later_bytes s ds (later_bytes m (s ∷ ds) f))) (indexed_at seg (top_bits m) mid 36 ds small hm h4)
    (not_before (m ∷ s ∷ ds) ((64 * top_bits m + 8 * mid + 4) ∷ 36 ∷ ds) refl (less_step m (64 * top_bits m + 8 * mid + 4) (s ∷ ds) (36 ∷ ds) (omega arith) (less_step s 36 ds ds (omega arith) (less_self ds))))
    (size_indexed_at (top_bits m) mid 36 ds small hm ∙ sym (size_indexed m s ds t l)))
indexed_by seg m s mid mode ds false low4 e e' o hm le f t l h =
    let byte : m < 256 = f 0 (omega arith) in
    let second : s < 256 = f 1 (omega arith) in
    let small : top_bits m < 3 = omega (arith, t) in
    let n : middle_bits s ≢ 4 = λ z. (let y : (middle_bits s == 4) ≡ true = rw z refl in cc) in
    let same : 64 * top_bits s + 8 * middle_bits s + low s ≡ s = omega arith in
    let bytes : place_bytes mid mode (memory seg (base_of (top_bits m) (low s)) (Some (middle_bits s)) (2 ^ top_bits s) (displacement ds)) ≡ (64 * top_bits m + 8 * mid + 4) ∷ s ∷ ds =
    indexed_bytes seg (top_bits m) mid mode (low s) (middle_bits s) (top_bits s) ds o (omega arith) (omega arith) n (omega arith) h (later_bytes s ds (later_bytes m (s ∷ ds) f)) ∙ ap (λ x. (64 * top_bits m + 8 * mid + 4) ∷ x ∷ ds) same in
    let form : Form seg ((64 * top_bits m + 8 * mid + 4) ∷ s ∷ ds) mid (Some (memory seg (base_of (top_bits m) (low s)) (index_of s) (scale_of s) (displacement ds))) = indexed_at seg (top_bits m) mid s ds small hm h in
    let P : Bool → Type 0 = λ c. Form seg ((64 * top_bits m + 8 * mid + 4) ∷ s ∷ ds) mid (Some (memory seg (base_of (top_bits m) (low s)) (cond c None (Some (middle_bits s))) (cond c 1 (2 ^ top_bits s)) (displacement ds))) in
    again seg mid mode (memory seg (base_of (top_bits m) (low s)) (Some (middle_bits s)) (2 ^ top_bits s) (displacement ds)) (m ∷ s ∷ ds) ((64 * top_bits m + 8 * mid + 4) ∷ s ∷ ds) bytes (subst P e form)
    (not_before (m ∷ s ∷ ds) ((64 * top_bits m + 8 * mid + 4) ∷ s ∷ ds) refl (less_step m (64 * top_bits m + 8 * mid + 4) (s ∷ ds) (s ∷ ds) (omega arith) (less_self (s ∷ ds))))
    (size_indexed_at (top_bits m) mid s ds small hm ∙ sym (size_indexed m s ds t l))

-- The mode gives memory a displacement of as many bytes as stand there. To a register it means nothing.
abbrev pub Fits : ℕ → Option Arg → List ℕ → Type 0
Fits mode place bs = is_memory place ≡ true → mode ≡ mode_for (displacement_size bs)

mode_sized : (mode : ℕ) (bs ds : List ℕ) (t b : ℕ) → t < 3 → mode ≡ mode_for (displacement_size bs) → displacement_size bs ≡ length ds → length ds ≡ displacement_length t b → mode_of (base_of t b) mode ≡ t
mode_sized mode bs ds t b h e k l = ap (λ n. mode_of (base_of t b) n) (e ∙ ap mode_for (k ∙ l)) ∙ mode_back t b h

-- what is named again, of what is named
abbrev pub AgainOf : Option ℕ → ℕ → ℕ → Option Arg → List ℕ → Type 0
AgainOf seg mid mode None bs = Unit {0}
AgainOf seg mid mode (Some p) bs = Again seg mid mode p bs

pub place_again : (seg : Option ℕ) (bs : List ℕ) (old : ℕ) (place : Option Arg) (mid mode : ℕ) → mid < 8 → mid ≤ old → Bytes bs → Fits mode place bs → Form seg bs old place → AgainOf seg mid mode place bs
place_again seg _ _ _ mid mode hm le f fits absent = tt
place_again seg _ _ _ mid mode hm le f fits (register m t) = again_register seg m mid mode hm le (f 0 (omega arith)) t
place_again seg _ _ _ mid mode hm le f fits (based m ds t n h) =
    let byte : m < 256 = f 0 (omega arith) in
    again_based seg m mid mode ds (mode_sized mode (m ∷ ds) ds (top_bits m) (low m) (omega (arith, t)) (fits refl) (size_based m ds t n) h) hm le f t n h
place_again seg _ _ _ mid mode hm le f fits (indexed m s ds t l h) =
    let byte : m < 256 = f 0 (omega arith) in
    indexed_by seg m s mid mode ds (middle_bits s == 4) (low s == 4) refl refl
    (mode_sized mode (m ∷ s ∷ ds) ds (top_bits m) (low s) (omega (arith, t)) (fits refl) (size_indexed m s ds t l) h) hm le f t l h
