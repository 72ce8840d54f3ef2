-- What a candidate is made of are bytes, and few.
use Rattle.std.proofs.Common.{◌≡◌, ℕ, zero, suc, ◌+◌, ◌*◌, ◌/◌, ◌%◌, ◌<◌, ◌≤◌, Bool, true, false, cond, List, [], ◌∷◌, ◌++◌, length, length-append, refl, arith}
use Rattle.std.specs.Prelude.{Option, Some, None, ◌==◌, ◌&&◌, not, nat_lt}
use Rattle.m386_opmap.specs.declared.op.Addr.{Addr}
use Rattle.m386_opmap.specs.declared.op.Arg.{Arg}
use Rattle.m386_opmap.specs.declared.op.Arg.TheVariants.{Reg, Seg, Imm, Mem, Rel, Far}
use Rattle.m386_opmap.specs.declared.op.Arg.TheVariants as args
use Rattle.m386_opmap.specs.Forms.{displacement_length}
use Rattle.m386_encode.specs.Candidates.{low_bytes, base, mode_of, index, scale, address_bytes, place_bytes, key_bytes}
use Rattle.std.proofs.lemmas.Bool.{ltb-true, lt-ltb}
use Rattle.m386_encode.proofs.Values.{Bytes, later_bytes}

pub bytes_append : (xs ys : List ℕ) → Bytes xs → Bytes ys → Bytes (xs ++ ys)
bytes_append [] ys f g k h = g k h
bytes_append (x ∷ xs) ys f g zero h = f 0 (omega arith)
bytes_append (x ∷ xs) ys f g (suc k) h = bytes_append xs ys (later_bytes x xs f) g k (omega arith)

bytes_one : (x : ℕ) → x < 256 → Bytes (x ∷ [])
bytes_one x h zero k = h
bytes_one x h (suc i) k = absurd (omega arith)

bytes_two : (x y : ℕ) → x < 256 → y < 256 → Bytes (x ∷ y ∷ [])
bytes_two x y h g zero k = h
bytes_two x y h g (suc zero) k = g
bytes_two x y h g (suc (suc i)) k = absurd (omega arith)

bytes_either : (c : Bool) (x y z : ℕ) → x < 256 → y < 256 → z < 256 → Bytes (cond c (x ∷ []) (y ∷ z ∷ []))
bytes_either true x y z f g h = bytes_one x f
bytes_either false x y z f g h = bytes_two y z g h

few_either : (c : Bool) (x y z : ℕ) → length (cond c (x ∷ []) (y ∷ z ∷ [])) ≤ 2
few_either true x y z = omega arith
few_either false x y z = omega arith

pub lowest_are : (n v : ℕ) → Bytes (low_bytes n v)
unfolding low_bytes
lowest_are zero v k h = absurd (omega arith)
lowest_are (suc n) v zero h = omega arith
lowest_are (suc n) v (suc k) h = lowest_are n (v / 256) k (omega arith)

pub lowest_size : (n v : ℕ) → length (low_bytes n v) ≡ n
unfolding low_bytes
lowest_size zero v = refl
lowest_size (suc n) v = omega (arith, lowest_size n (v / 256))

pub base_small : (b : Option ℕ) → base b < 8
base_small None = omega arith
base_small (Some n) = omega arith

pub mode_small : (b : Option ℕ) (mode : ℕ) → mode_of b mode < 3
mode_small None mode = omega arith
mode_small (Some n) mode = omega arith

index_small : (i : Option ℕ) → index i < 8
index_small None = omega arith
index_small (Some n) = omega arith

scale_by : (a b c : Bool) → cond a 3 (cond b 2 (cond c 1 0)) < 4
scale_by true b c = omega arith
scale_by false true c = omega arith
scale_by false false true = omega arith
scale_by false false false = omega arith

address_are : (mid mode : ℕ) (a : Addr) → mid < 8 → Bytes (address_bytes mid mode a)
unfolding address_bytes
address_are mid mode a h =
    let b = base_small a.base in
    let m = mode_small a.base mode in
    let i = index_small a.index in
    let s : scale a.scale < 4 = scale_by (a.scale == 8) (a.scale == 4) (a.scale == 2) in
    bytes_either (index a.index == 4 && not (base a.base == 4)) (64 * mode_of a.base mode + 8 * mid + base a.base) (64 * mode_of a.base mode + 8 * mid + 4) (64 * scale a.scale + 8 * index a.index + base a.base)
    (omega (arith, b, m, h)) (omega (arith, m, h)) (omega (arith, s, i, b))

pub place_are : (mid mode : ℕ) (p : Arg) → mid < 8 → Bytes (place_bytes mid mode p)
unfolding place_bytes
place_are mid mode (Reg n) h k l = bytes_one (192 + 8 * mid + n % 8) (omega arith) k l
place_are mid mode (Seg n) h k l = absurd (omega arith)
place_are mid mode args.Cr0 h k l = absurd (omega arith)
place_are mid mode (Imm n) h k l = absurd (omega arith)
place_are mid mode (Mem a) h k l = bytes_append (address_bytes mid mode a) _ (address_are mid mode a h) (lowest_are (displacement_length (mode_of a.base mode) (base a.base)) a.disp) k l
place_are mid mode (Rel n) h k l = absurd (omega arith)
place_are mid mode (Far s o) h k l = absurd (omega arith)

pub key_are : (o : ℕ) → o < 4096 → Bytes (key_bytes o)
key_are o h = key_by (nat_lt o 256) refl
  where
    key_by : (c : Bool) → nat_lt o 256 ≡ c → Bytes (cond c (o ∷ []) (15 ∷ (o % 256) ∷ []))
    key_by true e = bytes_one o (ltb-true o 256 e)
    key_by false e = bytes_two 15 (o % 256) (omega arith) (omega arith)

few_displacement_by : (a b c : Bool) → cond a (cond b 4 0) (cond c 1 4) ≤ 4
few_displacement_by true true c = omega arith
few_displacement_by true false c = omega arith
few_displacement_by false b true = omega arith
few_displacement_by false b false = omega arith

address_size : (mid mode : ℕ) (a : Addr) → length (address_bytes mid mode a) ≤ 2
unfolding address_bytes
address_size mid mode a =
    few_either (index a.index == 4 && not (base a.base == 4)) (64 * mode_of a.base mode + 8 * mid + base a.base) (64 * mode_of a.base mode + 8 * mid + 4) (64 * scale a.scale + 8 * index a.index + base a.base)

pub place_size : (mid mode : ℕ) (p : Arg) → length (place_bytes mid mode p) ≤ 6
unfolding place_bytes
place_size mid mode (Reg n) = omega arith
place_size mid mode (Seg n) = omega arith
place_size mid mode args.Cr0 = omega arith
place_size mid mode (Imm n) = omega arith
place_size mid mode (Mem a) =
    let m : ℕ = mode_of a.base mode in
    let b : ℕ = base a.base in
    let few : displacement_length m b ≤ 4 = few_displacement_by (m == 0) (b == 5) (m == 1) in
    let size : length (low_bytes (displacement_length m b) a.disp) ≡ displacement_length m b = lowest_size (displacement_length m b) a.disp in
    omega (arith, few, size, address_size mid mode a, length-append (address_bytes mid mode a) (low_bytes (displacement_length m b) a.disp))
place_size mid mode (Rel n) = omega arith
place_size mid mode (Far s o) = omega arith

key_size_by : (short table : Bool) (o : ℕ) → (table ≡ true → short ≡ true) → length (cond short (o ∷ []) (15 ∷ (o % 256) ∷ [])) ≤ cond table 1 2
key_size_by true true o f = omega arith
key_size_by true false o f = omega arith
key_size_by false true o f = (let e : false ≡ true = f refl in cc)
key_size_by false false o f = omega arith

-- an opcode of a row below 0F00h is one byte
pub key_size : (o high : ℕ) → 8 * o ≤ high → length (key_bytes o) ≤ cond (nat_lt high 2048) 1 2
key_size o high h = key_size_by (nat_lt o 256) (nat_lt high 2048) o (λ e. let l : high < 2048 = ltb-true high 2048 e in lt-ltb o 256 (omega arith))
