-- What is gathered from the groups of an access is what stands at its places.
use Rattle.std.proofs.Common.{arith, ◌≡◌, ℕ, zero, suc, ◌+◌, ◌-◌, ◌*◌, ◌%◌, ◌^◌, ◌<◌, ◌∙◌, refl, ap, bit_or, List, [], ◌∷◌, ◌++◌, map}
use Rattle.std.specs.List.{AllByRecursion, flat_map}
use Rattle.std.proofs.lemmas.Nat.{or_comm, or_shifted}
use Rattle.m386_base.specs.declared.ask.Space.{Space}
use Rattle.m386_base.specs.declared.split.Piece.{Piece}
use Rattle.m386_base.specs.Split.{wrapped, pieces, IsLength, access_bytes, spread_of, gather_of, gathered, lanes, piece_bytes, byte, moved, swapped, placed, AreRead}
use Rattle.m386_base.proofs.Access.{each_length, pieces_at, access_of}
use Rattle.m386_base.proofs.Moved.{shaped, gather_0_1, gather_0_2, gather_0_3, gather_0_4, gather_0_6, gather_0_8, gather_0_12, gather_0_14, gather_0_15, gather_1_1, gather_1_7, gather_2_3, gather_3_1}
use Rattle.m386_base.proofs.Lanes.{byte_0_1_0, byte_0_2_1, byte_0_3_0, byte_0_3_1, byte_0_4_2, byte_0_6_1, byte_0_6_2, byte_0_8_3, byte_0_12_2, byte_0_12_3, byte_0_14_1, byte_0_14_2, byte_0_14_3, byte_0_15_0, byte_0_15_1, byte_0_15_2, byte_0_15_3, byte_1_1_0, byte_1_7_0, byte_1_7_1, byte_1_7_2, byte_2_3_0, byte_2_3_1, byte_3_1_0}

-- numbers that share no byte
or_sum : (n a b c : ℕ) → a < 2 ^ n → b ≡ c * 2 ^ n → bit_or a b ≡ a + b
or_sum n a b c l e = rw e (or_comm a (c * 2 ^ n) ∙ or_shifted c n a l ∙ omega arith)

-- the bytes of a group, moved to their places in the access
abbrev got : (Piece → ℕ) → Piece → ℕ
got read p = moved (swapped (lanes p)) (read p)

-- the same of each group, added up
abbrev total : (Piece → ℕ) → List Piece → ℕ
total read [] = 0
total read (p ∷ ps) = got read p + total read ps

-- two groups whose bytes lie apart
two_groups : (read : Piece → ℕ) (p q : Piece) (n c : ℕ) → gather_of p (read p) ≡ got read p → gather_of q (read q) ≡ got read q → got read p < 2 ^ n → got read q ≡ c * 2 ^ n → gathered read (p ∷ q ∷ []) ≡ total read (p ∷ q ∷ [])
two_groups read p q n c e h l m = rw (e, h, or_sum n (got read p) (got read q) c l m) (omega arith)

total_1 : (read : Piece → ℕ) (space : Space) (first at : ℕ) → at < 4 → gathered read (pieces_at space first at 1) ≡ total read (pieces_at space first at 1)
unfolding lanes
total_1 read space first zero h = rw (gather_0_1 (first - 0) (read (shaped (first - 0) 0 1))) (omega arith)
total_1 read space first (suc zero) h = rw (gather_0_2 (first - 1) (read (shaped (first - 1) 0 2))) (omega arith)
total_1 read space first (suc (suc zero)) h = rw (gather_0_4 (first - 2) (read (shaped (first - 2) 0 4))) (omega arith)
total_1 read space first (suc (suc (suc zero))) h = rw (gather_0_8 (first - 3) (read (shaped (first - 3) 0 8))) (omega arith)
total_1 read space first (suc (suc (suc (suc at)))) h = absurd (omega arith)

total_2 : (read : Piece → ℕ) (space : Space) (first at : ℕ) → at < 4 → gathered read (pieces_at space first at 2) ≡ total read (pieces_at space first at 2)
unfolding lanes
total_2 read space first zero h = rw (gather_0_3 (first - 0) (read (shaped (first - 0) 0 3))) (omega arith)
total_2 read space first (suc zero) h = rw (gather_0_6 (first - 1) (read (shaped (first - 1) 0 6))) (omega arith)
total_2 read space first (suc (suc zero)) h = rw (gather_0_12 (first - 2) (read (shaped (first - 2) 0 12))) (omega arith)
total_2 read space first (suc (suc (suc zero))) h =
    let p : Piece = shaped (first - 3) 0 8 in
    let q : Piece = shaped (wrapped space (first - 3 + 4)) 1 1 in
    two_groups read p q 8 (byte (read q) 0) (gather_0_8 p.addr (read p)) (gather_1_1 q.addr (read q)) (omega arith) (omega arith)
total_2 read space first (suc (suc (suc (suc at)))) h = absurd (omega arith)

total_4 : (read : Piece → ℕ) (space : Space) (first at : ℕ) → at < 4 → gathered read (pieces_at space first at 4) ≡ total read (pieces_at space first at 4)
unfolding lanes
total_4 read space first zero h = rw (gather_0_15 (first - 0) (read (shaped (first - 0) 0 15))) (omega arith)
total_4 read space first (suc zero) h =
    let p : Piece = shaped (first - 1) 0 14 in
    let q : Piece = shaped (wrapped space (first - 1 + 4)) 3 1 in
    two_groups read p q 24 (byte (read q) 0) (gather_0_14 p.addr (read p)) (gather_3_1 q.addr (read q)) (omega arith) (omega arith)
total_4 read space first (suc (suc zero)) h =
    let p : Piece = shaped (first - 2) 0 12 in
    let q : Piece = shaped (wrapped space (first - 2 + 4)) 2 3 in
    two_groups read p q 16 (byte (read q) 0 + byte (read q) 1 * 2 ^ 8) (gather_0_12 p.addr (read p)) (gather_2_3 q.addr (read q)) (omega arith) (omega arith)
total_4 read space first (suc (suc (suc zero))) h =
    let p : Piece = shaped (first - 3) 0 8 in
    let q : Piece = shaped (wrapped space (first - 3 + 4)) 1 7 in
    two_groups read p q 8 (byte (read q) 0 + byte (read q) 1 * 2 ^ 8 + byte (read q) 2 * 2 ^ 16) (gather_0_8 p.addr (read p)) (gather_1_7 q.addr (read q)) (omega arith) (omega arith)
total_4 read space first (suc (suc (suc (suc at)))) h = absurd (omega arith)

gathered_total : (read : Piece → ℕ) (space : Space) (addr len : ℕ) → IsLength len → gathered read (pieces space addr len) ≡ total read (pieces space addr len)
unfolding pieces
gathered_total read space addr len l =
    let first : ℕ = wrapped space addr in
    each_length (λ n. gathered read (pieces_at space first (first % 4) n) ≡ total read (pieces_at space first (first % 4) n)) (total_1 read space first (first % 4) (omega arith)) (total_2 read space first (first % 4) (omega arith)) (total_4 read space first (first % 4) (omega arith)) len l

placed-append : (stands : ℕ → ℕ) (xs ys : List (ℕ × ℕ)) → placed stands (xs ++ ys) ≡ placed stands xs + placed stands ys
placed-append stands [] ys = omega arith
placed-append stands (x ∷ xs) ys = let ih = placed-append stands xs ys in omega arith

moved_placed : (stands : ℕ → ℕ) (addr value : ℕ) (bs : List (ℕ × ℕ)) → AllByRecursion (λ (b : ℕ × ℕ). byte value b.1 ≡ stands (addr + b.1)) bs → moved (swapped bs) value ≡ placed stands (map (λ (b : ℕ × ℕ). (b.0, addr + b.1)) bs)
moved_placed stands addr value [] h = refl
moved_placed stands addr value (b ∷ bs) h = rw (h.0, moved_placed stands addr value bs h.1) refl

total_placed : (stands : ℕ → ℕ) (read : Piece → ℕ) (ps : List Piece) → AreRead stands read ps → total read ps ≡ placed stands (flat_map piece_bytes ps)
total_placed stands read [] h = refl
total_placed stands read (p ∷ ps) h =
    rw (placed-append stands (piece_bytes p) (flat_map piece_bytes ps), moved_placed stands p.addr (read p) (lanes p) h.0, total_placed stands read ps h.1) refl

-- what is read of an access is the number whose bytes stand at its places
pub reads_access : (space : Space) (addr len : ℕ) → IsLength len → (stands : ℕ → ℕ) (read : Piece → ℕ) → AreRead stands read (pieces space addr len) → gathered read (pieces space addr len) ≡ placed stands (access_bytes space addr len)
reads_access space addr len l stands read h =
    gathered_total read space addr len l ∙ total_placed stands read (pieces space addr len) h ∙ ap (placed stands) (access_of space addr len l).bytes

back_1 : (value : ℕ) (space : Space) (first at : ℕ) → at < 4 → total (λ p. spread_of p value) (pieces_at space first at 1) ≡ value % 2 ^ 8
unfolding lanes
back_1 value space first zero h = rw (byte_0_1_0 (first - 0) value) (omega arith)
back_1 value space first (suc zero) h = rw (byte_0_2_1 (first - 1) value) (omega arith)
back_1 value space first (suc (suc zero)) h = rw (byte_0_4_2 (first - 2) value) (omega arith)
back_1 value space first (suc (suc (suc zero))) h = rw (byte_0_8_3 (first - 3) value) (omega arith)
back_1 value space first (suc (suc (suc (suc at)))) h = absurd (omega arith)

back_2 : (value : ℕ) (space : Space) (first at : ℕ) → at < 4 → total (λ p. spread_of p value) (pieces_at space first at 2) ≡ value % 2 ^ 16
unfolding lanes
back_2 value space first zero h = rw (byte_0_3_0 (first - 0) value, byte_0_3_1 (first - 0) value) (omega arith)
back_2 value space first (suc zero) h = rw (byte_0_6_1 (first - 1) value, byte_0_6_2 (first - 1) value) (omega arith)
back_2 value space first (suc (suc zero)) h = rw (byte_0_12_2 (first - 2) value, byte_0_12_3 (first - 2) value) (omega arith)
back_2 value space first (suc (suc (suc zero))) h = rw (byte_0_8_3 (first - 3) value, byte_1_1_0 (wrapped space (first - 3 + 4)) value) (omega arith)
back_2 value space first (suc (suc (suc (suc at)))) h = absurd (omega arith)

back_4 : (value : ℕ) (space : Space) (first at : ℕ) → at < 4 → total (λ p. spread_of p value) (pieces_at space first at 4) ≡ value % 2 ^ 32
unfolding lanes
back_4 value space first zero h = rw (byte_0_15_0 (first - 0) value, byte_0_15_1 (first - 0) value, byte_0_15_2 (first - 0) value, byte_0_15_3 (first - 0) value) (omega arith)
back_4 value space first (suc zero) h = rw (byte_0_14_1 (first - 1) value, byte_0_14_2 (first - 1) value, byte_0_14_3 (first - 1) value, byte_3_1_0 (wrapped space (first - 1 + 4)) value) (omega arith)
back_4 value space first (suc (suc zero)) h = rw (byte_0_12_2 (first - 2) value, byte_0_12_3 (first - 2) value, byte_2_3_0 (wrapped space (first - 2 + 4)) value, byte_2_3_1 (wrapped space (first - 2 + 4)) value) (omega arith)
back_4 value space first (suc (suc (suc zero))) h = rw (byte_0_8_3 (first - 3) value, byte_1_7_0 (wrapped space (first - 3 + 4)) value, byte_1_7_1 (wrapped space (first - 3 + 4)) value, byte_1_7_2 (wrapped space (first - 3 + 4)) value) (omega arith)
back_4 value space first (suc (suc (suc (suc at)))) h = absurd (omega arith)

-- a value that was spread over the groups of an access is gathered whole
pub gathers_spread : (space : Space) (addr len : ℕ) → IsLength len → (value : ℕ) → gathered (λ p. spread_of p value) (pieces space addr len) ≡ value % 2 ^ (8 * len)
unfolding pieces
gathers_spread space addr len l value =
    let first : ℕ = wrapped space addr in
    gathered_total (λ p. spread_of p value) space addr len l ∙ each_length (λ n. total (λ p. spread_of p value) (pieces_at space first (first % 4) n) ≡ value % 2 ^ (8 * n)) (back_1 value space first (first % 4) (omega arith)) (back_2 value space first (first % 4) (omega arith)) (back_4 value space first (first % 4) (omega arith)) len l
