-- A run of offsets lies in a segment where each of them does.
use Rattle.std.proofs.Common.{◌≡◌, ℕ, zero, suc, ◌+◌, ◌-◌, ◌*◌, ◌<◌, ◌^◌, ◌⊎◌, inl, inr, ◌↔◌, IsTrue, arith, refl, sym, Bool, true, false, cond, ◌&&◌, nat_lt, nat_le}
use Rattle.m386_base.specs.declared.desc.Desc.{Desc}
use Rattle.m386_desc.specs.declared.kind.Kind.{Kind}
use Rattle.m386_desc.specs.declared.kind.Kind.TheVariants as kinds
use Rattle.m386_base.specs.Flags.{has_bit}
use Rattle.m386_desc.specs.Access.{is_big, kind_of}
use Rattle.m386_desc.specs.Offsets.{limit_of, upper_end, is_offset_of_kind, is_offset, are_offsets}

limit-below : (d : Desc) → limit_of d < 2 ^ 32
unfolding limit_of
limit-below d = go (has_bit d.flags 3)
  where
    go : (b : Bool) → cond b (d.raw_limit * 4096 + 4095) d.raw_limit < 2 ^ 32
    go true = let fits : d.raw_limit < 2 ^ 20 = d.limit_fits in omega arith
    go false = let fits : d.raw_limit < 2 ^ 20 = d.limit_fits in omega arith

upper_end-below : (d : Desc) → upper_end d < 2 ^ 32
upper_end-below d = go (is_big d)
  where
    go : (b : Bool) → cond b (2 ^ 32 - 1) (2 ^ 16 - 1) < 2 ^ 32
    go true = omega arith
    go false = omega arith

below_limit : (d : Desc) (n : ℕ) → nat_le n (limit_of d) ≡ true → n < 2 ^ 32
below_limit d n h = let bound : limit_of d < 2 ^ 32 = limit-below d in grind (arith, h)

above_limit : (d : Desc) (n : ℕ) → nat_lt (limit_of d) n && nat_le n (upper_end d) ≡ true → n < 2 ^ 32
above_limit d n h = let bound : upper_end d < 2 ^ 32 = upper_end-below d in grind (arith, h)

of_kind : (kind : Kind) (d : Desc) (n : ℕ) → is_offset_of_kind kind d n ≡ true → n < 2 ^ 32
of_kind (kinds.DataSeg true writable) d n h = above_limit d n h
of_kind (kinds.DataSeg false writable) d n h = below_limit d n h
of_kind (kinds.CodeSeg conforming readable) d n h = below_limit d n h
of_kind (kinds.Tss busy) d n h = below_limit d n h
of_kind kinds.Ldt d n h = below_limit d n h
of_kind kinds.TaskGate d n h = below_limit d n h
of_kind kinds.CallGate d n h = below_limit d n h
of_kind kinds.IntGate d n h = below_limit d n h
of_kind kinds.TrapGate d n h = below_limit d n h
of_kind kinds.Wrong d n h = below_limit d n h

-- no offset reaches 2^32, so a run that wraps isn't in the set
pub offset_below : (d : Desc) (n : ℕ) → is_offset d n ≡ true → n < 2 ^ 32
unfolding is_offset
offset_below d n h = of_kind (kind_of d) d n h

and-left : (a b : Bool) → a && b ≡ true → a ≡ true
and-left true b h = refl
and-left false b h = h

and-right : (a b : Bool) → a && b ≡ true → b ≡ true
and-right true b h = h
and-right false true h = refl
and-right false false h = h

both : (a b : Bool) → a ≡ true → b ≡ true → a && b ≡ true
both true b h k = k
both false b h k = h

last-or-below : (k n : ℕ) → k < suc n → (k < n) ⊎ (k ≡ n)
last-or-below k n h = grind arith

are_offsets-each : (d : Desc) (offset len : ℕ) → are_offsets d offset len ≡ true → (k : ℕ) → k < len → is_offset d (offset + k) ≡ true
unfolding are_offsets
are_offsets-each d offset zero h k l = absurd (omega arith)
are_offsets-each d offset (suc len) h k l =
    elim (last-or-below k len l) [
      | inl below ↦ are_offsets-each d offset len (and-left _ _ h) k below
      | inr same ↦ rw same (and-right _ _ h)
    ]

each-are_offsets : (d : Desc) (offset len : ℕ) → ((k : ℕ) → k < len → is_offset d (offset + k) ≡ true) → are_offsets d offset len ≡ true
unfolding are_offsets
each-are_offsets d offset zero h = refl
each-are_offsets d offset (suc len) h =
    both _ _ (each-are_offsets d offset len (λ k l. h k (omega arith))) (h len (omega arith))

same_test : (a b : Bool) → (a ≡ true → b ≡ true) → (b ≡ true → a ≡ true) → a ≡ b
same_test true b f g = sym (f refl)
same_test false true f g = g refl
same_test false false f g = refl

-- a test that is true exactly where each of the offsets is in the set
pub test-are_offsets : (d : Desc) (offset len : ℕ) (b : Bool) → (IsTrue b ↔ ((k : ℕ) → k < len → IsTrue (is_offset d (offset + k)))) → b ≡ are_offsets d offset len
test-are_offsets d offset len b h =
    same_test b _ (λ holds. each-are_offsets d offset len (h.0 holds)) (λ holds. h.1 (are_offsets-each d offset len holds))
