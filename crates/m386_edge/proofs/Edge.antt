-- What several reads or writes, one after another, come to, and what makes one of them.
use Rattle.std.proofs.Common.{◌≡◌, ℕ, ◌+◌, ◌<◌, ◌≤◌, min, List, [], ◌++◌, length, take, drop, Option, Some, None, refl, ap, sym, ◌∙◌, append_assoc, append-nil, take-append-drop, arith, length-append}
use Rattle.std.proofs.Math.Seq.{take-append-add}
use Rattle.std.proofs.lemmas.List.{nil_from_length, take-append-le}
use Rattle.m386_edge.specs.Edge.{given_back, grown, Grows, GrowsByFront, Reads, Writes}

pub given_back-nil : (left : Option (List ℕ)) → given_back [] left ≡ left
unfolding given_back
given_back-nil None = refl
given_back-nil (Some left) = refl

pub given_back-twice : (first second : List ℕ) (left : Option (List ℕ)) → given_back first (given_back second left) ≡ given_back (first ++ second) left
unfolding given_back
given_back-twice first second None = refl
given_back-twice first second (Some left) = ap Some (sym (append_assoc first second left))

pub grown-nil : (held : Option (List ℕ)) → grown held [] ≡ held
unfolding grown
grown-nil None = refl
grown-nil (Some held) = ap Some (append-nil held)

pub grown-twice : (held : Option (List ℕ)) (first second : List ℕ) → grown (grown held first) second ≡ grown held (first ++ second)
unfolding grown
grown-twice None first second = refl
grown-twice (Some held) first second = ap Some (append_assoc held first second)

-- a read of a source that tells no bytes
pub reads_untold : (room : ℕ) (buf : List ℕ) (n : ℕ) → n ≤ room → Reads None None room buf n
unfolding given_back
reads_untold room buf n h = record { within = h; gave = refl; end = tt }

-- a write to a sink that tells no bytes
pub writes_untold : (piece : List ℕ) (n : ℕ) → 0 < n → n ≤ length piece → Writes None None piece n
unfolding grown
writes_untold piece n some within = record { some = some; within = within; grows = refl }

-- a read of a source that tells its bytes
pub reads_told : (left rest : List ℕ) (room most : ℕ) (buf : List ℕ) (n : ℕ) → 0 < room → 0 < most → n ≡ min (min (length left) room) most → take n buf ≡ take n left
    → rest ≡ drop n left → Reads (Some left) (Some rest) room buf n
unfolding given_back
reads_told left rest room most buf n r m count same gone = record {
  within = omega arith;
  gave = ap Some (sym (take-append-drop n left) ∙ ap (λ front. front ++ drop n left) (sym same) ∙ ap (λ back. take n buf ++ back) (sym gone));
  end = (λ none. nil_from_length left (omega arith), λ empty. let none : length left ≡ 0 = ap length empty in omega arith);
}

-- a write to a sink that tells its bytes
pub writes_told : (held now piece : List ℕ) (n : ℕ) → 0 < n → n ≤ length piece → now ≡ held ++ take n piece → Writes (Some held) (Some now) piece n
unfolding grown
writes_told held now piece n some within same = record { some = some; within = within; grows = ap Some same }

-- bytes that were taken, and then more
pub grows_then : (first old new : Option (List ℕ)) (front back : List ℕ) → Grows first old front → Grows old new back → Grows first new (front ++ back)
grows_then first old new front back before step = step ∙ ap (λ held. grown held back) before ∙ grown-twice first front back

-- bytes that were taken, and then a front of more
pub front_later : (first old new : Option (List ℕ)) (front back : List ℕ) → Grows first old front → GrowsByFront old new back → GrowsByFront first new (front ++ back)
front_later first old new front back before step = record {
  count = length front + step.count;
  within = omega (arith, step.within, length-append front back);
  grows = rw (take-append-add front back step.count) (grows_then first old new front (take step.count back) before step.grows);
}

-- a front of bytes behind which more were to come
pub front_now : (old new : Option (List ℕ)) (front back : List ℕ) → GrowsByFront old new front → GrowsByFront old new (front ++ back)
front_now old new front back step =
    let within : step.count ≤ length front = step.within in
    record {
      count = step.count;
      within = omega (arith, within, length-append front back);
      grows = rw (take-append-le step.count front back within) step.grows;
    }

-- What writes of the whole come to, one after another.
pub ruleset growing = (grows_then, front_later, front_now)
