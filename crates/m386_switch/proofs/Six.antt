-- Six descriptors, with one of them changed.
use Rattle.std.proofs.Common.{◌≡◌, ℕ, List, [], ◌∷◌, length, refl, arith, Option, None, slice_set, slice_index_or}
use Rattle.m386_base.specs.declared.desc.Desc.{Desc}

abbrev at : List (Option Desc) → ℕ → Option Desc
at ds i = slice_index_or ds i None

pub put_0 : (ds : List (Option Desc)) (x : Option Desc) → length ds ≡ 6 → slice_set ds 0 x ≡ x ∷ at ds 1 ∷ at ds 2 ∷ at ds 3 ∷ at ds 4 ∷ at ds 5 ∷ []
put_0 [] x h = absurd (omega arith)
put_0 (a ∷ []) x h = absurd (omega arith)
put_0 (a ∷ b ∷ []) x h = absurd (omega arith)
put_0 (a ∷ b ∷ c ∷ []) x h = absurd (omega arith)
put_0 (a ∷ b ∷ c ∷ d ∷ []) x h = absurd (omega arith)
put_0 (a ∷ b ∷ c ∷ d ∷ e ∷ []) x h = absurd (omega arith)
put_0 (a ∷ b ∷ c ∷ d ∷ e ∷ f ∷ []) x h = refl
put_0 (a ∷ b ∷ c ∷ d ∷ e ∷ f ∷ g ∷ ds) x h = absurd (omega arith)

pub put_1 : (ds : List (Option Desc)) (x : Option Desc) → length ds ≡ 6 → slice_set ds 1 x ≡ at ds 0 ∷ x ∷ at ds 2 ∷ at ds 3 ∷ at ds 4 ∷ at ds 5 ∷ []
put_1 [] x h = absurd (omega arith)
put_1 (a ∷ []) x h = absurd (omega arith)
put_1 (a ∷ b ∷ []) x h = absurd (omega arith)
put_1 (a ∷ b ∷ c ∷ []) x h = absurd (omega arith)
put_1 (a ∷ b ∷ c ∷ d ∷ []) x h = absurd (omega arith)
put_1 (a ∷ b ∷ c ∷ d ∷ e ∷ []) x h = absurd (omega arith)
put_1 (a ∷ b ∷ c ∷ d ∷ e ∷ f ∷ []) x h = refl
put_1 (a ∷ b ∷ c ∷ d ∷ e ∷ f ∷ g ∷ ds) x h = absurd (omega arith)

pub put_2 : (ds : List (Option Desc)) (x : Option Desc) → length ds ≡ 6 → slice_set ds 2 x ≡ at ds 0 ∷ at ds 1 ∷ x ∷ at ds 3 ∷ at ds 4 ∷ at ds 5 ∷ []
put_2 [] x h = absurd (omega arith)
put_2 (a ∷ []) x h = absurd (omega arith)
put_2 (a ∷ b ∷ []) x h = absurd (omega arith)
put_2 (a ∷ b ∷ c ∷ []) x h = absurd (omega arith)
put_2 (a ∷ b ∷ c ∷ d ∷ []) x h = absurd (omega arith)
put_2 (a ∷ b ∷ c ∷ d ∷ e ∷ []) x h = absurd (omega arith)
put_2 (a ∷ b ∷ c ∷ d ∷ e ∷ f ∷ []) x h = refl
put_2 (a ∷ b ∷ c ∷ d ∷ e ∷ f ∷ g ∷ ds) x h = absurd (omega arith)

pub put_3 : (ds : List (Option Desc)) (x : Option Desc) → length ds ≡ 6 → slice_set ds 3 x ≡ at ds 0 ∷ at ds 1 ∷ at ds 2 ∷ x ∷ at ds 4 ∷ at ds 5 ∷ []
put_3 [] x h = absurd (omega arith)
put_3 (a ∷ []) x h = absurd (omega arith)
put_3 (a ∷ b ∷ []) x h = absurd (omega arith)
put_3 (a ∷ b ∷ c ∷ []) x h = absurd (omega arith)
put_3 (a ∷ b ∷ c ∷ d ∷ []) x h = absurd (omega arith)
put_3 (a ∷ b ∷ c ∷ d ∷ e ∷ []) x h = absurd (omega arith)
put_3 (a ∷ b ∷ c ∷ d ∷ e ∷ f ∷ []) x h = refl
put_3 (a ∷ b ∷ c ∷ d ∷ e ∷ f ∷ g ∷ ds) x h = absurd (omega arith)

pub put_4 : (ds : List (Option Desc)) (x : Option Desc) → length ds ≡ 6 → slice_set ds 4 x ≡ at ds 0 ∷ at ds 1 ∷ at ds 2 ∷ at ds 3 ∷ x ∷ at ds 5 ∷ []
put_4 [] x h = absurd (omega arith)
put_4 (a ∷ []) x h = absurd (omega arith)
put_4 (a ∷ b ∷ []) x h = absurd (omega arith)
put_4 (a ∷ b ∷ c ∷ []) x h = absurd (omega arith)
put_4 (a ∷ b ∷ c ∷ d ∷ []) x h = absurd (omega arith)
put_4 (a ∷ b ∷ c ∷ d ∷ e ∷ []) x h = absurd (omega arith)
put_4 (a ∷ b ∷ c ∷ d ∷ e ∷ f ∷ []) x h = refl
put_4 (a ∷ b ∷ c ∷ d ∷ e ∷ f ∷ g ∷ ds) x h = absurd (omega arith)

pub put_5 : (ds : List (Option Desc)) (x : Option Desc) → length ds ≡ 6 → slice_set ds 5 x ≡ at ds 0 ∷ at ds 1 ∷ at ds 2 ∷ at ds 3 ∷ at ds 4 ∷ x ∷ []
put_5 [] x h = absurd (omega arith)
put_5 (a ∷ []) x h = absurd (omega arith)
put_5 (a ∷ b ∷ []) x h = absurd (omega arith)
put_5 (a ∷ b ∷ c ∷ []) x h = absurd (omega arith)
put_5 (a ∷ b ∷ c ∷ d ∷ []) x h = absurd (omega arith)
put_5 (a ∷ b ∷ c ∷ d ∷ e ∷ []) x h = absurd (omega arith)
put_5 (a ∷ b ∷ c ∷ d ∷ e ∷ f ∷ []) x h = refl
put_5 (a ∷ b ∷ c ∷ d ∷ e ∷ f ∷ g ∷ ds) x h = absurd (omega arith)

pub ruleset put_steps = (put_0, put_1, put_2, put_3, put_4, put_5)
