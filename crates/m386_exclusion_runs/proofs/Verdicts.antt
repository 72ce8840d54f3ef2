-- What a verdict says of the fronts of a run.
use Rattle.std.proofs.Common.{◌≡◌, ℕ, zero, suc, ◌≤◌, ◌∙◌, arith, sym, ap, subst, List, [], ◌∷◌, ◌++◌, length, take, refl}
use Rattle.m386_base.specs.declared.ask.Cycle.{Cycle}
use Rattle.m386_image.specs.declared.image.Image.{Image}
use Rattle.m386_image.specs.Format.{IsValid}
use Rattle.m386_memory.specs.History.{past}
use Rattle.m386_memory.specs.declared.ended.ProcEnd.{ProcEnd}
use Rattle.m386_book.specs.Verdict.{NoneStatic, AreClean, IsFirstFailure}
use Rattle.m386_book.specs.declared.verdict.Verdict.{Verdict}
use Rattle.m386_book.specs.declared.verdict.Verdict.TheVariants.{Clean, Static, At}
use Rattle.m386_state.specs.declared.proc.Proc.{Proc}
use Rattle.m386_step.specs.Run.{Run}
use Rattle.m386_exclusion.proofs.Order.{onto, onto_append, past_is}
use Rattle.m386_exclusion_runs.specs.Runs.{ExcludesAfter, IsBeforeFailure}
use Rattle.m386_exclusion_runs.proofs.Runs.{run_excludes}

-- a front of clean cycles is clean
clean_onto : (image : Image) (K older : List Cycle) → AreClean image (onto K older) → AreClean image older
unfolding onto AreClean
clean_onto image [] older h = h
clean_onto image (x ∷ K) older h = (clean_onto image K (x ∷ older) h).1

clean_front : (image : Image) (G K : List Cycle) → AreClean image (past (G ++ K)) → AreClean image (past G)
clean_front image G K h =
    let laid : past (G ++ K) ≡ onto K (past G) = past_is (G ++ K) ∙ onto_append G K [] ∙ ap (onto K) (sym (past_is G)) in
    clean_onto image K (past G) (subst (AreClean image) laid h)

-- what is taken goes on behind a shorter front
take_front : (n : ℕ) (G K : List Cycle) → length G ≤ n → (L : List Cycle) × (take n (G ++ K) ≡ G ++ L)
take_front n [] K h = (take n K, refl)
take_front zero (x ∷ G) K h = absurd (omega (arith, h))
take_front (suc n) (x ∷ G) K h = let r = take_front n G K (omega (arith, h)) in (r.0, ap (λ xs. x ∷ xs) r.1)

front_clean : (image : Image) (H G K : List Cycle) (verdict : Verdict) → IsFirstFailure image H verdict → H ≡ G ++ K → IsBeforeFailure verdict (length G) → NoneStatic image × AreClean image (past G)
front_clean image H G K Clean f e b = (f.0, clean_front image G K (subst (λ xs. AreClean image (past xs)) e f.1))
front_clean image H G K (Static rule) f e b = absurd b
front_clean image H G K (At rule index) f e b =
    let r = take_front index G K b in
    let cut : take index H ≡ G ++ r.0 = ap (take index) e ∙ r.1 in
    (f.0, clean_front image G r.0 (subst (λ xs. AreClean image (past xs)) cut f.2))

-- Each front of a run before its first failure excludes.
pub front_excludes : (image : Image) (c n : ℕ) (H : List Cycle) (E : List (ProcEnd Proc)) (verdict : Verdict) → IsValid image → (run : Run image c n H E) → IsFirstFailure image H verdict → (G K : List Cycle) → H ≡ G ++ K → IsBeforeFailure verdict (length G) → ExcludesAfter image run.first c G
front_excludes image c n H E verdict valid run f G K e b =
    let clean = front_clean image H G K verdict f e b in
    (run_excludes image c n H E valid run).fronts G K e clean.0 clean.1
