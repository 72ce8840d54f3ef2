-- The lines of cycles and of processors, written one after another.
use Rattle.std.proofs.Common.{◌≡◌, ℕ, zero, suc, ◌+◌, ◌<◌, List, [], ◌∷◌, ◌++◌, length, get_or, take, drop, Option, refl, ap, sym, subst, ◌∙◌, append_assoc, append-nil, add-one, add-zero, arith}
use Rattle.std.specs.List.{flat_map}
use Rattle.m386_base.specs.declared.ask.Cycle.{Cycle}
use Rattle.m386_edge.specs.Edge.{Grows, GrowsByFront}
use Rattle.m386_edge.proofs.Edge.{grows_then, front_later, front_now}
use Rattle.m386_memory.specs.declared.ended.ProcEnd.{ProcEnd}
use Rattle.m386_state.specs.declared.proc.Proc.{Proc}
use Rattle.m386_trace.specs.Report.{cycle_text, proc_text, procs_text}

-- ---- texts of items, one after another

-- the items before a place, that at it, and those behind it
flat_map-at : {X : Type 0} (f : X → List ℕ) (xs : List X) (i : ℕ) (d : X) → i < length xs
    → flat_map f xs ≡ (flat_map f (take i xs) ++ f (get_or xs i d)) ++ flat_map f (drop (suc i) xs)
flat_map-at f [] i d lt = absurd (omega arith)
flat_map-at f (x ∷ xs) zero d lt = refl
flat_map-at f (x ∷ xs) (suc i) d lt = ap (λ (rest : List ℕ). f x ++ rest) (flat_map-at f xs i d (omega arith)) ∙ simp append_assoc

-- the items up to a place and with it
flat_map-take : {X : Type 0} (f : X → List ℕ) (xs : List X) (i : ℕ) (d : X) → i < length xs
    → flat_map f (take (suc i) xs) ≡ flat_map f (take i xs) ++ f (get_or xs i d)
flat_map-take f [] i d lt = absurd (omega arith)
flat_map-take f (x ∷ xs) zero d lt = append-nil (f x)
flat_map-take f (x ∷ xs) (suc i) d lt = ap (λ (rest : List ℕ). f x ++ rest) (flat_map-take f xs i d (omega arith)) ∙ sym (append_assoc (f x) (flat_map f (take i xs)) (f (get_or xs i d)))

-- ---- cycles

pub cycles_more : (first old new : Option (List ℕ)) (cycles : List Cycle) (i : ℕ) (d : Cycle) (line : List ℕ) → i < length cycles → line ≡ cycle_text (get_or cycles i d)
    → Grows first old (flat_map cycle_text (take i cycles)) → Grows old new line → Grows first new (flat_map cycle_text (take (i + 1) cycles))
cycles_more first old new cycles i d line lt same before step =
    rw (add-one, flat_map-take cycle_text cycles i d lt) (grows_then first old new _ _ before (subst (λ (text : List ℕ). Grows old new text) same step))

pub cycles_front : (first old new : Option (List ℕ)) (cycles : List Cycle) (i : ℕ) (d : Cycle) (line : List ℕ) → i < length cycles → line ≡ cycle_text (get_or cycles i d)
    → Grows first old (flat_map cycle_text (take i cycles)) → GrowsByFront old new line → GrowsByFront first new (flat_map cycle_text cycles)
cycles_front first old new cycles i d line lt same before step =
    rw (flat_map-at cycle_text cycles i d lt) (front_now first new _ _ (front_later first old new _ _ before (subst (λ (text : List ℕ). GrowsByFront old new text) same step)))

-- ---- processors

procs_text-at : (cpu : ℕ) (procs : List (ProcEnd Proc)) (i : ℕ) (d : ProcEnd Proc) → i < length procs
    → procs_text cpu procs ≡ (procs_text cpu (take i procs) ++ proc_text (cpu + i) (get_or procs i d)) ++ procs_text (cpu + suc i) (drop (suc i) procs)
unfolding procs_text
procs_text-at cpu [] i d lt = absurd (omega arith)
procs_text-at cpu (e ∷ es) zero d lt = simp (add-zero, add-one)
procs_text-at cpu (e ∷ es) (suc i) d lt =
    let after : cpu + 1 + i ≡ cpu + suc i = omega arith in
    let behind : cpu + 1 + suc i ≡ cpu + suc (suc i) = omega arith in
    let step = rw (after, behind) at (procs_text-at (cpu + 1) es i d (omega arith)) in
    ap (λ (rest : List ℕ). proc_text cpu e ++ rest) step ∙ simp append_assoc

procs_text-take : (cpu : ℕ) (procs : List (ProcEnd Proc)) (i : ℕ) (d : ProcEnd Proc) → i < length procs
    → procs_text cpu (take (suc i) procs) ≡ procs_text cpu (take i procs) ++ proc_text (cpu + i) (get_or procs i d)
unfolding procs_text
procs_text-take cpu [] i d lt = absurd (omega arith)
procs_text-take cpu (e ∷ es) zero d lt = simp (add-zero, append-nil)
procs_text-take cpu (e ∷ es) (suc i) d lt =
    let after : cpu + 1 + i ≡ cpu + suc i = omega arith in
    let step = rw after at (procs_text-take (cpu + 1) es i d (omega arith)) in
    ap (λ (rest : List ℕ). proc_text cpu e ++ rest) step ∙ sym (append_assoc (proc_text cpu e) (procs_text (cpu + 1) (take i es)) (proc_text (cpu + suc i) (get_or es i d)))

pub procs_more : (first old new : Option (List ℕ)) (procs : List (ProcEnd Proc)) (i : ℕ) (d : ProcEnd Proc) (line : List ℕ) → i < length procs → line ≡ proc_text i (get_or procs i d)
    → Grows first old (procs_text 0 (take i procs)) → Grows old new line → Grows first new (procs_text 0 (take (i + 1) procs))
procs_more first old new procs i d line lt same before step =
    let at : line ≡ proc_text (0 + i) (get_or procs i d) = same ∙ ap (λ (k : ℕ). proc_text k (get_or procs i d)) (omega arith) in
    rw (add-one, procs_text-take 0 procs i d lt) (grows_then first old new _ _ before (subst (λ (text : List ℕ). Grows old new text) at step))

pub procs_front : (first old new : Option (List ℕ)) (procs : List (ProcEnd Proc)) (i : ℕ) (d : ProcEnd Proc) (line : List ℕ) → i < length procs → line ≡ proc_text i (get_or procs i d)
    → Grows first old (procs_text 0 (take i procs)) → GrowsByFront old new line → GrowsByFront first new (procs_text 0 procs)
procs_front first old new procs i d line lt same before step =
    let at : line ≡ proc_text (0 + i) (get_or procs i d) = same ∙ ap (λ (k : ℕ). proc_text k (get_or procs i d)) (omega arith) in
    rw (procs_text-at 0 procs i d lt) (front_now first new _ _ (front_later first old new _ _ before (subst (λ (text : List ℕ). GrowsByFront old new text) at step)))
