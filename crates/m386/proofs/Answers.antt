-- What follows from when each status comes.
use Rattle.std.proofs.Common.{◌≡◌, ℕ, ◌<◌, ◌≤◌, ◌⊎◌, inl, inr, refl, sym, subst, ◌∙◌, ap, arith, List, [], ◌++◌, length, append-nil, length-append, cond, eqb, Option, Some, None, Result, Ok, Err}
use Rattle.m386_asm.proofs.Unique.{lays_out_once}
use Rattle.m386_asm.specs.Layout.{Layout}
use Rattle.m386_base.specs.Bus.{Rose}
use Rattle.m386_edge.specs.Edge.{Gave, given_back}
use Rattle.m386_image.proofs.Judging.{image_same, image_no_fault}
use Rattle.m386_image.specs.Fault.{FirstFault, fault_number}
use Rattle.m386_image.specs.Format.{ImageOf}
use Rattle.m386_image.specs.declared.fault.ImageFault.{ImageFault}
use Rattle.m386_image.specs.declared.fault.ImageFault.TheVariants.{ShortHeader, Magic, Version, MemorySize, Processors, Flags, Truncated, PlanOrder, Trailing}
use Rattle.m386_image.specs.declared.fault.ImageFault.TheVariants as faults
use Rattle.m386_image.specs.declared.image.Image.{Image as ImageData}
use Rattle.m386_lines.specs.declared.kind.AsmKind.{AsmKind}
use Rattle.m386.specs.Top.{Edges, GaveText, IsAnswer, IsAssembled, IsRunAnswer, IsSoaked, IsReport, OrMemory, SourceGave, most_bytes, refusal}
use Rattle.m386_calls.specs.Words.{as_run}
use Rattle.m386_calls.specs.declared.call.Asked.{Asked}
use Rattle.m386_calls.specs.declared.call.Call.{Call}
use Rattle.m386_calls.specs.declared.call.Call.TheVariants.{Assemble, Run, Soak}
use Rattle.m386_calls.specs.declared.usage.UsageKind.{UsageKind}
use Rattle.m386.specs.declared.status.Status.{Status}
use Rattle.m386.specs.declared.status.Status.TheVariants.{Done, Memory, Usage, ReadFault, WriteFault, Image, Asm, TooLong}

-- words that are refused aren't valid
pub not_both : {A : Type 0} (meant : Result Asked UsageKind) (kind : UsageKind) (asked : Asked) → meant ≡ Err kind → meant ≡ Ok asked → A
not_both meant kind asked e o = let d : Err kind ≡ Ok asked = sym e ∙ o in cc

-- words ask for one run
one_asked : (meant : Result Asked UsageKind) (a b : Asked) → meant ≡ Ok a → meant ≡ Ok b → a ≡ b
one_asked meant a b x y = let d : Ok a ≡ Ok b = sym x ∙ y in cc

run_usage : (meant : Result Asked UsageKind) (old new : Edges) (status : Status) (kind : UsageKind) → IsRunAnswer meant old new status → meant ≡ Err kind → OrMemory status (Usage kind)
run_usage meant old new Done kind h e = not_both meant kind h.1.asked e h.1.words_mean_it
run_usage meant old new Memory kind h e = inr refl
run_usage meant old new (Usage k) kind (inl h, u) e =
    let t : k ≡ kind = cc in
    inl (ap Usage t)
run_usage meant old new (Usage k) kind (inr h, u) e = not_both meant kind h.asked e h.words_mean_it
run_usage meant old new ReadFault kind h e = not_both meant kind h.0.0 e h.0.1
run_usage meant old new WriteFault kind h e = not_both meant kind h.1.asked e h.1.words_mean_it
run_usage meant old new (Image f) kind h e = not_both meant kind h.0.0 e h.0.1
run_usage meant old new (Asm line fault) kind h e = absurd h
run_usage meant old new TooLong kind h e = not_both meant kind h.0.0 e h.0.1

-- the bytes that a source gave are at the front of those that it told
gave_front : (old new : Option (List ℕ)) (bytes told : List ℕ) → Gave old new bytes → old ≡ Some told → (rest : List ℕ) × (told ≡ bytes ++ rest) × (new ≡ Some rest)
unfolding given_back
gave_front old None bytes told g e = let d : None ≡ Some told = sym g ∙ e in cc
gave_front old (Some rest) bytes told g e =
    let s : Some (bytes ++ rest) ≡ Some told = sym g ∙ e in
    let t : told ≡ bytes ++ rest = cc in
    (rest, t, refl)

-- all of them, where it was read to its end
gave_all : (old new : Edges) (bytes told : List ℕ) → SourceGave old new bytes → old.left ≡ Some told → bytes ≡ told
gave_all old new bytes told g e =
    let f = gave_front old.left new.left bytes told g.gave e in
    let empty : f.0 ≡ [] = rw f.2 at g.emptied in
    sym (append-nil bytes) ∙ ap (λ r. bytes ++ r) (sym empty) ∙ sym f.1

-- no more than it has
gave_short : (old new : Option (List ℕ)) (bytes told : List ℕ) → Gave old new bytes → old ≡ Some told → length bytes ≤ length told
gave_short old new bytes told g e =
    let f = gave_front old new bytes told g e in
    omega (arith, length-append bytes f.0, ap length f.1)

-- the fault of a number
numbered : ℕ → ImageFault
numbered n =
    cond (eqb n 1) ShortHeader (cond (eqb n 2) Magic (cond (eqb n 3) Version (cond (eqb n 4) MemorySize (cond (eqb n 5) Processors
    (cond (eqb n 6) Flags (cond (eqb n 7) Truncated (cond (eqb n 8) PlanOrder (cond (eqb n 9) faults.Section Trailing))))))))

numbers_back : (f : ImageFault) → numbered (fault_number f) ≡ f
unfolding numbered
numbers_back ShortHeader = refl
numbers_back Magic = refl
numbers_back Version = refl
numbers_back MemorySize = refl
numbers_back Processors = refl
numbers_back Flags = refl
numbers_back Truncated = refl
numbers_back PlanOrder = refl
numbers_back faults.Section = refl
numbers_back Trailing = refl

-- bytes have one first fault
one_fault : (bytes : List ℕ) (f g : ImageFault) → FirstFault bytes f → FirstFault bytes g → f ≡ g
one_fault bytes f g a b =
    let low : ¬ (fault_number f < fault_number g) = λ l. b.none_before f l a.stands in
    let high : ¬ (fault_number g < fault_number f) = λ l. a.none_before g l b.stands in
    let same : fault_number f ≡ fault_number g = omega (arith, low, high) in
    sym (numbers_back f) ∙ ap numbered same ∙ numbers_back g

-- an image has no fault
not_faulty : {A : Type 0} (bytes : List ℕ) (image : ImageData) (fault : ImageFault) → ImageOf bytes image → FirstFault bytes fault → A
not_faulty bytes image fault i f = absurd (image_no_fault bytes image i fault f.stands)

-- what was read and asked for is what was told and words
pub met : (meant : Result Asked UsageKind) (old new : Edges) (a b : Asked) (bytes told : List ℕ) (i j : ImageData) → meant ≡ Ok a → meant ≡ Ok b → SourceGave old new bytes → old.left ≡ Some told → ImageOf bytes i → ImageOf told j → refusal i a ≡ refusal j b
met meant old new a b bytes told i j x y r l m n =
    let same : bytes ≡ told = gave_all old new bytes told r l in
    let one : i ≡ j = image_same told i j (rw same at m) n in
    let asked : a ≡ b = one_asked meant a b x y in
    rw (one, asked) refl

run_complete : (meant : Result Asked UsageKind) (old new : Edges) (status : Status) → IsRunAnswer meant old new status → (asked : Asked) (bytes : List ℕ) (image : ImageData) → meant ≡ Ok asked → old.left ≡ Some bytes → length bytes ≤ most_bytes → ImageOf bytes image → refusal image asked ≡ None → ¬ Rose old.reads_failed new.reads_failed → ¬ Rose old.writes_failed new.writes_failed → OrMemory status Done
run_complete meant old new Done h asked bytes image w l short i f r k = inl refl
run_complete meant old new Memory h asked bytes image w l short i f r k = inr refl
run_complete meant old new (Usage kind) (inl h, u) asked bytes image w l short i f r k = not_both meant kind asked h.0 w
run_complete meant old new (Usage kind) (inr h, u) asked bytes image w l short i f r k =
    let d : Some kind ≡ None = sym h.refused ∙ met meant old new h.asked asked h.bytes bytes h.image image h.words_mean_it w h.was_read l h.is_image i ∙ f in
    cc
run_complete meant old new ReadFault h asked bytes image w l short i f r k = absurd (r h.1)
run_complete meant old new WriteFault h asked bytes image w l short i f r k = absurd (k h.3)
run_complete meant old new (Image fault) h asked bytes image w l short i f r k =
    let same : h.1.0 ≡ bytes = gave_all old new h.1.0 bytes h.1.1 l in
    not_faulty bytes image fault i (rw same at h.1.2)
run_complete meant old new (Asm line kind) h asked bytes image w l short i f r k = absurd h
run_complete meant old new TooLong h asked bytes image w l short i f r k =
    absurd (omega (arith, gave_short old.left new.left h.1.0 bytes h.1.2 l, h.1.1))

-- what an image refuses isn't run
not_refused : {A : Type 0} (meant : Result Asked UsageKind) (old new : Edges) (text : List ℕ) (asked : Asked) (bytes : List ℕ) (image : ImageData) (kind : UsageKind) → IsReport meant old new text → meant ≡ Ok asked → old.left ≡ Some bytes → ImageOf bytes image → refusal image asked ≡ Some kind → A
not_refused meant old new text asked bytes image kind h w l i f =
    let d : None ≡ Some kind = sym h.run_text.allowed ∙ met meant old new h.asked asked h.bytes bytes h.image image h.words_mean_it w h.was_read l h.is_image i ∙ f in
    cc

run_excess : (meant : Result Asked UsageKind) (old new : Edges) (status : Status) → IsRunAnswer meant old new status → (asked : Asked) (bytes : List ℕ) (image : ImageData) (kind : UsageKind) → meant ≡ Ok asked → old.left ≡ Some bytes → length bytes ≤ most_bytes → ImageOf bytes image → refusal image asked ≡ Some kind → ¬ Rose old.reads_failed new.reads_failed → OrMemory status (Usage kind)
run_excess meant old new Done h asked bytes image kind w l short i f r = not_refused meant old new h.0 asked bytes image kind h.1 w l i f
run_excess meant old new Memory h asked bytes image kind w l short i f r = inr refl
run_excess meant old new (Usage k) (inl h, u) asked bytes image kind w l short i f r = not_both meant k asked h.0 w
run_excess meant old new (Usage k) (inr h, u) asked bytes image kind w l short i f r =
    let d : Some k ≡ Some kind = sym h.refused ∙ met meant old new h.asked asked h.bytes bytes h.image image h.words_mean_it w h.was_read l h.is_image i ∙ f in
    let t : k ≡ kind = cc in
    inl (ap Usage t)
run_excess meant old new ReadFault h asked bytes image kind w l short i f r = absurd (r h.1)
run_excess meant old new WriteFault h asked bytes image kind w l short i f r = not_refused meant old new h.0 asked bytes image kind h.1 w l i f
run_excess meant old new (Image fault) h asked bytes image kind w l short i f r =
    let same : h.1.0 ≡ bytes = gave_all old new h.1.0 bytes h.1.1 l in
    not_faulty bytes image fault i (rw same at h.1.2)
run_excess meant old new (Asm line fault) h asked bytes image kind w l short i f r = absurd h
run_excess meant old new TooLong h asked bytes image kind w l short i f r =
    absurd (omega (arith, gave_short old.left new.left h.1.0 bytes h.1.2 l, h.1.1))

-- bytes with a fault aren't run
pub not_run : {A : Type 0} (meant : Result Asked UsageKind) (old new : Edges) (text bytes : List ℕ) (fault : ImageFault) → IsReport meant old new text → old.left ≡ Some bytes → FirstFault bytes fault → A
not_run meant old new text bytes fault h l f =
    let same : h.bytes ≡ bytes = gave_all old new h.bytes bytes h.was_read l in
    not_faulty bytes h.image fault (rw same at h.is_image) f

run_image : (meant : Result Asked UsageKind) (old new : Edges) (status : Status) → IsRunAnswer meant old new status → (asked : Asked) (bytes : List ℕ) (fault : ImageFault) → meant ≡ Ok asked → old.left ≡ Some bytes → length bytes ≤ most_bytes → FirstFault bytes fault → ¬ Rose old.reads_failed new.reads_failed → OrMemory status (Image fault)
run_image meant old new Done h asked bytes fault w l short f r = not_run meant old new h.0 bytes fault h.1 l f
run_image meant old new Memory h asked bytes fault w l short f r = inr refl
run_image meant old new (Usage kind) (inl h, u) asked bytes fault w l short f r = not_both meant kind asked h.0 w
run_image meant old new (Usage kind) (inr h, u) asked bytes fault w l short f r =
    let same : h.bytes ≡ bytes = gave_all old new h.bytes bytes h.was_read l in
    not_faulty bytes h.image fault (rw same at h.is_image) f
run_image meant old new ReadFault h asked bytes fault w l short f r = absurd (r h.1)
run_image meant old new WriteFault h asked bytes fault w l short f r = not_run meant old new h.0 bytes fault h.1 l f
run_image meant old new (Image other) h asked bytes fault w l short f r =
    let same : h.1.0 ≡ bytes = gave_all old new h.1.0 bytes h.1.1 l in
    inl (ap Image (one_fault bytes other fault (rw same at h.1.2) f))
run_image meant old new (Asm line kind) h asked bytes fault w l short f r = absurd h
run_image meant old new TooLong h asked bytes fault w l short f r =
    absurd (omega (arith, gave_short old.left new.left h.1.0 bytes h.1.2 l, h.1.1))

-- what was read isn't too long
not_long : {A : Type 0} (old new : Edges) (bytes told : List ℕ) → SourceGave old new bytes → old.left ≡ Some told → most_bytes < length told → A
not_long old new bytes told g l long = absurd (omega (arith, g.within, ap length (gave_all old new bytes told g l), long))

run_too_long : (meant : Result Asked UsageKind) (old new : Edges) (status : Status) → IsRunAnswer meant old new status → (asked : Asked) (bytes : List ℕ) → meant ≡ Ok asked → old.left ≡ Some bytes → most_bytes < length bytes → ¬ Rose old.reads_failed new.reads_failed → OrMemory status TooLong
run_too_long meant old new Done h asked bytes w l long r = not_long old new h.1.bytes bytes h.1.was_read l long
run_too_long meant old new Memory h asked bytes w l long r = inr refl
run_too_long meant old new (Usage kind) (inl h, u) asked bytes w l long r = not_both meant kind asked h.0 w
run_too_long meant old new (Usage kind) (inr h, u) asked bytes w l long r = not_long old new h.bytes bytes h.was_read l long
run_too_long meant old new ReadFault h asked bytes w l long r = absurd (r h.1)
run_too_long meant old new WriteFault h asked bytes w l long r = not_long old new h.1.bytes bytes h.1.was_read l long
run_too_long meant old new (Image fault) h asked bytes w l long r = not_long old new h.1.0 bytes h.1.1 l long
run_too_long meant old new (Asm line kind) h asked bytes w l long r = absurd h
run_too_long meant old new TooLong h asked bytes w l long r = inl refl

-- ---- the same of any call

-- a call that asks for a run is answered as that run
pub of_run : (meant : Result Call UsageKind) (old new : Edges) (status : Status) (asked : Asked) → meant ≡ Ok (Run asked) → IsAnswer meant old new status → IsRunAnswer (Ok asked) old new status
of_run meant old new status asked e h = subst (λ (m : Result Call UsageKind). IsAnswer m old new status) e h

-- what the words mean as a run is what they mean
as_answered : (run : Result Asked UsageKind) (old new : Edges) (status : Status) → IsRunAnswer run old new status → IsAnswer (as_run run) old new status
as_answered (Ok asked) old new status h = h
as_answered (Err kind) old new status h = h

pub answered_as_run : (meant : Result Call UsageKind) (run : Result Asked UsageKind) (old new : Edges) (status : Status) → meant ≡ as_run run → IsRunAnswer run old new status → IsAnswer meant old new status
answered_as_run meant run old new status e h = subst (λ (m : Result Call UsageKind). IsAnswer m old new status) (sym e) (as_answered run old new status h)

pub answer_usage : (meant : Result Call UsageKind) (old new : Edges) (status : Status) (kind : UsageKind) → IsAnswer meant old new status → meant ≡ Err kind → OrMemory status (Usage kind)
answer_usage meant old new status kind h e = run_usage (Err kind) old new status kind (subst (λ (m : Result Call UsageKind). IsAnswer m old new status) e h) refl

pub answer_complete : (meant : Result Call UsageKind) (old new : Edges) (status : Status) → IsAnswer meant old new status → (asked : Asked) (bytes : List ℕ) (image : ImageData) → meant ≡ Ok (Run asked) → old.left ≡ Some bytes → length bytes ≤ most_bytes → ImageOf bytes image → refusal image asked ≡ None → ¬ Rose old.reads_failed new.reads_failed → ¬ Rose old.writes_failed new.writes_failed → OrMemory status Done
answer_complete meant old new status h asked bytes image w = run_complete (Ok asked) old new status (of_run meant old new status asked w h) asked bytes image refl

pub answer_excess : (meant : Result Call UsageKind) (old new : Edges) (status : Status) → IsAnswer meant old new status → (asked : Asked) (bytes : List ℕ) (image : ImageData) (kind : UsageKind) → meant ≡ Ok (Run asked) → old.left ≡ Some bytes → length bytes ≤ most_bytes → ImageOf bytes image → refusal image asked ≡ Some kind → ¬ Rose old.reads_failed new.reads_failed → OrMemory status (Usage kind)
answer_excess meant old new status h asked bytes image kind w = run_excess (Ok asked) old new status (of_run meant old new status asked w h) asked bytes image kind refl

pub answer_image : (meant : Result Call UsageKind) (old new : Edges) (status : Status) → IsAnswer meant old new status → (asked : Asked) (bytes : List ℕ) (fault : ImageFault) → meant ≡ Ok (Run asked) → old.left ≡ Some bytes → length bytes ≤ most_bytes → FirstFault bytes fault → ¬ Rose old.reads_failed new.reads_failed → OrMemory status (Image fault)
answer_image meant old new status h asked bytes fault w = run_image (Ok asked) old new status (of_run meant old new status asked w h) asked bytes fault refl

pub answer_too_long : (meant : Result Call UsageKind) (old new : Edges) (status : Status) → IsAnswer meant old new status → (asked : Asked) (bytes : List ℕ) → meant ≡ Ok (Run asked) → old.left ≡ Some bytes → most_bytes < length bytes → ¬ Rose old.reads_failed new.reads_failed → OrMemory status TooLong
answer_too_long meant old new status h asked bytes w = run_too_long (Ok asked) old new status (of_run meant old new status asked w h) asked bytes refl

-- a soak ends so
soaked_so : (number : ℕ) (old new : Edges) (status : Status) → IsSoaked number old new status → ¬ Rose old.writes_failed new.writes_failed → OrMemory status Done
soaked_so number old new Done h k = inl refl
soaked_so number old new Memory h k = inr refl
soaked_so number old new (Usage kind) h k = absurd h
soaked_so number old new ReadFault h k = absurd h
soaked_so number old new WriteFault h k = absurd (k h.3)
soaked_so number old new (Image fault) h k = absurd h
soaked_so number old new (Asm line kind) h k = absurd h
soaked_so number old new TooLong h k = absurd h

pub answer_soaked : (meant : Result Call UsageKind) (old new : Edges) (status : Status) → IsAnswer meant old new status → (number : ℕ) → meant ≡ Ok (Soak number) → ¬ Rose old.writes_failed new.writes_failed → OrMemory status Done
answer_soaked meant old new status h number w = soaked_so number old new status (subst (λ (m : Result Call UsageKind). IsAnswer m old new status) w h).1

-- ---- the image of a source text

-- a faulty line is no image
no_image : {A B : Type 0} (a : A) (b : B) → Err a ≡ Ok b → ⊥
no_image a b e = cc

-- a text has one fault
same_fault : {A B : Type 0} (x : Result A B) (a b : B) → x ≡ Err a → x ≡ Err b → a ≡ b
same_fault x a b p q = let e : Err a ≡ Err b = sym p ∙ q in cc

-- a text that was read is the text that was told, which lays out one thing
one_layout : (old new : Edges) (text : List ℕ) (a b : Result (List ℕ) (ℕ × AsmKind)) → GaveText old new a → old.left ≡ Some text → Layout text b → a ≡ b
one_layout old new text a b h l lays = lays_out_once text a b (subst (λ (t : List ℕ). Layout t a) (gave_all old new h.0 text h.1 l) h.2) lays

assembled_so : (old new : Edges) (status : Status) → IsAssembled old new status → (text bytes : List ℕ) → old.left ≡ Some text → length text ≤ most_bytes → Layout text (Ok bytes) → ¬ Rose old.reads_failed new.reads_failed → ¬ Rose old.writes_failed new.writes_failed → OrMemory status Done
assembled_so old new Done h text bytes l short lays r k = inl refl
assembled_so old new Memory h text bytes l short lays r k = inr refl
assembled_so old new (Usage kind) h text bytes l short lays r k = absurd h
assembled_so old new ReadFault h text bytes l short lays r k = absurd (r h.0)
assembled_so old new WriteFault h text bytes l short lays r k = absurd (k h.3)
assembled_so old new (Image fault) h text bytes l short lays r k = absurd h
assembled_so old new (Asm line kind) h text bytes l short lays r k = absurd (no_image (line, kind) bytes (one_layout old new text (Err (line, kind)) (Ok bytes) h.0 l lays))
assembled_so old new TooLong h text bytes l short lays r k = absurd (omega (arith, gave_short old.left new.left h.0.0 text h.0.2 l, h.0.1))

faulty_so : (old new : Edges) (status : Status) → IsAssembled old new status → (text : List ℕ) (line : ℕ) (kind : AsmKind) → old.left ≡ Some text → length text ≤ most_bytes → Layout text (Err (line, kind)) → ¬ Rose old.reads_failed new.reads_failed → (status ≡ Asm line kind) ⊎ (status ≡ Memory)
faulty_so old new Done h text line kind l short lays r = absurd (no_image (line, kind) h.0 (sym (one_layout old new text (Ok h.0) (Err (line, kind)) h.1 l lays)))
faulty_so old new Memory h text line kind l short lays r = inr refl
faulty_so old new (Usage k) h text line kind l short lays r = absurd h
faulty_so old new ReadFault h text line kind l short lays r = absurd (r h.0)
faulty_so old new WriteFault h text line kind l short lays r = absurd (no_image (line, kind) h.0 (sym (one_layout old new text (Ok h.0) (Err (line, kind)) h.1 l lays)))
faulty_so old new (Image fault) h text line kind l short lays r = absurd h
faulty_so old new (Asm n k) h text line kind l short lays r =
    inl (ap (λ (fault : ℕ × AsmKind). Asm fault.0 fault.1) (same_fault (Err (n, k)) (n, k) (line, kind) refl (one_layout old new text (Err (n, k)) (Err (line, kind)) h.0 l lays)))
faulty_so old new TooLong h text line kind l short lays r = absurd (omega (arith, gave_short old.left new.left h.0.0 text h.0.2 l, h.0.1))

-- a text that was read isn't too long
too_long_so : (old new : Edges) (status : Status) → IsAssembled old new status → (text : List ℕ) → old.left ≡ Some text → most_bytes < length text → ¬ Rose old.reads_failed new.reads_failed → OrMemory status TooLong
too_long_so old new Done h text l long r = not_long old new h.1.0 text h.1.1 l long
too_long_so old new Memory h text l long r = inr refl
too_long_so old new (Usage kind) h text l long r = absurd h
too_long_so old new ReadFault h text l long r = absurd (r h.0)
too_long_so old new WriteFault h text l long r = not_long old new h.1.0 text h.1.1 l long
too_long_so old new (Image fault) h text l long r = absurd h
too_long_so old new (Asm line kind) h text l long r = not_long old new h.0.0 text h.0.1 l long
too_long_so old new TooLong h text l long r = inl refl

-- a call that asks for the image of a text is answered as that
of_text : (meant : Result Call UsageKind) (old new : Edges) (status : Status) → meant ≡ Ok Assemble → IsAnswer meant old new status → IsAssembled old new status
of_text meant old new status e h = subst (λ (m : Result Call UsageKind). IsAnswer m old new status) e h

pub answer_assembled : (meant : Result Call UsageKind) (old new : Edges) (status : Status) → IsAnswer meant old new status → (text bytes : List ℕ) → meant ≡ Ok Assemble → old.left ≡ Some text → length text ≤ most_bytes → Layout text (Ok bytes) → ¬ Rose old.reads_failed new.reads_failed → ¬ Rose old.writes_failed new.writes_failed → OrMemory status Done
answer_assembled meant old new status h text bytes w = assembled_so old new status (of_text meant old new status w h) text bytes

pub answer_faulty : (meant : Result Call UsageKind) (old new : Edges) (status : Status) → IsAnswer meant old new status → (text : List ℕ) (line : ℕ) (kind : AsmKind) → meant ≡ Ok Assemble → old.left ≡ Some text → length text ≤ most_bytes → Layout text (Err (line, kind)) → ¬ Rose old.reads_failed new.reads_failed → (status ≡ Asm line kind) ⊎ (status ≡ Memory)
answer_faulty meant old new status h text line kind w = faulty_so old new status (of_text meant old new status w h) text line kind

pub answer_long_text : (meant : Result Call UsageKind) (old new : Edges) (status : Status) → IsAnswer meant old new status → (text : List ℕ) → meant ≡ Ok Assemble → old.left ≡ Some text → most_bytes < length text → ¬ Rose old.reads_failed new.reads_failed → OrMemory status TooLong
answer_long_text meant old new status h text w = too_long_so old new status (of_text meant old new status w h) text

-- want of memory leaves what there was
pub memory_answers : (meant : Result Call UsageKind) (old new : Edges) → new.left ≡ old.left → new.held ≡ old.held → IsAnswer meant old new Memory
memory_answers (Ok (Run asked)) old new l h = h
memory_answers (Ok Assemble) old new l h = h
memory_answers (Ok (Soak number)) old new l h = (l, h)
memory_answers (Err kind) old new l h = h

pub ruleset answers = (answer_usage, answer_complete)
