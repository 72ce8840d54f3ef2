-- What is an answer of a call, and what is none.
use Rattle.std.proofs.Common.{◌≡◌, ℕ, ◌+◌, ◌<◌, ◌≤◌, inl, inr, refl, sym, subst, ◌∙◌, ap, arith, List, [], ◌∷◌, ◌++◌, length, append-nil, length-append, codes, Option, Some, None, Result, Ok, Err}
use Rattle.std.specs.List.{flat_map}
use Rattle.std.proofs.lemmas.Option.{same_Some}
use Rattle.m386_asm.specs.Layout.{Layout, image_of}
use Rattle.m386_base.specs.declared.ask.Cycle.{Cycle}
use Rattle.m386_book.specs.declared.verdict.Verdict.{Verdict}
use Rattle.m386_edge.specs.Edge.{Grows, given_back, grown}
use Rattle.m386_gen.specs.Generated.{generated}
use Rattle.m386_image.specs.Fault.{FirstFault}
use Rattle.m386_image.specs.Format.{ImageOf, counts_text, entry_text, image_text, section_text, tables_text, u16_bytes, u32_bytes}
use Rattle.m386_image.specs.declared.fault.ImageFault.{ImageFault}
use Rattle.m386_image.specs.declared.image.Image.{Image as ImageData}
use Rattle.m386_memory.specs.Contents.{Contents}
use Rattle.m386_memory.specs.declared.ended.ProcEnd.{ProcEnd}
use Rattle.m386_state.specs.declared.proc.Proc.{Proc}
use Rattle.m386_trace.specs.Line.{spaced}
use Rattle.m386_trace.specs.Report.{cycle_text, left_at, procs_text, machine_text, verdict_text, title_text, report_text}
use Rattle.m386_trace.specs.Soak.{soak_fields, soak_text, tasks_of, verdict_fields}
use Rattle.m386_trace.specs.Tasks.{tasks_text}
use Rattle.m386.proofs.Answers.{not_both, met, not_run, of_run}
use Rattle.m386.specs.Top.{Edges, IsAnswer, IsAssembled, IsRunAnswer, IsSoaked, most_bytes, refusal}
use Rattle.m386_calls.specs.declared.call.Asked.{Asked}
use Rattle.m386_calls.specs.declared.call.Call.{Call}
use Rattle.m386_calls.specs.declared.call.Call.TheVariants.{Assemble, Run, Soak}
use Rattle.m386_calls.specs.declared.usage.UsageKind.{UsageKind}
use Rattle.m386.specs.declared.status.Status.TheVariants.{Done, Usage, Image}

pub refused_words : (meant : Result Call UsageKind) (edges : Edges) (kind : UsageKind) → meant ≡ Err kind → IsAnswer meant edges edges (Usage kind)
refused_words meant edges kind e = subst (λ (m : Result Call UsageKind). IsAnswer m edges edges (Usage kind)) (sym e) (inl (refl, refl), refl)

run_allowed : (old new : Edges) (asked : Asked) (bytes : List ℕ) (image : ImageData) (kind : UsageKind) → old.left ≡ Some bytes → ImageOf bytes image → refusal image asked ≡ None → IsRunAnswer (Ok asked) old new (Usage kind) → ⊥
run_allowed old new asked bytes image kind l i f (inl h, u) = not_both (Ok asked) kind asked h.0 refl
run_allowed old new asked bytes image kind l i f (inr h, u) =
    let d : Some kind ≡ None = sym h.refused ∙ met (Ok asked) old new h.asked asked h.bytes bytes h.image image h.words_mean_it refl h.was_read l h.is_image i ∙ f in
    cc

pub valid_words : (meant : Result Call UsageKind) (old new : Edges) (asked : Asked) (bytes : List ℕ) (image : ImageData) (kind : UsageKind) → meant ≡ Ok (Run asked) → old.left ≡ Some bytes → ImageOf bytes image → refusal image asked ≡ None → IsAnswer meant old new (Usage kind) → ⊥
valid_words meant old new asked bytes image kind w l i f h = run_allowed old new asked bytes image kind l i f (of_run meant old new (Usage kind) asked w h)

pub faulty_image : (meant : Result Call UsageKind) (edges : Edges) (asked : Asked) (bytes : List ℕ) (fault : ImageFault) → meant ≡ Ok (Run asked) → edges.left ≡ Some bytes → length bytes ≤ most_bytes → FirstFault bytes fault → IsAnswer meant edges (record edges { left = Some [] }) (Image fault)
unfolding given_back
faulty_image meant edges asked bytes fault w l short f =
    subst (λ (m : Result Call UsageKind). IsAnswer m edges (record edges { left = Some [] }) (Image fault)) (sym w)
    ((asked, refl), (bytes, record { within = short; gave = l ∙ ap Some (sym (append-nil bytes)); emptied = refl }, f), refl)

pub not_done : (meant : Result Call UsageKind) (old new : Edges) (bytes : List ℕ) (fault : ImageFault) → ((number : ℕ) → meant ≡ Ok (Soak number) → ⊥) → (meant ≡ Ok Assemble → ⊥) → old.left ≡ Some bytes → FirstFault bytes fault → IsAnswer meant old new Done → ⊥
not_done (Ok (Run asked)) old new bytes fault other text l f h = not_run (Ok asked) old new h.0 bytes fault h.1 l f
not_done (Ok Assemble) old new bytes fault other text l f h = text refl
not_done (Ok (Soak number)) old new bytes fault other text l f h = other number refl
not_done (Err kind) old new bytes fault other text l f h = not_run (Err kind) old new h.0 bytes fault h.1 l f

-- a report has a first line
some_report : (image : ImageData) (first : Contents) (history : List Cycle) (procs : List (ProcEnd Proc)) (verdict : Verdict) → 0 < length (report_text image first history procs verdict)
unfolding report_text title_text
some_report image first history procs verdict =
    let rest : List ℕ = machine_text image (length procs) ++ flat_map cycle_text history ++ procs_text 0 procs ++ tasks_text (left_at first history) image.gdt ++ verdict_text verdict in
    let l : length (codes "m386 report 1\n" ++ rest) ≡ 14 + length rest = length-append (codes "m386 report 1\n") rest in
    omega (arith, l)

nothing_grown : (old new : Option (List ℕ)) (held text : List ℕ) → old ≡ Some held → new ≡ old → Grows old new text → length text ≡ 0
unfolding grown
nothing_grown None new held text o same g = let d : None ≡ Some held = o in cc
nothing_grown (Some before) new held text o same g =
    let e : before ≡ before ++ text = same_Some _ _ (sym same ∙ g) in
    let l : length before ≡ length before + length text = ap length e ∙ length-append before text in
    omega (arith, l)

run_silent : (meant : Result Asked UsageKind) (old new : Edges) (held : List ℕ) → old.held ≡ Some held → new.held ≡ old.held → IsRunAnswer meant old new Done → ⊥
run_silent meant old new held o same h =
    let none : length h.0 ≡ 0 = nothing_grown old.held new.held held h.0 o same h.2 in
    let t : length h.0 ≡ length (report_text h.1.image h.1.run_text.run.run.first h.1.run_text.history h.1.run_text.ends h.1.run_text.verdict) = ap length h.1.run_text.text_is in
    omega (arith, none, t, some_report h.1.image h.1.run_text.run.run.first h.1.run_text.history h.1.run_text.ends h.1.run_text.verdict)

-- a soak's line has its first word
some_line : (number cpus tasks : ℕ) (history : List Cycle) (verdict : Verdict) → 0 < length (soak_text number cpus tasks history verdict)
unfolding soak_text
some_line number cpus tasks history verdict =
    let rest : List ℕ = spaced (soak_fields number cpus tasks history ++ verdict_fields verdict) ++ codes "\n" in
    let l : length (codes "soak" ++ rest) ≡ 4 + length rest = length-append (codes "soak") rest in
    omega (arith, l)

soak_silent : (number : ℕ) (old new : Edges) (held : List ℕ) → old.held ≡ Some held → new.held ≡ old.held → IsSoaked number old new Done → ⊥
soak_silent number old new held o same h =
    let image : ImageData = generated number in
    let none : length h.0 ≡ 0 = nothing_grown old.held new.held held h.0 o same h.2 in
    let t : length h.0 ≡ length (soak_text number image.cpus (tasks_of image) h.1.history h.1.verdict) = ap length h.1.text_is in
    omega (arith, none, t, some_line number image.cpus (tasks_of image) h.1.history h.1.verdict)

-- no image is shorter than its first four bytes
some_image : (image : ImageData) → 0 < length (image_text image)
unfolding image_text
some_image image =
    let rest : List ℕ = (u16_bytes 1 ++ (image.cpus ∷ image.flags ∷ []) ++ u32_bytes image.memory) ++ (tables_text image ++ counts_text image ++ flat_map u32_bytes image.starts ++ flat_map entry_text image.plan ++ flat_map section_text image.sections) in
    let l : length (codes "M386" ++ rest) ≡ 4 + length rest = length-append (codes "M386") rest in
    omega (arith, l)

text_silent : (old new : Edges) (held : List ℕ) → old.held ≡ Some held → new.held ≡ old.held → IsAssembled old new Done → ⊥
text_silent old new held o same h =
    let none : length h.0 ≡ 0 = nothing_grown old.held new.held held h.0 o same h.2 in
    let lays : Layout h.1.0 (Ok h.0) = h.1.2 in
    omega (arith, none, ap length lays.4, some_image (image_of lays.0))

pub silent : (meant : Result Call UsageKind) (old new : Edges) (held : List ℕ) → old.held ≡ Some held → new.held ≡ old.held → IsAnswer meant old new Done → ⊥
silent (Ok (Run asked)) old new held o same h = run_silent (Ok asked) old new held o same h
silent (Ok Assemble) old new held o same h = text_silent old new held o same h
silent (Ok (Soak number)) old new held o same h = soak_silent number old new held o same h.1
silent (Err kind) old new held o same h = run_silent (Err kind) old new held o same h
