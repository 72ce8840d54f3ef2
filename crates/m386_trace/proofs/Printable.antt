-- The cycles of a history have a line each.
use Rattle.std.proofs.Common.{ℕ, zero, suc, ◌-◌, ◌<◌, ◌≡◌, List, [], ◌∷◌, ◌++◌, length, get_or, reverse, subst, ◌∙◌, ap, arith}
use Rattle.std.specs.Prelude.{All}
use Rattle.std.proofs.lemmas.List.Elements.{All-push}
use Rattle.std.proofs.lemmas.List.{get_or-reverse, length-reverse}
use Rattle.m386_base.specs.declared.ask.Cycle.{Cycle}
use Rattle.m386_base.specs.Bus.{IsAsk}
use Rattle.m386_memory.specs.Contents.{Contents}
use Rattle.m386_memory.specs.History.{IsHistory, WellFormed}
use Rattle.m386_trace.specs.Report.{IsPrintable}

formed_at : (cycles : List Cycle) (k : ℕ) (d : Cycle) → WellFormed cycles → k < length cycles → IsAsk (get_or cycles k d).ask
unfolding WellFormed
formed_at [] k d formed lt = absurd (omega arith)
formed_at (c ∷ cs) zero d formed lt = formed.0
formed_at (c ∷ cs) (suc k) d formed lt = formed_at cs k d formed.1 (omega arith)

-- each cycle of a history may be asked, whether the oldest or the newest is counted first
formed_in_order : (first : Contents) (history : List Cycle) (k : ℕ) (d : Cycle) → IsHistory first history → k < length history → IsAsk (get_or history k d).ask
formed_in_order first history k d lawful lt =
    let newest : length history - 1 - k < length history = omega arith in
    let place : length history - 1 - (length history - 1 - k) ≡ k = omega arith in
    let same : get_or (reverse history) (length history - 1 - k) d ≡ get_or history k d =
    get_or-reverse history (length history - 1 - k) d newest ∙ ap (λ (i : ℕ). get_or history i d) place in
    let inside : length history - 1 - k < length (reverse history) = omega (arith, length-reverse history) in
    subst (λ (c : Cycle). IsAsk c.ask) same (formed_at (reverse history) (length history - 1 - k) d lawful.formed inside)

pub all_printable : (first : Contents) (history : List Cycle) → IsHistory first history → All (λ c. c.cpu < 8) history → All IsPrintable history
all_printable first history lawful cpus k d lt =
    let ask = formed_in_order first history k d lawful lt in
    let cpu = cpus k d lt in
    record { cpu = omega arith; part = ask.part; enables = ask.group }

-- one more cycle of a processor below 8
pub all_pushed : (history : List Cycle) (c : Cycle) → All (λ x. x.cpu < 8) history → c.cpu < 8 → All (λ x. x.cpu < 8) (history ++ c ∷ [])
all_pushed history c before here = All-push (λ x. x.cpu < 8) history c before here
