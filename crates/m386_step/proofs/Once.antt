-- No step fetches a group twice: its instruction's bytes rise, and what an operation does fetches nothing.
use Rattle.std.proofs.Common.{ℕ, ◌+◌, ◌%◌, ◌^◌, [], false, Option, Some, None}
use Rattle.m386_base.proofs.Bounds.{obeys_then}
use Rattle.m386_deliver.specs.Deliver.{deliver_phrase}
use Rattle.m386_state.specs.declared.event.Event.{Event}
use Rattle.m386_state.specs.declared.proc.Mode.{Mode}
use Rattle.m386_state.specs.declared.proc.Mode.TheVariants.{Running, Halted, Shutdown}
use Rattle.m386_state.specs.declared.proc.Proc.{Proc}
use Rattle.m386_access.specs.After.{at_eip}
use Rattle.m386_step.specs.Code.{decode_phrase}
use Rattle.m386_step.specs.Fetch.{first_reader}
use Rattle.m386_step.specs.Instruction.{operation_phrase, decoded_phrase, instruction_phrase}
use Rattle.m386_step.proofs.Ordinary.{none_operation, none_deliver, none_start}
use Rattle.m386_step.specs.Once.{IsAnew, with_fetched, FetchesOnce}
use Rattle.m386_step.specs.Events.{due, at_delivery, delivery_phrase}
use Rattle.m386_step.specs.Step.{start_phrase, running_phrase, turn_phrase, event_or_turn, start_or_event, step_phrase}
use Rattle.m386_step.proofs.Anew.{Once, AnyGroups, none_once, once_either}
use Rattle.m386_step.proofs.Rising.{once_decode}

once_instruction : (p : Proc) → Once AnyGroups [] (instruction_phrase p)
unfolding instruction_phrase decoded_phrase
once_instruction p =
    obeys_then IsAnew with_fetched AnyGroups AnyGroups AnyGroups [] (decode_phrase (first_reader p)) _ (once_decode (first_reader p))
    (λ later d h.
    let begun : Proc = at_eip p ((p.eip + d.len) % 2 ^ 32) in
    obeys_then IsAnew with_fetched AnyGroups AnyGroups AnyGroups later (operation_phrase d.op begun) _ (none_once later (operation_phrase d.op begun) (none_operation d.op begun)) (λ vs r k. tt))

once_turn : (m : Mode) (p : Proc) → Once AnyGroups [] (turn_phrase m p)
unfolding running_phrase
once_turn Running p = once_either AnyGroups [] (instruction_phrase p) _ _ (once_instruction p) (λ a. tt) (λ f. tt)
once_turn Halted p = tt
once_turn Shutdown p = tt

once_delivery : (p : Proc) (e : Event) → Once AnyGroups [] (delivery_phrase p e)
unfolding delivery_phrase
once_delivery p e = obeys_then IsAnew with_fetched AnyGroups AnyGroups AnyGroups [] (deliver_phrase p e) _ (none_once [] (deliver_phrase p e) (none_deliver p e)) (λ later r k. tt)

once_event : (due : Option Event) (p : Proc) → Once AnyGroups [] (event_or_turn due p)
once_event (Some e) p = once_delivery (at_delivery p) e
once_event None p = once_turn p.mode (record p { shadow = false })

once_begun : (start : Option ℕ) (p : Proc) → Once AnyGroups [] (start_or_event start p)
once_begun (Some selector) p = none_once [] (start_phrase p selector) (none_start p selector)
once_begun None p = once_event (due p) p

pub once_step : (p : Proc) → FetchesOnce [] (step_phrase p)
unfolding step_phrase FetchesOnce
once_step p = once_begun p.start p
