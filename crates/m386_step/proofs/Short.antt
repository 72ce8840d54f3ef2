-- No step has more than 192 cycles, and none ends in a fault.
use Rattle.std.proofs.Common.{◌≡◌, ℕ, zero, suc, ◌+◌, ◌++◌, ◌-◌, ◌%◌, List, [], ◌∷◌, arith, true, false, nat_lt, ◌&&◌, ◌==◌, Option, Some, None}
use Rattle.m386_base.specs.Laws.{AtMost, Sound}
use Rattle.m386_base.specs.declared.kind.SwitchKind.TheVariants.{Start}
use Rattle.m386_base.specs.Bus.{cycle_of}
use Rattle.m386_base.specs.Phrase.{Phrase, Done, Faults, Asks, Begins, ◌>>=◌, one}
use Rattle.m386_base.proofs.Bounds.{at_most_then, at_most_either, at_most_if, at_most_more, sound_either}
use Rattle.m386_decode.specs.declared.decoded.Decoded.{Decoded}
use Rattle.m386_opmap.specs.declared.outcome.Reading.{Reading}
use Rattle.m386_opmap.specs.declared.outcome.Reading.TheVariants.{Spelled, More, Refused}
use Rattle.m386_opmap.specs.Readings.{reading_of}
use Rattle.m386_checks.specs.declared.facts.Fail.{Fail}
use Rattle.m386_deliver.specs.Deliver.{entered_phrase, pushed_on_phrase, by_rows_phrase, behind_gate_phrase, met_phrase, deliver_phrase}
use Rattle.m386_state.specs.declared.event.Event.{Event}
use Rattle.m386_state.specs.declared.proc.Mode.{Mode}
use Rattle.m386_state.specs.declared.proc.Mode.TheVariants.{Running, Halted, Shutdown}
use Rattle.m386_state.specs.declared.proc.Proc.{Proc}
use Rattle.m386_step.specs.declared.fetch.Reader.{Reader}
use Rattle.m386_step.specs.Code.{read_on, further_phrase, decode_phrase}
use Rattle.m386_step.specs.Fetch.{byte_phrase, group_phrase, linear, first_reader, taken, fetch_ask}
use Rattle.m386_step.specs.Instruction.{decoded_phrase, instruction_phrase}
use Rattle.m386_step.proofs.Ordinary.{short_operation, short_deliver, short_start}
use Rattle.m386_transfer.specs.declared.executed.Executed.{Executed}
use Rattle.m386_transfer.specs.declared.executed.Executed.TheVariants.{Ran, Came}
use Rattle.m386_step.specs.Events.{due, at_delivery, behind_delivery, delivery_phrase}
use Rattle.m386_step.specs.Settled.{behind_start}
use Rattle.m386_switch.specs.declared.outcome.Switched.{Switched}
use Rattle.m386_switch.specs.Ends.{EndsAs}
use Rattle.m386_switch.specs.Seen.{Seen, note, nothing_seen}
use Rattle.m386_switch.specs.Switch.{attempt_of, switch_phrase, work_phrase}
use Rattle.m386_switch.proofs.Shows.{Shows}
use Rattle.m386_switch.proofs.Whole.{work_shows}
use Rattle.m386_step.specs.Step.{without_start, start_phrase, running_phrase, turn_phrase, event_or_turn, start_or_event, step_phrase}

short_group : (r : Reader) → AtMost 1 (group_phrase r)
unfolding group_phrase ◌>>=◌
short_group r =
    let group = linear r - linear r % 4 in
    at_most_if 1 (r.fetched && (r.group == group)) (Done (taken r)) (one (fetch_ask group) >>= (λ v. Done (taken (record r { fetched = true; group = group; value = v })))) tt (λ v. tt)

short_byte : (r : Reader) → AtMost 1 (byte_phrase r)
unfolding byte_phrase
short_byte r = at_most_if 1 (nat_lt r.limit r.at) _ _ tt (short_group r)

short_read_on : (n : ℕ) (x : Reading) (more : Phrase Decoded) → AtMost n more → AtMost n (read_on x more)
short_read_on n (Spelled op len) more h = tt
short_read_on n (Refused at) more h = tt
short_read_on n More more h = h

short_further : (n : ℕ) (bytes : List ℕ) (r : Reader) → AtMost n (further_phrase n bytes r)
unfolding further_phrase
short_further zero bytes r = tt
short_further (suc n) bytes r =
    let e : suc n ≡ 1 + n = omega arith in
    rw e (at_most_then 1 n _ _ (short_byte r) (λ b. short_read_on n (reading_of (bytes ++ b.0 ∷ [])) _ (short_further n (bytes ++ b.0 ∷ []) b.1)))

short_decode : (r : Reader) → AtMost 15 (decode_phrase r)
unfolding decode_phrase
short_decode r = short_further 15 [] r

short_instruction : (p : Proc) → AtMost 175 (instruction_phrase p)
unfolding instruction_phrase decoded_phrase
short_instruction p = at_most_then 15 160 _ _ (short_decode (first_reader p)) (λ d. at_most_then 160 0 _ _ (short_operation d.op _) (λ r. tt))

short_running : (p : Proc) → AtMost 192 (running_phrase p)
unfolding running_phrase
short_running p = at_most_either 175 17 _ _ _ (short_instruction p) (λ a. tt) (λ f. tt)

short_turn : (m : Mode) (p : Proc) → AtMost 192 (turn_phrase m p)
short_turn Running p = short_running p
short_turn Halted p = tt
short_turn Shutdown p = tt

short_delivery : (p : Proc) (e : Event) → AtMost 192 (delivery_phrase p e)
unfolding delivery_phrase
short_delivery p e = at_most_then 119 73 _ _ (short_deliver p e) (λ r. tt)

short_event : (due : Option Event) (p : Proc) → AtMost 192 (event_or_turn due p)
short_event (Some e) p = short_delivery (at_delivery p) e
short_event None p = short_turn p.mode (record p { shadow = false })

short_begun : (start : Option ℕ) (p : Proc) → AtMost 192 (start_or_event start p)
short_begun (Some selector) p = at_most_more 113 79 (start_phrase p selector) (short_start p selector)
short_begun None p = short_event (due p) p

pub short_step : (p : Proc) → AtMost 192 (step_phrase p)
unfolding step_phrase
short_step p = short_begun p.start p

sound_turn : (m : Mode) (p : Proc) → Sound (turn_phrase m p)
unfolding running_phrase
sound_turn Running p = sound_either (instruction_phrase p) _ _ (λ a. tt) (λ f. tt)
sound_turn Halted p = tt
sound_turn Shutdown p = tt

-- a delivery catches each fault
sound_behind : (code : Option ℕ) (x : Executed) → Sound (behind_gate_phrase code x)
sound_behind code (Ran r) = tt
sound_behind code (Came r) = go r.fail code
  where
    go : (o : Option Fail) (c : Option ℕ) → Sound (by_rows_phrase o r.after c)
    go None None = tt
    go None (Some n) = sound_either (pushed_on_phrase r.after n) _ _ (λ a. tt) (λ f. tt)
    go (Some x) c = tt

sound_then : {A B : Type 0} (t : Phrase A) (f : A → Phrase B) → Sound t → ((a : A) → Sound (f a)) → Sound (t >>= f)
unfolding ◌>>=◌
sound_then (Done a) f h k = k a
sound_then (Faults x) f h k = absurd h
sound_then (Begins m t) f h k = sound_then t f h k
sound_then (Asks q c) f h k = λ v. sound_then (c v) f (h v) k

sound_event : (due : Option Event) (p : Proc) → Sound (event_or_turn due p)
unfolding delivery_phrase deliver_phrase met_phrase
sound_event (Some e) p =
    sound_then (deliver_phrase (at_delivery p) e) (λ r. Done (behind_delivery e r))
    (sound_then (met_phrase (at_delivery p) e) _ (sound_either (entered_phrase (at_delivery p) e) _ _ (λ x. tt) (λ f. tt)) (sound_behind e.code)) (λ r. tt)
sound_event None p = sound_turn p.mode (record p { shadow = false })

-- a switch ends in no fault
sound_came : {A : Type 0} (P : Seen → Switched → Type 0) (g : Seen) (t : Phrase Switched) (w : Switched → A) → Shows P g t → Sound (t >>= (λ r. Done (w r)))
unfolding Shows ◌>>=◌
sound_came P g (Done r) w h = tt
sound_came P g (Faults f) w h = absurd h
sound_came P g (Begins m t) w h = absurd h
sound_came P g (Asks q k) w h = λ v. sound_came P (note g (cycle_of q v)) (k v) w (h v)

sound_begun : (start : Option ℕ) (p : Proc) → Sound (start_or_event start p)
unfolding start_phrase switch_phrase ◌>>=◌
sound_begun (Some selector) p =
    let begun : Proc = without_start p in
    sound_came (λ g r. EndsAs (attempt_of begun Start selector false false) g begun r) nothing_seen (work_phrase begun Start selector false false) (behind_start begun) (work_shows begun Start selector false false)
sound_begun None p = sound_event (due p) p

pub sound_step : (p : Proc) → Sound (step_phrase p)
unfolding step_phrase
sound_step p = sound_begun p.start p
