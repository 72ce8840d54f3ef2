use Rattle.std.proofs.Common.{◌≡◌, ◌∙◌, sym, rules, Ok}
use Rattle.m386_calls.specs.Words.{texts, words_mean, words_mean_plainly}
use Rattle.m386_calls.specs.declared.call.Call.TheVariants.{Run}
use Rattle.m386.proofs.Answers.{answer_complete, answer_assembled, answer_excess, answer_faulty, answer_image, answer_long_text, answer_soaked, answer_too_long}
use Rattle.m386.proofs.top.top.Goals as goal

pub returns-in-Ok-None-clause-excess : goal.returns-in-Ok-None-clause-excess
returns-in-Ok-None-clause-excess g c = let e : words_mean_plainly (texts c.args.words.now) ≡ words_mean (texts c.args.words.now) = search rules in λ asked bytes image kind w. c.top_plain.ensures.excess asked bytes image kind (e ∙ w)

pub returns-in-Ok-None-clause-image : goal.returns-in-Ok-None-clause-image
returns-in-Ok-None-clause-image g c = let e : words_mean_plainly (texts c.args.words.now) ≡ words_mean (texts c.args.words.now) = search rules in λ asked bytes fault w. c.top_plain.ensures.image asked bytes fault (e ∙ w)

pub returns-in-Ok-None-clause-too_long : goal.returns-in-Ok-None-clause-too_long
returns-in-Ok-None-clause-too_long g c = let e : words_mean_plainly (texts c.args.words.now) ≡ words_mean (texts c.args.words.now) = search rules in λ asked bytes w. c.top_plain.ensures.too_long asked bytes (e ∙ w)

pub returns-clause-complete : goal.returns-clause-complete
returns-clause-complete g c = let e : words_mean (texts c.args.words.now) ≡ Ok (Run c.in-Ok-Some.asked) = search rules in λ asked bytes image w l short i f r k. rw c.told-2.ensures.status (answer_complete _ _ _ _ c.perform_in_threads-status.ensures asked bytes image (sym e ∙ w) l short i f r k)

pub returns-clause-excess : goal.returns-clause-excess
returns-clause-excess g c = let e : words_mean (texts c.args.words.now) ≡ Ok (Run c.in-Ok-Some.asked) = search rules in λ asked bytes image kind w l short i f r. rw c.told-2.ensures.status (answer_excess _ _ _ _ c.perform_in_threads-status.ensures asked bytes image kind (sym e ∙ w) l short i f r)

pub returns-clause-image : goal.returns-clause-image
returns-clause-image g c = let e : words_mean (texts c.args.words.now) ≡ Ok (Run c.in-Ok-Some.asked) = search rules in λ asked bytes fault w l short f r. rw c.told-2.ensures.status (answer_image _ _ _ _ c.perform_in_threads-status.ensures asked bytes fault (sym e ∙ w) l short f r)

pub returns-clause-too_long : goal.returns-clause-too_long
returns-clause-too_long g c = let e : words_mean (texts c.args.words.now) ≡ Ok (Run c.in-Ok-Some.asked) = search rules in λ asked bytes w l long r. rw c.told-2.ensures.status (answer_too_long _ _ _ _ c.perform_in_threads-status.ensures asked bytes (sym e ∙ w) l long r)

pub returns-in-Ok-None-clause-soaked : goal.returns-in-Ok-None-clause-soaked
returns-in-Ok-None-clause-soaked g c = let e : words_mean_plainly (texts c.args.words.now) ≡ words_mean (texts c.args.words.now) = search rules in λ number w. c.top_plain.ensures.soaked number (e ∙ w)

pub returns-clause-soaked : goal.returns-clause-soaked
returns-clause-soaked g c = let e : words_mean (texts c.args.words.now) ≡ Ok (Run c.in-Ok-Some.asked) = search rules in λ number w k. rw c.told-2.ensures.status (answer_soaked _ _ _ _ c.perform_in_threads-status.ensures number (sym e ∙ w) k)

pub returns-in-Ok-None-clause-assembled : goal.returns-in-Ok-None-clause-assembled
returns-in-Ok-None-clause-assembled g c = let e : words_mean_plainly (texts c.args.words.now) ≡ words_mean (texts c.args.words.now) = search rules in λ text bytes w. c.top_plain.ensures.assembled text bytes (e ∙ w)

pub returns-clause-assembled : goal.returns-clause-assembled
returns-clause-assembled g c = let e : words_mean (texts c.args.words.now) ≡ Ok (Run c.in-Ok-Some.asked) = search rules in λ text bytes w l short lays r k. rw c.told-2.ensures.status (answer_assembled _ _ _ _ c.perform_in_threads-status.ensures text bytes (sym e ∙ w) l short lays r k)

pub returns-in-Ok-None-clause-faulty : goal.returns-in-Ok-None-clause-faulty
returns-in-Ok-None-clause-faulty g c = let e : words_mean_plainly (texts c.args.words.now) ≡ words_mean (texts c.args.words.now) = search rules in λ text line kind w. c.top_plain.ensures.faulty text line kind (e ∙ w)

pub returns-clause-faulty : goal.returns-clause-faulty
returns-clause-faulty g c = let e : words_mean (texts c.args.words.now) ≡ Ok (Run c.in-Ok-Some.asked) = search rules in λ text line kind w l short lays r. rw c.told-2.ensures.status (answer_faulty _ _ _ _ c.perform_in_threads-status.ensures text line kind (sym e ∙ w) l short lays r)

pub returns-in-Ok-None-clause-long_text : goal.returns-in-Ok-None-clause-long_text
returns-in-Ok-None-clause-long_text g c = let e : words_mean_plainly (texts c.args.words.now) ≡ words_mean (texts c.args.words.now) = search rules in λ text w. c.top_plain.ensures.long_text text (e ∙ w)

pub returns-clause-long_text : goal.returns-clause-long_text
returns-clause-long_text g c = let e : words_mean (texts c.args.words.now) ≡ Ok (Run c.in-Ok-Some.asked) = search rules in λ text w l long r. rw c.told-2.ensures.status (answer_long_text _ _ _ _ c.perform_in_threads-status.ensures text (sym e ∙ w) l long r)
