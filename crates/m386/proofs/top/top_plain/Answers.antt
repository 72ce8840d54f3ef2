use Rattle.m386.proofs.Answers.{answer_assembled, answer_excess, answer_faulty, answer_image, answer_long_text, answer_soaked, answer_too_long}
use Rattle.m386.proofs.top.top_plain.Goals as goal

pub returns-clause-excess : goal.returns-clause-excess
returns-clause-excess g c = λ asked bytes image kind w l short i f r. rw c.told.ensures.status (answer_excess _ _ _ _ c.perform-status.ensures asked bytes image kind w l short i f r)

pub returns-clause-image : goal.returns-clause-image
returns-clause-image g c = λ asked bytes fault w l short f r. rw c.told.ensures.status (answer_image _ _ _ _ c.perform-status.ensures asked bytes fault w l short f r)

pub returns-clause-too_long : goal.returns-clause-too_long
returns-clause-too_long g c = λ asked bytes w l long r. rw c.told.ensures.status (answer_too_long _ _ _ _ c.perform-status.ensures asked bytes w l long r)

pub returns-clause-soaked : goal.returns-clause-soaked
returns-clause-soaked g c = λ number w k. rw c.told.ensures.status (answer_soaked _ _ _ _ c.perform-status.ensures number w k)

pub returns-clause-assembled : goal.returns-clause-assembled
returns-clause-assembled g c = λ text bytes w l short lays r k. rw c.told.ensures.status (answer_assembled _ _ _ _ c.perform-status.ensures text bytes w l short lays r k)

pub returns-clause-faulty : goal.returns-clause-faulty
returns-clause-faulty g c = λ text line kind w l short lays r. rw c.told.ensures.status (answer_faulty _ _ _ _ c.perform-status.ensures text line kind w l short lays r)

pub returns-clause-long_text : goal.returns-clause-long_text
returns-clause-long_text g c = λ text w l long r. rw c.told.ensures.status (answer_long_text _ _ _ _ c.perform-status.ensures text w l long r)
