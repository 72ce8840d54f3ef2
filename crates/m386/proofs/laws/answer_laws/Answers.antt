use Rattle.m386.proofs.Allowed.{refused_words, valid_words, faulty_image, not_done, silent}
use Rattle.m386.proofs.laws.answer_laws.Goals as goal

pub returns-clause-refused : goal.returns-clause-refused
returns-clause-refused c = refused_words

pub returns-clause-valid : goal.returns-clause-valid
returns-clause-valid c = valid_words

pub returns-clause-faulty : goal.returns-clause-faulty
returns-clause-faulty c = faulty_image

pub returns-clause-not_done : goal.returns-clause-not_done
returns-clause-not_done c = not_done

pub returns-clause-silent : goal.returns-clause-silent
returns-clause-silent c = silent
