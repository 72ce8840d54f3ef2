use Rattle.m386_book.proofs.Places.{speaks_of_its_task}
use Rattle.m386_book.proofs.Still.{others_keep_the_book, taskless_keep_the_book}
use Rattle.m386_book.proofs.laws.book_laws.Goals as goal

pub returns-clause-others : goal.returns-clause-others
returns-clause-others c = others_keep_the_book

pub returns-clause-taskless : goal.returns-clause-taskless
returns-clause-taskless c = taskless_keep_the_book

pub returns-clause-task : goal.returns-clause-task
returns-clause-task c = speaks_of_its_task
