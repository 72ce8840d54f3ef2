use Rattle.m386_core.proofs.InOrders.{empty_in_order, turns_begin, list_begins, seed_begins, turns_stay_below}
use Rattle.m386_core.proofs.laws.order_laws.Goals as goal

pub returns-clause-empty : goal.returns-clause-empty
returns-clause-empty c = empty_in_order

pub returns-clause-turns : goal.returns-clause-turns
returns-clause-turns c = turns_begin

pub returns-clause-list : goal.returns-clause-list
returns-clause-list c = list_begins

pub returns-clause-seed : goal.returns-clause-seed
returns-clause-seed c = seed_begins

pub returns-clause-below : goal.returns-clause-below
returns-clause-below c = turns_stay_below
