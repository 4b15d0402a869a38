use Rattle.dom_mutation.proofs.StillNew.{new-range, new-iterator, new-walker, new-observer}
use Rattle.dom_mutation.proofs.still.law_newly_there.Goals as goal

pub returns-clause-range : goal.returns-clause-range
returns-clause-range c = new-range

pub returns-clause-iterator : goal.returns-clause-iterator
returns-clause-iterator c = new-iterator

pub returns-clause-walker : goal.returns-clause-walker
returns-clause-walker c = new-walker

pub returns-clause-observer : goal.returns-clause-observer
returns-clause-observer c = new-observer
