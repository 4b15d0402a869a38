use Rattle.dom_dispatch.proofs.Staying.{none-stay, more-stay, listened-stay, unlistened-stay, dispatched-stay}
use Rattle.dom_dispatch.proofs.laws.law_listeners_stay.Goals as goal

pub returns-clause-none : goal.returns-clause-none
returns-clause-none c = none-stay

pub returns-clause-more : goal.returns-clause-more
returns-clause-more c = more-stay

pub returns-clause-listened : goal.returns-clause-listened
returns-clause-listened c = listened-stay

pub returns-clause-unlistened : goal.returns-clause-unlistened
returns-clause-unlistened c = unlistened-stay

pub returns-clause-dispatched : goal.returns-clause-dispatched
returns-clause-dispatched c = dispatched-stay
