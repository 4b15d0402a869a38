use Rattle.dom_dispatch.proofs.Naming.{listened-named, unlistened-named, dispatched-named}
use Rattle.dom_dispatch.proofs.laws.law_keys_stand_for_names.Goals as goal

pub returns-clause-listened : goal.returns-clause-listened
returns-clause-listened c = λ names apart ls at x node words. listened-named names apart ls at x node words

pub returns-clause-unlistened : goal.returns-clause-unlistened
returns-clause-unlistened c = λ names apart ls at x node event label capture. unlistened-named names apart ls at x node event label capture

pub returns-clause-dispatched : goal.returns-clause-dispatched
returns-clause-dispatched c = λ names apart ls at vs views e. dispatched-named names apart e ls at vs views
