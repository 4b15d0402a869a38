use Rattle.dom_admission.proofs.Finding.{find_own}
use Rattle.dom_admission.proofs.state.State.find.Goals as goal

pub returns-clause-found : goal.returns-clause-found
returns-clause-found c =
    rw (← c.self.view_is, ← c.forest-forest.ensures.names)
    (find_own c.forest-forest.result.now.trees c.self.inside.doc.world c.forest-forest.ensures.owned c.forest-forest.ensures.trees
    _ c.args.owner _ c.number_in-number.ensures c.find.ensures.found c.find.ensures.present).0

pub returns-clause-presence : goal.returns-clause-presence
returns-clause-presence c =
    rw (← c.self.view_is)
    (find_own c.forest-forest.result.now.trees c.self.inside.doc.world c.forest-forest.ensures.owned c.forest-forest.ensures.trees
    _ c.args.owner _ c.number_in-number.ensures c.find.ensures.found c.find.ensures.present).1
