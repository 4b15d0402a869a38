use Rattle.dom_admission.proofs.state.State.key.Goals as goal

pub returns-clause-node : goal.returns-clause-node
returns-clause-node c = (c.find.ensures.found c.unwrap.result c.unwrap.ensures).0
