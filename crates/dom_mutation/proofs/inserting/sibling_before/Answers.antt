use Rattle.dom_mutation.proofs.inserting.sibling_before.Goals as goal

pub prev-requires : goal.prev-requires
prev-requires c = (c.requires.before_is_child c.in-Some.child c.in-Some.is).node
