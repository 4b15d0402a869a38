use Rattle.dom_slots.proofs.Added.{bare-more, unhosted-beyond}
use Rattle.dom_slots.proofs.laws.law_new_nodes_are_free.Goals as goal

pub returns-clause-bare : goal.returns-clause-bare
returns-clause-bare c f g n one no_slot = bare-more f g n one no_slot

pub returns-clause-unhosted : goal.returns-clause-unhosted
returns-clause-unhosted c f s k slots far = unhosted-beyond f.names s.hosts slots.hosts k far
