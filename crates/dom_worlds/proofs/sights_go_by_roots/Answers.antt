use Rattle.dom_worlds.proofs.Chains.{hidden-by_roots, retarget-by_roots}
use Rattle.dom_worlds.proofs.sights_go_by_roots.Goals as goal

pub returns-clause-hidden : goal.returns-clause-hidden
returns-clause-hidden c = hidden-by_roots

pub returns-clause-retargeted : goal.returns-clause-retargeted
returns-clause-retargeted c = retarget-by_roots
