use Rattle.dom_tree.proofs.EachNode.{each_node}
use Rattle.dom_tree.proofs.owners.law_changes_add_up.Goals as goal

pub returns : goal.returns
returns c = each_node
