use Rattle.dom_tree.proofs.OwnPlacings.{added, taken, put, changed_node, changed_subtree}
use Rattle.dom_tree.proofs.owners.law_changes_are_own.Goals as goal

pub returns : goal.returns
returns c = record { added = added; taken_out = taken; placed = put; changed_node = changed_node; changed_subtree = changed_subtree }
