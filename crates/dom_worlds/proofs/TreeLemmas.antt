-- What other crates cite of trees: subtrees, ancestors, descendants, children, roots and reads of nodes.
pub use Rattle.dom_worlds.proofs.Trees.{all-both, ancestors-present, ancestors-there, nodes-there}
pub use Rattle.dom_worlds.proofs.TreeChangeLaws.{nodes-listed, nodes-map_nodes, nodes-named, nodes-placed, nodes-subtree, nodes-taken_out, nodes-then}
pub use Rattle.dom_worlds.proofs.TreeChangeLaws.{nodes-with_node, root-below_none, times-below}
pub use Rattle.dom_worlds.proofs.PartSteps.{NewHas, nodes-step}
pub use Rattle.dom_worlds.proofs.InsideAncestors.{inside-no_ancestor, no_parent-root, roots-there, times-has_node}
pub use Rattle.dom_worlds.proofs.Descents.{ancestor-inside}
pub use Rattle.dom_worlds.proofs.Roots.{roots-equal, roots-same, node-new, read-all, self-above}
pub use Rattle.dom_worlds.proofs.ChildCounts.{index-below, kids, kids-absent, length-children, rooted}
pub use Rattle.dom_worlds.proofs.ChildPairs.{children-childs}
pub use Rattle.dom_worlds.proofs.PlanChildren.{IsChild, child-parent}
pub use Rattle.dom_worlds.proofs.ChildCounts.{kids-map_nodes}
pub use Rattle.dom_worlds.proofs.Roots.{node-map_nodes, length-kids, length-absent}
pub use Rattle.dom_worlds.proofs.TreeChangeLaws.{times-map_nodes}
