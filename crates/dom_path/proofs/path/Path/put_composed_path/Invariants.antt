use Rattle.dom_path.proofs.Cited.{◌≡◌, take, shown_nodes}
use Rattle.dom_path.proofs.path.Path.put_composed_path.Given as goal

abbrev pub invariant-loop-item : goal.invariant-loop-item
invariant-loop-item l = l.nodes.items ≡ shown_nodes l.self-inside.trees (take l.item-index l.items) l.viewer
