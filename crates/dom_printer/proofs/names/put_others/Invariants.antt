-- The buffer has the nodes so far.
use Rattle.dom_base.proofs.Std.{◌≡◌, ◌++◌, take, map, flat_map}
use Rattle.dom_text.specs.Definitions.{next_node_text}
use Rattle.dom_printer.proofs.names.put_others.Given as goal

abbrev pub invariant-loop-node : goal.invariant-loop-node
invariant-loop-node g l = l.out.items ≡ l.fn.out.items ++ flat_map (next_node_text l.viewer) (map (g.N.Names.name l.names) (take l.node-index l.nodes))
