-- The names so far.
use Rattle.std.specs.Prelude.{◌≡◌, ◌++◌, map, take}
use Rattle.dom_answers.proofs.pools.push_names.Given as goal

abbrev pub invariant-loop-node : goal.invariant-loop-node
invariant-loop-node g l = l.out.items ≡ l.fn.out.items ++ map (g.N.Names.name l.names) (take l.node-index l.nodes)
