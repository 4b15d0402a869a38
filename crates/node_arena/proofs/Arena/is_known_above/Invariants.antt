use Rattle.node_arena.specs.Nodes.{IsInclusiveAncestor}
use Rattle.node_arena.proofs.Arena.is_known_above.Given as goal

abbrev pub invariant-loop : goal.invariant-loop
invariant-loop g l = IsInclusiveAncestor l.self.children l.above l.at
