use Rattle.std.proofs.Common.{◌≡◌}
use Rattle.node_arena.specs.Cells.{lists_of}
use Rattle.node_arena.specs.Known.{AreFirst}
use Rattle.node_arena.specs.Nodes.{children_of}
use Rattle.node_arena.proofs.first_children.FirstChildren.extend.Given as goal

abbrev pub invariant-loop : goal.invariant-loop
invariant-loop g l = record {
  parent : l.self.parent ≡ l.fn.self.parent;
  first : AreFirst l.self.keys (children_of (lists_of l.store.links) l.fn.self.parent);
}
