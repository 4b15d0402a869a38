use Rattle.std.proofs.Common.{◌≡◌, ◌+◌, ℕ, slice_get, Some}
use Rattle.node_arena.specs.Nodes.{children_of}
use Rattle.node_arena.proofs.Arena.sibling_behind.Given as goal

abbrev pub invariant-loop : goal.invariant-loop
invariant-loop g l = record {
  whole : l.at.whole ≡ l.self;
  here : (p i : ℕ) → slice_get (children_of l.self.children p) i ≡ Some l.fn.key →
      slice_get (children_of l.self.children p) (i + l.counter) ≡ Some l.at.key;
}
