use Rattle.std.proofs.Common.{◌≡◌, ◌<◌, ◌∷◌, length}
use Rattle.std.specs.Option.{ForSome}
use Rattle.node_arena.specs.Nodes.{contains, ancestors_of}
use Rattle.node_arena.proofs.Above.{line_from}
use Rattle.node_arena.proofs.Arena.stands_above.Given as goal

abbrev pub invariant-loop-at : goal.invariant-loop-at
invariant-loop-at g l =
    record {
      nodes : ForSome l.at (λ k. k < length l.self.payloads);
      same : contains (l.fn.key ∷ ancestors_of l.self.children l.fn.key) l.above ≡ contains (line_from l.self.children l.at) l.above;
    }

abbrev pub decreases-loop-at : goal.decreases-loop-at
decreases-loop-at g l = length (line_from l.self.children l.at)
