use Rattle.std.proofs.Common.{◌≡◌, ◌+◌}
use Rattle.node_arena.specs.Nodes.{place_of}
use Rattle.node_arena.specs.Known.{IsBehindFirst}
use Rattle.node_arena.proofs.Arena.walk_back.Given as goal

abbrev pub invariant-loop-index : goal.invariant-loop-index
invariant-loop-index g l = record {
  whole : l.at.whole ≡ l.self;
  behind : IsBehindFirst l.self.children l.known l.last l.at.key;
  counted : l.index + place_of l.self.children l.at.key ≡ l.known + place_of l.self.children l.fn.key;
}
