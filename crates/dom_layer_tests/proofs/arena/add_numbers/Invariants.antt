use Rattle.dom_base.proofs.Std.{◌<◌, length, All, ForSome}
use Rattle.dom_layer_tests.proofs.arena.add_numbers.Given as goal

abbrev pub invariant-loop-number : goal.invariant-loop-number
invariant-loop-number g l = record {
  root : l.root < length l.arena.payloads;
  before : ForSome l.before (λ k. k < length l.arena.payloads);
  children : All (λ k. k < length l.arena.payloads) l.children.items;
}
