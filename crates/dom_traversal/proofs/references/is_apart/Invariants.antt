use Rattle.dom_traversal.proofs.Cited.{◌≡◌, ◌<◌, true, length, ForSome, AreTested, is_inside}
use Rattle.dom_traversal.proofs.references.is_apart.Given as goal

abbrev pub invariant-loop : goal.invariant-loop
invariant-loop l = record {
  tested : AreTested l.forest l.top l.references l.place l.at;
  node : ForSome l.walked (λ k. k < length l.forest.names);
  inside : ForSome l.walked (λ k. is_inside l.forest l.top k ≡ true);
}
