use Rattle.dom_mutation.proofs.Cited.{◌≡◌, ◌≢◌, ℕ, ◌<◌, ◌≤◌, ◌-◌, component_made, count_of}
use Rattle.dom_mutation.proofs.parts.attaching.count_made.Given as goal

abbrev pub invariant-loop-low : goal.invariant-loop-low
invariant-loop-low l = record {
  order : l.low ≤ l.high;
  few : l.high ≤ 1000;
  made : (k : ℕ) → k < l.low → count_of (component_made l.maker k) l.forest.names ≢ 0;
  next : l.high < 1000 → count_of (component_made l.maker l.high) l.forest.names ≡ 0;
}

abbrev pub decreases-loop-low : goal.decreases-loop-low
decreases-loop-low l = l.high - l.low
