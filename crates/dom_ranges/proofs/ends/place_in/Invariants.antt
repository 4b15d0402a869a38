use Rattle.dom_ranges.proofs.Cited.{ℕ, ◌<◌, ◌≤◌, ◌-◌, get_or, RangeEnd}
use Rattle.dom_ranges.proofs.ends.place_in.Given as goal

abbrev pub invariant-loop-low : goal.invariant-loop-low
invariant-loop-low l = record {
  first : l.fn.part.first ≤ l.low;
  order : l.low ≤ l.high;
  behind : l.high ≤ l.fn.part.behind;
  less : (k : ℕ) (d : RangeEnd) → l.fn.part.first ≤ k → k < l.low → l.node ≤ (get_or l.ends k d).node;
  more : (k : ℕ) (d : RangeEnd) → l.high ≤ k → k < l.fn.part.behind → (get_or l.ends k d).node ≤ l.node;
}

abbrev pub decreases-loop-low : goal.decreases-loop-low
decreases-loop-low l = l.high - l.low
