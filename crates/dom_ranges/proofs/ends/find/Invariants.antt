use Rattle.dom_ranges.proofs.Cited.{◌≡◌, ℕ, ◌<◌, ◌≤◌, get_or, RangeEnd}
use Rattle.dom_ranges.proofs.ends.find.Given as goal

abbrev pub invariant-loop-behind : goal.invariant-loop-behind
invariant-loop-behind l = record {
  within : l.behind ≤ l.part.behind;
  none : (k : ℕ) (d : RangeEnd) → l.behind ≤ k → k < l.part.behind → (get_or l.ends k d).slot ≡ l.end.slot → (get_or l.ends k d).is_end ≡ l.end.is_end → ⊥;
}

abbrev pub decreases-loop-behind : goal.decreases-loop-behind
decreases-loop-behind l = l.behind
