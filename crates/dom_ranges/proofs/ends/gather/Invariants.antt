use Rattle.dom_ranges.proofs.Cited.{◌≡◌, ◌≢◌, ℕ, ◌<◌, ◌≤◌, length, get_or, IsPermutation, AreAt, IsSortedBeside, RangeEnd}
use Rattle.dom_ranges.proofs.ends.gather.Given as goal

abbrev pub invariant-loop-i : goal.invariant-loop-i
invariant-loop-i l = record {
  above : l.low ≤ l.kept;
  behind : l.kept ≤ l.i;
  same_length : length l.ends ≡ length l.initial.ends;
  permutation : IsPermutation l.initial.ends l.ends;
  sorted : IsSortedBeside l.ends l.low l.high l.node;
  others : (k : ℕ) (d : RangeEnd) → l.low ≤ k → k < l.kept → (get_or l.ends k d).node ≢ l.node;
  gathered : AreAt l.ends l.kept l.i l.node;
}
