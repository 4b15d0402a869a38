use Rattle.dom_ranges.proofs.Cited.{◌≡◌, ℕ, ◌<◌, ◌≤◌, false, length, get_or, is_in, is_inside, RangeEnd}
use Rattle.dom_ranges.proofs.removing.part_tested.Given as goal

abbrev pub invariant-loop-i : goal.invariant-loop-i
invariant-loop-i l = record {
  within : l.part.behind ≤ length l.ends;
  all : (k : ℕ) (d : RangeEnd) → k < l.i → is_in l.part k ≡ false → is_inside l.forest l.top (get_or l.ends k d).node ≡ false;
}
