-- What is behind white space in the units that are left is so in all.
use Rattle.dom_selectors.proofs.Cited.{◌≡◌, ◌≤◌, length, behind_space, is_among}
use Rattle.dom_selectors.proofs.values.behind_space.Given as goal

abbrev pub invariant-loop-rest : goal.invariant-loop-rest
invariant-loop-rest l = record {
  same : is_among l.word (behind_space l.rest) ≡ is_among l.word (behind_space l.text);
  left : length l.rest ≤ length l.text;
}

abbrev pub decreases-loop-rest : goal.decreases-loop-rest
decreases-loop-rest l = length l.rest
