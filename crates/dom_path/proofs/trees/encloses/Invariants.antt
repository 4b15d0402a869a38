use Rattle.dom_path.proofs.Cited.{◌≡◌, ◌<◌, nat_eq, length, is_in, roots_around}
use Rattle.dom_path.proofs.trees.encloses.Given as goal

abbrev pub invariant-loop-root : goal.invariant-loop-root
invariant-loop-root l = (l.place < length l.trees) × (is_in nat_eq l.root (roots_around l.trees l.place) ≡ is_in nat_eq l.root (roots_around l.trees l.inner))

abbrev pub decreases-loop-root : goal.decreases-loop-root
decreases-loop-root l = l.place
