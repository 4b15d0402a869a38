-- The bytes so far are the same.
use Rattle.dom_base.proofs.Std.{◌≡◌, ◌<◌, ℕ, slice_index_or}
use Rattle.dom_base.proofs.is_same.Given as goal

abbrev pub invariant-loop-index : goal.invariant-loop-index
invariant-loop-index l = (j : ℕ) → j < l.index → slice_index_or l.text j 0 ≡ slice_index_or l.other j 0
