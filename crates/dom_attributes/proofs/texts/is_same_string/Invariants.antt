-- The units so far are the same.
use Rattle.dom_base.proofs.Std.{◌≡◌, ◌<◌, ℕ, slice_index_or}
use Rattle.dom_attributes.proofs.texts.is_same_string.Given as goal

abbrev pub invariant-loop-index : goal.invariant-loop-index
invariant-loop-index l = (j : ℕ) → j < l.index → slice_index_or l.string j 0 ≡ slice_index_or l.other j 0
