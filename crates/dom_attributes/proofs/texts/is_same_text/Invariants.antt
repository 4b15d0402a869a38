-- The bytes so far are the same.
use Rattle.dom_base.proofs.Std.{◌≡◌, ◌<◌, ℕ, slice_index_or}
use Rattle.dom_attributes.proofs.texts.is_same_text.Given as goal

abbrev pub invariant-loop-index : goal.invariant-loop-index
invariant-loop-index l = (j : ℕ) → j < l.index → slice_index_or l.bytes j 0 ≡ slice_index_or l.others j 0
