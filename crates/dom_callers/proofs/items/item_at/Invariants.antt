use Rattle.std.proofs.Common.{◌≡◌, ◌<◌, length, option_map}
use Rattle.std.specs.Prelude.{slice_get}
use Rattle.std.specs.Option.{ForSome}
use Rattle.dom_model.specs.Tree.{children_of}
use Rattle.dom_laws.specs.Siblings.{from_sibling}
use Rattle.dom_tree.specs.Definitions.{name_at}
use Rattle.dom_callers.proofs.items.item_at.Given as goal

abbrev pub invariant-loop-at : goal.invariant-loop-at
invariant-loop-at l =
    ForSome l.at (λ k. k < length l.forest.names) ×
    (slice_get (from_sibling l.forest.trees (option_map (name_at l.forest.names) l.at)) l.left ≡ slice_get
    (children_of l.forest.trees (name_at l.forest.names l.fn.list)) l.fn.index)

abbrev pub decreases-loop-at : goal.decreases-loop-at
decreases-loop-at l = length (from_sibling l.forest.trees (option_map (name_at l.forest.names) l.at))
