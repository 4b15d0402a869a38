-- What is asked of the trees in which the contents of a range are deleted, and what is cut at its ends.
use Rattle.std.specs.Prelude.{◌≡◌, ◌<◌, ℕ, true, [], length, IsTrue, Option, Some, None}
use Rattle.dom_base.specs.declared.NodeName.{NodeName}
use Rattle.dom_base.specs.declared.Owner.{Owner}
use Rattle.dom_worlds.specs.Bounds.{IsWithin}
use Rattle.dom_worlds.specs.Tables.{HasEnds}
use Rattle.dom_model.specs.Changes.{Plan, steps_of}
use Rattle.dom_model.specs.Names.{name_eq, is_in}
use Rattle.dom_model.specs.Part.{range_at}
use Rattle.dom_model.specs.TextChanges.{replacing_data}
use Rattle.dom_model.specs.Tree.{kind_of, has_data, children_of}
use Rattle.dom_model.specs.World.{part_of}
use Rattle.dom_mutation.specs.Doc.{DocState, owner_in, trees_in}
use Rattle.dom_ranges.specs.declared.table.Points.{Points}
use Rattle.dom_tree.specs.Forest.{NamedTrees}
use Rattle.dom_range_ops.specs.Texts.{range_at_points, nodes_around}

-- no Text and no Comment of a range's tree has children
abbrev pub AreLeaves : NamedTrees → Points → Type 0
AreLeaves f points = (x : NodeName) → is_in name_eq x (nodes_around f.trees (range_at_points f.names points)) ≡ true →
    has_data (kind_of f.trees x) ≡ true → children_of f.trees x ≡ []

-- both ends are nodes of one tree of their owner, where no Text and no Comment has children, and the second is within its node
pub record IsRangeIn (d : DocState) (points : Points) : Type 0 where
  pub start : points.start.0 < length d.names
  pub end : points.end.0 < length d.names
  pub owner : owner_in d points.end.0 ≡ owner_in d points.start.0
  pub ends : HasEnds (trees_in d points.start.0) (range_at_points d.names points)
  pub within : IsWithin (trees_in d points.start.0) (range_at_points d.names points).end
  pub leaves : (x : NodeName) → IsTrue (has_data (kind_of (trees_in d points.start.0) x)) → children_of (trees_in d points.start.0) x ≡ []

-- these are the ends of an owner's live range of a number, at nodes of the owner
pub record IsOfPoints (d : DocState) (o : Owner) (k : ℕ) (points : Points) : Type 0 where
  pub there : range_at (part_of d.world o) k ≡ Some (range_at_points d.names points)
  pub owner : owner_in d points.start.0 ≡ o
  pub range : IsRangeIn d points

-- from an offset on so many code units of a node go, or none
abbrev pub cutting : NodeName → Option (ℕ × ℕ) → Plan
cutting x None = steps_of []
cutting x (Some part) = replacing_data x part.0 part.1 []
