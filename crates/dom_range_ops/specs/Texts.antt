-- The text of a range by the nodes of its tree.
use Rattle.std.specs.Prelude.{◌≡◌, ◌<◌, true, ◌&&◌, List, ◌++◌, length, filter, flat_map, if◌then◌else◌}
use Rattle.dom_base.specs.declared.NodeName.{NodeName}
use Rattle.dom_model.specs.Names.{DomString, name_eq}
use Rattle.dom_model.specs.Tree.{Trees, kind_of, is_text, root_of, inclusive_descendants}
use Rattle.dom_model.specs.Place.{same_root}
use Rattle.dom_model.specs.Ranges.{Range, is_contained}
use Rattle.dom_model.specs.RangeOps.{text_part}
use Rattle.dom_ranges.specs.Settings.{named_range}
use Rattle.dom_ranges.specs.Tables.{range_from}
use Rattle.dom_ranges.specs.declared.table.Points.{Points}
use Rattle.dom_tree.specs.Forest.{NamedTrees, name_at}

-- a range by the names of its nodes
abbrev pub range_at_points : List NodeName → Points → Range NodeName
range_at_points names points = named_range names (range_from points)

-- both ends are nodes of one tree
pub record AreEnds (f : NamedTrees) (points : Points) : Type 0 where
  pub start : points.start.0 < length f.names
  pub end : points.end.0 < length f.names
  pub one_root : same_root f.trees (name_at f.names points.start.0) (name_at f.names points.end.0) ≡ true

-- the text of the contained nodes of some (DOM Standard, 5.5: stringification behavior)
abbrev pub contained_text : Trees → Range NodeName → List NodeName → DomString
contained_text ts r xs = flat_map (text_part ts r) (filter (is_contained ts r) xs)

-- the text of the nodes of a node's tree
abbrev pub tree_text : Trees → Range NodeName → NodeName → DomString
tree_text ts r x = flat_map (text_part ts r) (inclusive_descendants ts x)

-- the text of a range, of whose tree these are the nodes
abbrev pub text_among : Trees → Range NodeName → List NodeName → DomString
text_among ts r xs =
    if name_eq r.start.node r.end.node && is_text (kind_of ts r.start.node) then text_part ts r r.start.node
    else text_part ts r r.start.node ++ contained_text ts r xs ++ text_part ts r r.end.node

-- the nodes of a range's tree, in tree order
abbrev pub nodes_around : Trees → Range NodeName → List NodeName
nodes_around ts r = inclusive_descendants ts (root_of ts r.start.node)
