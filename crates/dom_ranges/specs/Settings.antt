-- A range with another start or end, by keys, and what it is by the names of their nodes.
use Rattle.std.specs.Prelude.{ℕ, Bool, not, ◌&&◌, List, map, slice_get, slice_set, Option, option_map, if◌then◌else◌}
use Rattle.std.specs.Option.{option_flatten, option_map_or}
use Rattle.dom_base.specs.declared.Owner.{Owner}
use Rattle.dom_base.specs.declared.NodeName.{NodeName}
use Rattle.dom_model.specs.Names.{owner_eq, name_eq}
use Rattle.dom_model.specs.Place.{Boundary, is_before, same_root}
use Rattle.dom_model.specs.Ranges.{Range, at, from_to, map_ends, after_removal}
use Rattle.dom_model.specs.Tree.{is_inclusive_ancestor, parent_of, index_of}
use Rattle.dom_tree.specs.Forest.{NamedTrees, name_at}
use Rattle.dom_ranges.specs.Tables.{RangeList, RangeLists, ranges_of}

-- a boundary point with the name of its node
abbrev pub named_boundary : List NodeName → Boundary ℕ → Boundary NodeName
named_boundary names b = at (name_at names b.node) b.offset

-- a range with the names of its nodes
abbrev pub named_range : List NodeName → Range ℕ → Range NodeName
named_range names r = from_to (named_boundary names r.start) (named_boundary names r.end)

-- an owner's live ranges with the names of their nodes
abbrev pub named_ranges : List NodeName → RangeList → List (Option (Range NodeName))
named_ranges names rs = map (option_map (named_range names)) rs

-- whether a boundary point is before another one of the same forest
abbrev pub is_key_before : NamedTrees → Boundary ℕ → Boundary ℕ → Bool
is_key_before f b c = is_before f.trees (named_boundary f.names b) (named_boundary f.names c)

-- whether two boundary points stand in one tree
abbrev pub have_one_root : NamedTrees → Boundary ℕ → Boundary ℕ → Bool
have_one_root f b c = same_root f.trees (name_at f.names b.node) (name_at f.names c.node)

-- the range with this start (DOM Standard, 5.5: set the start or end)
abbrev pub start_set : NamedTrees → Boundary ℕ → Range ℕ → Range ℕ
start_set f b r = if have_one_root f b r.end && not (is_key_before f r.end b) then from_to b r.end else from_to b b

-- the range with this end
abbrev pub end_set : NamedTrees → Boundary ℕ → Range ℕ → Range ℕ
end_set f b r = if have_one_root f b r.start && not (is_key_before f b r.start) then from_to r.start b else from_to b b

-- each owner's live ranges by names, with the one of an owner's number as f rewrites it
abbrev pub with_named : List NodeName → RangeLists → Owner → ℕ → (Range NodeName → Range NodeName) → Owner → List (Option (Range NodeName))
with_named names t owner k f o =
    let rs = named_ranges names (ranges_of t o) in
    if owner_eq owner o then slice_set rs k (option_map f (option_flatten (slice_get rs k))) else rs

-- live ranges by names after a node with this name has left its parent; a root leaves none
abbrev pub without_named : NamedTrees → NodeName → List (Option (Range NodeName)) → List (Option (Range NodeName))
without_named f x rs =
    let left = λ (parent : NodeName). map (option_map (map_ends (after_removal name_eq (is_inclusive_ancestor f.trees x) parent (index_of f.trees x)))) rs in
    option_map_or left (parent_of f.trees x) rs
