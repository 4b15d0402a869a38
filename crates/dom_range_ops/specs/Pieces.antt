-- What an extraction takes, as a list.
use Rattle.std.specs.Prelude.{◌≡◌, ℕ, ◌<◌, suc, Bool, not, List, [], ◌∷◌, ◌++◌, map, length, take, drop, ◌-◌, ◌≤◌, slice_index, Option, Some, None}
use Rattle.std.specs.Prelude.{if◌then◌else◌}
use Rattle.std.specs.List.{AllByRecursion}
use Rattle.std.specs.Option.{option_map_or}
use Rattle.dom_base.specs.declared.NodeName.{NodeName}
use Rattle.dom_model.specs.Extract.{Pieces, nothing, whole, cut, clone}
use Rattle.dom_model.specs.Names.{name_eq, first_of, last_of, items_before, items_after}
use Rattle.dom_model.specs.Place.{Boundary}
use Rattle.dom_model.specs.Tree.{Trees, kind_of, has_data, children_of, siblings, next_sibling, inclusive_ancestors, length_of}
use Rattle.dom_range_ops.specs.Deletions.{AreLeaves}
use Rattle.dom_range_ops.specs.Texts.{AreEnds}
use Rattle.dom_range_ops.specs.declared.pieces.Piece.{Piece}
use Rattle.dom_range_ops.specs.declared.pieces.Piece.TheVariants.{Whole, Cut, Clone, End}
use Rattle.dom_ranges.specs.declared.table.Points.{Points}
use Rattle.dom_tree.specs.Forest.{NamedTrees, name_at}

-- an item: a node as it is; of a Text or Comment a clone with the units between two offsets; a clone of another node, into which
-- what follows goes up to its end; and such an end (own rule)
pub data Item : Type 0 where
  whole_item : NodeName → Item
  cut_item : NodeName → ℕ → ℕ → Item
  clone_item : NodeName → Item
  end_item : Item

-- the items of pieces, in their order
abbrev pub items_of : Pieces → List Item
items_of nothing = []
items_of (whole x rest) = whole_item x ∷ items_of rest
items_of (cut x from to rest) = cut_item x from to ∷ items_of rest
items_of (clone x inside rest) = clone_item x ∷ items_of inside ++ end_item ∷ items_of rest

-- a piece in names
abbrev pub item_in : List NodeName → Piece → Item
item_in names (Whole x) = whole_item (name_at names x)
item_in names (Cut x from to) = cut_item (name_at names x) from to
item_in names (Clone x) = clone_item (name_at names x)
item_in names End = end_item

-- how many nodes items ask to be made
abbrev pub made_by : List Item → ℕ
made_by [] = 0
made_by (whole_item x ∷ items) = made_by items
made_by (cut_item x from to ∷ items) = suc (made_by items)
made_by (clone_item x ∷ items) = suc (made_by items)
made_by (end_item ∷ items) = made_by items

-- a piece that names a node, of so many
abbrev pub IsPieceIn : ℕ → Piece → Type 0
IsPieceIn n (Whole x) = x < n
IsPieceIn n (Cut x from to) = x < n
IsPieceIn n (Clone x) = x < n
IsPieceIn n End = Unit {0}

-- pieces of which these are the items, each of which names a node
pub record AreItems (names : List NodeName) (pieces : List Piece) (items : List Item) : Type 0 where
  pub value : map (item_in names) pieces ≡ items
  pub nodes : AllByRecursion (IsPieceIn (length names)) pieces

-- the nodes that are taken as they are
abbrev pub wholes : List Item → List NodeName
wholes [] = []
wholes (whole_item x ∷ items) = x ∷ wholes items
wholes (cut_item x from to ∷ items) = wholes items
wholes (clone_item x ∷ items) = wholes items
wholes (end_item ∷ items) = wholes items

-- the key of a piece that is one
abbrev pub whole_key : Piece → List ℕ
whole_key (Whole x) = x ∷ []
whole_key other = []

-- and their keys
abbrev pub whole_keys : List Piece → List ℕ
whole_keys [] = []
whole_keys (piece ∷ pieces) = whole_key piece ++ whole_keys pieces

-- pieces to which others were added, of which these are the items
abbrev pub Adds : List NodeName → List Piece → List Piece → List Item → Type 0
Adds names old new items = (xs : List Item) → AreItems names old xs → AreItems names new (xs ++ items)

-- nodes, where they are taken as they are, else nothing
abbrev pub wholes_if : Bool → List NodeName → List Item
wholes_if taken xs = if taken then map whole_item xs else []

-- a node and its following siblings; none where there is no node
abbrev pub from_sibling : Trees → Option NodeName → List NodeName
from_sibling ts None = []
from_sibling ts (Some x) = x ∷ items_after name_eq x (siblings ts x)

-- nodes in front of one of them; all where there is none
abbrev pub up_to : Option NodeName → List NodeName → List NodeName
up_to None xs = xs
up_to (Some y) xs = items_before name_eq y xs

-- A path goes from a node up to one of its inclusive ancestors. What is taken of the nodes above its first, in tree order up
-- to that one: of each a clone, then the children in front of the path where they are taken
abbrev pub heads : Trees → Bool → List NodeName → List Item
heads ts before [] = []
heads ts before (x ∷ []) = []
heads ts before (x ∷ p ∷ path) = heads ts before (p ∷ path) ++ clone_item p ∷ wholes_if before (items_before name_eq x (children_of ts p))

-- and behind it: the children behind the path where they are taken, then the end of the clone
abbrev pub tails : Trees → Bool → List NodeName → List Item
tails ts behind [] = []
tails ts behind (x ∷ []) = []
tails ts behind (x ∷ p ∷ path) = wholes_if behind (items_after name_eq x (siblings ts x)) ++ end_item ∷ tails ts behind (p ∷ path)

-- the first node behind a boundary point among the children of the node above it at which a path ends, if there is one
abbrev pub first_behind : Trees → Boundary NodeName → List NodeName → Option NodeName
first_behind ts b path = option_map_or (next_sibling ts) (last_of path) (first_of (drop b.offset (children_of ts b.node)))

-- the first that is not in front of it, if there is one
abbrev pub first_from : Trees → Boundary NodeName → List NodeName → Option NodeName
first_from ts b path = option_map_or Some (last_of path) (first_of (drop b.offset (children_of ts b.node)))

-- what is taken of the node of a boundary point, behind the point or else in front of it: of data a part, else a clone with the
-- children there
abbrev pub end_items : Trees → Boundary NodeName → Bool → List Item
end_items ts b behind =
    if has_data (kind_of ts b.node) then cut_item b.node (if behind then b.offset else 0) (if behind then length_of ts b.node else b.offset) ∷ []
    else clone_item b.node ∷ (map whole_item (if behind then drop b.offset (children_of ts b.node) else take b.offset (children_of ts b.node)) ++ end_item ∷ [])

-- what is taken of the tree of the last node of a path from the node of a boundary point, behind the point or else in front of it;
-- nothing where there is no path
abbrev pub side_items : Trees → Boundary NodeName → Bool → List NodeName → List Item
side_items ts b behind [] = []
side_items ts b behind (x ∷ path) = heads ts (not behind) (x ∷ path) ++ (end_items ts b behind ++ tails ts behind (x ∷ path))

-- how far two lists go until both go on alike up to their ends: from there on they are the same, and just before they differ
pub record EndAlike (xs ys : List ℕ) (m n : ℕ) : Type 0 where
  pub first : m ≤ length xs
  pub second : n ≤ length ys
  pub same : drop m xs ≡ drop n ys
  pub apart : 0 < m → 0 < n → slice_index xs (m - 1) ≡ slice_index ys (n - 1) → ⊥

-- both ends are nodes of one tree in which no Text and no Comment has children, and the second one is within its node
pub record AreSpanned (f : NamedTrees) (points : Points) : Type 0 where
  pub ends : AreEnds f points
  pub within : points.end.1 ≤ length_of f.trees (name_at f.names points.end.0)
  pub leaves : AreLeaves f points

-- the keys of the paths from both ends up to the children of the ends' lowest common inclusive ancestor
pub record ArePaths (f : NamedTrees) (points : Points) (start_path end_path : List ℕ) : Type 0 where
  pub top : NodeName
  pub above : List NodeName
  pub start : inclusive_ancestors f.trees (name_at f.names points.start.0) ≡ map (name_at f.names) start_path ++ top ∷ above
  pub end : inclusive_ancestors f.trees (name_at f.names points.end.0) ≡ map (name_at f.names) end_path ++ top ∷ above
  pub apart : (y : NodeName) → last_of (map (name_at f.names) start_path) ≡ Some y → last_of (map (name_at f.names) end_path) ≡ Some y → ⊥
  pub start_nodes : AllByRecursion (λ k. k < length f.names) start_path
  pub end_nodes : AllByRecursion (λ k. k < length f.names) end_path

-- there are such paths
abbrev pub HasPaths : NamedTrees → Points → Type 0
HasPaths f points = (start_path : List ℕ) × (end_path : List ℕ) × ArePaths f points start_path end_path
