-- The taking of what an extraction takes, item by item, and what is asked for it.
use Rattle.std.specs.Prelude.{◌≡◌, ℕ, zero, suc, ◌+◌, ◌-◌, ◌<◌, ◌≤◌, true, false, List, [], ◌∷◌, map, reverse, drop, length, None, unwrap_or, string_bytes}
use Rattle.std.specs.List.{AllByRecursion}
use Rattle.std.specs.Option.{ForSome}
use Rattle.dom_base.specs.declared.NodeName.{NodeName}
use Rattle.dom_base.specs.declared.Owner.{Owner}
use Rattle.dom_worlds.specs.Bounds.{HasBounds}
use Rattle.dom_model.specs.Changes.{Plan, ◌and_then◌, observed, insert_plan}
use Rattle.dom_model.specs.Extract.{clone_part, making_below}
use Rattle.dom_model.specs.Names.{node_of, first_of}
use Rattle.dom_model.specs.Part.{Part, next_name}
use Rattle.dom_model.specs.TextChanges.{replacing_data}
use Rattle.dom_model.specs.Tree.{Trees, node_in, kind_of, has_node, has_data, is_shadow, is_inclusive_ancestor}
use Rattle.dom_model.specs.TreeChanges.{with_name}
use Rattle.dom_model.specs.World.{part_of}
use Rattle.dom_mutation.specs.Doc.{DocState, name_in, owner_in, trees_in}
use Rattle.dom_range_ops.specs.Pieces.{Item, whole_item, cut_item, clone_item, end_item, made_by, IsPieceIn}
use Rattle.dom_range_ops.specs.declared.pieces.Piece.{Piece}
use Rattle.dom_tree.specs.declared.data.NodeData.{NodeData}

-- into what an item goes: the last clone that is not ended, the first of these, or the fragment (own rule)
abbrev pub top_of : NodeName → List NodeName → NodeName
top_of into clones = unwrap_or (first_of clones) into

-- the steps for one item
abbrev pub taking_item : NodeName → Item → Plan
taking_item top (whole_item x) p = insert_plan observed x top None p
taking_item top (cut_item x from to) p =
    (making_below top (clone_part (next_name p) from to (node_in p.trees x))
    and_then replacing_data x from (to - from) []) p
taking_item top (clone_item x) p = making_below top (with_name (next_name p) (node_in p.trees x)) p
taking_item top end_item p = []

-- the clones that are not ended, the last one first, behind an item; a node that it makes has this name
abbrev pub clones_after : NodeName → Item → List NodeName → List NodeName
clones_after new (whole_item x) clones = clones
clones_after new (cut_item x from to) clones = clones
clones_after new (clone_item x) clones = new ∷ clones
clones_after new end_item clones = drop 1 clones

-- the steps for some items, in order, into a fragment and the clones in it that are not ended
abbrev pub taking_items : NodeName → List NodeName → List Item → Plan
taking_items into clones [] p = []
taking_items into clones (item ∷ items) p =
    (taking_item (top_of into clones) item
    and_then taking_items into (clones_after (next_name p) item clones) items) p

-- the names of so many new nodes, from a number on
abbrev pub new_names : Owner → ℕ → ℕ → List NodeName
new_names o number zero = []
new_names o number (suc count) = node_of o number ∷ new_names o (suc number) count

-- a node that takes others: no Text or Comment, and no older than the fragment
pub record IsTaker (into : NodeName) (ts : Trees) (x : NodeName) : Type 0 where
  pub there : has_node ts x ≡ true
  pub no_data : has_data (kind_of ts x) ≡ false
  pub new : into.number ≤ x.number

-- a node that is taken: older than the fragment, and above no node that isn't
pub record IsTaken (into : NodeName) (ts : Trees) (x : NodeName) : Type 0 where
  pub there : has_node ts x ≡ true
  pub apart : (z : NodeName) → into.number ≤ z.number → is_inclusive_ancestor ts x z ≡ false

-- what an item names may be taken: what is moved is no shadow root, what is cut is a Text or a Comment, and what is cloned is neither that
-- nor a shadow root
abbrev pub MayBeTaken : NodeName → Trees → Item → Type 0
MayBeTaken into ts (whole_item x) = IsTaken into ts x × (is_shadow (kind_of ts x) ≡ false)
MayBeTaken into ts (cut_item x from to) = IsTaken into ts x × (has_data (kind_of ts x) ≡ true)
MayBeTaken into ts (clone_item x) = IsTaken into ts x × (has_data (kind_of ts x) ≡ false) × (is_shadow (kind_of ts x) ≡ false)
MayBeTaken into ts end_item = Unit {0}

-- The items may be taken one after another: live ranges end within their nodes, the fragment and the clones that are not
-- ended take nodes, and the nodes to be made are no more than an owner may have.
pub record MayTake (p : Part) (into : NodeName) (clones : List NodeName) (items : List Item) : Type 0 where
  pub bounds : HasBounds p
  pub takers : AllByRecursion (IsTaker into p.trees) (into ∷ clones)
  pub taken : AllByRecursion (MayBeTaken into p.trees) items
  pub limited : p.node_count + made_by items ≤ 1000000

-- a node of an owner below which a new node may be put: it takes nodes, and the owner may have one more
pub record TakesNew (d : DocState) (top : ℕ) : Type 0 where
  pub node : top < length d.names
  pub bounds : HasBounds (part_of d.world (owner_in d top))
  pub no_data : has_data (kind_of (trees_in d top) (name_in d top)) ≡ false
  pub limited : (part_of d.world (owner_in d top)).node_count < 1000000

-- what a clone of a node holds: a node of its kind and element name, which is no shadow root (DOM Standard, concept: clone a single node)
pub record IsCopyOf (d : DocState) (of : ℕ) (copy : NodeData) : Type 0 where
  pub kind : copy.kind ≡ kind_of (trees_in d of) (name_in d of)
  pub element : string_bytes copy.element ≡ (node_in (trees_in d of) (name_in d of)).element
  pub no_shadow : is_shadow copy.kind ≡ false
  pub document : ForSome copy.document (λ k. k < length d.names)

-- the node of a piece is a node, if it has one
abbrev pub IsPieceOf : List NodeName → Piece → Type 0
IsPieceOf names = IsPieceIn (length names)

-- the clones that are not ended by their keys, of which the last comes last; in names it comes first
abbrev pub names_in : DocState → List ℕ → List NodeName
names_in d clones = reverse (map (name_in d) clones)
