-- What a contract sees of a `Path`, and what its items and views are by names.
use Rattle.std.specs.Prelude.{ℕ, ◌<◌, Bool, false, List, [], ◌∷◌, length, map, Option, Some, None, option_map, if◌then◌else◌}
use Rattle.std.specs.List.{AllByRecursion}
use Rattle.std.specs.Option.{option_map_or, ForSome}
use Rattle.dom_base.specs.declared.NodeName.{NodeName}
use Rattle.dom_model.specs.Names.{name_eq}
use Rattle.dom_model.specs.Paths.{View, retarget, retarget_related, event_path}
use Rattle.dom_model.specs.Slots.{is_assigned_to}
use Rattle.dom_model.specs.Tree.{is_shadow}
use Rattle.dom_model.specs.World.{World, kind_at}
use Rattle.dom_worlds.specs.Reached.{IsReached}
use Rattle.dom_worlds.specs.Tables.{IsWhole}
use Rattle.dom_tree.specs.Forest.{NamedTrees, name_at}
use Rattle.dom_slots.specs.Hosts.{ShadowHost}
use Rattle.dom_slots.specs.Shadows.{shadows, IsShownBy}
use Rattle.dom_path.specs.declared.item.Item.{Item}
use Rattle.dom_path.specs.declared.trees.Tree.{Tree}

-- the items of a path, their trees, and what the event shows at each item
pub record PathNow : Type 0 where
  pub items : List Item
  pub trees : List Tree
  pub views : List (View ℕ)

-- the items have their trees among these
abbrev pub AreInTrees : List Tree → List Item → Type 0
AreInTrees trees items = AllByRecursion (λ (i : Item). i.tree < length trees) items

-- An item of an event path (DOM Standard, 2.2: path: its struct): the node, the event's target where the node is that,
-- the related node as it is seen there, whether the node is a shadow root, and whether it is the slot of the node before.
pub record PathItem : Type 0 where
  pub node : NodeName
  pub target : Option NodeName
  pub related : Option NodeName
  pub root_of_closed : Bool
  pub slot_in_closed : Bool

-- an item by names
abbrev pub item_named : List NodeName → Item → PathItem
item_named names i = record {
  node = name_at names i.node;
  target = option_map (name_at names) i.target;
  related = option_map (name_at names) i.related;
  root_of_closed = i.root_of_closed;
  slot_in_closed = i.slot_in_closed;
}

-- what an event shows, by names
abbrev pub view_named : List NodeName → View ℕ → View NodeName
view_named names v = record {
  node = name_at names v.node;
  target = name_at names v.target;
  related = option_map (name_at names) v.related;
  path = map (name_at names) v.path;
}

-- the nodes of an item are nodes of these names
pub record HasNodes (names : List NodeName) (i : Item) : Type 0 where
  pub node : i.node < length names
  pub event_target : i.event_target < length names
  pub related : ForSome i.related (λ k. k < length names)

-- the nodes of what an event shows are nodes of these names
pub record ShowsNodes (names : List NodeName) (v : View ℕ) : Type 0 where
  pub node : v.node < length names
  pub target : v.target < length names
  pub related : ForSome v.related (λ k. k < length names)
  pub path : AllByRecursion (λ k. k < length names) v.path

-- the item of a node of an event path, behind the node before
abbrev pub path_item : World → NodeName → Option NodeName → Option NodeName → NodeName → PathItem
path_item w target related before x = record {
  node = x;
  target = if name_eq x (retarget w target x) then Some x else None;
  related = retarget_related w related x;
  root_of_closed = is_shadow (kind_at w x);
  slot_in_closed = option_map_or (is_assigned_to w x) before false;
}

-- the items of nodes that follow one another
abbrev pub items_along : World → NodeName → Option NodeName → Option NodeName → List NodeName → List PathItem
items_along w target related before [] = []
items_along w target related before (x ∷ xs) = path_item w target related before x ∷ items_along w target related (Some x) xs

-- the items of the path of an event (DOM Standard, 2.9: dispatch, append to an event path)
abbrev pub path_items : World → NodeName → Option NodeName → Bool → List PathItem
path_items w target related composed = items_along w target related None (event_path w target related composed)

-- A world in which a path is what the definitions say: it has just these trees and hosts, the machine reaches it, and its tables
-- name what is there.
pub record IsWorldOf (f : NamedTrees) (hosts : List ShadowHost) (w : World) : Type 0 where
  pub shown : IsShownBy (shadows f hosts) w
  pub reached : IsReached false w
  pub whole : IsWhole w
