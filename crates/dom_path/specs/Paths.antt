-- The path of an event in trees with shadow hosts, whoever owns the nodes, and what the event shows along it (DOM Standard, 2.9
-- Dispatching events).
use Rattle.std.specs.Prelude.{◌≡◌, ℕ, Bool, true, false, not, List, [], ◌∷◌, filter, map, Option, Some, None, if◌then◌else◌}
use Rattle.std.specs.Option.{option_map_or}
use Rattle.dom_base.specs.declared.NodeName.{NodeName}
use Rattle.dom_model.specs.Names.{name_eq}
use Rattle.dom_model.specs.Paths.{View}
use Rattle.dom_model.specs.Tree.{is_shadow, node_in, root_of}
use Rattle.dom_slots.specs.Shadows.{ShadowTrees, is_assigned_at}
use Rattle.dom_path.specs.Items.{PathItem}
use Rattle.dom_path.specs.Ways.{event_parent_at, is_empty_at, is_hidden_at, next_at, related_at, seen_at}

-- In any trees with hosts, of an event with this target:
module _ (s : ShadowTrees) (target : NodeName) (composed : Bool) where
  -- the items behind a node x: each is that of the event parent of the one before, and says whether it is the slot of that one, and
  -- whether it is a shadow root (DOM Standard, concept: get the parent)
  abbrev pub FollowsUp : NodeName → List PathItem → Type 0
  FollowsUp x [] = Unit {0}
  FollowsUp x (i ∷ rest) =
      (event_parent_at s composed (root_of s.trees target) x ≡ Some i.node) × (i.slot_in_closed ≡ is_assigned_at s i.node x)
      × (i.root_of_closed ≡ is_shadow (node_in s.trees i.node).kind) × FollowsUp i.node rest

  -- items, of which the first is the target's, and behind it each is that of the event parent of the one before
  abbrev pub IsTrail : List PathItem → Type 0
  IsTrail [] = Unit {0}
  IsTrail (i ∷ rest) =
      (i.node ≡ target) × (i.slot_in_closed ≡ false) × (i.root_of_closed ≡ is_shadow (node_in s.trees i.node).kind) × FollowsUp i.node rest

-- In trees whose shadow trees lie in one another at most so deep:
module _ (s : ShadowTrees) (depth : ℕ) where
  -- Of an event with this target and this related node:
  module _ (target : NodeName) (related : Option NodeName) where
    -- the item of a node of its path, behind the node before
    abbrev pub item_at : Option NodeName → NodeName → PathItem
    item_at before x = record {
      node = x;
      target = if name_eq x (seen_at s depth x target) then Some x else None;
      related = related_at s depth x related;
      root_of_closed = is_shadow (node_in s.trees x).kind;
      slot_in_closed = option_map_or (is_assigned_at s x) before false;
    }

    -- the items of nodes that follow one another
    abbrev pub items_at : Option NodeName → List NodeName → List PathItem
    items_at before [] = []
    items_at before (x ∷ xs) = item_at before x ∷ items_at (Some x) xs

    -- what it shows at a node of its path (DOM Standard, 2.2: composedPath(); 4.8: retarget)
    abbrev pub view_of : List NodeName → NodeName → View NodeName
    view_of path x = record {
      node = x;
      target = seen_at s depth x target;
      related = related_at s depth x related;
      path = filter (λ y. not (is_hidden_at s depth x y)) path;
    }

    -- the nodes of a path behind x: each is the event parent of the one before, and behind the last the path ends
    abbrev pub GoesUp : Bool → NodeName → List NodeName → Type 0
    GoesUp composed x [] = next_at s depth target related composed x ≡ None
    GoesUp composed x (y ∷ ys) = (next_at s depth target related composed x ≡ Some y) × GoesUp composed y ys

    -- the nodes of its path, the target first; there are none where the related node is retargeted to the target and is not the
    -- target (DOM Standard, concept: dispatch)
    abbrev pub IsPath : Bool → List NodeName → Type 0
    IsPath composed [] = is_empty_at s depth target related ≡ true
    IsPath composed (x ∷ xs) = (is_empty_at s depth target related ≡ false) × (x ≡ target) × GoesUp composed x xs

  -- this is what an event shows at each node of its path
  pub record AreViews (target : NodeName) (related : Option NodeName) (composed : Bool) (views : List (View NodeName)) : Type 0 where
    pub nodes : List NodeName
    pub path : IsPath target related composed nodes
    pub views_are : views ≡ map (view_of target related nodes) nodes

  -- and these are the items of the path
  pub record IsPathShown (target : NodeName) (related : Option NodeName) (composed : Bool) (items : List PathItem) (views : List (View NodeName)) : Type 0 where
    pub shown : AreViews target related composed views
    pub items_are : items ≡ items_at target related None shown.nodes
