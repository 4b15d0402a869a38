-- The items of a path by keys, and what the event shows at each, are by names the path of the event in the trees with hosts.
use Rattle.dom_path.proofs.Cited.{◌≡◌, ℕ, ◌<◌, length, Bool, true, false, not, List, [], ◌∷◌, map, filter, Option, Some, None, option_map, refl, sym}
use Rattle.dom_path.proofs.Cited.{ap, ◌∙◌, nat_eq, if◌then◌else◌, AllByRecursion, option_map_or, cond-true, cond-false, NodeName, name_eq, by_cases}
use Rattle.dom_path.proofs.Cited.{NamedTrees, name_at, TellApart, ShadowHost, ShadowTrees, shadows, is_assigned_at, key-test, Item, Tree, IsItemOf}
use Rattle.dom_path.proofs.Cited.{IsBuilt, GoesOn, IsHosted, HasNodes, ShowsNodes, item_named, view_named, item_at, items_at, view_of, GoesUp, IsPath}
use Rattle.dom_path.proofs.Cited.{IsPathShown, AreTrees, key_if, is_hidden_item, shown_nodes, view_in, is_hidden_at}
use Rattle.dom_path.proofs.Places.{hidden-named}

-- a key that is there or not, by its name
key_if-named : (names : List NodeName) (b : Bool) (k : ℕ) → option_map (name_at names) (key_if b k) ≡ (if b then Some (name_at names k) else None)
key_if-named names true k = refl
key_if-named names false k = refl

module _ (f : NamedTrees) (hosts : List ShadowHost) (distinct : TellApart f.names) (t : NodeName) (r : Option NodeName) (composed : Bool)
    (trees : List Tree) (are : AreTrees f hosts trees)
    (depth : ℕ) (hosted : IsHosted f hosts depth) where
  abbrev s : ShadowTrees
  s = shadows f hosts

  -- the name of an item's node
  abbrev named : Item → NodeName
  named i = name_at f.names i.node

  -- an item of the path
  abbrev Item_of : Item → Type 0
  Item_of = IsItemOf f hosts t r trees

  -- ---- the nodes of the path

  goes-up : (x : NodeName) (rest : List Item) → GoesOn f hosts t r depth composed x rest → GoesUp s depth t r composed x (map named rest)
  goes-up x [] g = g
  goes-up x (i ∷ rest) g = (g.0, goes-up (named i) rest g.2)

  nodes-are : (items : List Item) → IsBuilt f hosts t r depth composed items → IsPath s depth t r composed (map named items)
  nodes-are [] g = g
  nodes-are (i ∷ rest) g = (g.0, g.1.0, goes-up (named i) rest g.1.2)

  -- ---- what the event shows

  -- whether an item is hidden
  hidden-item : (v i : Item) → Item_of v → Item_of i → is_hidden_item trees v.tree i ≡ is_hidden_at s depth (named v) (named i)
  hidden-item v i at_v at_i =
      hidden-named f hosts distinct trees are.nested are depth hosted v.tree (named v) (at_v.shown depth hosted).in_tree i.tree (named i)
      (at_i.shown depth hosted).in_tree

  -- the nodes that are not hidden
  shown-are : (v : Item) → Item_of v → (items : List Item) → AllByRecursion Item_of items
      → map (name_at f.names) (shown_nodes trees items v.tree) ≡ filter (λ y. not (is_hidden_at s depth (named v) y)) (map named items)
  shown-are v at [] h = refl
  shown-are v at (i ∷ items) h =
      let rest = shown-are v at items h.1 in
      let same = ap not (hidden-item v i at h.0) in
      by_cases (not (is_hidden_item trees v.tree i))
      (λ e. ap (λ is. map (λ k. name_at f.names k) (map (λ (i : Item). i.node) is))
      (cond-true (not (is_hidden_item trees v.tree i)) (i ∷ filter (λ i. not (is_hidden_item trees v.tree i)) items)
      (filter (λ i. not (is_hidden_item trees v.tree i)) items) e)
      ∙ ap (λ ys. named i ∷ ys) rest
      ∙ sym (cond-true (not (is_hidden_at s depth (named v) (named i)))
      (named i ∷ filter (λ y. not (is_hidden_at s depth (named v) y)) (map named items))
      (filter (λ y. not (is_hidden_at s depth (named v) y)) (map named items)) (sym same ∙ e)))
      (λ e. ap (λ is. map (λ k. name_at f.names k) (map (λ (i : Item). i.node) is))
      (cond-false (not (is_hidden_item trees v.tree i)) (i ∷ filter (λ i. not (is_hidden_item trees v.tree i)) items)
      (filter (λ i. not (is_hidden_item trees v.tree i)) items) e)
      ∙ rest
      ∙ sym (cond-false (not (is_hidden_at s depth (named v) (named i)))
      (named i ∷ filter (λ y. not (is_hidden_at s depth (named v) y)) (map named items))
      (filter (λ y. not (is_hidden_at s depth (named v) y)) (map named items)) (sym same ∙ e)))

  -- the view at an item
  view-is : (items : List Item) → AllByRecursion Item_of items → (i : Item) → Item_of i →
      view_named f.names (view_in trees items i) ≡ view_of s depth t r (map named items) (named i)
  view-is items all i at =
      let shown = at.shown depth hosted in
      λ j. record { node = named i; target = shown.target_seen j; related = shown.related_seen j; path = shown-are i at items all j }

  -- the views at some items
  views-along : (items : List Item) → AllByRecursion Item_of items → (some : List Item) → AllByRecursion Item_of some
      → map (view_named f.names) (map (view_in trees items) some) ≡ map (view_of s depth t r (map named items)) (map named some)
  views-along items all [] h = refl
  views-along items all (i ∷ some) h = λ j. view-is items all i h.0 j ∷ views-along items all some h.1 j

  -- ---- the items

  -- an item behind another node
  item-is : (before : Option NodeName) (i : Item) → Item_of i → i.slot_in_closed ≡ option_map_or (is_assigned_at s (named i)) before false →
      item_named f.names i ≡ item_at s depth t r before (named i)
  item-is before i at flag =
      let shown = at.shown depth hosted in
      let test = key-test f.names distinct i.node i.event_target at.node at.target_node ∙ ap (name_eq (named i)) shown.target_seen in
      λ j. record {
        node = named i;
        target = (ap (option_map (name_at f.names)) at.at_target ∙ key_if-named f.names (nat_eq i.node i.event_target) i.node ∙
            ap (λ (b : Bool). if b then Some (named i) else None) test) j;
        related = shown.related_seen j;
        root_of_closed = at.shadow j;
        slot_in_closed = flag j;
      }

  -- the items behind x
  items-behind : (x : NodeName) (rest : List Item) → AllByRecursion Item_of rest → GoesOn f hosts t r depth composed x rest →
      map (item_named f.names) rest ≡ items_at s depth t r (Some x) (map named rest)
  items-behind x [] h g = refl
  items-behind x (i ∷ rest) h g = λ j. item-is (Some x) i h.0 g.1 j ∷ items-behind (named i) rest h.1 g.2 j

  items-are : (items : List Item) → AllByRecursion Item_of items → IsBuilt f hosts t r depth composed items →
      map (item_named f.names) items ≡ items_at s depth t r None (map named items)
  items-are [] h g = refl
  items-are (i ∷ rest) h g = λ j. item-is None i h.0 g.1.1 j ∷ items-behind (named i) rest h.1 g.1.2 j

  -- all of it
  pub path-shown : (items : List Item) → AllByRecursion Item_of items → IsBuilt f hosts t r depth composed items
      → IsPathShown s depth t r composed (map (item_named f.names) items) (map (view_named f.names) (map (view_in trees items) items))
  path-shown items h g = record {
    shown = record { nodes = map named items; path = nodes-are items g; views_are = views-along items h items h };
    items_are = items-are items h g;
  }

module _ (f : NamedTrees) (hosts : List ShadowHost) (t : NodeName) (r : Option NodeName) (trees : List Tree) where
  -- the nodes of the items are nodes of the forest
  pub nodes-within : (items : List Item) → AllByRecursion (IsItemOf f hosts t r trees) items → AllByRecursion (HasNodes f.names) items
  nodes-within [] h = tt
  nodes-within (i ∷ items) h = (record { node = h.0.node; event_target = h.0.target_node; related = h.0.related_node }, nodes-within items h.1)

  -- and so are the nodes of what is shown
  path-within : (items : List Item) → AllByRecursion (IsItemOf f hosts t r trees) items → (viewer : ℕ) →
      AllByRecursion (λ k. k < length f.names) (shown_nodes trees items viewer)
  path-within [] h viewer = tt
  path-within (i ∷ items) h viewer = by (not (is_hidden_item trees viewer i)) h.0.node (path-within items h.1 viewer)
    where
      by : (b : Bool) → i.node < length f.names → AllByRecursion (λ k. k < length f.names) (shown_nodes trees items viewer)
          → AllByRecursion (λ k. k < length f.names)
          (map (λ (i : Item). i.node)
          (if b then i ∷ filter (λ i. not (is_hidden_item trees viewer i)) items else filter (λ i. not (is_hidden_item trees viewer i)) items))
      by true node rest = (node, rest)
      by false node rest = rest

  -- at some items
  shown-along : (all : List Item) → AllByRecursion (IsItemOf f hosts t r trees) all → (some : List Item) →
      AllByRecursion (HasNodes f.names) some → AllByRecursion (ShowsNodes f.names) (map (view_in trees all) some)
  shown-along all g [] h = tt
  shown-along all g (i ∷ some) h = (
    record { node = h.0.node; target = h.0.event_target; related = h.0.related; path = path-within all g i.tree },
    shown-along all g some h.1,
  )

  -- and at all
  pub shown-within : (items : List Item) → AllByRecursion (IsItemOf f hosts t r trees) items →
      AllByRecursion (ShowsNodes f.names) (map (view_in trees items) items)
  shown-within items h = shown-along items h items (nodes-within items h)
