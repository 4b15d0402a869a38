-- The items of a path while it is built: what may still come, and what is there.
use Rattle.dom_path.proofs.Cited.{◌≡◌, ℕ, Bool, false, List, [], ◌∷◌, ◌++◌, Option, Some, None, refl, sym, ap, subst, ◌∙◌, arith, append_assoc, option_map, map}
use Rattle.dom_path.proofs.Cited.{Result, Ok, Err, IfOk, AllByRecursion, ForSome, append-nil, NodeName, is_shadow, node_in, root_of, NamedTrees, name_at}
use Rattle.dom_path.proofs.Cited.{ShadowHost, shadows, is_assigned_at, Item, PathNode, Tree, IsEvent, IsItemOf, IsWay, IsBuilt, GoesOn, next_name, related_name}
use Rattle.dom_path.proofs.Cited.{IsHosted, item_named, Grows, FollowsUp, IsTrail, AreTrees, IsPathNode, event_parent_at, is_empty_at}
use Rattle.dom_path.proofs.Goings.{tree-kept, stand-kept}
use Rattle.dom_path.proofs.Nesting.{grows-longer}

-- what holds of all items, and of one more
pub all-more : (P : Item → Type 0) (xs : List Item) (y : Item) → AllByRecursion P xs → P y → AllByRecursion P (xs ++ y ∷ [])
all-more P [] y h p = (p, tt)
all-more P (x ∷ xs) y h p = (h.0, all-more P xs y h.1 p)

-- what follows from it
pub all-other : (P Q : Item → Type 0) → ((y : Item) → P y → Q y) → (xs : List Item) → AllByRecursion P xs → AllByRecursion Q xs
all-other P Q g [] h = tt
all-other P Q g (x ∷ xs) h = (g x h.0, all-other P Q g xs h.1)

module _ (f : NamedTrees) (hosts : List ShadowHost) (t : NodeName) (r : Option NodeName) where
  -- an item stays one among more trees
  item-kept : (trees new : List Tree) → Grows trees new → (i : Item) → IsItemOf f hosts t r trees i → IsItemOf f hosts t r new i
  item-kept trees new g i h = record {
    node = h.node;
    within = let longer = grows-longer trees new g in let w = h.within in omega (arith, longer, w);
    target_node = h.target_node;
    related_node = h.related_node;
    at_target = h.at_target;
    shadow = h.shadow;
    shown = λ depth hosted. let k = h.shown depth hosted in
        record {
          in_tree = tree-kept f hosts trees new i.tree (name_at f.names i.node) g k.in_tree;
          target_seen = k.target_seen;
          related_seen = k.related_seen;
        };
  }

  -- an item among trees that says what a path node is
  pub record Says (trees : List Tree) (i : Item) (x : PathNode) : Type 0 where
    pub item : IsItemOf f hosts t r trees i
    pub node : i.node ≡ x.node
    pub entered : i.slot_in_closed ≡ x.is_entered

  module _ (composed : Bool) where
    -- the items that come, where this is the place that is next
    abbrev pub Comes : ℕ → Option PathNode → List Item → Type 0
    Comes depth None rest = rest ≡ []
    Comes depth (Some x) [] = ⊥
    Comes depth (Some x) (i ∷ rest) = (i.node ≡ x.node) × (i.slot_in_closed ≡ x.is_entered) × GoesOn f hosts t r depth composed (name_at f.names i.node) rest

    -- so too as they follow one another up
    abbrev pub Rises : Option PathNode → List Item → Type 0
    Rises None rest = rest ≡ []
    Rises (Some x) [] = ⊥
    Rises (Some x) (i ∷ rest) =
        (i.node ≡ x.node) × (i.slot_in_closed ≡ x.is_entered) × (i.root_of_closed ≡ is_shadow (node_in f.trees (name_at f.names i.node)).kind)
        × FollowsUp (shadows f hosts) t composed (name_at f.names i.node) (map (item_named f.names) rest)

    -- the items so far, and those that come, make up the path
    pub record IsTrack (trees : List Tree) (items : List Item) (next : Option PathNode) : Type 0 where
      pub place : ForSome next (IsPathNode f hosts trees)
      pub each : AllByRecursion (IsItemOf f hosts t r trees) items
      pub way : (depth : ℕ) → IsHosted f hosts depth → (rest : List Item) → Comes depth next rest → IsWay f hosts t r depth composed (items ++ rest)
      pub trail : (rest : List Item) → Rises next rest → IsTrail (shadows f hosts) t composed (map (item_named f.names) (items ++ rest))

    -- The path node x at the end of a track, among trees that grow.
    module _ (trees new : List Tree) (items : List Item) (x : PathNode) (i : Item) (more : List Item) (next : Option PathNode)
        (track : IsTrack trees items (Some x)) where
      -- one item more, among more trees
      pub track-more : Grows trees new → more ≡ items ++ i ∷ [] → Says trees i x →
          ForSome next (IsPathNode f hosts new) → ((depth : ℕ) → IsHosted f hosts depth → option_map (λ (y : PathNode). name_at f.names y.node) next
          ≡ next_name f hosts t r depth composed (name_at f.names x.node)) →
          ForSome next (λ y. (event_parent_at (shadows f hosts) composed (root_of f.trees t) (name_at f.names x.node) ≡ Some (name_at f.names y.node))
          × (y.is_entered ≡ is_assigned_at (shadows f hosts) (name_at f.names y.node) (name_at f.names x.node))) → IsTrack new more next
      track-more g e says place value behind = subst (λ is. IsTrack new is next) (sym e) (record {
        place = place;
        each = all-other (IsItemOf f hosts t r trees) (IsItemOf f hosts t r new) (item-kept trees new g) (items ++ i ∷ [])
            (all-more (IsItemOf f hosts t r trees) items i track.each says.item);
        way = λ depth hosted rest h. subst (IsWay f hosts t r depth composed) (sym (append_assoc items (i ∷ []) rest))
            (track.way depth hosted (i ∷ rest) (says.node, says.entered, goes depth next (value depth hosted) (λ y is. (behind y is).1) rest h));
        trail = λ rest h. subst (λ is. IsTrail (shadows f hosts) t composed (map (item_named f.names) is)) (sym (append_assoc items (i ∷ []) rest))
            (track.trail (i ∷ rest) (says.node, says.entered, says.item.shadow, rises next behind rest h));
      })
        where
          rises : (next : Option PathNode) →
              ForSome next (λ y. (event_parent_at (shadows f hosts) composed (root_of f.trees t) (name_at f.names x.node) ≡ Some (name_at f.names y.node))
              × (y.is_entered ≡ is_assigned_at (shadows f hosts) (name_at f.names y.node) (name_at f.names x.node)))
              → (rest : List Item) → Rises next rest → FollowsUp (shadows f hosts) t composed (name_at f.names i.node) (map (item_named f.names) rest)
          rises None up rest h =
              subst (λ is. FollowsUp (shadows f hosts) t composed (name_at f.names i.node) (map (item_named f.names) is)) (sym h) tt
          rises (Some y) up [] h = absurd h
          rises (Some y) up (j ∷ rest) h =
              let same : name_at f.names y.node ≡ name_at f.names j.node = ap (name_at f.names) (sym h.0) in
              subst (λ z. FollowsUp (shadows f hosts) t composed z (map (item_named f.names) (j ∷ rest))) (ap (name_at f.names) (sym says.node))
              ((up y refl).0 ∙ ap Some same, h.1 ∙ (up y refl).1 ∙ ap (λ z. is_assigned_at (shadows f hosts) z (name_at f.names x.node)) same, h.2, h.3)

          at : name_at f.names x.node ≡ name_at f.names i.node
          at = ap (name_at f.names) (sym says.node)

          goes : (depth : ℕ) (next : Option PathNode) →
              option_map (λ (y : PathNode). name_at f.names y.node) next ≡ next_name f hosts t r depth composed (name_at f.names x.node)
              → ForSome next (λ y. y.is_entered ≡ is_assigned_at (shadows f hosts) (name_at f.names y.node) (name_at f.names x.node))
              → (rest : List Item) → Comes depth next rest → GoesOn f hosts t r depth composed (name_at f.names i.node) rest
          goes depth None v en rest h = subst (λ z. GoesOn f hosts t r depth composed z rest) at
              (subst (GoesOn f hosts t r depth composed (name_at f.names x.node)) (sym h) (sym v))
          goes depth (Some y) v en [] h = absurd h
          goes depth (Some y) v en (j ∷ rest) h =
              let same : name_at f.names y.node ≡ name_at f.names j.node = ap (name_at f.names) (sym h.0) in
              subst (λ z. GoesOn f hosts t r depth composed z (j ∷ rest)) at
              (sym v ∙ ap Some same, h.1 ∙ en y refl ∙ ap (λ z. is_assigned_at (shadows f hosts) z (name_at f.names x.node)) same, h.2)

    -- a way is the path, where that is not empty
    pub built-way : (depth : ℕ) (items : List Item) → is_empty_at (shadows f hosts) depth t r ≡ false → IsWay f hosts t r depth composed items →
        IsBuilt f hosts t r depth composed items
    built-way depth [] e h = absurd h
    built-way depth (i ∷ items) e h = (e, h)

    -- as it ends
    pub track-last : {trees : List Tree} {items : List Item} {next : Option PathNode} → next ≡ None → IsTrack trees items next → (depth : ℕ) →
        IsHosted f hosts depth → IsWay f hosts t r depth composed items
    track-last {items} e track depth hosted =
        subst (IsWay f hosts t r depth composed) (append-nil items) (track.way depth hosted [] (subst (λ n. Comes depth n []) (sym e) refl))

    pub trail-last : {trees : List Tree} {items : List Item} {next : Option PathNode} → next ≡ None → IsTrack trees items next →
        IsTrail (shadows f hosts) t composed (map (item_named f.names) items)
    trail-last {items} e track =
        subst (λ is. IsTrail (shadows f hosts) t composed (map (item_named f.names) is)) (append-nil items)
        (track.trail [] (subst (λ n. Rises n []) (sym e) refl))

-- an event's places stay among more trees
pub event-kept : {f : NamedTrees} {hosts : List ShadowHost} {trees new : List Tree} {target : PathNode} {related : Option PathNode} → Grows trees new →
    IsEvent f hosts trees target related → IsEvent f hosts new target related
event-kept {f} {hosts} {trees} {new} {target} g h = record {
  at_target = stand-kept f hosts trees new target g h.at_target;
  at_related = λ x e. stand-kept f hosts trees new x g (h.at_related x e);
  root = tree-kept f hosts trees new target.tree (name_at f.names target.node) g h.root;
  begins = h.begins;
}

-- An event on its way: the items so far, and the trees.
pub record IsOnWay (f : NamedTrees) (hosts : List ShadowHost) (target : PathNode) (related : Option PathNode) (composed : Bool) (trees : List Tree)
    (items : List Item) (next : Option PathNode) : Type 0 where
  pub track : IsTrack f hosts (name_at f.names target.node) (related_name f.names related) composed trees items next
  pub are : AreTrees f hosts trees
  pub event : IsEvent f hosts trees target related

-- what follows from what holds of an answer
pub ok-other : {A E : Type 0} (P Q : A → Type 0) → ((x : A) → P x → Q x) → (answer : Result A E) → IfOk answer P → IfOk answer Q
ok-other P Q g (Ok x) h = g x h
ok-other P Q g (Err e) h = tt
