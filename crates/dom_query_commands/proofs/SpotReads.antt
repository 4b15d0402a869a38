-- What is read of a node is what its spot says.
use Rattle.dom_query_commands.proofs.Cited.{◌≡◌, inl, inr, ◌≤◌, false, List, [], ◌∷◌, ◌++◌, Option, Some, None, refl, sym, ap, subst, ◌∙◌, arith, append_assoc}
use Rattle.dom_query_commands.proofs.Cited.{find, unwrap_or, drop, option_or, option_map, option_map_or, cases_Bool, cond-true, append-nil, find-append}
use Rattle.dom_query_commands.proofs.Cited.{NodeName, name_eq, first_of, items_after, Trees, none, tree, Node, nodes, names_of, roots, or_else, subtree}
use Rattle.dom_query_commands.proofs.Cited.{no_node, node_in, trees_below, children_of, times_in, inclusive_ancestors, on_top, parent_of, siblings}
use Rattle.dom_query_commands.proofs.Cited.{next_sibling, name_eq-same, name_eq-turned, Once, times-here, times-elsewhere, TreeStep}
use Rattle.dom_query_commands.proofs.Spots.{Spot, spot_of, IsSpot, IsRoot, IsChild, closed, spot_of-spot, times-root, times-below, above-root}

-- ---- the first spot of a name, and what is read of the name

-- its tree
abbrev tree_from : Option Spot → Trees
tree_from None = none
tree_from (Some s) = tree s.node s.below none

-- the tree of one of two spots
tree_from-or : (o p : Option Spot) → or_else (tree_from o) (tree_from p) ≡ tree_from (option_or o p)
tree_from-or None p = refl
tree_from-or (Some s) p = refl

-- the tree of a name is that of its first spot
subtree-first : (ts : Trees) (above : List NodeName) (after : List TreeStep) (x : NodeName) → subtree ts x ≡ tree_from (spot_of ts above after x)
subtree-first none above after x = refl
subtree-first (tree n c r) above after x = elim (cases_Bool (name_eq n.name x)) [
  | inl e ↦ rw e refl
  | inr e ↦
      rw (e, subtree-first c (n.name ∷ above) (closed r after) x, subtree-first r above after x)
      (tree_from-or (spot_of c (n.name ∷ above) (closed r after) x) (spot_of r above after x))
]

-- its node
option_map-or : (o p : Option Spot) → option_or (option_map (λ s. s.node) o) (option_map (λ s. s.node) p) ≡ option_map (λ s. s.node) (option_or o p)
option_map-or None p = refl
option_map-or (Some s) p = refl

-- the first node of a name is that of its first spot
find-first : (ts : Trees) (above : List NodeName) (after : List TreeStep) (x : NodeName) →
    find (λ n. name_eq n.name x) (nodes ts) ≡ option_map (λ s. s.node) (spot_of ts above after x)
find-first none above after x = refl
find-first (tree n c r) above after x = elim (cases_Bool (name_eq n.name x)) [
  | inl e ↦ rw e refl
  | inr e ↦
      rw (e, find-append (λ (m : Node). name_eq m.name x) (nodes c) (nodes r), find-first c (n.name ∷ above) (closed r after) x, find-first r above after x)
      (option_map-or (spot_of c (n.name ∷ above) (closed r after) x) (spot_of r above after x))
]

-- the nodes above it
abbrev IsPath : List NodeName → NodeName → List NodeName → Option Spot → Type 0
IsPath above x path None = path ≡ []
IsPath above x path (Some s) = (others : List NodeName) × (path ≡ x ∷ others) × (others ++ above ≡ s.above)

-- the inclusive ancestors of a name are a path to its first spot
ancestors-first : (ts : Trees) (above : List NodeName) (after : List TreeStep) (x : NodeName) →
    IsPath above x (inclusive_ancestors ts x) (spot_of ts above after x)
ancestors-first none above after x = refl
ancestors-first (tree n c r) above after x = elim (cases_Bool (name_eq n.name x)) [
  | inl e ↦ rw e ([], refl, refl)
  | inr e ↦
      rw e (either (spot_of c (n.name ∷ above) (closed r after) x) (spot_of r above after x) (inclusive_ancestors c x) (inclusive_ancestors r x)
      (ancestors-first c (n.name ∷ above) (closed r after) x) (ancestors-first r above after x))
]
  where
    -- a path to one of two spots, where the first one is below the node
    either : (o p : Option Spot) (path others : List NodeName) → IsPath (n.name ∷ above) x path o → IsPath above x others p →
        IsPath above x (on_top path n.name others) (option_or o p)
    either None p path others h k = subst (λ ys. IsPath above x (on_top ys n.name others) p) (sym h) k
    either (Some s) p path others h k =
        (h.0 ++ n.name ∷ [], ap (λ ys. on_top ys n.name others) h.1, append_assoc h.0 (n.name ∷ []) above ∙ h.2)

-- ---- reads at a spot of whole trees

-- a node's tree
pub subtree-spot : (ts : Trees) (s : Spot) → IsSpot ts [] [] s → Once ts → subtree ts s.node.name ≡ tree s.node s.below none
subtree-spot ts s at once = subtree-first ts [] [] s.node.name ∙ ap tree_from (spot_of-spot ts [] [] s at (once s.node.name))

-- the node itself
pub node_in-spot : (ts : Trees) (s : Spot) → IsSpot ts [] [] s → Once ts → node_in ts s.node.name ≡ s.node
node_in-spot ts s at once =
    ap (λ o. unwrap_or o (no_node s.node.name))
    (find-first ts [] [] s.node.name ∙ ap (option_map (λ (t : Spot). t.node)) (spot_of-spot ts [] [] s at (once s.node.name)))

-- a node's inclusive ancestors
pub ancestors-spot : (ts : Trees) (s : Spot) → IsSpot ts [] [] s → Once ts → inclusive_ancestors ts s.node.name ≡ s.node.name ∷ s.above
ancestors-spot ts s at once =
    let P : Option Spot → Type 0 = IsPath [] s.node.name (inclusive_ancestors ts s.node.name) in
    let path : P (Some s) = subst P (spot_of-spot ts [] [] s at (once s.node.name)) (ancestors-first ts [] [] s.node.name) in
    path.1 ∙ ap (λ ys. s.node.name ∷ ys) (sym (append-nil path.0) ∙ path.2)

-- a node's children
pub children-spot : (ts : Trees) (s : Spot) → IsSpot ts [] [] s → Once ts → children_of ts s.node.name ≡ names_of (roots s.below)
children-spot ts s at once = ap (λ t. names_of (roots (trees_below t))) (subtree-spot ts s at once)

-- a node's parent
pub parent-spot : (ts : Trees) (s : Spot) → IsSpot ts [] [] s → Once ts → parent_of ts s.node.name ≡ first_of s.above
parent-spot ts s at once = ap (λ ys. first_of (drop 1 ys)) (ancestors-spot ts s at once)

-- the roots behind a root are those right of it
items_after-root : (ts : Trees) (above : List NodeName) (after : List TreeStep) (s : Spot) → IsRoot ts above after s → times_in ts s.node.name ≤ 1 →
    items_after name_eq s.node.name (names_of (roots ts)) ≡ names_of (roots s.right)
items_after-root none above after s h once = absurd h
items_after-root (tree n c r) above after s (inl e) once =
    subst (λ (t : Spot). items_after name_eq t.node.name (n.name ∷ names_of (roots r)) ≡ names_of (roots t.right)) (sym e)
    (cond-true (name_eq n.name n.name) (names_of (roots r)) _ (name_eq-same n.name))
items_after-root (tree n c r) above after s (inr h) once =
    let there = times-root r above after s h in
    elim (cases_Bool (name_eq n.name s.node.name)) [
      | inl e ↦ absurd (omega (arith, times-here n c r s.node.name e))
      | inr e ↦
          let parts = times-elsewhere n c r s.node.name e in
          let apart : name_eq s.node.name n.name ≡ false = name_eq-turned s.node.name n.name ∙ e in
          rw apart (items_after-root r above after s h (omega arith))
    ]

-- At a spot of whole trees: the next sibling.
module _ (ts : Trees) (s : Spot) (at : IsSpot ts [] [] s) (once : Once ts) where
  -- that of a child is the first root right of it
  pub next-child : (p : Spot) → IsSpot ts [] [] p → IsChild p s → next_sibling ts s.node.name ≡ first_of (names_of (roots s.right))
  next-child p at_p h =
      let above = above-root p.below (p.node.name ∷ p.above) (closed p.right p.after) s h in
      let among : siblings ts s.node.name ≡ names_of (roots p.below) =
      ap (λ o. option_map_or (children_of ts) o (s.node.name ∷ [])) (parent-spot ts s at once ∙ ap first_of above) ∙
      children-spot ts p at_p once in
      ap (λ ys. first_of (items_after name_eq s.node.name ys)) among
      ∙ ap first_of (items_after-root p.below (p.node.name ∷ p.above) (closed p.right p.after) s h
      (let below = times-below ts [] [] p at_p s.node.name in let few = once s.node.name in omega arith))

-- ---- names
