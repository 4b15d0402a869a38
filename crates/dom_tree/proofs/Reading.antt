-- What is read of the trees is what the arena's lists say.
use Rattle.dom_base.proofs.Std.{◌≡◌, ◌≢◌, ◌⊎◌, inl, inr, ℕ, ◌<◌, true, false, eqb, List, [], ◌∷◌, map, length, Option, Some, None, refl, sym, ap, ◌∙◌}
use Rattle.dom_base.proofs.Std.{true≢false, unwrap_or, drop, is_none, last_or, option_map, option_map_or, option_and_then, eq-eqb, ne_eqb, or_right, cases_Bool}
use Rattle.dom_base.proofs.Std.{eqb_tells, append-nil}
use Rattle.dom_model.proofs.Model.{NodeName, name_eq, first_of, last_of, items_before, items_after, Node, names_of, trees_below, subtree, node_in, no_node}
use Rattle.dom_model.proofs.Model.{children_of as children_in, inclusive_ancestors, parent_of as parent_in, siblings, next_sibling, previous_sibling}
use Rattle.dom_model.proofs.Model.{name_eq-same}
use Rattle.node_arena.specs.Nodes.{children_of, contains, parent_of, ancestors_of, head_of, last_from, last_of as last_key, next_in, next_of}
use Rattle.node_arena.specs.Nodes.{prev_from, prev_in, prev_of}
use Rattle.node_arena.proofs.Forests.{cases_Option, contains-parent, parent_within, ancestors_of-child, ancestors_of-root}
use Rattle.node_arena.proofs.Lists.{contains-head}
use Rattle.dom_tree.specs.Definitions.{node_at, root_keys, is_root, trees_of}
use Rattle.dom_tree.proofs.Rows.{same_name, name_of_key, Each}
use Rattle.dom_tree.proofs.Reach.{find-reached, roots-Stands, trees_below-Stands, inclusive_ancestors-from}
use Rattle.dom_tree.proofs.Roots.{passing-within}
use Rattle.dom_tree.proofs.Changes.{IsWhole, Stands-trees_of, reached, node_here, subtree_here}

-- an Option mapped and asked whether it is none
is_none_from : {X : Type 0} (o : Option X) → is_none o ≡ true → o ≡ None
is_none_from None e = refl
is_none_from (Some x) e = absurd (true≢false (sym e))

-- names of keys tell them apart
pub name_of_key-eq : {nodes : List Node} {lists : List (List ℕ)} → IsWhole nodes lists → (j k : ℕ) → j < length lists → k < length lists →
    name_eq (name_of_key nodes j) (name_of_key nodes k) ≡ eqb j k
name_of_key-eq {nodes} {lists} whole j k at_j at_k =
    same_name whole.named j k (node_here nodes lists whole j at_j) (node_here nodes lists whole k at_k)

-- ---- lists of names

pub first_of-map : (f : ℕ → NodeName) (ks : List ℕ) → first_of (map f ks) ≡ option_map f (head_of ks)
first_of-map f [] = refl
first_of-map f (k ∷ ks) = refl

pub last_or-map : (f : ℕ → NodeName) (before : Option ℕ) (ks : List ℕ) → last_or (option_map f before) (map f ks) ≡ option_map f (last_from before ks)
last_or-map f before [] = refl
last_or-map f before (k ∷ ks) = last_or-map f (Some k) ks

-- ---- the reads

pub node_in-at : (nodes : List Node) (lists : List (List ℕ)) → IsWhole nodes lists → (x : ℕ) → x < length lists →
    node_in (trees_of nodes lists) (name_of_key nodes x) ≡ node_at nodes x
node_in-at nodes lists whole x node =
    ap (λ o. unwrap_or o (no_node (name_of_key nodes x)))
    (find-reached nodes lists whole.named x (node_at nodes x) (node_here nodes lists whole x node) (trees_of nodes lists) (root_keys nodes lists)
    (Stands-trees_of nodes lists whole) (reached nodes lists whole x node))

map-map : (f : ℕ → Node) (g : Node → NodeName) (ks : List ℕ) → map g (map f ks) ≡ map (λ k. g (f k)) ks
map-map f g [] = refl
map-map f g (k ∷ ks) = ap (λ ys. g (f k) ∷ ys) (map-map f g ks)

pub children_in-at : (nodes : List Node) (lists : List (List ℕ)) → IsWhole nodes lists → (x : ℕ) → x < length lists →
    children_in (trees_of nodes lists) (name_of_key nodes x) ≡ map (name_of_key nodes) (children_of lists x)
children_in-at nodes lists whole x node =
    let below = trees_below-Stands nodes lists (subtree (trees_of nodes lists) (name_of_key nodes x)) x (subtree_here nodes lists whole x node) in
    ap names_of (roots-Stands nodes lists (trees_below (subtree (trees_of nodes lists) (name_of_key nodes x))) (children_of lists x) below)
    ∙ map-map (node_at nodes) (λ n. n.name) (children_of lists x)

pub inclusive_ancestors-at : (nodes : List Node) (lists : List (List ℕ)) → IsWhole nodes lists → (x : ℕ) → x < length lists →
    inclusive_ancestors (trees_of nodes lists) (name_of_key nodes x) ≡ map (name_of_key nodes) (x ∷ ancestors_of lists x)
inclusive_ancestors-at nodes lists whole x node =
    let path = inclusive_ancestors-from nodes lists whole.named x (node_at nodes x) (node_here nodes lists whole x node) whole.forest
    (trees_of nodes lists) (root_keys nodes lists) (Stands-trees_of nodes lists whole)
    (λ k found. ancestors_of-root lists k (is_none_from (parent_of lists k) (passing-within nodes (is_root lists) (length lists) k found).1))
    (reached nodes lists whole x node) in
    path.1 ∙ ap (λ ys. name_of_key nodes x ∷ ys) (sym (append-nil path.0) ∙ path.2)

pub parent_in-at : (nodes : List Node) (lists : List (List ℕ)) → IsWhole nodes lists → (x : ℕ) → x < length lists →
    parent_in (trees_of nodes lists) (name_of_key nodes x) ≡ option_map (name_of_key nodes) (parent_of lists x)
parent_in-at nodes lists whole x node =
    ap (λ ys. first_of (drop 1 ys)) (inclusive_ancestors-at nodes lists whole x node) ∙ elim (cases_Option (parent_of lists x)) [
      | inl e ↦ ap (λ ys. first_of (map (name_of_key nodes) ys)) (ancestors_of-root lists x e) ∙ sym (ap (option_map (name_of_key nodes)) e)
      | inr w ↦ ap (λ ys. first_of (map (name_of_key nodes) ys)) (ancestors_of-child lists whole.forest x w.0 w.1) ∙
          sym (ap (option_map (name_of_key nodes)) w.1)
    ]

pub first_in-at : (nodes : List Node) (lists : List (List ℕ)) → IsWhole nodes lists → (x : ℕ) → x < length lists →
    first_of (children_in (trees_of nodes lists) (name_of_key nodes x)) ≡ option_map (name_of_key nodes) (head_of (children_of lists x))
first_in-at nodes lists whole x node = ap first_of (children_in-at nodes lists whole x node) ∙ first_of-map (name_of_key nodes) (children_of lists x)

pub last_in-at : (nodes : List Node) (lists : List (List ℕ)) → IsWhole nodes lists → (x : ℕ) → x < length lists →
    last_of (children_in (trees_of nodes lists) (name_of_key nodes x)) ≡ option_map (name_of_key nodes) (last_key (children_of lists x))
last_in-at nodes lists whole x node = ap last_of (children_in-at nodes lists whole x node) ∙ last_or-map (name_of_key nodes) None (children_of lists x)

-- ---- siblings

-- the siblings of a node: the children of its parent, or itself alone
pub siblings-child : {nodes : List Node} {lists : List (List ℕ)} → IsWhole nodes lists → (x : ℕ) {p : ℕ} → x < length lists →
    parent_of lists x ≡ Some p → siblings (trees_of nodes lists) (name_of_key nodes x) ≡ map (name_of_key nodes) (children_of lists p)
siblings-child {nodes} {lists} whole x {p} node e =
    ap (λ o. option_map_or (children_in (trees_of nodes lists)) o (name_of_key nodes x ∷ []))
    (parent_in-at nodes lists whole x node ∙ ap (option_map (name_of_key nodes)) e)
    ∙ children_in-at nodes lists whole p (parent_within lists p x (contains-parent lists x p e))

pub siblings-root : (nodes : List Node) (lists : List (List ℕ)) → IsWhole nodes lists → (x : ℕ) → x < length lists → parent_of lists x ≡ None →
    siblings (trees_of nodes lists) (name_of_key nodes x) ≡ name_of_key nodes x ∷ []
siblings-root nodes lists whole x node e =
    ap (λ o. option_map_or (children_in (trees_of nodes lists)) o (name_of_key nodes x ∷ []))
    (parent_in-at nodes lists whole x node ∙ ap (option_map (name_of_key nodes)) e)

-- the names tell x from each key of the list
abbrev pub Tells : (ℕ → NodeName) → ℕ → List ℕ → Type 0
Tells f x ks = Each (λ k. name_eq (f x) (f k) ≡ eqb k x) ks

pub tells-rest : (f : ℕ → NodeName) (x k : ℕ) (ks : List ℕ) → Tells f x (k ∷ ks) → Tells f x ks
tells-rest f x k ks tells j found = tells j (or_right (eqb k j) (contains ks j) found)

pub tells-here : (f : ℕ → NodeName) (x k : ℕ) (ks : List ℕ) → Tells f x (k ∷ ks) → name_eq (f x) (f k) ≡ eqb k x
tells-here f x k ks tells = tells k (contains-head k ks)

pub first_of-items_after : (f : ℕ → NodeName) (x : ℕ) (ks : List ℕ) → Tells f x ks →
    first_of (items_after name_eq (f x) (map f ks)) ≡ option_map f (next_in ks x)
first_of-items_after f x [] tells = refl
first_of-items_after f x (k ∷ ks) tells =
    let here = tells-here f x k ks tells in
    elim (cases_Bool (eqb k x)) [
      | inl e ↦ rw (here, e) (first_of-map f ks)
      | inr e ↦ rw (here, e) (first_of-items_after f x ks (tells-rest f x k ks tells))
    ]

pub last_or-items_before : (f : ℕ → NodeName) (x : ℕ) (before : Option ℕ) (ks : List ℕ) → Tells f x ks → contains ks x ≡ true →
    last_or (option_map f before) (items_before name_eq (f x) (map f ks)) ≡ option_map f (prev_from before ks x)
last_or-items_before f x before [] tells found = absurd (true≢false (sym found))
last_or-items_before f x before (k ∷ ks) tells found =
    let here = tells-here f x k ks tells in
    elim (cases_Bool (eqb k x)) [
      | inl e ↦ rw (here, e) refl
      | inr e ↦ rw (here, e) (last_or-items_before f x (Some k) ks (tells-rest f x k ks tells) (rw e at found))
    ]

pub tells-children : (nodes : List Node) (lists : List (List ℕ)) → IsWhole nodes lists → (x p : ℕ) → x < length lists →
    Tells (name_of_key nodes) x (children_of lists p)
tells-children nodes lists whole x p node k found =
    name_of_key-eq whole x k node (whole.forest.nodes p k found) ∙ turned (eqb_tells x k)
  where
    turned : ((eqb x k ≡ true) × (x ≡ k)) ⊎ ((eqb x k ≡ false) × (x ≢ k)) → eqb x k ≡ eqb k x
    turned (inl h) = h.0 ∙ sym (eq-eqb k x (sym h.1))
    turned (inr h) = h.0 ∙ sym (ne_eqb k x (λ e. h.1 (sym e)))

-- what is picked beside a node among its siblings, by names and by keys
module _ (pick : NodeName → List NodeName → Option NodeName) (key_pick : List ℕ → ℕ → Option ℕ) (alone : (y : NodeName) → pick y (y ∷ []) ≡ None) where
  picked_in-at : (nodes : List Node) (lists : List (List ℕ)) → IsWhole nodes lists → (x : ℕ) → x < length lists →
      ((p : ℕ) → parent_of lists x ≡ Some p → pick (name_of_key nodes x) (map (name_of_key nodes) (children_of lists p))
      ≡ option_map (name_of_key nodes) (key_pick (children_of lists p) x)) →
      pick (name_of_key nodes x) (siblings (trees_of nodes lists) (name_of_key nodes x))
      ≡ option_map (name_of_key nodes) (option_and_then (λ p. key_pick (children_of lists p) x) (parent_of lists x))
  picked_in-at nodes lists whole x node among =
      let beside : Option ℕ → Option NodeName = λ o. option_map (name_of_key nodes) (option_and_then (λ p. key_pick (children_of lists p) x) o) in
      elim (cases_Option (parent_of lists x)) [
        | inl e ↦ ap (pick (name_of_key nodes x)) (siblings-root nodes lists whole x node e) ∙ alone (name_of_key nodes x) ∙ sym (ap beside e)
        | inr w ↦ ap (pick (name_of_key nodes x)) (siblings-child whole x node w.1) ∙ among w.0 w.1 ∙ sym (ap beside w.1)
      ]

pub next_in-at : (nodes : List Node) (lists : List (List ℕ)) → IsWhole nodes lists → (x : ℕ) → x < length lists →
    next_sibling (trees_of nodes lists) (name_of_key nodes x) ≡ option_map (name_of_key nodes) (next_of lists x)
next_in-at nodes lists whole x node =
    picked_in-at (λ y ys. first_of (items_after name_eq y ys)) next_in (λ y. rw (name_eq-same y) refl) nodes lists whole x node
    (λ p e. first_of-items_after (name_of_key nodes) x (children_of lists p) (tells-children nodes lists whole x p node))

pub prev_in-at : (nodes : List Node) (lists : List (List ℕ)) → IsWhole nodes lists → (x : ℕ) → x < length lists →
    previous_sibling (trees_of nodes lists) (name_of_key nodes x) ≡ option_map (name_of_key nodes) (prev_of lists x)
prev_in-at nodes lists whole x node =
    picked_in-at (λ y ys. last_of (items_before name_eq y ys)) prev_in (λ y. rw (name_eq-same y) refl) nodes lists whole x node
    (λ p e. last_or-items_before (name_of_key nodes) x None (children_of lists p) (tells-children nodes lists whole x p node) (contains-parent lists x p e))
