-- The items of the pieces of trees, node by node.
use Rattle.dom_range_ops.proofs.Cited.{◌≡◌, inl, inr, ℕ, Bool, true, false, List, [], ◌∷◌, ◌++◌, map, refl, sym, ap, subst, ◌∙◌, append_assoc, if◌then◌else◌}
use Rattle.dom_range_ops.proofs.Cited.{flat_map, append-nil, flat_map-cons, NodeName, Pieces, whole, cut, clone, pieces_along, all_whole, ◌followed_by◌, Trees}
use Rattle.dom_range_ops.proofs.Cited.{none, tree, Node, nodes, names_of, roots, subtree, trees_below, children_of, is_inclusive_ancestor, kind_of, has_data}
use Rattle.dom_range_ops.proofs.Cited.{nothing, In, once_apart, Has, subtree-here, subtree-below, subtree-beside, subtree-present, subtree-within, once_below}
use Rattle.dom_range_ops.proofs.Cited.{Once, once_subtree, Has-root, Item, whole_item, cut_item, clone_item, end_item, items_of, wholes_if}
use Rattle.dom_range_ops.proofs.OwnTexts.{flat-same}
use Rattle.dom_slots.proofs.NamesOfNodes.{InNodes, node_in-self, in_left, in_right}

-- the items of some pieces and then others
pub items-followed : (a b : Pieces) → items_of (a followed_by b) ≡ items_of a ++ items_of b
items-followed nothing b = refl
items-followed (whole x rest) b = ap (λ xs. whole_item x ∷ xs) (items-followed rest b)
items-followed (cut x from to rest) b = ap (λ xs. cut_item x from to ∷ xs) (items-followed rest b)
items-followed (clone x inside rest) b =
    ap (λ xs. clone_item x ∷ (items_of inside ++ end_item ∷ xs)) (items-followed rest b) ∙
    ap (λ xs. clone_item x ∷ xs) (sym (append_assoc (items_of inside) (end_item ∷ items_of rest) (items_of b)))

-- the items of nodes that are taken whole
pub items-whole : (xs : List NodeName) → items_of (all_whole xs) ≡ map whole_item xs
items-whole [] = refl
items-whole (x ∷ xs) = ap (λ ys. whole_item x ∷ ys) (items-whole xs)

-- the first node of a tree
top-is : (n m : Node) (c d : Trees) → tree n c none ≡ tree m d none → n ≡ m
top-is n m c d e = cc

-- the root of a node's tree is a node of the trees
node-there : (ts : Trees) (x : NodeName) {n : Node} {c : Trees} → Once ts → Has ts x → subtree ts x ≡ tree n c none → InNodes n (nodes ts)
node-there none x once h is = absurd h
node-there (tree m d s) x {n} {c} once (inl e) is = inl (top-is n m c d (sym is ∙ subtree-here m d s x e))
node-there (tree m d s) x {n} once (inr (inl h)) is =
    inr (in_left n (nodes d) (nodes s) (node-there d x (once_apart m d s once).3 h (sym (subtree-below m d s x once h) ∙ is)))
node-there (tree m d s) x {n} once (inr (inr h)) is =
    inr (in_right n (nodes d) (nodes s) (node-there s x (once_apart m d s once).4 h (sym (subtree-beside m d s x once h) ∙ is)))

module _ (ts : Trees) (p : NodeName) (once : Once ts) (h : Has ts p) where
  -- what is below a node stands once
  pub once-below : Once (trees_below (subtree ts p))
  once-below = once_below (subtree ts p) (once_subtree ts p once)

  -- there the tree of a child is the child's tree
  pub child-tree : (y : NodeName) → In y (children_of ts p) → subtree (trees_below (subtree ts p)) y ≡ subtree ts y
  child-tree y i =
      let w = subtree-present ts p h in
      let all : Once (tree w.0 w.1 none) = subst Once w.2 (once_subtree ts p once) in
      let there : Has w.1 y = Has-root w.1 y (subst (λ (us : Trees). In y (names_of (roots (trees_below us)))) w.2 i) in
      ap (λ (us : Trees). subtree (trees_below us) y) w.2
      ∙ (sym (subtree-below w.0 w.1 none y all there) ∙
      (ap (λ (us : Trees). subtree us y) (sym w.2) ∙ subtree-within ts p y once h (subst (λ (us : Trees). Has us y) (sym w.2) (inr (inl there)))))

module _ (ts : Trees) (x : NodeName) (taken : NodeName → Bool) (from to : ℕ) where
  -- the items of some trees
  abbrev along : Trees → List Item
  along us = items_of (pieces_along ts x taken from to us)

  -- the items of a node, where those of its children are given
  abbrev items_with : Bool → Bool → Bool → NodeName → List Item → List Item
  items_with above passes has_units y inside =
      if above then (if has_units then cut_item y from to ∷ [] else clone_item y ∷ (inside ++ end_item ∷ [])) else wholes_if passes (y ∷ [])

  -- the items of a first tree and of the trees behind it
  tree-items : (n : Node) (c rest : Trees) →
      along (tree n c rest) ≡ items_with (is_inclusive_ancestor ts n.name x) (taken n.name) (has_data n.kind) n.name (along c) ++ along rest
  tree-items n c rest = by (is_inclusive_ancestor ts n.name x) (taken n.name) (has_data n.kind)
    where
      y : NodeName
      y = n.name

      inside : Pieces
      inside = pieces_along ts x taken from to c

      others : Pieces
      others = pieces_along ts x taken from to rest

      by : (above passes has_units : Bool)
          → items_of (if above then (if has_units then cut y from to others else clone y inside others) else
          (if passes then whole y others else others)) ≡ items_with above passes has_units y (items_of inside) ++ items_of others
      by true passes true = refl
      by true passes false = ap (λ xs. clone_item y ∷ xs) (sym (append_assoc (items_of inside) (end_item ∷ []) (items_of others)))
      by false true has_units = refl
      by false false has_units = refl

  -- the items of a node's tree
  abbrev pub node_items : NodeName → List Item
  node_items y = along (subtree ts y)

  -- the items of trees are those of each tree, one after the other
  roots-items : (d : Trees) → Once d → along d ≡ flat_map (λ y. along (subtree d y)) (names_of (roots d))
  roots-items none once = refl
  roots-items (tree n c rest) once =
      let f : NodeName → List Item = λ y. along (subtree (tree n c rest) y) in
      let g : NodeName → List Item = λ y. along (subtree rest y) in
      let own : List Item = items_with (is_inclusive_ancestor ts n.name x) (taken n.name) (has_data n.kind) n.name (along c) in
      let first : f n.name ≡ own = ap along (subtree-here n c rest n.name refl) ∙ (tree-items n c none ∙ append-nil own) in
      let others : flat_map f (names_of (roots rest)) ≡ flat_map g (names_of (roots rest)) =
      flat-same f g (names_of (roots rest)) (λ y i. ap along (subtree-beside n c rest y once (Has-root rest y i))) in
      tree-items n c rest
      ∙ (ap (λ xs. xs ++ along rest) (sym first) ∙
      (ap (λ xs. f n.name ++ xs) (roots-items rest (once_apart n c rest once).4 ∙ sym others) ∙ sym (flat_map-cons f n.name (names_of (roots rest)))))

  module _ (once : Once ts) (y : NodeName) (h : Has ts y) where
    -- the items of all that is below a node are those of each child, one after the other
    below-items : along (trees_below (subtree ts y)) ≡ flat_map node_items (children_of ts y)
    below-items =
        roots-items (trees_below (subtree ts y)) (once-below ts y once h)
        ∙ flat-same (λ z. along (subtree (trees_below (subtree ts y)) z)) node_items (children_of ts y) (λ z i. ap along (child-tree ts y once h z i))

    -- the items of a node, by whether it is above the path's end and whether it passes the test
    items-at : node_items y ≡ items_with (is_inclusive_ancestor ts y x) (taken y) (has_data (kind_of ts y)) y (flat_map node_items (children_of ts y))
    items-at =
        let w = subtree-present ts y h in
        let kind : has_data w.0.kind ≡ has_data (kind_of ts y) =
        ap (λ (m : Node). has_data m.kind) (sym (node_in-self ts once w.0 (node-there ts y once h w.2))) ∙
        ap (λ (z : NodeName). has_data (kind_of ts z)) w.3 in
        let all = λ (z : NodeName) (b : Bool) (xs : List Item). items_with (is_inclusive_ancestor ts z x) (taken z) b z xs in
        ap along w.2
        ∙ (tree-items w.0 w.1 none
        ∙ (append-nil (all w.0.name (has_data w.0.kind) (along w.1))
        ∙ (ap (λ z. all z (has_data w.0.kind) (along w.1)) w.3
        ∙ (ap (λ b. all y b (along w.1)) kind
        ∙ ap (all y (has_data (kind_of ts y))) (sym (ap (λ (us : Trees). along (trees_below us)) w.2) ∙ below-items)))))

    -- a node beside the path is taken as it is where it passes the test, else not at all
    pub items-beside : is_inclusive_ancestor ts y x ≡ false → node_items y ≡ wholes_if (taken y) (y ∷ [])
    items-beside e = items-at ∙ ap (λ b. items_with b (taken y) (has_data (kind_of ts y)) y (flat_map node_items (children_of ts y))) e

    -- of a node of the path a clone is made, with what is taken of its children, or of a part of its data
    pub items-on : is_inclusive_ancestor ts y x ≡ true →
        node_items y ≡ (if has_data (kind_of ts y) then cut_item y from to ∷ [] else clone_item
        y ∷ (flat_map node_items (children_of ts y) ++ end_item ∷ []))
    items-on e = items-at ∙ ap (λ b. items_with b (taken y) (has_data (kind_of ts y)) y (flat_map node_items (children_of ts y))) e
