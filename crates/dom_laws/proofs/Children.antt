-- The children of a node, and the nodes of its tree as those of its children's trees.
use Rattle.dom_base.proofs.Std.{◌≡◌, inl, inr, List, [], ◌∷◌, ◌++◌, Some, refl, sym, ap, subst, ◌∙◌, drop, flat_map, map-append, append-nil, flat_map-cons}
use Rattle.dom_base.proofs.Std.{same_Some, none-some}
use Rattle.dom_model.proofs.Model.{NodeName, first_of, Trees, none, tree, Node, nodes, names_of, roots, subtree, inclusive_ancestors, parent_of, trees_below}
use Rattle.dom_model.proofs.Model.{children_of, inclusive_descendants}
use Rattle.dom_laws.proofs.Lists.{In, In-left, In-right, In-parts, Single}
use Rattle.dom_laws.proofs.Shapes.{Has, subtree-here, subtree-below, subtree-beside, subtree-present, subtree-within, above-here, above-below}
use Rattle.dom_laws.proofs.Shapes.{once_apart, above-beside, above-present}
use Rattle.dom_laws.proofs.Counts.{once_parts, Once, once_subtree}

-- ---- roots are the nodes with nothing above them

-- roots stand in the trees
pub Has-root : (d : Trees) (x : NodeName) → In x (names_of (roots d)) → Has d x
Has-root none x i = i
Has-root (tree n c r) x (inl e) = inl (sym e)
Has-root (tree n c r) x (inr i) = inr (inr (Has-root r x i))

-- above a root stands none
above-of_root : (d : Trees) (x : NodeName) → Once d → In x (names_of (roots d)) → inclusive_ancestors d x ≡ x ∷ []
above-of_root none x once i = absurd i
above-of_root (tree n c r) x once (inl e) = above-here n c r x (sym e)
above-of_root (tree n c r) x once (inr i) = above-beside n c r x once (Has-root r x i) ∙ above-of_root r x (once_apart n c r once).4 i

-- roots differ
roots-single : (ts : Trees) → Once ts → Single (names_of (roots ts))
roots-single none once = tt
roots-single (tree n c r) once = (λ i. (once_apart n c r once).1 (Has-root r n.name i), roots-single r (once_apart n c r once).4)

-- so do the children of a node
pub children-single : (ts : Trees) (p : NodeName) → Once ts → Has ts p → Single (children_of ts p)
children-single ts p once h =
    let w = subtree-present ts p h in
    let below : Once (tree w.0 w.1 none) = subst Once w.2 (once_subtree ts p once) in
    subst (λ (us : Trees). Single (names_of (roots (trees_below us)))) (sym w.2) (roots-single w.1 (once_parts w.0 w.1 none below).below)

-- a list of two items or more is none of one item
pub two_or_more : (x : NodeName) (xs : List NodeName) (a : NodeName) → x ∷ (xs ++ a ∷ []) ≡ x ∷ [] → ⊥
two_or_more x [] a e = cc
two_or_more x (y ∷ xs) a e = cc

-- a node with none above it is a root
root-from_above : (d : Trees) (x : NodeName) → Once d → Has d x → inclusive_ancestors d x ≡ x ∷ [] → In x (names_of (roots d))
root-from_above none x once h e = h
root-from_above (tree n c r) x once (inl i) e = inl (sym i)
root-from_above (tree n c r) x once (inr (inl h)) e =
    let w = above-present c x h in
    absurd (two_or_more x w.0 n.name (sym (above-below n c r x once h ∙ ap (λ path. path ++ n.name ∷ []) w.1) ∙ e))
root-from_above (tree n c r) x once (inr (inr h)) e = inr (root-from_above r x (once_apart n c r once).4 h (sym (above-beside n c r x once h) ∙ e))

-- ---- a node is the parent of its children, and of no others

-- the parent of a child
pub parent-of_child : (ts : Trees) (p x : NodeName) → Once ts → Has ts p → In x (children_of ts p) → (parent_of ts x ≡ Some p) × Has ts x
parent-of_child none p x once h i = absurd h
parent-of_child (tree n c r) p x once (inl e) i =
    let among : In x (names_of (roots c)) = subst (λ (us : Trees). In x (names_of (roots (trees_below us)))) (subtree-here n c r p e) i in
    let below = Has-root c x among in (
      ap (λ path. first_of (drop 1 path)) (above-below n c r x once below ∙
          ap (λ path. path ++ n.name ∷ []) (above-of_root c x (once_apart n c r once).3 among)) ∙
          ap Some e,
      inr (inl below),
    )
parent-of_child (tree n c r) p x once (inr (inl h)) i =
    let below : In x (children_of c p) = subst (λ (us : Trees). In x (names_of (roots (trees_below us)))) (subtree-below n c r p once h) i in
    let up = parent-of_child c p x (once_apart n c r once).3 h below in
    let w = above-present c x up.1 in (
      ap (λ path. first_of (drop 1 path)) (above-below n c r x once up.1 ∙ ap (λ path. path ++ n.name ∷ []) w.1)
          ∙ longer w.0 (ap (λ path. first_of (drop 1 path)) (sym w.1) ∙ up.0),
      inr (inl up.1),
    )
  where
    longer : (path : List NodeName) → first_of path ≡ Some p → first_of (path ++ n.name ∷ []) ≡ Some p
    longer [] e = absurd (none-some p e)
    longer (a ∷ path) e = e
parent-of_child (tree n c r) p x once (inr (inr h)) i =
    let beside : In x (children_of r p) = subst (λ (us : Trees). In x (names_of (roots (trees_below us)))) (subtree-beside n c r p once h) i in
    let up = parent-of_child r p x (once_apart n c r once).4 h beside in
    (ap (λ path. first_of (drop 1 path)) (above-beside n c r x once up.1) ∙ up.0, inr (inr up.1))

-- what is just above x is p, with p in the trees
abbrev HasParent : Trees → NodeName → NodeName → Type 0
HasParent ts x p = Has ts p × In x (children_of ts p)

-- a node is among the children of its parent
pub child-of_parent : (ts : Trees) (x p : NodeName) → Once ts → Has ts x → parent_of ts x ≡ Some p → HasParent ts x p
child-of_parent none x p once h e = absurd h
child-of_parent (tree n c r) x p once (inl i) e = absurd (none-some p (rw (above-here n c r x i) at e))
child-of_parent (tree n c r) x p once (inr (inl h)) e =
    let w = above-present c x h in
    by (child-of_parent c x p (once_apart n c r once).3 h) w.0 w.1
    (ap (λ path. first_of (drop 1 path)) (sym (above-below n c r x once h ∙ ap (λ path. path ++ n.name ∷ []) w.1)) ∙ e)
  where
    by : (parent_of c x ≡ Some p → HasParent c x p) → (path : List NodeName) → inclusive_ancestors c x ≡ x ∷ path →
        first_of (path ++ n.name ∷ []) ≡ Some p → HasParent (tree n c r) x p
    by deeper [] is f =
        let same : n.name ≡ p = same_Some _ _ f in
        let below = root-from_above c x (once_apart n c r once).3 h is in
        (inl same, subst (λ (us : Trees). In x (names_of (roots (trees_below us)))) (sym (subtree-here n c r p same)) below)
    by deeper (q ∷ path) is f =
        let up = deeper (ap (λ l. first_of (drop 1 l)) is ∙ f) in
        (inr (inl up.0), subst (λ (us : Trees). In x (names_of (roots (trees_below us)))) (sym (subtree-below n c r p once up.0)) up.1)
child-of_parent (tree n c r) x p once (inr (inr h)) e =
    let up = child-of_parent r x p (once_apart n c r once).4 h (ap (λ path. first_of (drop 1 path)) (sym (above-beside n c r x once h)) ∙ e) in
    (inr (inr up.0), subst (λ (us : Trees). In x (names_of (roots (trees_below us)))) (sym (subtree-beside n c r p once up.0)) up.1)

-- ---- the names of trees

-- the names of a tree and those after it
pub names-tree : (n : Node) (c r : Trees) → names_of (nodes (tree n c r)) ≡ n.name ∷ (names_of (nodes c) ++ names_of (nodes r))
names-tree n c r = ap (λ xs. n.name ∷ xs) (map-append (λ (m : Node). m.name) (nodes c) (nodes r))

-- a node's name is among the names
pub In-names : (ts : Trees) (x : NodeName) → Has ts x → In x (names_of (nodes ts))
In-names none x h = h
In-names (tree n c r) x (inl e) = inl (sym e)
In-names (tree n c r) x (inr (inl h)) = subst (In x) (sym (names-tree n c r)) (inr (In-left x (names_of (nodes c)) (names_of (nodes r)) (In-names c x h)))
In-names (tree n c r) x (inr (inr h)) = subst (In x) (sym (names-tree n c r)) (inr (In-right x (names_of (nodes c)) (names_of (nodes r)) (In-names r x h)))

-- and the other way round
pub Has-names : (ts : Trees) (x : NodeName) → In x (names_of (nodes ts)) → Has ts x
Has-names none x i = i
Has-names (tree n c r) x i = elim (subst (In x) (names-tree n c r) i) [
  | inl e ↦ inl (sym e)
  | inr j ↦ elim (In-parts x (names_of (nodes c)) (names_of (nodes r)) j) [ inl k ↦ inr (inl (Has-names c x k)) | inr k ↦ inr (inr (Has-names r x k)) ]
]

-- two lists without a common member and without repeats
pub Single-append : (xs ys : List NodeName) → Single xs → Single ys → ((x : NodeName) → In x xs → In x ys → ⊥) → Single (xs ++ ys)
Single-append [] ys s t apart = t
Single-append (x ∷ xs) ys s t apart = (
  λ i. elim (In-parts x xs ys i) [ inl j ↦ s.0 j | inr j ↦ apart x (inl refl) j ],
  Single-append xs ys s.1 t (λ y i j. apart y (inr i) j),
)

-- no name stands twice
pub Single-names : (ts : Trees) → Once ts → Single (names_of (nodes ts))
Single-names none once = tt
Single-names (tree n c r) once = subst Single (sym (names-tree n c r)) (
  λ i. elim (In-parts n.name (names_of (nodes c)) (names_of (nodes r)) i) [
    | inl j ↦ (once_apart n c r once).0 (Has-names c n.name j)
    | inr j ↦ (once_apart n c r once).1 (Has-names r n.name j)
  ],
  Single-append (names_of (nodes c)) (names_of (nodes r)) (Single-names c (once_apart n c r once).3) (Single-names r (once_apart n c r once).4)
      (λ x i j. (once_apart n c r once).2 x (Has-names c x i) (Has-names r x j)),
)

-- ---- the names below a node, child by child

-- functions that agree at each member
flat_map-same : (f g : NodeName → List NodeName) (xs : List NodeName) → ((y : NodeName) → In y xs → f y ≡ g y) → flat_map f xs ≡ flat_map g xs
flat_map-same f g [] h = refl
flat_map-same f g (x ∷ xs) h =
    let here = flat_map-cons f x xs in
    let there = flat_map-cons g x xs in
    let first = h x (inl refl) in
    let more = flat_map-same f g xs (λ y i. h y (inr i)) in
    cc

-- the names of trees, tree by tree
names-roots : (d : Trees) → Once d → names_of (nodes d) ≡ flat_map (inclusive_descendants d) (names_of (roots d))
names-roots none once = refl
names-roots (tree n c r) once =
    let first : inclusive_descendants (tree n c r) n.name ≡ n.name ∷ names_of (nodes c) =
    ap (λ (us : Trees). names_of (nodes us)) (subtree-here n c r n.name refl) ∙
    (names-tree n c none ∙ ap (λ xs. n.name ∷ xs) (append-nil (names_of (nodes c)))) in
    let others : flat_map (inclusive_descendants (tree n c r)) (names_of (roots r)) ≡ flat_map (inclusive_descendants r) (names_of (roots r)) =
    flat_map-same (inclusive_descendants (tree n c r)) (inclusive_descendants r) (names_of (roots r))
    (λ y i. ap (λ (us : Trees). names_of (nodes us)) (subtree-beside n c r y once (Has-root r y i))) in
    names-tree n c r
    ∙ (ap (λ xs. n.name ∷ (names_of (nodes c) ++ xs)) (names-roots r (once_apart n c r once).4 ∙ sym others)
    ∙ (ap (λ xs. xs ++ flat_map (inclusive_descendants (tree n c r)) (names_of (roots r))) (sym first)
    ∙ sym (flat_map-cons (inclusive_descendants (tree n c r)) n.name (names_of (roots r)))))

-- a node, and then the trees of its children
pub descendants-children : (ts : Trees) (p : NodeName) → Once ts → Has ts p →
    inclusive_descendants ts p ≡ p ∷ flat_map (inclusive_descendants ts) (children_of ts p)
descendants-children ts p once h = by (subtree-present ts p h)
  where
    by : (n : Node) × (c : Trees) × (subtree ts p ≡ tree n c none) × (n.name ≡ p) →
        inclusive_descendants ts p ≡ p ∷ flat_map (inclusive_descendants ts) (children_of ts p)
    by w =
        let inner : Once (tree w.0 w.1 none) = subst Once w.2 (once_subtree ts p once) in
        let here : inclusive_descendants ts p ≡ p ∷ names_of (nodes w.1) =
        ap (λ (us : Trees). names_of (nodes us)) w.2 ∙
        (names-tree w.0 w.1 none ∙ (ap (λ xs. w.0.name ∷ xs) (append-nil (names_of (nodes w.1))) ∙ ap (λ x. x ∷ names_of (nodes w.1)) w.3)) in
        let kids : children_of ts p ≡ names_of (roots w.1) = ap (λ (us : Trees). names_of (roots (trees_below us))) w.2 in
        let same : flat_map (inclusive_descendants w.1) (names_of (roots w.1)) ≡ flat_map (inclusive_descendants ts) (names_of (roots w.1)) =
        flat_map-same (inclusive_descendants w.1) (inclusive_descendants ts) (names_of (roots w.1)) (λ y i.
        let below = Has-root w.1 y i in
        ap (λ (us : Trees). names_of (nodes us))
        (sym (subtree-below w.0 w.1 none y inner below) ∙
        (ap (λ (us : Trees). subtree us y) (sym w.2) ∙
        subtree-within ts p y once h (subst (λ (us : Trees). Has us y) (sym w.2) (inr (inl below)))))) in
        here ∙ ap (λ xs. p ∷ xs) (names-roots w.1 (once_parts w.0 w.1 none inner).below ∙ (same ∙ ap (flat_map (inclusive_descendants ts)) (sym kids)))
