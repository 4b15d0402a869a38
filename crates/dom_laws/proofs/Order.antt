-- Tree order within the tree of a node: what stands before a node and behind its tree, by the links.
use Rattle.dom_base.proofs.Std.{◌≡◌, ◌⊎◌, inl, inr, true, false, not, List, [], ◌∷◌, ◌++◌, refl, sym, ap, subst, ◌∙◌, append_assoc, filter, flat_map}
use Rattle.dom_base.proofs.Std.{append-nil, filter-append}
use Rattle.dom_model.proofs.Model.{NodeName, name_eq, items_before, items_after, Trees, none, tree, nodes, names_of, subtree, inclusive_ancestors, children_of}
use Rattle.dom_model.proofs.Model.{inclusive_descendants, is_inclusive_ancestor}
use Rattle.dom_laws.specs.Within.{ahead_of, behind, beyond}
use Rattle.dom_laws.proofs.Lists.{In, Single, Single-right, Single-apart, is_in-from, is_in-not, before-split, after-split, filter-none, filter-all}
use Rattle.dom_laws.proofs.Shapes.{Has, has_or_not, subtree-here, subtree-below, subtree-beside, subtree-within, Has-subtree, above-absent}
use Rattle.dom_laws.proofs.Shapes.{once_apart, above-from_below, below-from_above}
use Rattle.dom_laws.proofs.Counts.{Once, once_subtree}
use Rattle.dom_laws.proofs.Children.{names-tree, In-names, Has-names, Single-names, descendants-children}

-- the tree of x stands in the list of all nodes
abbrev Split : List NodeName → List NodeName → Type 0
Split xs part = (front : List NodeName) × (back : List NodeName) × (xs ≡ front ++ (part ++ back))

-- each node's tree is a part of the list
split-names : (ts : Trees) (x : NodeName) → Once ts → Has ts x → Split (names_of (nodes ts)) (inclusive_descendants ts x)
split-names none x once h = absurd h
split-names (tree n c r) x once (inl e) =
    let here = ap (λ (us : Trees). names_of (nodes us)) (subtree-here n c r x e) ∙ names-tree n c none in (
      [],
      names_of (nodes r),
      names-tree n c r ∙ ap (λ xs. xs ++ names_of (nodes r)) (sym (here ∙ ap (λ xs. n.name ∷ xs) (append-nil (names_of (nodes c))))),
    )
split-names (tree n c r) x once (inr (inl h)) =
    let w = split-names c x (once_apart n c r once).3 h in
    let here = ap (λ (us : Trees). names_of (nodes us)) (subtree-below n c r x once h) in
    let part = inclusive_descendants c x in (
      n.name ∷ w.0,
      w.1 ++ names_of (nodes r),
      names-tree n c r
          ∙ (ap (λ xs. n.name ∷ (xs ++ names_of (nodes r))) w.2
          ∙ (ap (λ xs. n.name ∷ xs) (append_assoc w.0 (part ++ w.1) (names_of (nodes r)) ∙ ap (λ xs. w.0 ++ xs) (append_assoc part w.1 (names_of (nodes r))))
          ∙ ap (λ xs. n.name ∷ (w.0 ++ (xs ++ (w.1 ++ names_of (nodes r))))) (sym here))),
    )
split-names (tree n c r) x once (inr (inr h)) =
    let w = split-names r x (once_apart n c r once).4 h in
    let here = ap (λ (us : Trees). names_of (nodes us)) (subtree-beside n c r x once h) in
    let part = inclusive_descendants r x in (
      n.name ∷ (names_of (nodes c) ++ w.0),
      w.1,
      names-tree n c r
          ∙ (ap (λ xs. n.name ∷ (names_of (nodes c) ++ xs)) w.2
          ∙ (ap (λ xs. n.name ∷ xs) (sym (append_assoc (names_of (nodes c)) w.0 (part ++ w.1)))
          ∙ ap (λ xs. n.name ∷ ((names_of (nodes c) ++ w.0) ++ (xs ++ w.1))) (sym here))),
    )

-- the nodes below x, in tree order
abbrev pub joined : Trees → List NodeName → List NodeName
joined ts xs = flat_map (inclusive_descendants ts) xs

-- the nodes of the trees of a node's children, in tree order
abbrev pub below : Trees → NodeName → List NodeName
below ts x = joined ts (children_of ts x)

-- a node in the tree of x is below x
pub inside-test : (ts : Trees) (x y : NodeName) → Once ts → Has ts x → In y (inclusive_descendants ts x) → is_inclusive_ancestor ts x y ≡ true
inside-test ts x y once at i = is_in-from x (inclusive_ancestors ts y) (above-from_below ts x y once at (Has-names (subtree ts x) y i))

-- any other one is not
pub outside-test : (ts : Trees) (x y : NodeName) → Once ts → (In y (inclusive_descendants ts x) → ⊥) → is_inclusive_ancestor ts x y ≡ false
outside-test ts x y once off = is_in-not x (inclusive_ancestors ts y) (λ i. by (has_or_not ts y) i)
  where
    by : Has ts y ⊎ (Has ts y → ⊥) → In x (inclusive_ancestors ts y) → ⊥
    by (inl h) i = off (In-names (subtree ts x) y (below-from_above ts x y once h i))
    by (inr away) i = subst (In x) (above-absent ts y away) i

-- x stands within the tree of top, which stands in the trees
pub record IsWithin (ts : Trees) (top x : NodeName) : Type 0 where
  pub once : Once ts
  pub top_stands : Has ts top
  pub stands : Has (subtree ts top) x

module _ (ts : Trees) (top x : NodeName) (w : IsWithin ts top x) where
  -- it stands in the trees
  pub stands_in : Has ts x
  stands_in = Has-subtree ts top x w.once w.stands

  -- no node of the tree of top stands twice
  pub all_single : Single (inclusive_descendants ts top)
  all_single = Single-names (subtree ts top) (once_subtree ts top w.once)

  -- the tree of x is x and what is below it
  pub here : inclusive_descendants ts x ≡ x ∷ below ts x
  here = descendants-children ts x w.once stands_in

  -- the places before x and behind its tree are determined by how the list splits
  pub split_is : (front back : List NodeName) → inclusive_descendants ts top ≡ front ++ (inclusive_descendants ts x ++ back)
      → (ahead_of ts top x ≡ front) × (behind ts top x ≡ below ts x ++ back) × (beyond ts top x ≡ back)
  split_is front back e =
      let whole : inclusive_descendants ts top ≡ front ++ x ∷ (below ts x ++ back) = e ∙ ap (λ xs. front ++ (xs ++ back)) here in
      let single : Single (front ++ x ∷ (below ts x ++ back)) = subst Single whole all_single in
      let apart : In x front → ⊥ = λ i. Single-apart x front (x ∷ (below ts x ++ back)) single i (inl refl) in
      let rest : Single (x ∷ (below ts x ++ back)) = Single-right front (x ∷ (below ts x ++ back)) single in
      let after : behind ts top x ≡ below ts x ++ back = ap (items_after name_eq x) whole ∙ after-split x front (below ts x ++ back) apart in
      let test = λ (y : NodeName). not (is_inclusive_ancestor ts x y) in (
        ap (items_before name_eq x) whole ∙ before-split x front (below ts x ++ back) apart,
        after,
        ap (filter test) after
            ∙ (filter-append test (below ts x) back
            ∙ (ap (λ xs. xs ++ filter test back)
            (filter-none test (below ts x) (λ y i. ap not (inside-test ts x y w.once stands_in (subst (In y) (sym here) (inr i)))))
            ∙ filter-all test back (λ y i. ap not (outside-test ts x y w.once (λ j. Single-apart y (x ∷ below ts x) back rest (subst (In y) here j) i))))),
      )

  -- and so it splits
  pub splits : inclusive_descendants ts top ≡ ahead_of ts top x ++ (inclusive_descendants ts x ++ beyond ts top x)
  splits =
      let s = split-names (subtree ts top) x (once_subtree ts top w.once) w.stands in
      let same : inclusive_descendants (subtree ts top) x ≡ inclusive_descendants ts x =
      ap (λ (us : Trees). names_of (nodes us)) (subtree-within ts top x w.once w.top_stands w.stands) in
      let e : inclusive_descendants ts top ≡ s.0 ++ (inclusive_descendants ts x ++ s.1) = s.2 ∙ ap (λ xs. s.0 ++ (xs ++ s.1)) same in
      let is = split_is s.0 s.1 e in
      e ∙ (ap (λ xs. xs ++ (inclusive_descendants ts x ++ s.1)) (sym is.0) ∙ ap (λ xs. ahead_of ts top x ++ (inclusive_descendants ts x ++ xs)) (sym is.2))

  -- what is behind x: first what is below it
  pub behind_is : behind ts top x ≡ below ts x ++ beyond ts top x
  behind_is = (split_is (ahead_of ts top x) (beyond ts top x) splits).1

-- it has that node as an inclusive ancestor
pub above-within : (ts : Trees) (top x : NodeName) → IsWithin ts top x → is_inclusive_ancestor ts top x ≡ true
above-within ts top x w = is_in-from top (inclusive_ancestors ts x) (above-from_below ts top x w.once w.top_stands w.stands)
