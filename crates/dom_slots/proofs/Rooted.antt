-- The root of a node: it stands above the node, and all nodes of its tree have it as their root.
use Rattle.dom_base.proofs.Std.{◌≡◌, inl, inr, List, [], ◌∷◌, ◌++◌, Option, None, Some, refl, sym, ap, subst, ◌∙◌, unwrap_or, last_or}
use Rattle.dom_model.proofs.Model.{NodeName, name_eq, items_before, last_of, Trees, subtree, inclusive_ancestors, parent_of, root_of}
use Rattle.dom_laws.proofs.Laws.{above-split, In, Has, has_or_not, subtree-absent, Has-above, Has-subtree, above-from_below, below-from_above, above-parent}
use Rattle.dom_laws.proofs.Laws.{above-present, above-root, Once}

-- the last item is one of the items
last-in : (x : NodeName) (xs : List NodeName) (d : NodeName) → In (unwrap_or (last_or (Some x) xs) d) (x ∷ xs)
last-in x [] d = inl refl
last-in x (y ∷ ys) d = inr (last-in y ys d)

-- and that of the back of a list
last-back : (o : Option NodeName) (xs : List NodeName) (a : NodeName) (ys : List NodeName) (d e : NodeName) →
    unwrap_or (last_or o (xs ++ a ∷ ys)) d ≡ unwrap_or (last_or (Some a) ys) e
last-back o [] a ys d e = same a ys
  where
    same : (b : NodeName) (zs : List NodeName) → unwrap_or (last_or (Some b) zs) d ≡ unwrap_or (last_or (Some b) zs) e
    same b [] = refl
    same b (z ∷ zs) = same z zs
last-back o (x ∷ xs) a ys d e = last-back (Some x) xs a ys d e

-- a root without more above it
pub root-alone : (ts : Trees) (x : NodeName) → Has ts x → parent_of ts x ≡ None → root_of ts x ≡ x
root-alone ts x h e = ap (λ path. unwrap_or (last_of path) x) (above-root ts x h e)

module _ (ts : Trees) (once : Once ts) where
  -- the root stands above the node
  root-above : (x : NodeName) → Has ts x → In (root_of ts x) (inclusive_ancestors ts x)
  root-above x h = let w = above-present ts x h in subst (λ path. In (unwrap_or (last_of path) x) path) (sym w.1) (last-in x w.0 x)

  -- and is a node
  pub Has-root_of : (x : NodeName) → Has ts x → Has ts (root_of ts x)
  Has-root_of x h = Has-above ts (root_of ts x) x once h (root-above x h)

  -- who stands above a node has its root
  root-up : (a x : NodeName) → Has ts x → In a (inclusive_ancestors ts x) → root_of ts x ≡ root_of ts a
  root-up a x h i =
      let w = above-present ts a (Has-above ts a x once h i) in
      let front = items_before name_eq a (inclusive_ancestors ts x) in
      ap (λ path. unwrap_or (last_of path) x) (above-split ts a x once h i ∙ ap (λ path. front ++ path) w.1)
      ∙ (last-back None front a w.0 x a ∙ ap (λ path. unwrap_or (last_of path) a) (sym w.1))

  -- so has a node's parent
  pub root-parent : (x p : NodeName) → Has ts x → parent_of ts x ≡ Some p → root_of ts x ≡ root_of ts p
  root-parent x p h e =
      let up = above-parent ts x p once h e in
      root-up p x h (subst (In p) (sym up.0) (inr (subst (In p) (sym (above-present ts p up.1).1) (inl refl))))

  -- and so have the nodes below it
  pub root-below : (a x : NodeName) → Has ts a → Has (subtree ts a) x → root_of ts x ≡ root_of ts a
  root-below a x h i = root-up a x (Has-subtree ts a x once i) (above-from_below ts a x once h i)

  -- a root's root is itself
  pub root-of_root : (x : NodeName) → Has ts x → root_of ts (root_of ts x) ≡ root_of ts x
  root-of_root x h = sym (root-up (root_of ts x) x h (root-above x h))

  -- a node stands in the tree of its root
  pub in-tree_of_root : (x : NodeName) → Has ts x → Has (subtree ts (root_of ts x)) x
  in-tree_of_root x h = below-from_above ts (root_of ts x) x once h (root-above x h)

  -- and the nodes of that tree have that root
  pub root-within : (x y : NodeName) → Has ts x → Has (subtree ts (root_of ts x)) y → root_of ts y ≡ root_of ts x
  root-within x y h i = root-below (root_of ts x) y (Has-root_of x h) i ∙ root-of_root x h

  -- whoever stands above a node stands in the tree of its root
  pub in-same_tree : (a x : NodeName) → Has (subtree ts a) x → Has (subtree ts (root_of ts x)) a
  in-same_tree a x i = elim (has_or_not ts a) [
    | inl h ↦ subst (λ y. Has (subtree ts y) a) (sym (root-below a x h i)) (in-tree_of_root a h)
    | inr off ↦ absurd (subst (λ (us : Trees). Has us x) (subtree-absent ts a off) i)
  ]
