-- The nodes that a range contains stand in the tree of its ends.
use Rattle.dom_range_ops.proofs.Cited.{◌≡◌, inl, inr, ℕ, Bool, true, false, ◌&&◌, List, [], ◌∷◌, ◌++◌, Option, Some, refl, sym, ap, subst, ◌∙◌, arith, eqb}
use Rattle.dom_range_ops.proofs.Cited.{true≢false, filter, unwrap_or, if◌then◌else◌, last_or, flat_map, cases_Bool, and_parts, eqb-true, ltb-true, eq-eqb}
use Rattle.dom_range_ops.proofs.Cited.{append-nil, filter-append, same_Some, NodeName, name_eq, first_of, last_of, is_before, same_root, Range, at}
use Rattle.dom_range_ops.proofs.Cited.{is_contained, range_text_of, text_part, Trees, none, tree, Node, kind_of, is_text, nodes, names_of, inclusive_ancestors}
use Rattle.dom_range_ops.proofs.Cited.{inclusive_descendants, root_of, length_of, before-beside, place-at_root, place-same, known, path-tree, names-tree}
use Rattle.dom_range_ops.proofs.Cited.{Has-names, In, In-parts, last_of-end, filter-none, once_apart, Has, subtree-here, subtree-beside, above-here}
use Rattle.dom_range_ops.proofs.Cited.{above-below, above-beside, above-present, Has-above, Once, text_among, nodes_around}

-- ---- roots

-- a last item is a member
last-in : (x d : NodeName) (xs : List NodeName) → In (unwrap_or (last_of (x ∷ xs)) d) (x ∷ xs)
last-in x d xs = by x xs
  where
    by : (y : NodeName) (ys : List NodeName) → In (unwrap_or (last_or (Some y) ys) d) (y ∷ ys)
    by y [] = inl refl
    by y (z ∷ zs) = inr (by z zs)

-- a node's root is above it
pub root-above : (ts : Trees) (x : NodeName) → Has ts x → In (root_of ts x) (inclusive_ancestors ts x)
root-above ts x h = let w = above-present ts x h in subst (λ path. In (unwrap_or (last_of path) x) path) (sym w.1) (last-in x x w.0)

module _ (n : Node) (c r : Trees) (once : Once (tree n c r)) where
  -- the root of the nodes of the first tree
  root-first : (x : NodeName) → n.name ≡ x → root_of (tree n c r) x ≡ n.name
  root-first x e = ap (λ path. unwrap_or (last_of path) x) (above-here n c r x e) ∙ sym e

  root-inside : (x : NodeName) → Has c x → root_of (tree n c r) x ≡ n.name
  root-inside x h =
      ap (λ path. unwrap_or (last_of path) x) (above-below n c r x once h) ∙ ap (λ (o : Option NodeName). unwrap_or o x)
      (last_of-end (inclusive_ancestors c x) n.name)

  -- and of those behind it
  root-beside : (x : NodeName) → Has r x → root_of (tree n c r) x ≡ root_of r x
  root-beside x h = ap (λ path. unwrap_or (last_of path) x) (above-beside n c r x once h)

-- what stands above a node has its root
pub root-path : (ts : Trees) (a x : NodeName) → Once ts → Has ts x → In a (inclusive_ancestors ts x) → root_of ts a ≡ root_of ts x
root-path none a x once h i = absurd h
root-path (tree n c r) a x once (inl e) i = elim (rw (above-here n c r x e) at i) [ inl same ↦ ap (root_of (tree n c r)) same | inr j ↦ absurd j ]
root-path (tree n c r) a x once (inr (inl h)) i = elim (In-parts a (inclusive_ancestors c x) (n.name ∷ []) (rw (above-below n c r x once h) at i)) [
  | inl j ↦ root-inside n c r once a (Has-above c a x (once_apart n c r once).3 h j) ∙ sym (root-inside n c r once x h)
  | inr j ↦ elim j [ inl e ↦ root-first n c r once a (sym e) ∙ sym (root-inside n c r once x h) | inr k ↦ absurd k ]
]
root-path (tree n c r) a x once (inr (inr h)) i =
    let j : In a (inclusive_ancestors r x) = subst (In a) (above-beside n c r x once h) i in
    let rest = (once_apart n c r once).4 in
    root-beside n c r once a (Has-above r a x rest h j) ∙ (root-path r a x rest h j ∙ sym (root-beside n c r once x h))

-- a root is its own
pub root-root : (ts : Trees) (x : NodeName) → Once ts → Has ts x → root_of ts (root_of ts x) ≡ root_of ts x
root-root ts x once h = root-path ts (root_of ts x) x once h (root-above ts x h)

-- ---- the nodes of one tree among all

-- a test that only nodes of one tree pass leaves the same of all nodes as of those of that tree
pub filter-tree : (ts : Trees) {top : NodeName} {p : NodeName → Bool} → Once ts → Has ts top → root_of ts top ≡ top →
    ((y : NodeName) → Has ts y → p y ≡ true → root_of ts y ≡ top)
    → filter p (names_of (nodes ts)) ≡ filter p (inclusive_descendants ts top)
filter-tree none once h e only = absurd h
filter-tree (tree n c r) {top} {p} once (inl here) e only =
    ap (filter p) (names-tree n c r)
    ∙ (filter-append p (n.name ∷ names_of (nodes c)) (names_of (nodes r))
    ∙ (ap (λ xs. filter p (n.name ∷ names_of (nodes c)) ++ xs) (filter-none p (names_of (nodes r)) (λ y i. off y (Has-names r y i)))
    ∙ (append-nil (filter p (n.name ∷ names_of (nodes c)))
    ∙ ap (filter p) (sym (ap (λ (us : Trees). names_of (nodes us)) (subtree-here n c r top here) ∙
    (names-tree n c none ∙ ap (λ xs. n.name ∷ xs) (append-nil (names_of (nodes c)))))))))
  where
    off : (y : NodeName) → Has r y → p y ≡ false
    off y h = elim (cases_Bool (p y)) [
      | inl t ↦ absurd ((once_apart n c r once).1 (subst (Has r) (only y (inr (inr h)) t ∙ sym here)
          (subst (Has r) (sym (root-beside n c r once y h)) (Has-above r (root_of r y) y (once_apart n c r once).4 h (root-above r y h)))))
      | inr f ↦ f
    ]
filter-tree (tree n c r) {top} once (inr (inl h)) e only = absurd ((once_apart n c r once).0 (subst (Has c) (sym e ∙ root-inside n c r once top h) h))
filter-tree (tree n c r) {top} {p} once (inr (inr h)) e only =
    ap (filter p) (names-tree n c r)
    ∙ (filter-append p (n.name ∷ names_of (nodes c)) (names_of (nodes r))
    ∙ (ap (λ xs. xs ++ filter p (names_of (nodes r))) (filter-none p (n.name ∷ names_of (nodes c)) off)
    ∙ (filter-tree r (once_apart n c r once).4 h (sym (root-beside n c r once top h) ∙ e) (λ y g t. sym (root-beside n c r once y g) ∙ only y (inr (inr g)) t)
    ∙ ap (λ (us : Trees). filter p (names_of (nodes us))) (sym (subtree-beside n c r top once h)))))
  where
    other : (y : NodeName) → Has (tree n c r) y → root_of (tree n c r) y ≡ n.name → p y ≡ false
    other y g root = elim (cases_Bool (p y)) [
      | inl t ↦ absurd ((once_apart n c r once).1 (subst (Has r) (sym (only y g t) ∙ root) h))
      | inr f ↦ f
    ]

    off : (y : NodeName) → In y (n.name ∷ names_of (nodes c)) → p y ≡ false
    off y (inl same) = other y (inl (sym same)) (root-first n c r once y (sym same))
    off y (inr i) = let g = Has-names c y i in other y (inr (inl g)) (root-inside n c r once y g)

-- ---- contained nodes

-- Both ends of a range are nodes of one tree.
pub record HasOneTree (ts : Trees) (r : Range NodeName) : Type 0 where
  pub once : Once ts
  pub start : Has ts r.start.node
  pub end : Has ts r.end.node
  pub one_root : same_root ts r.start.node r.end.node ≡ true

module _ (ts : Trees) (r : Range NodeName) (ends : HasOneTree ts r) where
  -- a node between two points of one tree is of that tree
  pub contained-root : (y : NodeName) → Has ts y → is_contained ts r y ≡ true → root_of ts y ≡ root_of ts r.start.node
  contained-root y h e =
      let parts = and_parts (is_before ts r.start (at y 0)) (is_before ts (at y (length_of ts y)) r.end) e in
      let v = place-at_root ts 0 r.start.node ends.once ends.start in
      let w = place-at_root ts 0 r.end.node ends.once ends.end in
      let u = place-at_root ts 0 y ends.once h in
      let at_start = known ts ends.once r.start.node (v.0 ∷ v.1) v.2 in
      let at_end = known ts ends.once r.end.node (w.0 ∷ w.1) w.2 in
      let at_y = known ts ends.once y (u.0 ∷ u.1) u.2 in
      let one : v.0 ≡ w.0 = same_Some v.0 w.0
      (ap first_of (sym at_start) ∙
      (path-tree ts ends.once r.start.node r.end.node ends.start ends.end ends.one_root ∙ ap first_of at_end)) in
      elim (cases_Bool (eqb u.0 v.0)) [
        | inl same ↦
            place-same ts 0 (root_of ts y) (root_of ts r.start.node) record { once = ends.once; first = u.4; second = v.4 }
            (u.3 ∙ (ap (λ m. Some (m ∷ [])) (eqb-true u.0 v.0 same) ∙ sym v.3))
        | inr other ↦
            let off : u.0 ≡ v.0 → ⊥ = λ same. true≢false (sym (eq-eqb u.0 v.0 same) ∙ other) in
            let first = ltb-true v.0 u.0
            (sym (before-beside ts r.start.node y r.start.offset 0 [] v.0 u.0 (v.1, at_start) (u.1, at_y) (λ same. off (sym same))) ∙ parts.0) in
            let second = ltb-true u.0 w.0
            (sym (before-beside ts y r.end.node (length_of ts y) r.end.offset [] u.0 w.0 (u.1, at_y) (w.1, at_end)
            (λ same. off (same ∙ sym one))) ∙ parts.1) in
            absurd (omega arith)
      ]

  -- so the text of the range is that by the nodes of its tree
  pub text-tree : range_text_of ts r ≡ text_among ts r (nodes_around ts r)
  text-tree =
      ap (λ xs. whole (flat_map (text_part ts r) xs))
      (filter-tree ts ends.once
      (Has-above ts (root_of ts r.start.node) r.start.node ends.once ends.start (root-above ts r.start.node ends.start))
      (root-root ts r.start.node ends.once ends.start) contained-root)
    where
      whole : List ℕ → List ℕ
      whole xs = if name_eq r.start.node r.end.node && is_text (kind_of ts r.start.node) then text_part ts r r.start.node else text_part ts r
          r.start.node ++ xs ++ text_part ts r r.end.node
