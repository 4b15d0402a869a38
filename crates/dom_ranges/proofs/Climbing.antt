-- Going up from keys' nodes in a forest, by their places.
use Rattle.dom_ranges.proofs.Cited.{◌≡◌, ◌≢◌, ℕ, ◌+◌, ◌<◌, inr, inl, true, List, [], ◌∷◌, ◌++◌, length, Option, Some, None, refl, sym, ap, subst, ◌∙◌}
use Rattle.dom_ranges.proofs.Cited.{arith, append-nil, append_assoc, length-append, first_of, same_root, parent_of, index_of, inclusive_ancestors}
use Rattle.dom_ranges.proofs.Cited.{is_inclusive_ancestor, NamedTrees, name_at, TellApart, above-along, In, In-from, is_in-from, above-parent}
use Rattle.dom_ranges.proofs.Cited.{above-present, StandOnce, StandAlone, Once-forest, Has-forest, AreBeside, depth_at, path_at, Reaches}
use Rattle.dom_model.proofs.Model.{is_in}
use Rattle.dom_ranges.proofs.Places.{place-present, known, path-child, path-root, path-same, path-tree}

-- a list of one item
one-item : (xs : List ℕ) → length xs ≡ 1 → (n : ℕ) × (xs ≡ n ∷ [])
one-item [] e = absurd (omega (arith, e))
one-item (x ∷ []) e = (x, refl)
one-item (x ∷ y ∷ xs) e = absurd (omega (arith, e))

-- the first item stays where others come behind
first-append : (xs ys : List ℕ) → 0 < length xs → first_of (xs ++ ys) ≡ first_of xs
first-append [] ys l = absurd (omega (arith, l))
first-append (x ∷ xs) ys l = refl

-- two keys' nodes are different children of one node
pub record AreSiblings (f : NamedTrees) (low other : ℕ) : Type 0 where
  pub above : ℕ
  pub low_is_node : low < length f.names
  pub other_is_node : other < length f.names
  pub apart : low ≢ other
  pub low_parent : Some (name_at f.names above) ≡ parent_of f.trees (name_at f.names low)
  pub other_parent : Some (name_at f.names above) ≡ parent_of f.trees (name_at f.names other)

module _ (f : NamedTrees) (once : StandOnce f) (only : StandAlone f) where
  -- each node has a place
  pub depth-node : (k : ℕ) → k < length f.names → 0 < depth_at f k
  depth-node k node =
      let single = Once-forest f once only in
      let w = place-present f.trees 0 (name_at f.names k) single (Has-forest f once k node) in
      let long : length (path_at f k) ≡ length (w.0 ∷ w.1) = ap (length {A = ℕ}) (known f.trees single (name_at f.names k) (w.0 ∷ w.1) w.2) in
      omega (arith, long)

  -- a node and its parent
  module _ (k p : ℕ) where
    -- a child's path
    pub path-up : k < length f.names → Some (name_at f.names p) ≡ parent_of f.trees (name_at f.names k) →
        path_at f k ≡ path_at f p ++ index_of f.trees (name_at f.names k) ∷ []
    path-up node e = path-child f.trees (Once-forest f once only) (name_at f.names k) (name_at f.names p) (Has-forest f once k node) (sym e)

    -- a child is one level deeper
    pub depth-up : k < length f.names → Some (name_at f.names p) ≡ parent_of f.trees (name_at f.names k) → depth_at f k ≡ depth_at f p + 1
    depth-up node e = ap (length {A = ℕ}) (path-up node e) ∙ length-append (path_at f p) (index_of f.trees (name_at f.names k) ∷ [])

    -- a parent of what is above a node is above it
    pub above-up : (x : ℕ) → k < length f.names → x < length f.names → Some (name_at f.names p) ≡ parent_of f.trees (name_at f.names k)
        → is_inclusive_ancestor f.trees (name_at f.names k) (name_at f.names x) ≡ true →
        is_inclusive_ancestor f.trees (name_at f.names p) (name_at f.names x) ≡ true
    above-up x node at_x e up =
        let single = Once-forest f once only in
        let is = above-parent f.trees (name_at f.names k) (name_at f.names p) single (Has-forest f once k node) (sym e) in
        let i : In (name_at f.names p) (inclusive_ancestors f.trees (name_at f.names k)) =
        subst (In (name_at f.names p)) (sym is.0)
        (inr (subst (In (name_at f.names p)) (sym (above-present f.trees (name_at f.names p) is.1).1) (inl refl))) in
        is_in-from (name_at f.names p) (inclusive_ancestors f.trees (name_at f.names x))
        (above-along f.trees (name_at f.names p) (name_at f.names k) (name_at f.names x) single (Has-forest f once x at_x) i
        (In-from (name_at f.names k) (inclusive_ancestors f.trees (name_at f.names x)) up))

  -- a root is at the top
  pub depth-root : (k : ℕ) → k < length f.names → None ≡ parent_of f.trees (name_at f.names k) → depth_at f k ≡ 1
  depth-root k node e =
      let w = path-root f.trees (Once-forest f once only) (name_at f.names k) (Has-forest f once k node) (sym e) in
      ap (length {A = ℕ}) w.1

  -- what is reached by going up from a key's node
  module _ (key top : ℕ) where
    -- the path through what is reached
    pub path-reached : (child : Option ℕ) → Reaches f key top child → (rest : List ℕ) × (path_at f key ≡ path_at f top ++ rest)
    path-reached None e = ([], ap (path_at f) e ∙ sym (append-nil (path_at f top)))
    path-reached (Some child) r =
        let i = index_of f.trees (name_at f.names child) in (
          i ∷ r.2.0,
          r.2.1 ∙ (ap (λ path. path ++ r.2.0) (path-up child top r.0 (sym r.1)) ∙ append_assoc (path_at f top) (i ∷ []) r.2.0),
        )

    -- the path through a child of what is reached
    pub path-through : (child : ℕ) → Reaches f key top (Some child) → (rest : List ℕ) ×
        (path_at f key ≡ path_at f top ++ index_of f.trees (name_at f.names child) ∷ rest)
    path-through child r =
        let i = index_of f.trees (name_at f.names child) in
        (r.2.0, r.2.1 ∙ (ap (λ path. path ++ r.2.0) (path-up child top r.0 (sym r.1)) ∙ append_assoc (path_at f top) (i ∷ []) r.2.0))

    -- what is above by a level is less deep
    pub reached-deep : (child : ℕ) → Reaches f key top (Some child) → depth_at f top < depth_at f key
    reached-deep child r =
        let w = path-through child r in
        let long = ap (length {A = ℕ}) w.1 ∙ length-append (path_at f top) (index_of f.trees (name_at f.names child) ∷ w.0) in
        omega (arith, long)

    -- what is reached and as deep is the node itself
    pub reached-here : (child : Option ℕ) → Reaches f key top child → depth_at f key ≡ depth_at f top → key ≡ top
    reached-here None e level = e
    reached-here (Some child) r level = absurd (omega (arith, level, reached-deep child r))

    -- one level more
    pub reached-up : (above : ℕ) (child : Option ℕ) → top < length f.names →
        Some (name_at f.names above) ≡ parent_of f.trees (name_at f.names top) → Reaches f key top child → Reaches f key above (Some top)
    reached-up above child node e r = (node, sym e, path-reached child r)

    -- the first number of a path is that of all paths through it
    pub first-through : (rest : List ℕ) → top < length f.names → path_at f key ≡ path_at f top ++ rest →
        first_of (path_at f key) ≡ first_of (path_at f top)
    first-through rest node e = ap first_of e ∙ first-append (path_at f top) rest (depth-node top node)

  -- nodes of one tree have paths with one first number
  pub first-same : (j k : ℕ) → j < length f.names → k < length f.names → same_root f.trees (name_at f.names j) (name_at f.names k) ≡ true →
      first_of (path_at f j) ≡ first_of (path_at f k)
  first-same j k node other e = path-tree f.trees (Once-forest f once only) (name_at f.names j) (name_at f.names k) (Has-forest f once j node)
      (Has-forest f once k other) e

  module _ (distinct : TellApart f.names) where
    -- nodes at one path are one
    pub key-same : (j k : ℕ) → j < length f.names → k < length f.names → path_at f j ≡ path_at f k → j ≡ k
    key-same j k node other e =
        distinct j k node other (path-same f.trees (Once-forest f once only) (name_at f.names j) (name_at f.names k) (Has-forest f once j node)
        (Has-forest f once k other) e)

    -- two roots of one tree are one
    pub roots-same : {j k : ℕ} → j < length f.names → k < length f.names → depth_at f j ≡ 1 → depth_at f k ≡ 1 →
        first_of (path_at f j) ≡ first_of (path_at f k) → j ≡ k
    roots-same {j} {k} node other d e first =
        let v = one-item (path_at f j) d in
        let w = one-item (path_at f k) e in
        let same : Some v.0 ≡ Some w.0 = ap first_of (sym v.1) ∙ (first ∙ ap first_of w.1) in
        let n : v.0 ≡ w.0 = cc in
        key-same j k node other (v.1 ∙ (ap (λ m. m ∷ []) n ∙ sym w.1))

    -- children of one node stand beside each other
    pub beside-here : {low other : ℕ} (first second : ℕ) → AreSiblings f low other → ((xs : List ℕ) × (path_at f first ≡ path_at f low ++ xs))
        → ((ys : List ℕ) × (path_at f second ≡ path_at f other ++ ys)) → AreBeside f first second low other
    beside-here {low} {other} first second siblings one two =
        let i = index_of f.trees (name_at f.names low) in
        let j = index_of f.trees (name_at f.names other) in
        let above = siblings.above in
        let low_path = path-up low above siblings.low_is_node siblings.low_parent in
        let other_path = path-up other above siblings.other_is_node siblings.other_parent in
        record {
          path = path_at f above;
          first_rest = one.0;
          second_rest = two.0;
          first_path = one.1 ∙ (ap (λ path. path ++ one.0) low_path ∙ append_assoc (path_at f above) (i ∷ []) one.0);
          second_path = two.1 ∙ (ap (λ path. path ++ two.0) other_path ∙ append_assoc (path_at f above) (j ∷ []) two.0);
          apart = λ same. siblings.apart (key-same low other siblings.low_is_node siblings.other_is_node
              (low_path ∙ (ap (λ n. path_at f above ++ n ∷ []) same ∙ sym other_path)));
        }
