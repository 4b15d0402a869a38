-- The outermost contained nodes of a node's tree, what an extraction takes of it as it is, and the text of the contained ones.
use Rattle.dom_range_ops.proofs.Cited.{◌≡◌, ◌⊎◌, inl, inr, ℕ, zero, suc, ◌+◌, ◌<◌, Bool, true, false, ◌&&◌, List, [], ◌∷◌, ◌++◌, length, map, refl, sym, ap}
use Rattle.dom_range_ops.proofs.Cited.{subst, ◌∙◌, append_assoc, arith, true≢false, filter, if◌then◌else◌, flat_map, cases_Bool, cases_lt, le-ltb, lt-ltb}
use Rattle.dom_range_ops.proofs.Cited.{le-leb, lt-leb, append-nil, same_Some, flat_map-cons, filter-append, NodeName, Boundary, place_of, is_before, Range, at}
use Rattle.dom_range_ops.proofs.Cited.{is_contained, Trees, kind_of, has_data, children_of, root_of, inclusive_ancestors, inclusive_descendants}
use Rattle.dom_range_ops.proofs.Cited.{is_inclusive_ancestor, length_of, subtree, before-up, before-down, before-beside, In-names, Has-names, In, In-from}
use Rattle.dom_range_ops.proofs.Cited.{In-parts, filter-none, filter-yes, filter-no, joined, below, here, splits, inside-test, above-along, Has}
use Rattle.dom_range_ops.proofs.Cited.{above-from_below, below-from_above, ahead_of, beyond, Item, whole_item, cut_item, clone_item, end_item, wholes}
use Rattle.dom_range_ops.proofs.Cited.{wholes_if, nodes_around, flat_map-append, length-append, ◌≤◌, outermost_contained, text_part, filter-all, contained_text}
use Rattle.dom_range_ops.proofs.Cited.{tree_text, items_before, name_eq, above-split, Once}
use Rattle.dom_range_ops.proofs.ContainedNodes.{IsRange, IsClear, is_outermost, not-start, not-end, ends, start-in, end-in, above-in, stands, member-within}
use Rattle.dom_range_ops.proofs.ContainedNodes.{below-in, kid-in, start-above-out, end-above-out, contained-below, outermost-not, outermost-yes, none-below}
use Rattle.dom_range_ops.proofs.DeletionOwn.{outermost-tree}
use Rattle.dom_range_ops.proofs.OneTree.{root-above}
use Rattle.dom_range_ops.proofs.Parting.{behind-apart, ahead-apart}
use Rattle.dom_range_ops.proofs.PieceItems.{items-beside, items-on}
use Rattle.dom_range_ops.proofs.PieceLevels.{IsBehind, IsAhead, descend, self-in}
use Rattle.dom_range_ops.proofs.PieceSides.{taken, from, to, side_of}

-- ---- lists

pub wholes-append : (xs ys : List Item) → wholes (xs ++ ys) ≡ wholes xs ++ wholes ys
wholes-append [] ys = refl
wholes-append (whole_item x ∷ xs) ys = ap (λ zs. x ∷ zs) (wholes-append xs ys)
wholes-append (cut_item x m n ∷ xs) ys = wholes-append xs ys
wholes-append (clone_item x ∷ xs) ys = wholes-append xs ys
wholes-append (end_item ∷ xs) ys = wholes-append xs ys

pub wholes-map : (xs : List NodeName) → wholes (map whole_item xs) ≡ xs
wholes-map [] = refl
wholes-map (x ∷ xs) = ap (λ zs. x ∷ zs) (wholes-map xs)

wholes-flat : (f : NodeName → List Item) (g : NodeName → List NodeName) (xs : List NodeName) → ((z : NodeName) → In z xs → wholes (f z) ≡ g z) →
    wholes (flat_map f xs) ≡ flat_map g xs
wholes-flat f g [] h = refl
wholes-flat f g (x ∷ xs) h = ap wholes (flat_map-cons f x xs) ∙ wholes-append (f x) (flat_map f xs) ∙ ap (λ ys. ys ++ wholes (flat_map f xs)) (h x (inl refl)) ∙
    ap (λ ys. g x ++ ys) (wholes-flat f g xs (λ z i. h z (inr i))) ∙ sym (flat_map-cons g x xs)

pub flat-none : (f : NodeName → List NodeName) (xs : List NodeName) → ((z : NodeName) → In z xs → f z ≡ []) → flat_map f xs ≡ []
flat-none f [] h = refl
flat-none f (x ∷ xs) h = flat_map-cons f x xs ∙ ap (λ ys. ys ++ flat_map f xs) (h x (inl refl)) ∙ flat-none f xs (λ z i. h z (inr i))

pub flat-each : (f : NodeName → List NodeName) (xs : List NodeName) → ((z : NodeName) → In z xs → f z ≡ z ∷ []) → flat_map f xs ≡ xs
flat-each f [] h = refl
flat-each f (x ∷ xs) h = flat_map-cons f x xs ∙ ap (λ ys. ys ++ flat_map f xs) (h x (inl refl)) ∙ ap (λ ys. x ∷ ys) (flat-each f xs (λ z i. h z (inr i)))

-- what is above a node is no deeper
above-less : (ts : Trees) → Once ts → (a x : NodeName) → Has ts x → In a (inclusive_ancestors ts x) →
    length (inclusive_ancestors ts a) ≤ length (inclusive_ancestors ts x)
above-less ts once a x h i =
    let long = ap (length {A = NodeName}) (above-split ts a x once h i) ∙ length-append (items_before name_eq a (inclusive_ancestors ts x))
    (inclusive_ancestors ts a) in
    omega (arith, long)

-- a tree among others is no longer than all
joined-long : (ts : Trees) (z : NodeName) (xs : List NodeName) → In z xs → length (inclusive_descendants ts z) ≤ length (joined ts xs)
joined-long ts z [] i = absurd i
joined-long ts z (x ∷ xs) i =
    let long = ap (length {A = NodeName}) (flat_map-cons (inclusive_descendants ts) x xs) ∙ length-append (inclusive_descendants ts x) (joined ts xs) in
    elim i [
      | inl same ↦ let one = ap (λ y. length (inclusive_descendants ts y)) same in omega (arith, long, one)
      | inr j ↦ let less = joined-long ts z xs j in omega (arith, long, less)
    ]

-- both, where the second is
and-yes : (b : Bool) → b && true ≡ b
and-yes true = refl
and-yes false = refl

module _ (ts : Trees) (r : Range NodeName) (is : IsRange ts r) where
  abbrev top : NodeName
  top = root_of ts r.start.node

  -- ---- the outermost contained nodes of a node's tree

  abbrev pub outer_in : NodeName → List NodeName
  outer_in y = filter (is_outermost ts r) (inclusive_descendants ts y)

  outer-joined : (xs : List NodeName) → filter (is_outermost ts r) (joined ts xs) ≡ flat_map outer_in xs
  outer-joined [] = refl
  outer-joined (x ∷ xs) =
      ap (filter (is_outermost ts r)) (flat_map-cons (inclusive_descendants ts) x xs)
      ∙ filter-append (is_outermost ts r) (inclusive_descendants ts x) (joined ts xs)
      ∙ ap (λ ys. outer_in x ++ ys) (outer-joined xs) ∙ sym (flat_map-cons outer_in x xs)

  -- none where none is contained
  pub outer-none : (y : NodeName) → ((z : NodeName) → In z (inclusive_descendants ts y) → is_contained ts r z ≡ false) → outer_in y ≡ []
  outer-none y off = filter-none (is_outermost ts r) (inclusive_descendants ts y) (λ z i. outermost-not ts r is z (off z i))

  -- the node alone where it is contained and its parent is not
  pub outer-one : (y : NodeName) → In y (nodes_around ts r) → is_contained ts r y ≡ true → IsClear ts r y → outer_in y ≡ y ∷ []
  outer-one y i e clear =
      ap (filter (is_outermost ts r)) (here ts top y (member-within ts r is y i))
      ∙ filter-yes (is_outermost ts r) y (below ts y) (outermost-yes ts r is y e clear)
      ∙ ap (λ xs. y ∷ xs) (none-below ts r is y i e)

  -- those of its children where it is not contained
  pub outer-below : (y : NodeName) → In y (nodes_around ts r) → is_contained ts r y ≡ false → outer_in y ≡ flat_map outer_in (children_of ts y)
  outer-below y i e =
      ap (filter (is_outermost ts r)) (here ts top y (member-within ts r is y i))
      ∙ filter-no (is_outermost ts r) y (below ts y) (outermost-not ts r is y e) ∙ outer-joined (children_of ts y)

  -- ---- the text of the contained nodes

  text-joined : (xs : List NodeName) → ((z : NodeName) → In z xs → contained_text ts r (inclusive_descendants ts z) ≡ flat_map (tree_text ts r) (outer_in z)) →
      contained_text ts r (joined ts xs) ≡ flat_map (tree_text ts r) (flat_map outer_in xs)
  text-joined [] h = refl
  text-joined (x ∷ xs) h =
      let p = is_contained ts r in
      let own = inclusive_descendants ts x in
      ap (contained_text ts r) (flat_map-cons (inclusive_descendants ts) x xs)
      ∙ ap (flat_map (text_part ts r)) (filter-append p own (joined ts xs))
      ∙ flat_map-append (text_part ts r) (filter p own) (filter p (joined ts xs))
      ∙ ap (λ ys. ys ++ contained_text ts r (joined ts xs)) (h x (inl refl))
      ∙ ap (λ ys. flat_map (tree_text ts r) (outer_in x) ++ ys) (text-joined xs (λ z i. h z (inr i)))
      ∙ sym (flat_map-append (tree_text ts r) (outer_in x) (flat_map outer_in xs))
      ∙ ap (flat_map (tree_text ts r)) (sym (flat_map-cons outer_in x xs))

  -- in a node's tree it is that of the trees of its outermost contained nodes
  text-trees : (n : ℕ) (y : NodeName) → length (inclusive_descendants ts y) ≤ n → In y (nodes_around ts r) → (is_contained ts r y ≡ true → IsClear ts r y) →
      contained_text ts r (inclusive_descendants ts y) ≡ flat_map (tree_text ts r) (outer_in y)
  text-trees zero y few i clear = let long = ap (length {A = NodeName}) (here ts top y (member-within ts r is y i)) in absurd (omega (arith, long, few))
  text-trees (suc n) y few i clear = elim (cases_Bool (is_contained ts r y)) [
    | inl e ↦
        ap (flat_map (text_part ts r)) (filter-all (is_contained ts r) (inclusive_descendants ts y) (λ z j. contained-below ts r is y z i e j))
        ∙ sym (append-nil (tree_text ts r y)) ∙ sym (flat_map-cons (tree_text ts r) y [])
        ∙ ap (flat_map (tree_text ts r)) (sym (outer-one y i e (clear e)))
    | inr e ↦
        let all = here ts top y (member-within ts r is y i) in
        let long = ap (length {A = NodeName}) all in
        ap (contained_text ts r) all
        ∙ ap (flat_map (text_part ts r)) (filter-no (is_contained ts r) y (below ts y) e)
        ∙ text-joined (children_of ts y) (λ z j.
        let k = kid-in ts r is y z (stands ts r is y i) j in
        let less = joined-long ts z (children_of ts y) j in
        text-trees n z (omega (arith, few, long, less)) (below-in ts r is y z i k.0)
        (λ yes p some. subst (λ q. is_contained ts r q ≡ false) (same_Some y p (sym k.1 ∙ some)) e))
        ∙ ap (flat_map (tree_text ts r)) (sym (outer-below y i e))
  ]

  -- so that of the range is
  pub text-outermost : contained_text ts r (nodes_around ts r) ≡ flat_map (tree_text ts r) (outermost_contained ts r)
  text-outermost =
      let up = root-above ts r.start.node is.start in
      text-trees (length (nodes_around ts r)) top (omega arith) (above-in ts r is r.start.node top (start-in ts r is) up).0
      (λ e. absurd (true≢false (sym e ∙ start-above-out ts r is top up)))
      ∙ ap (flat_map (tree_text ts r)) (sym (outermost-tree ts r (ends ts r is)))

  -- ---- nodes of the range's tree

  -- what is in the tree of a node of the tree of another one is in that one's
  deeper-in : (y x z : NodeName) → In y (nodes_around ts r) → In x (inclusive_descendants ts y) → In z (inclusive_descendants ts x) →
      In z (inclusive_descendants ts y)
  deeper-in y x z i j k =
      let once = is.once in
      let around = below-in ts r is y x i j in
      let h = stands ts r is z (below-in ts r is x z around k) in
      In-names (subtree ts y) z (below-from_above ts y z once h
      (above-along ts y x z once h (above-from_below ts y x once (stands ts r is y i) (Has-names (subtree ts y) x j))
      (above-from_below ts x z once (stands ts r is x around) (Has-names (subtree ts x) z k))))

  -- the place of a node begins with that of one in whose tree it is
  pub place-below : (y z : NodeName) → In y (nodes_around ts r) → In z (inclusive_descendants ts y) → (rest : List ℕ) × (place_of ts z ≡ place_of ts y ++ rest)
  place-below y z i j = elim (descend ts is.once y z (stands ts r is y i) j) [
    | inl same ↦ ([], ap (place_of ts) same ∙ sym (append-nil (place_of ts y)))
    | inr u ↦ (u.child ∷ u.rest, u.place)
  ]

  -- a tree that does not hold a point is behind it, or in front of it
  beside : (b : Boundary NodeName) → In b.node (nodes_around ts r) → (y : NodeName) → In y (nodes_around ts r) → is_inclusive_ancestor ts y b.node ≡ false
      → ((z : NodeName) → In z (inclusive_descendants ts y) → IsBehind ts is.once b z)
      ⊎ ((z : NodeName) → In z (inclusive_descendants ts y) → IsAhead ts is.once b z)
  beside b at_b y i off =
      let once = is.once in
      let w = member-within ts r is y i in
      let longer : (z : NodeName) (common : List ℕ) (first : ℕ) (rest : List ℕ) → place_of ts y ≡ common ++ first ∷ rest → In z (inclusive_descendants ts y) →
      (tail : List ℕ) × (place_of ts z ≡ common ++ first ∷ tail) = λ z common first rest place j. (
        rest ++ (place-below y z i j).0,
        (place-below y z i j).1 ∙ ap (λ path. path ++ (place-below y z i j).0) place ∙ append_assoc common (first ∷ rest) (place-below y z i j).0,
      ) in
      elim (In-parts b.node (ahead_of ts top y) (inclusive_descendants ts y ++ beyond ts top y) (subst (In b.node) (splits ts top y w) at_b)) [
        | inl j ↦ elim (ahead-apart ts once top y b.node w j) [
          | inl k ↦ inl (λ z m. record {
            after = λ n. before-beside ts b.node z b.offset n k.common k.first k.second (k.first_rest, k.first_place)
                (longer z k.common k.second k.second_rest k.second_place m) (λ e. let l = k.less in omega (arith, l, e)) ∙ lt-ltb k.first k.second k.less;
            apart = λ n. before-beside ts z b.node n b.offset k.common k.second k.first (longer z k.common k.second k.second_rest k.second_place m)
                (k.first_rest, k.first_place) (λ e. let l = k.less in omega (arith, l, e)) ∙ le-ltb k.second k.first (let l = k.less in omega (arith, l));
          })
          | inr u ↦ elim (cases_lt u.child b.offset) [
            | inl l ↦ inr (λ z m. let q = longer z (place_of ts b.node) u.child u.rest u.place m in record {
              before = λ n. before-up ts z b.node n b.offset u.child q.0 q.1 ∙ lt-ltb u.child b.offset l;
              apart = λ n. before-down ts b.node z b.offset n u.child q.0 q.1 ∙ lt-leb b.offset u.child l;
            })
            | inr l ↦ inl (λ z m. let q = longer z (place_of ts b.node) u.child u.rest u.place m in record {
              after = λ n. before-down ts b.node z b.offset n u.child q.0 q.1 ∙ le-leb b.offset u.child l;
              apart = λ n. before-up ts z b.node n b.offset u.child q.0 q.1 ∙ le-ltb u.child b.offset l;
            })
          ]
        ]
        | inr g ↦ elim (In-parts b.node (inclusive_descendants ts y) (beyond ts top y) g) [
          | inl j ↦ absurd (true≢false (sym (inside-test ts y b.node once (stands ts r is y i) j) ∙ off))
          | inr j ↦
              let k = behind-apart ts once top y b.node w j in
              inr (λ z m. record {
                before = λ n. before-beside ts z b.node n b.offset k.common k.first k.second (longer z k.common k.first k.first_rest k.first_place m)
                    (k.second_rest, k.second_place) (λ e. let l = k.less in omega (arith, l, e)) ∙ lt-ltb k.first k.second k.less;
                apart = λ n. before-beside ts b.node z b.offset n k.common k.second k.first (k.second_rest, k.second_place)
                    (longer z k.common k.first k.first_rest k.first_place m) (λ e. let l = k.less in omega (arith, l, e)) ∙
                    le-ltb k.second k.first (let l = k.less in omega (arith, l));
              })
        ]
      ]

  -- ---- the tree of a child of the common ancestor that holds one end

  -- its nodes: those above the end are not contained, a tree beside it is contained with its top or has nothing that is
  pub record Side (b : Boundary NodeName) (behind : Bool) (y : NodeName) : Type 0 where
    pub there : In y (nodes_around ts r)
    pub point : Has ts b.node
    pub above : (z : NodeName) → In z (inclusive_descendants ts y) → is_inclusive_ancestor ts z b.node ≡ true → is_contained ts r z ≡ false
    pub passes : (z : NodeName) → In z (inclusive_descendants ts y) → taken ts is.once b behind z ≡ is_contained ts r z
    pub none : (x z : NodeName) → In x (inclusive_descendants ts y) → is_inclusive_ancestor ts x b.node ≡ false → is_contained ts r x ≡ false →
        In z (inclusive_descendants ts x) → is_contained ts r z ≡ false

  module _ (b : Boundary NodeName) (behind : Bool) (y : NodeName) (s : Side b behind y) where
    abbrev side : NodeName → List Item
    side x = side_of ts is.once b behind x

    -- a tree beside the end
    side-off : (x : NodeName) → In x (inclusive_descendants ts y) → IsClear ts r x → is_inclusive_ancestor ts x b.node ≡ false → wholes (side x) ≡ outer_in x
    side-off x i clear off =
        let around = below-in ts r is y x s.there i in
        ap wholes (items-beside ts b.node (taken ts is.once b behind) (from ts is.once b behind) (to ts is.once b behind)
        is.once x (stands ts r is x around) off)
        ∙ ap (λ t. wholes (wholes_if t (x ∷ []))) (s.passes x i)
        ∙ elim (cases_Bool (is_contained ts r x)) [
          | inl e ↦ ap (λ t. wholes (wholes_if t (x ∷ []))) e ∙ sym (outer-one x around e clear)
          | inr e ↦ ap (λ t. wholes (wholes_if t (x ∷ []))) e ∙ sym (outer-none x (λ z j. s.none x z i off e j))
        ]

    -- a node above it, by its children
    side-on : (x : NodeName) → In x (inclusive_descendants ts y) → is_inclusive_ancestor ts x b.node ≡ true →
        wholes (flat_map side (children_of ts x)) ≡ flat_map outer_in (children_of ts x) → wholes (side x) ≡ outer_in x
    side-on x i up each =
        let around = below-in ts r is y x s.there i in
        let off = s.above x i up in
        let inside = flat_map side (children_of ts x) in
        let all = λ (t : Bool). wholes (if t then cut_item x (from ts is.once b behind) (to ts is.once b behind) ∷ [] else
        clone_item x ∷ (inside ++ end_item ∷ [])) in
        ap wholes (items-on ts b.node (taken ts is.once b behind) (from ts is.once b behind) (to ts is.once b behind)
        is.once x (stands ts r is x around) up)
        ∙ elim (cases_Bool (has_data (kind_of ts x))) [
          | inl e ↦ ap all e ∙ sym (outer-below x around off ∙ ap (flat_map outer_in) (is.leaves x around e))
          | inr e ↦ ap all e ∙ wholes-append inside (end_item ∷ []) ∙ append-nil (wholes inside) ∙ each ∙ sym (outer-below x around off)
        ]

    -- so what is taken as it is of the tree of a node are its outermost contained nodes
    pub side-wholes : (n : ℕ) (x : NodeName) → In x (inclusive_descendants ts y) →
        length (inclusive_ancestors ts b.node) < length (inclusive_ancestors ts x) + n → IsClear ts r x → wholes (side x) ≡ outer_in x
    side-wholes zero x i deep clear = elim (cases_Bool (is_inclusive_ancestor ts x b.node)) [
      | inr off ↦ side-off x i clear off
      | inl up ↦
          let less = above-less ts is.once x b.node s.point (In-from x (inclusive_ancestors ts b.node) up) in
          absurd (omega (arith, less, deep))
    ]
    side-wholes (suc n) x i deep clear = elim (cases_Bool (is_inclusive_ancestor ts x b.node)) [
      | inr off ↦ side-off x i clear off
      | inl up ↦
          side-on x i up (wholes-flat side outer_in (children_of ts x) (λ z j.
          let k = kid-in ts r is x z (stands ts r is x (below-in ts r is y x s.there i)) j in
          let long = k.2 in
          side-wholes n z (deeper-in y x z s.there i k.0) (omega (arith, deep, long))
          (λ p e. subst (λ q. is_contained ts r q ≡ false) (same_Some x p (sym k.1 ∙ e)) (s.above x i up))))
    ]

  -- that of the start, in front of the end
  pub start-side : (y : NodeName) → In y (nodes_around ts r) → ((z : NodeName) → In z (inclusive_descendants ts y) → IsAhead ts is.once r.end z) →
      Side r.start true y
  start-side y i ahead = record {
    there = i;
    point = is.start;
    above = λ z j e. start-above-out ts r is z (In-from z (inclusive_ancestors ts r.start.node) e);
    passes = λ z j. sym (ap (λ t. is_before ts r.start (at z 0) && t) ((ahead z j).before (length_of ts z)) ∙ and-yes (is_before ts r.start (at z 0)));
    none = λ x z j off e k. elim (beside r.start (start-in ts r is) x (below-in ts r is y x i j) off) [
      | inl w ↦ absurd (true≢false (sym (ap (λ t. t && is_before ts (at x (length_of ts x)) r.end)
          ((w x (self-in ts is.once x (stands ts r is x (below-in ts r is y x i j)))).after 0) ∙ (ahead x j).before (length_of ts x)) ∙ e))
      | inr w ↦ not-start ts r z ((w z k).apart 0)
    ];
  }

  -- and that of the end, behind the start
  pub end-side : (y : NodeName) → In y (nodes_around ts r) → ((z : NodeName) → In z (inclusive_descendants ts y) → IsBehind ts is.once r.start z) →
      Side r.end false y
  end-side y i behind = record {
    there = i;
    point = is.end;
    above = λ z j e. end-above-out ts r is z (below-in ts r is y z i j) e;
    passes = λ z j. sym (ap (λ t. t && is_before ts (at z (length_of ts z)) r.end) ((behind z j).after 0));
    none = λ x z j off e k. elim (beside r.end (end-in ts r is) x (below-in ts r is y x i j) off) [
      | inl w ↦ not-end ts r z ((w z k).apart (length_of ts z))
      | inr w ↦ absurd (true≢false (sym (ap (λ t. t && is_before ts (at x (length_of ts x)) r.end) ((behind x j).after 0) ∙
          (w x (self-in ts is.once x (stands ts r is x (below-in ts r is y x i j)))).before (length_of ts x)) ∙ e))
    ];
  }
