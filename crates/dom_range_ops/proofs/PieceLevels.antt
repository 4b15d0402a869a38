-- How a boundary point stands to the trees of the children of a node above it.
use Rattle.dom_range_ops.proofs.Cited.{◌≡◌, ◌⊎◌, inl, inr, ℕ, ◌<◌, ◌≤◌, suc, true, false, List, [], ◌∷◌, ◌++◌, length, take, drop, refl, sym, ap, subst, ◌∙◌}
use Rattle.dom_range_ops.proofs.Cited.{arith, append_assoc, length-append, length-take, true≢false, cases_Bool, cond-false, lt-ltb, le-ltb, le-leb, lt-leb}
use Rattle.dom_range_ops.proofs.Cited.{append-nil, NodeName, name_eq, items_before, items_after, Boundary, place_of, is_before, at, Trees, node_in, kind_of}
use Rattle.dom_range_ops.proofs.Cited.{has_data, children_of, inclusive_ancestors, inclusive_descendants, is_inclusive_ancestor, length_of, subtree}
use Rattle.dom_range_ops.proofs.Cited.{before-same, before-up, before-down, before-beside, In-names, In, is_in-not, split_at, IsWithin, here, Has}
use Rattle.dom_range_ops.proofs.Cited.{above-present, below-from_above, Once}
use Rattle.dom_range_ops.proofs.Parting.{under-kid, among-kids}

module _ (ts : Trees) (once : Once ts) where
  -- ---- a node of the tree of a node

  -- it stands in or below a child, of this number
  pub record IsBelow (z y : NodeName) : Type 0 where
    pub child : ℕ
    pub rest : List ℕ
    pub place : place_of ts y ≡ place_of ts z ++ child ∷ rest
    pub fits : child < length (children_of ts z)

  -- a node stands in its own tree
  pub self-within : (z : NodeName) → Has ts z → IsWithin ts z z
  self-within z h = record { once = once; top_stands = h; stands = below-from_above ts z z once h (subst (In z) (sym (above-present ts z h).1) (inl refl)) }

  pub self-in : (z : NodeName) → Has ts z → In z (inclusive_descendants ts z)
  self-in z h = In-names (subtree ts z) z (self-within z h).stands

  -- it is the node, or below it
  pub descend : (z y : NodeName) → Has ts z → In y (inclusive_descendants ts z) → (y ≡ z) ⊎ IsBelow z y
  descend z y h i = elim (subst (In y) (here ts z z (self-within z h)) i) [
    | inl same ↦ inl same
    | inr j ↦
        let u = among-kids ts once z y [] (children_of ts z) {back = []} record { there = h; all = sym (append-nil (children_of ts z)) } j in
        let less = u.2 in
        inr record { child = u.0.child; rest = u.0.rest; place = u.0.place; fits = omega (arith, less) }
  ]

  -- ---- nodes behind a point, and in front of it

  -- all points of a node come after a point, which is not in its tree
  pub record IsBehind (b : Boundary NodeName) (z : NodeName) : Type 0 where
    pub after : (n : ℕ) → is_before ts b (at z n) ≡ true
    pub apart : (n : ℕ) → is_before ts (at z n) b ≡ false

  -- or before it
  pub record IsAhead (b : Boundary NodeName) (z : NodeName) : Type 0 where
    pub before : (n : ℕ) → is_before ts (at z n) b ≡ true
    pub apart : (n : ℕ) → is_before ts b (at z n) ≡ false

  -- a node does not come after a point in its tree
  pub above-start : (b : Boundary NodeName) (z : NodeName) → Has ts z → In b.node (inclusive_descendants ts z) → is_before ts b (at z 0) ≡ false
  above-start b z h i = elim (descend z b.node h i) [
    | inl same ↦ before-same ts b.node z b.offset 0 same ∙ le-ltb b.offset 0 (omega arith)
    | inr u ↦ before-up ts b.node z b.offset 0 u.child u.rest u.place ∙ le-ltb u.child 0 (omega arith)
  ]

  -- nor does its last point come before it
  pub above-end : (b : Boundary NodeName) → b.offset ≤ length_of ts b.node → (z : NodeName) →
      (has_data (kind_of ts z) ≡ true → children_of ts z ≡ []) → Has ts z → In b.node (inclusive_descendants ts z)
      → is_before ts (at z (length_of ts z)) b ≡ false
  above-end b fits z leaf h i = elim (descend z b.node h i) [
    | inl same ↦
        let size : length_of ts b.node ≡ length_of ts z = ap (length_of ts) same in
        before-same ts z b.node (length_of ts z) b.offset (sym same) ∙ le-ltb (length_of ts z) b.offset (omega (arith, fits, size))
    | inr u ↦
        let low = u.fits in
        before-down ts z b.node (length_of ts z) b.offset u.child u.rest u.place
        ∙ elim (cases_Bool (has_data (kind_of ts z))) [
          | inl e ↦ absurd (let none = ap (length {A = NodeName}) (leaf e) in omega (arith, low, none))
          | inr e ↦
              let size : length_of ts z ≡ length (children_of ts z) =
              cond-false (has_data (kind_of ts z)) (length (node_in ts z).text) (length (children_of ts z)) e in
              lt-leb (length_of ts z) u.child (omega (arith, low, size))
        ]
  ]

  -- a node behind a point is not above the point's node
  pub behind-off : (b : Boundary NodeName) (z : NodeName) → Has ts z → Has ts b.node → IsBehind b z → is_inclusive_ancestor ts z b.node ≡ false
  behind-off b z h g w = is_in-not z (inclusive_ancestors ts b.node)
      (λ i. true≢false (sym (w.after 0) ∙ above-start b z h (In-names (subtree ts z) b.node (below-from_above ts z b.node once g i))))

  -- nor is one in front of it
  pub ahead-off : (b : Boundary NodeName) (z : NodeName) → Has ts z → Has ts b.node → IsAhead b z → is_inclusive_ancestor ts z b.node ≡ false
  ahead-off b z h g w = is_in-not z (inclusive_ancestors ts b.node)
      (λ i. by (descend z b.node h (In-names (subtree ts z) b.node (below-from_above ts z b.node once g i))))
    where
      by : (b.node ≡ z) ⊎ IsBelow z b.node → ⊥
      by (inl same) = true≢false (sym (w.before b.offset) ∙ (before-same ts z b.node b.offset b.offset (sym same) ∙ le-ltb b.offset b.offset (omega arith)))
      by (inr u) = true≢false (sym (w.before (suc u.child)) ∙
          (before-down ts z b.node (suc u.child) b.offset u.child u.rest u.place ∙ lt-leb (suc u.child) u.child (omega arith)))

  -- ---- the children of a node above a point

  -- the point is in the node, at this place among its children
  pub record IsHere (p : NodeName) (b : Boundary NodeName) (front middle back : List NodeName) : Type 0 where
    pub same : b.node ≡ p
    pub none : middle ≡ []
    pub first : front ≡ take b.offset (children_of ts p)
    pub later : back ≡ drop b.offset (children_of ts p)

  -- or in the tree of the child in the middle
  pub record IsInside (b : Boundary NodeName) (middle : List NodeName) : Type 0 where
    pub child : NodeName
    pub alone : middle ≡ child ∷ []
    pub inside : In b.node (inclusive_descendants ts child)

  -- the children in front of it, the one that it is in, and those behind it
  pub record Level (p : NodeName) (b : Boundary NodeName) : Type 0 where
    pub front : List NodeName
    pub middle : List NodeName
    pub back : List NodeName
    pub kids : children_of ts p ≡ front ++ (middle ++ back)
    pub shape : IsHere p b front middle back ⊎ IsInside b middle

  module _ (p : NodeName) (h : Has ts p) (b : Boundary NodeName) (l : Level p b) where
    -- where a child in front stands
    front-kids : (k : NodeName) → In k l.front →
        children_of ts p ≡ items_before name_eq k l.front ++ k ∷ (items_after name_eq k l.front ++ (l.middle ++ l.back))
    front-kids k i = l.kids ∙ (ap (λ xs. xs ++ (l.middle ++ l.back)) (split_at k l.front i) ∙ append_assoc (items_before name_eq k l.front)
        (k ∷ items_after name_eq k l.front) (l.middle ++ l.back))

    front-index : (k : NodeName) → In k l.front → length (items_before name_eq k l.front) < length l.front
    front-index k i = let longer = ap (length {A = NodeName}) (split_at k l.front i) ∙ length-append (items_before name_eq k l.front)
        (k ∷ items_after name_eq k l.front) in omega (arith, longer)

    -- and one behind
    abbrev until : NodeName → List NodeName
    until k = l.front ++ (l.middle ++ items_before name_eq k l.back)

    back-kids : (k : NodeName) → In k l.back → children_of ts p ≡ until k ++ k ∷ items_after name_eq k l.back
    back-kids k i =
        let first = items_before name_eq k l.back in
        let later = items_after name_eq k l.back in
        l.kids
        ∙ (ap (λ xs. l.front ++ (l.middle ++ xs)) (split_at k l.back i)
        ∙ (ap (λ xs. l.front ++ xs) (sym (append_assoc l.middle first (k ∷ later))) ∙ sym (append_assoc l.front (l.middle ++ first) (k ∷ later))))

    -- what is in the tree of a child in front of the point is ahead of it
    pub in-front : (k z : NodeName) → In k l.front → In z (inclusive_descendants ts k) → IsAhead b z
    in-front k z i j =
        let index = length (items_before name_eq k l.front) in
        let r = under-kid ts once p k z (items_before name_eq k l.front)
        {back = items_after name_eq k l.front ++ (l.middle ++ l.back)} record { there = h; kids = front-kids k i } j in
        let low = front-index k i in
        elim l.shape [
          | inl s ↦
              let few = ap (length {A = NodeName}) s.first ∙ length-take b.offset (children_of ts p) in
              let place = r.1 ∙ ap (λ q. place_of ts q ++ index ∷ r.0) (sym s.same) in
              record {
                before = λ n. before-up ts z b.node n b.offset index r.0 place ∙ lt-ltb index b.offset (omega (arith, low, few));
                apart = λ n. before-down ts b.node z b.offset n index r.0 place ∙ lt-leb b.offset index (omega (arith, low, few));
              }
          | inr s ↦
              let kids = l.kids ∙ ap (λ xs. l.front ++ (xs ++ l.back)) s.alone in
              let q = under-kid ts once p s.child b.node l.front {back = l.back} record { there = h; kids = kids } s.inside in
              record {
                before = λ n. before-beside ts z b.node n b.offset (place_of ts p) index (length l.front) r q
                    (λ e. omega (arith, low, e)) ∙ lt-ltb index (length l.front) low;
                apart = λ n. before-beside ts b.node z b.offset n (place_of ts p) (length l.front) index q r
                    (λ e. omega (arith, low, e)) ∙ le-ltb (length l.front) index (omega (arith, low));
              }
        ]

    -- what is in the tree of a child behind it is behind it
    pub in-back : (k z : NodeName) → In k l.back → In z (inclusive_descendants ts k) → IsBehind b z
    in-back k z i j =
        let index = length (until k) in
        let r = under-kid ts once p k z (until k) {back = items_after name_eq k l.back} record { there = h; kids = back-kids k i } j in
        let long = length-append l.front (l.middle ++ items_before name_eq k l.back) in
        let more = length-append l.middle (items_before name_eq k l.back) in
        elim l.shape [
          | inl s ↦
              let few = ap (length {A = NodeName}) s.first ∙ length-take b.offset (children_of ts p) in
              let whole = ap (length {A = NodeName}) (back-kids k i) ∙ length-append (until k) (k ∷ items_after name_eq k l.back) in
              let place = r.1 ∙ ap (λ q. place_of ts q ++ index ∷ r.0) (sym s.same) in
              record {
                after = λ n. before-down ts b.node z b.offset n index r.0 place ∙ le-leb b.offset index (omega (arith, long, few, whole));
                apart = λ n. before-up ts z b.node n b.offset index r.0 place ∙ le-ltb index b.offset (omega (arith, long, few, whole));
              }
          | inr s ↦
              let kids = l.kids ∙ ap (λ xs. l.front ++ (xs ++ l.back)) s.alone in
              let q = under-kid ts once p s.child b.node l.front {back = l.back} record { there = h; kids = kids } s.inside in
              let one = ap (length {A = NodeName}) s.alone in
              record {
                after = λ n.
                    before-beside ts b.node z b.offset n (place_of ts p) (length l.front) index q r (λ e. omega (arith, long, more, one, e))
                    ∙ lt-ltb (length l.front) index (omega (arith, long, more, one));
                apart = λ n.
                    before-beside ts z b.node n b.offset (place_of ts p) index (length l.front) r q (λ e. omega (arith, long, more, one, e))
                    ∙ le-ltb index (length l.front) (omega (arith, long, more, one));
              }
        ]
