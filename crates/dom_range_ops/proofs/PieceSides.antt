-- What is taken of a tree along the path down to a boundary point in it: what is behind the point, or what is in front of it.
use Rattle.dom_range_ops.proofs.Cited.{◌≡◌, inl, inr, ℕ, Bool, true, false, not, List, [], ◌∷◌, ◌++◌, map, take, drop, refl, sym, ap, subst, Some, ◌∙◌}
use Rattle.dom_range_ops.proofs.Cited.{append_assoc, if◌then◌else◌, flat_map, option_map_or, cases_Bool, cond-false, append-nil, take-append-drop}
use Rattle.dom_range_ops.proofs.Cited.{flat_map-cons, flat_map-append, same_Some, NodeName, name_eq, first_of, last_of, items_before, items_after, Boundary}
use Rattle.dom_range_ops.proofs.Cited.{is_before, at, Trees, kind_of, has_data, children_of, inclusive_ancestors, inclusive_descendants, length_of, subtree}
use Rattle.dom_range_ops.proofs.Cited.{above-along, In-names, Has-names, child-of_parent, In, In-left, In-right, is_in-from, split_at, IsWithin, stands_in, Has}
use Rattle.dom_range_ops.proofs.Cited.{Has-subtree, above-parent, above-from_below, below-from_above, Once, within-child, Item, whole_item, cut_item}
use Rattle.dom_range_ops.proofs.Cited.{clone_item, end_item, wholes_if, heads, tails, end_items, side_items}
use Rattle.dom_range_ops.proofs.PieceItems.{node_items, items-beside, items-on}
use Rattle.dom_range_ops.proofs.PieceLevels.{IsBehind, IsAhead, Level, behind-off, ahead-off, in-front, in-back, self-in}

-- lists that begin with the same item go on alike
pub tail-same : (x : NodeName) (xs ys : List NodeName) → x ∷ xs ≡ x ∷ ys → xs ≡ ys
tail-same x xs ys e = cc

-- a last item is a member
pub last-member : (x y : NodeName) (xs : List NodeName) → last_of (x ∷ xs) ≡ Some y → In y (x ∷ xs)
last-member x y [] e = inl (sym (same_Some x y e))
last-member x y (z ∷ zs) e = inr (last-member z y zs e)

-- the items of nodes that are all taken as they are, or not at all
flat-wholes : (f : NodeName → List Item) (taken : Bool) (xs : List NodeName) → ((z : NodeName) → In z xs → f z ≡ wholes_if taken (z ∷ [])) →
    flat_map f xs ≡ wholes_if taken xs
flat-wholes f true [] h = refl
flat-wholes f false [] h = refl
flat-wholes f true (x ∷ xs) h = flat_map-cons f x xs ∙
    (ap (λ ys. ys ++ flat_map f xs) (h x (inl refl)) ∙ ap (λ ys. whole_item x ∷ ys) (flat-wholes f true xs (λ z i. h z (inr i))))
flat-wholes f false (x ∷ xs) h = flat_map-cons f x xs ∙ (ap (λ ys. ys ++ flat_map f xs) (h x (inl refl)) ∙ flat-wholes f false xs (λ z i. h z (inr i)))

-- of the first nodes none and all others, or all and none of the others
one-part : (behind : Bool) (first later : List NodeName) (items : List Item) →
    (wholes_if (not behind) first ++ wholes_if behind later) ++ items ≡ map whole_item (if behind then later else first) ++ items
one-part true first later items = refl
one-part false first later items = ap (λ xs. xs ++ items) (append-nil (map whole_item first))

module _ (ts : Trees) (once : Once ts) (b : Boundary NodeName) (behind : Bool) where
  -- ---- which nodes are taken as they are, and where the part of data begins and ends

  abbrev pub taken : NodeName → Bool
  taken z = if behind then is_before ts b (at z 0) else is_before ts (at z (length_of ts z)) b

  abbrev pub from : ℕ
  from = if behind then b.offset else 0

  abbrev pub to : ℕ
  to = if behind then length_of ts b.node else b.offset

  -- the items of a node's tree
  abbrev pub side_of : NodeName → List Item
  side_of z = node_items ts b.node taken from to z

  -- a node in front of the point is not taken with what is behind the point
  ahead-taken : (z : NodeName) → IsAhead ts once b z → taken z ≡ not behind
  ahead-taken z a = by behind
    where
      by : (t : Bool) → (if t then is_before ts b (at z 0) else is_before ts (at z (length_of ts z)) b) ≡ not t
      by true = a.apart 0
      by false = a.before (length_of ts z)

  -- and one behind it is
  later-taken : (z : NodeName) → IsBehind ts once b z → taken z ≡ behind
  later-taken z a = by behind
    where
      by : (t : Bool) → (if t then is_before ts b (at z 0) else is_before ts (at z (length_of ts z)) b) ≡ t
      by true = a.after 0
      by false = a.apart (length_of ts z)

  module _ (point : Has ts b.node) (top : NodeName) (top_stands : Has ts top)
      (leaves : (x : NodeName) → In x (inclusive_descendants ts top) → has_data (kind_of ts x) ≡ true → children_of ts x ≡ []) where
    -- a node in the tree
    in-tree : (x : NodeName) → Has ts x → In top (inclusive_ancestors ts x) → IsWithin ts top x
    in-tree x h i = record { once = once; top_stands = top_stands; stands = below-from_above ts top x once h i }

    -- nodes in front of the point, or behind it
    ahead-items : (z : NodeName) → Has ts z → IsAhead ts once b z → side_of z ≡ wholes_if (not behind) (z ∷ [])
    ahead-items z h a = items-beside ts b.node taken from to once z h (ahead-off ts once b z h point a) ∙ ap (λ t. wholes_if t (z ∷ [])) (ahead-taken z a)

    later-items : (z : NodeName) → Has ts z → IsBehind ts once b z → side_of z ≡ wholes_if behind (z ∷ [])
    later-items z h a = items-beside ts b.node taken from to once z h (behind-off ts once b z h point a) ∙ ap (λ t. wholes_if t (z ∷ [])) (later-taken z a)

    -- those above it
    above-items : (z : NodeName) → Has ts z → In b.node (inclusive_descendants ts z)
        → side_of z ≡ (if has_data (kind_of ts z) then cut_item z from to ∷ [] else clone_item z ∷ (flat_map side_of (children_of ts z) ++ end_item ∷ []))
    above-items z h i = items-on ts b.node taken from to once z h
        (is_in-from z (inclusive_ancestors ts b.node) (above-from_below ts z b.node once h (Has-names (subtree ts z) b.node i)))

    -- of a level
    level-items : (p : NodeName) → IsWithin ts top p → (l : Level ts once p b) →
        flat_map side_of (children_of ts p) ≡ wholes_if (not behind) l.front ++ (flat_map side_of l.middle ++ wholes_if behind l.back)
    level-items p w l =
        let h = stands_in ts top p w in
        let stands : (z : NodeName) → In z (children_of ts p) → Has ts z = λ z i. stands_in ts top z (within-child ts top p z w i) in
        let in_front : (z : NodeName) → In z l.front → Has ts z = λ z i. stands z (subst (In z) (sym l.kids) (In-left z l.front (l.middle ++ l.back) i)) in
        let in_back : (z : NodeName) → In z l.back → Has ts z =
        λ z i. stands z (subst (In z) (sym l.kids) (In-right z l.front (l.middle ++ l.back) (In-right z l.middle l.back i))) in
        ap (flat_map side_of) l.kids
        ∙ (flat_map-append side_of l.front (l.middle ++ l.back)
        ∙ (ap (λ xs. xs ++ flat_map side_of (l.middle ++ l.back))
        (flat-wholes side_of (not behind) l.front
        (λ z i. ahead-items z (in_front z i) (in-front ts once p h b l z z i (self-in ts once z (in_front z i)))))
        ∙ ap (λ xs. wholes_if (not behind) l.front ++ xs)
        (flat_map-append side_of l.middle l.back
        ∙ ap (λ xs. flat_map side_of l.middle ++ xs)
        (flat-wholes side_of behind l.back
        (λ z i. later-items z (in_back z i) (in-back ts once p h b l z z i (self-in ts once z (in_back z i))))))))

    -- of a node above the point, whose child on the path this is
    path-items : (p x : NodeName) → IsWithin ts top p → In x (children_of ts p) → In b.node (inclusive_descendants ts x) →
        In b.node (inclusive_descendants ts p)
        → side_of p ≡ clone_item p ∷ ((wholes_if (not behind) (items_before name_eq x (children_of ts p)) ++
        (side_of x ++ wholes_if behind (items_after name_eq x (children_of ts p)))) ++ end_item ∷ [])
    path-items p x w i inside below =
        let kids = children_of ts p in
        let l : Level ts once p b = record {
          front = items_before name_eq x kids;
          middle = x ∷ [];
          back = items_after name_eq x kids;
          kids = split_at x kids i;
          shape = inr record { child = x; alone = refl; inside = inside };
        } in
        let no_data : has_data (kind_of ts p) ≡ false =
        elim (cases_Bool (has_data (kind_of ts p)))
        [ inl e ↦ absurd (subst (In x) (leaves p (In-names (subtree ts top) p w.stands) e) i) | inr e ↦ e ] in
        above-items p (stands_in ts top p w) below
        ∙ (cond-false (has_data (kind_of ts p)) (cut_item p from to ∷ []) (clone_item p ∷ (flat_map side_of kids ++ end_item ∷ [])) no_data
        ∙ ap (λ xs. clone_item p ∷ (xs ++ end_item ∷ []))
        (level-items p w l ∙ ap (λ xs. wholes_if (not behind) (items_before name_eq x kids) ++
        (xs ++ wholes_if behind (items_after name_eq x kids))) (flat_map-cons side_of x [] ∙ append-nil (side_of x))))

    -- of the point's node
    end-of : IsWithin ts top b.node → side_of b.node ≡ end_items ts b behind
    end-of w =
        let x = b.node in
        let kids = children_of ts x in
        let l : Level ts once x b = record {
          front = take b.offset kids;
          middle = [];
          back = drop b.offset kids;
          kids = sym (take-append-drop b.offset kids);
          shape = inl record { same = refl; none = refl; first = refl; later = refl };
        } in
        above-items x point (self-in ts once x point)
        ∙ ap (λ xs. if has_data (kind_of ts x) then cut_item x from to ∷ [] else clone_item x ∷ xs)
        (ap (λ xs. xs ++ end_item ∷ []) (level-items x w l) ∙ one-part behind (take b.offset kids) (drop b.offset kids) (end_item ∷ []))

    -- ---- up the path

    -- one level, written out
    regroup : (a before_items inner behind_items c : List Item) (p : NodeName)
        → a ++ ((clone_item p ∷ ((before_items ++ (inner ++ behind_items)) ++ end_item ∷ [])) ++ c) ≡ (a ++ clone_item p ∷ before_items) ++
        (inner ++ (behind_items ++ end_item ∷ c))
    regroup a u v w c p =
        ap (λ xs. a ++ clone_item p ∷ xs)
        (append_assoc (u ++ (v ++ w)) (end_item ∷ []) c
        ∙ (append_assoc u (v ++ w) (end_item ∷ c) ∙ ap (λ xs. u ++ xs) (append_assoc v w (end_item ∷ c))))
        ∙ sym (append_assoc a (clone_item p ∷ u) (v ++ (w ++ end_item ∷ c)))

    -- so all that is taken of it
    pub side-is : (path rest : List NodeName) → inclusive_ancestors ts b.node ≡ (b.node ∷ path) ++ rest → last_of (b.node ∷ path) ≡ Some top →
        side_of top ≡ side_items ts b behind (b.node ∷ path)
    side-is path rest above last =
        let w = in-tree b.node point (subst (In top) (sym above) (In-left top (b.node ∷ path) rest (last-member b.node top path last))) in
        path-up b.node path point above last (self-in ts once b.node point) ∙
        ap (λ xs. heads ts (not behind) (b.node ∷ path) ++ (xs ++ tails ts behind (b.node ∷ path))) (end-of w)
      where
        -- what is taken of the tree of the path's last node, by what is taken of its first
        path-up : (x : NodeName) (path : List NodeName) → Has ts x → inclusive_ancestors ts x ≡ (x ∷ path) ++ rest →
            last_of (x ∷ path) ≡ Some top → In b.node (inclusive_descendants ts x)
            → side_of top ≡ heads ts (not behind) (x ∷ path) ++ (side_of x ++ tails ts behind (x ∷ path))
        path-up x [] h above last inside = ap side_of (sym (same_Some x top last)) ∙ sym (append-nil (side_of x))
        path-up x (p ∷ path) h above last inside =
            let parent = ap (λ xs. first_of (drop 1 xs)) above in
            let up = above-parent ts x p once h parent in
            let higher : inclusive_ancestors ts p ≡ (p ∷ path) ++ rest = tail-same x (inclusive_ancestors ts p) ((p ∷ path) ++ rest) (sym up.0 ∙ above) in
            let among = (child-of_parent ts x p once h parent).1 in
            let below = In-names (subtree ts p) b.node (below-point p x up.1 h (subst (In p) (sym up.0) (inr (subst (In p) (sym higher) (inl refl)))) inside) in
            let w = in-tree p up.1 (subst (In top) (sym higher) (In-left top (p ∷ path) rest (last-member p top path last))) in
            path-up p path up.1 higher last below
            ∙ (ap (λ xs. heads ts (not behind) (p ∷ path) ++ (xs ++ tails ts behind (p ∷ path))) (path-items p x w among inside below)
            ∙ (regroup (heads ts (not behind) (p ∷ path)) (wholes_if (not behind) (items_before name_eq x (children_of ts p))) (side_of x)
            (wholes_if behind (items_after name_eq x (children_of ts p))) (tails ts behind (p ∷ path)) p
            ∙ ap (λ xs. heads ts (not behind) (x ∷ p ∷ path) ++
            (side_of x ++ (wholes_if behind (items_after name_eq x xs) ++ end_item ∷ tails ts behind (p ∷ path))))
            (sym (ap (λ o. option_map_or (children_of ts) o (x ∷ [])) parent))))
          where
            below-point : (q z : NodeName) → Has ts q → Has ts z → In q (inclusive_ancestors ts z) → In b.node (inclusive_descendants ts z) →
                Has (subtree ts q) b.node
            below-point q z at_q at_z i j =
                let stands = Has-names (subtree ts z) b.node j in
                let h = Has-subtree ts z b.node once stands in
                below-from_above ts q b.node once h (above-along ts q z b.node once h i (above-from_below ts z b.node once at_z stands))
