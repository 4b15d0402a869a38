-- The items of the pieces of a range, by the paths from its ends.
use Rattle.dom_range_ops.proofs.Cited.{◌≡◌, inl, inr, ℕ, Bool, true, false, List, [], ◌∷◌, ◌++◌, map, drop, Some, refl, sym, ap, subst, ◌∙◌, append_assoc}
use Rattle.dom_range_ops.proofs.Cited.{filter, find, unwrap_or, NodeName, common_ancestor, tree_holding, all_whole, ◌followed_by◌, pieces_behind}
use Rattle.dom_range_ops.proofs.Cited.{pieces_in_front, pieces_apart, first_of, last_of, is_before, Range, is_contained, Trees, children_of}
use Rattle.dom_range_ops.proofs.Cited.{inclusive_ancestors, is_inclusive_ancestor, trees_below, subtree, Points, above-along, In, In-left, In-right, In-not}
use Rattle.dom_range_ops.proofs.Cited.{Single, Single-right, is_in-from, is_in-not, Has, Has-above, above-parent, children-single, StandOnce, StandAlone}
use Rattle.dom_range_ops.proofs.Cited.{Once-forest, Has-forest, NamedTrees, name_at, items_of, whole_item, AreSpanned, ArePaths, side_items, from_sibling}
use Rattle.dom_range_ops.proofs.Cited.{up_to, first_behind, first_from, range_at_points, nodes_around, append-nil, cond-false, cond-true, false_from_ne_true}
use Rattle.dom_range_ops.proofs.Cited.{filter-append, none-some, not, same_Some, behind_node, has_data, kind_of, new_place, parent_of, above-present}
use Rattle.dom_range_ops.proofs.Cited.{filter-all, filter-none, parent-of_child, length, slice_get, ◌-◌}
use Rattle.dom_range_ops.proofs.PieceItems.{items-followed, items-whole}
use Rattle.dom_range_ops.proofs.ContainedNodes.{IsRange, start-in, above-in}
use Rattle.dom_range_ops.proofs.PieceMiddle.{PartAt, start_course, end_course, at_start, at_end, below-leaves, follows, between-contained}
use Rattle.dom_range_ops.proofs.PieceParts.{Course, at_top, inside, kid-off, begins, stops, side-held}
use Rattle.dom_range_ops.proofs.PieceRuns.{from-kids, up-to-first}
use Rattle.dom_range_ops.proofs.PieceSides.{last-member, tail-same}
use Rattle.dom_range_ops.proofs.PieceSteps.{last-named}

-- the first that passes a test
find-there : (p : NodeName → Bool) (xs : List NodeName) (x : NodeName) (rest : List NodeName) → ((y : NodeName) → In y xs → p y ≡ false) →
    p x ≡ true → find p (xs ++ x ∷ rest) ≡ Some x
find-there p [] x rest off e = rw e refl
find-there p (y ∷ xs) x rest off e = rw (off y (inl refl)) (find-there p xs x rest (λ z i. off z (inr i)) e)

module _ (ts : Trees) (r : Range NodeName) (is : IsRange ts r) (c : NodeName) (rest start_path end_path : List NodeName)
    (parts : PartAt ts r c rest start_path end_path) where
  -- ---- the lowest common inclusive ancestor

  -- the last node of the start's path is not above the end
  start-apart : (y : NodeName) → In y (children_of ts c) → last_of start_path ≡ Some y → is_inclusive_ancestor ts y r.end.node ≡ false
  start-apart y i last = kid-off ts is.once c rest parts.there (end_course ts r is c rest start_path end_path parts) is.end i
      (parts.apart y last)

  -- nor is that of the end's above the start
  end-apart : (y : NodeName) → In y (children_of ts c) → last_of end_path ≡ Some y → is_inclusive_ancestor ts y r.start.node ≡ false
  end-apart y i last = kid-off ts is.once c rest parts.there (start_course ts r is c rest start_path end_path parts) is.start
      i (λ same. parts.apart y same last)

  -- no node of the start's path is above the end
  path-off : Course ts is.once c rest r.start start_path → (a : NodeName) → In a start_path → is_inclusive_ancestor ts a r.end.node ≡ false
  path-off (at_top empty same) a i = absurd (subst (In a) empty i)
  path-off (inside y more whole last among below) a i =
      is_in-not a (inclusive_ancestors ts r.end.node)
      (λ j.
      let above = last-above r.start.node more is.start (parts.start ∙ ap (λ xs. xs ++ c ∷ rest) whole)
      (ap last_of (sym whole) ∙ last) (subst (In a) whole i) in
      In-not y (inclusive_ancestors ts r.end.node) (start-apart y among last) (above-along ts y a r.end.node is.once is.end above j))
    where
      -- the last node of a path is above all of it
      last-above : (x : NodeName) (path : List NodeName) → Has ts x → inclusive_ancestors ts x ≡ (x ∷ path) ++ (c ∷ rest) →
          last_of (x ∷ path) ≡ Some y → In a (x ∷ path) → In y (inclusive_ancestors ts a)
      last-above x path h e end (inl same) =
          subst (λ z. In y (inclusive_ancestors ts z)) (sym same) (subst (In y) (sym e) (In-left y (x ∷ path) (c ∷ rest) (last-member x y path end)))
      last-above x [] h e end (inr k) = absurd k
      last-above x (p ∷ path) h e end (inr k) =
          let up = above-parent ts x p is.once h (ap (λ xs. first_of (drop 1 xs)) e) in
          last-above p path up.1 (tail-same x (inclusive_ancestors ts p) ((p ∷ path) ++ (c ∷ rest)) (sym up.0 ∙ e)) end k

  pub common-is : common_ancestor ts r ≡ c
  common-is =
      ap (λ xs. unwrap_or (find (λ a. is_inclusive_ancestor ts a r.end.node) xs) r.start.node) parts.start
      ∙ ap (λ o. unwrap_or o r.start.node)
      (find-there (λ a. is_inclusive_ancestor ts a r.end.node) start_path c rest (path-off (start_course ts r is c rest start_path end_path parts))
      (is_in-from c (inclusive_ancestors ts r.end.node) (subst (In c) (sym parts.end) (In-right c end_path (c ∷ rest) (inl refl)))))

  -- ---- where the range stands when its contents are taken

  -- of the nodes above the start those that are not above the end are its path
  apart-path : filter (λ a. not (is_inclusive_ancestor ts a r.end.node)) (inclusive_ancestors ts r.start.node) ≡ start_path
  apart-path =
      let test = λ (a : NodeName). not (is_inclusive_ancestor ts a r.end.node) in
      ap (filter test) parts.start
      ∙ filter-append test start_path (c ∷ rest)
      ∙ ap (λ xs. xs ++ filter test (c ∷ rest))
      (filter-all test start_path (λ a i. ap not (path-off (start_course ts r is c rest start_path end_path parts) a i)))
      ∙ ap (λ xs. start_path ++ xs) (filter-none test (c ∷ rest)
      (λ a i. ap not (is_in-from a (inclusive_ancestors ts r.end.node) (subst (In a) (sym parts.end) (In-right a end_path (c ∷ rest) i)))))
      ∙ append-nil start_path

  -- at its start where that is empty
  pub place-start : start_path ≡ [] → new_place ts r ≡ r.start
  place-start none =
      let x = r.start.node in
      let own = subst (In x) (sym (above-present ts x is.start).1 ∙ parts.start ∙ ap (λ xs. xs ++ c ∷ rest) none) (inl refl) in
      cond-true (is_inclusive_ancestor ts x r.end.node) r.start _
      (is_in-from x (inclusive_ancestors ts r.end.node) (subst (In x) (sym parts.end) (In-right x end_path (c ∷ rest) own)))

  module _ (low : NodeName) (last : last_of start_path ≡ Some low) where
    -- else just behind the last node of it
    pub place-behind : new_place ts r ≡ behind_node ts low
    place-behind =
        cond-false (is_inclusive_ancestor ts r.start.node r.end.node) r.start _ (off (start_course ts r is c rest start_path end_path parts)) ∙
        ap (λ o. behind_node ts (unwrap_or o r.start.node)) (ap last_of apart-path ∙ last)
      where
        off : Course ts is.once c rest r.start start_path → is_inclusive_ancestor ts r.start.node r.end.node ≡ false
        off (at_top empty same) = absurd (none-some low (ap last_of (sym empty) ∙ last))
        off (inside y more whole end among below) =
            path-off (inside y more whole end among below) r.start.node (subst (In r.start.node) (sym whole) (inl refl))

    -- whose parent has children, and so no data
    pub low-open : (p : NodeName) → parent_of ts low ≡ Some p → has_data (kind_of ts p) ≡ false
    low-open p up = by (start_course ts r is c rest start_path end_path parts)
      where
        by : Course ts is.once c rest r.start start_path → has_data (kind_of ts p) ≡ false
        by (at_top empty same) = absurd (none-some low (ap last_of (sym empty) ∙ last))
        by (inside y more whole end among below) =
            let above = subst (In c) (sym parts.start) (In-right c start_path (c ∷ rest) (inl refl)) in
            let low_up = subst (λ z. parent_of ts z ≡ Some c) (same_Some y low (sym end ∙ last)) (parent-of_child ts c y is.once parts.there among).0 in
            subst (λ z. has_data (kind_of ts z) ≡ false) (same_Some c p (sym low_up ∙ up))
            (false_from_ne_true (has_data (kind_of ts c))
            (λ e. subst (In y) (is.leaves c (above-in ts r is r.start.node c (start-in ts r is) above).0 e) among))

  -- ---- the run between

  -- it is what is contained
  pub run-is : is_before ts r.end r.start ≡ false →
      up_to (first_from ts r.end end_path) (from_sibling ts (first_behind ts r.start start_path)) ≡ filter (is_contained ts r)
      (children_of ts (common_ancestor ts r))
  run-is ordered =
      let o = follows ts r is c rest start_path end_path parts ordered in
      let s = at_start ts r is c rest start_path end_path parts in
      let e = at_end ts r is c rest start_path end_path parts in
      let whole : children_of ts c ≡ (s.front ++ s.middle) ++ s.back = s.kids ∙ sym (append_assoc s.front s.middle s.back) in
      let single = Single-right (s.front ++ s.middle) s.back (subst Single whole (children-single ts c is.once parts.there)) in
      ap (up_to (first_from ts r.end end_path))
      (from-kids ts is.once c parts.there (s.front ++ s.middle) s.back whole
      (begins ts is.once c rest parts.there r.start start_path (start_course ts r is c rest start_path end_path parts)) ∙ o.back)
      ∙ (up-to-first o.between (e.middle ++ e.back) (subst Single o.back single) (first_from ts r.end end_path)
      (stops ts is.once c rest parts.there r.end end_path (end_course ts r is c rest start_path end_path parts))
      ∙ (sym (between-contained ts r is c rest start_path end_path parts o) ∙ ap (λ x. filter (is_contained ts r) (children_of ts x)) (sym common-is)))

  -- ---- the whole

  -- the start's side, the contained children, and the end's side
  pub items-apart : items_of (pieces_apart ts r)
      ≡ side_items ts r.start true start_path ++
      (map whole_item (filter (is_contained ts r) (children_of ts (common_ancestor ts r))) ++ side_items ts r.end false end_path)
  items-apart =
      let below = trees_below (subtree ts (common_ancestor ts r)) in
      let contained = filter (is_contained ts r) (children_of ts (common_ancestor ts r)) in
      let first = pieces_behind ts r.start (tree_holding ts r.start.node r.end.node below) in
      let later = pieces_in_front ts r.end (tree_holding ts r.end.node r.start.node below) in
      let leaves = below-leaves ts r is c rest start_path end_path parts in
      let first_is : items_of first ≡ side_items ts r.start true start_path =
      ap (λ (x : NodeName). items_of (pieces_behind ts r.start (tree_holding ts r.start.node r.end.node (trees_below (subtree ts x))))) common-is
      ∙ side-held ts is.once c rest parts.there r.start start_path is.start parts.start r.end.node start-apart leaves true in
      let later_is : items_of later ≡ side_items ts r.end false end_path =
      ap (λ (x : NodeName). items_of (pieces_in_front ts r.end (tree_holding ts r.end.node r.start.node (trees_below (subtree ts x))))) common-is
      ∙ side-held ts is.once c rest parts.there r.end end_path is.end parts.end r.start.node end-apart leaves false in
      items-followed first (all_whole contained followed_by later)
      ∙ (ap (λ xs. xs ++ items_of (all_whole contained followed_by later)) first_is
      ∙ ap (λ xs. side_items ts r.start true start_path ++ xs)
      (items-followed (all_whole contained) later ∙
      (ap (λ xs. xs ++ items_of later) (items-whole contained) ∙ ap (λ xs. map whole_item contained ++ xs) later_is)))

-- ---- by keys

module _ (f : NamedTrees) (once : StandOnce f) (only : StandAlone f) (points : Points) (spanned : AreSpanned f points) where
  pub is-range : IsRange f.trees (range_at_points f.names points)
  is-range = record {
    once = Once-forest f once only;
    start = Has-forest f once points.start.0 spanned.ends.start;
    end = Has-forest f once points.end.0 spanned.ends.end;
    one_root = spanned.ends.one_root;
    fits = spanned.within;
    leaves = λ x i e. spanned.leaves x (is_in-from x (nodes_around f.trees (range_at_points f.names points)) i) e;
  }

  module _ (start_path end_path : List ℕ) (w : ArePaths f points start_path end_path) where
    abbrev r : Range NodeName
    r = range_at_points f.names points

    pub part-at : PartAt f.trees r w.top w.above (map (name_at f.names) start_path) (map (name_at f.names) end_path)
    part-at = record {
      there = Has-above f.trees w.top (name_at f.names points.start.0) is-range.once is-range.start
          (subst (In w.top) (sym w.start) (In-right w.top (map (name_at f.names) start_path) (w.top ∷ w.above) (inl refl)));
      start = w.start;
      end = w.end;
      apart = w.apart;
    }

    -- the run between the two paths is what is contained of the children of the lowest common inclusive ancestor
    pub run-between : is_before f.trees r.end r.start ≡ false →
        up_to (first_from f.trees r.end (map (name_at f.names) end_path))
        (from_sibling f.trees (first_behind f.trees r.start (map (name_at f.names) start_path)))
        ≡ filter (is_contained f.trees r) (children_of f.trees (common_ancestor f.trees r))
    run-between = run-is f.trees r is-range w.top w.above _ _ part-at

    -- and the items are those of the two sides with it between
    pub items-between : items_of (pieces_apart f.trees r) ≡ side_items f.trees r.start true (map (name_at f.names) start_path) ++
        (map whole_item (filter (is_contained f.trees r) (children_of f.trees (common_ancestor f.trees r))) ++
        side_items f.trees r.end false (map (name_at f.names) end_path))
    items-between = items-apart f.trees r is-range w.top w.above _ _ part-at

    -- where the range stands when its contents are taken
    pub place-at_start : start_path ≡ [] → new_place f.trees r ≡ r.start
    place-at_start none = place-start f.trees r is-range w.top w.above _ _ part-at (ap (map (name_at f.names)) none)

    module _ (low : ℕ) (last : slice_get start_path (length start_path - 1) ≡ Some low) where
      pub place-at_low : new_place f.trees r ≡ behind_node f.trees (name_at f.names low)
      place-at_low = place-behind f.trees r is-range w.top w.above _ _ part-at (name_at f.names low) (last-named f.names start_path low last)

      pub open-at_low : (p : NodeName) → parent_of f.trees (name_at f.names low) ≡ Some p → has_data (kind_of f.trees p) ≡ false
      open-at_low = low-open f.trees r is-range w.top w.above _ _ part-at (name_at f.names low) (last-named f.names start_path low last)
