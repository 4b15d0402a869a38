-- The nodes that an extraction takes as they are are the outermost contained ones.
use Rattle.dom_range_ops.proofs.Cited.{◌≡◌, ◌⊎◌, inl, inr, ℕ, suc, ◌<◌, Bool, true, false, ◌&&◌, List, [], ◌∷◌, ◌++◌, length, map, refl, sym, ap, subst, ◌∙◌}
use Rattle.dom_range_ops.proofs.Cited.{append_assoc, arith, filter, AllByRecursion, flat_map, le-ltb, append-nil, flat_map-cons, filter-append, flat_map-append}
use Rattle.dom_range_ops.proofs.Cited.{same_Some, NodeName, common_ancestor, pieces_apart, last_of, Boundary, place_of, is_before, Range, at, is_contained}
use Rattle.dom_range_ops.proofs.Cited.{outermost_contained, Trees, children_of, root_of, inclusive_ancestors, inclusive_descendants, length_of, Points}
use Rattle.dom_range_ops.proofs.Cited.{before-up, before-beside, Once, In, In-left, In-right, filter-none, splits, Has, ahead_of, beyond, StandOnce, StandAlone}
use Rattle.dom_range_ops.proofs.Cited.{NamedTrees, name_at, Piece, Whole, Cut, Clone, End, whole_item, item_in, items_of, wholes, whole_key, whole_keys}
use Rattle.dom_range_ops.proofs.Cited.{side_items, AreSpanned, HasPaths, IsPieceIn, range_at_points, nodes_around}
use Rattle.dom_range_ops.proofs.ContainedNodes.{IsRange, IsClear, is_outermost, not-start, not-end, ends, start-in, end-in, above-in, member-within, below-in}
use Rattle.dom_range_ops.proofs.ContainedNodes.{kid-in, start-above-out, outermost-not}
use Rattle.dom_range_ops.proofs.DeletionOwn.{outermost-tree}
use Rattle.dom_range_ops.proofs.OutermostTrees.{wholes-append, wholes-map, flat-none, flat-each, outer_in, outer-none, outer-one, outer-below, place-below}
use Rattle.dom_range_ops.proofs.OutermostTrees.{Side, side-wholes, start-side, end-side}
use Rattle.dom_range_ops.proofs.Parting.{behind-apart, ahead-apart}
use Rattle.dom_range_ops.proofs.PieceLaws.{common-is, items-apart, is-range, part-at}
use Rattle.dom_range_ops.proofs.PieceLevels.{Level, in-front, in-back, self-in}
use Rattle.dom_range_ops.proofs.PieceMiddle.{PartAt, start_course, end_course, at_start, at_end, Follows, follows, between-contained}
use Rattle.dom_range_ops.proofs.PieceParts.{Course, at_top, inside, level, kid-stands, middle-kid, back-kid}
use Rattle.dom_range_ops.proofs.PieceSides.{side-is}

module _ (ts : Trees) (r : Range NodeName) (is : IsRange ts r) where
  abbrev top : NodeName
  top = root_of ts r.start.node

  abbrev outer : NodeName → List NodeName
  outer = outer_in ts r is

  module _ (c : NodeName) (rest start_path end_path : List NodeName) (parts : PartAt ts r c rest start_path end_path)
      (ordered : is_before ts r.end r.start ≡ false) where
    abbrev once : Once ts
    once = is.once

    abbrev s : Level ts is.once c r.start
    s = at_start ts r is c rest start_path end_path parts

    abbrev e : Level ts is.once c r.end
    e = at_end ts r is c rest start_path end_path parts

    -- the common ancestor is in the tree, above the start, and so not contained
    above_start : In c (inclusive_ancestors ts r.start.node)
    above_start = subst (In c) (sym parts.start) (In-right c start_path (c ∷ rest) (inl refl))

    top-in : In c (nodes_around ts r)
    top-in = (above-in ts r is r.start.node c (start-in ts r is) above_start).0

    top-off : is_contained ts r c ≡ false
    top-off = start-above-out ts r is c above_start

    kid-around : (z : NodeName) → In z (children_of ts c) → In z (nodes_around ts r)
    kid-around z i = below-in ts r is c z top-in (kid-in ts r is c z parts.there i).0

    kid-clear : (z : NodeName) → In z (children_of ts c) → IsClear ts r z
    kid-clear z i p some = subst (λ q. is_contained ts r q ≡ false) (same_Some c p (sym (kid-in ts r is c z parts.there i).1 ∙ some)) top-off

    -- the child that holds an end
    middle-wholes : (b : Boundary NodeName) (behind : Bool) (path : List NodeName) (w : Course ts once c rest b path) →
        (inclusive_ancestors ts b.node ≡ path ++ c ∷ rest) × Has ts b.node →
        ((y : NodeName) → In y (level ts once c rest b path w).middle → Side ts r is b behind y) →
        flat_map outer (level ts once c rest b path w).middle ≡ wholes (side_items ts b behind path)
    unfolding level
    middle-wholes b behind path (at_top empty same) stands sides = ap (λ xs. wholes (side_items ts b behind xs)) (sym empty)
    middle-wholes b behind path (inside y more whole last among below) stands sides =
        flat_map-cons outer y [] ∙ append-nil (outer y)
        ∙ sym (side-wholes ts r is b behind y (sides y (inl refl)) (suc (length (inclusive_ancestors ts b.node))) y
        (self-in ts once y (kid-stands ts once c rest parts.there y among)) (omega arith) (kid-clear y among))
        ∙ ap wholes (side-is ts once b behind stands.1 y (kid-stands ts once c rest parts.there y among)
        (λ x i k. is.leaves x (below-in ts r is y x (kid-around y among) i) k)
        more (c ∷ rest) (stands.0 ∙ ap (λ xs. xs ++ c ∷ rest) whole) (ap last_of (sym whole) ∙ last))
        ∙ ap (λ xs. wholes (side_items ts b behind xs)) (sym whole)

    -- nothing outside the common ancestor's tree is contained
    outside : outermost_contained ts r ≡ outer c
    outside =
        let w = member-within ts r is c top-in in
        let test = is_outermost ts r in
        let start_place = place-below ts r is c r.start.node top-in (above-in ts r is r.start.node c (start-in ts r is) above_start).1 in
        let above_end = subst (In c) (sym parts.end) (In-right c end_path (c ∷ rest) (inl refl)) in
        let end_place = place-below ts r is c r.end.node top-in (above-in ts r is r.end.node c (end-in ts r is) above_end).1 in
        outermost-tree ts r (ends ts r is)
        ∙ ap (filter test) (splits ts top c w)
        ∙ filter-append test (ahead_of ts top c) (inclusive_descendants ts c ++ beyond ts top c)
        ∙ ap (λ xs. xs ++ filter test (inclusive_descendants ts c ++ beyond ts top c))
        (filter-none test (ahead_of ts top c) (λ z i. outermost-not ts r is z (not-start ts r z (elim (ahead-apart ts once top c z w i) [
          | inl k ↦ before-beside ts r.start.node z r.start.offset 0 k.common k.second k.first (
            k.second_rest ++ start_place.0,
            start_place.1 ∙ ap (λ path. path ++ start_place.0) k.second_place ∙
                append_assoc k.common (k.second ∷ k.second_rest) start_place.0,
          )
              (k.first_rest, k.first_place) (λ same. let l = k.less in omega (arith, l, same)) ∙
              le-ltb k.second k.first (let l = k.less in omega (arith, l))
          | inr u ↦ before-up ts r.start.node z r.start.offset 0 u.child (u.rest ++ start_place.0)
              (start_place.1 ∙ ap (λ path. path ++ start_place.0) u.place ∙ append_assoc (place_of ts z) (u.child ∷ u.rest) start_place.0) ∙
              le-ltb u.child 0 (omega arith)
        ]))))
        ∙ filter-append test (inclusive_descendants ts c) (beyond ts top c)
        ∙ ap (λ xs. outer c ++ xs) (filter-none test (beyond ts top c) (λ z i.
        let k = behind-apart ts once top c z w i in
        outermost-not ts r is z (not-end ts r z (before-beside ts z r.end.node (length_of ts z) r.end.offset k.common k.second k.first
        (k.second_rest, k.second_place)
        (k.first_rest ++ end_place.0, end_place.1 ∙ ap (λ path. path ++ end_place.0) k.first_place ∙ append_assoc k.common (k.first ∷ k.first_rest) end_place.0)
        (λ same. let l = k.less in omega (arith, l, same)) ∙ le-ltb k.second k.first (let l = k.less in omega (arith, l))))))
        ∙ append-nil (outer c)

    pub outermost-wholes : wholes (items_of (pieces_apart ts r)) ≡ outermost_contained ts r
    outermost-wholes =
        let first = side_items ts r.start true start_path in
        let last = side_items ts r.end false end_path in
        let contained = filter (is_contained ts r) (children_of ts (common_ancestor ts r)) in
        ap wholes (items-apart ts r is c rest start_path end_path parts)
        ∙ wholes-append first (map whole_item contained ++ last)
        ∙ ap (λ xs. wholes first ++ xs) (wholes-append (map whole_item contained) last ∙ ap (λ xs. xs ++ wholes last) (wholes-map contained
        ∙ ap (λ x. filter (is_contained ts r) (children_of ts x)) (common-is ts r is c rest start_path end_path parts)
        ∙ between-contained ts r is c rest start_path end_path parts o))
        ∙ sym (outside ∙ outer-below ts r is c top-in top-off ∙ kids)
      where
        o : Follows ts r is c rest start_path end_path parts
        o = follows ts r is c rest start_path end_path parts ordered

        in-start : (z : NodeName) → In z o.between ⊎ In z e.middle → In z s.back
        in-start z (inl i) = subst (In z) (sym o.back) (In-left z o.between (e.middle ++ e.back) i)
        in-start z (inr i) = subst (In z) (sym o.back) (In-right z o.between (e.middle ++ e.back) (In-left z e.middle e.back i))

        in-end : (z : NodeName) → In z s.middle ⊎ In z o.between → In z e.front
        in-end z (inl i) = subst (In z) (sym o.front) (In-left z (s.front ++ s.middle) o.between (In-right z s.front s.middle i))
        in-end z (inr i) = subst (In z) (sym o.front) (In-right z (s.front ++ s.middle) o.between i)

        one : (z : NodeName) → In z o.between → outer z ≡ z ∷ []
        one z i =
            let among = back-kid ts once c rest parts.there r.start s z (in-start z (inl i)) in
            let own = self-in ts once z (kid-stands ts once c rest parts.there z among) in
            outer-one ts r is z (kid-around z among)
            (ap (λ t. t && is_before ts (at z (length_of ts z)) r.end) ((in-back ts once c parts.there r.start s z z (in-start z (inl i)) own).after 0) ∙
            (in-front ts once c parts.there r.end e z z (in-end z (inr i)) own).before (length_of ts z)) (kid-clear z among)

        kids : flat_map outer (children_of ts c) ≡ wholes (side_items ts r.start true start_path) ++ (o.between ++ wholes (side_items ts r.end false end_path))
        kids =
            ap (flat_map outer) (s.kids ∙ ap (λ xs. s.front ++ (s.middle ++ xs)) o.back)
            ∙ flat_map-append outer s.front (s.middle ++ (o.between ++ (e.middle ++ e.back)))
            ∙ ap (λ xs. xs ++ flat_map outer (s.middle ++ (o.between ++ (e.middle ++ e.back)))) (flat-none outer s.front
            (λ z i. outer-none ts r is z (λ x j. not-start ts r x ((in-front ts once c parts.there r.start s z x i j).apart 0))))
            ∙ flat_map-append outer s.middle (o.between ++ (e.middle ++ e.back))
            ∙ ap (λ xs. xs ++ flat_map outer (o.between ++ (e.middle ++ e.back)))
            (middle-wholes r.start true start_path (start_course ts r is c rest start_path end_path parts) (parts.start, is.start)
            (λ y i. start-side ts r is y (kid-around y (middle-kid ts once c rest parts.there r.start s y i))
            (λ z j. in-front ts once c parts.there r.end e y z (in-end y (inl i)) j)))
            ∙ ap (λ xs. wholes (side_items ts r.start true start_path) ++ xs) (flat_map-append outer o.between (e.middle ++ e.back)
            ∙ ap (λ xs. xs ++ flat_map outer (e.middle ++ e.back)) (flat-each outer o.between one)
            ∙ ap (λ xs. o.between ++ xs) (flat_map-append outer e.middle e.back
            ∙ ap (λ xs. xs ++ flat_map outer e.back)
            (middle-wholes r.end false end_path (end_course ts r is c rest start_path end_path parts) (parts.end, is.end)
            (λ y i. end-side ts r is y (kid-around y (back-kid ts once c rest parts.there r.start s y (in-start y (inr i))))
            (λ z j. in-back ts once c parts.there r.start s y z (in-start y (inr i)) j)))
            ∙ ap (λ xs. wholes (side_items ts r.end false end_path) ++ xs) (flat-none outer e.back
            (λ z i. outer-none ts r is z (λ x j. not-end ts r x ((in-back ts once c parts.there r.end e z x i j).apart (length_of ts x)))))
            ∙ append-nil (wholes (side_items ts r.end false end_path))))

-- ---- by keys

pub keys-append : (ps qs : List Piece) → whole_keys (ps ++ qs) ≡ whole_keys ps ++ whole_keys qs
keys-append [] qs = refl
keys-append (p ∷ ps) qs = ap (λ ks. whole_key p ++ ks) (keys-append ps qs) ∙ sym (append_assoc (whole_key p) (whole_keys ps) (whole_keys qs))

pub keys-named : (names : List NodeName) (ps : List Piece) → map (name_at names) (whole_keys ps) ≡ wholes (map (item_in names) ps)
keys-named names [] = refl
keys-named names (Whole x ∷ ps) = ap (λ xs. name_at names x ∷ xs) (keys-named names ps)
keys-named names (Cut x from to ∷ ps) = keys-named names ps
keys-named names (Clone x ∷ ps) = keys-named names ps
keys-named names (End ∷ ps) = keys-named names ps

pub keys-in : (n : ℕ) (ps : List Piece) → AllByRecursion (IsPieceIn n) ps → AllByRecursion (λ k. k < n) (whole_keys ps)
keys-in n [] h = tt
keys-in n (Whole x ∷ ps) h = (h.0, keys-in n ps h.1)
keys-in n (Cut x from to ∷ ps) h = keys-in n ps h.1
keys-in n (Clone x ∷ ps) h = keys-in n ps h.1
keys-in n (End ∷ ps) h = keys-in n ps h.1

-- the nodes that an extraction takes as they are of a range whose end does not come before its start
pub outermost-found : (f : NamedTrees) (stand : StandOnce f × StandAlone f) (points : Points) (spanned : AreSpanned f points) → HasPaths f points →
    is_before f.trees (range_at_points f.names points).end (range_at_points f.names points).start ≡ false →
    wholes (items_of (pieces_apart f.trees (range_at_points f.names points))) ≡ outermost_contained f.trees (range_at_points f.names points)
outermost-found f stand points spanned paths ordered =
    let w = paths.2 in
    outermost-wholes f.trees (range_at_points f.names points) (is-range f stand.0 stand.1 points spanned) w.top w.above
    (map (name_at f.names) paths.0) (map (name_at f.names) paths.1) (part-at f stand.0 stand.1 points spanned paths.0 paths.1 w) ordered
