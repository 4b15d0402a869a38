-- The siblings among which a walker chooses, within the tree of their stop.
use Rattle.dom_traversal.proofs.Cited.{◌≡◌, ◌⊎◌, inl, inr, Bool, true, false, not, ◌&&◌, ◌||◌, List, [], ◌∷◌, ◌++◌, Some, refl, sym, ap, subst, ◌∙◌}
use Rattle.dom_traversal.proofs.Cited.{append_assoc, drop, filter, find, unwrap_or, list_all, cases_Bool, and_left, and_right, or_right, or_parts, both_ways}
use Rattle.dom_traversal.proofs.Cited.{append-nil, filter-append, above-absent, above-along, above-proper, accepts, after-in, ahead-apart, ahead_of, all_single}
use Rattle.dom_traversal.proofs.Cited.{ancestors, before-in, behind, behind_is, below, below-from_above, between, beyond, filter-none, filter-same, Has}
use Rattle.dom_traversal.proofs.Cited.{Has-above, has_or_not, here, In, In-from, In-left, In-names, In-parts, In-right, inclusive_ancestors}
use Rattle.dom_traversal.proofs.Cited.{inclusive_descendants, inside-test, is_in, is_in-from, is_in-not, is_inclusive_ancestor, IsWithin, items_after}
use Rattle.dom_traversal.proofs.Cited.{items_before, name_eq, name_eq-from, name_eq-other, NodeName, not_before, ordered, outside-test, same_or_not}
use Rattle.dom_traversal.proofs.Cited.{sibling_top, Single, Single-apart, Single-right, split_is, splits, stands_in, subtree, Trees, Walker, walker_siblings}
use Rattle.dom_traversal.proofs.Cited.{within-member, within-top, is_candidate, is_opened, is_reached, is_stop}
use Rattle.dom_traversal.proofs.Opening.{not_around, not_above_itself}
use Rattle.dom_traversal.proofs.Stops.{IsBelow, within-below, below-stop}
use Rattle.dom_traversal.proofs.Candidates.{proper-split, opened-between, below-member}

-- the places around a node in the tree of top, by those in the tree of a node between
pub nested : {ts : Trees} {top a x : NodeName} → IsWithin ts top a → IsWithin ts a x → IsWithin ts top x →
    (ahead_of ts top x ≡ ahead_of ts top a ++ ahead_of ts a x) × (beyond ts top x ≡ beyond ts a x ++ beyond ts top a)
nested {ts} {top} {a} {x} at_a in_a at_x =
    let tree = inclusive_descendants ts x in
    let whole : inclusive_descendants ts top ≡ (ahead_of ts top a ++ ahead_of ts a x) ++ (tree ++ (beyond ts a x ++ beyond ts top a)) =
    splits ts top a at_a
    ∙ (ap (λ xs. ahead_of ts top a ++ (xs ++ beyond ts top a)) (splits ts a x in_a)
    ∙ (ap (λ xs. ahead_of ts top a ++ xs)
    (append_assoc (ahead_of ts a x) (tree ++ beyond ts a x) (beyond ts top a) ∙
    ap (λ xs. ahead_of ts a x ++ xs) (append_assoc tree (beyond ts a x) (beyond ts top a)))
    ∙ sym (append_assoc (ahead_of ts top a) (ahead_of ts a x) (tree ++ (beyond ts a x ++ beyond ts top a))))) in
    let is = split_is ts top x at_x (ahead_of ts top a ++ ahead_of ts a x) (beyond ts a x ++ beyond ts top a) whole in
    (is.0, is.2)

-- a node that is not in the tree of a is not below a
off-below : (ts : Trees) (a y : NodeName) → IsWithin ts a a → (In y (inclusive_descendants ts a) → ⊥) → is_in name_eq a (ancestors ts y) ≡ false
off-below ts a y w off = is_in-not a (ancestors ts y) (λ i. by (has_or_not ts y) i)
  where
    by : Has ts y ⊎ (Has ts y → ⊥) → In a (ancestors ts y) → ⊥
    by (inl h) i = off (In-names (subtree ts a) y (below-from_above ts a y w.once h (subst (In a) (sym (above-proper ts y h)) (inr i))))
    by (inr away) i = subst (λ xs. In a (drop 1 xs)) (above-absent ts y away) i

-- what is tested of a sibling
abbrev pub is_sibling : Trees → Walker → NodeName → Bool
is_sibling ts w y =
    let top = sibling_top ts w in
    accepts ts w.filter y && (not (is_inclusive_ancestor ts y w.current || is_inclusive_ancestor ts w.current y) &&
    (is_in name_eq top (ancestors ts y) && list_all (is_opened ts w) (between ts top y)))

-- a node that is not below the stop is no sibling
sibling-off : (ts : Trees) (w : Walker) (y : NodeName) → is_in name_eq (sibling_top ts w) (ancestors ts y) ≡ false → is_sibling ts w y ≡ false
sibling-off ts w y e = and_right (accepts ts w.filter y) _
    (and_right (not (is_inclusive_ancestor ts y w.current || is_inclusive_ancestor ts w.current y)) _
    (and_left (is_in name_eq (sibling_top ts w) (ancestors ts y)) _ e))

-- nor is one below the current node
sibling-inside : (ts : Trees) (w : Walker) (y : NodeName) → is_inclusive_ancestor ts w.current y ≡ true → is_sibling ts w y ≡ false
sibling-inside ts w y e =
    and_right (accepts ts w.filter y) _ (and_left (not (is_inclusive_ancestor ts y w.current || is_inclusive_ancestor ts w.current y)) _
    (ap not (or_right (is_inclusive_ancestor ts y w.current) _ e)))

-- any other one is a sibling if it is reached
sibling-reached : {ts : Trees} {y : NodeName} (w : Walker) → IsBelow ts (sibling_top ts w) y → IsBelow ts (sibling_top ts w) w.current →
    is_inclusive_ancestor ts y w.current ≡ false → is_inclusive_ancestor ts w.current y ≡ false → is_sibling ts w y ≡ is_reached ts w y
sibling-reached {ts} {y} w b c up down =
    let top = sibling_top ts w in
    let all = opened-between ts w top y b
    (λ d i. above-along ts d top w.current c.once c.stands i (subst (In top) (sym (above-proper ts w.current c.stands)) (inr c.above))) in
    ap (λ t. accepts ts w.filter y && (not (t || is_inclusive_ancestor ts w.current y) &&
    (is_in name_eq top (ancestors ts y) && list_all (is_opened ts w) (between ts top y)))) up
    ∙ (ap (λ t. accepts ts w.filter y && (not t && (is_in name_eq top (ancestors ts y) && list_all (is_opened ts w) (between ts top y)))) down
    ∙ (ap (λ t. accepts ts w.filter y && (t && list_all (is_opened ts w) (between ts top y))) (is_in-from top (ancestors ts y) b.above)
    ∙ ap (λ t. accepts ts w.filter y && t) (sym all)))

-- of two nodes one is behind the other
not_both_behind : (x y : NodeName) (xs : List NodeName) → Single xs → In y (items_after name_eq x xs) → In x (items_after name_eq y xs) → ⊥
not_both_behind x y [] s i j = i
not_both_behind x y (z ∷ zs) s i j = elim (same_or_not x z) [
  | inl e ↦ elim (same_or_not y z) [
    | inl same ↦ s.0 (subst (λ v. In v zs) same (rw (name_eq-from x z e) at i))
    | inr other ↦ s.0 (subst (λ v. In v zs) e (after-in y x zs (rw (name_eq-other y z other) at j)))
  ]
  | inr apart ↦ elim (same_or_not y z) [
    | inl same ↦ s.0 (subst (λ v. In v zs) same (after-in x y zs (rw (name_eq-other x z apart) at i)))
    | inr other ↦ not_both_behind x y zs s.1 (rw (name_eq-other x z apart) at i) (rw (name_eq-other y z other) at j)
  ]
]

-- a node behind x does not stand above x
pub behind-outside : (ts : Trees) (top x y : NodeName) → IsWithin ts top x → In y (behind ts top x) → is_inclusive_ancestor ts y x ≡ false
behind-outside ts top x y w i =
    let inside = within-member ts top x y w (after-in x y (inclusive_descendants ts top) i) in
    outside-test ts y x w.once (λ j. elim (subst (In x) (here ts top y inside) j) [
      | inl same ↦ (Single-right (ahead_of ts top x) (x ∷ behind ts top x) (subst Single (ordered ts top x w) (all_single ts top x w))).0
          (subst (λ z. In z (behind ts top x)) (sym same) i)
      | inr k ↦
          not_both_behind x y (inclusive_descendants ts top) (all_single ts top x w) i
          (subst (In x) (sym (behind_is ts top y inside)) (In-left x (below ts y) (beyond ts top y) k))
    ])

-- a node of the tree of a other than a stands below a
below-other : (ts : Trees) (a y : NodeName) → IsWithin ts a a → In y (inclusive_descendants ts a) → (y ≡ a → ⊥) → IsBelow ts a y
below-other ts a y w i other = below-member ts a y w (elim (subst (In y) (here ts a a w) i) [ inl same ↦ absurd (other same) | inr j ↦ j ])

-- what stands before the first member that passes a test does not pass it
found-first : (p : NodeName → Bool) (xs : List NodeName) (d y : NodeName) → In y (items_before name_eq (unwrap_or (find p xs) d) xs) → p y ≡ false
found-first p [] d y i = absurd i
found-first p (x ∷ xs) d y i = elim (cases_Bool (p x)) [
  | inl e ↦
      let first : find p (x ∷ xs) ≡ Some x = rw e refl in
      absurd (subst (In y) (ap (λ o. items_before name_eq (unwrap_or o d) (x ∷ xs)) first ∙ nothing_before x xs) i)
  | inr e ↦
      let later : find p (x ∷ xs) ≡ find p xs = rw e refl in
      by e (same_or_not (unwrap_or (find p xs) d) x) (subst (λ o. In y (items_before name_eq (unwrap_or o d) (x ∷ xs))) later i) (found-first p xs d y)
]
  where
    nothing_before : (z : NodeName) (zs : List NodeName) → items_before name_eq z (z ∷ zs) ≡ []
    nothing_before z zs = rw (name_eq-from z z refl) refl

    by : p x ≡ false → (unwrap_or (find p xs) d ≡ x) ⊎ (unwrap_or (find p xs) d ≡ x → ⊥) →
        In y (items_before name_eq (unwrap_or (find p xs) d) (x ∷ xs)) →
        (In y (items_before name_eq (unwrap_or (find p xs) d) xs) → p y ≡ false) → p y ≡ false
    by e (inl same) j more = absurd (rw (name_eq-from (unwrap_or (find p xs) d) x same) at j)
    by e (inr other) j more = elim (rw (name_eq-other (unwrap_or (find p xs) d) x other) at j) [ inl is ↦ ap p is ∙ e | inr k ↦ more k ]

-- below the stop no node above the current one is accepted
pub before-stop : (ts : Trees) (w : Walker) (y : NodeName) → In y (between ts (sibling_top ts w) w.current) → is_stop ts w.filter w.root y ≡ false
before-stop ts w y i = found-first (is_stop ts w.filter w.root) (ancestors ts w.current) w.root y i

-- the stop stands in the tree of the root
pub stop-within : (ts : Trees) (w : Walker) → IsBelow ts w.root w.current → IsWithin ts w.root (sibling_top ts w)
stop-within ts w b =
    let stop = sibling_top ts w in
    let t = below-stop ts w.filter w.root w.current b in
    let at_stop : Has ts stop = Has-above ts stop w.current b.once b.stands (subst (In stop) (sym (above-proper ts w.current b.stands)) (inr t.above)) in
    let at_root : Has ts w.root = Has-above ts w.root w.current b.once b.stands (subst (In w.root) (sym (above-proper ts w.current b.stands)) (inr b.above)) in
    elim (In-parts w.root (between ts stop w.current) (inclusive_ancestors ts stop) (subst (In w.root) (proper-split ts stop w.current t) b.above)) [
      | inl i ↦ absurd (both_ways _ (or_parts (accepts ts w.filter w.root) _ (before-stop ts w w.root i)).1 (name_eq-from w.root w.root refl))
      | inr i ↦ record { once = b.once; top_stands = at_root; stands = below-from_above ts w.root stop b.once at_stop i }
    ]

module _ (ts : Trees) (w : Walker) (b : IsBelow ts w.root w.current) where
  -- the current node stands below its stop
  top_below : IsBelow ts (sibling_top ts w) w.current
  top_below = below-stop ts w.filter w.root w.current b

  -- and in its tree
  in_top : IsWithin ts (sibling_top ts w) w.current
  in_top = within-below ts (sibling_top ts w) w.current top_below

  -- the stop stands in its own tree
  itself : IsWithin ts (sibling_top ts w) (sibling_top ts w)
  itself = within-top ts (sibling_top ts w) w.current in_top

  -- the current node stands in the root's tree
  in_root : IsWithin ts w.root w.current
  in_root = within-below ts w.root w.current b

  -- the stop stands in the tree of the root, where it is a member of a list of accepted or top nodes above the current one
  root-stop : (ahead_of ts w.root w.current ≡ ahead_of ts w.root (sibling_top ts w) ++ ahead_of ts (sibling_top ts w) w.current)
      × (beyond ts w.root w.current ≡ beyond ts (sibling_top ts w) w.current ++ beyond ts w.root (sibling_top ts w))
  root-stop = nested (stop-within ts w b) in_top in_root

  -- among the nodes behind the current one
  pub siblings-behind : walker_siblings ts w (behind ts w.root w.current) ≡ filter (is_reached ts w) (beyond ts (sibling_top ts w) w.current)
  siblings-behind =
      let at = stop-within ts w b in
      let stop = sibling_top ts w in
      let tree = inclusive_descendants ts w.current in
      let parts = splits ts stop w.current in_top in
      let single : Single (ahead_of ts stop w.current ++ (tree ++ beyond ts stop w.current)) = subst Single parts (all_single ts stop w.current in_top) in
      let whole : behind ts w.root w.current ≡ below ts w.current ++ (beyond ts stop w.current ++ beyond ts w.root stop) =
      behind_is ts w.root w.current in_root ∙ ap (λ xs. below ts w.current ++ xs) root-stop.1 in
      ap (filter (is_sibling ts w)) whole
      ∙ (filter-append (is_sibling ts w) (below ts w.current) (beyond ts stop w.current ++ beyond ts w.root stop)
      ∙ (ap (λ xs. xs ++ filter (is_sibling ts w) (beyond ts stop w.current ++ beyond ts w.root stop))
      (filter-none (is_sibling ts w) (below ts w.current)
      (λ y i. sibling-inside ts w y (inside-test ts w.current y b.once b.stands (subst (In y) (sym (here ts stop w.current in_top)) (inr i)))))
      ∙ (filter-append (is_sibling ts w) (beyond ts stop w.current) (beyond ts w.root stop)
      ∙ (ap (λ xs. filter (is_sibling ts w) (beyond ts stop w.current) ++ xs)
      (filter-none (is_sibling ts w) (beyond ts w.root stop) (λ y i. sibling-off ts w y (off-below ts stop y itself
      (λ j. Single-apart y (inclusive_descendants ts stop) (beyond ts w.root stop)
      (Single-right (ahead_of ts w.root stop) (inclusive_descendants ts stop ++ beyond ts w.root stop)
      (subst Single (splits ts w.root stop at) (all_single ts w.root stop at))) j i))))
      ∙ (append-nil (filter (is_sibling ts w) (beyond ts stop w.current))
      ∙ filter-same (is_sibling ts w) (is_reached ts w) (beyond ts stop w.current) (λ y i.
      let among : In y (inclusive_descendants ts stop) =
      subst (In y) (sym parts) (In-right y (ahead_of ts stop w.current) (tree ++ beyond ts stop w.current)
      (In-right y tree (beyond ts stop w.current) i)) in
      let later : In y (behind ts stop w.current) =
      subst (In y) (sym (behind_is ts stop w.current in_top)) (In-right y (below ts w.current) (beyond ts stop w.current) i) in
      let other : y ≡ stop → ⊥ = λ same. both_ways _ (behind-outside ts stop w.current y in_top later)
      (ap (λ z. is_inclusive_ancestor ts z w.current) same ∙ is_in-from stop (inclusive_ancestors ts w.current)
      (subst (In stop) (sym (above-proper ts w.current b.stands)) (inr top_below.above))) in
      sibling-reached w (below-other ts stop y itself among other) top_below (behind-outside ts stop w.current y in_top later)
      (outside-test ts w.current y b.once
      (λ j. Single-apart y tree (beyond ts stop w.current)
      (Single-right (ahead_of ts stop w.current) (tree ++ beyond ts stop w.current) single) j i))))))))

  -- a node above the current one and below the stop is not accepted
  above-unaccepted : (y : NodeName) → IsBelow ts (sibling_top ts w) y → (y ≡ w.current → ⊥) → In y (inclusive_ancestors ts w.current) →
      accepts ts w.filter y ≡ false
  above-unaccepted y below_y other i =
      let proper : In y (ancestors ts w.current) = elim (subst (In y) (above-proper ts w.current b.stands) i) [ inl same ↦ absurd (other same) | inr j ↦ j ] in
      elim (In-parts y (between ts (sibling_top ts w) w.current) (inclusive_ancestors ts (sibling_top ts w))
      (subst (In y) (proper-split ts (sibling_top ts w) w.current top_below) proper)) [
        | inl j ↦ (or_parts (accepts ts w.filter y) _ (before-stop ts w y j)).0
        | inr j ↦ absurd (not_around ts y below_y.once below_y.stands (sibling_top ts w) below_y.above j)
      ]

  -- before the current node the siblings are the candidates
  sibling-candidate : (y : NodeName) → In y (ahead_of ts (sibling_top ts w) w.current) → is_sibling ts w y ≡ is_candidate ts w (sibling_top ts w) y
  sibling-candidate y i = by (same_or_not y (sibling_top ts w))
    where
      among : In y (inclusive_descendants ts (sibling_top ts w))
      among = before-in w.current y (inclusive_descendants ts (sibling_top ts w)) i

      other : y ≡ w.current → ⊥
      other same = not_before w.current (inclusive_descendants ts (sibling_top ts w)) (subst (λ z. In z (ahead_of ts (sibling_top ts w) w.current)) same i)

      down : is_inclusive_ancestor ts w.current y ≡ false
      down = outside-test ts w.current y b.once (ahead-apart y in_top i)

      apart : IsBelow ts (sibling_top ts w) y → (y ≡ sibling_top ts w → ⊥) → (is_inclusive_ancestor ts y w.current ≡ true) ⊎
          (is_inclusive_ancestor ts y w.current ≡ false) → is_sibling ts w y ≡ is_candidate ts w (sibling_top ts w) y
      apart below_y not_stop (inl up) =
          let no_y = above-unaccepted y below_y other (In-from y (inclusive_ancestors ts w.current) up) in
          and_left (accepts ts w.filter y) _ no_y ∙ sym (and_left (is_reached ts w y) _ (and_left (accepts ts w.filter y) _ no_y))
      apart below_y not_stop (inr up) =
          sibling-reached w below_y top_below up down ∙
          sym (ap (λ t. is_reached ts w y && not t) (name_eq-other y (sibling_top ts w) not_stop) ∙ and_true (is_reached ts w y))
        where
          and_true : (t : Bool) → (t && true) ≡ t
          and_true true = refl
          and_true false = refl

      by : (y ≡ sibling_top ts w) ⊎ (y ≡ sibling_top ts w → ⊥) → is_sibling ts w y ≡ is_candidate ts w (sibling_top ts w) y
      by (inl same) =
          sibling-off ts w y (is_in-not (sibling_top ts w) (ancestors ts y)
          (λ j. not_above_itself ts (sibling_top ts w) b.once (stands_in ts (sibling_top ts w) (sibling_top ts w) itself)
          (subst (λ z. In (sibling_top ts w) (ancestors ts z)) same j)))
          ∙ sym (and_right (is_reached ts w y) _ (ap not (name_eq-from y (sibling_top ts w) same)))
      by (inr not_stop) = apart (below-other ts (sibling_top ts w) y itself among not_stop) not_stop (cases_Bool (is_inclusive_ancestor ts y w.current))

  -- among the nodes before the current one
  pub siblings-ahead : walker_siblings ts w (ahead_of ts w.root w.current) ≡ filter (is_candidate ts w (sibling_top ts w))
      (ahead_of ts (sibling_top ts w) w.current)
  siblings-ahead =
      let stop = sibling_top ts w in
      let at = stop-within ts w b in
      ap (filter (is_sibling ts w)) root-stop.0
      ∙ (filter-append (is_sibling ts w) (ahead_of ts w.root stop) (ahead_of ts stop w.current)
      ∙ (ap (λ xs. xs ++ filter (is_sibling ts w) (ahead_of ts stop w.current))
      (filter-none (is_sibling ts w) (ahead_of ts w.root stop)
      (λ y i. sibling-off ts w y (off-below ts stop y itself (ahead-apart y at i))))
      ∙ filter-same (is_sibling ts w) (is_candidate ts w stop) (ahead_of ts stop w.current) sibling-candidate))
