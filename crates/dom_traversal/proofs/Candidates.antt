-- The children and the siblings among which a walker chooses are the nodes that are reached through opened nodes alone.
use Rattle.dom_traversal.proofs.Cited.{◌≡◌, inl, inr, Bool, true, false, ◌&&◌, ◌||◌, List, [], ◌∷◌, ◌++◌, refl, sym, ap, subst, ◌∙◌, filter, drop, list_all}
use Rattle.dom_traversal.proofs.Cited.{above-below, above-beside, above-from_below, above-here, above-proper, above-split, accepts, all_single, ancestors}
use Rattle.dom_traversal.proofs.Cited.{below, between, filter-same, Has, Has-above, here, In, inclusive_ancestors, is_in-not, is_inclusive_ancestor, IsWithin}
use Rattle.dom_traversal.proofs.Cited.{items_before, name_eq, name_eq-other, NodeName, none, Once, once_apart, Single, Single-apart, Single-append, skips}
use Rattle.dom_traversal.proofs.Cited.{stands_in, tree, Trees, Walker, walker_children, within-member, is_opened, is_reached}
use Rattle.dom_traversal.proofs.Opening.{all-from}
use Rattle.dom_traversal.proofs.Stops.{IsBelow, other-below}
use Rattle.dom_traversal.proofs.Reaching.{opened-above}

-- what stands above a node below a: first the nodes between, then a with all above it
pub proper-split : (ts : Trees) (a y : NodeName) → IsBelow ts a y → ancestors ts y ≡ between ts a y ++ inclusive_ancestors ts a
proper-split ts a y b =
    let proper = above-proper ts y b.stands in
    let whole = above-split ts a y b.once b.stands (subst (In a) (sym proper) (inr b.above)) in
    ap (drop 1) (sym proper ∙ (whole ∙ ap (λ xs. xs ++ inclusive_ancestors ts a) (ap (items_before name_eq a) proper ∙ step)))
  where
    step : items_before name_eq a (y ∷ ancestors ts y) ≡ y ∷ between ts a y
    step = rw (name_eq-other a y (λ same. other-below ts a y b (sym same))) refl

-- where all from a node upwards stands above the current node, opened nodes are opened ones between
pub opened-between : (ts : Trees) (w : Walker) (a y : NodeName) → IsBelow ts a y →
    ((b : NodeName) → In b (inclusive_ancestors ts a) → In b (inclusive_ancestors ts w.current))
    → list_all (is_opened ts w) (ancestors ts y) ≡ list_all (is_opened ts w) (between ts a y)
opened-between ts w a y b above = ap (list_all (is_opened ts w)) (proper-split ts a y b) ∙ cut (between ts a y)
  where
    cut : (xs : List NodeName) → list_all (is_opened ts w) (xs ++ inclusive_ancestors ts a) ≡ list_all (is_opened ts w) xs
    cut [] = all-from (is_opened ts w) (inclusive_ancestors ts a) (λ c i. opened-above ts w c (above c i))
    cut (x ∷ xs) = ap (λ t. is_opened ts w x && t) (cut xs)

-- a node in the tree of a is a or stands below it
pub below-member : (ts : Trees) (a y : NodeName) → IsWithin ts a a → In y (below ts a) → IsBelow ts a y
below-member ts a y w i =
    let inside = within-member ts a a y w (subst (In y) (sym (here ts a a w)) (inr i)) in
    let at = stands_in ts a y inside in
    let up = above-from_below ts a y w.once w.top_stands inside.stands in
    let apart : a ≡ y → ⊥ = λ same. (subst Single (here ts a a w) (all_single ts a a w)).0 (subst (λ z. In z (below ts a)) (sym same) i) in
    record { once = w.once; stands = at; above = elim (subst (In a) (above-proper ts y at) up) [ inl same ↦ absurd (apart same) | inr j ↦ j ] }

-- above a node no node stands twice
Single-above : (ts : Trees) (x : NodeName) → Once ts → Has ts x → Single (inclusive_ancestors ts x)
Single-above none x once h = absurd h
Single-above (tree n c r) x once (inl e) = subst Single (sym (above-here n c r x e)) (λ i. i, tt)
Single-above (tree n c r) x once (inr (inl h)) =
    subst Single (sym (above-below n c r x once h))
    (Single-append (inclusive_ancestors c x) (n.name ∷ []) (Single-above c x (once_apart n c r once).3 h) (λ i. i, tt)
    (λ y i j. (once_apart n c r once).0 (subst (Has c) (elim j [ inl same ↦ same | inr k ↦ absurd k ]) (Has-above c y x (once_apart n c r once).3 h i))))
Single-above (tree n c r) x once (inr (inr h)) = subst Single (sym (above-beside n c r x once h)) (Single-above r x (once_apart n c r once).4 h)

-- nor above it alone
pub Single-proper : (ts : Trees) (x : NodeName) → Once ts → Has ts x → Single (ancestors ts x)
Single-proper ts x once h = (subst Single (above-proper ts x h) (Single-above ts x once h)).1

-- ---- children

-- tests that agree at each member agree on the list
list_all-same : (p q : NodeName → Bool) (xs : List NodeName) → ((a : NodeName) → In a xs → p a ≡ q a) → list_all p xs ≡ list_all q xs
list_all-same p q [] h = refl
list_all-same p q (x ∷ xs) h =
    let first = h x (inl refl) in
    let rest = list_all-same p q xs (λ a i. h a (inr i)) in
    ap (λ b. b && list_all p xs) first ∙ ap (λ b. q x && b) rest

-- what stands between a and y is below a
between-below : {ts : Trees} {a y : NodeName} (c : NodeName) → IsBelow ts a y → In c (between ts a y) → In c (inclusive_ancestors ts a) → ⊥
between-below {ts} {a} {y} c b i j =
    Single-apart c (between ts a y) (inclusive_ancestors ts a) (subst Single (proper-split ts a y b) (Single-proper ts y b.once b.stands)) i j

-- between the current node and one below it, opened is skipped
skips-opened : (ts : Trees) (w : Walker) (y c : NodeName) → IsBelow ts w.current y → In c (between ts w.current y) → skips ts w.filter c ≡ is_opened ts w c
skips-opened ts w y c b i = by (skips ts w.filter c) (is_in-not c (inclusive_ancestors ts w.current) (between-below c b i))
  where
    by : (s : Bool) → is_inclusive_ancestor ts c w.current ≡ false → s ≡ (s || is_inclusive_ancestor ts c w.current)
    by true e = refl
    by false e = sym e

-- the children are the nodes that are reached below the current one
pub children-reached : (ts : Trees) (w : Walker) → IsWithin ts w.current w.current → walker_children ts w ≡ filter (is_reached ts w) (below ts w.current)
children-reached ts w at =
    ap (filter _) (ap (drop 1) (here ts w.current w.current at))
    ∙ filter-same _ (is_reached ts w) (below ts w.current) (λ y i.
    let b = below-member ts w.current y at i in
    ap (λ t. accepts ts w.filter y && t)
    (list_all-same (skips ts w.filter) (is_opened ts w) (between ts w.current y) (λ c j. skips-opened ts w y c b j) ∙
    sym (opened-between ts w w.current y b (λ c j. j))))
