-- The rest of the steps at a place of whole trees, and that the next place has the rest but for one step.
use Rattle.dom_query_commands.proofs.Cited.{ℕ, ◌<◌, length, arith, ◌≡◌, inl, inr, ◌≤◌, Bool, true, false, List, [], ◌∷◌, ◌++◌, Option, Some, refl, sym, ap}
use Rattle.dom_query_commands.proofs.Cited.{subst, ◌∙◌, append_assoc, true≢false, option_map, option_map_or, cases_Bool, or_left, or_right, or_cases, NodeName}
use Rattle.dom_query_commands.proofs.Cited.{name_eq, first_of, is_in, Trees, none, tree, Node, names_of, roots, subtree, node_in, parent_of, next_sibling}
use Rattle.dom_query_commands.proofs.Cited.{is_inclusive_ancestor, times_in, name_eq-same, name_eq-true, name_eq-turned, TreeStep, opens, closes, shown}
use Rattle.dom_query_commands.proofs.Cited.{shown_steps, name_at, Place, Once, StandOnce, StandAlone, Once-forest}
use Rattle.dom_query_commands.specs.TreeText.{NamedPlace, opening, closing, key_of, place_view, step_at, place_after}
use Rattle.dom_query_commands.proofs.Spots.{Spot, spot_of, IsSpot, IsChild, closed, spot_of-spot, spot_there, child_spot, IsSpot-child, next_spot, IsSpot-next}
use Rattle.dom_query_commands.proofs.Spots.{cases_root, above-root, after-root}
use Rattle.dom_query_commands.proofs.UniqueNames.{named, times-key}
use Rattle.dom_query_commands.proofs.SpotReads.{subtree-spot, node_in-spot, ancestors-spot, children-spot, parent-spot, next-child}
use Rattle.dom_query_commands.specs.declared.tree_text.Place.TheVariants as places

-- the name of the node of a place
abbrev pub name_of : NamedPlace → NodeName
name_of (opening x) = x
name_of (closing x) = x

-- whether a place is in the tree of a node
abbrev pub is_within : Trees → NodeName → NamedPlace → Bool
is_within ts top place = is_inclusive_ancestor ts top (name_of place)

-- the steps behind the tree of a node
pub rest_behind : Trees → NodeName → List TreeStep
rest_behind ts x = option_map_or (λ s. shown_steps s.right ++ s.after) (spot_of ts [] [] x) []

-- the steps from a place on
abbrev pub rest : Trees → NamedPlace → List TreeStep
rest ts (opening x) = shown_steps (subtree ts x) ++ rest_behind ts x
rest ts (closing x) = closes ∷ rest_behind ts x

-- and where there is no place more, those behind the tree of a node
abbrev pub rest_or : Trees → NodeName → Option NamedPlace → List TreeStep
rest_or ts top o = option_map_or (rest ts) o (rest_behind ts top)

-- the place given, if any, is in the tree of a node
abbrev pub is_within_if : Trees → NodeName → Option NamedPlace → Bool
is_within_if ts top o = option_map_or (is_within ts top) o true

-- behind a place comes the one given: its rest is one step less, and it is in the tree too
abbrev pub Follows : Trees → NodeName → NamedPlace → Option NamedPlace → Type 0
Follows ts top place next = (rest ts place ≡ step_at ts place ∷ rest_or ts top next) × (is_within_if ts top next ≡ true)

-- they are the trees right of its spot and what stands behind those
rest_behind-spot : (ts : Trees) (s : Spot) → IsSpot ts [] [] s → Once ts → rest_behind ts s.node.name ≡ shown_steps s.right ++ s.after
unfolding rest_behind
rest_behind-spot ts s at once = ap (λ o. option_map_or (λ (t : Spot). shown_steps t.right ++ t.after) o []) (spot_of-spot ts [] [] s at (once s.node.name))

-- the steps of trees are those of the first one and those of the others
steps-first : (n : Node) (c r : Trees) (after : List TreeStep) → shown_steps (tree n c none) ++ (shown_steps r ++ after) ≡ shown_steps (tree n c r) ++ after
steps-first n c r after = simp append_assoc

-- the rest where a spot opens
rest-spot : (ts : Trees) (s : Spot) → IsSpot ts [] [] s → Once ts → rest ts (opening s.node.name) ≡ shown_steps (tree s.node s.below s.right) ++ s.after
rest-spot ts s at once =
    ap (λ t. shown_steps t ++ rest_behind ts s.node.name) (subtree-spot ts s at once)
    ∙ (ap (λ ys. shown_steps (tree s.node s.below none) ++ ys) (rest_behind-spot ts s at once) ∙ steps-first s.node s.below s.right s.after)

-- a place is in a node's tree where its spot says so
within-spot : (ts : Trees) (top : NodeName) (s : Spot) → IsSpot ts [] [] s → Once ts → is_in name_eq top (s.node.name ∷ s.above) ≡ true →
    is_within ts top (opening s.node.name) ≡ true
within-spot ts top s at once h = ap (is_in name_eq top) (ancestors-spot ts s at once) ∙ h

-- the other way round
spot-within : (ts : Trees) (top : NodeName) (s : Spot) → IsSpot ts [] [] s → Once ts → is_within ts top (opening s.node.name) ≡ true →
    is_in name_eq top (s.node.name ∷ s.above) ≡ true
spot-within ts top s at once h = sym (ap (is_in name_eq top) (ancestors-spot ts s at once)) ∙ h

-- ---- behind an opening

-- behind an opening comes the first child, or else the closing
after_opening : (ts : Trees) (top : NodeName) (s : Spot) → IsSpot ts [] [] s → Once ts → is_within ts top (opening s.node.name) ≡ true →
    Follows ts top (opening s.node.name) (place_after ts top (opening s.node.name))
after_opening ts top s at once inside =
    let P : List NodeName → Type 0 = λ ys. Follows ts top (opening s.node.name) (Some (option_map_or opening (first_of ys) (closing s.node.name))) in
    subst P (sym (children-spot ts s at once)) (by s.below refl)
  where
    behind : List TreeStep
    behind = shown_steps s.right ++ s.after

    by : (b : Trees) → s.below ≡ b → Follows ts top (opening s.node.name) (Some (option_map_or opening (first_of (names_of (roots b))) (closing s.node.name)))
    by none e = (
      ap (λ t. shown_steps t ++ rest_behind ts s.node.name) (subtree-spot ts s at once ∙ ap (λ b. tree s.node b none) e)
          ∙ ap (λ n. opens (shown n) ∷ closes ∷ rest_behind ts s.node.name) (sym (node_in-spot ts s at once)),
      inside,
    )
    by (tree n c r) e =
        let at_child = IsSpot-child ts [] [] s at e in (
          ap (λ t. shown_steps t ++ rest_behind ts s.node.name) (subtree-spot ts s at once ∙ ap (λ b. tree s.node b none) e)
              ∙ (ap (λ m. opens (shown m) ∷ ((shown_steps (tree n c r) ++ closes ∷ []) ++ rest_behind ts s.node.name)) (sym (node_in-spot ts s at once))
              ∙ ap (λ ys. opens (shown (node_in ts s.node.name)) ∷ ys) (append_assoc (shown_steps (tree n c r)) (closes ∷ []) (rest_behind ts s.node.name)
              ∙ (ap (λ ys. shown_steps (tree n c r) ++ closes ∷ ys) (rest_behind-spot ts s at once)
              ∙ sym (rest-spot ts (child_spot s n c r) at_child once)))),
          within-spot ts top (child_spot s n c r) at_child once (or_right (name_eq top n.name) _ (spot-within ts top s at once inside)),
        )

-- ---- behind a closing

-- the next sibling, or else the parent
abbrev sibling_or_parent : Option NodeName → Option NodeName → Option NamedPlace
sibling_or_parent next parent = option_map_or (λ x. Some (opening x)) next (option_map closing parent)

-- Trees in which each name stands once, and a node whose tree is walked.
module _ (ts : Trees) (top : NodeName) (once : Once ts) where
  -- in a node's tree, but not that node itself
  above-within : (s : Spot) → IsSpot ts [] [] s → is_within ts top (opening s.node.name) ≡ true →
      name_eq s.node.name top ≡ false → is_in name_eq top s.above ≡ true
  above-within s at inside other = elim (or_cases (name_eq top s.node.name) (is_in name_eq top s.above) (spot-within ts top s at once inside)) [
    | inl h ↦ absurd (true≢false (sym h ∙ (name_eq-turned top s.node.name ∙ other)))
    | inr h ↦ h
  ]

  -- behind the closing of a child comes its next sibling, or else its parent closes
  after_child : (p s : Spot) → IsSpot ts [] [] p → IsSpot ts [] [] s → IsChild p s → is_in name_eq top s.above ≡ true →
      Follows ts top (closing s.node.name) (sibling_or_parent (next_sibling ts s.node.name) (parent_of ts s.node.name))
  after_child p s at_p at child inside =
      let P : Option NodeName → Type 0 = λ o. Follows ts top (closing s.node.name) (sibling_or_parent o (parent_of ts s.node.name)) in
      let Q : Option NodeName → Type 0 = λ o. Follows ts top (closing s.node.name) (sibling_or_parent (first_of (names_of (roots s.right))) o) in
      subst P (sym (next-child ts s at once p at_p child)) (subst Q (sym (parent-spot ts s at once ∙ ap first_of above)) (by s.right refl))
    where
      above : s.above ≡ p.node.name ∷ p.above
      above = above-root p.below (p.node.name ∷ p.above) (closed p.right p.after) s child

      by : (r : Trees) → s.right ≡ r → Follows ts top (closing s.node.name) (sibling_or_parent (first_of (names_of (roots r))) (Some p.node.name))
      by none e = (
        ap (λ ys. closes ∷ ys)
            (rest_behind-spot ts s at once
            ∙ (ap (λ t. shown_steps t ++ s.after) e
            ∙ (after-root p.below (p.node.name ∷ p.above) (closed p.right p.after) s child ∙ ap (λ ys. closes ∷ ys) (sym (rest_behind-spot ts p at_p once))))),
        within-spot ts top p at_p once (sym (ap (is_in name_eq top) above) ∙ inside),
      )
      by (tree n c r) e =
          let at_next = IsSpot-next ts [] [] s at e in (
            ap (λ ys. closes ∷ ys)
                (rest_behind-spot ts s at once ∙ (ap (λ t. shown_steps t ++ s.after) e ∙ sym (rest-spot ts (next_spot s n c r) at_next once))),
            within-spot ts top (next_spot s n c r) at_next once (or_right (name_eq top n.name) _ inside),
          )

  -- behind a closing comes what `place_after` says
  after_closing : (s : Spot) → IsSpot ts [] [] s → is_within ts top (closing s.node.name) ≡ true →
      Follows ts top (closing s.node.name) (place_after ts top (closing s.node.name))
  after_closing s at inside = elim (cases_Bool (name_eq s.node.name top)) [
    | inl e ↦ rw e (ap (λ x. closes ∷ rest_behind ts x) (name_eq-true s.node.name top e), refl)
    | inr e ↦
        let there = above-within s at inside e in
        rw e (elim (cases_root ts [] [] s at) [
          | inl h ↦ absurd (true≢false (sym there ∙ ap (is_in name_eq top) (above-root ts [] [] s h)))
          | inr h ↦ after_child h.0 s h.1 at h.2 there
        ])
  ]

-- ---- the law

-- behind each place comes what `place_after` says
next_place : (ts : Trees) (top : NodeName) (place : NamedPlace) → Once ts → 1 ≤ times_in ts (name_of place) → is_within ts top place ≡ true →
    Follows ts top place (place_after ts top place)
next_place ts top (opening x) once here inside =
    let s = spot_there ts [] [] x here in
    let P : NodeName → Type 0 = λ y. is_within ts top (opening y) ≡ true → Follows ts top (opening y) (place_after ts top (opening y)) in
    subst P s.2 (after_opening ts top s.0 s.1 once) inside
next_place ts top (closing x) once here inside =
    let s = spot_there ts [] [] x here in
    let P : NodeName → Type 0 = λ y. is_within ts top (closing y) ≡ true → Follows ts top (closing y) (place_after ts top (closing y)) in
    subst P s.2 (after_closing ts top once s.0 s.1) inside

-- the name of the node of a place stands where that of its key does
here_named : (names : List NodeName) (ts : Trees) (place : Place) → 1 ≤ times_in ts (name_at names (key_of place)) →
    1 ≤ times_in ts (name_of (place_view names place))
here_named names ts (places.Opening key) here = here
here_named names ts (places.Closing key) here = here

-- the tree of a node has its opening
pub within_self : (names : List NodeName) (ts : Trees) (top : ℕ) → StandOnce (named names ts) → StandAlone (named names ts) → top < length names →
    is_within ts (name_at names top) (opening (name_at names top)) ≡ true
within_self names ts top once keys inside =
    let unique = Once-forest (named names ts) once keys in
    let one = times-key names ts once top inside in
    let s = spot_there ts [] [] (name_at names top) (omega arith) in
    let P : NodeName → Type 0 = λ y. is_within ts y (opening y) ≡ true in
    subst P s.2 (within-spot ts s.0.node.name s.0 s.1 unique (or_left (name_eq s.0.node.name s.0.node.name) _ (name_eq-same s.0.node.name)))

-- A place in trees by their names, and the next one.
module _ (names : List NodeName) (ts : Trees) (top : NodeName) (at : Place) (place next : Option Place) (step : TreeStep) (once : StandOnce (named names ts))
    (keys : StandAlone (named names ts)) where
  -- a turn of the walk: the rest is one step less, and the next place is in the tree
  pub turn : key_of at < length names → place ≡ Some at → is_within_if ts top (option_map (place_view names) place) ≡ true →
      option_map (place_view names) next ≡ place_after ts top (place_view names at) → step ≡ step_at ts (place_view names at) →
      (rest_or ts top (option_map (place_view names) place) ≡ step ∷ rest_or ts top (option_map (place_view names) next))
      × (is_within_if ts top (option_map (place_view names) next) ≡ true)
  turn inside at_place within follows is =
      let there = ap (option_map (place_view names)) at_place in
      let one = times-key names ts once (key_of at) inside in
      let law = next_place ts top (place_view names at) (Once-forest (named names ts) once keys) (here_named names ts at (omega arith))
      (sym (ap (is_within_if ts top) there) ∙ within) in (
        ap (rest_or ts top) there ∙ (law.0 ∙
            (ap (λ o. step_at ts (place_view names at) ∷ rest_or ts top o) (sym follows) ∙
            ap (λ first. first ∷ rest_or ts top (option_map (place_view names) next)) (sym is))),
        ap (is_within_if ts top) follows ∙ law.1,
      )
