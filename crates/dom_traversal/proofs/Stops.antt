-- The nearest node above a node that the filter accepts or that is the top, and the nodes of its tree around that node.
use Rattle.dom_traversal.proofs.Cited.{◌≡◌, inl, inr, Bool, true, false, List, [], ◌∷◌, ◌++◌, Option, Some, None, refl, sym, ap, subst, ◌∙◌, true≢false, find}
use Rattle.dom_traversal.proofs.Cited.{unwrap_or, cases_Bool, or_right, or_from, or_parts, above-proper, accepts, ahead_of, ancestors, below-from_above, beyond}
use Rattle.dom_traversal.proofs.Cited.{children_of, Filter, first_of, Has, Has-above, here, In, inclusive_ancestors, inclusive_descendants, IsWithin, name_eq}
use Rattle.dom_traversal.proofs.Cited.{name_eq-from, name_eq-other, next_places, next_sibling, no_first, no_next, no_previous, NodeName, Once, parent-of_child}
use Rattle.dom_traversal.proofs.Cited.{parent_of, previous_places, previous_sibling, proper-parent, stands_in, top_places, Trees, within-top, is_stop}
use Rattle.dom_traversal.proofs.Cited.{stop_above}
use Rattle.dom_traversal.proofs.Opening.{not_above_itself}

-- x stands below top
pub record IsBelow (ts : Trees) (top x : NodeName) : Type 0 where
  pub once : Once ts
  pub stands : Has ts x
  pub above : In top (ancestors ts x)

-- it stands in its tree
pub within-below : (ts : Trees) (top x : NodeName) → IsBelow ts top x → IsWithin ts top x
within-below ts top x b =
    let i : In top (inclusive_ancestors ts x) = subst (In top) (sym (above-proper ts x b.stands)) (inr b.above) in
    record { once = b.once; top_stands = Has-above ts top x b.once b.stands i; stands = below-from_above ts top x b.once b.stands i }

-- and is another node
pub other-below : (ts : Trees) (top x : NodeName) → IsBelow ts top x → x ≡ top → ⊥
other-below ts top x b same = not_above_itself ts x b.once b.stands (subst (λ (y : NodeName). In y (ancestors ts x)) (sym same) b.above)

-- it has a parent
pub root-below : (ts : Trees) (top x : NodeName) → IsBelow ts top x → parent_of ts x ≡ None → ⊥
root-below ts top x b e = subst (In top) (no_first (ancestors ts x) e) b.above

module _ (ts : Trees) (f : Filter) (top x p : NodeName) (b : IsBelow ts top x) (up : parent_of ts x ≡ Some p) where
  -- above x stands first its parent
  pub path_up : ancestors ts x ≡ p ∷ ancestors ts p
  path_up = (proper-parent ts x p b.once b.stands up).0

  -- the stop is the parent, or that above the parent
  pub stop-here : is_stop ts f top p ≡ true → stop_above ts f top x ≡ p
  stop-here e = ap (λ path. unwrap_or (find (is_stop ts f top) path) top) path_up ∙ rw e refl

  -- the stop above the parent
  pub stop-above : is_stop ts f top p ≡ false → stop_above ts f top x ≡ stop_above ts f top p
  stop-above e = ap (λ path. unwrap_or (find (is_stop ts f top) path) top) path_up ∙ rw e refl

  -- which stands below top then
  pub below-up : is_stop ts f top p ≡ false → IsBelow ts top p
  below-up e = record {
    once = b.once;
    stands = (proper-parent ts x p b.once b.stands up).1;
    above = elim (subst (In top) path_up b.above) [
      | inl same ↦ absurd (true≢false (sym (name_eq-from p top (sym same)) ∙ (or_parts (accepts ts f p) (name_eq p top) e).1))
      | inr i ↦ i
    ];
  }

-- a member of a list that passes a test is found, or one before it
found-within : (p : NodeName → Bool) (xs : List NodeName) (d a : NodeName) → In a xs → p a ≡ true → In (unwrap_or (find p xs) d) xs
found-within p [] d a i yes_a = absurd i
found-within p (x ∷ xs) d a i yes_a = elim (cases_Bool (p x)) [
  | inl e ↦ rw e (inl refl)
  | inr e ↦
      let later : find p (x ∷ xs) ≡ find p xs = rw e refl in
      let found = found-within p xs d a (elim i [ inl same ↦ absurd (true≢false (sym yes_a ∙ (ap p same ∙ e))) | inr j ↦ j ]) yes_a in
      subst (λ (o : Option NodeName). In (unwrap_or o d) (x ∷ xs)) (sym later) (inr found)
]

-- the stop stands above the node
pub below-stop : (ts : Trees) (f : Filter) (top x : NodeName) → IsBelow ts top x → IsBelow ts (stop_above ts f top x) x
below-stop ts f top x b = record {
  once = b.once;
  stands = b.stands;
  above = found-within (is_stop ts f top) (ancestors ts x) top top b.above (or_right (accepts ts f top) _ (name_eq-from top top refl));
}

-- a sibling stands below top too, with the same nodes above it
pub below-sibling : {ts : Trees} {top x : NodeName} (s : NodeName) → IsBelow ts top x → Has ts s → parent_of ts s ≡ parent_of ts x →
    IsBelow ts top s × (ancestors ts s ≡ ancestors ts x)
below-sibling {ts} {top} {x} s b at_s same = by (parent_of ts x) refl
  where
    by : (o : Option NodeName) → parent_of ts x ≡ o → IsBelow ts top s × (ancestors ts s ≡ ancestors ts x)
    by None e = absurd (root-below ts top x b e)
    by (Some p) e =
        let path = (proper-parent ts s p b.once at_s (same ∙ e)).0 ∙ sym (proper-parent ts x p b.once b.stands e).0 in
        (record { once = b.once; stands = at_s; above = subst (In top) (sym path) b.above }, path)

-- a child of a node that is no stop has the same stop
pub below-child : {ts : Trees} {top x : NodeName} (f : Filter) (c : NodeName) → IsBelow ts top x → accepts ts f x ≡ false → In c (children_of ts x) →
    IsBelow ts top c × (stop_above ts f top c ≡ stop_above ts f top x)
below-child {ts} {top} {x} f c b no_x i =
    let up = parent-of_child ts x c b.once b.stands i in
    let path = (proper-parent ts c x b.once up.1 up.0).0 in
    let inside : IsBelow ts top c = record { once = b.once; stands = up.1; above = subst (In top) (sym path) (inr b.above) } in
    (inside, stop-above ts f top c x inside up.0 (or_from (accepts ts f x) (name_eq x top) no_x (name_eq-other x top (other-below ts top x b))))

-- ---- aside, towards the end

-- the next sibling is the first node beyond
pub aside_next : {ts : Trees} {top x s : NodeName} (f : Filter) → IsBelow ts top x → next_sibling ts x ≡ Some s →
    (first_of (beyond ts (stop_above ts f top x) x) ≡ Some s) × IsBelow ts top s × (ancestors ts s ≡ ancestors ts x)
aside_next {ts} {top} {x} {s} f b next =
    let stop = stop_above ts f top x in
    let b_stop = below-stop ts f top x b in
    let is = next_places ts stop x s (within-below ts stop x b_stop) (other-below ts stop x b_stop) next in
    let its = below-sibling s b (stands_in ts stop s is.0) is.2 in (
      ap first_of (is.1 ∙ ap (λ xs. xs ++ beyond ts stop s) (here ts stop s is.0)),
      its.0,
      its.1,
    )

-- at the stop nothing is beyond
pub aside_ends : {ts : Trees} {top x p : NodeName} (f : Filter) → IsBelow ts top x → next_sibling ts x ≡ None → parent_of ts x ≡ Some p →
    is_stop ts f top p ≡ true → beyond ts (stop_above ts f top x) x ≡ []
aside_ends {ts} {top} {x} {p} f b next up e =
    let b_stop = subst (λ (a : NodeName). IsBelow ts a x) (stop-here ts f top x p b up e) (below-stop ts f top x b) in
    let w = within-below ts p x b_stop in
    ap (λ a. beyond ts a x) (stop-here ts f top x p b up e) ∙
    (no_next ts p x p w (other-below ts p x b_stop) up next ∙ (top_places ts p (within-top ts p x w)).1)

-- below it what is beyond the parent
pub aside_up : {ts : Trees} {top x p : NodeName} (f : Filter) → IsBelow ts top x → next_sibling ts x ≡ None → parent_of ts x ≡ Some p →
    is_stop ts f top p ≡ false → beyond ts (stop_above ts f top x) x ≡ beyond ts (stop_above ts f top p) p
aside_up {ts} {top} {x} {p} f b next up e =
    let stop = stop_above ts f top x in
    let b_stop = below-stop ts f top x b in
    no_next ts stop x p (within-below ts stop x b_stop) (other-below ts stop x b_stop) up next ∙ ap (λ a. beyond ts a p) (stop-above ts f top x p b up e)

-- ---- aside, towards the beginning

-- before a node comes last the tree of its previous sibling
pub ahead_of-previous : {ts : Trees} {top x s : NodeName} (f : Filter) → IsBelow ts top x → previous_sibling ts x ≡ Some s
    → (ahead_of ts (stop_above ts f top x) x ≡ ahead_of ts (stop_above ts f top x) s ++ inclusive_descendants ts s) × IsBelow ts top s ×
    (ancestors ts s ≡ ancestors ts x)
ahead_of-previous {ts} {top} {x} {s} f b previous =
    let stop = stop_above ts f top x in
    let b_stop = below-stop ts f top x b in
    let is = previous_places (within-below ts stop x b_stop) (other-below ts stop x b_stop) previous in
    let its = below-sibling s b (stands_in ts stop s is.0) is.2 in
    (is.1, its.0, its.1)

-- without one its parent
pub ahead_of-parent : {ts : Trees} {top x p : NodeName} (f : Filter) → IsBelow ts top x → previous_sibling ts x ≡ None → parent_of ts x ≡ Some p →
    ahead_of ts (stop_above ts f top x) x ≡ ahead_of ts (stop_above ts f top x) p ++ p ∷ []
ahead_of-parent {ts} {top} {x} f b previous up =
    let stop = stop_above ts f top x in
    let b_stop = below-stop ts f top x b in
    no_previous (within-below ts stop x b_stop) (other-below ts stop x b_stop) up previous
