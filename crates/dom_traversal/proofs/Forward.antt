-- A search forward among the nodes that are accepted and reached through open nodes alone.
use Rattle.dom_traversal.proofs.Cited.{◌≡◌, inl, inr, Bool, true, false, ◌∷◌, ◌++◌, length, Option, Some, None, refl, sym, ap, subst, ◌∙◌, arith, ◌<◌}
use Rattle.dom_traversal.proofs.Cited.{length-append, filter, list_all, and_left, same_Some, ahead_of, all_single, ancestors, behind, behind-next, behind_is}
use Rattle.dom_traversal.proofs.Cited.{below, below-from_above, beyond, children_of, first-miss, first_child, first_of, first_split, following_place, from_node}
use Rattle.dom_traversal.proofs.Cited.{here, In, In-from, In-left, In-names, In-right, inclusive_ancestors, inclusive_descendants, is_inclusive_ancestor}
use Rattle.dom_traversal.proofs.Cited.{IsWithin, no_child, no_first, NodeName, ordered, parent-of_child, proper-parent, Single, Single-right, stands_in}
use Rattle.dom_traversal.proofs.Cited.{subtree, Trees}
use Rattle.dom_traversal.proofs.Opening.{reached, reached-shut, all-from, all-at, beyond-above, beyond_place}

-- what is next behind a node has no other nodes above it than that node and those above it
pub following-above : {ts : Trees} {top x y : NodeName} → IsWithin ts top x → first_of (behind ts top x) ≡ Some y → (a : NodeName) → In a (ancestors ts y) →
    In a (x ∷ ancestors ts x)
following-above {ts} {top} {x} {y} w e = by (first_of (children_of ts x)) refl
  where
    by : (o : Option NodeName) → first_of (children_of ts x) ≡ o → (a : NodeName) → In a (ancestors ts y) → In a (x ∷ ancestors ts x)
    by None none_below a i =
        let beyond_it : first_of (beyond ts top x) ≡ Some y =
        ap first_of (sym (behind_is ts top x w ∙ ap (λ xs. xs ++ beyond ts top x) (no_child ts x none_below))) ∙ e in
        inr (beyond-above (length (inclusive_ancestors ts x)) (omega arith) w beyond_it a i)
    by (Some c) first a i =
        let child = first_child ts top x c w first in
        let is : behind ts top x ≡ inclusive_descendants ts c ++ beyond ts top c = behind_is ts top x w ∙ child.1 in
        let same : c ≡ y = same_Some c y (sym (ap first_of (is ∙ ap (λ xs. xs ++ beyond ts top c) (here ts top c child.0))) ∙ e) in
        let s = first_split (children_of ts x) c first in
        let up = parent-of_child ts x c w.once (stands_in ts top x w) (subst (In c) (sym s.1) (inl refl)) in
        subst (In a) (proper-parent ts c x w.once up.1 up.0).0 (subst (λ z. In a (ancestors ts z)) (sym same) i)

-- a node with all that is behind it is its tree with all that is beyond it
pub zone_is : (ts : Trees) (top x : NodeName) → IsWithin ts top x → from_node ts top (Some x) ≡ inclusive_descendants ts x ++ beyond ts top x
zone_is ts top x w = ap (λ xs. x ∷ xs) (behind_is ts top x w) ∙ ap (λ xs. xs ++ beyond ts top x) (sym (here ts top x w))

-- what is beyond a node, from the first of it on
pub beyond-zone : (ts : Trees) (top x : NodeName) → IsWithin ts top x → (o : Option NodeName) → first_of (beyond ts top x) ≡ o →
    beyond ts top x ≡ from_node ts top o
beyond-zone ts top x w None e = no_first (beyond ts top x) e
beyond-zone ts top x w (Some y) e = let is = beyond_place ts top x y w e in is.1 ∙ sym (zone_is ts top y is.0)

-- the search has come to a node, or to the end: all above the node is open, the node c is behind it no more, and the first
-- node that is reached from here on is the one that is looked for
pub record Comes (ts : Trees) (accept clear : NodeName → Bool) (top c : NodeName) (target o : Option NodeName) : Type 0 where
  pub within : (x : NodeName) → o ≡ Some x → IsWithin ts top x
  pub path : (x : NodeName) → o ≡ Some x → list_all clear (ancestors ts x) ≡ true
  pub apart : In c (from_node ts top o) → ⊥
  pub left : first_of (filter (reached ts accept clear) (from_node ts top o)) ≡ target

module _ (ts : Trees) (accept clear : NodeName → Bool) (top c : NodeName) (target : Option NodeName) where
  -- a node that is skipped is entered
  pub Comes-skip : (x : NodeName) (o : Option NodeName) → Comes ts accept clear top c target (Some x) → accept x ≡ false → clear x ≡ true →
      o ≡ first_of (behind ts top x) → Comes ts accept clear top c target o
  Comes-skip x o h no_x is_clear next =
      let w = h.within x refl in
      let zone : behind ts top x ≡ from_node ts top o = behind-next ts top x w o (sym next) in
      record {
        within = λ y e. (following_place ts top x y w (sym next ∙ e)).0;
        path = λ y e. all-from clear (ancestors ts y) (λ a i. elim (following-above w (sym next ∙ e) a i) [
          | inl same ↦ ap clear same ∙ is_clear
          | inr j ↦ all-at clear (ancestors ts x) (h.path x refl) a j
        ]);
        apart = λ i. h.apart (inr (subst (In c) (sym zone) i));
        left = sym (first-miss (reached ts accept clear) x (behind ts top x) (from_node ts top o) (and_left (accept x) _ no_x) zone) ∙ h.left;
      }

  -- no node above c is met
  pub Comes-apart : (x : NodeName) → Comes ts accept clear top c target (Some x) → IsWithin ts top c → is_inclusive_ancestor ts x c ≡ true → ⊥
  Comes-apart x h at_c above =
      let w = h.within x refl in
      let below_x = below-from_above ts x c w.once (stands_in ts top c at_c) (In-from x (inclusive_ancestors ts c) above) in
      h.apart (subst (In c) (sym (zone_is ts top x w)) (In-left c (inclusive_descendants ts x) (beyond ts top x) (In-names (subtree ts x) c below_x)))

  -- a node that is rejected is passed with its tree
  pub Comes-reject : (x : NodeName) (o : Option NodeName) → Comes ts accept clear top c target (Some x) → accept x ≡ false → clear x ≡ false →
      o ≡ first_of (beyond ts top x) → Comes ts accept clear top c target o
  Comes-reject x o h no_x shut next =
      let w = h.within x refl in
      let zone : beyond ts top x ≡ from_node ts top o = beyond-zone ts top x w o (sym next) in
      record {
        within = λ y e. (beyond_place ts top x y w (sym next ∙ e)).0;
        path = λ y e. all-from clear (ancestors ts y)
            (λ a i. all-at clear (ancestors ts x) (h.path x refl) a
            (beyond-above (length (inclusive_ancestors ts x)) (omega arith) w (sym next ∙ e) a i));
        apart = λ i. h.apart (subst (In c) (sym (zone_is ts top x w)) (In-right c (inclusive_descendants ts x) (beyond ts top x) (subst (In c) (sym zone) i)));
        left =
            ap (λ xs. first_of (filter (reached ts accept clear) xs)) (sym zone)
            ∙ (ap first_of (sym (reached-shut ts accept clear top x w no_x shut (beyond ts top x)))
            ∙ (ap (λ xs. first_of (filter (reached ts accept clear) xs)) (sym (zone_is ts top x w)) ∙ h.left));
      }

-- what is left to search is less
pub shorter-skip : (ts : Trees) (top x : NodeName) (o : Option NodeName) → IsWithin ts top x → o ≡ first_of (behind ts top x) →
    length (from_node ts top o) < length (from_node ts top (Some x))
shorter-skip ts top x o w next = omega (arith, ap (length {A = NodeName}) (behind-next ts top x w o (sym next)))

-- what is left to search is less where a tree is passed
pub shorter-reject : (ts : Trees) (top x : NodeName) (o : Option NodeName) → IsWithin ts top x → o ≡ first_of (beyond ts top x) →
    length (from_node ts top o) < length (from_node ts top (Some x))
shorter-reject ts top x o w next =
    omega (
      arith,
      ap (length {A = NodeName}) (beyond-zone ts top x w o (sym next)),
      ap (length {A = NodeName}) (behind_is ts top x w),
      length-append (below ts x) (beyond ts top x),
    )

-- behind a node no node is that one
pub not_behind : (ts : Trees) (top x : NodeName) → IsWithin ts top x → In x (behind ts top x) → ⊥
not_behind ts top x w i = (Single-right (ahead_of ts top x) (x ∷ behind ts top x) (subst Single (ordered ts top x w) (all_single ts top x w))).0 i
