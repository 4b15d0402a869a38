-- Where a walker's searches among children and siblings begin, and what they look for.
use Rattle.dom_traversal.proofs.Cited.{◌≡◌, inl, inr, ℕ, ◌<◌, true, false, ◌∷◌, ◌++◌, length, Option, Some, None, refl, sym, ap, subst, ◌∙◌, arith, filter}
use Rattle.dom_traversal.proofs.Cited.{option_map, ForSome, or_right, append-nil, same_Some, above-proper, above-within, accepts, ahead_of, all_single}
use Rattle.dom_traversal.proofs.Cited.{ancestors, behind, behind_is, below, beyond, children_of, first_child, first_of, first_split, from_node, here, In}
use Rattle.dom_traversal.proofs.Cited.{inclusive_ancestors, inclusive_descendants, is_in-from, is_in-not, is_inclusive_ancestor, IsWithin, Move, name_at}
use Rattle.dom_traversal.proofs.Cited.{name_eq, name_eq-from, name_eq-other, NamedTrees, no_child, no_first, NodeName, parent-of_child, proper-parent}
use Rattle.dom_traversal.proofs.Cited.{sibling_top, Single, Single-apart, Single-right, splits, stands_in, top_places, Trees, Walker, walker_move}
use Rattle.dom_traversal.proofs.Cited.{walker_siblings, walker_step, within-itself, BeginsForward, is_opened, is_reached, KeyedWalker, Next, stop_above}
use Rattle.dom_traversal.proofs.Cited.{stop_of, walker_view}
use Rattle.dom_traversal.proofs.Opening.{beyond-above, all-from}
use Rattle.dom_traversal.proofs.Forward.{zone_is, beyond-zone, not_behind}
use Rattle.dom_traversal.proofs.Stops.{IsBelow, within-below, other-below, below-stop, stop-here}
use Rattle.dom_traversal.proofs.Beside.{FollowsBeside}
use Rattle.dom_traversal.proofs.Reaching.{opened-above}
use Rattle.dom_traversal.proofs.Candidates.{children-reached}
use Rattle.dom_traversal.proofs.Nested.{siblings-behind}
use Rattle.dom_base.specs.declared.Move.TheVariants as moves

-- a move within the root's tree
pub move-step : (ts : Trees) (w : Walker) (m : Move) → is_inclusive_ancestor ts w.root w.current ≡ true → walker_step ts w m ≡ walker_move ts w m
move-step ts w m e = rw e refl

-- ---- the first child

module _ (ts : Trees) (w : Walker) (at : IsWithin ts w.current w.current) where
  -- behind the top stand the nodes below it
  all_below : behind ts w.current w.current ≡ below ts w.current
  all_below = behind_is ts w.current w.current at ∙ (ap (λ xs. below ts w.current ++ xs) (top_places ts w.current at).1 ∙ append-nil (below ts w.current))

  -- where a child stands: below the current node, which is its stop
  pub place_of_child : (c : NodeName) → In c (children_of ts w.current) → IsBelow ts w.current c ×
      (ancestors ts c ≡ inclusive_ancestors ts w.current) × (stop_above ts w.filter w.current c ≡ w.current)
  place_of_child c i =
      let up = parent-of_child ts w.current c at.once (stands_in ts w.current w.current at) i in
      let path : ancestors ts c ≡ w.current ∷ ancestors ts w.current = (proper-parent ts c w.current at.once up.1 up.0).0 in
      let b : IsBelow ts w.current c = record { once = at.once; stands = up.1; above = subst (In w.current) (sym path) (inl refl) } in (
        b,
        path ∙ sym (above-proper ts w.current (stands_in ts w.current w.current at)),
        stop-here ts w.filter w.current c w.current b up.0
            (or_right (accepts ts w.filter w.current) _ (name_eq-from w.current w.current refl)),
      )

  -- where a search begins at the first child
  child_place : (c : NodeName) → first_of (children_of ts w.current) ≡ Some c → IsBelow ts w.current c ×
      (ancestors ts c ≡ inclusive_ancestors ts w.current) × (stop_above ts w.filter w.current c ≡ w.current)
  child_place c e = let split = first_split (children_of ts w.current) c e in place_of_child c (subst (In c) (sym split.1) (inl refl))

  -- what the search from the first child looks through
  pub child-zone : (o : Option NodeName) → first_of (children_of ts w.current) ≡ o → from_node ts (stop_of ts w.filter w.current o) o ≡ below ts w.current
  child-zone None e = sym (no_child ts w.current e)
  child-zone (Some c) e =
      let first = first_child ts w.current w.current c at e in
      ap (λ a. from_node ts a (Some c)) (child_place c e).2 ∙
      (zone_is ts w.current c first.0 ∙ (sym first.1 ∙ (sym (behind_is ts w.current w.current at) ∙ all_below)))

  -- the current node is not among the nodes from its first child on
  pub child-apart : (c : NodeName) → first_of (children_of ts w.current) ≡ Some c →
      In w.current (from_node ts (stop_above ts w.filter w.current c) (Some c)) → ⊥
  child-apart c e i = not_behind ts w.current w.current at (subst (In w.current) (child-zone (Some c) e ∙ sym all_below) i)

-- so the search may begin at the first child
pub Begins-child : (f : NamedTrees) → (w : KeyedWalker) → IsWithin f.trees (name_at f.names w.current) (name_at f.names w.current) →
    (child : Option ℕ) → option_map (name_at f.names) child ≡ first_of (children_of f.trees (name_at f.names w.current)) →
    ForSome child (λ k. k < length f.names)
    → ForSome child (BeginsForward f w w.current)
Begins-child f w at child is node = λ k e.
    let v = walker_view f.names w in
    let found = sym is ∙ ap (option_map (name_at f.names)) e in
    let place = child_place f.trees v at (name_at f.names k) found in
    record {
      below = record { node = node k e; below = is_in-from _ _ (place.0).above };
      path = all-from (is_opened f.trees v) (ancestors f.trees (name_at f.names k)) (λ a i. opened-above f.trees v a (subst (In a) place.1 i));
      around = ap (λ a. is_inclusive_ancestor f.trees a v.current) place.2 ∙ above-within f.trees v.current v.current at;
      apart = is_in-not v.current (from_node f.trees (stop_above f.trees w.filter v.current (name_at f.names k)) (Some (name_at f.names k)))
          (child-apart f.trees v at (name_at f.names k) found);
    }

-- ---- the next sibling

module _ (ts : Trees) (w : Walker) (b : IsBelow ts w.root w.current) where
  -- the current node stands in the tree of its stop
  sibling-within : IsWithin ts (sibling_top ts w) w.current
  sibling-within = within-below ts (sibling_top ts w) w.current (below-stop ts w.filter w.root w.current b)

  -- what the search from the node aside looks through
  pub sibling-zone : (o : Option NodeName) → first_of (beyond ts (sibling_top ts w) w.current) ≡ o →
      ((y : NodeName) → o ≡ Some y → stop_above ts w.filter w.root y ≡ sibling_top ts w)
      → from_node ts (stop_of ts w.filter w.root o) o ≡ beyond ts (sibling_top ts w) w.current
  sibling-zone None e same = sym (no_first (beyond ts (sibling_top ts w) w.current) e)
  sibling-zone (Some y) e same = ap (λ a. from_node ts a (Some y)) (same y refl) ∙ sym (beyond-zone ts (sibling_top ts w) w.current sibling-within (Some y) e)

  -- it is not beyond itself
  pub sibling-apart : In w.current (beyond ts (sibling_top ts w) w.current) → ⊥
  sibling-apart i =
      let top = sibling_top ts w in
      let tree = inclusive_descendants ts w.current in
      let single = subst Single (splits ts top w.current sibling-within) (all_single ts top w.current sibling-within) in
      Single-apart w.current tree (beyond ts top w.current) (Single-right (ahead_of ts top w.current) (tree ++ beyond ts top w.current) single)
      (subst (In w.current) (sym (here ts top w.current sibling-within)) (inl refl)) i

  -- all above the node aside is opened
  pub sibling-path_up : (y : NodeName) → first_of (beyond ts (sibling_top ts w) w.current) ≡ Some y → (a : NodeName) → In a (ancestors ts y) →
      is_opened ts w a ≡ true
  sibling-path_up y e a i =
      opened-above ts w a (subst (In a) (sym (above-proper ts w.current b.stands))
      (inr (beyond-above (length (inclusive_ancestors ts w.current)) (omega arith) sibling-within e a i)))

  -- the siblings behind are the nodes that are reached
  pub siblings-found : walker_siblings ts w (behind ts w.root w.current) ≡ filter (is_reached ts w) (beyond ts (sibling_top ts w) w.current)
  siblings-found = siblings-behind ts w b

-- so the search may begin at the node aside
pub Begins-sibling : (f : NamedTrees) → (w : KeyedWalker) → IsBelow f.trees (name_at f.names w.root) (name_at f.names w.current) → (from : Option ℕ)
    → FollowsBeside Next f w.filter w.root w.current from → ForSome from (BeginsForward f w w.root)
Begins-sibling f w b from aside = λ k e.
    let v = walker_view f.names w in
    let found = sym aside.value ∙ ap (option_map (name_at f.names)) e in
    let zone = sibling-zone f.trees v b (Some (name_at f.names k)) found
    (λ y h. subst (λ z. stop_above f.trees w.filter v.root z ≡ sibling_top f.trees v) (same_Some _ y h) (aside.stop k e)) in
    record {
      below = aside.below k e;
      path = all-from (is_opened f.trees v) (ancestors f.trees (name_at f.names k)) (sibling-path_up f.trees v b (name_at f.names k) found);
      around = ap (λ a. is_inclusive_ancestor f.trees a v.current) (aside.stop k e) ∙ above-within f.trees (sibling_top f.trees v) v.current
          (sibling-within f.trees v b);
      apart = is_in-not v.current (from_node f.trees (stop_above f.trees w.filter v.root (name_at f.names k)) (Some (name_at f.names k)))
          (λ i. sibling-apart f.trees v b (subst (In v.current) zone i));
    }

-- ---- what is found

-- the first child is found
pub First-found : (ts : Trees) (w : Walker) → IsWithin ts w.root w.current → (o : Option NodeName) → o ≡ first_of (children_of ts w.current)
    → first_of (filter (is_reached ts w) (from_node ts (stop_of ts w.filter w.current o) o)) ≡ walker_move ts w moves.First
First-found ts w at o is =
    let itself : IsWithin ts w.current w.current = within-itself ts w.root w.current at in
    ap first_of (ap (filter (is_reached ts w)) (child-zone ts w itself o (sym is)) ∙ sym (children-reached ts w itself)) ∙
    move-step ts w moves.First (above-within ts w.root w.current at)

-- the next sibling is found
pub NextSibling-found : (ts : Trees) (w : Walker) → IsBelow ts w.root w.current → (o : Option NodeName) → o ≡ first_of (beyond ts (sibling_top ts w) w.current)
    → ((y : NodeName) → o ≡ Some y → stop_above ts w.filter w.root y ≡ sibling_top ts w)
    → first_of (filter (is_reached ts w) (from_node ts (stop_of ts w.filter w.root o) o)) ≡ walker_move ts w moves.NextSibling
NextSibling-found ts w b o is same =
    ap first_of (ap (filter (is_reached ts w)) (sibling-zone ts w b o (sym is) same) ∙ sym (siblings-found ts w b))
    ∙ (not_root (name_eq-other w.current w.root (other-below ts w.root w.current b)) ∙
    move-step ts w moves.NextSibling (above-within ts w.root w.current (within-below ts w.root w.current b)))
  where
    not_root : name_eq w.current w.root ≡ false → first_of (walker_siblings ts w (behind ts w.root w.current)) ≡ walker_step ts w moves.NextSibling
    not_root e = rw e refl
