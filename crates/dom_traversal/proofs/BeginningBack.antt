-- Where a walker's searches for the last child and the previous sibling begin, and what they look for.
use Rattle.dom_traversal.proofs.Cited.{◌≡◌, inl, inr, ℕ, ◌<◌, Bool, true, false, not, ◌&&◌, [], ◌∷◌, ◌++◌, length, Option, Some, None, refl, sym, ap, subst}
use Rattle.dom_traversal.proofs.Cited.{◌∙◌, filter, option_map, ForSome, and_right, above-proper, above-within, ahead_of, ancestors, below, children_of}
use Rattle.dom_traversal.proofs.Cited.{filter-no, filter-same, here, In, In-from, In-left, In-right, inclusive_ancestors, inclusive_descendants, is_in-from}
use Rattle.dom_traversal.proofs.Cited.{IsWithin, last_child, last_of, last_split, name_at, name_eq, name_eq-from, name_eq-other, NamedTrees, no_last_child}
use Rattle.dom_traversal.proofs.Cited.{NodeName, not_before, sibling_top, top_places, Trees, up_to_tree, Walker, walker_children, walker_move, walker_siblings}
use Rattle.dom_traversal.proofs.Cited.{walker_step, within-itself, Begins, BeginsBackward, child_move, Direction, is_candidate, is_opened, is_reached}
use Rattle.dom_traversal.proofs.Cited.{KeyedWalker, Next, outer_child, Previous, reached_from, sibling_move, StepsBehind, StepsBeside, stop_above, stop_of}
use Rattle.dom_traversal.proofs.Cited.{walker_view}
use Rattle.dom_traversal.proofs.Opening.{all-from}
use Rattle.dom_traversal.proofs.Stops.{IsBelow, within-below, other-below}
use Rattle.dom_traversal.proofs.Beside.{FollowsBeside}
use Rattle.dom_traversal.proofs.Reaching.{opened-above}
use Rattle.dom_traversal.proofs.ReachingBack.{steps-filter}
use Rattle.dom_traversal.proofs.Candidates.{children-reached, below-member}
use Rattle.dom_traversal.proofs.Nested.{siblings-ahead}
use Rattle.dom_traversal.proofs.Beginning.{move-step, place_of_child, Begins-child, Begins-sibling, First-found, NextSibling-found}
use Rattle.dom_base.specs.declared.Move.TheVariants as moves

-- ---- the last child

module _ (ts : Trees) (w : Walker) (at : IsWithin ts w.current w.current) where
  -- among the nodes of the current one's tree
  in_tree : filter (is_candidate ts w w.current) (inclusive_descendants ts w.current) ≡ walker_children ts w
  in_tree =
      ap (filter (is_candidate ts w w.current)) (here ts w.current w.current at)
      ∙ (filter-no (is_candidate ts w w.current) w.current (below ts w.current)
      (and_right (is_reached ts w w.current) _ (ap not (name_eq-from w.current w.current refl)))
      ∙ (filter-same (is_candidate ts w w.current) (is_reached ts w) (below ts w.current)
      (λ y i. chosen y (name_eq-other y w.current (other-below ts w.current y (below-member ts w.current y at i))))
      ∙ sym (children-reached ts w at)))
    where
      and_true : (t : Bool) → (t && true) ≡ t
      and_true true = refl
      and_true false = refl

      chosen : (y : NodeName) → name_eq y w.current ≡ false → is_candidate ts w w.current y ≡ is_reached ts w y
      chosen y e = ap (λ t. is_reached ts w y && not t) e ∙ and_true (is_reached ts w y)

  -- where the last child stands
  place_of_last : (c : NodeName) → last_of (children_of ts w.current) ≡ Some c → IsBelow ts w.current c ×
      (ancestors ts c ≡ inclusive_ancestors ts w.current) × (stop_above ts w.filter w.current c ≡ w.current)
  place_of_last c e = let split = last_split (children_of ts w.current) c e in place_of_child ts w at c
      (subst (In c) (sym split.1) (In-right c split.0 (c ∷ []) (inl refl)))

  -- what the search from the last child looks through
  pub last-zone : (o : Option NodeName) → last_of (children_of ts w.current) ≡ o →
      filter (is_candidate ts w (stop_of ts w.filter w.current o)) (up_to_tree ts (stop_of ts w.filter w.current o) o) ≡ walker_children ts w
  last-zone None e = sym (children-reached ts w at ∙ ap (filter (is_reached ts w)) (no_last_child ts w.current e))
  last-zone (Some c) e =
      let last = last_child ts w.current w.current c at e in
      ap (λ a. filter (is_candidate ts w a) (up_to_tree ts a (Some c))) (place_of_last c e).2
      ∙ (ap (filter (is_candidate ts w w.current)) (last.1 ∙ ap (λ xs. xs ++ inclusive_descendants ts w.current) (top_places ts w.current at).0) ∙ in_tree)

-- so the search may begin at the last child
pub Begins-last : (f : NamedTrees) (w : KeyedWalker) → IsWithin f.trees (name_at f.names w.current) (name_at f.names w.current) →
    (child : Option ℕ) → option_map (name_at f.names) child ≡ last_of (children_of f.trees (name_at f.names w.current)) →
    ForSome child (λ k. k < length f.names)
    → ForSome child (BeginsBackward f w w.current)
Begins-last f w at child is node = λ k e.
    let v = walker_view f.names w in
    let place = place_of_last f.trees v at (name_at f.names k) (sym is ∙ ap (option_map (name_at f.names)) e) in
    record {
      below = record { node = node k e; below = is_in-from v.current (ancestors f.trees (name_at f.names k)) (place.0).above };
      path = all-from (is_opened f.trees v) (ancestors f.trees (name_at f.names k)) (λ a i. opened-above f.trees v a (subst (In a) place.1 i));
      apart = λ _. sym place.2;
    }

-- the last child is found
pub Last-found : (ts : Trees) (w : Walker) → IsWithin ts w.root w.current → (o : Option NodeName) → o ≡ last_of (children_of ts w.current)
    → last_of (filter (is_candidate ts w (stop_of ts w.filter w.current o)) (up_to_tree ts (stop_of ts w.filter w.current o) o)) ≡ walker_move ts w moves.Last
Last-found ts w at o is = ap last_of (last-zone ts w (within-itself ts w.root w.current at) o (sym is)) ∙
    move-step ts w moves.Last (above-within ts w.root w.current at)

-- ---- the previous sibling

-- the search may begin at the sibling before
pub Begins-previous : (f : NamedTrees) (w : KeyedWalker) → IsBelow f.trees (name_at f.names w.root) (name_at f.names w.current) → (from : Option ℕ)
    → FollowsBeside Previous f w.filter w.root w.current from → ForSome from (BeginsBackward f w w.root)
Begins-previous f w b from aback = λ k e.
    let v = walker_view f.names w in
    let stop = sibling_top f.trees v in
    let to = subst (λ o. StepsBehind f.trees w.filter stop v.current (option_map (name_at f.names) o)) e aback.value in
    record {
      below = aback.below k e;
      path = all-from (is_opened f.trees v) (ancestors f.trees (name_at f.names k)) (λ a i.
          opened-above f.trees v a (subst (In a) (sym (above-proper f.trees v.current b.stands))
          (inr (subst (In a) (sym (aback.path k e).1) (In-right a (aback.path k e).0 (ancestors f.trees (name_at f.names k)) i)))));
      apart = λ i. absurd (not_before v.current (inclusive_descendants f.trees stop)
          (subst (In v.current) (sym to.split) (In-left v.current (up_to_tree f.trees stop (Some (name_at f.names k))) to.passed
          (subst (λ a. In v.current (up_to_tree f.trees a (Some (name_at f.names k)))) (aback.stop k e)
          (In-from v.current (up_to_tree f.trees (stop_above f.trees w.filter v.root (name_at f.names k)) (Some (name_at f.names k))) i)))));
    }

-- the previous sibling is found
pub PreviousSibling-found : (ts : Trees) (w : Walker) → IsBelow ts w.root w.current → (o : Option NodeName) →
    StepsBehind ts w.filter (sibling_top ts w) w.current o
    → ((y : NodeName) → o ≡ Some y → stop_above ts w.filter w.root y ≡ sibling_top ts w)
    → last_of (filter (is_candidate ts w (stop_of ts w.filter w.root o)) (up_to_tree ts (stop_of ts w.filter w.root o) o)) ≡ walker_move ts w
    moves.PreviousSibling
PreviousSibling-found ts w b o s same =
    ap last_of (zone o same ∙ (sym (steps-filter ts w (sibling_top ts w) w.current o s) ∙ sym (siblings-ahead ts w b)))
    ∙ (not_root (name_eq-other w.current w.root (other-below ts w.root w.current b)) ∙
    move-step ts w moves.PreviousSibling (above-within ts w.root w.current (within-below ts w.root w.current b)))
  where
    zone : (q : Option NodeName) → ((y : NodeName) → q ≡ Some y → stop_above ts w.filter w.root y ≡ sibling_top ts w)
        → filter (is_candidate ts w (stop_of ts w.filter w.root q)) (up_to_tree ts (stop_of ts w.filter w.root q) q) ≡ filter
        (is_candidate ts w (sibling_top ts w)) (up_to_tree ts (sibling_top ts w) q)
    zone None h = refl
    zone (Some y) h = ap (λ a. filter (is_candidate ts w a) (up_to_tree ts a (Some y))) (h y refl)

    not_root : name_eq w.current w.root ≡ false → last_of (walker_siblings ts w (ahead_of ts w.root w.current)) ≡ walker_step ts w moves.PreviousSibling
    not_root e = rw e refl

-- ---- in a direction

module _ (f : NamedTrees) (w : KeyedWalker) where
  -- a search may begin at a child
  pub Begins-outer : (d : Direction) → IsWithin f.trees (name_at f.names w.current) (name_at f.names w.current) → (child : Option ℕ) →
      option_map (name_at f.names) child ≡ outer_child d f.trees (name_at f.names w.current) → ForSome child (λ k. k < length f.names) →
      ForSome child (Begins d f w w.current)
  Begins-outer Next at child is node = Begins-child f w at child is node
  Begins-outer Previous at child is node = Begins-last f w at child is node

  -- and beside the current node
  pub Begins-beside : (d : Direction) → IsBelow f.trees (name_at f.names w.root) (name_at f.names w.current) → (from : Option ℕ) →
      FollowsBeside d f w.filter w.root w.current from → ForSome from (Begins d f w w.root)
  Begins-beside Next b from beside = Begins-sibling f w b from beside
  Begins-beside Previous b from beside = Begins-previous f w b from beside

module _ (ts : Trees) (w : Walker) where
  -- the child is found
  pub Child-found : (d : Direction) → IsWithin ts w.root w.current → (o : Option NodeName) → o ≡ outer_child d ts w.current
      → reached_from d ts w (stop_of ts w.filter w.current o) o ≡ walker_move ts w (child_move d)
  Child-found Next at o is = First-found ts w at o is
  Child-found Previous at o is = Last-found ts w at o is

  -- the sibling is found
  pub Sibling-found : (d : Direction) → IsBelow ts w.root w.current → (o : Option NodeName) → StepsBeside d ts w.filter (sibling_top ts w) w.current o
      → ((y : NodeName) → o ≡ Some y → stop_above ts w.filter w.root y ≡ sibling_top ts w)
      → reached_from d ts w (stop_of ts w.filter w.root o) o ≡ walker_move ts w (sibling_move d)
  Sibling-found Next b o is same = NextSibling-found ts w b o is same
  Sibling-found Previous b o is same = PreviousSibling-found ts w b o is same
