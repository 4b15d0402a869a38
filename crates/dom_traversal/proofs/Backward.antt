-- A search backward, from each node to the nodes before it, passing over what is below rejected nodes.
use Rattle.dom_traversal.proofs.Cited.{◌≡◌, ◌⊎◌, inl, inr, ℕ, ◌<◌, ◌≤◌, true, false, not, ◌&&◌, List, [], ◌∷◌, ◌++◌, length, Option, Some, None, refl, sym, ap}
use Rattle.dom_traversal.proofs.Cited.{subst, ◌∙◌, arith, length-append, filter, option_map, ForSome, list_all, cases_Bool, not-false, and_left, and_from}
use Rattle.dom_traversal.proofs.Cited.{both_ways, append-nil, filter-append, none-some, same_Some, above-proper, above-within, accepts, ahead_of, ancestors}
use Rattle.dom_traversal.proofs.Cited.{answer_at, below, below-from_above, child_places, children_of, Filter, filter-none, Has, Has-forest, here, In, In-from}
use Rattle.dom_traversal.proofs.Cited.{In-left, In-names, In-not, In-parts, In-right, inclusive_ancestors, inclusive_descendants, is_in, is_in-from, is_in-not}
use Rattle.dom_traversal.proofs.Cited.{is_inclusive_ancestor, is_reject, IsWithin, IsWithin-key, joined, last-hit, last-miss, last_child, last_of, last_split}
use Rattle.dom_traversal.proofs.Cited.{name_at, name_eq, NamedTrees, no_first, no_last_child, no_previous, NodeName, not_before, parent-of_child, parent_of}
use Rattle.dom_traversal.proofs.Cited.{previous_places, previous_sibling, proper-parent, rejects, Skip, StandAlone, StandOnce, stands_in, StandsIn}
use Rattle.dom_traversal.proofs.Cited.{subtree, top_places, Trees, up_to_node, up_to_tree, Verdict, Walker, walker_nodes, within-parent, within-root}
use Rattle.dom_traversal.proofs.Cited.{within-top, ComesBack, entered_by, is_entered, is_passable, KeyedWalker, walker_view}
use Rattle.dom_traversal.proofs.Climbing.{IsInner, inner-within}
use Rattle.dom_traversal.proofs.Opening.{hidden, all-from, all-at}
use Rattle.dom_traversal.proofs.Passing.{passing, walker_nodes-passing, passable-above}

-- ---- down to the last child

-- a last child: where it stands, and that its tree ends as that of its parent
pub record Descends (ts : Trees) (top x c : NodeName) : Type 0 where
  pub within : IsWithin ts top c
  pub tree : ahead_of ts top c ++ inclusive_descendants ts c ≡ ahead_of ts top x ++ inclusive_descendants ts x
  pub path : ancestors ts c ≡ x ∷ ancestors ts x
  pub smaller : length (inclusive_descendants ts c) < length (inclusive_descendants ts x)

-- each last child is one
pub descends : (ts : Trees) (top x c : NodeName) → IsWithin ts top x → last_of (children_of ts x) ≡ Some c → Descends ts top x c
descends ts top x c w e =
    let down = last_child ts top x c w e in
    let s = last_split (children_of ts x) c e in
    let places = child_places ts top x c s.0 [] w s.1 in
    let up = parent-of_child ts x c w.once (stands_in ts top x w) (subst (In c) (sym s.1) (In-right c s.0 (c ∷ []) (inl refl))) in
    record {
      within = down.0;
      tree = down.1;
      path = (proper-parent ts c x w.once up.1 up.0).0;
      smaller =
          omega (
            arith,
            ap (length {A = NodeName}) down.1,
            length-append (ahead_of ts top c) (inclusive_descendants ts c),
            length-append (ahead_of ts top x) (inclusive_descendants ts x),
            ap (length {A = NodeName}) places.1,
            length-append (ahead_of ts top x) (x ∷ joined ts s.0),
          );
    }

-- a node without children is its whole tree
pub alone : (ts : Trees) (top x : NodeName) → IsWithin ts top x → last_of (children_of ts x) ≡ None → inclusive_descendants ts x ≡ x ∷ []
alone ts top x w e = here ts top x w ∙ ap (λ xs. x ∷ xs) (no_last_child ts x e)

-- ---- where a search backward is

-- all above x may be passed, and the current node is not before x
pub record Returns (ts : Trees) (w : Walker) (x : NodeName) : Type 0 where
  pub within : IsWithin ts w.root x
  pub path : list_all (is_passable ts w) (ancestors ts x) ≡ true
  pub apart : In w.current (ahead_of ts w.root x) → ⊥

-- where it goes from x
pub record ReturnsTo (ts : Trees) (w : Walker) (x y : NodeName) : Type 0 where
  pub comes : Returns ts w y
  pub value : walker_nodes ts w (up_to_node ts w.root (Some y)) ≡ walker_nodes ts w (ahead_of ts w.root x)
  pub shorter : length (up_to_node ts w.root (Some y)) ≤ length (ahead_of ts w.root x)

module _ (ts : Trees) (w : Walker) (x : NodeName) (r : Returns ts w x) (other : x ≡ w.root → ⊥) where
  -- where no sibling is before x, to the parent
  pub returns_parent : (p : NodeName) → previous_sibling ts x ≡ None → parent_of ts x ≡ Some p → ReturnsTo ts w x p
  returns_parent p previous up =
      let is = no_previous r.within other up previous in
      let path = (proper-parent ts x p r.within.once (stands_in ts w.root x r.within) up).0 in
      record {
        comes = record {
          within = within-parent ts w.root x p r.within other up;
          path = all-from (is_passable ts w) (ancestors ts p) (λ a i. all-at (is_passable ts w) (ancestors ts x) r.path a (subst (In a) (sym path) (inr i)));
          apart = λ i. r.apart (subst (In w.current) (sym is) (In-left w.current (ahead_of ts w.root p) (p ∷ []) i));
        };
        value = ap (walker_nodes ts w) (sym is);
        shorter = omega (arith, ap (length {A = NodeName}) is);
      }

  -- the node y, lowest in the tree of the sibling s
  pub returns_sibling : {s y : NodeName} → previous_sibling ts x ≡ Some s → Has ts w.current → IsWithin ts w.root y →
      ahead_of ts w.root y ++ inclusive_descendants ts y ≡ ahead_of ts w.root s ++ inclusive_descendants ts s →
      (rejects ts w.filter y ≡ false → inclusive_descendants ts y ≡ y ∷ []) →
      ((a : NodeName) → is_in name_eq a (ancestors ts y) ≡ true → rejects ts w.filter a ≡ true → is_in name_eq a (ancestors ts s) ≡ true) → ReturnsTo ts w x y
  returns_sibling {s} {y} previous at_current in_y tree ends path =
      let places = previous_places r.within other previous in
      let whole : ahead_of ts w.root x ≡ ahead_of ts w.root y ++ inclusive_descendants ts y = places.1 ∙ sym tree in
      let same_path = same_above places.0 places.2 in
      record {
        comes = record {
          within = in_y;
          path = all-from (is_passable ts w) (ancestors ts y) (λ a i. by a (cases_Bool (rejects ts w.filter a)) (λ e.
              all-at (is_passable ts w) (ancestors ts x) r.path a
              (subst (In a) same_path (In-from a (ancestors ts s) (path a (is_in-from a (ancestors ts y) i) e)))));
          apart = λ i. r.apart (subst (In w.current) (sym whole) (In-left w.current (ahead_of ts w.root y) (inclusive_descendants ts y) i));
        };
        value =
            sym (ap (walker_nodes ts w) whole
            ∙ (walker_nodes-passing ts w (ahead_of ts w.root y ++ inclusive_descendants ts y)
            ∙ (filter-append (passing ts w) (ahead_of ts w.root y) (inclusive_descendants ts y)
            ∙ (ap (λ xs. filter (passing ts w) (ahead_of ts w.root y) ++ xs) (cut whole (cases_Bool (rejects ts w.filter y)))
            ∙ (sym (filter-append (passing ts w) (ahead_of ts w.root y) (y ∷ [])) ∙ sym (walker_nodes-passing ts w (ahead_of ts w.root y ++ y ∷ [])))))));
        shorter =
            omega (
              arith,
              ap (length {A = NodeName}) whole,
              length-append (ahead_of ts w.root y) (inclusive_descendants ts y),
              length-append (ahead_of ts w.root y) (y ∷ []),
              ap (length {A = NodeName}) (here ts w.root y in_y),
            );
      }
    where
      by : (a : NodeName) → (rejects ts w.filter a ≡ true) ⊎ (rejects ts w.filter a ≡ false) →
          (rejects ts w.filter a ≡ true → is_passable ts w a ≡ true) → is_passable ts w a ≡ true
      by a (inl e) passed = passed e
      by a (inr e) passed = ap (λ b. not (b && not (is_inclusive_ancestor ts a w.current))) e

      same_above : IsWithin ts w.root s → parent_of ts s ≡ parent_of ts x → ancestors ts s ≡ ancestors ts x
      same_above in_s same = go (parent_of ts x) refl
        where
          go : (o : Option NodeName) → parent_of ts x ≡ o → ancestors ts s ≡ ancestors ts x
          go None e = no_first (ancestors ts s) (same ∙ e) ∙ sym (no_first (ancestors ts x) e)
          go (Some p) e = (proper-parent ts s p r.within.once (stands_in ts w.root s in_s) (same ∙ e)).0 ∙
              sym (proper-parent ts x p r.within.once (stands_in ts w.root x r.within) e).0

      cut : ahead_of ts w.root x ≡ ahead_of ts w.root y ++ inclusive_descendants ts y → (rejects ts w.filter y ≡ true) ⊎ (rejects ts w.filter y ≡ false)
          → filter (passing ts w) (inclusive_descendants ts y) ≡ filter (passing ts w) (y ∷ [])
      cut whole (inr e) = ap (filter (passing ts w)) (ends e)
      cut whole (inl e) =
          let off : is_inclusive_ancestor ts y w.current ≡ false =
          is_in-not y (inclusive_ancestors ts w.current) (λ i. r.apart (subst (In w.current) (sym whole)
          (In-right w.current (ahead_of ts w.root y) (inclusive_descendants ts y)
          (In-names (subtree ts y) w.current (below-from_above ts y w.current r.within.once at_current i))))) in
          let shut : is_passable ts w y ≡ false = ap (λ b. not (b && not (is_inclusive_ancestor ts y w.current))) e ∙ ap (λ b. not (not b)) off in
          ap (filter (passing ts w)) (here ts w.root y in_y)
          ∙ (filter-append (passing ts w) (y ∷ []) (below ts y)
          ∙ (ap (λ xs. filter (passing ts w) (y ∷ []) ++ xs)
          (filter-none (passing ts w) (below ts y) (hidden ts (accepts ts w.filter) (is_passable ts w) w.root y in_y shut))
          ∙ append-nil (filter (passing ts w) (y ∷ []))))

-- it begins at the current node
pub Returns-begin : (ts : Trees) (w : Walker) → IsWithin ts w.root w.current → Returns ts w w.current
Returns-begin ts w at = record {
  within = at;
  path = all-from (is_passable ts w) (ancestors ts w.current)
      (λ a i. passable-above ts w a (subst (In a) (sym (above-proper ts w.current (stands_in ts w.root w.current at))) (inr i)));
  apart = not_before w.current (inclusive_descendants ts w.root);
}

-- ---- the same by keys

-- a node that is not rejected is entered on a way through accepted nodes
entered-through : (ts : Trees) (filter : Filter) (x : NodeName) → rejects ts filter x ≡ not (is_entered ts filter true x)
entered-through ts filter x = by (answer_at ts filter x)
  where
    by : (o : Option Verdict) → is_reject o ≡ not (entered_by true o)
    by (Some Skip) = refl
    by o = refl

-- where a search backward is, by its key
pub Returns-key : (f : NamedTrees) → StandOnce f → StandAlone f → (w : KeyedWalker) (k : ℕ) → ComesBack f w k →
    Returns f.trees (walker_view f.names w) (name_at f.names k)
Returns-key f once only w k c = record {
  within = IsWithin-key f once only w.root k c.stands;
  path = c.path;
  apart = In-not (name_at f.names w.current) (ahead_of f.trees (name_at f.names w.root) (name_at f.names k)) c.apart;
}

-- and the other way round
pub ComesBack-key : (f : NamedTrees) (w : KeyedWalker) (k : ℕ) → k < length f.names →
    Returns f.trees (walker_view f.names w) (name_at f.names k) → ComesBack f w k
ComesBack-key f w k node r = record {
  stands = record { node = node; within = above-within f.trees (name_at f.names w.root) (name_at f.names k) r.within };
  path = r.path;
  apart = is_in-not (name_at f.names w.current) (ahead_of f.trees (name_at f.names w.root) (name_at f.names k)) r.apart;
}

-- what a step backward answers
pub record StepsBack (f : NamedTrees) (w : KeyedWalker) (k : ℕ) (found : Option ℕ) : Type 0 where
  pub comes : ForSome found (ComesBack f w)
  pub value : walker_nodes f.trees (walker_view f.names w) (up_to_node f.trees (name_at f.names w.root) (option_map (name_at f.names) found)) ≡
      walker_nodes f.trees (walker_view f.names w) (ahead_of f.trees (name_at f.names w.root) (name_at f.names k))
  pub shorter : length (up_to_node f.trees (name_at f.names w.root) (option_map (name_at f.names) found)) ≤ length
      (ahead_of f.trees (name_at f.names w.root) (name_at f.names k))

-- the node to which a search backward goes in the tree of a sibling s
pub record IsLowest (f : NamedTrees) (w : KeyedWalker) (s y : ℕ) : Type 0 where
  pub stands : StandsIn f w.root y
  pub tree : up_to_tree f.trees (name_at f.names w.root) (Some (name_at f.names y)) ≡ up_to_tree f.trees (name_at f.names w.root) (Some (name_at f.names s))
  pub ends : is_entered f.trees w.filter true (name_at f.names y) ≡ true → inclusive_descendants f.trees (name_at f.names y) ≡ name_at f.names y ∷ []
  pub path : (between : List NodeName) × (ancestors f.trees (name_at f.names y) ≡ between ++ ancestors f.trees (name_at f.names s)) ×
      (list_all (is_entered f.trees w.filter true) between ≡ true)

module _ (f : NamedTrees) (once : StandOnce f) (only : StandAlone f) (w : KeyedWalker) (k : ℕ) (c : ComesBack f w k) where
  -- at the root
  pub steps_root : name_at f.names k ≡ name_at f.names w.root → StepsBack f w k None
  steps_root same =
      let top = name_at f.names w.root in
      let empty : ahead_of f.trees top (name_at f.names k) ≡ [] =
      ap (ahead_of f.trees top) same ∙
      (top_places f.trees top (within-top f.trees top (name_at f.names k) (IsWithin-key f once only w.root k c.stands))).0 in
      record { comes = λ j e. absurd (none-some j e); value = ap (walker_nodes f.trees (walker_view f.names w)) (sym empty); shorter = omega arith }

  -- to the parent, where there is no sibling
  pub steps_parent : (name_at f.names k ≡ name_at f.names w.root → ⊥) → (up : Option ℕ) →
      option_map (name_at f.names) up ≡ parent_of f.trees (name_at f.names k) → ForSome up (λ j. j < length f.names) →
      previous_sibling f.trees (name_at f.names k) ≡ None → StepsBack f w k up
  steps_parent other None up_is node previous =
      absurd (within-root f.trees (name_at f.names w.root) (name_at f.names k) (IsWithin-key f once only w.root k c.stands) other (sym up_is))
  steps_parent other (Some p) up_is node previous =
      let to = returns_parent f.trees (walker_view f.names w) (name_at f.names k) (Returns-key f once only w k c) other (name_at f.names p)
      previous (sym up_is) in
      record { comes = λ j e. subst (ComesBack f w) (same_Some p j e) (ComesBack-key f w p (node p refl) to.comes); value = to.value; shorter = to.shorter }

  -- to the lowest node of the sibling's tree
  pub steps_sibling : (name_at f.names k ≡ name_at f.names w.root → ⊥) → {s y : ℕ} →
      Some (name_at f.names s) ≡ previous_sibling f.trees (name_at f.names k) → w.current < length f.names → IsLowest f w s y → StepsBack f w k (Some y)
  steps_sibling other {s} {y} is at_current low =
      let path = low.path in
      let to = returns_sibling f.trees (walker_view f.names w) (name_at f.names k) (Returns-key f once only w k c) other
      (sym is) (Has-forest f once w.current at_current) (IsWithin-key f once only w.root y low.stands) low.tree
      (λ e. low.ends (not-false _ (sym (entered-through f.trees w.filter (name_at f.names y)) ∙ e)))
      (λ a above yes_a. is_in-from a (ancestors f.trees (name_at f.names s))
      (passed a yes_a (In-parts a path.0 (ancestors f.trees (name_at f.names s))
      (subst (In a) path.1 (In-from a (ancestors f.trees (name_at f.names y)) above))))) in
      record { comes = λ j e. subst (ComesBack f w) (same_Some y j e) (ComesBack-key f w y low.stands.node to.comes); value = to.value; shorter = to.shorter }
    where
      passed : (a : NodeName) → rejects f.trees w.filter a ≡ true → In a low.path.0 ⊎ In a (ancestors f.trees (name_at f.names s)) →
          In a (ancestors f.trees (name_at f.names s))
      passed a yes_a (inr i) = i
      passed a yes_a (inl i) = absurd (both_ways (rejects f.trees w.filter a)
          (entered-through f.trees w.filter a ∙ ap not (all-at (is_entered f.trees w.filter true) low.path.0 low.path.2 a i)) yes_a)

-- the sibling stands in the tree of the root
pub sibling-stands : {f : NamedTrees} {root k : ℕ} (s : ℕ) → IsInner f root k → s < length f.names →
    Some (name_at f.names s) ≡ previous_sibling f.trees (name_at f.names k) → StandsIn f root s
sibling-stands {f} {root} s i node is = record {
  node = node;
  within = above-within f.trees (name_at f.names root) (name_at f.names s) (previous_places (inner-within i) i.other (sym is)).0;
}

-- ---- what a search backward finds

-- an accepted node is the last one
pub back-hit : (ts : Trees) (w : Walker) (x : NodeName) → accepts ts w.filter x ≡ true → list_all (is_passable ts w) (ancestors ts x) ≡ true →
    Some x ≡ last_of (walker_nodes ts w (up_to_node ts w.root (Some x)))
back-hit ts w x yes_x path =
    sym (ap last_of (walker_nodes-passing ts w (up_to_node ts w.root (Some x))) ∙ last-hit (passing ts w) (ahead_of ts w.root x) x
    (and_from (accepts ts w.filter x) _ yes_x path))

-- another one is passed
pub back-miss : (ts : Trees) (w : Walker) (x : NodeName) → accepts ts w.filter x ≡ false →
    walker_nodes ts w (up_to_node ts w.root (Some x)) ≡ walker_nodes ts w (ahead_of ts w.root x)
back-miss ts w x no_x =
    walker_nodes-passing ts w (up_to_node ts w.root (Some x)) ∙
    (last-miss (passing ts w) (ahead_of ts w.root x) x (and_left (accepts ts w.filter x) _ no_x) ∙
    sym (walker_nodes-passing ts w (ahead_of ts w.root x)))
