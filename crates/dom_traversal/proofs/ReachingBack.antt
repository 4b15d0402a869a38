-- A search backward among the nodes in the place of siblings or of children.
use Rattle.dom_traversal.proofs.Cited.{◌≡◌, ◌⊎◌, inl, inr, ℕ, ◌<◌, Bool, true, false, not, List, [], ◌∷◌, ◌++◌, length, Option, Some, None, refl, sym, ap}
use Rattle.dom_traversal.proofs.Cited.{subst, ◌∙◌, arith, length-append, filter, find, unwrap_or, is_none, option_map, ForSome, list_all, cases_Bool, and_left}
use Rattle.dom_traversal.proofs.Cited.{and_from, and_parts, or_from, or_left, false_from_ne_true, both_ways, append-nil, filter-append, none-some, same_Some}
use Rattle.dom_traversal.proofs.Cited.{above-within, accepts, ahead_of, ancestors, answer_at, below, below-from_above, Filter, filter-no, filter-none, Has}
use Rattle.dom_traversal.proofs.Cited.{Has-forest, here, In, In-left, In-names, In-parts, In-right, inclusive_ancestors, inclusive_descendants, is_in-from}
use Rattle.dom_traversal.proofs.Cited.{is_in-not, is_inclusive_ancestor, is_skip, IsWithin, last_of, last_of-end, name_at, name_eq, name_eq-other, NamedTrees}
use Rattle.dom_traversal.proofs.Cited.{NodeName, Single, Single-apart, Skip, skips, StandAlone, StandOnce, StandsBelow, subtree, Trees, up_to_tree}
use Rattle.dom_traversal.proofs.Cited.{Verdict, Walker, BeginsBackward, entered_by, is_accepted_but, is_candidate, is_entered, is_opened, is_reached, is_stop}
use Rattle.dom_traversal.proofs.Cited.{KeyedWalker, StepsBehind, stop_above, walker_view}
use Rattle.dom_traversal.proofs.Opening.{hidden, all-from, all-at, not_around}
use Rattle.dom_traversal.proofs.Stops.{IsBelow, within-below, other-below, below-stop}
use Rattle.dom_traversal.proofs.Aside.{IsBelow-key, StandsBelow-key, SameStop}
use Rattle.dom_traversal.proofs.Reaching.{stop_from}
use Rattle.dom_traversal.proofs.Candidates.{Single-proper}

-- where a search backward among siblings is
pub record Nears (ts : Trees) (w : Walker) (top stop x : NodeName) : Type 0 where
  pub below : IsBelow ts top x
  pub stop_is : stop_above ts w.filter top x ≡ stop
  pub path : list_all (is_opened ts w) (ancestors ts x) ≡ true
  pub apart : In w.current (up_to_tree ts stop (Some x)) → w.current ≡ stop

-- the lowest node of its tree on a way through skipped nodes
pub record IsLowest (ts : Trees) (f : Filter) (x y : NodeName) : Type 0 where
  pub stands : Has ts y
  pub between : List NodeName
  pub path : ancestors ts y ≡ between ++ ancestors ts x
  pub skipped : list_all (is_entered ts f false) between ≡ true
  pub ends : is_entered ts f false y ≡ true → inclusive_descendants ts y ≡ y ∷ []

-- the nodes on a way through skipped nodes are skipped
entered-skips : (ts : Trees) (f : Filter) (x : NodeName) → is_entered ts f false x ≡ skips ts f x
entered-skips ts f x = by (answer_at ts f x)
  where
    by : (o : Option Verdict) → entered_by false o ≡ is_skip o
    by (Some Skip) = refl
    by o = refl

-- a skipped node is not accepted
skips-accepts : (ts : Trees) (f : Filter) (x : NodeName) → skips ts f x ≡ true → accepts ts f x ≡ false
skips-accepts ts f x = by (answer_at ts f x)
  where
    by : (o : Option Verdict) → is_skip o ≡ true → is_none o ≡ false
    by None e = sym e
    by (Some v) e = refl

-- and the other way round
accepts-skips : (ts : Trees) (f : Filter) (x : NodeName) → accepts ts f x ≡ true → skips ts f x ≡ false
accepts-skips ts f x yes_x = false_from_ne_true (skips ts f x) (λ e. both_ways (accepts ts f x) (skips-accepts ts f x e) yes_x)

-- members that fail are passed
find-later : (p : NodeName → Bool) (xs ys : List NodeName) → ((a : NodeName) → In a xs → p a ≡ false) → find p (xs ++ ys) ≡ find p ys
find-later p [] ys h = refl
find-later p (x ∷ xs) ys h = rw (h x (inl refl)) (find-later p xs ys (λ a i. h a (inr i)))

-- a stricter test leaves none where a test leaves none
filter-less : (p q : NodeName → Bool) (xs : List NodeName) → ((a : NodeName) → q a ≡ true → p a ≡ true) → filter p xs ≡ [] → filter q xs ≡ []
filter-less p q [] h e = refl
filter-less p q (x ∷ xs) h e = elim (cases_Bool (q x)) [
  | inl yes_x ↦ let both = h x yes_x in absurd (nonempty (filter p xs) (rw both at e))
  | inr no_x ↦ elim (cases_Bool (p x)) [
    | inl yes_p ↦ absurd (nonempty (filter p xs) (rw yes_p at e))
    | inr no_p ↦ rw no_x (filter-less p q xs h (rw no_p at e))
  ]
]
  where
    nonempty : (zs : List NodeName) → x ∷ zs ≡ [] → ⊥
    nonempty zs same = cc

module _ (ts : Trees) (w : Walker) (top stop x y : NodeName) (n : Nears ts w top stop x) (l : IsLowest ts w.filter x y)
    (tree : up_to_tree ts stop (Some y) ≡ up_to_tree ts stop (Some x)) where
  -- the lowest node stands below the top
  low_below : IsBelow ts top y
  low_below = record { once = n.below.once; stands = l.stands; above = subst (In top) (sym l.path) (In-right top l.between (ancestors ts x) n.below.above) }

  -- and has the same stop
  low_stop : stop_above ts w.filter top y ≡ stop
  low_stop = ap (λ o. unwrap_or o top) (ap (find (is_stop ts w.filter top)) l.path ∙ find-later (is_stop ts w.filter top) l.between (ancestors ts x) (λ a i.
      or_from (accepts ts w.filter a) (name_eq a top)
      (skips-accepts ts w.filter a (sym (entered-skips ts w.filter a) ∙ all-at (is_entered ts w.filter false) l.between l.skipped a i))
      (name_eq-other a top (λ same. Single-apart a l.between (ancestors ts x) (subst Single l.path (Single-proper ts y n.below.once l.stands)) i
      (subst (λ z. In z (ancestors ts x)) (sym same) n.below.above))))) ∙ n.stop_is

  -- so the search may go on there
  pub low_nears : Nears ts w top stop y
  low_nears = record {
    below = low_below;
    stop_is = low_stop;
    path = all-from (is_opened ts w) (ancestors ts y) (λ a i. by a (In-parts a l.between (ancestors ts x) (subst (In a) l.path i)));
    apart = λ i. n.apart (subst (In w.current) tree i);
  }
    where
      by : (a : NodeName) → In a l.between ⊎ In a (ancestors ts x) → is_opened ts w a ≡ true
      by a (inl i) = or_left (skips ts w.filter a) _ (sym (entered-skips ts w.filter a) ∙ all-at (is_entered ts w.filter false) l.between l.skipped a i)
      by a (inr i) = all-at (is_opened ts w) (ancestors ts x) n.path a i

-- before a node the last one is found where a step back leads
pub steps-filter : (ts : Trees) (w : Walker) (stop y : NodeName) (o : Option NodeName) → StepsBehind ts w.filter stop y o →
    filter (is_candidate ts w stop) (ahead_of ts stop y) ≡ filter (is_candidate ts w stop) (up_to_tree ts stop o)
steps-filter ts w stop y o s =
    ap (filter (is_candidate ts w stop)) s.split
    ∙ (filter-append (is_candidate ts w stop) (up_to_tree ts stop o) s.passed
    ∙ (ap (λ xs. filter (is_candidate ts w stop) (up_to_tree ts stop o) ++ xs)
    (filter-less (is_accepted_but ts w.filter stop) (is_candidate ts w stop) s.passed accepted s.none_accepted)
    ∙ append-nil (filter (is_candidate ts w stop) (up_to_tree ts stop o))))
  where
    accepted : (a : NodeName) → is_candidate ts w stop a ≡ true → is_accepted_but ts w.filter stop a ≡ true
    accepted a e =
        let parts = and_parts (is_reached ts w a) _ e in
        and_from (accepts ts w.filter a) _ (and_parts (accepts ts w.filter a) _ parts.0).0 parts.1

module _ (ts : Trees) (w : Walker) (top stop y : NodeName) (at_current : Has ts w.current) (n : Nears ts w top stop y) where
  -- the node stands below the stop
  below_stop : IsBelow ts stop y
  below_stop = subst (λ z. IsBelow ts z y) n.stop_is (below-stop ts w.filter top y n.below)

  -- and in its tree
  in_stop : IsWithin ts stop y
  in_stop = within-below ts stop y below_stop

  -- the node does not stand above the current one
  off_current : is_inclusive_ancestor ts y w.current ≡ false
  off_current = is_in-not y (inclusive_ancestors ts w.current) (λ i.
      let inside = In-names (subtree ts y) w.current (below-from_above ts y w.current n.below.once at_current i) in
      let same = n.apart (In-right w.current (ahead_of ts stop y) (inclusive_descendants ts y) inside) in
      not_around ts y n.below.once n.below.stands stop below_stop.above (subst (λ z. In y (inclusive_ancestors ts z)) same i))

  -- below a node that is not skipped is no candidate
  hidden_below : skips ts w.filter y ≡ false → filter (is_candidate ts w stop) (below ts y) ≡ []
  hidden_below no_skip = filter-none (is_candidate ts w stop) (below ts y)
      (λ z i. and_left (is_reached ts w z) _
      (hidden ts (accepts ts w.filter) (is_opened ts w) stop y in_stop (or_from (skips ts w.filter y) _ no_skip off_current) z i))

  -- an accepted node is the last one
  pub nears-hit : accepts ts w.filter y ≡ true → Some y ≡ last_of (filter (is_candidate ts w stop) (up_to_tree ts stop (Some y)))
  nears-hit yes_y =
      let test = is_candidate ts w stop in
      let chosen : test y ≡ true = and_from (is_reached ts w y) _ (and_from (accepts ts w.filter y) _ yes_y n.path)
      (ap not (name_eq-other y stop (other-below ts stop y below_stop))) in
      sym (ap last_of (filter-append test (ahead_of ts stop y) (inclusive_descendants ts y)
      ∙ ap (λ xs. filter test (ahead_of ts stop y) ++ xs)
      (ap (filter test) (here ts stop y in_stop) ∙ (kept chosen ∙ ap (λ xs. y ∷ xs) (hidden_below (accepts-skips ts w.filter y yes_y)))))
      ∙ last_of-end (filter test (ahead_of ts stop y)) y)
    where
      kept : is_candidate ts w stop y ≡ true → filter (is_candidate ts w stop) (y ∷ below ts y) ≡ y ∷ filter (is_candidate ts w stop) (below ts y)
      kept e = rw e refl

  -- in the tree of another one is none
  pub nears-miss : accepts ts w.filter y ≡ false → (is_entered ts w.filter false y ≡ true → inclusive_descendants ts y ≡ y ∷ [])
      → filter (is_candidate ts w stop) (up_to_tree ts stop (Some y)) ≡ filter (is_candidate ts w stop) (ahead_of ts stop y)
  nears-miss no_y ends =
      filter-append (is_candidate ts w stop) (ahead_of ts stop y) (inclusive_descendants ts y)
      ∙ (ap (λ xs. filter (is_candidate ts w stop) (ahead_of ts stop y) ++ xs) (by (cases_Bool (skips ts w.filter y))) ∙
      append-nil (filter (is_candidate ts w stop) (ahead_of ts stop y)))
    where
      unchosen : is_candidate ts w stop y ≡ false
      unchosen = and_left (is_reached ts w y) _ (and_left (accepts ts w.filter y) _ no_y)

      by : (skips ts w.filter y ≡ true) ⊎ (skips ts w.filter y ≡ false) → filter (is_candidate ts w stop) (inclusive_descendants ts y) ≡ []
      by (inl e) = ap (filter (is_candidate ts w stop)) (ends (entered-skips ts w.filter y ∙ e)) ∙ filter-no (is_candidate ts w stop) y [] unchosen
      by (inr e) = ap (filter (is_candidate ts w stop)) (here ts stop y in_stop) ∙ (filter-no (is_candidate ts w stop) y (below ts y) unchosen ∙ hidden_below e)

  -- where a step back leads the search goes on
  pub nears-to : (z : NodeName) → StepsBehind ts w.filter stop y (Some z) → IsBelow ts top z → stop_above ts w.filter top z ≡ stop →
      (above : List NodeName) → ancestors ts y ≡ above ++ ancestors ts z → Nears ts w top stop z
  nears-to z s below_z stop_z above path = record {
    below = below_z;
    stop_is = stop_z;
    path = all-from (is_opened ts w) (ancestors ts z)
        (λ a i. all-at (is_opened ts w) (ancestors ts y) n.path a (subst (In a) (sym path) (In-right a above (ancestors ts z) i)));
    apart = λ i. n.apart (In-left w.current (ahead_of ts stop y) (inclusive_descendants ts y)
        (subst (In w.current) (sym s.split) (In-left w.current (up_to_tree ts stop (Some z)) s.passed i)));
  }

  -- and less is left
  pub nears-shorter : (o : Option NodeName) → StepsBehind ts w.filter stop y o → length (up_to_tree ts stop o) < length (up_to_tree ts stop (Some y))
  nears-shorter o s =
      omega (
        arith,
        ap (length {A = NodeName}) s.split,
        length-append (up_to_tree ts stop o) s.passed,
        length-append (ahead_of ts stop y) (inclusive_descendants ts y),
        ap (length {A = NodeName}) (here ts stop y in_stop),
      )

-- ---- the same by keys

-- where the search is, by its key
pub record ReachesBack (f : NamedTrees) (w : KeyedWalker) (top : ℕ) (from at : Option ℕ) : Type 0 where
  pub node : ForSome at (λ k. k < length f.names)
  pub nears : ForSome at (λ k. Nears f.trees (walker_view f.names w) (name_at f.names top) (stop_from f w top from) (name_at f.names k))
  pub left : last_of (filter (is_candidate f.trees (walker_view f.names w) (stop_from f w top from))
      (up_to_tree f.trees (stop_from f w top from) (option_map (name_at f.names) at)))
      ≡ last_of (filter (is_candidate f.trees (walker_view f.names w) (stop_from f w top from))
      (up_to_tree f.trees (stop_from f w top from) (option_map (name_at f.names) from)))

-- where it begins
pub ReachesBack-begin : {f : NamedTrees} → StandOnce f → StandAlone f → {w : KeyedWalker} {top : ℕ} {from : Option ℕ} → ForSome from (BeginsBackward f w top) →
    ReachesBack f w top from from
ReachesBack-begin once only {from = None} begins = record { node = λ k e. absurd (none-some k e); nears = λ k e. absurd (none-some k e); left = refl }
ReachesBack-begin {f} once only {w} {top} {from = Some j} begins =
    let b = begins j refl in
    record {
      node = λ k e. (begins k e).below.node;
      nears = λ k e. subst (λ i. Nears f.trees (walker_view f.names w) (name_at f.names top)
          (stop_above f.trees w.filter (name_at f.names top) (name_at f.names j)) (name_at f.names i)) (same_Some j k e) record {
            below = IsBelow-key f once only top j b.below;
            stop_is = refl;
            path = b.path;
            apart = λ i. b.apart (is_in-from (name_at f.names w.current)
                (up_to_tree f.trees (stop_above f.trees w.filter (name_at f.names top) (name_at f.names j)) (Some (name_at f.names j))) i);
          };
      left = refl;
    }

-- what `lowest` says of a key
pub record LowestKey (f : NamedTrees) (filter_at : Filter) (k low : ℕ) : Type 0 where
  pub node : low < length f.names
  pub tree : (top : NodeName) → is_inclusive_ancestor f.trees top (name_at f.names k) ≡ true →
      up_to_tree f.trees top (Some (name_at f.names low)) ≡ up_to_tree f.trees top (Some (name_at f.names k))
  pub ends : is_entered f.trees filter_at false (name_at f.names low) ≡ true → inclusive_descendants f.trees (name_at f.names low) ≡ name_at f.names low ∷ []
  pub path : (between : List NodeName) × (ancestors f.trees (name_at f.names low) ≡ between ++ ancestors f.trees (name_at f.names k)) ×
      (list_all (is_entered f.trees filter_at false) between ≡ true)

module _ (f : NamedTrees) (once : StandOnce f) (only : StandAlone f) (w : KeyedWalker) (top : ℕ) (at_current : w.current < length f.names)
    (from at : Option ℕ) (k : ℕ) (is : at ≡ Some k) (r : ReachesBack f w top from at) (low : ℕ) (l : LowestKey f w.filter k low) where
  -- up to the lowest node's tree stand the same nodes
  same_tree : up_to_tree f.trees (stop_from f w top from) (Some (name_at f.names low)) ≡ up_to_tree f.trees (stop_from f w top from) (Some (name_at f.names k))
  same_tree =
      let n = r.nears k is in
      let b = subst (λ z. IsBelow f.trees z (name_at f.names k)) n.stop_is (below-stop f.trees w.filter (name_at f.names top) (name_at f.names k) n.below) in
      l.tree (stop_from f w top from) (above-within f.trees (stop_from f w top from) (name_at f.names k)
      (within-below f.trees (stop_from f w top from) (name_at f.names k) b))

  -- and as many
  at_low : up_to_tree f.trees (stop_from f w top from) (Some (name_at f.names low)) ≡ up_to_tree f.trees (stop_from f w top from)
      (option_map (name_at f.names) at)
  at_low = same_tree ∙ ap (λ o. up_to_tree f.trees (stop_from f w top from) (option_map (name_at f.names) o)) (sym is)

  -- the search has come to the lowest node
  pub nears_low : Nears f.trees (walker_view f.names w) (name_at f.names top) (stop_from f w top from) (name_at f.names low)
  nears_low =
      low_nears f.trees (walker_view f.names w) (name_at f.names top) (stop_from f w top from) (name_at f.names k) (name_at f.names low) (r.nears k is)
      record { stands = Has-forest f once low l.node; between = l.path.0; path = l.path.1; skipped = l.path.2; ends = l.ends } same_tree

  -- which stands below the top
  pub low_stands : StandsBelow f top low
  low_stands = StandsBelow-key f top low l.node nears_low.below

  -- an accepted node is the one that is looked for
  pub ReachesBack-hit : accepts f.trees w.filter (name_at f.names low) ≡ true
      → Some (name_at f.names low) ≡ last_of
      (filter (is_candidate f.trees (walker_view f.names w) (stop_from f w top from))
      (up_to_tree f.trees (stop_from f w top from) (option_map (name_at f.names) from)))
  ReachesBack-hit yes_low =
      nears-hit f.trees (walker_view f.names w) (name_at f.names top) (stop_from f w top from) (name_at f.names low)
      (Has-forest f once w.current at_current) nears_low yes_low
      ∙ (ap (λ xs. last_of (filter (is_candidate f.trees (walker_view f.names w) (stop_from f w top from)) xs)) at_low ∙ r.left)

  module _ (to : Option ℕ) (s : StepsBehind f.trees w.filter (stop_above f.trees w.filter (name_at f.names top) (name_at f.names low))
      (name_at f.names low) (option_map (name_at f.names) to)) where
    steps : StepsBehind f.trees w.filter (stop_from f w top from) (name_at f.names low) (option_map (name_at f.names) to)
    steps = subst (λ z. StepsBehind f.trees w.filter z (name_at f.names low) (option_map (name_at f.names) to)) nears_low.stop_is s

    pub ReachesBack-shorter : length (up_to_tree f.trees (stop_from f w top from) (option_map (name_at f.names) to)) < length
        (up_to_tree f.trees (stop_from f w top from) (option_map (name_at f.names) at))
    ReachesBack-shorter =
        subst (λ xs. length (up_to_tree f.trees (stop_from f w top from) (option_map (name_at f.names) to)) < length xs) at_low
        (nears-shorter f.trees (walker_view f.names w) (name_at f.names top) (stop_from f w top from) (name_at f.names low)
        (Has-forest f once w.current at_current) nears_low (option_map (name_at f.names) to) steps)

    pub ReachesBack-step : accepts f.trees w.filter (name_at f.names low) ≡ false → ForSome to (StandsBelow f top)
        → ForSome to (λ j. SameStop f w.filter top j (stop_above f.trees w.filter (name_at f.names top) (name_at f.names low)))
        → ForSome to (λ j. (above : List NodeName) × (ancestors f.trees (name_at f.names low) ≡ above ++ ancestors f.trees (name_at f.names j))) →
        ReachesBack f w top from to
    ReachesBack-step no_low below_to stop_to path_to =
        let v = walker_view f.names w in
        let stop = stop_from f w top from in
        let here_current = Has-forest f once w.current at_current in
        record {
          node = λ j e. (below_to j e).node;
          nears = λ j e.
              nears-to f.trees v (name_at f.names top) stop (name_at f.names low) here_current nears_low (name_at f.names j)
              (subst (λ o. StepsBehind f.trees w.filter stop (name_at f.names low) (option_map (name_at f.names) o)) e steps)
              (IsBelow-key f once only top j (below_to j e)) (stop_to j e ∙ nears_low.stop_is) (path_to j e).0 (path_to j e).1;
          left =
              ap last_of (sym (nears-miss f.trees v (name_at f.names top) stop (name_at f.names low) here_current nears_low no_low l.ends
              ∙ steps-filter f.trees v stop (name_at f.names low) (option_map (name_at f.names) to) steps))
              ∙ (ap (λ xs. last_of (filter (is_candidate f.trees v stop) xs)) at_low ∙ r.left);
        }
