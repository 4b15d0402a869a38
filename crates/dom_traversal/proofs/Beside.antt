-- Steps beside by keys in a search among siblings, in a direction.
use Rattle.dom_traversal.proofs.Cited.{◌≡◌, ℕ, ◌<◌, true, false, not, List, [], ◌∷◌, ◌++◌, length, Option, Some, None, refl, sym, ap, subst, ◌∙◌, append_assoc}
use Rattle.dom_traversal.proofs.Cited.{filter, is_some, find, unwrap_or, option_map, ForSome, and_left, and_right, or_parts, append-nil, accepts, ahead_of}
use Rattle.dom_traversal.proofs.Cited.{ancestors, beyond, Filter, filter-no, first_of, name_at, name_eq-from, NamedTrees, no_key, NodeName, parent_of}
use Rattle.dom_traversal.proofs.Cited.{StandAlone, StandOnce, StandsBelow, top_places, Trees, up_to_tree, was_some, within-top, Direction, is_accepted_but}
use Rattle.dom_traversal.proofs.Cited.{is_stop, Next, Previous, sibling_in, StepsBeside, stop_above}
use Rattle.dom_traversal.proofs.Stops.{IsBelow, within-below, stop-here, stop-above, path_up, below-stop, ahead_of-previous, ahead_of-parent, aside_next}
use Rattle.dom_traversal.proofs.Stops.{aside_ends, aside_up}
use Rattle.dom_traversal.proofs.Aside.{IsBelow-key, StandsBelow-key, SameStop, rises}

-- what is left to search backward beside x is what is left beside y, and nodes of which none is accepted
pub record HasPassed (ts : Trees) (filter_at : Filter) (top x y : NodeName) : Type 0 where
  pub passed : List NodeName
  pub split : ahead_of ts top x ≡ ahead_of ts top y ++ passed
  pub none_accepted : filter (is_accepted_but ts filter_at top) passed ≡ []

-- what is left to search in a direction beside x is left beside y
abbrev pub IsLeftBeside : Direction → Trees → Filter → NodeName → NodeName → NodeName → Type 0
IsLeftBeside Next ts filter_at top x y = beyond ts top y ≡ beyond ts top x
IsLeftBeside Previous ts filter_at top x y = HasPassed ts filter_at top x y

-- at the beginning
left-itself : (d : Direction) (ts : Trees) (filter_at : Filter) (top x : NodeName) → IsLeftBeside d ts filter_at top x x
left-itself Next ts filter_at top x = refl
left-itself Previous ts filter_at top x = record { passed = []; split = sym (append-nil (ahead_of ts top x)); none_accepted = refl }

-- a sibling stands below the top too, with the same nodes above it
sibling-below : (d : Direction) {ts : Trees} {top x s : NodeName} (filter_at : Filter) → IsBelow ts top x → sibling_in d ts x ≡ Some s →
    IsBelow ts top s × (ancestors ts s ≡ ancestors ts x)
sibling-below Next filter_at b e = let is = aside_next filter_at b e in (is.1, is.2)
sibling-below Previous filter_at b e = let is = ahead_of-previous filter_at b e in (is.1, is.2)

module _ {ts : Trees} {top y limit : NodeName} (filter_at : Filter) (b : IsBelow ts top y) (same : stop_above ts filter_at top y ≡ limit) where
  -- without a sibling before it, a node comes just behind its parent
  leaves : {p : NodeName} → parent_of ts y ≡ Some p → sibling_in Previous ts y ≡ None → ahead_of ts limit y ≡ ahead_of ts limit p ++ p ∷ []
  leaves {p} up none =
      ap (λ z. ahead_of ts z y) (sym same) ∙ (ahead_of-parent filter_at b none up ∙ ap (λ z. ahead_of ts z p ++ p ∷ []) same)

  -- a sibling is where a step beside leads
  left-sibling : (x : NodeName) (d : Direction) (s : NodeName) → IsLeftBeside d ts filter_at limit x y → sibling_in d ts y ≡ Some s →
      StepsBeside d ts filter_at limit x (Some s)
  left-sibling x Next s left e = sym (aside_next filter_at b e).0 ∙ (ap (λ z. first_of (beyond ts z y)) same ∙ ap first_of left)
  left-sibling x Previous s left e = record {
    passed = left.passed;
    split =
        left.split
        ∙ ap (λ xs. xs ++ left.passed)
        (ap (λ z. ahead_of ts z y) (sym same) ∙ ((ahead_of-previous filter_at b e).0 ∙ ap (λ z. up_to_tree ts z (Some s)) same));
    none_accepted = left.none_accepted;
  }

  module _ (x : NodeName) {p : NodeName} (up : parent_of ts y ≡ Some p) where
    -- without a sibling, and below the stop, the search goes on beside the parent
    left-parent : (d : Direction) → IsLeftBeside d ts filter_at limit x y → sibling_in d ts y ≡ None → is_stop ts filter_at top p ≡ false →
        IsLeftBeside d ts filter_at limit x p
    left-parent Next left none e =
        ap (λ z. beyond ts z p) (sym same ∙ stop-above ts filter_at top y p b up e) ∙
        (sym (aside_up filter_at b none up e) ∙ (ap (λ z. beyond ts z y) same ∙ left))
    left-parent Previous left none e = record {
      passed = p ∷ left.passed;
      split = left.split ∙ (ap (λ xs. xs ++ left.passed) (leaves up none) ∙ append_assoc (ahead_of ts limit p) (p ∷ []) left.passed);
      none_accepted = filter-no (is_accepted_but ts filter_at limit) p left.passed
          (and_left (accepts ts filter_at p) _ (or_parts (accepts ts filter_at p) _ e).0) ∙ left.none_accepted;
    }

    -- at the stop it ends
    left-stop : (d : Direction) → IsLeftBeside d ts filter_at limit x y → sibling_in d ts y ≡ None → is_stop ts filter_at top p ≡ true →
        StepsBeside d ts filter_at limit x None
    left-stop Next left none e = ap first_of (sym (aside_ends filter_at b none up e) ∙ (ap (λ z. beyond ts z y) same ∙ left))
    left-stop Previous left none e =
        let here = stop-here ts filter_at top y p b up e in
        let at_stop = subst (λ z. IsBelow ts z y) here (below-stop ts filter_at top y b) in
        let nothing : ahead_of ts p p ≡ [] = (top_places ts p (within-top ts p y (within-below ts p y at_stop))).0 in
        record {
          passed = p ∷ left.passed;
          split =
              left.split
              ∙ ap (λ xs. xs ++ left.passed)
              (leaves up none ∙ (ap (λ z. ahead_of ts z p ++ p ∷ []) (sym same ∙ here) ∙ ap (λ xs. xs ++ p ∷ []) nothing));
          none_accepted = filter-no (is_accepted_but ts filter_at limit) p left.passed
              (and_right (accepts ts filter_at p) _ (ap not (name_eq-from p limit (sym here ∙ same)))) ∙ left.none_accepted;
        }

-- from a key a search in a direction has risen to another one
pub record HasRisen (d : Direction) (f : NamedTrees) (filter_at : Filter) (top key at : ℕ) : Type 0 where
  pub below : StandsBelow f top at
  pub stop : SameStop f filter_at top at (stop_above f.trees filter_at (name_at f.names top) (name_at f.names key))
  pub left : IsLeftBeside d f.trees filter_at (stop_above f.trees filter_at (name_at f.names top) (name_at f.names key)) (name_at f.names key)
      (name_at f.names at)
  pub above : List NodeName
  pub path : ancestors f.trees (name_at f.names key) ≡ above ++ ancestors f.trees (name_at f.names at)

-- the search begins at the key itself
pub HasRisen-begin : (d : Direction) (f : NamedTrees) (filter_at : Filter) (top key : ℕ) → StandsBelow f top key → HasRisen d f filter_at top key key
HasRisen-begin d f filter_at top key s = record {
  below = s;
  stop = refl;
  left = left-itself d f.trees filter_at (stop_above f.trees filter_at (name_at f.names top) (name_at f.names key)) (name_at f.names key);
  above = [];
  path = refl;
}

-- what a step beside answers
pub record FollowsBeside (d : Direction) (f : NamedTrees) (filter_at : Filter) (top key : ℕ) (found : Option ℕ) : Type 0 where
  pub value : StepsBeside d f.trees filter_at (stop_above f.trees filter_at (name_at f.names top) (name_at f.names key)) (name_at f.names key)
      (option_map (name_at f.names) found)
  pub below : ForSome found (StandsBelow f top)
  pub stop : ForSome found (λ j. SameStop f filter_at top j (stop_above f.trees filter_at (name_at f.names top) (name_at f.names key)))
  pub path : ForSome found (λ j. (above : List NodeName) × (ancestors f.trees (name_at f.names key) ≡ above ++ ancestors f.trees (name_at f.names j)))

module _ (d : Direction) (f : NamedTrees) (once : StandOnce f) (only : StandAlone f) (filter_at : Filter) (top key at : ℕ)
    (a : HasRisen d f filter_at top key at) (found : Option ℕ)
    (is : option_map (name_at f.names) found ≡ sibling_in d f.trees (name_at f.names at)) where
  -- a sibling is where a step beside leads
  pub beside_found : ForSome found (λ j. j < length f.names) → is_some found ≡ true → FollowsBeside d f filter_at top key found
  beside_found node some =
      let b = IsBelow-key f once only top at a.below in
      let one = was_some found some in
      let named : (j : ℕ) → found ≡ Some j → sibling_in d f.trees (name_at f.names at) ≡ Some (name_at f.names j) =
      λ j e. sym is ∙ ap (option_map (name_at f.names)) e in
      record {
        value = subst (λ o. StepsBeside d f.trees filter_at (stop_above f.trees filter_at (name_at f.names top) (name_at f.names key))
            (name_at f.names key) (option_map (name_at f.names) o)) (sym one.1)
            (left-sibling filter_at b a.stop (name_at f.names key) d (name_at f.names one.0) a.left (named one.0 one.1));
        below = λ j e. StandsBelow-key f top j (node j e) (sibling-below d filter_at b (named j e)).0;
        stop = λ j e. same_path (name_at f.names j) (sibling-below d filter_at b (named j e)).1 ∙ a.stop;
        path = λ j e. (a.above, a.path ∙ ap (λ xs. a.above ++ xs) (sym (sibling-below d filter_at b (named j e)).1));
      }
    where
      same_path : (y : NodeName) → ancestors f.trees y ≡ ancestors f.trees (name_at f.names at) →
          stop_above f.trees filter_at (name_at f.names top) y ≡ stop_above f.trees filter_at (name_at f.names top) (name_at f.names at)
      same_path y e = ap (λ path. unwrap_or (find (is_stop f.trees filter_at (name_at f.names top)) path) (name_at f.names top)) e

  module _ (p : ℕ) (up : Some (name_at f.names p) ≡ parent_of f.trees (name_at f.names at)) (none_left : is_some found ≡ false) where
    -- without one the search goes on at the parent
    pub beside_up : p < length f.names → is_stop f.trees filter_at (name_at f.names top) (name_at f.names p) ≡ false → HasRisen d f filter_at top key p
    beside_up node e =
        let r = rises f once only filter_at top at p a.below up node e in
        let b = IsBelow-key f once only top at a.below in
        record {
          below = r.below;
          stop = sym r.stop ∙ a.stop;
          left = left-parent filter_at b a.stop (name_at f.names key) (sym up) d a.left (no_key (name_at f.names) found is none_left) e;
          above = a.above ++ name_at f.names p ∷ [];
          path =
              a.path
              ∙ (ap (λ xs. a.above ++ xs) (path_up f.trees filter_at (name_at f.names top) (name_at f.names at) (name_at f.names p) b (sym up))
              ∙ sym (append_assoc a.above (name_at f.names p ∷ []) (ancestors f.trees (name_at f.names p))));
        }

    -- or ends, where that is the stop
    pub beside_ends : is_stop f.trees filter_at (name_at f.names top) (name_at f.names p) ≡ true →
        StepsBeside d f.trees filter_at (stop_above f.trees filter_at (name_at f.names top) (name_at f.names key)) (name_at f.names key) None
    beside_ends e =
        let b = IsBelow-key f once only top at a.below in
        left-stop filter_at b a.stop (name_at f.names key) (sym up) d a.left (no_key (name_at f.names) found is none_left) e
