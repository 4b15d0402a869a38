-- Steps down and up by keys in a search among siblings.
use Rattle.dom_traversal.proofs.Cited.{◌≡◌, inl, inr, ℕ, ◌<◌, true, false, ◌++◌, length, Option, Some, None, refl, sym, ap, subst, ◌∙◌, arith, is_some}
use Rattle.dom_traversal.proofs.Cited.{option_map, ForSome, none-some, same_Some, above-proper, accepts, ancestors, behind, behind_is, beyond, children_of}
use Rattle.dom_traversal.proofs.Cited.{Filter, first_child, first_of, first_split, Has-forest, here, In, In-from, inclusive_ancestors, is_in-from, name_at}
use Rattle.dom_traversal.proofs.Cited.{NamedTrees, no_child, no_key, NodeName, Once-forest, parent_of, StandAlone, StandOnce, StandsBelow, was_some, is_stop}
use Rattle.dom_traversal.proofs.Cited.{stop_above}
use Rattle.dom_traversal.proofs.Climbing.{IsInner}
use Rattle.dom_traversal.proofs.Stops.{IsBelow, within-below, root-below, below-stop, below-child, below-up, path_up, stop-above}

-- a key that stands below another one, by a forest's word
pub IsBelow-key : (f : NamedTrees) → StandOnce f → StandAlone f → (top k : ℕ) → StandsBelow f top k → IsBelow f.trees (name_at f.names top) (name_at f.names k)
IsBelow-key f once only top k s = record { once = Once-forest f once only; stands = Has-forest f once k s.node; above = In-from _ _ s.below }

-- and the other way round
pub StandsBelow-key : (f : NamedTrees) (top k : ℕ) → k < length f.names → IsBelow f.trees (name_at f.names top) (name_at f.names k) → StandsBelow f top k
StandsBelow-key f top k node b = record { node = node; below = is_in-from _ _ b.above }

-- whether a key's node has a stop
abbrev pub SameStop : NamedTrees → Filter → ℕ → ℕ → NodeName → Type 0
SameStop f filter top k stop = stop_above f.trees filter (name_at f.names top) (name_at f.names k) ≡ stop

-- the key of a node with another one's stop
pub record Follows (f : NamedTrees) (filter : Filter) (top k : ℕ) (found : Option ℕ) (looked_for : Option NodeName) : Type 0 where
  pub value : option_map (name_at f.names) found ≡ looked_for
  pub below : ForSome found (StandsBelow f top)
  pub stop : ForSome found (λ j. stop_above f.trees filter (name_at f.names top) (name_at f.names j) ≡ stop_above f.trees filter
      (name_at f.names top) (name_at f.names k))

module _ (f : NamedTrees) (once : StandOnce f) (only : StandAlone f) (filter : Filter) (top k : ℕ) (s : StandsBelow f top k) where
  -- a first child is where a step onward leads
  pub follows_child : accepts f.trees filter (name_at f.names k) ≡ false → (child : Option ℕ) →
      option_map (name_at f.names) child ≡ first_of (children_of f.trees (name_at f.names k)) → ForSome child (λ j. j < length f.names) →
      is_some child ≡ true
      → Follows f filter top k child (first_of (behind f.trees (stop_above f.trees filter (name_at f.names top) (name_at f.names k)) (name_at f.names k)))
  follows_child no_k child is node some =
      let b = IsBelow-key f once only top k s in
      let stop = stop_above f.trees filter (name_at f.names top) (name_at f.names k) in
      let w = within-below f.trees stop (name_at f.names k) (below-stop f.trees filter (name_at f.names top) (name_at f.names k) b) in
      let found = was_some child some in
      let found_at : (j : ℕ) → child ≡ Some j → first_of (children_of f.trees (name_at f.names k)) ≡ Some (name_at f.names j) =
      λ j e. sym is ∙ ap (option_map (name_at f.names)) e in
      let among : (j : ℕ) → child ≡ Some j → In (name_at f.names j) (children_of f.trees (name_at f.names k)) = λ j e.
      let split = first_split (children_of f.trees (name_at f.names k)) (name_at f.names j) (found_at j e) in subst (In (name_at f.names j))
      (sym split.1) (inl refl) in
      let first = first_child f.trees stop (name_at f.names k) (name_at f.names found.0) w (found_at found.0 found.1) in
      record {
        value =
            ap (option_map (name_at f.names)) found.1
            ∙ sym (ap first_of (behind_is f.trees stop (name_at f.names k) w ∙
            (first.1 ∙ ap (λ xs. xs ++ beyond f.trees stop (name_at f.names found.0)) (here f.trees stop (name_at f.names found.0) first.0))));
        below = λ j e. StandsBelow-key f top j (node j e)
            (below-child filter (name_at f.names j) b no_k (among j e)).0;
        stop = λ j e. (below-child filter (name_at f.names j) b no_k (among j e)).1;
      }

  -- a node without children has nothing but what is beyond it behind it
  pub behind_leaf : (child : Option ℕ) → option_map (name_at f.names) child ≡ first_of (children_of f.trees (name_at f.names k)) → is_some child ≡ false
      → behind f.trees (stop_above f.trees filter (name_at f.names top) (name_at f.names k)) (name_at f.names k) ≡ beyond f.trees
      (stop_above f.trees filter (name_at f.names top) (name_at f.names k)) (name_at f.names k)
  behind_leaf child is none_left =
      let stop = stop_above f.trees filter (name_at f.names top) (name_at f.names k) in
      let w = within-below f.trees stop (name_at f.names k)
      (below-stop f.trees filter (name_at f.names top) (name_at f.names k) (IsBelow-key f once only top k s)) in
      behind_is f.trees stop (name_at f.names k) w ∙ ap (λ xs. xs ++ beyond f.trees stop (name_at f.names k))
      (no_child f.trees (name_at f.names k) (no_key (name_at f.names) child is none_left))

  -- a node below another one has a parent
  pub no_parent_below : (up : Option ℕ) → option_map (name_at f.names) up ≡ parent_of f.trees (name_at f.names k) → up ≡ None → ⊥
  no_parent_below up is e = root-below f.trees (name_at f.names top) (name_at f.names k) (IsBelow-key f once only top k s)
      (sym is ∙ ap (option_map (name_at f.names)) e)

-- a step up below the stop
pub record Rises (f : NamedTrees) (filter : Filter) (top k p : ℕ) : Type 0 where
  pub below : StandsBelow f top p
  pub stop : stop_above f.trees filter (name_at f.names top) (name_at f.names k) ≡ stop_above f.trees filter (name_at f.names top) (name_at f.names p)
  pub higher : length (ancestors f.trees (name_at f.names p)) < length (ancestors f.trees (name_at f.names k))

module _ (f : NamedTrees) (once : StandOnce f) (only : StandAlone f) (filter : Filter) (top k p : ℕ) (s : StandsBelow f top k)
    (up : Some (name_at f.names p) ≡ parent_of f.trees (name_at f.names k)) where
  -- a parent that is no stop has the same stop
  pub rises : p < length f.names → is_stop f.trees filter (name_at f.names top) (name_at f.names p) ≡ false → Rises f filter top k p
  rises node e =
      let b = IsBelow-key f once only top k s in
      record {
        below = StandsBelow-key f top p node (below-up f.trees filter (name_at f.names top) (name_at f.names k) (name_at f.names p) b (sym up) e);
        stop = stop-above f.trees filter (name_at f.names top) (name_at f.names k) (name_at f.names p) b (sym up) e;
        higher = omega (arith, ap (length {A = NodeName}) (path_up f.trees filter (name_at f.names top) (name_at f.names k) (name_at f.names p) b (sym up)));
      }

-- a node that stands in the tree of another one and is not that one stands below it
pub inner-below : {f : NamedTrees} {top k : ℕ} → IsInner f top k → StandsBelow f top k
inner-below {f} {top} {k} i =
    let at = Has-forest f i.once k i.stands.node in
    record {
      node = i.stands.node;
      below = is_in-from (name_at f.names top) (ancestors f.trees (name_at f.names k))
          (elim (subst (In (name_at f.names top)) (above-proper f.trees (name_at f.names k) at)
          (In-from (name_at f.names top) (inclusive_ancestors f.trees (name_at f.names k)) i.stands.within)) [
            | inl same ↦ absurd (i.other (sym same))
            | inr above ↦ above
          ]);
    }

-- so does its name
pub IsBelow-inner : {f : NamedTrees} {top k : ℕ} → IsInner f top k → IsBelow f.trees (name_at f.names top) (name_at f.names k)
IsBelow-inner {f} {top} {k} i = IsBelow-key f i.once i.only top k (inner-below i)

-- the node at which a search stops stays, for the name of a key
pub stop-some : (f : NamedTrees) (filter : Filter) (top k : ℕ) (found : Option ℕ)
    → ForSome found (λ j. stop_above f.trees filter (name_at f.names top) (name_at f.names j) ≡ stop_above f.trees filter (name_at f.names top)
    (name_at f.names k))
    → ForSome (option_map (name_at f.names) found) (λ y. stop_above f.trees filter (name_at f.names top) y ≡ stop_above f.trees filter (name_at f.names top)
    (name_at f.names k))
stop-some f filter top k None same = λ y e. absurd (none-some y e)
stop-some f filter top k (Some j) same = λ y e. ap (stop_above f.trees filter (name_at f.names top)) (sym (same_Some _ y e)) ∙ same j refl
