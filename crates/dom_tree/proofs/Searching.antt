-- Steps along tree order by keys, and what they leave to search.
use Rattle.dom_base.proofs.Std.{◌≡◌, inl, ℕ, ◌<◌, Bool, false, [], ◌∷◌, ◌++◌, length, Option, Some, refl, sym, ap, subst, ◌∙◌, arith, suc, length-append}
use Rattle.dom_base.proofs.Std.{filter, option_map, ForSome}
use Rattle.dom_model.proofs.Model.{NodeName, first_of, last_of}
use Rattle.dom_tree.specs.Definitions.{NamedTrees, name_at, StandsIn}
use Rattle.dom_laws.specs.Within.{ahead_of, behind, from_node, up_to_node}
use Rattle.dom_laws.proofs.Laws.{In, first-miss, last-miss, above-present, below-from_above, IsWithin, above-within, following_place, preceding_place}
use Rattle.dom_laws.proofs.Laws.{behind-next, ahead-previous}
use Rattle.dom_tree.proofs.Standing.{StandOnce, StandAlone, Once-forest, Has-forest, IsWithin-forest}

-- the key of a node that was found stands in the tree of another one where the node does
pub StandsIn-found : {name : Option NodeName} (f : NamedTrees) (top : ℕ) (found : Option ℕ) → option_map (name_at f.names) found ≡ name →
    ForSome found (λ k. k < length f.names) → ((y : NodeName) → name ≡ Some y → IsWithin f.trees (name_at f.names top) y) → ForSome found (StandsIn f top)
StandsIn-found f top found is node inside =
    λ k e. record {
      node = node k e;
      within = above-within f.trees (name_at f.names top) (name_at f.names k)
          (inside (name_at f.names k) (sym is ∙ ap (option_map (name_at f.names)) e));
    }

-- ---- where keys stand, and a step of a search along the whole order

-- Keys of a forest in which each node stands once.
module _ (f : NamedTrees) (once : StandOnce f) (only : StandAlone f) where
  -- a node that stands in a tree by a forest's word
  pub IsWithin-key : (top k : ℕ) → StandsIn f top k → IsWithin f.trees (name_at f.names top) (name_at f.names k)
  IsWithin-key top k s = IsWithin-forest f once only (Has-forest f once k s.node) s.within

  -- each node stands in its own tree
  pub IsWithin-itself : (k : ℕ) → k < length f.names → IsWithin f.trees (name_at f.names k) (name_at f.names k)
  IsWithin-itself k node =
      let at = Has-forest f once k node in
      let w = above-present f.trees (name_at f.names k) at in
      let single = Once-forest f once only in
      record {
        once = single;
        top_stands = at;
        stands = below-from_above f.trees (name_at f.names k) (name_at f.names k) single at (subst (In (name_at f.names k)) (sym w.1) (inl refl));
      }

  -- a step to the node behind
  pub following_step : (top k : ℕ) (next : Option ℕ) → StandsIn f top k
      → option_map (name_at f.names) next ≡ first_of (behind f.trees (name_at f.names top) (name_at f.names k)) → ForSome next (λ j. j < length f.names)
      → (behind f.trees (name_at f.names top) (name_at f.names k) ≡ from_node f.trees (name_at f.names top) (option_map (name_at f.names) next)) ×
      ForSome next (StandsIn f top)
  following_step top k next s is node =
      let w = IsWithin-key top k s in (
        behind-next f.trees (name_at f.names top) (name_at f.names k) w (option_map (name_at f.names) next) (sym is),
        StandsIn-found f top next is node (λ y e. (following_place f.trees (name_at f.names top) (name_at f.names k) y w e).0),
      )

-- to the node before, in a search backward
pub preceding_step : {f : NamedTrees} → StandOnce f → StandAlone f → {top k : ℕ} (prev : Option ℕ) → StandsIn f top k
    → option_map (name_at f.names) prev ≡ last_of (ahead_of f.trees (name_at f.names top) (name_at f.names k)) → ForSome prev (λ j. j < length f.names)
    → (ahead_of f.trees (name_at f.names top) (name_at f.names k) ≡ up_to_node f.trees (name_at f.names top) (option_map (name_at f.names) prev))
    × ForSome prev (StandsIn f top)
preceding_step {f} once only {top} {k} prev s is node =
    let w = IsWithin-key f once only top k s in (
      ahead-previous f.trees (name_at f.names top) (name_at f.names k) w (option_map (name_at f.names) prev) (sym is),
      StandsIn-found f top prev is node (λ y e. (preceding_place f.trees (name_at f.names top) (name_at f.names k) y w e).0),
    )

-- A search forward has come to a key, and goes on to what is behind it.
module _ (f : NamedTrees) (top k : ℕ) (at next : Option ℕ) (is : at ≡ Some k)
    (e : behind f.trees (name_at f.names top) (name_at f.names k) ≡ from_node f.trees (name_at f.names top) (option_map (name_at f.names) next)) where
  -- what is left to search is less
  pub length-behind : length (from_node f.trees (name_at f.names top) (option_map (name_at f.names) next)) < length
      (from_node f.trees (name_at f.names top) (option_map (name_at f.names) at))
  length-behind =
      let longer : length (from_node f.trees (name_at f.names top) (option_map (name_at f.names) at)) ≡ suc
      (length (behind f.trees (name_at f.names top) (name_at f.names k))) =
      ap (λ o. length (from_node f.trees (name_at f.names top) (option_map (name_at f.names) o))) is in
      omega (arith, longer, ap (length {A = NodeName}) e)

  -- a node that the filter does not accept is passed
  pub left-behind : (p : NodeName → Bool) → p (name_at f.names k) ≡ false
      → first_of (filter p (from_node f.trees (name_at f.names top) (option_map (name_at f.names) next))) ≡ first_of
      (filter p (from_node f.trees (name_at f.names top) (option_map (name_at f.names) at)))
  left-behind p passed =
      sym (ap (λ o. first_of (filter p (from_node f.trees (name_at f.names top) (option_map (name_at f.names) o)))) is ∙
      first-miss p (name_at f.names k) _ _ passed e)

-- A search backward has come to a key, and goes on to what is before it.
module _ {k : ℕ} {at : Option ℕ} (f : NamedTrees) (top : ℕ) (prev : Option ℕ) (is : at ≡ Some k)
    (e : ahead_of f.trees (name_at f.names top) (name_at f.names k) ≡ up_to_node f.trees (name_at f.names top) (option_map (name_at f.names) prev)) where
  -- a search backward has one node less before it at each step
  pub length-ahead : length (up_to_node f.trees (name_at f.names top) (option_map (name_at f.names) prev)) < length
      (up_to_node f.trees (name_at f.names top) (option_map (name_at f.names) at))
  length-ahead =
      let front = ahead_of f.trees (name_at f.names top) (name_at f.names k) in
      let longer : length (up_to_node f.trees (name_at f.names top) (option_map (name_at f.names) at)) ≡ length (front ++ name_at f.names k ∷ []) =
      ap (λ o. length (up_to_node f.trees (name_at f.names top) (option_map (name_at f.names) o))) is in
      omega (arith, longer, length-append front (name_at f.names k ∷ []), ap (length {A = NodeName}) e)

  -- a search backward that passes a node still finds what it would have found
  pub left-ahead : (p : NodeName → Bool) → p (name_at f.names k) ≡ false
      → last_of (filter p (up_to_node f.trees (name_at f.names top) (option_map (name_at f.names) prev))) ≡ last_of
      (filter p (up_to_node f.trees (name_at f.names top) (option_map (name_at f.names) at)))
  left-ahead p passed =
      sym (ap (λ o. last_of (filter p (up_to_node f.trees (name_at f.names top) (option_map (name_at f.names) o)))) is
      ∙ ap last_of (last-miss p (ahead_of f.trees (name_at f.names top) (name_at f.names k)) (name_at f.names k) passed ∙ ap (filter p) e))
