-- The walk along the siblings on one side of a node, as far as the nearest element.
use Rattle.dom_selectors.proofs.Cited.{◌≡◌, ℕ, suc, ◌<◌, Bool, true, false, List, [], ◌∷◌, ◌++◌, length, Option, Some, None, refl, ap, sym, ◌∙◌, arith}
use Rattle.dom_selectors.proofs.Cited.{length-append, filter, option_map, NodeName, first_of, last_of, Trees, is_element, kind_of, NamedTrees, name_at}
use Rattle.dom_selectors.proofs.Cited.{StandOnce, StandAlone, Once-forest, Has-forest, filter-no, first-hit, last-hit, last-miss, Side, sibling_on, element_on}
use Rattle.dom_selectors.specs.declared.siblings.Side.TheVariants.{Before, Behind}
use Rattle.dom_selectors.proofs.Beside.{before_list, after_list, up_to, from, before-previous, after-next}

-- the siblings on a side of a node
abbrev siblings_on : Side → Trees → NodeName → List NodeName
siblings_on Before ts x = before_list ts x
siblings_on Behind ts x = after_list ts x

module _ (f : NamedTrees) where
  abbrev elements : NodeName → Bool
  elements y = is_element (kind_of f.trees y)

  -- the siblings on a side from one on; none where there is no node
  abbrev pub left_on : Side → Option ℕ → List NodeName
  left_on Before at = up_to f.trees (option_map (name_at f.names) at)
  left_on Behind at = from f.trees (option_map (name_at f.names) at)

  -- the nearest element among these
  abbrev pub nearest_from : Side → Option ℕ → Option NodeName
  nearest_from Before at = last_of (filter elements (left_on Before at))
  nearest_from Behind at = first_of (filter elements (left_on Behind at))

  -- at the end there is none
  pub nearest-none : (side : Side) → nearest_from side None ≡ None
  nearest-none Before = refl
  nearest-none Behind = refl

  -- an element is the nearest from itself on
  pub nearest-here : {k : ℕ} {at : Option ℕ} → at ≡ Some k → (side : Side) → is_element (kind_of f.trees (name_at f.names k)) ≡ true →
      Some (name_at f.names k) ≡ nearest_from side at
  nearest-here {k = k} here Before hit =
      sym (ap (nearest_from Before) here ∙ last-hit elements (before_list f.trees (name_at f.names k)) (name_at f.names k) hit)
  nearest-here {k = k} here Behind hit =
      sym (ap (nearest_from Behind) here ∙ first-hit elements (name_at f.names k) (after_list f.trees (name_at f.names k)) hit)

  -- A node, and what stands just beside it.
  module _ (once : StandOnce f) (only : StandAlone f) {k : ℕ} (o : Option ℕ) (node : k < length f.names) where
    beside : (side : Side) → option_map (name_at f.names) o ≡ sibling_on side f.trees (name_at f.names k) →
        siblings_on side f.trees (name_at f.names k) ≡ left_on side o
    beside Before is = before-previous f.trees (name_at f.names k) (Once-forest f once only) (Has-forest f once k node) ∙ ap (up_to f.trees) (sym is)
    beside Behind is = after-next f.trees (name_at f.names k) (Once-forest f once only) (Has-forest f once k node) ∙ ap (from f.trees) (sym is)

    -- the nearest element from there on is that of the node
    pub nearest-first : (side : Side) → option_map (name_at f.names) o ≡ sibling_on side f.trees (name_at f.names k) →
        nearest_from side o ≡ element_on side f.trees (name_at f.names k)
    nearest-first Before is = ap (λ xs. last_of (filter elements xs)) (sym (beside Before is))
    nearest-first Behind is = ap (λ xs. first_of (filter elements xs)) (sym (beside Behind is))

    module _ {at : Option ℕ} (here : at ≡ Some k) where
      -- fewer are left
      pub nearest-less : (side : Side) → option_map (name_at f.names) o ≡ sibling_on side f.trees (name_at f.names k) →
          length (left_on side o) < length (left_on side at)
      nearest-less Before is =
          let front = before_list f.trees (name_at f.names k) in
          let longer : length (left_on Before at) ≡ length (front ++ name_at f.names k ∷ []) = ap (λ a. length (left_on Before a)) here in
          omega (arith, longer, length-append front (name_at f.names k ∷ []), ap (length {A = NodeName}) (beside Before is))
      nearest-less Behind is =
          let longer : length (left_on Behind at) ≡ suc (length (after_list f.trees (name_at f.names k))) = ap (λ a. length (left_on Behind a)) here in
          omega (arith, longer, ap (length {A = NodeName}) (beside Behind is))

      -- a node that is no element is passed by
      pub nearest-more : (side : Side) → option_map (name_at f.names) o ≡ sibling_on side f.trees (name_at f.names k) →
          is_element (kind_of f.trees (name_at f.names k)) ≡ false → nearest_from side o ≡ nearest_from side at
      nearest-more Before is miss =
          nearest-first Before is ∙ sym (ap (nearest_from Before) here
          ∙ ap last_of (last-miss elements (before_list f.trees (name_at f.names k)) (name_at f.names k) miss))
      nearest-more Behind is miss =
          nearest-first Behind is ∙ sym (ap (nearest_from Behind) here
          ∙ ap first_of (filter-no elements (name_at f.names k) (after_list f.trees (name_at f.names k)) miss))
