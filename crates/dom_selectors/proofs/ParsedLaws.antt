-- Texts that are kept with what they are, and one more.
use Rattle.dom_base.proofs.Std.{get_or-set_same, length-set, set, slice_get, slice_get-get_or, slice_get-map}
use Rattle.dom_selectors.proofs.Cited.{◌≡◌, ℕ, ◌<◌, ◌++◌, ◌∷◌, ◌∙◌, [], ap, arith, length, List, option_map, Some}
use Rattle.dom_selectors.specs.Parsed.{selector_in, selectors_in}
use Rattle.dom_selectors.specs.declared.parsed.Parsed.{Parsed}
use Rattle.dom_tree.proofs.Changes.{slice_get-pushed}

module _ (ps : List Parsed) (p : Parsed) where
  -- behind the others
  pub behind : slice_get (selectors_in (ps ++ p ∷ [])) (length ps) ≡ Some (selector_in p)
  behind = slice_get-map selector_in (ps ++ p ∷ []) (length ps) ∙ ap (option_map selector_in) (slice_get-pushed ps p)

  -- in the place of another one
  pub in_place : (i : ℕ) → i < length ps → slice_get (selectors_in (set ps i p)) i ≡ Some (selector_in p)
  in_place i l =
      slice_get-map selector_in (set ps i p) i
      ∙ ap (option_map selector_in)
      (slice_get-get_or (set ps i p) i p (omega (arith, l, length-set ps i p)) ∙ ap Some (get_or-set_same ps i p p l))
