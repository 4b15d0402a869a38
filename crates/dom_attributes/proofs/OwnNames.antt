-- The names of attributes in the code's map, which has each key once.
use Rattle.dom_base.proofs.Std.{◌≡◌, ℕ, Bool, false, ◌&&◌, List, [], ◌∷◌, map, refl, sym, ap, ◌∙◌, arith, nat_eq, AllByRecursion, IsDistinct, bytes_eq}
use Rattle.dom_model.proofs.Model.{text_eq, Attribute}
use Rattle.dom_attributes.specs.Attributes.{HaveOwnNames}
use Rattle.dom_attributes.proofs.Attributes.{text_test, attributes_in}

-- the test of numbers, and of texts, the other way round
nat_turned : (a b : ℕ) → nat_eq a b ≡ nat_eq b a
nat_turned a b = grind arith

text_turned : (x y : List ℕ) → text_eq x y ≡ text_eq y x
text_turned [] [] = refl
text_turned [] (b ∷ y) = refl
text_turned (a ∷ x) [] = refl
text_turned (a ∷ x) (b ∷ y) = ap (λ t. t && text_eq x y) (nat_turned a b) ∙ ap (λ t. nat_eq b a && t) (text_turned x y)

module _ {K V : Type 0} (text_of : K → List ℕ) (items_of : V → List ℕ) (eq : K → K → Bool) (same : (x y : K) → eq x y ≡ bytes_eq (text_of x) (text_of y)) where
  -- keys that differ from one
  other_names : (k : K) (es : List (K × V)) → AllByRecursion (λ y. eq k y ≡ false) (map (λ e. e.0) es) →
      AllByRecursion (λ (c : Attribute). text_eq c.name (text_of k) ≡ false) (attributes_in text_of items_of es)
  other_names k [] h = tt
  other_names k (e ∷ es) h = (text_turned (text_of e.0) (text_of k) ∙ (sym (same k e.0 ∙ text_test (text_of k) (text_of e.0)) ∙ h.0), other_names k es h.1)

  -- and keys that all differ
  pub own_names : (es : List (K × V)) → IsDistinct eq (map (λ e. e.0) es) → HaveOwnNames (attributes_in text_of items_of es)
  unfolding IsDistinct
  own_names [] h = tt
  own_names (e ∷ es) h = (other_names e.0 es h.0, own_names es h.1)
