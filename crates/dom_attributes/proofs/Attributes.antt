-- Attributes in the code's map, and the code's test of their names.
use Rattle.dom_base.proofs.Std.{◌≡◌, inl, inr, ℕ, Bool, ◌&&◌, List, [], ◌∷◌, map, refl, ap, ◌∙◌, find, nat_eq, option_map, bytes_eq, lookup, remove_entry}
use Rattle.dom_base.proofs.Std.{cases_Bool, false, sym, false_from_ne_true, bytes_eq-Decides}
use Rattle.indexmap.specs.IndexMap.{insert_entry}
use Rattle.dom_model.proofs.Model.{text_eq, Attribute, attributes_with, attributes_without}

-- the code's test of texts is that of the definitions
pub text_test : (x y : List ℕ) → bytes_eq x y ≡ text_eq x y
text_test [] [] = refl
text_test [] (b ∷ y) = refl
text_test (a ∷ x) [] = refl
text_test (a ∷ x) (b ∷ y) = ap (λ t. nat_eq a b && t) (text_test x y)

-- those that are not equal are not the same
pub differ : (x y : List ℕ) → (x ≡ y → ⊥) → false ≡ text_eq x y
differ x y apart = sym (false_from_ne_true (bytes_eq x y) (λ e. apart ((bytes_eq-Decides x y).0 e))) ∙ text_test x y

module _ {K V : Type 0} (text_of : K → List ℕ) (items_of : V → List ℕ) where
  abbrev pub attributes_in : List (K × V) → List Attribute
  attributes_in es = map (λ e. record { name = text_of e.0; value = items_of e.1 }) es

  pub lookup-attributes : (a : List ℕ) (es : List (K × V)) →
      option_map items_of (lookup (λ k. bytes_eq a (text_of k)) es) ≡ option_map (λ b. b.value) (find (λ b. text_eq a b.name) (attributes_in es))
  lookup-attributes a [] = refl
  lookup-attributes a (e ∷ es) =
      let here = text_test a (text_of e.0) in
      elim (cases_Bool (text_eq a (text_of e.0))) [
        | inl h ↦ rw (here, h) refl
        | inr h ↦ rw (here, h) (lookup-attributes a es)
      ]

  pub insert-attributes : (eq : K → K → Bool) → ((x y : K) → eq x y ≡ bytes_eq (text_of x) (text_of y)) → (k : K) (v : V) (es : List (K × V)) →
      attributes_in (insert_entry eq es k v) ≡ attributes_with (text_of k) (items_of v) (attributes_in es)
  insert-attributes eq same k v [] = refl
  insert-attributes eq same k v (e ∷ es) =
      let here = same k e.0 ∙ text_test (text_of k) (text_of e.0) in
      elim (cases_Bool (text_eq (text_of k) (text_of e.0))) [
        | inl h ↦ rw (here, h) refl
        | inr h ↦ rw (here, h) (ap (λ bs. record { name = text_of e.0; value = items_of e.1 } ∷ bs) (insert-attributes eq same k v es))
      ]

  pub remove-attributes : (a : List ℕ) (es : List (K × V)) →
      attributes_in (remove_entry (λ k. bytes_eq a (text_of k)) es) ≡ attributes_without a (attributes_in es)
  remove-attributes a [] = refl
  remove-attributes a (e ∷ es) =
      let here = text_test a (text_of e.0) in
      elim (cases_Bool (text_eq a (text_of e.0))) [
        | inl h ↦ rw (here, h) refl
        | inr h ↦ rw (here, h) (ap (λ bs. record { name = text_of e.0; value = items_of e.1 } ∷ bs) (remove-attributes a es))
      ]
