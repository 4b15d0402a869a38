-- What is matched has the signs.
use Rattle.dom_selectors.proofs.Cited.{◌≡◌, true, ap, sym, subst, ◌∙◌, inl, inr, codes, simple_matches, simple_view}
use Rattle.std.specs.Prelude.{bit_or, string_bytes}
use Rattle.dom_attributes.specs.Signs.{attribute_bits, class_bits, element_bits, id_bits}
use Rattle.dom_selectors.specs.Signs.{Shows}
use Rattle.dom_selectors.specs.Views.{test_view}
use Rattle.dom_selectors.specs.declared.selector.Simple.{Simple}
use Rattle.dom_selectors.proofs.SignLaws.{attribute_shown, class_shown, id_shown, type_shown, value_shown}
use Rattle.dom_selectors.proofs.selector.signs_of.Goals as goal

pub returns-in-OfType : goal.returns-in-OfType
returns-in-OfType c = λ ts x e.
    subst (Shows ts x) (sym (c.of_element.ensures ∙ ap element_bits c.as_str.ensures.value))
    (type_shown ts x (string_bytes c.in-OfType.name) (subst (λ (s : Simple). simple_matches ts x (simple_view s) ≡ true) c.in-OfType.is e))

pub returns-in-OfId : goal.returns-in-OfId
returns-in-OfId c = λ ts x e.
    subst (Shows ts x) (sym (c.and.ensures ∙ ap (λ n. bit_or n c.of_id.result.bits) c.of_attribute.ensures
    ∙ ap (bit_or (attribute_bits (codes "id"))) (c.of_id.ensures ∙ ap id_bits c.as_slice.ensures.value)))
    (id_shown ts x c.in-OfId.id.items (subst (λ (s : Simple). simple_matches ts x (simple_view s) ≡ true) c.in-OfId.is e))

pub returns-in-OfClass : goal.returns-in-OfClass
returns-in-OfClass c = λ ts x e.
    subst (Shows ts x) (sym (c.and-in-OfClass.ensures ∙ ap (λ n. bit_or n c.of_class.result.bits) c.of_attribute-in-OfClass.ensures
    ∙ ap (bit_or (attribute_bits (codes "class"))) (c.of_class.ensures ∙ ap class_bits c.as_slice-in-OfClass.ensures.value)))
    (class_shown ts x c.in-OfClass.class.items (subst (λ (s : Simple). simple_matches ts x (simple_view s) ≡ true) c.in-OfClass.is e))

pub returns-in-WithAttribute : goal.returns-in-WithAttribute
returns-in-WithAttribute c = λ ts x e.
    subst (Shows ts x) (sym (c.of_attribute-in-WithAttribute.ensures ∙ ap attribute_bits c.as_str-in-WithAttribute.ensures.value))
    (elim (c.in-WithAttribute.is) [
      | inl is ↦ attribute_shown ts x (string_bytes c.in-WithAttribute.name) (subst (λ (s : Simple). simple_matches ts x (simple_view s) ≡ true) is e)
      | inr is ↦ value_shown ts x (string_bytes c.in-WithAttribute.name) (test_view is.0) is.1.items
          (subst (λ (s : Simple). simple_matches ts x (simple_view s) ≡ true) is.2 e)
    ])
