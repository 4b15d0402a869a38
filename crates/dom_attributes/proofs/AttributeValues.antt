-- The value of an attribute, where it or another one is set or taken away.
use Rattle.dom_base.proofs.Std.{◌≡◌, ◌≢◌, inl, inr, true, false, cond, List, [], ◌∷◌, Some, None, refl, sym, ap, ◌∙◌, cases_Bool, AllByRecursion}
use Rattle.dom_base.proofs.Std.{option_map, find, bytes_eq-Decides, false_from_ne_true, true≢false, subst}
use Rattle.dom_model.specs.Names.{Word, DomString}
use Rattle.dom_model.proofs.Model.{text_eq, Attribute, attributes_with, attributes_without}
use Rattle.dom_attributes.specs.Attributes.{HaveOwnNames, value_among}
use Rattle.dom_attributes.proofs.Attributes.{text_test}

-- what the test of texts tells
pub text_same : (a b : Word) → text_eq a b ≡ true → a ≡ b
text_same a b e = (bytes_eq-Decides a b).0 (text_test a b ∙ e)

pub text_eq-same : (a : Word) → text_eq a a ≡ true
text_eq-same a = sym (text_test a a) ∙ (bytes_eq-Decides a a).1 refl

text_eq-other : (a b : Word) → a ≢ b → text_eq a b ≡ false
text_eq-other a b other = false_from_ne_true (text_eq a b) (λ e. other (text_same a b e))

pub other_name : (a b : Word) → text_eq a b ≡ false → b ≢ a
other_name a b e is = absurd (true≢false (sym (text_eq-same a) ∙ (ap (text_eq a) (sym is) ∙ e)))

-- the first attribute has the name, or another one
pub value-here : (b : Word) (c : Attribute) (bs : List Attribute) → text_eq b c.name ≡ true → value_among b (c ∷ bs) ≡ Some c.value
value-here b c bs e = ap (λ t. option_map (λ (d : Attribute). d.value) (cond t (Some c) (find (λ d. text_eq b d.name) bs))) e

pub value-behind : (b : Word) (c : Attribute) (bs : List Attribute) → text_eq b c.name ≡ false → value_among b (c ∷ bs) ≡ value_among b bs
value-behind b c bs e = ap (λ t. option_map (λ (d : Attribute). d.value) (cond t (Some c) (find (λ d. text_eq b d.name) bs))) e

-- the attribute that is set
pub value-set : (a : Word) (v : DomString) (bs : List Attribute) → value_among a (attributes_with a v bs) ≡ Some v
value-set a v [] = value-here a (record { name = a; value = v }) [] (text_eq-same a)
value-set a v (c ∷ bs) = elim (cases_Bool (text_eq a c.name)) [
  | inl e ↦ ap (λ t. value_among a (cond t (record c { value = v } ∷ bs) (c ∷ attributes_with a v bs))) e ∙ value-here a (record c { value = v }) bs e
  | inr e ↦ ap (λ t. value_among a (cond t (record c { value = v } ∷ bs) (c ∷ attributes_with a v bs))) e ∙
      (value-behind a c (attributes_with a v bs) e ∙ value-set a v bs)
]

-- another one
module _ (a b : Word) (other : b ≢ a) where
  step : (c : Attribute) (bs cs : List Attribute) → value_among b cs ≡ value_among b bs → value_among b (c ∷ cs) ≡ value_among b (c ∷ bs)
  step c bs cs same = elim (cases_Bool (text_eq b c.name)) [
    | inl e ↦ value-here b c cs e ∙ sym (value-here b c bs e)
    | inr e ↦ value-behind b c cs e ∙ (same ∙ sym (value-behind b c bs e))
  ]

  passed : (c : Attribute) (bs : List Attribute) → text_eq a c.name ≡ true → value_among b (c ∷ bs) ≡ value_among b bs
  passed c bs e = value-behind b c bs (text_eq-other b c.name (λ is. other (is ∙ sym (text_same a c.name e))))

  pub value-set_other : (v : DomString) (bs : List Attribute) → value_among b (attributes_with a v bs) ≡ value_among b bs
  value-set_other v [] = value-behind b (record { name = a; value = v }) [] (text_eq-other b a other)
  value-set_other v (c ∷ bs) = elim (cases_Bool (text_eq a c.name)) [
    | inl e ↦ ap (λ t. value_among b (cond t (record c { value = v } ∷ bs) (c ∷ attributes_with a v bs))) e ∙
        (passed (record c { value = v }) bs e ∙ sym (passed c bs e))
    | inr e ↦ ap (λ t. value_among b (cond t (record c { value = v } ∷ bs) (c ∷ attributes_with a v bs))) e ∙
        step c bs (attributes_with a v bs) (value-set_other v bs)
  ]

  pub value-removed_other : (bs : List Attribute) → value_among b (attributes_without a bs) ≡ value_among b bs
  value-removed_other [] = refl
  value-removed_other (c ∷ bs) = elim (cases_Bool (text_eq a c.name)) [
    | inl e ↦ ap (λ t. value_among b (cond t bs (c ∷ attributes_without a bs))) e ∙ sym (passed c bs e)
    | inr e ↦ ap (λ t. value_among b (cond t bs (c ∷ attributes_without a bs))) e ∙ step c bs (attributes_without a bs) (value-removed_other bs)
  ]

-- the attribute that is taken away
absent : (a : Word) (bs : List Attribute) → AllByRecursion (λ c. text_eq c.name a ≡ false) bs → value_among a bs ≡ None
absent a [] none = refl
absent a (c ∷ bs) none = value-behind a c bs (text_eq-other a c.name (λ is. apart c (sym is) none.0)) ∙ absent a bs none.1
  where
    apart : (c : Attribute) → c.name ≡ a → text_eq c.name a ≡ false → ⊥
    apart c is e = absurd (true≢false (sym (ap (text_eq c.name) (sym is) ∙ text_eq-same c.name) ∙ e))

pub value-removed : (a : Word) (bs : List Attribute) → HaveOwnNames bs → value_among a (attributes_without a bs) ≡ None
value-removed a [] own = refl
value-removed a (c ∷ bs) own = elim (cases_Bool (text_eq a c.name)) [
  | inl e ↦ ap (λ t. value_among a (cond t bs (c ∷ attributes_without a bs))) e ∙
      absent a bs (subst (λ (n : Word). AllByRecursion (λ (d : Attribute). text_eq d.name n ≡ false) bs) (sym (text_same a c.name e)) own.0)
  | inr e ↦ ap (λ t. value_among a (cond t bs (c ∷ attributes_without a bs))) e ∙
      (value-behind a c (attributes_without a bs) e ∙ value-removed a bs own.1)
]
