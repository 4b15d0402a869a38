-- What the tests of kinds tell.
use Rattle.dom_base.proofs.Std.{◌≡◌, true, false, refl, sym, true≢false}
use Rattle.dom_base.specs.declared.Kind.{Kind}
use Rattle.dom_base.specs.declared.Kind.TheVariants.{Document, Fragment, Shadow, Element, Text, Comment}
use Rattle.dom_model.specs.Tree.{is_element, has_data}
use Rattle.dom_model.specs.Validity.{may_be_parent}

-- elements are of one kind
pub is_element-is : (k : Kind) → is_element k ≡ true → k ≡ Element
is_element-is Element e = refl
is_element-is Document e = absurd (true≢false (sym e))
is_element-is Fragment e = absurd (true≢false (sym e))
is_element-is Shadow e = absurd (true≢false (sym e))
is_element-is Text e = absurd (true≢false (sym e))
is_element-is Comment e = absurd (true≢false (sym e))

-- what may have children has no data
pub parent-open : (k : Kind) → may_be_parent k ≡ true → has_data k ≡ false
parent-open Text h = absurd (true≢false (sym h))
parent-open Comment h = absurd (true≢false (sym h))
parent-open Document h = refl
parent-open Fragment h = refl
parent-open Shadow h = refl
parent-open Element h = refl
