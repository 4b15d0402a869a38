-- What is shown of each kind.
use Rattle.dom_base.proofs.Std.{◌≡◌, true, false, sym, true≢false}
use Rattle.dom_model.proofs.Model.{Kind, Document, Fragment, Shadow, Element, Text, Comment}

-- what holds of each of them holds of all
module _ (P : Kind → Type 0) (document : P Document) (fragment : P Fragment) (shadow : P Shadow) (element : P Element) (text : P Text) (comment : P Comment)
  where
    pub of_kinds : (k : Kind) → P k
    of_kinds Document = document
    of_kinds Fragment = fragment
    of_kinds Shadow = shadow
    of_kinds Element = element
    of_kinds Text = text
    of_kinds Comment = comment

-- a kind that fails a test
pub failing : {X : Type 0} → false ≡ true → X
failing e = absurd (true≢false (sym e))
