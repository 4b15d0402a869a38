-- Laws that functions of the crate state just as they are proved.
use Rattle.dom_model.proofs.Model.{name_eq-same, name_eq-true, name_eq-other, owner_eq-same, owner_eq-true, ne-owner_eq}

-- all of them
pub ruleset laws = (name_eq-same, name_eq-true, name_eq-other, owner_eq-same, owner_eq-true, ne-owner_eq)
