-- A name is its owner and its number.
use Rattle.dom_base.proofs.Std.{ℕ, ap, ◌∙◌}
use Rattle.dom_base.specs.declared.NodeName.{NodeName}
use Rattle.dom_base.specs.declared.Owner.{Owner}
use Rattle.dom_admission.proofs.names.lent_name.Goals as goal

-- a name of its parts
abbrev of_parts : Owner → ℕ → NodeName
of_parts owner number = record { owner = owner; number = number }

pub returns : goal.returns
returns c =
    let lent = c.lent_name-number.ensures in
    ap (λ (owner : Owner). of_parts owner c.lent_name-number.result.1) lent.owner ∙ ap (of_parts _) lent.number
