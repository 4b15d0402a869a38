use Rattle.dom_admission.proofs.Cited.{◌∙◌, ap}
use Rattle.dom_model.proofs.Model.{Node}
use Rattle.dom_admission.proofs.state.State.element.Goals as goal

pub element-requires : goal.element-requires
element-requires c = rw (c.forest.ensures.names) c.requires

pub returns : goal.returns
returns c = c.element.ensures ∙ ap (λ (n : Node). n.element) (c.forest.ensures.nodes c.args.key)
