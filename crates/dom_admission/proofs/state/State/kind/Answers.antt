use Rattle.dom_admission.proofs.Cited.{◌∙◌, ap}
use Rattle.dom_model.proofs.Model.{Node}
use Rattle.dom_admission.proofs.state.State.kind.Goals as goal

pub kind-requires : goal.kind-requires
kind-requires c = rw (c.forest.ensures.names) c.requires

pub returns : goal.returns
returns c = c.kind.ensures ∙ ap (λ (n : Node). n.kind) (c.forest.ensures.nodes c.args.key)
