use Rattle.dom_admission.proofs.Cited.{◌∙◌, ap, sym, List, option_map, name_at}
use Rattle.dom_model.proofs.Model.{NodeName, Node}
use Rattle.dom_admission.proofs.state.State.document_of.Goals as goal

pub document-requires : goal.document-requires
document-requires c = rw (c.forest.ensures.names) c.requires

pub returns-clause-value : goal.returns-clause-value
returns-clause-value c =
    ap (λ (ns : List NodeName). option_map (name_at ns) c.document.result) (sym c.forest.ensures.names) ∙ c.document.ensures.value
    ∙ ap (λ (n : Node). n.document) (c.forest.ensures.nodes c.args.key)

pub returns-clause-node : goal.returns-clause-node
returns-clause-node c = λ k h. rw (c.forest.ensures.names) at (c.document.ensures.node k h)
