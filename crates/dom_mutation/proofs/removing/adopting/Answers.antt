use Rattle.dom_mutation.proofs.Cited.{ap, ◌∙◌, on_ok_weaker, remove_plan, changing_document, observed, name_in, owner_in, planned, keeps-removing}
use Rattle.dom_mutation.proofs.removing.adopting.Goals as goal
use Rattle.dom_mutation.proofs.Made.{planned_then}
use Rattle.dom_mutation.proofs.OwnPlans.{own_moves}

pub returns : goal.returns
returns c =
    let d = c.args.parts.now in
    on_ok_weaker c.change_document.result (λ changed. changed
    ∙ ap (λ e. planned (owner_in e c.args.node) (changing_document (name_in e c.args.document) (name_in e c.args.node)) e) c.in_ok-removing.ensures
    ∙ planned_then (owner_in d c.args.node) (remove_plan observed (name_in d c.args.node))
    (changing_document (name_in d c.args.document) (name_in d c.args.node)) d (c.laws.ensures.alone c.args.node c.requires.node_is_node)
    (keeps-removing (own_moves (owner_in d c.args.node)) observed (name_in d c.args.node)))
    c.change_document.ensures
