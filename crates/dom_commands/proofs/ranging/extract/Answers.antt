use Rattle.dom_commands.proofs.Cited.{◌∙◌, ap, refl, sym, Range, may_act, plans, refused, thing_there, none_stopped}
use Rattle.dom_model.proofs.Model.{changes, plan_of_range, extracting, a_node, part_of}
use Rattle.dom_commands.proofs.RangePlans.{extracted-kept, extracted-name, keeps_names, naming-extract}
use Rattle.dom_commands.proofs.ranging.extract.Goals as goal

pub returns-in_err-admit-clause-handled : goal.returns-in_err-admit-clause-handled
returns-in_err-admit-clause-handled g c =
    refused g.A.Answers.adds _ _ _ _ _ _ (naming-extract c.args.owner c.args.number) c.admit.ensures c.in_err-admit.was c.from_residual.ensures.1

pub returns-clause-handled : goal.returns-clause-handled
returns-clause-handled g c =
    let d = c.state.inside.doc in
    let e = c.in_ok-fragment.ensures in
    let p = part_of d.world c.args.owner in
    let known = thing_there _ c.state.inside.doc _ c.state.view_is _ (Range c.args.number) c.admit.ensures c.in_ok-admit.was in
    let fragment = extracted-name d.names c.extract.new.doc.names d.world c.args.owner c.args.number known e.names _ e.key in
    plans g.A.Answers.adds _ c.state.inside.doc _ c.state.view_is (may_act _ _ _ _ (naming-extract c.args.owner c.args.number) c.admit.ensures
    c.in_ok-admit.was) _ _ _ _
    (none_stopped refl c.in_ok-fragment.fragment e.stopped) refl
    (ap (changes (plan_of_range p c.args.number (extracting c.args.number))) (ap a_node (sym (rw c.forest.ensures.names at c.name-made.ensures.at) ∙ fragment)))
    e.world c.accept_node.ensures.done

pub returns-clause-names : goal.returns-clause-names
returns-clause-names g c =
    let d = c.state.inside.doc in
    let known = thing_there _ c.state.inside.doc _ c.state.view_is _ (Range c.args.number) c.admit.ensures c.in_ok-admit.was in
    let kept = extracted-kept d.names c.extract.new.doc.names d.world c.args.owner c.args.number known c.in_ok-fragment.ensures.names in
    rw (← c.state.view_is, c.accept_node.ensures.names) (keeps_names _ _ c.accept_node.result kept)
