use Rattle.dom_base.proofs.Std.{Bool, ap, sym, ◌∙◌, filter, option_map}
use Rattle.dom_model.proofs.Model.{NodeName, first_of, slot_name, node_in, siblings}
use Rattle.dom_tree.specs.Definitions.{name_at}
use Rattle.dom_tree.proofs.Standing.{Once-forest, Has-forest}
use Rattle.dom_slots.specs.Definitions.{looks_for}
use Rattle.dom_slots.proofs.Siblings.{from_item, next_sibling-step}
use Rattle.dom_slots.proofs.find.next_looking_for.Goals as goal

pub returns-in_err-_sibling-clause-value : goal.returns-in_err-_sibling-clause-value
returns-in_err-_sibling-clause-value c =
    let f = c.args.forest.now in
    let e = c.law_nodes_stand_once.ensures in
    let x = name_at f.names c.args.child in
    let up = c.requires.parent.1 in
    let name = slot_name (node_in f.trees (name_at f.names c.args.slot)) in
    let test : NodeName → Bool = λ y. looks_for name (node_in f.trees y) in
    let at = Has-forest f e.once c.args.child c.requires.node in
    let step = next_sibling-step f (Once-forest f e.once e.only) x c.requires.parent.0 at up c.args.child
    record { node = c.requires.node; parent = up } at c.next.result c.next.ensures.value c.next.ensures.node in
    ap (option_map (name_at f.names)) c.from_residual.ensures
    ∙ ap first_of (ap (filter test) (sym (step.0 ∙ ap (λ o. from_item (siblings f.trees x) (option_map (name_at f.names) o)) c.in_err-_sibling.was)))
