use Rattle.dom_mutation.proofs.Cited.{Some, None, ap, ◌∙◌, attribute_value, node_in}
use Rattle.dom_mutation.proofs.Shown.{shown}
use Rattle.dom_mutation.proofs.parts.Parts.old_value.Goals as goal

pub returns-in_ok-from_slice-in-Some : goal.returns-in_ok-from_slice-in-Some
returns-in_ok-from_slice-in-Some c =
    ap Some c.in_ok-from_slice-in-Some.ensures.ok
    ∙ shown c.self.inside.trees.forest c.self.invariant c.self.view_is (λ ts x. attribute_value (node_in ts x) c.args.name.now)
    (λ ns. Some c.in-Some.value.now) c.args.node c.in-Some.ensures (λ r. r.attribute c.args.name.now)

pub returns-in-None : goal.returns-in-None
returns-in-None c =
    shown c.self.inside.trees.forest c.self.invariant c.self.view_is (λ ts x. attribute_value (node_in ts x) c.args.name.now) (λ ns. None) c.args.node
    c.in-None.ensures (λ r. r.attribute c.args.name.now)
