use Rattle.dom_mutation.proofs.Cited.{option_map, ap, ◌∙◌, is_some, attribute_value, node_in, sym}
use Rattle.dom_mutation.proofs.Shown.{shown}
use Rattle.dom_mutation.proofs.parts.Parts.has_attr.Goals as goal
use Rattle.dom_laws.proofs.Laws.{is_some-map}

pub returns : goal.returns
returns c =
    c.is_some.ensures ∙ sym (is_some-map (λ value. value.now) c.attr.result)
    ∙ ap is_some (shown c.self.inside.trees.forest c.self.invariant c.self.view_is (λ ts x. attribute_value (node_in ts x) c.args.name.now)
    (λ ns. option_map (λ value. value.now) c.attr.result) c.args.node c.attr.ensures (λ r. r.attribute c.args.name.now))
