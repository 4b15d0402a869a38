use Rattle.dom_mutation.proofs.Cited.{◌≡◌, ap, subst, setting_attribute}
use Rattle.dom_mutation.specs.Definitions.{DocState, made, name_in, owner_in}
use Rattle.dom_mutation.proofs.ReadyCalls.{planned-done}
use Rattle.dom_mutation.proofs.ReadyPlans.{ready-attribute}
use Rattle.dom_mutation.proofs.doc.Doc.set_attr.Goals as goal

pub invariant_of-self : goal.invariant_of-self
invariant_of-self c =
    planned-done c.self.inside.parts c.args.self.now c.change_attribute.new.parts c.self.view_is
    (record { alone = c.laws.ensures.alone; parts = c.laws.ensures.parts; stand = c.laws.ensures.stand }) c.args.node
    c.requires.node_is_node (λ a. setting_attribute (name_in a c.args.node) c.args.name.now c.args.value.items)
    (λ l i r. ready-attribute _ i r (name_in c.args.self.now c.args.node) c.args.name.now c.args.value.items) c.in-Ok.ensures c.self.invariant

pub returns-in-Ok-clause-world : goal.returns-in-Ok-clause-world
returns-in-Ok-clause-world c =
    let x = c.args.node in
    subst (λ (d : DocState). c.change_attribute.new.parts.world ≡
    made (owner_in d x) (setting_attribute (name_in d x) c.args.name.now c.args.value.items) d.world)
    c.self.view_is (ap (λ (s : DocState). s.world) c.in-Ok.ensures)
