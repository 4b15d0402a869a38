use Rattle.dom_mutation.proofs.Cited.{unsetting_attribute}
use Rattle.dom_mutation.specs.Definitions.{name_in}
use Rattle.dom_mutation.proofs.ReadyCalls.{planned-done}
use Rattle.dom_mutation.proofs.ReadyPlans.{ready-no_attribute}
use Rattle.dom_mutation.proofs.doc.Doc.remove_attr.Goals as goal

pub invariant_of-self : goal.invariant_of-self
invariant_of-self c =
    planned-done c.self.inside.parts c.args.self.now c.unset_attribute.new.parts c.self.view_is
    (record { alone = c.laws.ensures.alone; parts = c.laws.ensures.parts; stand = c.laws.ensures.stand }) c.args.node
    c.requires (λ a. unsetting_attribute (name_in a c.args.node) c.args.name.now)
    (λ l i r. ready-no_attribute _ i r (name_in c.args.self.now c.args.node) c.args.name.now) c.in-Ok.ensures c.self.invariant
