use Rattle.dom_mutation.proofs.Cited.{adopt_plan}
use Rattle.dom_mutation.specs.Definitions.{name_in}
use Rattle.dom_mutation.proofs.ReadyCalls.{planned-done}
use Rattle.dom_mutation.proofs.ReadyPlans.{ready-adopting}
use Rattle.dom_mutation.proofs.doc.Doc.adopt.Goals as goal

pub invariant_of-self : goal.invariant_of-self
invariant_of-self c =
    let d = c.args.self.now in
    planned-done c.self.inside.parts d c.adopting.new.parts c.self.view_is
    (record { alone = c.laws.ensures.alone; parts = c.laws.ensures.parts; stand = c.laws.ensures.stand }) c.args.node
    c.requires.node_is_node (λ a. adopt_plan (name_in a c.args.document) (name_in a c.args.node))
    (λ l i r. ready-adopting _ i r (name_in d c.args.document) (name_in d c.args.node) (l.stand c.args.node c.requires.node_is_node))
    c.in-Ok.ensures c.self.invariant
