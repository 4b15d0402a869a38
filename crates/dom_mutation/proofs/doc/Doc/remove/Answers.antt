use Rattle.dom_mutation.proofs.Cited.{remove_plan, observed}
use Rattle.dom_mutation.specs.Definitions.{name_in}
use Rattle.dom_mutation.proofs.ReadyCalls.{planned-done}
use Rattle.dom_mutation.proofs.ReadyPlans.{ready-removing}
use Rattle.dom_mutation.proofs.doc.Doc.remove.Goals as goal

pub invariant_of-self : goal.invariant_of-self
invariant_of-self c =
    let d = c.args.self.now in
    planned-done c.self.inside.parts d c.removing.new.parts c.self.view_is
    (record { alone = c.laws.ensures.alone; parts = c.laws.ensures.parts; stand = c.laws.ensures.stand }) c.args.node
    c.requires (λ a. remove_plan observed (name_in a c.args.node))
    (λ l i r. ready-removing _ i r (name_in d c.args.node)) c.in-Ok.ensures c.self.invariant
