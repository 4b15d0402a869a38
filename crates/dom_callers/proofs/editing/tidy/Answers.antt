use Rattle.dom_callers.proofs.InHand.{still-same}
use Rattle.dom_model.specs.Effects.{plan_of_range}
use Rattle.dom_model.specs.RangeOps.{deleting}
use Rattle.dom_model.specs.TextChanges.{normalizing}
use Rattle.dom_mutation.specs.Definitions.{name_in, owner_in, HasNodes, HasStillAll}
use Rattle.dom_callers.proofs.editing.tidy.Goals as goal

pub returns : goal.returns
returns c =
    let d = c.args.doc.now in
    let e = c.delete.new.doc in
    let f = c.normalize.new.self in
    let d_nodes : HasNodes d = record { parts = c.laws.ensures.parts; stand = c.laws.ensures.stand } in
    let e_nodes : HasNodes e = record { parts = c.laws-2.ensures.parts; stand = c.laws-2.ensures.stand } in
    let f_nodes : HasNodes f = record { parts = c.laws-3.ensures.parts; stand = c.laws-3.ensures.stand } in
    let deleted : HasStillAll d e = still-same c.law_still.ensures.plans d e c.args.owner (λ p. plan_of_range p c.args.range (deleting c.args.range))
    record { before = d_nodes; after = e_nodes; names = c.in_ok-delete.ensures.names; world = c.in_ok-delete.ensures.world } in
    let normalized : HasStillAll e f = still-same c.law_still.ensures.plans e f (owner_in e c.args.top) (normalizing (name_in e c.args.top))
    record { before = e_nodes; after = f_nodes; names = c.in_ok-normalize.ensures.names; world = c.in_ok-normalize.ensures.world } in
    record { still = c.law_still.ensures.next d e f deleted normalized }
