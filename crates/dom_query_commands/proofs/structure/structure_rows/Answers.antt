-- Each turn takes the step at the place, and goes to the next one, until the tree ends.
use Rattle.dom_query_commands.proofs.Cited.{◌∙◌, [], ap}
use Rattle.dom_query_commands.specs.Looks.{opened}
use Rattle.dom_query_commands.proofs.Rows.{begins, goes_on, ended}
use Rattle.dom_query_commands.proofs.structure.structure_rows.Goals as goal

pub loop-place-init : goal.loop-place-init
loop-place-init c =
    let law = c.law_nodes_stand_once.ensures in
    begins _ _ law.once law.only _ c.requires _
    (ap (λ rows. opened rows c.new-places.result.items) c.new-rows.ensures.items ∙ ap (opened []) c.new-places.ensures.items)

pub loop-place-smaller : goal.loop-place-smaller
loop-place-smaller c =
    let law = c.law_nodes_stand_once.ensures in
    (goes_on _ _ law.once law.only _ c.loop-place.invariant c.in-Some.is c.after-place.ensures.node c.after-place.ensures.value c.in_ok-take.ensures).1

pub loop-place-preserved : goal.loop-place-preserved
loop-place-preserved c =
    let law = c.law_nodes_stand_once.ensures in
    (goes_on _ _ law.once law.only _ c.loop-place.invariant c.in-Some.is c.after-place.ensures.node c.after-place.ensures.value c.in_ok-take.ensures).0

pub returns : goal.returns
returns c =
    let law = c.law_nodes_stand_once.ensures in
    ended _ _ law.once law.only _ c.loop-place.invariant c.in_default.is
