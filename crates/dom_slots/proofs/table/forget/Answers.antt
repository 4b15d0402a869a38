use Rattle.dom_base.proofs.Std.{subst, nat_eq, take_all}
use Rattle.dom_model.proofs.Model.{is_in}
use Rattle.dom_slots.specs.Definitions.{slots_in}
use Rattle.dom_slots.proofs.Mapping.{AreTaken, taken-more, none_taken}
use Rattle.dom_slots.proofs.table.forget.Goals as goal

pub loop-node-init : goal.loop-node-init
loop-node-init c = λ k s. none_taken (is_in nat_eq s (slots_in c.args.slots.now k)) (nat_eq c.args.slot s)

pub loop-node-preserved : goal.loop-node-preserved
loop-node-preserved c =
    taken-more (slots_in c.args.slots.now) c.args.slot c.args.nodes.now c.loop-node.node-index c.node-item.result
    c.node-item.is c.loop-node-test.true (slots_in c.loop-node.slots)
    (slots_in c.take_out.new.self) c.take_out.ensures c.loop-node.invariant

pub returns : goal.returns
returns c =
    subst (λ ks. AreTaken (slots_in c.args.slots.now) c.args.slot ks (slots_in c.loop-node.slots))
    (take_all c.loop-node.node-index c.args.nodes.now c.loop-node-test.false) c.loop-node.invariant
