use Rattle.dom_base.proofs.Std.{◌≡◌, Bool, true, false, ◌&&◌, ◌||◌, refl, subst, nat_eq, take_all}
use Rattle.dom_model.proofs.Model.{is_in}
use Rattle.dom_slots.specs.Definitions.{slots_in}
use Rattle.dom_slots.proofs.Mapping.{AreGiven, given-more}
use Rattle.dom_slots.proofs.table.remember.Goals as goal

-- to no nodes it is given to none
none_given : (a d : Bool) → a ≡ (a || (d && false))
none_given false true = refl
none_given a d = refl

pub loop-node-init : goal.loop-node-init
loop-node-init c = λ k s. none_given (is_in nat_eq s (slots_in c.args.slots.now k)) (nat_eq c.args.slot s)

pub loop-node-preserved : goal.loop-node-preserved
loop-node-preserved c =
    given-more (slots_in c.args.slots.now) c.args.slot c.args.nodes.now c.loop-node.node-index c.node-item.result
    c.node-item.is c.loop-node-test.true (slots_in c.loop-node.slots)
    (slots_in c.put.new.self) c.in_ok-put.ensures c.loop-node.invariant

pub returns : goal.returns
returns c =
    subst (λ ks. AreGiven (slots_in c.args.slots.now) c.args.slot ks (slots_in c.loop-node.slots))
    (take_all c.loop-node.node-index c.args.nodes.now c.loop-node-test.false) c.loop-node.invariant
