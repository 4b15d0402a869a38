use Rattle.dom_base.proofs.Std.{List, fold, map, sym, ap, ◌∙◌, take_all}
use Rattle.dom_model.proofs.Model.{NodeName, name_eq, append_once, Task, queued_notify}
use Rattle.dom_tree.specs.Definitions.{name_at}
use Rattle.dom_mutation.proofs.Signals.{fold_next}
use Rattle.dom_mutation.proofs.node_trees.steps.signal_each.Goals as goal

pub loop-slot-preserved : goal.loop-slot-preserved
loop-slot-preserved c =
    let names = c.args.forest.now.names in
    let slots = c.args.slots.now in
    let i = c.loop-slot.slot-index in (
      c.in_ok-signal.ensures.signalled ∙ ap (λ xs. append_once name_eq xs (name_at names c.slot-item.result)) c.loop-slot.invariant.0
          ∙ sym (fold_next (append_once name_eq) c.args.signalled.now names slots i c.loop-slot-test.true c.slot-item.is),
      c.in_ok-signal.ensures.queue ∙ ap (queued_notify (name_at names c.slot-item.result).owner) c.loop-slot.invariant.1
          ∙ sym (fold_next (λ (ts : List Task) (s : NodeName). queued_notify s.owner ts) c.args.queue.now names slots i c.loop-slot-test.true c.slot-item.is),
    )

pub returns-clause-signalled : goal.returns-clause-signalled
returns-clause-signalled c =
    c.loop-slot.invariant.0 ∙ ap (λ ks. fold (append_once name_eq) c.args.signalled.now (map (name_at c.args.forest.now.names) ks))
    (take_all c.loop-slot.slot-index c.args.slots.now c.loop-slot-test.false)

pub returns-clause-queue : goal.returns-clause-queue
returns-clause-queue c =
    c.loop-slot.invariant.1
    ∙ ap (λ ks. fold (λ (ts : List Task) (s : NodeName). queued_notify s.owner ts) c.args.queue.now (map (name_at c.args.forest.now.names) ks))
    (take_all c.loop-slot.slot-index c.args.slots.now c.loop-slot-test.false)
