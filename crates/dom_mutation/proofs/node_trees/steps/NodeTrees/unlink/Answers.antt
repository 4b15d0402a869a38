use Rattle.dom_base.proofs.Std.{List, sym, subst}
use Rattle.dom_model.proofs.Model.{NodeName}
use Rattle.dom_slots.specs.declared.step.Step.TheVariants.{Removal}
use Rattle.dom_mutation.specs.Signalled.{AreNames}
use Rattle.dom_mutation.proofs.Signals.{stepped}
use Rattle.dom_mutation.proofs.node_trees.steps.NodeTrees.unlink.Goals as goal

pub end-requires-clause-step : goal.end-requires-clause-step
end-requires-clause-step c = (
  c.args.self.now.forest.trees,
  c.law_steps_end.ensures c.args.self.now.forest c.unlink.new.self c.args.self.now.slots (Removal c.args.node) c.begin-change.result
      c.begin-change.ensures.step c.unlink.ensures.names c.requires.node_is_node c.requires.signals.slots c.begin-change.ensures.begun c.unlink.ensures.trees,
)

pub end-requires-clause-nodes : goal.end-requires-clause-nodes
end-requires-clause-nodes c = subst (λ (ns : List NodeName). AreNames ns c.args.self.now.signalled) (sym c.unlink.ensures.names) c.requires.signals.nodes

pub returns : goal.returns
returns c =
    stepped c.args.self.now c.unlink.new.self c.begin-change.result c.begin-change.ensures.step c.unlink.ensures.names c.end.result c.end.new.self
    c.unlink.ensures.trees (c.end.ensures c.args.self.now.forest.trees
    (c.law_steps_end.ensures c.args.self.now.forest c.unlink.new.self c.args.self.now.slots (Removal c.args.node) c.begin-change.result
    c.begin-change.ensures.step c.unlink.ensures.names c.requires.node_is_node c.requires.signals.slots c.begin-change.ensures.begun c.unlink.ensures.trees))
