use Rattle.dom_base.proofs.Std.{List, sym, subst}
use Rattle.dom_model.proofs.Model.{NodeName}
use Rattle.dom_slots.specs.declared.step.Step.TheVariants.{Place}
use Rattle.dom_mutation.specs.Signalled.{AreNames}
use Rattle.dom_mutation.proofs.Signals.{stepped}
use Rattle.dom_mutation.proofs.node_trees.steps.NodeTrees.link.Goals as goal

pub end-requires-clause-step : goal.end-requires-clause-step
end-requires-clause-step c = (
  c.args.self.now.forest.trees,
  c.law_steps_end.ensures c.args.self.now.forest c.link_before.new.self c.args.self.now.slots (Place c.args.node c.args.parent c.args.before)
      c.begin-change.result c.begin-change.ensures.step c.link_before.ensures.names
      (c.requires.node_is_node, c.requires.parent_is_node, c.requires.before_is_node)
      c.requires.signals.slots c.begin-change.ensures.begun c.link_before.ensures.trees,
)

pub end-requires-clause-nodes : goal.end-requires-clause-nodes
end-requires-clause-nodes c = subst (λ (ns : List NodeName). AreNames ns c.args.self.now.signalled) (sym c.link_before.ensures.names) c.requires.signals.nodes

pub returns : goal.returns
returns c =
    stepped c.args.self.now c.link_before.new.self c.begin-change.result c.begin-change.ensures.step c.link_before.ensures.names c.end.result c.end.new.self
    c.link_before.ensures.trees (c.end.ensures c.args.self.now.forest.trees
    (c.law_steps_end.ensures c.args.self.now.forest c.link_before.new.self c.args.self.now.slots (Place c.args.node c.args.parent c.args.before)
    c.begin-change.result c.begin-change.ensures.step c.link_before.ensures.names
    (c.requires.node_is_node, c.requires.parent_is_node, c.requires.before_is_node)
    c.requires.signals.slots c.begin-change.ensures.begun c.link_before.ensures.trees))
