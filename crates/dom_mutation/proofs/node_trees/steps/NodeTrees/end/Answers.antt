use Rattle.dom_base.proofs.Std.{fold, refl, sym, ap}
use Rattle.dom_model.proofs.Model.{name_eq, append_once}
use Rattle.dom_mutation.proofs.node_trees.steps.NodeTrees.end.Goals as goal

pub returns-then-is_hostless : goal.returns-then-is_hostless
returns-then-is_hostless c was end =
    let none = sym (c.law_hostless.ensures.signals was) in
    record {
      names = refl;
      trees = refl;
      left = c.args.change.left;
      is_left = end.begun.left;
      hosts = refl;
      held = record { slots = c.law_hostless.ensures.slots was end; nodes = c.requires.nodes };
      signalled = ap (fold (append_once name_eq) c.args.self.now.signalled) none;
      tasks = ap (fold _ c.args.self.now.queue) none;
    }
