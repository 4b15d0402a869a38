use Rattle.dom_base.proofs.Std.{slice_get, slice_get-map, ap, ◌∙◌}
use Rattle.dom_model.proofs.Model.{children_of as children_in}
use Rattle.node_arena.specs.Nodes.{children_of}
use Rattle.dom_tree.proofs.Reading.{children_in-at}
use Rattle.dom_tree.proofs.Rows.{name_of_key}
use Rattle.dom_tree.proofs.Kept.{shows, shows_child, within_names}
use Rattle.dom_tree.proofs.forest.Forest.child.Goals as goal

pub returns-clause-value : goal.returns-clause-value
returns-clause-value c =
    let i = c.args.index in
    shows c.self.view_is c.self.invariant.kept {read = λ ts x. slice_get (children_in ts x) i} {key_read = λ lists x. slice_get (children_of lists x) i}
    (record {
      agree = λ nodes lists whole x node. ap (λ ys. slice_get ys i) (children_in-at nodes lists whole x node)
          ∙ slice_get-map (name_of_key nodes) (children_of lists x) i;
    }) c.args.key c.requires c.child.ensures.value

pub returns-clause-node : goal.returns-clause-node
returns-clause-node c k e = within_names c.self.view_is c.self.invariant.kept k (c.child.ensures.node k e)

pub returns-clause-child : goal.returns-clause-child
returns-clause-child c k e = shows_child c.self.view_is c.self.invariant.kept k (c.child.ensures.node k e) (c.child.ensures.child k e)
