use Rattle.dom_base.proofs.Std.{ap, ◌∙◌, Some, Bool}
use Rattle.dom_model.proofs.Model.{child_nodes, without_given, first_refusal, placing_tests}
use Rattle.dom_tree.specs.Definitions.{name_at}
use Rattle.dom_tree.proofs.Placing.{lost_test}
use Rattle.dom_tree.proofs.Kept.{within_names}
use Rattle.dom_tree.proofs.forest.Forest.check_replace.Goals as goal

pub returns : goal.returns
returns c =
    c.check_placing.ensures
    ∙ ap (λ (b : Bool). first_refusal (placing_tests c.args.self.now.trees (name_at c.args.self.now.names c.args.parent)
    (name_at c.args.self.now.names c.args.node) b
    (without_given (Some (name_at c.args.self.now.names c.args.child))
    (child_nodes c.args.self.now.trees (name_at c.args.self.now.names c.args.parent)))))
    (c.ne-is_lost.ensures ∙ lost_test c.self.view_is c.self.invariant.kept c.args.parent c.args.child c.parent.result c.requires.parent_is_node
    c.requires.child_is_node c.parent.ensures.value (λ q e. within_names c.self.view_is c.self.invariant.kept q (c.parent.ensures.node q e)))
