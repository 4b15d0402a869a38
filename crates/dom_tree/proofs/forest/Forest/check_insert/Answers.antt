use Rattle.dom_base.proofs.Std.{◌≡◌, ap, sym, ◌∙◌, false, not, Bool, List, option_map, option_map_or}
use Rattle.dom_model.proofs.Model.{Node, child_nodes, first_refusal, placing_tests, has_parent}
use Rattle.dom_tree.specs.Definitions.{name_at}
use Rattle.dom_tree.proofs.Placing.{without_given-none, lost_test}
use Rattle.dom_tree.proofs.Kept.{within_names}
use Rattle.dom_tree.proofs.forest.Forest.check_insert.Goals as goal
use Rattle.dom_tree.proofs.forest.Forest.check_insert.Goals.{in-Some, in-None}

pub returns : goal.returns
returns c =
    let plain = ap (λ (ns : List Node). first_refusal
    (placing_tests c.args.self.now.trees (name_at c.args.self.now.names c.args.parent) (name_at c.args.self.now.names c.args.node)
    c.match-child.is_lost ns)) (without_given-none (child_nodes c.args.self.now.trees (name_at c.args.self.now.names c.args.parent))) in
    let lost : c.match-child.is_lost ≡ option_map_or (λ x. not (has_parent c.args.self.now.trees (name_at c.args.self.now.names c.args.parent) x))
    (option_map (name_at c.args.self.now.names) c.args.child) false =
    elim c.match-child.branch [
      | in-Some w ↦ w.is_lost-is ∙ (w.ne-is_lost.ensures ∙
          (lost_test c.self.view_is c.self.invariant.kept c.args.parent w.in-Some.child w.parent.result c.requires.parent_is_node
          (c.requires.child_is_node w.in-Some.child w.in-Some.is) w.parent.ensures.value
          (λ q e. within_names c.self.view_is c.self.invariant.kept q (w.parent.ensures.node q e)) ∙
          sym (ap (λ o. option_map_or (λ x. not (has_parent c.args.self.now.trees (name_at c.args.self.now.names c.args.parent) x))
          (option_map (name_at c.args.self.now.names) o) false) w.in-Some.is)))
      | in-None w ↦ w.is_lost-is ∙ sym (ap
          (λ o. option_map_or (λ x. not (has_parent c.args.self.now.trees (name_at c.args.self.now.names c.args.parent) x))
          (option_map (name_at c.args.self.now.names) o) false) w.in-None.is)
    ] in
    c.check_placing.ensures ∙ (plain ∙ ap
    (λ (b : Bool). first_refusal (placing_tests c.args.self.now.trees (name_at c.args.self.now.names c.args.parent)
    (name_at c.args.self.now.names c.args.node) b (child_nodes c.args.self.now.trees (name_at c.args.self.now.names c.args.parent)))) lost)
