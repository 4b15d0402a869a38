use Rattle.dom_base.proofs.Std.{◌<◌, ℕ, length, ap, sym, ◌∙◌, arith, refl, subst, eqb-true, eqb-false, same_Some}
use Rattle.dom_tree.specs.Definitions.{nodes_of}
use Rattle.dom_tree.proofs.Kept.{within_names}
use Rattle.dom_tree.proofs.Within.{preceding_within}
use Rattle.dom_tree.proofs.Walks.{in_tree, none_left}
use Rattle.dom_tree.proofs.OrderWithin.{still_below}
use Rattle.dom_tree.proofs.Backward.{shows_preceding, before_in, before_in-top, before_in-root, before_in-child, last_in-leaf, last_in-child}
use Rattle.dom_tree.proofs.Backward.{child_below, deeper}
use Rattle.dom_tree.proofs.forest.Forest.preceding.Goals as goal

pub returns-in_err-parent-clause-value : goal.returns-in_err-parent-clause-value
returns-in_err-parent-clause-value c =
    let walk = in_tree c.self.view_is c.self.invariant.kept c.requires.top_is_node c.requires.key_is_node c.requires.within in
    shows_preceding c.self.view_is c.self.invariant.kept
    (record { at_top = c.requires.top_is_node; at_x = c.requires.key_is_node; above = walk.above })
    (c.from_residual.ensures ∙ sym (before_in-root walk.whole c.args.top
    c.args.key walk.top_is_node walk.above (sym c.in_err-parent.ensures.value)))

pub returns-then-eq-clause-value : goal.returns-then-eq-clause-value
returns-then-eq-clause-value c =
    let walk = in_tree c.self.view_is c.self.invariant.kept c.requires.top_is_node c.requires.key_is_node c.requires.within in
    shows_preceding c.self.view_is c.self.invariant.kept
    (record { at_top = c.requires.top_is_node; at_x = c.requires.key_is_node; above = walk.above })
    (sym (ap (before_in (nodes_of c.self.inside.arena.payloads) c.self.inside.arena.children c.args.top)
    (eqb-true c.args.key c.args.top (sym c.if-eq.ensures)) ∙ before_in-top (nodes_of c.self.inside.arena.payloads)
    c.self.inside.arena.children walk.whole c.args.top walk.top_is_node))

pub returns-in_default-clause-value : goal.returns-in_default-clause-value
returns-in_default-clause-value c =
    let walk = in_tree c.self.view_is c.self.invariant.kept c.requires.top_is_node c.requires.key_is_node c.requires.within in
    shows_preceding c.self.view_is c.self.invariant.kept
    (record { at_top = c.requires.top_is_node; at_x = c.requires.key_is_node; above = walk.above })
    (sym (before_in-child walk.whole walk.top_is_node (eqb-false c.args.key c.args.top (sym c.if-eq.ensures)) walk.above
    (sym c.in_ok-parent.ensures.value) (sym (none_left c.prev.result c.in_default.not-Some) ∙ c.prev.ensures.value)))

pub loop-last-init : goal.loop-last-init
loop-last-init c =
    let walk = in_tree c.self.view_is c.self.invariant.kept c.requires.top_is_node c.requires.key_is_node c.requires.within in
    let other = eqb-false c.args.key c.args.top (sym c.if-eq.ensures) in (
      c.in-Some.ensures.node c.in-Some.prev refl,
      child_below c.self.invariant.kept.forest c.args.top c.in-Some.prev
          (still_below c.self.invariant.kept.forest other walk.above
          (sym c.in_ok-parent.ensures.value)) (c.in-Some.ensures.sibling c.in-Some.prev refl ∙ sym c.in_ok-parent.ensures.value),
      sym (before_in-child walk.whole walk.top_is_node other walk.above (sym c.in_ok-parent.ensures.value) c.in-Some.ensures.value),
    )

pub loop-last-smaller : goal.loop-last-smaller
loop-last-smaller c =
    let node = c.in-Some-last.ensures.node c.in-Some-last.last refl in
    let paired = c.self.invariant.kept.paired in
    deeper c.self.inside.arena.children c.self.invariant.kept.forest c.loop-last.at c.in-Some-last.last (omega arith)
    (c.in-Some-last.ensures.child c.in-Some-last.last refl)

pub loop-last-preserved : goal.loop-last-preserved
loop-last-preserved c =
    let walk = in_tree c.self.view_is c.self.invariant.kept c.requires.top_is_node c.requires.key_is_node c.requires.within in
    let child = c.in-Some-last.ensures.child c.in-Some-last.last refl in (
      c.in-Some-last.ensures.node c.in-Some-last.last refl,
      child_below c.self.invariant.kept.forest c.args.top c.in-Some-last.last c.loop-last.invariant.1 child,
      sym (last_in-child walk.whole c.args.top c.loop-last.at
          walk.top_is_node c.loop-last.invariant.1 c.in-Some-last.ensures.value) ∙ c.loop-last.invariant.2,
    )

pub returns-clause-value : goal.returns-clause-value
returns-clause-value c =
    let walk = in_tree c.self.view_is c.self.invariant.kept c.requires.top_is_node c.requires.key_is_node c.requires.within in
    shows_preceding c.self.view_is c.self.invariant.kept
    (record { at_top = c.requires.top_is_node; at_x = c.requires.key_is_node; above = walk.above })
    (sym (last_in-leaf walk.whole c.args.top c.loop-last.at walk.top_is_node
    c.loop-last.invariant.1 (sym (none_left c.last.result c.in_default-last.not-Some) ∙ c.last.ensures.value)) ∙ c.loop-last.invariant.2)

pub returns-clause-node : goal.returns-clause-node
returns-clause-node c k e =
    within_names c.self.view_is c.self.invariant.kept k
    (subst (λ (j : ℕ). j < length c.self.inside.arena.payloads) (same_Some c.loop-last.at k e) c.loop-last.invariant.0)

pub returns-in_default-clause-within : goal.returns-in_default-clause-within
returns-in_default-clause-within c = preceding_within c.self.view_is c.self.invariant.kept c.args.top c.args.key c.in_ok-parent.parent
    c.requires.top_is_node (c.in_ok-parent.ensures.node c.in_ok-parent.parent refl) (returns-in_default-clause-value c)

pub returns-clause-within : goal.returns-clause-within
returns-clause-within c = preceding_within c.self.view_is c.self.invariant.kept c.args.top c.args.key c.loop-last.at c.requires.top_is_node
    c.loop-last.invariant.0 (returns-clause-value c)
