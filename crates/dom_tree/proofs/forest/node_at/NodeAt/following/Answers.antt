use Rattle.dom_base.proofs.Std.{◌≡◌, ◌<◌, Some, None, length, ap, sym, ◌∙◌, refl}
use Rattle.node_arena.specs.Nodes.{children_of, parent_of, next_of}
use Rattle.dom_tree.specs.Definitions.{nodes_of}
use Rattle.dom_tree.proofs.Steps.{tree_here, found_behind, found_below}
use Rattle.dom_tree.proofs.Walks.{fewer_above}
use Rattle.dom_tree.proofs.OrderWithin.{behind_in, behind_in-top, behind_in-here, behind_in-parent, still_below, has_above, head_or-here}
use Rattle.dom_tree.proofs.OrderWithin.{head_or-lacking, told_apart, told_same}
use Rattle.dom_tree.proofs.forest.node_at.NodeAt.following.Goals as goal

pub returns-in-Some-clause-value : goal.returns-in-Some-clause-value
returns-in-Some-clause-value c =
    let w = c.self.inside.walk in
    found_behind c.self.invariant c.self.view_is c.requires.top_is_node c.requires.within
    (head_or-here (children_of w.whole.children w.key) (behind_in (nodes_of w.whole.payloads) w.whole.children c.args.top w.key)
    (Some c.in-Some.walk.key) c.in-Some.ensures.value refl)

pub returns-in-Some-clause-within : goal.returns-in-Some-clause-within
returns-in-Some-clause-within c =
    found_below c.self.invariant c.self.view_is c.requires.top_is_node c.requires.within (Some c.in-Some.walk.key) c.in-Some.ensures.node
    (returns-in-Some-clause-value c)

pub loop-forest-init : goal.loop-forest-init
loop-forest-init c =
    (refl, (c.self.invariant.node, (tree_here c.self.invariant c.self.view_is c.requires.top_is_node c.requires.within).above, refl))

pub returns-in-Some-next-clause-value : goal.returns-in-Some-next-clause-value
returns-in-Some-next-clause-value c =
    let w = c.self.inside.walk in
    let at = c.loop-forest.at in
    let tree = tree_here c.self.invariant c.self.view_is c.requires.top_is_node c.requires.within in
    let other : at.key ≡ c.args.top → ⊥ = λ e. told_apart c.key.result c.args.top c.loop-forest-test.ensures (c.key.ensures.value ∙ e) in
    let step : Some c.in-Some-next.walk.key ≡ next_of w.whole.children at.key =
    c.in-Some-next.ensures.value ∙ ap (λ a. next_of a.children at.key) c.loop-forest.invariant.0 in
    found_behind c.self.invariant c.self.view_is c.requires.top_is_node c.requires.within
    (behind_in-here tree.whole tree.top_is_node other c.loop-forest.invariant.1.1 step refl ∙ (c.loop-forest.invariant.1.2 ∙ sym
    (head_or-lacking (children_of w.whole.children w.key) (behind_in (nodes_of w.whole.payloads) w.whole.children c.args.top w.key) None
    c.in_default.ensures.value refl)))

pub returns-in-Some-next-clause-within : goal.returns-in-Some-next-clause-within
returns-in-Some-next-clause-within c =
    found_below c.self.invariant c.self.view_is c.requires.top_is_node c.requires.within (Some c.in-Some-next.walk.key)
    (rw c.loop-forest.invariant.0 at c.in-Some-next.ensures.node) (returns-in-Some-next-clause-value c)

pub returns-in_default-parent-clause-value : goal.returns-in_default-parent-clause-value
returns-in_default-parent-clause-value c =
    let at = c.loop-forest.at in
    let other : at.key ≡ c.args.top → ⊥ = λ e. told_apart c.key.result c.args.top c.loop-forest-test.ensures (c.key.ensures.value ∙ e) in
    absurd (has_above c.self.inside.walk.whole.children c.args.top at.key other c.loop-forest.invariant.1.1
    (sym (c.in_default-parent.ensures.value ∙ ap (λ a. parent_of a.children at.key) c.loop-forest.invariant.0)))

pub loop-forest-smaller : goal.loop-forest-smaller
loop-forest-smaller c =
    fewer_above c.self.invariant.kept.forest c.loop-forest.at.key c.in-Some-parent.parent.key
    (c.in-Some-parent.ensures.value ∙ ap (λ a. parent_of a.children c.loop-forest.at.key) c.loop-forest.invariant.0)

pub loop-forest-preserved : goal.loop-forest-preserved
loop-forest-preserved c =
    let w = c.self.inside.walk in
    let at = c.loop-forest.at in
    let same = c.loop-forest.invariant.0 in
    let tree = tree_here c.self.invariant c.self.view_is c.requires.top_is_node c.requires.within in
    let other : at.key ≡ c.args.top → ⊥ = λ e. told_apart c.key.result c.args.top c.loop-forest-test.ensures (c.key.ensures.value ∙ e) in
    let lacking : next_of w.whole.children at.key ≡ None = sym (c.in_default-next.ensures.value ∙ ap (λ a. next_of a.children at.key) same) in
    let up : parent_of w.whole.children at.key ≡ Some c.in-Some-parent.parent.key =
    sym (c.in-Some-parent.ensures.value ∙ ap (λ a. parent_of a.children at.key) same) in
    let node : c.in-Some-parent.parent.key < length at.whole.payloads = c.in-Some-parent.ensures.node c.in-Some-parent.parent.key refl in (
      c.in-Some-parent.ensures.same c.in-Some-parent.parent refl ∙ same,
      (
        rw same at node,
        still_below c.self.invariant.kept.forest other c.loop-forest.invariant.1.1 up,
        sym (behind_in-parent tree.whole tree.top_is_node other c.loop-forest.invariant.1.1 lacking up) ∙ c.loop-forest.invariant.1.2,
      ),
    )

pub returns-clause-value : goal.returns-clause-value
returns-clause-value c =
    let w = c.self.inside.walk in
    let behind = behind_in (nodes_of w.whole.payloads) w.whole.children c.args.top in
    let tree = tree_here c.self.invariant c.self.view_is c.requires.top_is_node c.requires.within in
    let ends = ap behind (sym c.key.ensures.value ∙ told_same c.key.result c.args.top c.loop-forest-test.ensures)
    ∙ behind_in-top (nodes_of w.whole.payloads) w.whole.children tree.whole c.args.top tree.top_is_node in
    found_behind c.self.invariant c.self.view_is c.requires.top_is_node c.requires.within
    (sym ends ∙ (c.loop-forest.invariant.1.2 ∙ sym
    (head_or-lacking (children_of w.whole.children w.key) (behind w.key) None c.in_default.ensures.value refl)))
