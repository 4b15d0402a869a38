use Rattle.std.proofs.Common.{◌≡◌, ◌-◌, ◌≤◌, Some, length, sym, ap, ◌∙◌, refl, arith}
use Rattle.std.specs.Prelude.{slice_get}
use Rattle.node_arena.specs.Nodes.{children_of}
use Rattle.node_arena.proofs.FirstKnown.{last_child, last_of-get}
use Rattle.node_arena.proofs.NthChild.{get-first, get-head, not-there, nth-node, nth-child}
use Rattle.node_arena.proofs.Arena.child.Goals as goal

pub returns-in-Some-get-clause-value : goal.returns-in-Some-get-clause-value
returns-in-Some-get-clause-value g c =
    sym (get-first c.in-Some.known.now c.args.index (c.in-Some.ensures c.in-Some.known refl) (sym c.in-Some-get.ensures))

pub overflow_sub-index : goal.overflow_sub-index
overflow_sub-index g c =
    let known = c.in-Some.known.now in
    let past : length known ≤ c.args.index = not-there known c.args.index (λ k e. c.in_default-get.not-Some k (c.get.ensures ∙ e)) in
    omega (arith, c.len.ensures, past)

pub sibling_behind-requires-clause-key_is_node : goal.sibling_behind-requires-clause-key_is_node
sibling_behind-requires-clause-key_is_node g c =
    let lists = c.args.self.now.children in
    let child = last_child c.in-Some.known.now (children_of lists c.args.parent) c.in-Some-last.last (c.in-Some.ensures c.in-Some.known refl)
    (sym c.in-Some-last.ensures) in
    omega (arith, c.first.ensures.sound.paired, c.first.ensures.sound.forest.nodes c.args.parent c.in-Some-last.last child)

pub returns-in-Some-last-clause-value : goal.returns-in-Some-last-clause-value
returns-in-Some-last-clause-value g c =
    let known = c.in-Some.known.now in
    let list = children_of c.args.self.now.children c.args.parent in
    let past : length known ≤ c.args.index = not-there known c.args.index (λ k e. c.in_default-get.not-Some k (c.get.ensures ∙ e)) in
    let at : slice_get list (length known - 1) ≡ Some c.in-Some-last.last =
    get-first known (length known - 1) (c.in-Some.ensures c.in-Some.known refl) (sym (last_of-get known) ∙ sym c.in-Some-last.ensures) in
    c.sibling_behind.ensures c.args.parent (length known - 1) at ∙ ap (slice_get list) (omega (arith, past, c.len.ensures))

pub returns-clause-value : goal.returns-clause-value
returns-clause-value g c =
    let list = children_of c.args.self.now.children c.args.parent in
    c.sibling_behind-2.ensures c.args.parent 0 (get-head list ∙ sym c.in_ok-first.ensures.value) ∙ ap (slice_get list) (omega arith)

pub returns-in-Some-get-clause-node : goal.returns-in-Some-get-clause-node
returns-in-Some-get-clause-node g c k e =
    nth-node c.args.self.now c.args.parent c.args.index c.first.ensures.sound (sym (returns-in-Some-get-clause-value g c) ∙ e)

pub returns-in-Some-get-clause-child : goal.returns-in-Some-get-clause-child
returns-in-Some-get-clause-child g c k e =
    nth-child c.args.self.now c.args.parent c.args.index c.first.ensures.sound (sym (returns-in-Some-get-clause-value g c) ∙ e)

pub returns-in-Some-last-clause-node : goal.returns-in-Some-last-clause-node
returns-in-Some-last-clause-node g c k e =
    nth-node c.args.self.now c.args.parent c.args.index c.first.ensures.sound (sym (returns-in-Some-last-clause-value g c) ∙ e)

pub returns-in-Some-last-clause-child : goal.returns-in-Some-last-clause-child
returns-in-Some-last-clause-child g c k e =
    nth-child c.args.self.now c.args.parent c.args.index c.first.ensures.sound (sym (returns-in-Some-last-clause-value g c) ∙ e)

pub returns-clause-node : goal.returns-clause-node
returns-clause-node g c k e =
    nth-node c.args.self.now c.args.parent c.args.index c.first.ensures.sound (sym (returns-clause-value g c) ∙ e)

pub returns-clause-child : goal.returns-clause-child
returns-clause-child g c k e =
    nth-child c.args.self.now c.args.parent c.args.index c.first.ensures.sound (sym (returns-clause-value g c) ∙ e)
