use Rattle.std.proofs.Common.{◌≡◌, Some, true, sym, ap, ◌∙◌, arith}
use Rattle.std.specs.Option.{option_and_then}
use Rattle.node_arena.specs.Cells.{lists_of}
use Rattle.node_arena.specs.Nodes.{children_of, contains, next_in}
use Rattle.node_arena.proofs.FirstKnown.{first_begun, first_more, first_other, last_child, last_of-none}
use Rattle.node_arena.proofs.Forests.{parent_of_is}
use Rattle.node_arena.proofs.first_children.FirstChildren.next_child.Goals as goal

pub link-requires : goal.link-requires
link-requires g c =
    let lists = lists_of c.args.store.now.links in
    let child = last_child c.args.self.now.keys (children_of lists c.args.self.now.parent) c.in-Some.last c.requires.first (sym c.in-Some.ensures) in
    omega (arith, c.requires.linked.holds.cells, c.requires.linked.forest.nodes c.args.self.now.parent c.in-Some.last child)

pub returns-in-Some-clause-first : goal.returns-in-Some-clause-first
returns-in-Some-clause-first g c k e =
    let lists = lists_of c.args.store.now.links in
    let child : contains (children_of lists c.args.self.now.parent) c.in-Some.last ≡ true =
    last_child c.args.self.now.keys (children_of lists c.args.self.now.parent) c.in-Some.last c.requires.first (sym c.in-Some.ensures) in
    let parent = parent_of_is lists c.requires.linked.forest.one_list c.args.self.now.parent c.in-Some.last child in
    let next : next_in (children_of lists c.args.self.now.parent) c.in-Some.last ≡ Some k =
    ap (option_and_then (λ p. next_in (children_of lists p) c.in-Some.last)) (sym parent)
    ∙ (sym (c.requires.linked.holds.next c.in-Some.last) ∙ (sym c.link.ensures.value ∙ e)) in
    first_more c.args.self.now.keys
    (c.requires.linked.forest.once c.args.self.now.parent) c.requires.first (sym c.in-Some.ensures) next

pub returns-in-Some-clause-other : goal.returns-in-Some-clause-other
returns-in-Some-clause-other g c k e =
    first_other c.args.self.now.keys _ k (c.requires.linked.forest.once c.args.self.now.parent) (returns-in-Some-clause-first g c k e)

pub returns-in-None-clause-first : goal.returns-in-None-clause-first
returns-in-None-clause-first g c k e =
    let lists = lists_of c.args.store.now.links in
    first_begun c.args.self.now.keys (children_of lists c.args.self.now.parent) k (last_of-none c.args.self.now.keys (sym c.in-None.ensures))
    (sym (c.requires.linked.holds.first c.args.self.now.parent) ∙ (sym c.link-in-None.ensures.value ∙ e))

pub returns-in-None-clause-other : goal.returns-in-None-clause-other
returns-in-None-clause-other g c k e =
    first_other c.args.self.now.keys _ k (c.requires.linked.forest.once c.args.self.now.parent) (returns-in-None-clause-first g c k e)
