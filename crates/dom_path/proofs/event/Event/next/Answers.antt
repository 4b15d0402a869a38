use Rattle.dom_path.proofs.Cited.{◌≡◌, Some, ◌∙◌, arith}
use Rattle.dom_path.proofs.Nesting.{grows-longer}
use Rattle.dom_path.proofs.Tracks.{event-kept}
use Rattle.dom_path.proofs.Viewed.{next-named, parent-named}
use Rattle.dom_path.proofs.event.Event.next.Goals as goal

pub ends_before-requires-clause-related : goal.ends_before-requires-clause-related
ends_before-requires-clause-related c = λ x e.
    let within = (c.requires.event.at_related x e).within in
    let longer = grows-longer c.args.trees.now c.above.new.trees c.in_ok-above.ensures.grown in
    omega (arith, within, longer)

pub returns-then-ends_before-clause-value : goal.returns-then-ends_before-clause-value
returns-then-ends_before-clause-value c = λ depth hosted.
    next-named c.args.forest.now c.args.slots.now.hosts c.law_nodes_stand_once.ensures.distinct c.above.new.trees c.in_ok-above.ensures.trees depth hosted _ _
    (event-kept c.in_ok-above.ensures.grown c.requires.event) (c.in_ok-above.ensures.stands c.in-Some.above c.in-Some.is) c.if-ends_before.ensures
    (parent-named c.args.forest.now c.args.slots.now.hosts c.args.self.now _ c.requires.event.root c.at-top.ensures c.in-Some.is c.in_ok-above.ensures.value)

pub returns-clause-value : goal.returns-clause-value
returns-clause-value c = λ depth hosted.
    next-named c.args.forest.now c.args.slots.now.hosts c.law_nodes_stand_once.ensures.distinct c.above.new.trees c.in_ok-above.ensures.trees depth hosted _ _
    (event-kept c.in_ok-above.ensures.grown c.requires.event) (c.in_ok-above.ensures.stands c.in-Some.above c.in-Some.is) c.if-ends_before.ensures
    (parent-named c.args.forest.now c.args.slots.now.hosts c.args.self.now _ c.requires.event.root c.at-top.ensures c.in-Some.is c.in_ok-above.ensures.value)

pub returns-clause-up : goal.returns-clause-up
returns-clause-up c = λ x is.
    let same : Some c.in-Some.above ≡ Some x = is in
    parent-named c.args.forest.now c.args.slots.now.hosts c.args.self.now _ c.requires.event.root c.at-top.ensures (c.in-Some.is ∙ same)
    c.in_ok-above.ensures.value
