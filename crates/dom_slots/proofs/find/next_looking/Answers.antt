use Rattle.dom_base.proofs.Std.{◌≡◌, ◌<◌, Bool, Some, length, sym, ap, subst, ◌∙◌, same_Some, filter, option_map, ForSome}
use Rattle.dom_model.proofs.Model.{NodeName, name_eq, first_of, items_after, node_in, parent_of, siblings}
use Rattle.dom_tree.specs.Definitions.{name_at}
use Rattle.dom_tree.proofs.Standing.{Once-forest, Has-forest}
use Rattle.dom_laws.proofs.Laws.{filter-no, first-hit}
use Rattle.dom_slots.specs.Definitions.{looks_for}
use Rattle.dom_slots.proofs.Siblings.{from_item, IsChild, next_sibling-step, length-next}
use Rattle.dom_slots.proofs.find.next_looking.Goals.{After-next-at-in-Some}
use Rattle.dom_slots.proofs.find.next_looking.Goals as goal

pub loop-at-init : goal.loop-at-init
loop-at-init c =
    let f = c.args.forest.now in
    let e = c.law_nodes_stand_once.ensures in
    let x = name_at f.names c.args.child in
    let at = Has-forest f e.once c.args.child c.requires.node in
    let test : NodeName → Bool = λ y. looks_for c.args.name.now (node_in f.trees y) in
    let up = c.requires.parent.1 in
    let step = next_sibling-step f (Once-forest f e.once e.only) x c.requires.parent.0 at up c.args.child
    record { node = c.requires.node; parent = up } at c.next-at.result c.next-at.ensures.value c.next-at.ensures.node in
    record { child = step.1; left = ap (λ xs. first_of (filter test xs)) (sym step.0) }

pub looks_for-requires : goal.looks_for-requires
looks_for-requires c = (c.loop-at.invariant.child c.requires.parent.0 c.requires.parent.1 c.in-Some.sibling c.in-Some.is).node

pub next-at-requires-in-Some : goal.next-at-requires-in-Some
next-at-requires-in-Some c = (c.loop-at.invariant.child c.requires.parent.0 c.requires.parent.1 c.in-Some.sibling c.in-Some.is).node

-- the step behind a sibling
behind : (c : After-next-at-in-Some)
    → (items_after name_eq (name_at c.args.forest.now.names c.in-Some.sibling) (siblings c.args.forest.now.trees (name_at c.args.forest.now.names c.args.child))
    ≡ from_item (siblings c.args.forest.now.trees (name_at c.args.forest.now.names c.args.child))
    (option_map (name_at c.args.forest.now.names) c.next-at-in-Some.result))
    × ((g : NodeName) → parent_of c.args.forest.now.trees (name_at c.args.forest.now.names c.args.child) ≡ Some g →
    ForSome c.next-at-in-Some.result (IsChild c.args.forest.now g))
behind c =
    let f = c.args.forest.now in
    let e = c.law_nodes_stand_once.ensures in
    let up = c.requires.parent.1 in
    let child = c.loop-at.invariant.child c.requires.parent.0 up c.in-Some.sibling c.in-Some.is in
    next_sibling-step f (Once-forest f e.once e.only) (name_at f.names c.args.child) c.requires.parent.0
    (Has-forest f e.once c.args.child c.requires.node) up c.in-Some.sibling child (Has-forest f e.once c.in-Some.sibling child.node)
    c.next-at-in-Some.result c.next-at-in-Some.ensures.value c.next-at-in-Some.ensures.node

pub loop-at-smaller : goal.loop-at-smaller
loop-at-smaller c = length-next c.args.forest.now (siblings c.args.forest.now.trees (name_at c.args.forest.now.names c.args.child))
    c.next-at-in-Some.result c.in-Some.is (behind c).0

pub loop-at-preserved : goal.loop-at-preserved
loop-at-preserved c =
    let f = c.args.forest.now in
    let all = siblings f.trees (name_at f.names c.args.child) in
    let test : NodeName → Bool = λ y. looks_for c.args.name.now (node_in f.trees y) in
    let step = behind c in
    record {
      child = step.1;
      left = ap (λ xs. first_of (filter test xs)) (sym step.0)
          ∙ (ap first_of (sym (filter-no test (name_at f.names c.in-Some.sibling) (items_after name_eq (name_at f.names c.in-Some.sibling) all)
          (sym c.if-looks_for.ensures)))
          ∙ (ap (λ o. first_of (filter test (from_item all (option_map (name_at f.names) o)))) (sym c.in-Some.is) ∙ c.loop-at.invariant.left));
    }

pub returns-then-looks_for-clause-value : goal.returns-then-looks_for-clause-value
returns-then-looks_for-clause-value c =
    let f = c.args.forest.now in
    let all = siblings f.trees (name_at f.names c.args.child) in
    let test : NodeName → Bool = λ y. looks_for c.args.name.now (node_in f.trees y) in
    sym (first-hit test (name_at f.names c.in-Some.sibling) _ (sym c.if-looks_for.ensures))
    ∙ (ap (λ o. first_of (filter test (from_item all (option_map (name_at f.names) o)))) (sym c.in-Some.is) ∙ c.loop-at.invariant.left)

pub returns-clause-value : goal.returns-clause-value
returns-clause-value c =
    let f = c.args.forest.now in
    let all = siblings f.trees (name_at f.names c.args.child) in
    let test : NodeName → Bool = λ y. looks_for c.args.name.now (node_in f.trees y) in
    ap (λ o. first_of (filter test (from_item all (option_map (name_at f.names) o)))) (sym c.in_default.is) ∙ c.loop-at.invariant.left

pub returns-then-looks_for-clause-node : goal.returns-then-looks_for-clause-node
returns-then-looks_for-clause-node c =
    λ k e. subst (λ j. j < length c.args.forest.now.names) (same_Some c.in-Some.sibling k e)
    (c.loop-at.invariant.child c.requires.parent.0 c.requires.parent.1 c.in-Some.sibling c.in-Some.is).node
