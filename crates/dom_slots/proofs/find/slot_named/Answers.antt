use Rattle.dom_base.proofs.Std.{Some, refl, sym, ap, ◌∙◌, filter}
use Rattle.dom_model.proofs.Model.{first_of, has_slot_name, node_in}
use Rattle.dom_tree.proofs.Standing.{Once-forest}
use Rattle.dom_tree.proofs.Searching.{left-behind}
use Rattle.dom_slots.proofs.Walks.{from-top, stands-top, walks-on, finds-here, finds-none}
use Rattle.dom_slots.proofs.find.slot_named.Goals as goal

pub loop-at-init : goal.loop-at-init
loop-at-init c =
    let f = c.args.forest.now in
    let e = c.law_nodes_stand_once.ensures in
    record {
      stands = stands-top f e.once e.only c.args.top c.requires (Some c.args.top) refl;
      left = ap (λ xs. first_of (filter (λ y. has_slot_name c.args.name.now (node_in f.trees y)) xs)) (from-top f e.once e.only c.args.top c.requires);
    }

pub loop-at-smaller : goal.loop-at-smaller
loop-at-smaller c =
    let e = c.law_nodes_stand_once.ensures in
    (walks-on c.args.forest.now e.once e.only c.in-Some.is c.loop-at.invariant.stands c.following-at.ensures.value c.following-at.ensures.node).less

pub loop-at-preserved : goal.loop-at-preserved
loop-at-preserved c =
    let f = c.args.forest.now in
    let e = c.law_nodes_stand_once.ensures in
    let step = walks-on f e.once e.only c.in-Some.is c.loop-at.invariant.stands c.following-at.ensures.value c.following-at.ensures.node in
    record {
      stands = step.stands;
      left = left-behind f c.args.top c.in-Some.key c.loop-at.at c.following-at.result c.in-Some.is step.left
          (λ y. has_slot_name c.args.name.now (node_in f.trees y)) (sym c.if-has_name.ensures) ∙ c.loop-at.invariant.left;
    }

pub returns-then-has_name-clause-value : goal.returns-then-has_name-clause-value
returns-then-has_name-clause-value c =
    let e = c.law_nodes_stand_once.ensures in
    finds-here c.args.forest.now (Once-forest c.args.forest.now e.once e.only) c.args.top c.args.name.now c.loop-at.invariant.left c.in-Some.is
    (sym c.if-has_name.ensures)

pub returns-clause-value : goal.returns-clause-value
returns-clause-value c =
    let e = c.law_nodes_stand_once.ensures in
    finds-none c.args.forest.now (Once-forest c.args.forest.now e.once e.only) c.args.top c.args.name.now c.loop-at.invariant.left c.in_default.is
