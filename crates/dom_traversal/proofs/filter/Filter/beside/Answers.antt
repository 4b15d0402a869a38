use Rattle.dom_traversal.proofs.Cited.{None, refl, sym, filter_of}
use Rattle.dom_traversal.proofs.Aside.{no_parent_below, rises}
use Rattle.dom_traversal.proofs.Beside.{HasRisen-begin, beside_found, beside_up, beside_ends}
use Rattle.dom_traversal.proofs.filter.Filter.beside.Goals as goal

pub up-init : goal.up-init
up-init c = HasRisen-begin c.args.direction c.args.forest.now (filter_of c.args.self.now) c.args.top c.args.key c.requires.below

pub returns-then-is_some : goal.returns-then-is_some
returns-then-is_some c =
    let found = beside_found c.args.direction c.args.forest.now c.law_nodes_stand_once.ensures.once c.law_nodes_stand_once.ensures.only
    (filter_of c.args.self.now) c.args.top c.args.key c.up.at c.up.invariant c.sibling-found.result c.sibling-found.ensures.value
    c.sibling-found.ensures.node (sym c.if-is_some.ensures) in
    record { value = found.value; below = found.below; stop = found.stop; path = found.path }

pub returns-in_err-parent-clause-value : goal.returns-in_err-parent-clause-value
returns-in_err-parent-clause-value c =
    absurd (no_parent_below c.args.forest.now c.law_nodes_stand_once.ensures.once c.law_nodes_stand_once.ensures.only (filter_of c.args.self.now)
    c.args.top c.up.at c.up.invariant.below None c.in_err-parent.ensures.value refl)

pub returns-then-is_stop-clause-value : goal.returns-then-is_stop-clause-value
returns-then-is_stop-clause-value c =
    beside_ends c.args.direction c.args.forest.now c.law_nodes_stand_once.ensures.once c.law_nodes_stand_once.ensures.only (filter_of c.args.self.now)
    c.args.top c.args.key c.up.at c.up.invariant c.sibling-found.result c.sibling-found.ensures.value c.in_ok-parent.parent c.in_ok-parent.ensures.value
    (sym c.if-is_some.ensures) (sym c.if-is_stop.ensures)

pub up-smaller : goal.up-smaller
up-smaller c =
    (rises c.args.forest.now c.law_nodes_stand_once.ensures.once c.law_nodes_stand_once.ensures.only (filter_of c.args.self.now) c.args.top c.up.at
    c.in_ok-parent.parent c.up.invariant.below c.in_ok-parent.ensures.value (c.in_ok-parent.ensures.node c.in_ok-parent.parent refl)
    (sym c.if-is_stop.ensures)).higher

pub up-preserved : goal.up-preserved
up-preserved c =
    beside_up c.args.direction c.args.forest.now c.law_nodes_stand_once.ensures.once c.law_nodes_stand_once.ensures.only (filter_of c.args.self.now)
    c.args.top c.args.key c.up.at c.up.invariant c.sibling-found.result c.sibling-found.ensures.value c.in_ok-parent.parent c.in_ok-parent.ensures.value
    (sym c.if-is_some.ensures) (c.in_ok-parent.ensures.node c.in_ok-parent.parent refl) (sym c.if-is_stop.ensures)
