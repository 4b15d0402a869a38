use Rattle.dom_base.proofs.Std.{map, Some, sym, ap, subst, ◌∙◌}
use Rattle.dom_tree.specs.Definitions.{name_at}
use Rattle.dom_observers.proofs.Ascending.{HasClimbed, climbs-first, climbs-more, climbs-fewer, climbs-all, path_keys-named}
use Rattle.dom_observers.proofs.path.inclusive_ancestors.Goals as goal

pub loop-at-init : goal.loop-at-init
loop-at-init c =
    let f = c.args.forest.now in
    subst (λ path. HasClimbed f c.args.key path (Some c.args.key)) (sym c.new-path.ensures.items) (climbs-first f c.args.key c.requires)

pub loop-at-preserved : goal.loop-at-preserved
loop-at-preserved c =
    let f = c.args.forest.now in
    subst (λ path. HasClimbed f c.args.key path c.parent-at.result) (sym c.in_ok-push.ensures.ok)
    (climbs-more f c.law_nodes_stand_once.ensures.once c.law_nodes_stand_once.ensures.only c.law_nodes_stand_once.ensures.distinct c.parent-at.result
    c.loop-at.invariant c.in-Some.is c.parent-at.ensures.value c.parent-at.ensures.node)

pub loop-at-smaller : goal.loop-at-smaller
loop-at-smaller c =
    climbs-fewer c.args.forest.now c.law_nodes_stand_once.ensures.once c.law_nodes_stand_once.ensures.only c.law_nodes_stand_once.ensures.distinct
    c.parent-at.result c.in-Some.is (c.loop-at.invariant.next c.in-Some.node c.in-Some.is) c.parent-at.ensures.value

pub returns-clause-keys : goal.returns-clause-keys
returns-clause-keys c =
    let f = c.args.forest.now in
    climbs-all f c.args.key c.loop-at.path.items
    (subst (HasClimbed f c.args.key c.loop-at.path.items) c.in_default.is c.loop-at.invariant)

pub returns-clause-names : goal.returns-clause-names
returns-clause-names c =
    let f = c.args.forest.now in
    let e = c.law_nodes_stand_once.ensures in
    ap (map (name_at f.names)) (returns-clause-keys c) ∙ (path_keys-named f e.once e.only c.args.key c.requires).0

pub returns-clause-nodes : goal.returns-clause-nodes
returns-clause-nodes c =
    let f = c.args.forest.now in
    let e = c.law_nodes_stand_once.ensures in
    rw (returns-clause-keys c) (path_keys-named f e.once e.only c.args.key c.requires).1
