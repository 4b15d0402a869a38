use Rattle.dom_traversal.proofs.Cited.{◌≡◌, refl, sym, ap, subst, ◌∙◌, not-false, eqb-true, beyond, first_of, IsWithin, IsWithin-key, name_at, no_key}
use Rattle.dom_traversal.proofs.Cited.{top_places}
use Rattle.dom_traversal.proofs.Climbing.{Climbs, inner-name, next_step, climb_step, climb_ends}
use Rattle.dom_traversal.proofs.search.beyond.Goals.{In_ok-at}
use Rattle.dom_traversal.proofs.search.beyond.Goals as goal

pub returns-then-is_some : goal.returns-then-is_some
returns-then-is_some c =
    let inner = inner-name c.law_nodes_stand_once.ensures.once c.law_nodes_stand_once.ensures.only c.law_nodes_stand_once.ensures.distinct
    c.requires.top_is_node c.loop-top.invariant.stands (sym c.loop-top-test.ensures) in
    let step = next_step c.next-next.result inner c.next-next.ensures.value c.next-next.ensures.node (sym c.if-is_some.ensures) in
    record { value = step.0 ∙ ap first_of c.loop-top.invariant.left; stands = step.1 }

pub returns-in_err-at-clause-value : goal.returns-in_err-at-clause-value
returns-in_err-at-clause-value c =
    let inner = inner-name c.law_nodes_stand_once.ensures.once c.law_nodes_stand_once.ensures.only c.law_nodes_stand_once.ensures.distinct
    c.requires.top_is_node c.loop-top.invariant.stands (sym c.loop-top-test.ensures) in
    absurd (climb_ends inner c.in_err-at.ensures.value)

-- the step up to the parent
climbs : (c : In_ok-at) → Climbs c.args.forest.now c.args.top c.loop-top.at c.in_ok-at.at
climbs c =
    let inner = inner-name c.law_nodes_stand_once.ensures.once c.law_nodes_stand_once.ensures.only c.law_nodes_stand_once.ensures.distinct
    c.requires.top_is_node c.loop-top.invariant.stands (sym c.loop-top-test.ensures) in
    let last = no_key (name_at c.args.forest.now.names) c.next-next.result c.next-next.ensures.value (sym c.if-is_some.ensures) in
    climb_step c.in_ok-at.at inner last c.in_ok-at.ensures.value (c.in_ok-at.ensures.node c.in_ok-at.at refl)

pub loop-top-smaller : goal.loop-top-smaller
loop-top-smaller c = (climbs (goal.at.loop-top-smaller c).In_ok-at).higher

pub loop-top-preserved : goal.loop-top-preserved
loop-top-preserved c =
    let up = climbs (goal.at.loop-top-preserved c).In_ok-at in
    record { stands = up.stands; left = sym up.beyond_is ∙ c.loop-top.invariant.left }

pub returns-clause-value : goal.returns-clause-value
returns-clause-value c =
    let f = c.args.forest.now in
    let same : name_at f.names c.loop-top.at ≡ name_at f.names c.args.top =
    ap (name_at f.names) (eqb-true c.loop-top.at c.args.top (not-false _ (sym c.loop-top-test.ensures))) in
    let w = subst (IsWithin f.trees (name_at f.names c.args.top)) same
    (IsWithin-key f c.law_nodes_stand_once.ensures.once c.law_nodes_stand_once.ensures.only c.args.top c.loop-top.at c.loop-top.invariant.stands) in
    ap first_of (sym (ap (beyond f.trees (name_at f.names c.args.top)) same ∙ (top_places f.trees (name_at f.names c.args.top) w).1) ∙
    c.loop-top.invariant.left)
