use Rattle.dom_traversal.proofs.Cited.{sym, ap, subst, ◌∙◌, refl, name_at, walker_move, filter_of, IsWalkerOf, KeyedWalker, walker_view}
use Rattle.dom_traversal.proofs.Climbing.{inner-name, inner-within, climb_ends, parent_step}
use Rattle.dom_traversal.proofs.Beginning.{move-step}
use Rattle.dom_traversal.proofs.Parents.{above-hit, above-miss}
use Rattle.dom_base.specs.declared.Move.TheVariants as moves
use Rattle.dom_traversal.proofs.walker.Walker.parent_node.Goals as goal

pub returns-in_err-at-clause-value : goal.returns-in_err-at-clause-value
returns-in_err-at-clause-value c =
    let f = c.args.forest.now in
    let placed = subst (IsWalkerOf f) (sym c.self.view_is) c.requires in
    let inner = inner-name c.law_nodes_stand_once.ensures.once c.law_nodes_stand_once.ensures.only c.law_nodes_stand_once.ensures.distinct
    placed.root c.loop-self.invariant.stands (sym c.loop-self-test.ensures) in
    absurd (climb_ends inner c.in_err-at.ensures.value)

pub returns-then-accepts-clause-value : goal.returns-then-accepts-clause-value
returns-then-accepts-clause-value c =
    let f = c.args.forest.now in
    let w : KeyedWalker = record { root = c.self.inside.root; current = c.self.inside.current; filter = filter_of c.self.inside.filter } in
    let placed = subst (IsWalkerOf f) (sym c.self.view_is) c.requires in
    let inner = inner-name c.law_nodes_stand_once.ensures.once c.law_nodes_stand_once.ensures.only c.law_nodes_stand_once.ensures.distinct
    placed.root c.loop-self.invariant.stands (sym c.loop-self-test.ensures) in
    sym (above-hit f.trees (walker_view f.names w) (name_at f.names c.loop-self.at) (name_at f.names c.in_ok-at.at) (inner-within inner) inner.other
    (sym c.in_ok-at.ensures.value) (sym c.if-accepts.ensures))
    ∙ (c.loop-self.invariant.left
    ∙ (move-step f.trees (walker_view f.names w) moves.Parent (sym c.if-not-is_inclusive_ancestor.ensures) ∙
    ap (λ (v : KeyedWalker). walker_move f.trees (walker_view f.names v) moves.Parent) c.self.view_is))

pub loop-self-smaller : goal.loop-self-smaller
loop-self-smaller c =
    let f = c.args.forest.now in
    let placed = subst (IsWalkerOf f) (sym c.self.view_is) c.requires in
    let inner = inner-name c.law_nodes_stand_once.ensures.once c.law_nodes_stand_once.ensures.only c.law_nodes_stand_once.ensures.distinct
    placed.root c.loop-self.invariant.stands (sym c.loop-self-test.ensures) in
    (parent_step c.in_ok-at.at inner c.in_ok-at.ensures.value (c.in_ok-at.ensures.node c.in_ok-at.at refl)).1

pub loop-self-preserved : goal.loop-self-preserved
loop-self-preserved c =
    let f = c.args.forest.now in
    let w : KeyedWalker = record { root = c.self.inside.root; current = c.self.inside.current; filter = filter_of c.self.inside.filter } in
    let placed = subst (IsWalkerOf f) (sym c.self.view_is) c.requires in
    let inner = inner-name c.law_nodes_stand_once.ensures.once c.law_nodes_stand_once.ensures.only c.law_nodes_stand_once.ensures.distinct
    placed.root c.loop-self.invariant.stands (sym c.loop-self-test.ensures) in
    record {
      stands = (parent_step c.in_ok-at.at inner c.in_ok-at.ensures.value (c.in_ok-at.ensures.node c.in_ok-at.at refl)).0;
      left = sym (above-miss f.trees (walker_view f.names w) (name_at f.names c.loop-self.at) (name_at f.names c.in_ok-at.at) (inner-within inner) inner.other
          (sym c.in_ok-at.ensures.value) (sym c.if-accepts.ensures)) ∙ c.loop-self.invariant.left;
    }
