use Rattle.dom_traversal.proofs.Cited.{◌≡◌, Some, sym, subst, filter, option_map, ForSome, last_of, name_at, up_to_tree, BeginsBackward, filter_of}
use Rattle.dom_traversal.proofs.Cited.{is_candidate, IsWalkerOf, KeyedWalker, stop_of, walker_view}
use Rattle.dom_traversal.proofs.ReachingBack.{ReachesBack-begin, ReachesBack-hit, ReachesBack-step, ReachesBack-shorter, LowestKey, low_stands}
use Rattle.dom_traversal.proofs.walker.Walker.last_reached.Goals.{After-lowest-low}
use Rattle.dom_traversal.proofs.walker.Walker.last_reached.Goals as goal

pub loop-at-init : goal.loop-at-init
loop-at-init c =
    let f = c.args.forest.now in
    let begins = subst (λ (v : KeyedWalker). ForSome c.args.from (BeginsBackward f v c.args.top)) (sym c.self.view_is) c.requires.begins in
    ReachesBack-begin c.law_nodes_stand_once.ensures.once c.law_nodes_stand_once.ensures.only begins

-- the walker, and its current node
abbrev walker : After-lowest-low → KeyedWalker
walker c = record { root = c.self.inside.root; current = c.self.inside.current; filter = filter_of c.self.inside.filter }

placed : (c : After-lowest-low) → IsWalkerOf c.args.forest.now (walker c)
placed c = subst (IsWalkerOf c.args.forest.now) (sym c.self.view_is) c.requires.walker

-- the lowest node that it looks at
low : (c : After-lowest-low) → LowestKey c.args.forest.now (walker c).filter c.in-Some.key c.lowest-low.result
low c = record {
  node = c.lowest-low.ensures.node;
  tree = c.lowest-low.ensures.tree;
  ends = c.lowest-low.ensures.ends;
  path = c.lowest-low.ensures.path;
}

pub returns-then-accepts-clause-value : goal.returns-then-accepts-clause-value
returns-then-accepts-clause-value c =
    let f = c.args.forest.now in
    let at = (goal.at.returns-then-accepts-clause-value c).After-lowest-low in
    let hit = ReachesBack-hit f c.law_nodes_stand_once.ensures.once c.law_nodes_stand_once.ensures.only (walker at) c.args.top (placed at).current
    c.args.from c.loop-at.at c.in-Some.key c.in-Some.is c.loop-at.invariant c.lowest-low.result (low at) (sym c.if-accepts.ensures) in
    let from = option_map (name_at f.names) c.args.from in
    subst (λ (v : KeyedWalker). Some (name_at f.names c.lowest-low.result) ≡ last_of
    (filter (is_candidate f.trees (walker_view f.names v) (stop_of f.trees v.filter (name_at f.names c.args.top) from))
    (up_to_tree f.trees (stop_of f.trees v.filter (name_at f.names c.args.top) from) from))) c.self.view_is hit

pub beside-at-requires-clause-below : goal.beside-at-requires-clause-below
beside-at-requires-clause-below c =
    let at = (goal.at.beside-at-requires-clause-below c).After-lowest-low in
    low_stands c.args.forest.now c.law_nodes_stand_once.ensures.once c.law_nodes_stand_once.ensures.only (walker at) c.args.top (placed at).current
    c.args.from c.loop-at.at c.in-Some.key c.in-Some.is c.loop-at.invariant c.lowest-low.result (low at)

pub loop-at-smaller : goal.loop-at-smaller
loop-at-smaller c =
    let at = (goal.at.loop-at-smaller c).After-lowest-low in
    ReachesBack-shorter c.args.forest.now c.law_nodes_stand_once.ensures.once c.law_nodes_stand_once.ensures.only (walker at) c.args.top (placed at).current
    c.args.from c.loop-at.at c.in-Some.key c.in-Some.is c.loop-at.invariant c.lowest-low.result (low at) c.beside-at.result c.beside-at.ensures.value

pub loop-at-preserved : goal.loop-at-preserved
loop-at-preserved c =
    let at = (goal.at.loop-at-preserved c).After-lowest-low in
    ReachesBack-step c.args.forest.now c.law_nodes_stand_once.ensures.once c.law_nodes_stand_once.ensures.only (walker at) c.args.top (placed at).current
    c.args.from c.loop-at.at c.in-Some.key c.in-Some.is c.loop-at.invariant c.lowest-low.result (low at) c.beside-at.result c.beside-at.ensures.value
    (sym c.if-accepts.ensures) c.beside-at.ensures.below c.beside-at.ensures.stop c.beside-at.ensures.path
