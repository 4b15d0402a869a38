use Rattle.dom_traversal.proofs.Cited.{◌≡◌, sym, ap, subst, ◌∙◌, option_map, ForSome, name_at, walker_move, Begins, filter_of, IsWalkerOf, KeyedWalker}
use Rattle.dom_traversal.proofs.Cited.{reached_from, sibling_move, stop_of, walker_view}
use Rattle.dom_traversal.proofs.Climbing.{walker-inner}
use Rattle.dom_traversal.proofs.Aside.{IsBelow-inner, inner-below, stop-some}
use Rattle.dom_traversal.proofs.BeginningBack.{Begins-beside, Sibling-found}
use Rattle.dom_traversal.proofs.walker.Walker.sibling_node.Goals as goal

pub beside-from-requires-clause-below : goal.beside-from-requires-clause-below
beside-from-requires-clause-below c =
    let placed = subst (IsWalkerOf c.args.forest.now) (sym c.self.view_is) c.requires in
    inner-below (walker-inner c.law_nodes_stand_once.ensures.once c.law_nodes_stand_once.ensures.only c.law_nodes_stand_once.ensures.distinct placed
    (sym c.if-not-is_inclusive_ancestor.ensures) (sym c.if-eq.ensures))

pub reached-requires-clause-begins : goal.reached-requires-clause-begins
reached-requires-clause-begins c =
    let f = c.args.forest.now in
    let w : KeyedWalker = record { root = c.self.inside.root; current = c.self.inside.current; filter = filter_of c.self.inside.filter } in
    let placed = subst (IsWalkerOf f) (sym c.self.view_is) c.requires in
    let b = IsBelow-inner (walker-inner c.law_nodes_stand_once.ensures.once c.law_nodes_stand_once.ensures.only c.law_nodes_stand_once.ensures.distinct
    placed (sym c.if-not-is_inclusive_ancestor.ensures) (sym c.if-eq.ensures)) in
    subst (λ (v : KeyedWalker). ForSome c.beside-from.result (Begins c.args.direction f v c.self.inside.root)) c.self.view_is
    (Begins-beside f w c.args.direction b c.beside-from.result record {
      value = c.beside-from.ensures.value;
      below = c.beside-from.ensures.below;
      stop = c.beside-from.ensures.stop;
      path = c.beside-from.ensures.path;
    })

pub returns-clause-value : goal.returns-clause-value
returns-clause-value c =
    let f = c.args.forest.now in
    let w : KeyedWalker = record { root = c.self.inside.root; current = c.self.inside.current; filter = filter_of c.self.inside.filter } in
    let placed = subst (IsWalkerOf f) (sym c.self.view_is) c.requires in
    let b = IsBelow-inner (walker-inner c.law_nodes_stand_once.ensures.once c.law_nodes_stand_once.ensures.only c.law_nodes_stand_once.ensures.distinct
    placed (sym c.if-not-is_inclusive_ancestor.ensures) (sym c.if-eq.ensures)) in
    let from = option_map (name_at f.names) c.beside-from.result in
    let found = subst (λ (v : KeyedWalker). option_map (name_at f.names) c.reached.result ≡ reached_from c.args.direction f.trees (walker_view f.names v)
    (stop_of f.trees v.filter (name_at f.names c.self.inside.root) from) from) (sym c.self.view_is) c.reached.ensures.value in
    found
    ∙ (Sibling-found f.trees (walker_view f.names w) c.args.direction b from c.beside-from.ensures.value
    (stop-some f w.filter c.self.inside.root c.self.inside.current c.beside-from.result c.beside-from.ensures.stop)
    ∙ ap (λ (v : KeyedWalker). walker_move f.trees (walker_view f.names v) (sibling_move c.args.direction)) c.self.view_is)
