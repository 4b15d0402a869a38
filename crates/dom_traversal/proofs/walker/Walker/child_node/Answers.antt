use Rattle.dom_traversal.proofs.Cited.{◌≡◌, sym, ap, subst, ◌∙◌, option_map, ForSome, name_at, walker_move, within-itself, Begins, child_move, filter_of}
use Rattle.dom_traversal.proofs.Cited.{IsWalkerOf, KeyedWalker, reached_from, stop_of, walker_view}
use Rattle.dom_traversal.proofs.Climbing.{walker-within}
use Rattle.dom_traversal.proofs.BeginningBack.{Begins-outer, Child-found}
use Rattle.dom_traversal.proofs.walker.Walker.child_node.Goals as goal

pub reached-requires-clause-begins : goal.reached-requires-clause-begins
reached-requires-clause-begins c =
    let f = c.args.forest.now in
    let w : KeyedWalker = record { root = c.self.inside.root; current = c.self.inside.current; filter = filter_of c.self.inside.filter } in
    let placed = subst (IsWalkerOf f) (sym c.self.view_is) c.requires in
    let at = walker-within c.law_nodes_stand_once.ensures.once c.law_nodes_stand_once.ensures.only placed (sym c.if-not-is_inclusive_ancestor.ensures) in
    subst (λ (v : KeyedWalker). ForSome c.outer_child-child.result (Begins c.args.direction f v c.self.inside.current)) c.self.view_is
    (Begins-outer f w c.args.direction (within-itself f.trees (name_at f.names c.self.inside.root) (name_at f.names c.self.inside.current) at)
    c.outer_child-child.result c.outer_child-child.ensures.value c.outer_child-child.ensures.node)

pub returns-clause-value : goal.returns-clause-value
returns-clause-value c =
    let f = c.args.forest.now in
    let w : KeyedWalker = record { root = c.self.inside.root; current = c.self.inside.current; filter = filter_of c.self.inside.filter } in
    let placed = subst (IsWalkerOf f) (sym c.self.view_is) c.requires in
    let at = walker-within c.law_nodes_stand_once.ensures.once c.law_nodes_stand_once.ensures.only placed (sym c.if-not-is_inclusive_ancestor.ensures) in
    let child = option_map (name_at f.names) c.outer_child-child.result in
    let found = subst (λ (v : KeyedWalker). option_map (name_at f.names) c.reached.result ≡ reached_from c.args.direction f.trees (walker_view f.names v)
    (stop_of f.trees v.filter (name_at f.names c.self.inside.current) child) child) (sym c.self.view_is) c.reached.ensures.value in
    found ∙ (Child-found f.trees (walker_view f.names w) c.args.direction at child c.outer_child-child.ensures.value ∙
    ap (λ (v : KeyedWalker). walker_move f.trees (walker_view f.names v) (child_move c.args.direction)) c.self.view_is)
