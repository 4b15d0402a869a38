use Rattle.dom_traversal.proofs.Cited.{◌≡◌, ◌<◌, false, Some, subst, sym, ap, ◌∙◌, filter, option_map, accepts, first_of, from_node, name_at, iterator_left}
use Rattle.dom_traversal.proofs.Cited.{KeyedIterator}
use Rattle.dom_traversal.proofs.Fewer.{iterator_fewer}
use Rattle.dom_traversal.proofs.iter.Iter.next.Goals as goal

pub returns-clause-fewer : goal.returns-clause-fewer
returns-clause-fewer c =
    let f = c.args.forest.now in
    let i = c.args.self.now in
    let found = subst (λ (j : KeyedIterator). Some (name_at f.names c.in_ok-found.found) ≡ first_of
    (filter (accepts f.trees j.filter) (from_node f.trees (name_at f.names j.root) (option_map (name_at f.names) c.ahead.result))))
    c.self.view_is c.in_ok-found.ensures.value in
    let less = iterator_fewer c.law_nodes_stand_once.ensures.once c.law_nodes_stand_once.ensures.only c.requires c.in_ok-found.found
    (found ∙ ap (λ xs. first_of (filter (accepts f.trees i.filter) xs)) c.ahead.ensures.value) in
    λ _ _. subst (λ (j : KeyedIterator). iterator_left f record j { reference = c.in_ok-found.found; before = false } < iterator_left f i)
    (sym c.self.view_is) less
