use Rattle.dom_traversal.proofs.Cited.{◌<◌, subst, sym, KeyedWalker, walker_left}
use Rattle.dom_traversal.proofs.Fewer.{walker_fewer}
use Rattle.dom_traversal.proofs.walker.Walker.next.Goals as goal

pub returns-clause-fewer : goal.returns-clause-fewer
returns-clause-fewer c =
    let f = c.args.forest.now in
    let less = walker_fewer c.law_nodes_stand_once.ensures.once c.law_nodes_stand_once.ensures.only c.requires c.in_ok-found.found
    c.in_ok-found.ensures.value in
    λ _ _. subst (λ (w : KeyedWalker). walker_left f record w { current = c.in_ok-found.found } < walker_left f c.args.self.now) (sym c.self.view_is) less
