use Rattle.dom_traversal.proofs.Cited.{◌≡◌, false, refl, sym, ap, subst, ◌∙◌, option_map, behind, first_of, following_step, Iterator, name_at, nodes_ahead}
use Rattle.dom_traversal.proofs.Cited.{Trees, iterator_view, KeyedIterator}
use Rattle.dom_traversal.proofs.iter.Iter.ahead.Goals as goal

nodes_ahead-behind : (ts : Trees) (i : Iterator) → i.before ≡ false → behind ts i.root i.reference ≡ nodes_ahead ts i
nodes_ahead-behind ts i e = rw e refl

pub returns : goal.returns
returns c =
    let f = c.args.forest.now in
    let i = c.args.self.now in
    let found = subst (λ (j : KeyedIterator). option_map (name_at f.names) c.following.result ≡ first_of
    (behind f.trees (name_at f.names j.root) (name_at f.names j.reference))) c.self.view_is c.following.ensures.value in
    let step = following_step f c.law_nodes_stand_once.ensures.once c.law_nodes_stand_once.ensures.only i.root i.reference c.following.result
    c.requires.reference found c.following.ensures.node in
    record {
      value = sym step.0 ∙ nodes_ahead-behind f.trees (iterator_view f.names i) (ap (λ (j : KeyedIterator). j.before) (sym c.self.view_is) ∙ c.if-self.false);
      stands = step.1;
    }
