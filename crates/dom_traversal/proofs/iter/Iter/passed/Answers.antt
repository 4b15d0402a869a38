use Rattle.dom_traversal.proofs.Cited.{◌≡◌, true, refl, sym, ap, subst, ◌∙◌, option_map, ahead_of, Iterator, last_of, name_at, nodes_passed, preceding_step}
use Rattle.dom_traversal.proofs.Cited.{Trees, iterator_view, KeyedIterator}
use Rattle.dom_traversal.proofs.iter.Iter.passed.Goals as goal

nodes_passed-ahead_of : (ts : Trees) (i : Iterator) → i.before ≡ true → ahead_of ts i.root i.reference ≡ nodes_passed ts i
nodes_passed-ahead_of ts i e = rw e refl

pub returns-then-self : goal.returns-then-self
returns-then-self c =
    let f = c.args.forest.now in
    let i = c.args.self.now in
    let found = subst (λ (j : KeyedIterator). option_map (name_at f.names) c.preceding.result ≡ last_of
    (ahead_of f.trees (name_at f.names j.root) (name_at f.names j.reference))) c.self.view_is c.preceding.ensures.value in
    let step = preceding_step c.law_nodes_stand_once.ensures.once c.law_nodes_stand_once.ensures.only c.preceding.result
    c.requires.reference found c.preceding.ensures.node in
    record {
      value = sym step.0 ∙ nodes_passed-ahead_of f.trees (iterator_view f.names i) (ap (λ (j : KeyedIterator). j.before) (sym c.self.view_is) ∙ c.if-self.true);
      stands = step.1;
    }
