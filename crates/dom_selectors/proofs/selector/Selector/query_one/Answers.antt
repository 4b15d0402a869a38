use Rattle.dom_selectors.proofs.Cited.{◌≡◌, [], ◌∷◌, ◌++◌, Bool, map, ap, sym, ◌∙◌, NodeName, selector_matches, name_at, IsWithin-itself, selector_view}
use Rattle.dom_selectors.proofs.IdQueries.{one_found, none_found}
use Rattle.dom_selectors.proofs.selector.Selector.query_one.Goals.{then-matches_below+in_ok-push, else-matches_below}
use Rattle.dom_selectors.proofs.selector.Selector.query_one.Goals as goal

pub returns-clause-found : goal.returns-clause-found
returns-clause-found c =
    let f = c.args.forest.now in
    let law = c.law_nodes_stand_once.ensures in
    let top = name_at f.names c.args.top in
    let within = IsWithin-itself f law.once law.only c.args.top c.requires.top_is_node in
    let test : NodeName → Bool = selector_matches f.trees (selector_view c.args.self.now) in
    elim c.if-matches_below.branch [
      | then-matches_below+in_ok-push w ↦
          let one : c.if-matches_below.found.items ≡ c.args.key ∷ [] =
          rw w.found-is (w.in_ok-push.ensures.items ∙ ap (λ ks. ks ++ c.args.key ∷ []) c.new-found.ensures.items) in
          ap (map (name_at f.names)) one ∙ one_found f.trees top within test (name_at f.names c.args.key) c.requires.alone
          (sym c.matches_below.ensures ∙ w.if-matches_below.true)
      | else-matches_below w ↦
          let none : c.if-matches_below.found.items ≡ [] = rw w.found-is c.new-found.ensures.items in
          ap (map (name_at f.names)) none ∙ none_found f.trees top within test (name_at f.names c.args.key) c.requires.alone
          (sym c.matches_below.ensures ∙ w.if-matches_below.false)
    ]
