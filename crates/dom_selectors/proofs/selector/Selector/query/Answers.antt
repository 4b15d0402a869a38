use Rattle.dom_selectors.proofs.Cited.{◌≡◌, Some, true, ap, sym, subst, ◌∙◌, map, NodeName, descendants, selector_matches, name_at, MayBear, selector_view}
use Rattle.dom_selectors.proofs.IdQueries.{key_below, nobody_found}
use Rattle.dom_selectors.proofs.selector.Selector.query.Goals as goal

pub query_one-requires-clause-alone : goal.query_one-requires-clause-alone
query_one-requires-clause-alone c = λ x below matches.
    let f = c.args.forest.now in
    let law = c.law_nodes_stand_once.ensures in
    let key = key_below f law.once law.only c.requires.owned c.law_reads_are_own.ensures.near c.args.top c.requires.node x below in
    let only = rw c.as_slice.ensures.value at c.only_matching.ensures in
    let borne = only.kept key.0 key.1.node (key.1.owner ∙ ap (λ (y : NodeName). y.owner) c.name.ensures.at)
    (subst (λ y. selector_matches f.trees (selector_view c.args.self.now) y ≡ true) (sym key.1.named) matches) in
    let is = c.in-Some-Some.is ∙ ap Some c.in-Some-Some.field-0-is in
    sym key.1.named ∙ ap (name_at f.names) (sym (subst (λ b. MayBear b key.0) is borne))

pub returns-in-Some-None-clause-found : goal.returns-in-Some-None-clause-found
returns-in-Some-None-clause-found c =
    let f = c.args.forest.now in
    let law = c.law_nodes_stand_once.ensures in
    let is = c.in-Some-None.is ∙ ap Some c.in-Some-None.field-0-is in
    ap (map (name_at f.names)) c.new.ensures.items
    ∙ nobody_found (selector_matches f.trees (selector_view c.args.self.now)) (descendants f.trees (name_at f.names c.args.top)) (λ x below matches.
    let key = key_below f law.once law.only c.requires.owned c.law_reads_are_own.ensures.near c.args.top c.requires.node x below in
    let only = rw c.as_slice.ensures.value at c.only_matching.ensures in
    subst (λ b. MayBear b key.0) is (only.kept key.0 key.1.node (key.1.owner ∙ ap (λ (y : NodeName). y.owner) c.name.ensures.at)
    (subst (λ y. selector_matches f.trees (selector_view c.args.self.now) y ≡ true) (sym key.1.named) matches)))
