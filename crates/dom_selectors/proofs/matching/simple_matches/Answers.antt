-- There is no last element before a node where there is none.
use Rattle.dom_selectors.proofs.Cited.{ap, arith, elements_before, name_at, simple_view}
use Rattle.dom_model.proofs.Model.{simple_matches}
use Rattle.dom_selectors.proofs.Anywhere.{no_last_seen}
use Rattle.dom_selectors.proofs.matching.simple_matches.Goals as goal

pub returns-in-FirstChild : goal.returns-in-FirstChild
returns-in-FirstChild c =
    let f = c.args.node.now.whole in
    let x = name_at f.names c.args.node.now.key in
    let empty = no_last_seen (name_at f.names) c.element_beside.result (elements_before f.trees x)
    (rw (c.forest.ensures, c.key.ensures.value) at c.element_beside.ensures.value) in
    let none = c.is_none.ensures in
    let same = ap (λ s. simple_matches f.trees x (simple_view s)) c.in-FirstChild.is in
    grind (arith, empty, none, same)
