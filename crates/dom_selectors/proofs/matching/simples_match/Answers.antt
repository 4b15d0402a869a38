-- Who has not the signs does not match.
use Rattle.dom_selectors.proofs.Cited.{ap, sym, ◌∙◌, false_from_ne_true, list_all, name_at, simple_matches, simple_view}
use Rattle.dom_selectors.proofs.Anywhere.{all_seen}
use Rattle.dom_selectors.proofs.matching.simples_match.Goals as goal

pub returns-then-may_have : goal.returns-then-may_have
returns-then-may_have c =
    let f = c.args.node.now.whole in
    let x = name_at f.names c.args.node.now.key in
    rw (c.forest.ensures, c.key.ensures.value) at c.all_simple_match.ensures ∙ ap (list_all (λ s. simple_matches f.trees x (simple_view s)))
    c.as_slice.ensures.value ∙ all_seen (simple_matches f.trees x) simple_view c.simples.inside.list.items
    ∙ ap (list_all (simple_matches f.trees x)) c.simples.view_is

pub returns-else-may_have : goal.returns-else-may_have
returns-else-may_have c =
    let f = c.args.node.now.whole in
    let x = name_at f.names c.args.node.now.key in
    let none = false_from_ne_true (list_all (simple_matches f.trees x) c.args.simples.now)
    (λ e. c.may_have.ensures c.if-may_have.false (c.simples.invariant f.trees x (ap (list_all (simple_matches f.trees x)) c.simples.view_is ∙ e))) in
    c.if-may_have.false ∙ sym none
