-- A node that is a child of the one given is told by its parent.
use Rattle.dom_selectors.proofs.Cited.{Some, ap, sym, ◌∙◌, eqb-true, name_at}
use Rattle.dom_selectors.proofs.asking.is_child.Goals as goal

pub returns-in-Some-parent : goal.returns-in-Some-parent
returns-in-Some-parent c = λ e other.
    let f = c.args.node.now.whole in
    let k = c.in-Some-parent.parent.key in
    let same = sym c.key.ensures.value ∙ eqb-true c.key.result c.in-Some.key (sym c.eq.ensures ∙ e) in
    other c.in-Some.key c.in-Some.is (sym c.in-Some-parent.ensures.value ∙ ap (λ j. Some (name_at f.names j)) same)
