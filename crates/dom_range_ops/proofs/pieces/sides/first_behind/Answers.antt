use Rattle.dom_range_ops.proofs.Cited.{drop, sym, ap, ◌∙◌, option_map_or, option_copied, first_of, children_of, next_sibling, name_at}
use Rattle.dom_range_ops.proofs.PieceSteps.{last-named}
use Rattle.dom_range_ops.proofs.pieces.sides.first_behind.Goals as goal

pub returns-in-Some-clause-value : goal.returns-in-Some-clause-value
returns-in-Some-clause-value c =
    let f = c.args.forest.now in
    c.next.ensures.value
    ∙ ap (λ o. option_map_or (next_sibling f.trees) o (first_of (drop c.args.point.1 (children_of f.trees (name_at f.names c.args.point.0)))))
    (sym (last-named f.names c.args.path.now c.in-Some.child.now (sym c.last.ensures.value ∙ ap option_copied c.in-Some.is)))
