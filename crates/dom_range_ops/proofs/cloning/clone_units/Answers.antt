use Rattle.dom_range_ops.proofs.Cited.{List, ℕ, ap, ◌∙◌, slice_range, node_in, name_at}
use Rattle.dom_range_ops.proofs.DocRanges.{if-ok}
use Rattle.dom_range_ops.proofs.cloning.clone_units.Goals as goal

pub returns-clause-value : goal.returns-clause-value
returns-clause-value c =
    let n = node_in c.args.forest.now.trees (name_at c.args.forest.now.names c.args.key) in
    if-ok c.data_with.result (λ copy is x. is x ∙ ap (λ (units : List ℕ). record n { name = x; text = units })
    (c.in_ok-text.ensures.items ∙ c.units_between.ensures ∙ ap (λ (units : List ℕ). slice_range units c.args.from c.args.to) c.text.ensures))
    c.data_with.ensures.value
