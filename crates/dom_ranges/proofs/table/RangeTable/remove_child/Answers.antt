use Rattle.dom_ranges.proofs.Cited.{◌∙◌, nat_eq, after_removal, index_of, name_at, is_inside}
use Rattle.dom_ranges.proofs.Pending.{ranges-by}
use Rattle.dom_ranges.proofs.table.RangeTable.remove_child.Goals as goal

pub returns : goal.returns
returns c =
    let f = c.args.forest.now in
    ranges-by (after_removal nat_eq (is_inside f c.args.node) c.args.parent (index_of f.trees (name_at f.names c.args.node)))
    c.remove_child.ensures (c.settle.ensures ∙ c.self.view_is)
