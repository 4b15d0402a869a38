use Rattle.dom_ranges.proofs.Cited.{Option, refl, ap, ◌∙◌, option_map_or, NodeName, name_eq, after_removal, is_inclusive_ancestor, index_of, name_at}
use Rattle.dom_ranges.proofs.Cited.{named_ends_by, named_ranges, ranges_of}
use Rattle.dom_ranges.proofs.Naming.{removal-named}
use Rattle.dom_ranges.proofs.table.RangeTable.on_remove.Goals as goal

pub returns-in-Some-clause-named : goal.returns-in-Some-clause-named
returns-in-Some-clause-named c =
    λ o.
    let f = c.args.forest.now in
    let x = name_at f.names c.args.node in
    let rs = named_ranges f.names (ranges_of c.args.self.now o) in
    ap (named_ranges f.names) (c.remove_child.ensures o)
    ∙ ((removal-named f c.law_nodes_stand_once.ensures.distinct c.args.node c.in-Some.parent (index_of f.trees x)
    (c.in-Some.ensures.node c.in-Some.parent refl)).0 (ranges_of c.args.self.now o) (c.requires.ends o)
    ∙ ap (λ (p : Option NodeName). option_map_or
    (λ parent. named_ends_by (after_removal name_eq (is_inclusive_ancestor f.trees x) parent (index_of f.trees x)) rs) p rs)
    c.in-Some.ensures.value)
