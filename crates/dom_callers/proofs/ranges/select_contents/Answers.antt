use Rattle.std.proofs.Common.{◌∙◌, ◌+◌, inl, inr, Err, ap, arith}
use Rattle.dom_model.specs.Tree.{length_of}
use Rattle.dom_tree.specs.Definitions.{name_at}
use Rattle.dom_callers.proofs.Selections.{all-ended, range-made}
use Rattle.dom_ranges.specs.Definitions.{range_in, ranges_of}
use Rattle.dom_callers.proofs.ranges.select_contents.Goals as goal

-- src/ranges.rt:19:1
pub returns-clause-made : goal.returns-clause-made
returns-clause-made c = λ o.
    let size = length_of c.args.forest.now.trees (name_at c.args.forest.now.names c.args.node) in
    c.in-Ok.ensures.set o ∙ rw (c.in_ok-number.ensures.number, c.length-length.ensures)
    (all-ended c.law_names.ensures.same_owner c.args.ranges.now c.make.new.self c.args.owner c.args.node c.in_ok-number.ensures.made
    {f = c.args.forest.now} (record {
      one_tree = c.law_points_in_one_node.ensures.one_tree c.args.forest.now.trees;
      before = c.law_points_in_one_node.ensures.before c.args.forest.now.trees;
    }) size o)

-- src/ranges.rt:38:9
pub unreachable-requires : goal.unreachable-requires
unreachable-requires c =
    let made = range-made c.law_names.ensures.same_owner c.args.ranges.now c.make.new.self c.args.owner c.args.node c.in_ok-number.ensures.made in
    let there = ap (range_in (ranges_of c.make.new.self c.args.owner)) c.in_ok-number.ensures.number ∙ made in
    elim c.in_default.ensures.other [
      | inl e ↦ let none = c.in_default.ensures.unknown.0 (ap Err e) in cc
      | inr e ↦ let past = (c.in_default.ensures.index_size.0 (ap Err e)).1 in omega (arith, past, c.length-length.ensures)
    ]

pub returns-clause-within : goal.returns-clause-within
returns-clause-within c = λ most fits within.
    let f = c.args.forest.now in
    let laws = c.law_ends_stay.ensures in
    let mid = laws.made f.names most c.args.ranges.now c.make.new.self c.args.owner c.args.node c.requires.node_is_node c.in_ok-number.ensures.made within in
    let short = c.length-length.ensures in
    laws.end f most c.make.new.self c.set_end.new.self c.args.owner c.in_ok-number.number c.args.node c.length-length.result c.requires.node_is_node
    (omega (arith, fits, short)) c.in-Ok.ensures.set mid

pub returns-clause-nodes : goal.returns-clause-nodes
returns-clause-nodes c = λ nodes.
    let f = c.args.forest.now in
    let laws = c.law_ends_stay.ensures in
    let size = length_of f.trees (name_at f.names c.args.node) in
    let bound = laws.bound f.names c.args.ranges.now nodes in
    laws.at_nodes f.names (bound.0 + size) c.set_end.new.self (returns-clause-within c (bound.0 + size) (omega arith)
    (laws.more f.names f.names bound.0 (bound.0 + size) c.args.ranges.now (omega arith) (omega arith) bound.1))
