use Rattle.dom_ranges.proofs.Cited.{◌<◌, false, length, refl, rules, at, end_in}
use Rattle.dom_tree.proofs.Inside.{top-stands}
use Rattle.dom_ranges.proofs.removing.is_apart.Goals as goal

pub following-walked-requires-clause-within : goal.following-walked-requires-clause-within
following-walked-requires-clause-within c =
    let e = c.law_nodes_stand_once.ensures in
    let some : 0 < length c.args.ends.now = search rules in
    (top-stands c.args.forest.now c.args.top e.once e.only (c.requires.nodes 0 (end_in 0 false (at 0 0)) some).0 c.args.top refl).within
