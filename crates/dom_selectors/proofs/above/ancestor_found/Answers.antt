-- What was found is remembered of the parent.
use Rattle.dom_selectors.proofs.Cited.{Some, ap, sym, ◌∙◌, list_any, complex_matches, complex_from}
use Rattle.dom_selectors.proofs.JoinedLaws.{above_step}
use Rattle.dom_selectors.proofs.Remembered.{found_known}
use Rattle.dom_selectors.proofs.above.ancestor_found.Goals as goal

pub returns-clause-known : goal.returns-clause-known
returns-clause-known c =
    let f = c.args.forest.now in
    let law = c.law_nodes_stand_once.ensures in
    let d = complex_from c.args.first.now c.args.left.now in
    found_known f d (record { parent = c.args.parent; matches = c.ancestors_match-matches.result })
    (c.ancestors_match-matches.ensures
    ∙ ap (list_any (complex_matches f.trees d)) (above_step f law.once law.only c.args.key (Some c.args.parent) (sym c.requires.parent)))
