-- The ancestors of a node are its parent and those above it.
use Rattle.dom_selectors.proofs.Cited.{Some, None, ap, sym, ◌∙◌, list_any, complex_matches, complex_from, name_at, subst, IsKnown, NamedTrees}
use Rattle.dom_selectors.proofs.JoinedLaws.{above_step}
use Rattle.dom_selectors.proofs.Remembered.{remembered, some_from}
use Rattle.dom_selectors.proofs.above.ancestor_matches.Goals as goal

pub returns-in_default-clause-value : goal.returns-in_default-clause-value
returns-in_default-clause-value c =
    let f = c.args.node.now.whole in
    let e = rw c.forest-forest.ensures at c.law_nodes_stand_once.ensures in
    sym (ap (list_any (complex_matches f.trees (complex_from c.args.first.now c.args.left.now)))
    (above_step f e.once e.only c.args.node.now.key None c.in_default.ensures.value))

pub returns-in-Some-answer_of-clause-value : goal.returns-in-Some-answer_of-clause-value
returns-in-Some-answer_of-clause-value c =
    let f = c.args.node.now.whole in
    let e = rw c.forest-forest.ensures at c.law_nodes_stand_once.ensures in
    let d = complex_from c.args.first.now c.args.left.now in
    remembered f d c.args.known.now c.key-parent.result c.requires
    (c.answer_of.ensures c.in-Some-answer_of.matches c.in-Some-answer_of.is)
    ∙ ap (some_from f d) c.key-parent.ensures.value
    ∙ sym (ap (list_any (complex_matches f.trees d)) (above_step f e.once e.only c.args.node.now.key (Some c.in-Some.above.key) c.in-Some.ensures.value))

pub ancestor_found-requires-clause-parent : goal.ancestor_found-requires-clause-parent
ancestor_found-requires-clause-parent c =
    let f = c.args.node.now.whole in
    rw (c.forest-forest.ensures, c.key.ensures.value)
    (sym c.in-Some.ensures.value ∙ ap (λ k. Some (name_at f.names k)) (sym c.key-parent.ensures.value))

pub returns-clause-value : goal.returns-clause-value
returns-clause-value c = rw (c.forest-forest.ensures, c.key.ensures.value) at c.ancestor_found.ensures.value

pub returns-clause-known : goal.returns-clause-known
returns-clause-known c =
    subst (λ (g : NamedTrees). IsKnown g (complex_from c.args.first.now c.args.left.now) c.ancestor_found.new.known) c.forest-forest.ensures
    c.ancestor_found.ensures.known
