use Rattle.dom_base.proofs.Std.{◌≡◌, List, Some, refl, sym, ap, subst, ◌∙◌, arith}
use Rattle.dom_model.proofs.Model.{NodeName, is_inclusive_ancestor, change_node, under_document}
use Rattle.dom_tree.specs.Definitions.{name_at}
use Rattle.dom_laws.proofs.Laws.{times_count}
use Rattle.dom_tree.proofs.Standing.{Once-forest}
use Rattle.dom_mutation.proofs.Covering.{Sets, sets_first, sets_above, SetsOneIn, sets_on}
use Rattle.dom_mutation.proofs.node_trees.documents.set_documents.Goals as goal

pub loop-at-init : goal.loop-at-init
loop-at-init c =
    let f = c.args.forest.now in
    let once = c.law_nodes_stand_once.ensures.once c.args.top c.requires.top_is_node in
    let times = times_count f.trees (name_at f.names c.args.top) in
    (refl, sets_first f.names (name_at f.names c.args.document) f.trees c.args.top c.requires.top_is_node (omega arith))

pub following-at-requires-clause-within : goal.following-at-requires-clause-within
following-at-requires-clause-within c =
    let f = c.args.forest.now in
    let g = c.loop-at.forest in
    let d = name_at f.names c.args.document in
    let top = name_at f.names c.args.top in
    let names = c.set_document.ensures.names ∙ c.loop-at.invariant.0 in
    let at = subst (Sets f.names d top f.trees g.trees) c.in-Some.is c.loop-at.invariant.1 in
    let changed = c.set_document.ensures.trees ∙
    ap (λ ns. change_node (under_document (Some (name_at ns c.args.document))) (name_at ns c.in-Some.node) g.trees) c.loop-at.invariant.0 in
    subst (λ (ns : List NodeName). is_inclusive_ancestor c.set_document.new.self.trees (name_at ns c.args.top) (name_at ns c.in-Some.node) ≡ _) (sym names)
    (sets_above f.trees
    (Once-forest f c.law_nodes_stand_once.ensures.once c.law_nodes_stand_once.ensures.only) at changed)

-- one node more gets the document
one : (c : goal.After-following-at) → SetsOneIn c.loop-at.forest c.set_document.new.self c.args.top c.args.document c.in-Some.node c.following-at.result
one c = record {
  names = c.set_document.ensures.names;
  changed = c.set_document.ensures.trees;
  found = c.following-at.ensures.value;
  near = c.following-at.ensures.node;
}

pub loop-at-smaller : goal.loop-at-smaller
loop-at-smaller c =
    (sets_on (one c) c.args.forest.now c.loop-at.at
    (Once-forest c.args.forest.now c.law_nodes_stand_once.ensures.once c.law_nodes_stand_once.ensures.only) c.in-Some.is
    c.loop-at.invariant.0 c.loop-at.invariant.1).2

pub loop-at-preserved : goal.loop-at-preserved
loop-at-preserved c =
    let on = sets_on (one c) c.args.forest.now c.loop-at.at
    (Once-forest c.args.forest.now c.law_nodes_stand_once.ensures.once c.law_nodes_stand_once.ensures.only) c.in-Some.is
    c.loop-at.invariant.0 c.loop-at.invariant.1 in
    (on.0, on.1)
