use Rattle.dom_traversal.proofs.Cited.{◌≡◌, ◌<◌, true, true≢false, List, length, sym, ap, subst, ◌∙◌, option_map, Has-forest, is_in, is_inclusive_ancestor}
use Rattle.dom_traversal.proofs.Cited.{keeps_placed, name_at, name_eq, NodeName, Once-forest}
use Rattle.dom_traversal.proofs.iter.law_iterators_go_along.Goals as goal

pub returns-clause-taken_out : goal.returns-clause-taken_out
returns-clause-taken_out c = λ i node at_node stands inside.
    c.law_iterators_stay.ensures i node at_node stands (λ off. absurd (true≢false (sym inside ∙ off)))

pub returns-clause-placed : goal.returns-clause-placed
returns-clause-placed c = λ i node parent before at_node at_parent root apart stands.
    let f = c.args.forest.now in
    let laws = c.law_nodes_stand_once.ensures in
    record {
      root = stands.root;
      reference = record {
        node = stands.reference.node;
        within = keeps_placed f.trees (Once-forest f laws.once laws.only) (name_at f.names node) (name_at f.names parent)
            (option_map (name_at f.names) before) (Has-forest f laws.once node at_node) (Has-forest f laws.once parent at_parent) root apart
            (name_at f.names i.root) (name_at f.names i.reference) stands.reference.within;
      };
    }

pub returns-clause-kept : goal.returns-clause-kept
returns-clause-kept c = λ i f names above stands.
    let was = c.args.forest.now in
    record {
      root = subst (λ (ns : List NodeName). i.root < length ns) (sym names) stands.root;
      reference = record {
        node = subst (λ (ns : List NodeName). i.reference < length ns) (sym names) stands.reference.node;
        within = subst (λ (ns : List NodeName). is_inclusive_ancestor f.trees (name_at ns i.root) (name_at ns i.reference) ≡ true) (sym names)
            (ap (is_in name_eq (name_at was.names i.root)) (above (name_at was.names i.reference)) ∙ stands.reference.within);
      };
    }
