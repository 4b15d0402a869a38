use Rattle.dom_traversal.proofs.Cited.{◌≡◌, true, ◌∷◌, refl, sym, ap, ◌∙◌, and_from, option_map, above-within, Has-forest, is_inclusive_ancestor}
use Rattle.dom_traversal.proofs.Cited.{IsWithin-forest, IsWithin-itself, name_at, NodeName, none_left, filter_of, is_entered}
use Rattle.dom_traversal.proofs.Backward.{alone, descends}
use Rattle.dom_traversal.proofs.filter.Filter.lowest.Goals as goal

pub returns-in_default-clause-ends : goal.returns-in_default-clause-ends
returns-in_default-clause-ends c = λ _.
    let f = c.args.forest.now in
    let x = name_at f.names c.loop-at.at in
    let own = IsWithin-itself f c.law_nodes_stand_once.ensures.once c.law_nodes_stand_once.ensures.only c.loop-at.at c.loop-at.invariant.node in
    alone f.trees x x own (sym c.last.ensures.value ∙ ap (option_map (name_at f.names)) (none_left c.last.result c.in_default.not-Some))

pub loop-at-smaller : goal.loop-at-smaller
loop-at-smaller c =
    let f = c.args.forest.now in
    let x = name_at f.names c.loop-at.at in
    let own = IsWithin-itself f c.law_nodes_stand_once.ensures.once c.law_nodes_stand_once.ensures.only c.loop-at.at c.loop-at.invariant.node in
    (descends f.trees x x (name_at f.names c.in-Some.last) own (sym c.in-Some.ensures.value)).smaller

pub loop-at-preserved : goal.loop-at-preserved
loop-at-preserved c =
    let f = c.args.forest.now in
    let x = name_at f.names c.loop-at.at in
    let last = name_at f.names c.in-Some.last in
    let own = IsWithin-itself f c.law_nodes_stand_once.ensures.once c.law_nodes_stand_once.ensures.only c.loop-at.at c.loop-at.invariant.node in
    let down = descends f.trees x x last own (sym c.in-Some.ensures.value) in
    let in_top = λ (top : NodeName) (above : is_inclusive_ancestor f.trees top (name_at f.names c.args.key) ≡ true). descends f.trees top x last
    (IsWithin-forest f c.law_nodes_stand_once.ensures.once c.law_nodes_stand_once.ensures.only
    (Has-forest f c.law_nodes_stand_once.ensures.once c.loop-at.at c.loop-at.invariant.node) (c.loop-at.invariant.within top above))
    (sym c.in-Some.ensures.value) in
    record {
      node = c.in-Some.ensures.node c.in-Some.last refl;
      within = λ top above. above-within f.trees top last (in_top top above).within;
      tree = λ top above. (in_top top above).tree ∙ c.loop-at.invariant.tree top above;
      path = (
        x ∷ c.loop-at.invariant.path.0,
        down.path ∙ ap (λ xs. x ∷ xs) c.loop-at.invariant.path.1,
        and_from (is_entered f.trees (filter_of c.args.self.now) c.args.through x) _ (sym c.loop-at-test.ensures) c.loop-at.invariant.path.2,
      );
    }
